-- Where a line ends, and what its fields hold where the line holds text without a line feed or a carriage return.
use Rattle.std.specs.Prelude.{None, Option, Some, option_map}
use Prim.Native.Nat.{ℕ}
use mathlib.Core.Path.{◌≡◌, refl, sym, ◌∙◌, ap}
use mathlib.Core.Bool.{Bool, true, false, not}
use mathlib.Core.List.{List, [], ◌∷◌, ◌++◌}
use native.Mathlib.Omega.{arith}
use lib.Dec.{eqb}
use borrow.Author.Tests.{ne_eqb}
use Rattle.base.specs.Bytes.{Bytes, both, either, all}
use Rattle.base.proofs.Split.{by_eq, no, both_left, both_right, both_of, both_no_right, same_test, both_true}
use Rattle.base.proofs.Lists.{all_append, all_left, all_right, all_nil, all_cons, all_head, all_tail}
use Rattle.text.specs.Char.{xml_char}
use Rattle.text.specs.Check.{is_text}
use Rattle.text.specs.Escape.{breaks}
use Rattle.text.proofs.Escapes.{line_breaks, return_breaks}
use Rattle.text.proofs.Texts.{all_imp, text_ascii, text_cut}
use Rattle.text.proofs.Theorem.{text_nil}
use Rattle.line.specs.Line.{plain_field, fields, tabbed}
use Rattle.line.proofs.Lines.{lacks, lacks_head, lacks_tail, plain_nil, plain_cons, plain_lacks, fields_lack, tabbed_fields}
use Rattle.event.specs.Event.{unended, legal_line}
use Rattle.event.specs.Legal.{legal_field}

-- ---- where a line ends

-- a line is read as its first byte b before what is read of the others
record Onto (b : ℕ) (o : Option Bytes) (t : Bytes) : Type 0 where
  rest : Bytes
  then : o ≡ Some rest
  whole : t ≡ b ∷ rest

onto : (b : ℕ) (o : Option Bytes) (t : Bytes) → option_map (b ∷◌) o ≡ Some t → Onto b o t
onto b None t e = no (cc)
onto b (Some u) t e = record { rest = u; then = refl; whole = cc }

pub unended_line : (t : Bytes) → unended (t ++ (10 ∷ [])) ≡ Some t
unfolding unended
unended_line [] = refl
unended_line (b ∷ []) = refl
unended_line (b ∷ d ∷ t) = rw (unended_line (d ∷ t))

pub unended_some : (s t : Bytes) → unended s ≡ Some t → s ≡ t ++ (10 ∷ [])
unfolding unended
unended_some [] t e = no (cc)
unended_some (b ∷ []) t e =
    by_eq b 10
    (λ q. let z : Some [] ≡ Some t = rw q at e in cc)
    (λ n. let z : None ≡ Some t = rw (ne_eqb b 10 n) at e in no (cc))
unended_some (b ∷ d ∷ s) t e =
    let w = onto b (unended (d ∷ s)) t e in
    rw w.whole (ap (b ∷◌) (unended_some (d ∷ s) w.rest w.then))

-- ---- tests that hold of fields together exactly when they hold of each

pub record Cuts (p : Bytes → Bool) : Type 0 where
  pub nil : p [] ≡ true
  pub tab : (f g : Bytes) → p (f ++ (9 ∷ g)) ≡ both (p f) (p g)

cuts_all : (q : ℕ → Bool) → q 9 ≡ true → Cuts (all q)
cuts_all q t = record {
  nil = all_nil q;
  tab = λ f g. same_test _ _
      (λ h. both_of (all_left q f (9 ∷ g) h) (all_tail q 9 g (all_right q f (9 ∷ g) h)))
      (λ h. all_append q f (9 ∷ g) (both_left _ _ h) (all_cons q 9 g t (both_right _ _ h)));
}

text_tab : (g : Bytes) → is_text (9 ∷ g) ≡ is_text g
unfolding xml_char both either
text_tab g = text_ascii 9 g (omega arith)

cuts_text : Cuts is_text
cuts_text = record { nil = text_nil; tab = λ f g. text_cut f g 9 (omega arith) ∙ ap (both (is_text f)) (text_tab g) }

crossed : (a b c d : Bool) → both (both a b) (both c d) ≡ both (both a c) (both b d)
unfolding both
crossed false b c d = refl
crossed true b false d = both_no_right b refl
crossed true true true d = refl
crossed true false true d = refl

cuts_both : {p q : Bytes → Bool} → Cuts p → Cuts q → Cuts (λ t. both (p t) (q t))
cuts_both {p} {q} x y = record { nil = both_of x.nil y.nil; tab = λ f g. rw (x.tab f g, y.tab f g) (crossed (p f) (p g) (q f) (q g)) }

pub tabbed_test : {p : Bytes → Bool} → Cuts p → (fs : List Bytes) → p (tabbed fs) ≡ all p fs
unfolding tabbed all
tabbed_test x [] = x.nil
tabbed_test {p} x (f ∷ []) = sym (both_true (p f))
tabbed_test {p} x (f ∷ g ∷ fs) = x.tab f (tabbed (g ∷ fs)) ∙ ap (both (p f)) (tabbed_test x (g ∷ fs))

-- ---- a line without its line feed

-- legal, and no line feed inside
unfoldable pub unbroken : Bytes → Bool
unbroken t = both (legal_line t) (all (λ b. not (eqb b 10)) t)

cuts_unbroken : Cuts unbroken
unfolding unbroken legal_line
cuts_unbroken = cuts_both (cuts_both cuts_text (cuts_all _ refl)) (cuts_all _ refl)

plain_of : (f : Bytes) → lacks 9 f ≡ true → lacks 10 f ≡ true → lacks 13 f ≡ true → plain_field f ≡ true
unfolding breaks either
plain_of [] t l r = plain_nil
plain_of (b ∷ f) t l r =
    plain_cons b f
    (rw (ne_eqb b 9 (lacks_head 9 b f t), ne_eqb b 10 (lacks_head 10 b f l), ne_eqb b 13 (lacks_head 13 b f r)))
    (plain_of f (lacks_tail 9 b f t) (lacks_tail 10 b f l) (lacks_tail 13 b f r))

-- a field without a tab is legal where it is legal as a line, and a legal field is a legal line
field_legal : (f : Bytes) → lacks 9 f ≡ true → unbroken f ≡ true → legal_field f ≡ true
unfolding unbroken legal_line legal_field lacks
field_legal f t h =
    let l = both_left _ _ h in
    both_of (plain_of f t (both_right _ _ h) (both_right _ _ l)) (both_left _ _ l)

field_unbroken : (f : Bytes) → legal_field f ≡ true → unbroken f ≡ true
unfolding unbroken legal_line legal_field lacks
field_unbroken f h =
    let p = both_left _ _ h in
    both_of (both_of (both_right _ _ h) (plain_lacks 13 return_breaks f p)) (plain_lacks 10 line_breaks f p)

each_legal : (fs : List Bytes) → all (lacks 9) fs ≡ true → all unbroken fs ≡ true → all legal_field fs ≡ true
each_legal [] t h = all_nil legal_field
each_legal (f ∷ fs) t h =
    all_cons legal_field f fs
    (field_legal f (all_head (lacks 9) f fs t) (all_head unbroken f fs h))
    (each_legal fs (all_tail (lacks 9) f fs t) (all_tail unbroken f fs h))

-- the fields of a legal line are legal
pub fields_legal : (t : Bytes) → unbroken t ≡ true → all legal_field (fields t) ≡ true
fields_legal t h = each_legal (fields t) (fields_lack t) (sym (tabbed_test cuts_unbroken (fields t)) ∙ ap unbroken (tabbed_fields t) ∙ h)

-- and legal fields make a legal line
pub tabbed_legal : (fs : List Bytes) → all legal_field fs ≡ true → unbroken (tabbed fs) ≡ true
tabbed_legal fs h = tabbed_test cuts_unbroken fs ∙ all_imp legal_field unbroken field_unbroken fs h
