-- Lines can be read back: the fields of a line, and where it ends.
use Prim.Native.Nat.{ℕ}
use mathlib.Core.Path.{◌≡◌, refl, sym, ◌∙◌, ap}
use mathlib.Core.Bool.{Bool, true, false, not}
use mathlib.Core.List.{List, [], ◌∷◌, ◌++◌, append_assoc, cons≢nil}
use native.Mathlib.Omega.{arith}
use lib.Dec.{eqb}
use borrow.Author.Tests.{eqb-false, eq-eqb, ne_eqb, not-true}
use Rattle.base.specs.Bytes.{Bytes, all}
use Rattle.base.proofs.Split.{by_eq, clash}
use Rattle.base.proofs.Lists.{all_append, all_cons, all_head, all_nil, all_tail}
use Rattle.text.specs.Escape.{breaks}
use Rattle.text.proofs.Escapes.{spans, tab_breaks, line_breaks}
use Rattle.line.specs.Line.{plain_field, onto, fields, tabbed, line}

-- ---- a byte that a run of bytes lacks

unfoldable pub lacks : ℕ → Bytes → Bool
lacks c f = all (λ b. not (eqb b c)) f

module _ (c : ℕ) where
  pub lacks_nil : lacks c [] ≡ true
  unfolding lacks
  lacks_nil = all_nil _

  pub lacks_cons : (b : ℕ) (f : Bytes) → (b ≡ c → ⊥) → lacks c f ≡ true → lacks c (b ∷ f) ≡ true
  unfolding lacks
  lacks_cons b f n h = all_cons _ b f (rw (ne_eqb b c n)) h

  pub lacks_head : (b : ℕ) (f : Bytes) → lacks c (b ∷ f) ≡ true → b ≡ c → ⊥
  unfolding lacks
  lacks_head b f h = eqb-false b c (not-true _ (all_head _ b f h))

  pub lacks_tail : (b : ℕ) (f : Bytes) → lacks c (b ∷ f) ≡ true → lacks c f ≡ true
  unfolding lacks
  lacks_tail b f h = all_tail _ b f h

  pub lacks_append : (f g : Bytes) → lacks c f ≡ true → lacks c g ≡ true → lacks c (f ++ g) ≡ true
  unfolding lacks
  lacks_append f g h k = all_append _ f g h k

  -- what stands before the first c, and after it
  pub parts : (x y r s : Bytes) → lacks c x ≡ true → lacks c y ≡ true → x ++ (c ∷ r) ≡ y ++ (c ∷ s) → (x ≡ y) × (r ≡ s)
  unfolding lacks
  parts x y r s h k e =
      let own : not (eqb c c) ≡ false = rw (eq-eqb c c refl) in
      let w = spans (λ b. not (eqb b c)) x y c c r s h k own own e in
      (w.0, w.1.1)

-- ---- plain fields

pub plain_nil : plain_field [] ≡ true
unfolding plain_field
plain_nil = all_nil _

pub plain_cons : (b : ℕ) (f : Bytes) → breaks b ≡ false → plain_field f ≡ true → plain_field (b ∷ f) ≡ true
unfolding plain_field
plain_cons b f n h = all_cons _ b f (rw n) h

-- a plain field lacks each byte that breaks a line: tab, line feed, carriage return
pub plain_lacks : (c : ℕ) → breaks c ≡ true → (f : Bytes) → plain_field f ≡ true → lacks c f ≡ true
unfolding plain_field
plain_lacks c t [] h = lacks_nil c
plain_lacks c t (b ∷ f) h =
    lacks_cons c b f
    (λ e. clash {t = breaks b} (rw e t) (not-true (breaks b) (all_head _ b f h)))
    (plain_lacks c t f (all_tail _ b f h))

all_lack : (c : ℕ) → breaks c ≡ true → (fs : List Bytes) → all plain_field fs ≡ true → all (lacks c) fs ≡ true
all_lack c t [] h = all_nil (lacks c)
all_lack c t (f ∷ fs) h = all_cons (lacks c) f fs (plain_lacks c t f (all_head plain_field f fs h)) (all_lack c t fs (all_tail plain_field f fs h))

-- ---- fields that tabs part

fields_one : (f : Bytes) → lacks 9 f ≡ true → fields f ≡ f ∷ []
unfolding fields onto
fields_one [] h = refl
fields_one (b ∷ f) h = rw (ne_eqb b 9 (lacks_head 9 b f h), fields_one f (lacks_tail 9 b f h))

fields_tab : (f s : Bytes) → lacks 9 f ≡ true → fields (f ++ (9 ∷ s)) ≡ f ∷ fields s
unfolding fields onto
fields_tab [] s h = refl
fields_tab (b ∷ f) s h = rw (ne_eqb b 9 (lacks_head 9 b f h), fields_tab f s (lacks_tail 9 b f h))

-- one or more fields without a tab are read back
pub fields_tabbed : (f : Bytes) (fs : List Bytes) → all (lacks 9) (f ∷ fs) ≡ true → fields (tabbed (f ∷ fs)) ≡ f ∷ fs
unfolding tabbed
fields_tabbed f [] h = fields_one f (all_head (lacks 9) f [] h)
fields_tabbed f (g ∷ fs) h =
    fields_tab f (tabbed (g ∷ fs)) (all_head (lacks 9) f (g ∷ fs) h)
    ∙ ap (f ∷◌) (fields_tabbed g fs (all_tail (lacks 9) f (g ∷ fs) h))

onto_lacks : (b : ℕ) (fs : List Bytes) → (b ≡ 9 → ⊥) → all (lacks 9) fs ≡ true → all (lacks 9) (onto b fs) ≡ true
unfolding onto
onto_lacks b [] n h = all_cons (lacks 9) _ [] (lacks_cons 9 b [] n (lacks_nil 9)) h
onto_lacks b (f ∷ fs) n h =
    all_cons (lacks 9) (b ∷ f) fs (lacks_cons 9 b f n (all_head (lacks 9) f fs h)) (all_tail (lacks 9) f fs h)

-- the fields of a text have no tab
pub fields_lack : (s : Bytes) → all (lacks 9) (fields s) ≡ true
unfolding fields
fields_lack [] = all_cons (lacks 9) [] [] (lacks_nil 9) (all_nil (lacks 9))
fields_lack (b ∷ s) =
    by_eq b 9
    (λ e. rw (eq-eqb b 9 e) (all_cons (lacks 9) [] (fields s) (lacks_nil 9) (fields_lack s)))
    (λ n. rw (ne_eqb b 9 n) (onto_lacks b (fields s) n (fields_lack s)))

-- there is at least one
pub fields_some : (s : Bytes) → (f : Bytes) × ((fs : List Bytes) × (fields s ≡ f ∷ fs))
unfolding fields onto
fields_some [] = ([], ([], refl))
fields_some (b ∷ s) =
    by_eq b 9
    (λ e. ([], (fields s, rw (eq-eqb b 9 e))))
    (λ n. let r = fields_some s in (b ∷ r.0, (r.1.0, rw (ne_eqb b 9 n, r.1.1))))

tabbed_onto : (b : ℕ) (fs : List Bytes) → tabbed (onto b fs) ≡ b ∷ tabbed fs
unfolding tabbed onto
tabbed_onto b [] = refl
tabbed_onto b (f ∷ []) = refl
tabbed_onto b (f ∷ g ∷ fs) = refl

-- and together they are the text
pub tabbed_fields : (s : Bytes) → tabbed (fields s) ≡ s
unfolding fields tabbed
tabbed_fields [] = refl
tabbed_fields (b ∷ s) =
    let r = fields_some s in
    let ih : tabbed (r.0 ∷ r.1.0) ≡ s = rw (← r.1.1) (tabbed_fields s) in
    by_eq b 9
    (λ e. rw (eq-eqb b 9 e, r.1.1, ih, e))
    (λ n. rw (ne_eqb b 9 n) (tabbed_onto b (fields s) ∙ ap (b ∷◌) (tabbed_fields s)))

-- ---- lines

tabbed_lacks : (c : ℕ) → (9 ≡ c → ⊥) → (fs : List Bytes) → all (lacks c) fs ≡ true → lacks c (tabbed fs) ≡ true
unfolding tabbed
tabbed_lacks c n [] h = lacks_nil c
tabbed_lacks c n (f ∷ []) h = all_head (lacks c) f [] h
tabbed_lacks c n (f ∷ g ∷ fs) h =
    lacks_append c f _ (all_head (lacks c) f (g ∷ fs) h)
    (lacks_cons c 9 _ n (tabbed_lacks c n (g ∷ fs) (all_tail (lacks c) f (g ∷ fs) h)))

-- a line of plain fields holds no line feed but its last byte
pub line_body : (fs : List Bytes) → all plain_field fs ≡ true → lacks 10 (tabbed fs) ≡ true
line_body fs h = tabbed_lacks 10 (λ e. omega arith) fs (all_lack 10 line_breaks fs h)

-- the fields of a line of plain fields are read back
pub fields_line : (f : Bytes) (fs : List Bytes) → all plain_field (f ∷ fs) ≡ true → fields (tabbed (f ∷ fs)) ≡ f ∷ fs
fields_line f fs h = fields_tabbed f fs (all_lack 9 tab_breaks (f ∷ fs) h)

pub line_ends : (fs : List Bytes) (r : Bytes) → line fs ++ r ≡ tabbed fs ++ (10 ∷ r)
unfolding line
line_ends fs r = append_assoc (tabbed fs) (10 ∷ []) r

-- lines are a prefix code: where a line ends, and what it holds, can be told from the bytes alone
pub line_code : (f g : Bytes) (fs gs : List Bytes) (r s : Bytes) → all plain_field (f ∷ fs) ≡ true → all plain_field (g ∷ gs) ≡ true
    → line (f ∷ fs) ++ r ≡ line (g ∷ gs) ++ s → (f ∷ fs ≡ g ∷ gs) × (r ≡ s)
line_code f g fs gs r s h k e =
    let p = parts 10 (tabbed (f ∷ fs)) (tabbed (g ∷ gs)) r s (line_body (f ∷ fs) h) (line_body (g ∷ gs) k) (sym (line_ends (f ∷ fs) r) ∙ e ∙ line_ends (g ∷ gs) s) in
    (sym (fields_line f fs h) ∙ ap fields p.0 ∙ fields_line g gs k, p.1)

-- a line is not empty
pub line_some : (fs : List Bytes) (r : Bytes) → line fs ++ r ≡ [] → ⊥
line_some fs r e = go (tabbed fs) (sym (line_ends fs r) ∙ e)
  where
    go : (t : Bytes) → t ++ (10 ∷ r) ≡ [] → ⊥
    go [] q = cons≢nil q
    go (b ∷ t) q = cons≢nil q
