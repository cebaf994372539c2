-- The line is told from any other: its number, line and HELD are read back, where it ends is known, and no listing begins with it.
use Prim.Native.Nat.{ℕ, ◌<◌}
use mathlib.Core.Path.{◌≡◌, refl, sym, ◌∙◌, ap}
use mathlib.Core.Bool.{true}
use mathlib.Core.List.{[], ◌∷◌, ◌++◌, append_assoc}
use mathlib.Core.Logic.{◌↔◌}
use native.Mathlib.Omega.{arith}
use lib.IntN.{ℤ, pos}
use lib.ListN.{get_or}
use borrow.Author.Tests.{eq-eqb, ne_eqb}
use Rattle.base.specs.Ascii.{ascii}
use Rattle.base.specs.Bytes.{Bytes, all, both, either, is_digit}
use Rattle.base.proofs.Split.{by_eq}
use Rattle.base.proofs.Lists.{all_cons, all_nil}
use Rattle.text.specs.Escape.{breaks}
use Rattle.refusal.specs.Refusal.{number_of, held_of}
use Rattle.refusal.specs.declared.Refusal.{Refusal}
use Rattle.refusal.specs.declared.Refusal.TheVariants.{Size, LongLine, NotText, NotEventLine, Misplaced, OutsideSection, Missing, NotInteger, NotTimestamp, CoordinateRange, MemberType, Regression, StringsFull, IdsFull, ArenaFull, TooManyParts, BadRecord, Unfinished, ShortOutput, NotInOrder, NoSuchNumber, Unsound, NotDegrees, BothForms, NotMarkup, UnmatchedEndTag}
use Rattle.line.specs.Line.{plain_field, tabbed, line}
use Rattle.line.specs.Decimal.{digits_before, number_text, integer_text}
use Rattle.line.proofs.Lines.{line_code}
use Rattle.line.proofs.Decimals.{number_plain, number_injective, integer_plain, integer_injective, never_alone}
use Rattle.kind.specs.declared.Kind.{Kind}
use Rattle.kind.specs.declared.Kind.TheVariants.{Node, Way, Relation}
use Rattle.listing_page.specs.Summary.{PageRow, Table}
use Rattle.listing_page.specs.Listing.{kind_field, row_fields, listing}
use Rattle.roadlist_report.specs.Report.{held_field, refused_fields, refused_line}

-- ---- numbers

-- each number has at most two digits, and each refusal but 12 holds no version
pub numbered : (r : Refusal) → (number_of r < 100) × ((number_of r ≡ 12 → ⊥) → held_of r ≡ pos 0)
numbered Size = (omega arith, λ n. refl)
numbered LongLine = (omega arith, λ n. refl)
numbered NotText = (omega arith, λ n. refl)
numbered NotEventLine = (omega arith, λ n. refl)
numbered Misplaced = (omega arith, λ n. refl)
numbered OutsideSection = (omega arith, λ n. refl)
numbered Missing = (omega arith, λ n. refl)
numbered NotInteger = (omega arith, λ n. refl)
numbered NotTimestamp = (omega arith, λ n. refl)
numbered CoordinateRange = (omega arith, λ n. refl)
numbered MemberType = (omega arith, λ n. refl)
numbered (Regression v) = (omega arith, λ n. absurd (n refl))
numbered StringsFull = (omega arith, λ n. refl)
numbered IdsFull = (omega arith, λ n. refl)
numbered ArenaFull = (omega arith, λ n. refl)
numbered TooManyParts = (omega arith, λ n. refl)
numbered BadRecord = (omega arith, λ n. refl)
numbered Unfinished = (omega arith, λ n. refl)
numbered ShortOutput = (omega arith, λ n. refl)
numbered NotInOrder = (omega arith, λ n. refl)
numbered NoSuchNumber = (omega arith, λ n. refl)
numbered Unsound = (omega arith, λ n. refl)
numbered NotDegrees = (omega arith, λ n. refl)
numbered BothForms = (omega arith, λ n. refl)
numbered NotMarkup = (omega arith, λ n. refl)
numbered UnmatchedEndTag = (omega arith, λ n. refl)

-- 12 is the number of a regression alone
pub not_12 : (r : Refusal) → ((v : ℤ) → r ≡ Regression v → ⊥) → number_of r ≡ 12 → ⊥
not_12 Size n e = omega arith
not_12 LongLine n e = omega arith
not_12 NotText n e = omega arith
not_12 NotEventLine n e = omega arith
not_12 Misplaced n e = omega arith
not_12 OutsideSection n e = omega arith
not_12 Missing n e = omega arith
not_12 NotInteger n e = omega arith
not_12 NotTimestamp n e = omega arith
not_12 CoordinateRange n e = omega arith
not_12 MemberType n e = omega arith
not_12 (Regression v) n e = n v refl
not_12 StringsFull n e = omega arith
not_12 IdsFull n e = omega arith
not_12 ArenaFull n e = omega arith
not_12 TooManyParts n e = omega arith
not_12 BadRecord n e = omega arith
not_12 Unfinished n e = omega arith
not_12 ShortOutput n e = omega arith
not_12 NotInOrder n e = omega arith
not_12 NoSuchNumber n e = omega arith
not_12 Unsound n e = omega arith
not_12 NotDegrees n e = omega arith
not_12 BothForms n e = omega arith
not_12 NotMarkup n e = omega arith
not_12 UnmatchedEndTag n e = omega arith

-- ---- HELD

pub held_known : (r : Refusal) → number_of r ≡ 12 → held_field r ≡ integer_text (held_of r)
unfolding held_field
held_known r e = rw (eq-eqb (number_of r) 12 e)

pub held_none : (r : Refusal) → (number_of r ≡ 12 → ⊥) → held_field r ≡ 45 ∷ []
unfolding held_field
held_none r n = rw (ne_eqb (number_of r) 12 n)

-- HELD is `-` for each refusal but 12, and only there
pub held_exactly : (r : Refusal) → (held_field r ≡ 45 ∷ []) ↔ (number_of r ≡ 12 → ⊥)
unfolding is_digit both
held_exactly r = ((λ h e. never_alone (held_of r) 45 refl (sym (held_known r e) ∙ h)), held_none r)

held_plain : (r : Refusal) → plain_field (held_field r) ≡ true
unfolding plain_field all both breaks either
held_plain r =
    by_eq (number_of r) 12
    (λ e. rw (held_known r e) (integer_plain (held_of r)))
    (λ n. rw (held_none r n))

held_told : (r s : Refusal) → number_of r ≡ number_of s → held_field r ≡ held_field s → held_of r ≡ held_of s
held_told r s e h =
    by_eq (number_of r) 12
    (λ n. integer_injective (held_of r) (held_of s) (sym (held_known r n) ∙ (h ∙ held_known s (sym e ∙ n))))
    (λ n. (numbered r).1 n ∙ sym ((numbered s).1 (λ m. n (e ∙ m))))

-- ---- the line

word_plain : plain_field (ascii "refused") ≡ true
unfolding plain_field all both breaks either
word_plain = refl

module _ (r : Refusal) (n : ℕ) where
  fields_plain : all plain_field (refused_fields r n) ≡ true
  fields_plain =
      all_cons plain_field _ _ word_plain
      (all_cons plain_field _ _ (number_plain (number_of r))
      (all_cons plain_field _ _ (number_plain n)
      (all_cons plain_field _ _ (held_plain r) (all_nil plain_field))))

-- number, held version and line are told from it, whatever follows, and so is where it ends
pub refused_told : (r s : Refusal) (m n : ℕ) (x y : Bytes) → refused_line r m ++ x ≡ refused_line s n ++ y
    → (number_of r ≡ number_of s) × ((held_of r ≡ held_of s) × ((m ≡ n) × (x ≡ y)))
unfolding refused_line
refused_told r s m n x y e =
    let w = line_code (ascii "refused") (ascii "refused") _ _ x y (fields_plain r m) (fields_plain s n) e in
    let f : refused_fields r m ≡ refused_fields s n = w.0 in
    let a : number_of r ≡ number_of s = number_injective (number_of r) (number_of s) (cc) in
    (a, (held_told r s a (cc), (number_injective m n (cc), w.1)))

-- ---- a listing

-- every line of a listing begins with its kind and a tab: `n⇥`, `w⇥` or `r⇥`
pub row_begins : (row : PageRow) → (rest : Bytes) × (line (row_fields row) ≡ kind_field row.key.kind ++ (9 ∷ rest))
unfolding line row_fields tabbed
row_begins row = (_, append_assoc (kind_field row.key.kind) _ (10 ∷ []))

second : (k : Kind) (rest x : Bytes) → get_or (kind_field k ++ (9 ∷ rest) ++ x) 1 0 ≡ 9
unfolding kind_field
second Node rest x = refl
second Way rest x = refl
second Relation rest x = refl

refused_second : (r : Refusal) (n : ℕ) (x : Bytes) → get_or (refused_line r n ++ x) 1 0 ≡ 101
unfolding refused_line line tabbed
refused_second r n x = refl

-- so no listing begins with a refused line
pub no_listing : (t : Table) (r : Refusal) (n : ℕ) (x : Bytes) → listing t ≡ refused_line r n ++ x → ⊥
unfolding listing
no_listing [] r n x e = let z : ◌≡◌ {A = ℕ} 0 101 = ap (λ (u : Bytes). get_or u 1 0) e ∙ refused_second r n x in omega arith
no_listing (row ∷ rows) r n x e =
    let b = row_begins row in
    let z : ◌≡◌ {A = ℕ} 9 101 =
    sym (second row.key.kind b.0 (listing rows)) ∙ (ap (λ (u : Bytes). get_or (u ++ listing rows) 1 0) (sym b.1) ∙ (ap (λ (u : Bytes). get_or u 1 0) e ∙ refused_second r n x)) in
    omega arith

-- ---- two lines: an input that ends before its level is Done, and a version below the known one, 4

pub of_nothing : refused_line Unfinished 1 ≡ ascii "refused" ++ (9 ∷ 49 ∷ 56 ∷ 9 ∷ 49 ∷ 9 ∷ 45 ∷ 10 ∷ [])
unfolding refused_line line tabbed held_field number_text digits_before
of_nothing = refl

pub of_regression : refused_line (Regression (pos 4)) 3 ≡ ascii "refused" ++ (9 ∷ 49 ∷ 50 ∷ 9 ∷ 51 ∷ 9 ∷ 52 ∷ 10 ∷ [])
unfolding refused_line line tabbed held_field integer_text number_text digits_before
of_regression = refl
