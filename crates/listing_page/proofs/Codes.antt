-- Each writer of fields is a code: its fields are plain, and what it wrote, and where that ends, can be told from them.
use Rattle.std.specs.Prelude.{None, Option, Some, ℤ}
use Prim.Native.Nat.{ℕ}
use mathlib.Core.Path.{◌≡◌, refl, sym, ◌∙◌, ap}
use mathlib.Core.Bool.{true, false}
use mathlib.Core.List.{List, [], ◌∷◌, ◌++◌, append_assoc, head-eq_of_cons-eq, tail-eq_of_cons-eq}
use native.Mathlib.Omega.{arith}
use lib.Dec.{eqb}
use lib.ListN.{length}
use borrow.Author.Tests.{eqb-false}
use Rattle.base.specs.Bytes.{Bytes, all, is_digit, both, either}
use Rattle.base.proofs.Split.{no}
use Rattle.base.proofs.Lists.{all_append, all_cons, all_nil}
use Rattle.text.specs.Escape.{escape, breaks}
use Rattle.text.proofs.Escapes.{escape_clean, escape_injective}
use Rattle.line.specs.Line.{plain_field}
use Rattle.line.specs.Decimal.{number_text, integer_text}
use Rattle.line.proofs.Decimals.{number_plain, number_injective, integer_plain, integer_injective, never_alone}
use Rattle.kind.specs.Kind.{kind_number}
use Rattle.kind.specs.declared.Kind.{Kind}
use Rattle.kind.specs.declared.Kind.TheVariants.{Node, Way, Relation}
use Rattle.model.specs.Record.{Body, place, refs, members, Record, kind_of}
use Rattle.model.specs.Act.{Left, gone, live}
use Rattle.model.proofs.Keys.{same_kind_lem}
use Rattle.listing_page.specs.Summary.{PageRow}
use Rattle.listing_page.specs.Listing.{kind_field, version_field, each, counted, ref_fields, member_fields, tag_fields, meta_fields, body_fields, record_fields, sign_field, last_fields, row_fields}

-- the fields of a are told from those of b, whatever follows
abbrev pub Separates : {A : Type 0} → (A → List Bytes) → A → A → Type 0
Separates f a b = (r s : List Bytes) → f a ++ r ≡ f b ++ s → (a ≡ b) × (r ≡ s)

pub record Code {A : Type 0} (f : A → List Bytes) : Type 0 where
  pub all_plain : (a : A) → all plain_field (f a) ≡ true
  pub separates : (a b : A) → Separates f a b

-- ---- codes of one field

-- a plain field from which what it writes can be told
pub one : {A : Type 0} (w : A → Bytes) → ((a : A) → plain_field (w a) ≡ true) → ((a b : A) → w a ≡ w b → a ≡ b) → Code (λ a. w a ∷ [])
one w p i = record {
  all_plain = λ a. all_cons plain_field (w a) [] (p a) (all_nil plain_field);
  separates = λ a b r s e. (i a b (head-eq_of_cons-eq e), tail-eq_of_cons-eq e);
}

pub number_code : Code (λ n. number_text n ∷ [])
number_code = one number_text number_plain number_injective

pub integer_code : Code (λ z. integer_text z ∷ [])
integer_code = one integer_text integer_plain integer_injective

pub escape_plain : (t : Bytes) → plain_field (escape t) ≡ true
unfolding plain_field
escape_plain t = escape_clean t

pub text_code : Code (λ t. escape t ∷ [])
text_code = one escape escape_plain escape_injective

-- two fields whose first bytes differ: `apart refl e`
apart : {C : Type 0} {m n : ℕ} {x y : Bytes} → eqb m n ≡ false → Path Bytes (m ∷ x) (n ∷ y) → C
apart {m} {n} t e = absurd (eqb-false m n t (head-eq_of_cons-eq e))

kind_plain : (k : Kind) → plain_field (kind_field k) ≡ true
unfolding kind_field plain_field all both breaks either
kind_plain Node = refl
kind_plain Way = refl
kind_plain Relation = refl

kind_injective : (j k : Kind) → kind_field j ≡ kind_field k → j ≡ k
unfolding kind_field
kind_injective Node Node e = refl
kind_injective Node Way e = apart refl e
kind_injective Node Relation e = apart refl e
kind_injective Way Node e = apart refl e
kind_injective Way Way e = refl
kind_injective Way Relation e = apart refl e
kind_injective Relation Node e = apart refl e
kind_injective Relation Way e = apart refl e
kind_injective Relation Relation e = refl

pub kind_code : Code (λ k. kind_field k ∷ [])
kind_code = one kind_field kind_plain kind_injective

version_plain : (v : Option ℤ) → plain_field (version_field v) ≡ true
unfolding version_field plain_field all both breaks either
version_plain None = refl
version_plain (Some v) = integer_plain v

-- `?` is no integer
version_injective : (u v : Option ℤ) → version_field u ≡ version_field v → u ≡ v
unfolding version_field is_digit both
version_injective None None e = refl
version_injective None (Some y) e = absurd (never_alone y 63 refl (sym e))
version_injective (Some x) None e = absurd (never_alone x 63 refl e)
version_injective (Some x) (Some y) e = ap Some (integer_injective x y e)

pub version_code : Code (λ v. version_field v ∷ [])
version_code = one version_field version_plain version_injective

-- ---- counted lists

module _ {A : Type 0} (f : A → List Bytes) (c : Code f) where
  each_plain : (xs : List A) → all plain_field (each f xs) ≡ true
  unfolding each
  each_plain [] = all_nil plain_field
  each_plain (a ∷ xs) = all_append plain_field (f a) (each f xs) (c.all_plain a) (each_plain xs)

  each_separates : (xs ys : List A) (r s : List Bytes) → length xs ≡ length ys → each f xs ++ r ≡ each f ys ++ s → (xs ≡ ys) × (r ≡ s)
  unfolding each
  each_separates [] [] r s l e = (refl, e)
  each_separates [] (y ∷ ys) r s l e = absurd (omega arith)
  each_separates (x ∷ xs) [] r s l e = absurd (omega arith)
  each_separates (x ∷ xs) (y ∷ ys) r s l e =
      let h = c.separates x y (each f xs ++ r) (each f ys ++ s) (simp append_assoc at e) in
      let ih = each_separates xs ys r s (omega arith) h.1 in
      (cc (h.0, ih.0), ih.1)

  pub counted_code : Code (counted f)
  unfolding counted all both
  counted_code = record {
    all_plain = λ xs. simp (number_plain, each_plain);
    separates = λ xs ys r s e.
        let h = number_code.separates (length xs) (length ys) (each f xs ++ r) (each f ys ++ s) e in
        each_separates xs ys r s h.0 h.1;
  }

-- ---- the parts of a record

pub member_code : Code member_fields
unfolding all both
member_code = record {
  all_plain = λ m. simp (number_plain, integer_plain, escape_plain);
  separates = λ a b r s e.
      let h1 = number_code.separates (kind_number a.type) (kind_number b.type) _ _ e in
      let h2 = integer_code.separates a.ref b.ref _ _ h1.1 in
      let h3 = text_code.separates a.role b.role r s h2.1 in
      let k = same_kind_lem a.type b.type h1.0 in
      (λ i. record { ref = h2.0 i; type = k i; role = h3.0 i }, h3.1);
}

pub tag_code : Code tag_fields
unfolding all both
tag_code = record {
  all_plain = λ t. simp escape_plain;
  separates = λ a b r s e.
      let h1 = text_code.separates a.key b.key _ _ e in
      let h2 = text_code.separates a.value b.value r s h1.1 in
      (λ i. record { key = h1.0 i; value = h2.0 i }, h2.1);
}

pub meta_code : Code meta_fields
unfolding all both
meta_code = record {
  all_plain = λ m. simp (number_plain, integer_plain, escape_plain);
  separates = λ a b r s e.
      let h1 = number_code.separates a.flags b.flags _ _ e in
      let h2 = integer_code.separates a.version b.version _ _ h1.1 in
      let h3 = integer_code.separates a.timestamp b.timestamp _ _ h2.1 in
      let h4 = integer_code.separates a.changeset b.changeset _ _ h3.1 in
      let h5 = integer_code.separates a.uid b.uid _ _ h4.1 in
      let h6 = text_code.separates a.user b.user r s h5.1 in
      (λ i. record { flags = h1.0 i; version = h2.0 i; timestamp = h3.0 i; changeset = h4.0 i; uid = h5.0 i; user = h6.0 i }, h6.1);
}

refs_code : Code (counted ref_fields)
refs_code = counted_code ref_fields integer_code

members_code : Code (counted member_fields)
members_code = counted_code member_fields member_code

tags_code : Code (counted tag_fields)
tags_code = counted_code tag_fields tag_code

-- ---- bodies, records and rows: what is written shows the kind of a row, and a body is told from others of its kind

pub body_plain : (b : Body Bytes) → all plain_field (body_fields b) ≡ true
unfolding body_fields all both
body_plain (place lat lon) = simp integer_plain
body_plain (refs rs) = refs_code.all_plain rs
body_plain (members ms) = members_code.all_plain ms

pub body_told : (a b : Body Bytes) → kind_of a ≡ kind_of b → Separates body_fields a b
unfolding body_fields
body_told (place x y) (place z w) k r s e =
    let h1 = integer_code.separates x z _ _ e in
    let h2 = integer_code.separates y w r s h1.1 in
    (cc (h1.0, h2.0), h2.1)
body_told (refs xs) (refs ys) k r s e = let h = refs_code.separates xs ys r s e in (ap refs h.0, h.1)
body_told (members xs) (members ys) k r s e = let h = members_code.separates xs ys r s e in (ap members h.0, h.1)
body_told (place x y) (refs ys) k r s e = no (cc)
body_told (place x y) (members ys) k r s e = no (cc)
body_told (refs xs) (place z w) k r s e = no (cc)
body_told (refs xs) (members ys) k r s e = no (cc)
body_told (members xs) (place z w) k r s e = no (cc)
body_told (members xs) (refs ys) k r s e = no (cc)

pub record_plain : (x : Record Bytes) → all plain_field (record_fields x) ≡ true
unfolding record_fields
record_plain x =
    all_append plain_field (meta_fields x.meta ++ body_fields x.body) (counted tag_fields x.tags)
    (all_append plain_field (meta_fields x.meta) (body_fields x.body) (meta_code.all_plain x.meta) (body_plain x.body))
    (tags_code.all_plain x.tags)

pub record_told : (a b : Record Bytes) → kind_of a.body ≡ kind_of b.body → Separates record_fields a b
unfolding record_fields
record_told a b k r s e =
    let h1 = meta_code.separates a.meta b.meta _ _ (simp append_assoc at e) in
    let h2 = body_told a.body b.body k _ _ h1.1 in
    let h3 = tags_code.separates a.tags b.tags r s h2.1 in
    (λ i. record { meta = h1.0 i; body = h2.0 i; tags = h3.0 i }, h3.1)

-- the record of a live row is of the row's kind
abbrev pub Fits : Kind → Left Bytes → Type 0
Fits k gone = Unit {0}
Fits k (live x) = kind_of x.body ≡ k

abbrev pub Fitting : PageRow → Type 0
Fitting r = Fits r.key.kind r.last

sign_plain : (l : Left Bytes) → plain_field (sign_field l) ≡ true
unfolding plain_field all both breaks either
sign_plain gone = refl
sign_plain (live x) = refl

last_plain : (l : Left Bytes) → all plain_field (last_fields l) ≡ true
last_plain gone = all_nil plain_field
last_plain (live x) = record_plain x

pub row_plain : (r : PageRow) → all plain_field (row_fields r) ≡ true
unfolding row_fields all both
row_plain r = simp (kind_plain, integer_plain, sign_plain, version_plain, last_plain)

pub row_told : (a b : PageRow) → Fitting a → Fitting b → Separates row_fields a b
unfolding row_fields
row_told a b f g r s e =
    let h1 = kind_code.separates a.key.kind b.key.kind _ _ e in
    let h2 = integer_code.separates a.key.id b.key.id _ _ h1.1 in
    let h3 = version_code.separates a.high b.high _ _ (tail-eq_of_cons-eq h2.1) in
    let h4 = go a.last b.last f (rw h1.0 g) (head-eq_of_cons-eq h2.1) h3.1 in
    (λ i. record { key = record { kind = h1.0 i; id = h2.0 i }; high = h3.0 i; last = h4.0 i }, h4.1)
  where
    go : (x y : Left Bytes) → Fits a.key.kind x → Fits a.key.kind y → sign_field x ≡ sign_field y → last_fields x ++ r ≡ last_fields y ++ s → (x ≡ y) × (r ≡ s)
    go gone gone p q t u = (refl, u)
    go gone (live y) p q t u = apart refl t
    go (live x) gone p q t u = apart refl t
    go (live x) (live y) p q t u = let h = record_told x y (p ∙ sym q) r s u in (ap live h.0, h.1)
