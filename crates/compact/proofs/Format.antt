-- A format: what is written is cut off again, and what is cut off was written. Formats of numbers, of runs of bytes and of counted lists.
use Rattle.std.specs.Prelude.{None, Option, Some}
use Prim.Native.Nat.{ℕ, zero, suc, ◌^◌, ◌<◌, ◌≤◌}
use mathlib.Core.Path.{◌≡◌, refl, sym, ◌∙◌, ap, subst}
use mathlib.Core.Bool.{Bool, true}
use mathlib.Core.List.{List, [], ◌∷◌, ◌++◌, append-nil, append_assoc}
use native.Mathlib.Omega.{arith}
use lib.Dec.{eqb}
use lib.IntN.{ℤ}
use lib.ListN.{length, take, drop, length-append, take-append-drop}
use lib.Seq.{take-append_seam, drop-append_seam, length-take-le}
use mir.Syntax.{Width, w32, w64}
use mir.Val.{SFits, to_z, of_z, bits}
use mir.Facts.{to_z-of_z, of_z-to_z, Fits-of_z, sfits_to_z, Fits-of_lt}
use borrow.Author.Tests.{ltb-true, lt-ltb, le-leb, lt-leb, eqb-true, eq-eqb}
use Rattle.base.specs.Bytes.{Bytes, both, all}
use Rattle.base.proofs.Split.{by_le, both_left, both_right, both_of, no}
use Rattle.base.proofs.Lists.{all_left, all_right, all_nil, all_cons, all_head, all_tail}
use Rattle.little.specs.Little.{is_byte, le, value}
use Rattle.little.proofs.Littles.{length_le, value_back, le_value, value_within}
use Rattle.compact.specs.Layout.{i32, i64, joined_bytes}
use Rattle.compact.specs.Cut.{Cut, then_cut, found, cut_bytes, cut_number, cut_i32, cut_i64, times}
use Rattle.compact.specs.Fits.{fits_number, fits_signed}

pub record Format {A : Type 0} (fits : A → Bool) (bytes : A → Bytes) (cut : Bytes → Option (Cut A)) : Type 0 where
  pub back : (a : A) (r : Bytes) → fits a ≡ true → cut (bytes a ++ r) ≡ found a r
  pub forth : (s : Bytes) (c : Cut A) → all is_byte s ≡ true → cut s ≡ Some c → (s ≡ bytes c.item ++ c.rest) × (fits c.item ≡ true)

-- ---- one part after another

-- s begins with x, and r is left
pub record Starts (s x r : Bytes) : Type 0 where
  pub is : s ≡ x ++ r

-- what stands before a rest, and what stands there
pub glue : {s x r y q : Bytes} → Starts s x r → Starts r y q → Starts s (x ++ y) q
glue {s} {x} {r} {y} {q} p e = record { is = p.is ∙ (ap (x ++◌) e.is ∙ sym (append_assoc x y q)) }

pub small_rest : {s x r : Bytes} → Starts s x r → all is_byte s ≡ true → all is_byte r ≡ true
small_rest {s} {x} {r} p b = all_right is_byte x r (rw (← p.is) b)

-- a part that was cut off, of which P is known, and the parts after it
pub first : {A B C : Type 0} (P : A → Bytes → Type 0) {o : Option (Cut A)} {g : A → Bytes → Option (Cut B)} {c : Cut B}
    → ((x : Cut A) → o ≡ Some x → P x.item x.rest) → then_cut o g ≡ Some c → ((a : A) (r : Bytes) → P a r → g a r ≡ Some c → C) → C
unfolding then_cut
first {A} {B} {C} P {o} {g} {c} f h k = go o refl h
  where
    go : (x : Option (Cut A)) → o ≡ x → then_cut x g ≡ Some c → C
    go None e t = no cc
    go (Some a) e t = k a.item a.rest (f a e) t

-- the same of a format
pub record Begun {A B : Type 0} (fits : A → Bool) (bytes : A → Bytes) (g : A → Bytes → Option (Cut B)) (s : Bytes) (c : Cut B) : Type 0 where
  pub item : A
  pub rest : Bytes
  pub here : Starts s (bytes item) rest
  pub fit : fits item ≡ true
  pub small : all is_byte rest ≡ true
  pub then : g item rest ≡ Some c

module _ {A B C : Type 0} {fits : A → Bool} {bytes : A → Bytes} {cut : Bytes → Option (Cut A)} where
  pub begin : Format fits bytes cut → {g : A → Bytes → Option (Cut B)} {s : Bytes} {c : Cut B} → all is_byte s ≡ true → then_cut (cut s) g ≡ Some c
      → (Begun fits bytes g s c → C) → C
  begin f {g} {s} {c} b h k =
      first (λ a r. (s ≡ bytes a ++ r) × (fits a ≡ true)) (λ x e. f.forth s x b e) h
      (λ a r x t. k (record { item = a; rest = r; here = record { is = x.0 }; fit = x.1; small = all_right is_byte (bytes a) r (rw (← x.0) b); then = t }))

-- what was found last
pub of_cut : {A : Type 0} (P : A → Bytes → Type 0) {a : A} {r : Bytes} {c : Cut A} → found a r ≡ Some c → P a r → P c.item c.rest
of_cut {A} P {a} {r} {c} h p = let e : ◌≡◌ {A = Cut A} (record { item = a; rest = r }) c = cc in subst (λ (x : Cut A). P x.item x.rest) e p

pub ends : {A : Type 0} (fits : A → Bool) (bytes : A → Bytes) {s : Bytes} {a : A} {r : Bytes} {c : Cut A} → found a r ≡ Some c → Starts s (bytes a) r → fits a ≡ true
    → (s ≡ bytes c.item ++ c.rest) × (fits c.item ≡ true)
ends fits bytes {s} h p q = of_cut (λ a r. (s ≡ bytes a ++ r) × (fits a ≡ true)) h (p.is, q)

-- ---- bytes and numbers

pub cut_short : (n : ℕ) (s : Bytes) → length s < n → cut_bytes n s ≡ None
unfolding cut_bytes
cut_short n s h = rw (lt-leb n (length s) h)

pub cut_whole : (n : ℕ) (s : Bytes) → n ≤ length s → cut_bytes n s ≡ found (take n s) (drop n s)
unfolding cut_bytes
cut_whole n s h = rw (le-leb n (length s) h)

pub bytes_back : (n : ℕ) (t r : Bytes) → length t ≡ n → cut_bytes n (t ++ r) ≡ found t r
bytes_back n t r e =
    rw (← e) (cut_whole (length t) (t ++ r) (omega (arith, length-append t r)) ∙ rw (take-append_seam t r, drop-append_seam t r))

pub bytes_forth : (n : ℕ) (s : Bytes) (c : Cut Bytes) → cut_bytes n s ≡ Some c → (s ≡ c.item ++ c.rest) × (length c.item ≡ n)
bytes_forth n s c h =
    by_le n (length s)
    (λ l. let e : found (take n s) (drop n s) ≡ Some c = sym (cut_whole n s l) ∙ h in
    let p : take n s ≡ c.item = cc in
    let q : drop n s ≡ c.rest = cc in
    (rw (← p, ← q) (sym (take-append-drop n s)), rw (← p) (length-take-le n s l)))
    (λ l. let e : None ≡ Some c = sym (cut_short n s l) ∙ h in no cc)

number_back : (n v : ℕ) (r : Bytes) → fits_number n v ≡ true → cut_number n (le n v ++ r) ≡ found v r
unfolding cut_number then_cut fits_number
number_back n v r h = rw (bytes_back n (le n v) r (length_le n v), value_back n v (ltb-true v (256 ^ n) h))

number_forth : (n : ℕ) (s : Bytes) (c : Cut ℕ) → all is_byte s ≡ true → cut_number n s ≡ Some c → (s ≡ le n c.item ++ c.rest) × (fits_number n c.item ≡ true)
unfolding cut_number fits_number
number_forth n s c b h =
    first (λ t r. (s ≡ t ++ r) × (length t ≡ n)) (bytes_forth n s) h (λ t r x e.
    let small : all is_byte t ≡ true = all_left is_byte t r (rw (← x.0) b) in
    let w : le n (value t) ≡ t = rw x.1 at (le_value t small) in
    ends (fits_number n) (le n) e (record { is = rw w x.0 }) (lt-ltb (value t) (256 ^ n) (value_within t n small (omega (arith, x.1)))))

pub number : (n : ℕ) → Format (fits_number n) (le n) (cut_number n)
number n = record { back = number_back n; forth = number_forth n }

-- ---- the same bytes read as something else

module _ {A B : Type 0} {fits : A → Bool} {bytes : A → Bytes} {cut : Bytes → Option (Cut A)} (f : Format fits bytes cut)
    (fits_b : B → Bool) (to : A → B) (of : B → A)
    (there : (a : A) → fits a ≡ true → (of (to a) ≡ a) × (fits_b (to a) ≡ true))
    (again : (b : B) → fits_b b ≡ true → (to (of b) ≡ b) × (fits (of b) ≡ true)) where
  as_back : (b : B) (r : Bytes) → fits_b b ≡ true → then_cut (cut (bytes (of b) ++ r)) (λ a q. found (to a) q) ≡ found b r
  unfolding then_cut
  as_back b r h = let g = again b h in rw (f.back (of b) r g.1, g.0)

  as_forth : (s : Bytes) (c : Cut B) → all is_byte s ≡ true → then_cut (cut s) (λ a q. found (to a) q) ≡ Some c → (s ≡ bytes (of c.item) ++ c.rest) × (fits_b c.item ≡ true)
  as_forth s c b h =
      begin f b h (λ o. let g = there o.item o.fit in ends fits_b (λ b. bytes (of b)) o.then (record { is = rw g.0 o.here.is }) g.1)

  pub read_as : Format fits_b (λ b. bytes (of b)) (λ s. then_cut (cut s) (λ a q. found (to a) q))
  read_as = record { back = as_back; forth = as_forth }

-- signed numbers
pub signed_there : (w : Width) (n : ℕ) → 256 ^ n ≡ 2 ^ bits w → (v : ℕ) → fits_number n v ≡ true → (of_z w (to_z w v) ≡ v) × (fits_signed w (to_z w v) ≡ true)
unfolding fits_number fits_signed
signed_there w n e v h =
    let f = Fits-of_lt {w = w} {n = v} (rw e at (ltb-true v (256 ^ n) h)) in
    (of_z-to_z f, lt-ltb _ _ (sfits_to_z f).sfits)

pub signed_again : (w : Width) (n : ℕ) → 256 ^ n ≡ 2 ^ bits w → (z : ℤ) → fits_signed w z ≡ true → (to_z w (of_z w z) ≡ z) × (fits_number n (of_z w z) ≡ true)
unfolding fits_number fits_signed
signed_again w n e z h =
    let f : SFits w z = record { sfits = ltb-true _ _ h } in
    (to_z-of_z f, lt-ltb (of_z w z) (256 ^ n) (rw e (Fits-of_z f).fits))

pub i32_format : Format (fits_signed w32) i32 cut_i32
unfolding cut_i32
i32_format = read_as (number 4) (fits_signed w32) (to_z w32) (of_z w32) (signed_there w32 4 refl) (signed_again w32 4 refl)

pub i64_format : Format (fits_signed w64) i64 cut_i64
unfolding cut_i64
i64_format = read_as (number 8) (fits_signed w64) (to_z w64) (of_z w64) (signed_there w64 8 refl) (signed_again w64 8 refl)

-- ---- a counted list

-- one element more
pub joined_last : {A : Type 0} (bytes : A → Bytes) (xs : List A) (x : A) → joined_bytes bytes (xs ++ (x ∷ [])) ≡ joined_bytes bytes xs ++ bytes x
unfolding joined_bytes
joined_last bytes [] x = append-nil (bytes x)
joined_last bytes (y ∷ xs) x = rw (joined_last bytes xs x) (sym (append_assoc (bytes y) (joined_bytes bytes xs) (bytes x)))

unfoldable pub counted : {A : Type 0} → (A → Bool) → ℕ → List A → Bool
counted fits n xs = both (eqb (length xs) n) (all fits xs)

pub counted_of : {A : Type 0} (fits : A → Bool) (xs : List A) → all fits xs ≡ true → counted fits (length xs) xs ≡ true
unfolding counted
counted_of fits xs h = both_of (eq-eqb (length xs) (length xs) refl) h

pub counted_is : {A : Type 0} (fits : A → Bool) (n : ℕ) (xs : List A) → counted fits n xs ≡ true → (length xs ≡ n) × (all fits xs ≡ true)
unfolding counted
counted_is fits n xs h = (eqb-true (length xs) n (both_left _ _ h), both_right _ _ h)

module _ {A : Type 0} {fits : A → Bool} {bytes : A → Bytes} {cut : Bytes → Option (Cut A)} (f : Format fits bytes cut) where
  times_back : (xs : List A) (r : Bytes) → all fits xs ≡ true → times cut (length xs) (joined_bytes bytes xs ++ r) ≡ found xs r
  unfolding times joined_bytes then_cut
  times_back [] r h = refl
  times_back (x ∷ xs) r h =
      rw (append_assoc, f.back x (joined_bytes bytes xs ++ r) (all_head fits x xs h), times_back xs r (all_tail fits x xs h))

  times_again : (n : ℕ) (xs : List A) (r : Bytes) → counted fits n xs ≡ true → times cut n (joined_bytes bytes xs ++ r) ≡ found xs r
  times_again n xs r h = let k = counted_is fits n xs h in rw (← k.0) (times_back xs r k.1)

  times_forth : (n : ℕ) (s : Bytes) (c : Cut (List A)) → all is_byte s ≡ true → times cut n s ≡ Some c → (s ≡ joined_bytes bytes c.item ++ c.rest) × (counted fits n c.item ≡ true)
  unfolding times joined_bytes counted
  times_forth zero s c b h = ends (counted fits 0) (joined_bytes bytes) h (record { is = refl }) (counted_of fits [] (all_nil fits))
  times_forth (suc n) s c b h =
      begin f b h (λ o. begin (record { back = times_again n; forth = times_forth n }) o.small o.then (λ q.
      let k = counted_is fits n q.item q.fit in
      ends (counted fits (suc n)) (joined_bytes bytes) q.then (glue o.here q.here)
      (both_of (eq-eqb _ _ (ap suc k.0)) (all_cons fits o.item q.item o.fit k.1))))

  pub list : (n : ℕ) → Format (counted fits n) (joined_bytes bytes) (times cut n)
  list n = record { back = times_again n; forth = times_forth n }
