-- Laws of the highest version, of what is admitted, and of versions as words.
use Rattle.std.specs.Prelude.{Err, None, Ok, Option, Some}
use Prim.Native.Nat.{ℕ, ◌^◌, ◌<◌, ◌≤◌}
use mathlib.Core.Path.{◌≡◌, refl, sym, ◌∙◌, ap}
use mathlib.Core.Bool.{true, false}
use mathlib.Core.Logic.{◌↔◌}
use lib.IntN.{ℤ}
use lib.Signed.{lt_z}
use mir.Syntax.{w32}
use mir.Val.{SFits, of_z, to_z}
use mir.Facts.{to_z-of_z, of_z-to_z, Fits-of_z, Fits-of_lt, sfits_to_z}
use borrow.Author.Tests.{lt-ltb, le-ltb}
use Rattle.std.specs.Ordering.{int_cmp, ord_max}
use Rattle.std.specs.Option.{option_cmp}
use Rattle.base.proofs.Split.{by_bool, by_lt, no}
use Rattle.base.proofs.Strict.{by_order, asymmetric, not_less, integers}
use Rattle.version_floor.specs.Version.{higher, admit_of, word_of, of_word}

-- ---- the highest version

second : (x y : ℤ) → lt_z x y ≡ true → higher (Some x) (Some y) ≡ Some y
unfolding higher
second x y t = rw t

first : (x y : ℤ) → lt_z x y ≡ false → higher (Some x) (Some y) ≡ Some x
unfolding higher
first x y t = rw t

pub higher_left : (v : Option ℤ) → higher None v ≡ v
unfolding higher
higher_left v = refl

pub higher_right : (v : Option ℤ) → higher v None ≡ v
unfolding higher
higher_right None = refl
higher_right (Some x) = refl

-- the code's `max`: no version is below each other one
pub max_higher : (a b : Option ℤ) → ord_max (option_cmp int_cmp) a b ≡ higher a b
unfolding higher
max_higher None None = refl
max_higher None (Some y) = refl
max_higher (Some x) None = refl
max_higher (Some x) (Some y) =
    by_order integers x y
    (λ t. rw (asymmetric integers x y t, t))
    (λ e. rw (e, integers.irreflexive y))
    (λ t. rw (t, asymmetric integers y x t))

pub idempotent : (v : Option ℤ) → higher v v ≡ v
idempotent None = higher_left None
idempotent (Some x) = first x x (integers.irreflexive x)

pub commutative : (a b : Option ℤ) → higher a b ≡ higher b a
commutative None b = higher_left b ∙ sym (higher_right b)
commutative (Some x) None = higher_right (Some x) ∙ sym (higher_left (Some x))
commutative (Some x) (Some y) =
    by_order integers x y
    (λ t. second x y t ∙ sym (first y x (asymmetric integers x y t)))
    (λ e. rw e)
    (λ t. first x y (asymmetric integers y x t) ∙ sym (second y x t))

pub associative : (a b c : Option ℤ) → higher (higher a b) c ≡ higher a (higher b c)
associative None b c = rw (higher_left b, higher_left (higher b c))
associative (Some x) None c = rw (higher_right (Some x), higher_left c)
associative (Some x) (Some y) None = rw (higher_right (Some y), higher_right (higher (Some x) (Some y)))
associative (Some x) (Some y) (Some z) =
    by_bool (lt_z x y)
    (λ s. by_bool (lt_z y z)
    (λ t. rw (second x y s, second y z t, second x z (integers.transitive x y z s t)))
    (λ t. rw (second x y s, first y z t, second x y s)))
    (λ s. by_bool (lt_z y z)
    (λ t. rw (first x y s, second y z t))
    (λ t. rw (first x y s, first y z t, first x y s, first x z (not_less integers x y z s t))))

-- ---- what is admitted

refused : (v x : ℤ) → lt_z x v ≡ true → admit_of (Some v) (Some x) ≡ Err v
unfolding admit_of
refused v x t = rw t

taken : (v x : ℤ) → lt_z x v ≡ false → admit_of (Some v) (Some x) ≡ (Ok tt)
unfolding admit_of
taken v x t = rw t

-- no floor, no claim, an equal claim
pub admit_first : (c : Option ℤ) → admit_of None c ≡ (Ok tt)
unfolding admit_of
admit_first c = refl

pub admit_missing : (f : Option ℤ) → admit_of f None ≡ (Ok tt)
unfolding admit_of
admit_missing None = refl
admit_missing (Some v) = refl

pub admit_equal : (f : Option ℤ) → admit_of f f ≡ (Ok tt)
admit_equal None = admit_first None
admit_equal (Some v) = taken v v (integers.irreflexive v)

-- a claim is refused exactly when it is strictly below the floor, and the refusal carries the floor
pub below_is : (f c : Option ℤ) (v : ℤ) → (admit_of f c ≡ Err v) ↔ ((x : ℤ) × ((f ≡ Some v) × ((c ≡ Some x) × (lt_z x v ≡ true))))
below_is f c v = (go f c, λ r. rw (r.1.0, r.1.1.0) (refused v r.0 r.1.1.1))
  where
    go : (f c : Option ℤ) → admit_of f c ≡ Err v → (x : ℤ) × ((f ≡ Some v) × ((c ≡ Some x) × (lt_z x v ≡ true)))
    go None c e = no (cc (admit_first c))
    go (Some w) None e = no (cc (admit_missing (Some w)))
    go (Some w) (Some x) e =
        by_bool (lt_z x w)
        (λ t. let d : w ≡ v = cc (refused w x t) in (x, (ap Some d, (refl, rw d at t))))
        (λ t. no (cc (taken w x t)))

-- each claim is admitted or refused
pub by_admit : {C : Type 0} (f c : Option ℤ) → (admit_of f c ≡ (Ok tt) → C) → ((v : ℤ) → admit_of f c ≡ Err v → C) → C
by_admit None c g h = g (admit_first c)
by_admit (Some v) None g h = g (admit_missing (Some v))
by_admit (Some v) (Some x) g h = by_bool (lt_z x v) (λ t. h v (refused v x t)) (λ t. g (taken v x t))

-- an admitted claim becomes the floor
pub admitted_highest : (f : Option ℤ) (x : ℤ) → admit_of f (Some x) ≡ (Ok tt) → higher f (Some x) ≡ Some x
admitted_highest None x e = higher_left (Some x)
admitted_highest (Some v) x e =
    by_order integers v x
    (λ t. second v x t)
    (λ d. rw d (idempotent (Some x)))
    (λ t. no (cc (refused v x t)))

-- a floor that a claim has raised says the same of that claim
pub admit_raised : (f c : Option ℤ) → admit_of (higher f c) c ≡ admit_of f c
admit_raised f None = rw (higher_right f)
admit_raised None (Some x) = rw (higher_left (Some x)) (admit_equal (Some x) ∙ sym (admit_first (Some x)))
admit_raised (Some v) (Some x) =
    by_bool (lt_z v x)
    (λ t. rw (second v x t) (admit_equal (Some x) ∙ sym (taken v x (asymmetric integers v x t))))
    (λ t. rw (first v x t))

-- a claim passes the higher of two floors exactly when it passes both
lower : (f g c : Option ℤ) → admit_of (higher f g) c ≡ (Ok tt) → admit_of f c ≡ (Ok tt)
lower None g c e = admit_first c
lower (Some v) g None e = admit_missing (Some v)
lower (Some v) None (Some x) e = rw (higher_right (Some v)) at e
lower (Some v) (Some y) (Some x) e =
    by_bool (lt_z x v)
    (λ t. by_bool (lt_z v y)
    (λ u. no (cc (second v y u, refused y x (integers.transitive x v y t u))))
    (λ u. no (cc (first v y u, refused v x t))))
    (λ t. taken v x t)

pub by_higher : {C : Type 0} (f g : Option ℤ) → (higher f g ≡ f → C) → (higher f g ≡ g → C) → C
by_higher None g h k = k (higher_left g)
by_higher (Some x) None h k = h (higher_right (Some x))
by_higher (Some x) (Some y) h k = by_bool (lt_z x y) (λ t. k (second x y t)) (λ t. h (first x y t))

pub admit_both : (f g c : Option ℤ) → (admit_of (higher f g) c ≡ (Ok tt)) ↔ ((admit_of f c ≡ (Ok tt)) × (admit_of g c ≡ (Ok tt)))
admit_both f g c = (
  λ e. (lower f g c e, lower g f c (rw (commutative f g) at e)),
  λ p. by_higher f g (λ e. rw e p.0) (λ e. rw e p.1),
)

-- ---- versions as words

-- a version whose number, if it has one, is an i32 is that of its word
pub word_version : (v : Option ℤ) → ((x : ℤ) → v ≡ Some x → SFits w32 x) → of_word (word_of v) ≡ v
unfolding word_of of_word
word_version None f = refl
word_version (Some x) f =
    let s = f x refl in
    rw (lt-ltb (of_z w32 x) (2 ^ 32) (Fits-of_z s).fits, to_z-of_z s)

pub version_word : (n : ℕ) → n < 2 ^ 32 → word_of (of_word n) ≡ n
unfolding word_of of_word
version_word n h = rw (lt-ltb n (2 ^ 32) h) (of_z-to_z {w = w32} (Fits-of_lt h))

pub word_absent : (n : ℕ) → 2 ^ 32 ≤ n → of_word n ≡ None
unfolding of_word
word_absent n h = rw (le-ltb n (2 ^ 32) h)

-- what a word holds is an i32, whatever the word
pub word_fits : (n : ℕ) (x : ℤ) → of_word n ≡ Some x → SFits w32 x
unfolding of_word
word_fits n x e =
    by_lt n (2 ^ 32)
    (λ h. let d : to_z w32 n ≡ x = cc (rw (lt-ltb n (2 ^ 32) h) at e) in rw d at (sfits_to_z {w = w32} (Fits-of_lt h)))
    (λ h. no (cc (word_absent n h)))
