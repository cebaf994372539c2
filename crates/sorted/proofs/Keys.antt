-- The order of keys is transitive, and so a search's test holds of an id where it holds of a later one.
use Prim.Native.Nat.{◌<◌, ◌≤◌}
use mathlib.Core.Path.{◌≡◌, sym, ◌∙◌}
use mathlib.Core.Bool.{Bool, true, false}
use mathlib.Core.Logic.{◌⊎◌, inl, inr, ⊎_elim}
use native.Mathlib.Omega.{arith}
use lib.Dec.{ltb}
use lib.IntN.{ℤ}
use borrow.Author.Tests.{lt-ltb, le-ltb, ltb-true, eq-eqb, ne_eqb}
use Rattle.base.proofs.Split.{by_bool, by_lt, by_eq, clash}
use Rattle.osm_id.specs.Order.{before, osm_key_of, id_key_before}
use Rattle.osm_id.specs.declared.OsmIdKey.{OsmIdKey}
use Rattle.osm_id.proofs.Orders.{key_before}
use Rattle.sorted.specs.Lookup.{under}

-- keys compare by class, and within a class by magnitude
module _ (x y : OsmIdKey) where
  pub class_less : x.class < y.class → id_key_before x y ≡ true
  unfolding id_key_before
  class_less l = rw (lt-ltb x.class y.class l)

  pub class_same : x.class ≡ y.class → id_key_before x y ≡ ltb x.magnitude y.magnitude
  unfolding id_key_before
  class_same e = rw (le-ltb x.class y.class (omega arith), eq-eqb x.class y.class e)

  pub class_more : y.class ≤ x.class → (x.class ≡ y.class → ⊥) → id_key_before x y ≡ false
  unfolding id_key_before
  class_more l n = rw (le-ltb x.class y.class l, ne_eqb x.class y.class n)

  is_less : id_key_before x y ≡ true → (x.class < y.class) ⊎ ((x.class ≡ y.class) × (x.magnitude < y.magnitude))
  is_less t =
      by_lt x.class y.class inl
      (λ l. by_eq x.class y.class (λ e. inr (e, ltb-true _ _ (sym (class_same e) ∙ t))) (λ n. clash t (class_more l n)))

pub key_transitive : (x y z : OsmIdKey) → id_key_before x y ≡ true → id_key_before y z ≡ true → id_key_before x z ≡ true
key_transitive x y z s t =
    ⊎_elim
    (λ l. ⊎_elim (λ m. class_less x z (omega arith)) (λ m. class_less x z (omega arith)) (is_less y z t))
    (λ l. ⊎_elim
    (λ m. class_less x z (omega arith))
    (λ m. class_same x z (omega arith) ∙ lt-ltb x.magnitude z.magnitude (omega arith))
    (is_less y z t))
    (is_less x y s)

-- a test that holds of an id where it holds of a later one
abbrev pub Closed : (ℤ → Bool) → Type 0
Closed t = (a b : ℤ) → before a b ≡ true → t b ≡ true → t a ≡ true

pub under_closed : (through : Bool) (key : OsmIdKey) → Closed (under through key)
unfolding under
under_closed false key a b s t = key_transitive (osm_key_of a) (osm_key_of b) key (rw (key_before a b) s) t
under_closed true key a b s t =
    by_bool (id_key_before key (osm_key_of a))
    (λ u. clash t (rw (key_transitive key (osm_key_of a) (osm_key_of b) u (rw (key_before a b) s))))
    (λ u. rw u)
