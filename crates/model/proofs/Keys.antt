-- Keys: the test for the same key decides equality, and their order is strict and total: kinds in order, ids of a kind in OSM order.
use Prim.Native.Nat.{◌<◌}
use mathlib.Core.Path.{◌≡◌, refl, sym, ◌∙◌, ap}
use mathlib.Core.Logic.{◌↔◌, inl, inr}
use mathlib.Core.Bool.{true, false}
use native.Mathlib.Omega.{arith}
use borrow.Author.Tests.{lt-ltb, le-ltb, eq-eqb}
use Rattle.base.specs.Bytes.{both}
use Rattle.base.proofs.Split.{by_bool, by_lt, clash, both_left, both_right, both_of}
use Rattle.base.proofs.Strict.{Strict, by_order}
use Rattle.kind.specs.Kind.{kind_number, same_kind}
use Rattle.kind.specs.declared.Kind.{Kind}
use Rattle.kind.proofs.Numbers as Numbers
use Rattle.osm_id.specs.Order.{before}
use Rattle.osm_id.proofs.Orders.{order, same_is}
use Rattle.model.specs.Act.{Key, same_key, key_before}

-- ---- the same key

same_yes : (a b : Key) → same_key a b ≡ true → a ≡ b
unfolding same_key
same_yes a b t =
    let k = Numbers.same_yes a.kind b.kind (both_left _ _ t) in
    let i = (same_is a.id b.id).0 (both_right _ _ t) in
    λ j. record { kind = k j; id = i j }

same_self : (a : Key) → same_key a a ≡ true
unfolding same_key
same_self a = both_of (Numbers.same_refl a.kind) ((same_is a.id a.id).1 refl)

pub same_key_lem : (a b : Key) → (same_key a b ≡ true) ↔ (a ≡ b)
same_key_lem a b = (same_yes a b, λ e. rw e (same_self b))

pub other_key : (a b : Key) → (a ≡ b → ⊥) → same_key a b ≡ false
other_key a b n = by_bool (same_key a b) (λ t. absurd (n (same_yes a b t))) (λ t. t)

pub by_key : {C : Type 0} (a b : Key) → (a ≡ b → C) → ((a ≡ b → ⊥) → C) → C
by_key a b f g = by_bool (same_key a b) (λ t. f (same_yes a b t)) (λ t. g (λ e. clash ((same_key_lem a b).1 e) t))

-- ---- the order

-- ids of one kind are in OSM order
pub ids_order : (a b : Key) → a.kind ≡ b.kind → key_before a b ≡ before a.id b.id
unfolding key_before both
ids_order a b e = rw (e, le-ltb (kind_number b.kind) (kind_number b.kind) (omega arith), Numbers.same_refl b.kind)

module _ (a b : Key) where
  -- an id of an earlier kind comes first
  pub kinds_order : kind_number a.kind < kind_number b.kind → key_before a b ≡ true
  unfolding key_before
  kinds_order h = rw (lt-ltb (kind_number a.kind) (kind_number b.kind) h)

  -- and there is no other way to come first
  pub by_keys : {C : Type 0} → key_before a b ≡ true → (kind_number a.kind < kind_number b.kind → C) → (a.kind ≡ b.kind → before a.id b.id ≡ true → C) → C
  unfolding key_before
  by_keys t f g =
      by_lt (kind_number a.kind) (kind_number b.kind) f
      (λ h. let u : both (same_kind a.kind b.kind) (before a.id b.id) ≡ true = rw (le-ltb (kind_number a.kind) (kind_number b.kind) h) at t in
      g (Numbers.same_yes a.kind b.kind (both_left _ _ u)) (both_right _ _ u))

pub same_kind_lem : (a b : Kind) → kind_number a ≡ kind_number b → a ≡ b
unfolding same_kind
same_kind_lem a b e = Numbers.same_yes a b (eq-eqb (kind_number a) (kind_number b) e)

pub keys : Strict key_before
keys = record {
  irreflexive = λ a. ids_order a a refl ∙ order.irreflexive a.id;
  transitive = λ a b c s t.
      by_keys a b s
      (λ h. by_keys b c t
      (λ k. kinds_order a c (omega arith))
      (λ e u. kinds_order a c (omega (arith, ap kind_number e))))
      (λ d u. by_keys b c t
      (λ k. kinds_order a c (omega (arith, ap kind_number d)))
      (λ e v. ids_order a c (d ∙ e) ∙ order.transitive a.id b.id c.id u v));
  total = λ a b.
      by_lt (kind_number a.kind) (kind_number b.kind)
      (λ h. inl (kinds_order a b h))
      (λ h. by_lt (kind_number b.kind) (kind_number a.kind)
      (λ k. inr (inr (kinds_order b a k)))
      (λ k. let e : a.kind ≡ b.kind = same_kind_lem a.kind b.kind (omega arith) in
      by_order order a.id b.id
      (λ t. inl (ids_order a b e ∙ t))
      (λ d. inr (inl (λ j. record { kind = e j; id = d j })))
      (λ t. inr (inr (ids_order b a (sym e) ∙ t)))));
}
