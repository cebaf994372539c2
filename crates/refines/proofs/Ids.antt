-- osm_id.rs: keys, order, and the keys of a range.
use Rattle.std.proofs.Common.{◌≡◌, zero, suc, ◌<◌, true, eqb, ltb, ℤ, pos, negsuc, sym, refl, ap, ◌∙◌, arith, ltb-true, le-ltb, lt-ltb, eq-eqb, ne_eqb, eqb-true}
use lib.Signed.{le_z}
use Rattle.base.proofs.Split.{by_bool, clash}
use Rattle.base.proofs.Strict.{by_order}
use Rattle.osm_id.specs.Order.{before, osm_key_of, cmp_of, id_key_before, first_key, last_key}
use Rattle.osm_id.proofs.Orders.{order, key_before, less_is, equal_is, greater_is}
use Rattle.published.specs.Std.{eq_z}
use Rattle.published.specs.OsmId as Rust
use Rattle.published.specs.Std.{Less, Equal, Greater}
use Rattle.refines.specs.Same.{osm_key, ordering}

pub same_key : (id : ℤ) → osm_key (Rust.osm_id_key id) ≡ osm_key_of id
unfolding Rust.osm_id_key osm_key_of eq_z
same_key (pos zero) = refl
same_key (pos (suc n)) = rw (lt-ltb 0 (suc n) (omega arith))
same_key (negsuc n) = refl

-- ---- pairs compare as `id_key_before` says

module _ (x y : Rust.OsmIdKey) where
  pub cmp_less : id_key_before (osm_key x) (osm_key y) ≡ true → Rust.cmp x y ≡ Less
  unfolding id_key_before Rust.cmp
  cmp_less t =
      by_bool (ltb x.class y.class) (λ u. rw u)
      (λ u. by_bool (eqb x.class y.class) (λ v. let w : ltb x.magnitude y.magnitude ≡ true = rw (u, v) at t in rw (u, v, w)) (λ v. clash (rw (u, v) at t) refl))

  pub cmp_greater : id_key_before (osm_key y) (osm_key x) ≡ true → Rust.cmp x y ≡ Greater
  unfolding id_key_before Rust.cmp
  cmp_greater t =
      by_bool (ltb y.class x.class)
      (λ u. let l : y.class < x.class = ltb-true _ _ u in rw (le-ltb x.class y.class (omega arith), ne_eqb x.class y.class (λ e. omega arith)))
      (λ u. by_bool (eqb y.class x.class)
      (λ v. let w : ltb y.magnitude x.magnitude ≡ true = rw (u, v) at t in
      let l : y.magnitude < x.magnitude = ltb-true _ _ w in
      let e : y.class ≡ x.class = eqb-true _ _ v in
      rw (le-ltb x.class y.class (omega arith), eq-eqb x.class y.class (omega arith), le-ltb x.magnitude y.magnitude (omega arith), ne_eqb x.magnitude y.magnitude (λ q. omega arith)))
      (λ v. clash (rw (u, v) at t) refl))

cmp_equal : (x : Rust.OsmIdKey) → Rust.cmp x x ≡ Equal
unfolding Rust.cmp
cmp_equal x = rw (le-ltb x.class x.class (omega arith), eq-eqb x.class x.class refl, le-ltb x.magnitude x.magnitude (omega arith), eq-eqb x.magnitude x.magnitude refl)

pub same_cmp : (a b : ℤ) → ordering (Rust.osm_id_cmp a b) ≡ cmp_of a b
unfolding Rust.osm_id_cmp
same_cmp a b =
    let keys : (i j : ℤ) → before i j ≡ true → id_key_before (osm_key (Rust.osm_id_key i)) (osm_key (Rust.osm_id_key j)) ≡ true = λ i j t. rw (same_key i, same_key j) (key_before i j ∙ t) in
    by_order order a b
    (λ t. ap ordering (cmp_less (Rust.osm_id_key a) (Rust.osm_id_key b) (keys a b t)) ∙ sym ((less_is a b).1 t))
    (λ e. rw e (ap ordering (cmp_equal (Rust.osm_id_key b)) ∙ sym ((equal_is b b).1 refl)))
    (λ t. ap ordering (cmp_greater (Rust.osm_id_key a) (Rust.osm_id_key b) (keys b a t)) ∙ sym ((greater_is a b).1 t))

pub same_first : (lo hi : ℤ) → osm_key (Rust.blob_osm_first_key lo hi) ≡ first_key lo hi
unfolding Rust.blob_osm_first_key first_key
same_first lo hi =
    by_bool (le_z (pos 0) lo) (λ t. rw t (same_key lo)) (λ t. by_bool (le_z hi (pos 0)) (λ u. rw (t, u) (same_key hi)) (λ u. rw (t, u) (same_key (pos 0))))

pub same_last : (lo hi : ℤ) → osm_key (Rust.blob_osm_last_key lo hi) ≡ last_key lo hi
unfolding Rust.blob_osm_last_key last_key
same_last lo hi =
    by_bool (le_z (pos 0) lo) (λ t. rw t (same_key hi)) (λ t. by_bool (le_z hi (pos 0)) (λ u. rw (t, u) (same_key lo)) (λ u. rw (t, u) (same_key hi)))
