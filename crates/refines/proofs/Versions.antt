-- version_floor.rs: `admit` and `raise`.
use Rattle.std.specs.Prelude.{None, Option, Some}
use Rattle.std.proofs.Common.{◌≡◌, ℤ, refl}
use lib.Signed.{lt_z}
use Rattle.base.proofs.Split.{by_bool}
use Rattle.base.proofs.Strict.{by_order, asymmetric, integers}
use Rattle.version_floor.specs.Version.{higher, admit_of}
use Rattle.published.specs.Std.{max_z}
use Rattle.published.specs.VersionFloor.{admit, raise}
use Rattle.refines.specs.Same.{version, admission}

pub same_admit : (floor claim : Option ℤ) → admission (admit floor claim) ≡ admit_of (version floor) (version claim)
unfolding admit admit_of
same_admit None claim = refl
same_admit (Some f) None = refl
same_admit (Some f) (Some c) = by_bool (lt_z c f) (λ t. rw t) (λ t. rw t)

pub same_max : (a b : ℤ) → Some (max_z a b) ≡ higher (Some a) (Some b)
unfolding max_z higher
same_max a b =
    by_order integers a b
    (λ t. rw (t, asymmetric integers a b t))
    (λ e. rw (e, integers.irreflexive b))
    (λ t. rw (t, asymmetric integers b a t))

pub same_raise : (floor claim : Option ℤ) → version (raise floor claim) ≡ higher (version floor) (version claim)
unfolding raise higher
same_raise None None = refl
same_raise None (Some c) = refl
same_raise (Some f) None = refl
same_raise (Some f) (Some c) = same_max f c
