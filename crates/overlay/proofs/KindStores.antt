-- An overlay with one kind store, its strings or its setting put anew: what is put, and what stays.
use Prim.Native.Nat.{ℕ}
use mathlib.Core.Path.{◌≡◌, refl}
use Rattle.base.proofs.Split.{no}
use Rattle.kind.specs.declared.Kind.{Kind}
use Rattle.kind.specs.declared.Kind.TheVariants.{Node, Way, Relation}
use Rattle.interner.specs.Strings.{Store}
use Rattle.kind_store.specs.KindStore.{KindStore}
use Rattle.overlay.specs.Overlay.{Overlay, kind_store_of, kind_size_of, with_kind_store, with_texts, with_setting}

-- ---- parts

pub kind_store_same : (k : Kind) (s : KindStore) (o : Overlay) → kind_store_of k (with_kind_store k s o) ≡ s
kind_store_same Node s o = refl
kind_store_same Way s o = refl
kind_store_same Relation s o = refl

pub kind_store_other : (j k : Kind) (s : KindStore) (o : Overlay) → (j ≡ k → ⊥) → kind_store_of j (with_kind_store k s o) ≡ kind_store_of j o
kind_store_other Node Node s o n = absurd (n refl)
kind_store_other Node Way s o n = refl
kind_store_other Node Relation s o n = refl
kind_store_other Way Node s o n = refl
kind_store_other Way Way s o n = absurd (n refl)
kind_store_other Way Relation s o n = refl
kind_store_other Relation Node s o n = refl
kind_store_other Relation Way s o n = refl
kind_store_other Relation Relation s o n = absurd (n refl)

pub kind_store_texts : (k : Kind) (s : KindStore) (o : Overlay) → (with_kind_store k s o).texts ≡ o.texts
kind_store_texts Node s o = refl
kind_store_texts Way s o = refl
kind_store_texts Relation s o = refl

pub kind_store_setting : (k : Kind) (s : KindStore) (o : Overlay) → (with_kind_store k s o).setting ≡ o.setting
kind_store_setting Node s o = refl
kind_store_setting Way s o = refl
kind_store_setting Relation s o = refl

pub kind_store_all_sizes : (k : Kind) (s : KindStore) (o : Overlay) → (with_kind_store k s o).sizes ≡ o.sizes
kind_store_all_sizes Node s o = refl
kind_store_all_sizes Way s o = refl
kind_store_all_sizes Relation s o = refl

pub kind_store_sizes : (j k : Kind) (s : KindStore) (o : Overlay) → kind_size_of j (with_kind_store k s o) ≡ kind_size_of j o
kind_store_sizes Node Node s o = refl
kind_store_sizes Node Way s o = refl
kind_store_sizes Node Relation s o = refl
kind_store_sizes Way Node s o = refl
kind_store_sizes Way Way s o = refl
kind_store_sizes Way Relation s o = refl
kind_store_sizes Relation Node s o = refl
kind_store_sizes Relation Way s o = refl
kind_store_sizes Relation Relation s o = refl

-- what holds of the kind store that is put, and of each other that was there, holds of each
pub each_other_kind_store : (P : Kind → KindStore → Type 0) (k : Kind) (s : KindStore) (o : Overlay) → P k s → ((j : Kind) → (j ≡ k → ⊥) → P j (kind_store_of j o))
    → (j : Kind) → P j (kind_store_of j (with_kind_store k s o))
each_other_kind_store P Node s o p f Node = p
each_other_kind_store P Node s o p f Way = f Way (λ e. no (cc))
each_other_kind_store P Node s o p f Relation = f Relation (λ e. no (cc))
each_other_kind_store P Way s o p f Node = f Node (λ e. no (cc))
each_other_kind_store P Way s o p f Way = p
each_other_kind_store P Way s o p f Relation = f Relation (λ e. no (cc))
each_other_kind_store P Relation s o p f Node = f Node (λ e. no (cc))
each_other_kind_store P Relation s o p f Way = f Way (λ e. no (cc))
each_other_kind_store P Relation s o p f Relation = p

pub each_kind_store : (P : Kind → KindStore → Type 0) (k : Kind) (s : KindStore) (o : Overlay) → P k s → ((j : Kind) → P j (kind_store_of j o)) → (j : Kind) → P j (kind_store_of j (with_kind_store k s o))
each_kind_store P k s o p f = each_other_kind_store P k s o p (λ j n. f j)

-- overlays are the same where each of their parts is
pub same_overlay : (o q : Overlay) → ((k : Kind) → kind_store_of k o ≡ kind_store_of k q) → o.texts ≡ q.texts → o.setting ≡ q.setting → o.sizes ≡ q.sizes → o ≡ q
same_overlay o q k t s z =
    let e : ◌≡◌ {A = Overlay} (record { nodes = o.nodes; ways = o.ways; relations = o.relations; texts = o.texts; setting = o.setting; sizes = o.sizes })
    (record { nodes = q.nodes; ways = q.ways; relations = q.relations; texts = q.texts; setting = q.setting; sizes = q.sizes }) = rw (k Node, k Way, k Relation, t, s, z) in
    e

-- new strings leave each kind store
pub texts_kind_store : (j : Kind) (t : Store) (o : Overlay) → kind_store_of j (with_texts t o) ≡ kind_store_of j o
texts_kind_store Node t o = refl
texts_kind_store Way t o = refl
texts_kind_store Relation t o = refl

-- and so does a new setting
pub setting_kind_store : (j : Kind) (setting : ℕ) (o : Overlay) → kind_store_of j (with_setting setting o) ≡ kind_store_of j o
setting_kind_store Node setting o = refl
setting_kind_store Way setting o = refl
setting_kind_store Relation setting o = refl
