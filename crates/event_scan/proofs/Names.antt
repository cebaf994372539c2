-- No attribute is there twice exactly where the names are distinct; and the words of the names.
use Prim.Native.Nat.{ℕ}
use mathlib.Core.Path.{◌≡◌, refl, ap}
use mathlib.Core.Bool.{not}
use mathlib.Core.List.{List, [], ◌∷◌, ◌++◌}
use Rattle.base.specs.Bytes.{Bytes, both, all, same}
use Rattle.base.proofs.Split.{by_bool}
use Rattle.distinct.specs.Distinct.{differs, distinct, run_in, runs_in}
use Rattle.event.specs.Event.{Attr, named, none_twice}
use Rattle.event_scan.specs.Names.{names_of}

not_named : (n : Bytes) (attrs : List Attr) → not (named n attrs) ≡ all (differs n) (names_of attrs)
unfolding named all differs names_of both
not_named n [] = refl
not_named n (a ∷ attrs) = by_bool (same n a.name) (λ e. rw e) (λ e. rw e (not_named n attrs))

-- "or an attribute twice"
pub names_distinct : (attrs : List Attr) → none_twice attrs ≡ distinct (names_of attrs)
unfolding none_twice distinct names_of
names_distinct [] = refl
names_distinct (a ∷ attrs) = rw (not_named a.name attrs, names_distinct attrs)

-- ---- words of runs

pub runs_snoc : (t : Bytes) (ws : List ℕ) (w : ℕ) → runs_in t (ws ++ (w ∷ [])) ≡ runs_in t ws ++ (run_in t w ∷ [])
runs_snoc t [] w = refl
runs_snoc t (x ∷ ws) w = ap (run_in t x ∷◌) (runs_snoc t ws w)
