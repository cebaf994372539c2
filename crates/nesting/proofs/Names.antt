-- How each name is spelled: a name is read exactly where its word stands.
use mathlib.Core.Path.{◌≡◌, refl, sym}
use mathlib.Core.Bool.{Bool, true, false}
use mathlib.Core.Logic.{◌↔◌}
use mathlib.Core.List.{List, [], ◌∷◌}
use Rattle.base.specs.Ascii.{ascii}
use Rattle.base.specs.Bytes.{Bytes, both, either, all, same}
use Rattle.base.proofs.Split.{by_bool, clash, by_either}
use Rattle.base.proofs.Lists.{same_yes, all_head, all_tail}
use Rattle.nesting.specs.Name.{Spelling, spellings, name_in, name_of}
use Rattle.nesting.specs.declared.Name.{Name}
use Rattle.nesting.specs.declared.Name.TheVariants as N

-- the words of a name; an unknown name has none, for it is what is left
abbrev pub spells : Name → Bytes → Bool
spells N.OsmChange s = same s (ascii "osmChange")
spells N.Create s = same s (ascii "create")
spells N.Modify s = same s (ascii "modify")
spells N.Delete s = same s (ascii "delete")
spells N.Node s = same s (ascii "node")
spells N.Way s = same s (ascii "way")
spells N.Relation s = same s (ascii "relation")
spells N.Tag s = same s (ascii "tag")
spells N.Nd s = same s (ascii "nd")
spells N.Member s = same s (ascii "member")
spells N.Bounds s = either (same s (ascii "bbox")) (same s (ascii "bounds"))
spells N.Unknown s = false

in_spellings : (ps : List Spelling) → all (λ p. spells p.name p.bytes) ps ≡ true → (s : Bytes) (n : Name) → (n ≡ N.Unknown → ⊥) → name_in ps s ≡ n → spells n s ≡ true
unfolding name_in
in_spellings [] h s n k e = absurd (k (sym e))
in_spellings (p ∷ ps) h s n k e =
    by_bool (same s p.bytes)
    (λ t. let q : p.name ≡ n = rw t at e in rw (same_yes s p.bytes t, ← q) (all_head _ p ps h))
    (λ t. in_spellings ps (all_tail _ p ps h) s n k (rw t at e))

spelled : (s : Bytes) (n : Name) → spells n s ≡ true → name_of s ≡ n
unfolding name_of spellings name_in same both
spelled s N.OsmChange h = rw (same_yes s _ h)
spelled s N.Create h = rw (same_yes s _ h)
spelled s N.Modify h = rw (same_yes s _ h)
spelled s N.Delete h = rw (same_yes s _ h)
spelled s N.Node h = rw (same_yes s _ h)
spelled s N.Way h = rw (same_yes s _ h)
spelled s N.Relation h = rw (same_yes s _ h)
spelled s N.Tag h = rw (same_yes s _ h)
spelled s N.Nd h = rw (same_yes s _ h)
spelled s N.Member h = rw (same_yes s _ h)
spelled s N.Bounds h = by_either _ _ h (λ t. rw (same_yes s _ t)) (λ t. rw (same_yes s _ t))
spelled s N.Unknown h = clash h refl

pub name_exactly : (s : Bytes) (n : Name) → (n ≡ N.Unknown → ⊥) → (name_of s ≡ n) ↔ (spells n s ≡ true)
unfolding name_of spellings name_in all both either same
name_exactly s n k = (λ e. in_spellings spellings refl s n k e, λ h. spelled s n h)
