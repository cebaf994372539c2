-- A legal record's handles are held, so its texts are the same whatever texts come behind those.
use Prim.Native.Nat.{ℕ, ◌<◌}
use mathlib.Core.Path.{◌≡◌, refl}
use mathlib.Core.Bool.{true}
use mathlib.Core.List.{List, [], ◌∷◌, map, map-append}
use borrow.Author.Tests.{ltb-true}
use Rattle.base.specs.Bytes.{all}
use Rattle.base.proofs.Split.{both_left, both_right}
use Rattle.base.proofs.Lists.{all_head, all_tail}
use Rattle.model.specs.Record.{Meta, Member, Tag, Body, place, refs, members, Record}
use Rattle.model.specs.Swap.{swap_record, roles_of, keys_of, body_texts}
use Rattle.model.proofs.Swaps.{record_agree}
use Rattle.compact.specs.Legal.{handle, legal_meta, body_handles, legal_handles, legal}

module _ {S : Type 0} (strings : ℕ) (f g : ℕ → S) (agree : (h : ℕ) → h < strings → f h ≡ g h) where
  held_agree : (h : ℕ) → handle strings h ≡ true → f h ≡ g h
  held_agree h t = agree h (ltb-true h strings t)

  roles_agree : (ms : List (Member ℕ)) → all (λ (m : Member ℕ). handle strings m.role) ms ≡ true → map f (roles_of ms) ≡ map g (roles_of ms)
  roles_agree [] h = refl
  roles_agree (m ∷ ms) h =
      cc (held_agree m.role (all_head (λ (m : Member ℕ). handle strings m.role) m ms h), roles_agree ms (all_tail (λ (m : Member ℕ). handle strings m.role) m ms h))

  keys_agree : (ts : List (Tag ℕ)) → all (λ (t : Tag ℕ). handle strings t.key) ts ≡ true → map f (keys_of ts) ≡ map g (keys_of ts)
  keys_agree [] h = refl
  keys_agree (t ∷ ts) h =
      cc (held_agree t.key (all_head (λ (t : Tag ℕ). handle strings t.key) t ts h), keys_agree ts (all_tail (λ (t : Tag ℕ). handle strings t.key) t ts h))

  body_agree : (b : Body ℕ) → body_handles strings b ≡ true → map f (body_texts b) ≡ map g (body_texts b)
  unfolding body_handles
  body_agree (place lat lon) h = refl
  body_agree (refs rs) h = refl
  body_agree (members ms) h = roles_agree ms h

  user_agrees : (m : Meta ℕ) → legal_meta strings m ≡ true → f m.user ≡ g m.user
  unfolding legal_meta
  user_agrees m h = held_agree m.user (both_right _ _ (both_right _ _ (both_right _ _ (both_right _ _ h))))

  pub legal_agree : (r : Record ℕ) → legal strings r ≡ true → swap_record f r ≡ swap_record g r
  unfolding legal legal_handles
  legal_agree r h =
      let l = both_left _ _ h in
      let m = both_right _ _ l in
      let u = user_agrees r.meta (both_left _ _ l) in
      let b = body_agree r.body (both_left _ _ m) in
      let k = keys_agree r.tags (both_right _ _ m) in
      record_agree f g r (rw (map-append f, map-append g, u, b, k))
