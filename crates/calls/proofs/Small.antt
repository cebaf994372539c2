-- A record whose values are text is bytes.
use Prim.Native.Nat.{ℕ}
use mathlib.Core.Path.{◌≡◌, refl}
use mathlib.Core.Bool.{Bool, true}
use mathlib.Core.List.{List, [], ◌∷◌}
use lib.IntN.{ℤ}
use Rattle.base.specs.Bytes.{Bytes, all}
use Rattle.base.proofs.Split.{both_left, both_right}
use Rattle.base.proofs.Lists.{all_nil, all_cons, all_head, all_tail, all_append}
use Rattle.little.specs.Little.{is_byte}
use Rattle.little.proofs.Littles.{bytes_le}
use Rattle.text.specs.Check.{is_text}
use Rattle.reader.proofs.Small.{text_small}
use Rattle.model.specs.Record.{Member, Tag, Body, place, refs, members, Record}
use Rattle.compact.specs.Layout.{i64, member_bytes, tag_bytes, joined_bytes, body_bytes, parts_bytes, record_bytes}
use Rattle.compact.specs.Legal.{legal_texts, legal}
use Rattle.overlay.proofs.Bounds.{written_small}

-- elements that are bytes each, one after the other
joined_small : {A : Type 0} (p : A → Bool) (bytes : A → Bytes) → ((a : A) → p a ≡ true → all is_byte (bytes a) ≡ true) → (xs : List A) → all p xs ≡ true → all is_byte (joined_bytes bytes xs) ≡ true
unfolding joined_bytes
joined_small p bytes f [] h = all_nil is_byte
joined_small p bytes f (x ∷ xs) h = all_append is_byte (bytes x) (joined_bytes bytes xs) (f x (all_head p x xs h)) (joined_small p bytes f xs (all_tail p x xs h))

all_of : {A : Type 0} (xs : List A) → all (λ (x : A). true) xs ≡ true
all_of [] = all_nil (λ x. true)
all_of (x ∷ xs) = all_cons (λ x. true) x xs refl (all_of xs)

member_small : (m : Member ℕ) → all is_byte (member_bytes m) ≡ true
unfolding member_bytes
member_small m = all_append is_byte _ _ (all_append is_byte _ _ (bytes_le 8 _) (bytes_le 1 _)) (bytes_le 4 _)

body_small : (b : Body ℕ) → all is_byte (body_bytes b) ≡ true
unfolding body_bytes
body_small (place lat lon) = all_nil is_byte
body_small (refs rs) = joined_small (λ r. true) i64 (λ r t. bytes_le 8 _) rs (all_of rs)
body_small (members ms) = joined_small (λ m. true) member_bytes (λ m t. member_small m) ms (all_of ms)

tag_small : (t : Tag ℕ) → is_text t.value ≡ true → all is_byte (tag_bytes t) ≡ true
unfolding tag_bytes
tag_small t h = all_append is_byte _ t.value (all_append is_byte _ _ (bytes_le 4 _) (bytes_le 4 _)) (text_small t.value h)

pub record_small : (strings : ℕ) (id : ℤ) (r : Record ℕ) → legal strings r ≡ true → all is_byte (record_bytes id r) ≡ true
unfolding record_bytes parts_bytes legal legal_texts
record_small strings id r h =
    written_small _ _ r.meta _
    (all_append is_byte (body_bytes r.body) (joined_bytes tag_bytes r.tags) (body_small r.body)
    (joined_small (λ (t : Tag ℕ). is_text t.value) tag_bytes tag_small r.tags (both_left _ _ (both_right _ _ h))))
