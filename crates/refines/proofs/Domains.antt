-- A call lies in the domain, by the table, exactly where its reply is none of the refusals outside: a library that refuses more has not a smaller domain, and one that refused otherwise
-- than the table would not be equal on it.
use Rattle.reader.specs.declared.RefusedAt.{RefusedAt}
use Rattle.std.specs.Prelude.{Err, None, Ok, Option, Result, Some}
use Rattle.std.proofs.Common.{◌≡◌, ℕ, Bool, true, List, sym, refl, ap, ◌∙◌, w64, to_z}
use Rattle.base.specs.Bytes.{both}
use Rattle.refusal.specs.First.{first_of}
use Rattle.refusal.specs.declared.Refusal.{Refusal}
use Rattle.compact.specs.Held.{meta_of}
use Rattle.overlay.specs.First.{kept_by, allow_table}
use Rattle.overlay.proofs.First.{allow_first}
use Rattle.overlay_store.specs.First.{handle_refusal}
use Rattle.overlay_direct.specs.First.{push_table, delete_table}
use Rattle.overlay_direct.specs.Calls.{intern_on}
use Rattle.overlay_direct.proofs.First.{intern_first, push_first, delete_first}
use Rattle.reader.specs.Table.{answer_by, event_table, end_table}
use Rattle.reader.proofs.Tables.{event_first, end_first}
use Rattle.calls.specs.Ask.{Ask, interns, pushes, deletes, reads, ends, allows, Storage, state_of}
use Rattle.refines.specs.Domain.{Past, event_outside, direct_outside, inside_of, first_inside, first_at_inside, by_table, going, in_domain}
use Rattle.refines.specs.Told.{Told, handle, done, refused, handle_told, kept_told, answer_told, told}

-- the numbers outside, of an event or an end and of any other call
abbrev pub outside_of : Ask → List ℕ
outside_of (interns t) = direct_outside
outside_of (pushes k h m parts) = direct_outside
outside_of (deletes k id m) = direct_outside
outside_of (reads n line) = event_outside
outside_of (ends n) = event_outside
outside_of (allows setting) = direct_outside

abbrev pub told_inside : List ℕ → Told → Bool
told_inside numbers (handle n) = true
told_inside numbers done = true
told_inside numbers (refused number held) = inside_of numbers number

kept_first : (x : Option Refusal) → first_inside x ≡ told_inside direct_outside (kept_told (kept_by x))
kept_first None = refl
kept_first (Some r) = refl

handle_first : (x : Result ℕ Refusal) → first_inside (handle_refusal x) ≡ told_inside direct_outside (handle_told x)
handle_first (Ok n) = refl
handle_first (Err r) = refl

answer_first : (x : Option RefusedAt) → first_at_inside x ≡ told_inside event_outside (answer_told (answer_by x))
answer_first None = refl
answer_first (Some t) = refl

table_told : (c : Ask) (l : Storage) → by_table c l ≡ told_inside (outside_of c) (told c l)
table_told (interns t) l = ap first_inside (sym (intern_first t l.overlay)) ∙ handle_first (intern_on t l.overlay).answer
table_told (pushes k h m parts) l =
    kept_first (first_of (push_table k h m parts l.overlay)) ∙ ap (λ (x : Result Unit Refusal). told_inside direct_outside (kept_told x)) (sym (push_first k h m parts l.overlay))
table_told (deletes k id m) l =
    kept_first (first_of (delete_table k (to_z w64 id) (meta_of m) l.overlay)) ∙ ap (λ (x : Result Unit Refusal). told_inside direct_outside (kept_told x)) (sym (delete_first k (to_z w64 id) (meta_of m) l.overlay))
table_told (reads n line) l =
    answer_first (first_of (event_table line (state_of n l))) ∙ ap (λ (x : Result Unit RefusedAt). told_inside event_outside (answer_told x)) (sym (event_first line (state_of n l)))
table_told (ends n) l = answer_first (first_of (end_table (state_of n l))) ∙ ap (λ (x : Result Unit RefusedAt). told_inside event_outside (answer_told x)) (sym (end_first (state_of n l)))
table_told (allows setting) l = kept_first (first_of (allow_table l.overlay)) ∙ ap (λ (x : Result Unit Refusal). told_inside direct_outside (kept_told x)) (sym (allow_first setting l.overlay))

pub domain_is : (c : Ask) (p : Past) (l : Storage) → in_domain c p l ≡ both (going c p) (told_inside (outside_of c) (told c l))
domain_is c p l = ap (both (going c p)) (table_told c l)
