-- A kind store that holds nothing is sound; an accepted push of a legal record and an accepted delete keep a kind store sound.
use Rattle.std.specs.Prelude.{Ok, Option}
use Prim.Native.Nat.{ℕ, ◌+◌, ◌≤◌}
use mathlib.Core.Path.{◌≡◌, refl, sym, ◌∙◌, ap}
use mathlib.Core.Bool.{Bool, true, not}
use mathlib.Core.List.{List, [], ◌∷◌, ◌++◌, append-nil}
use native.Mathlib.Omega.{arith}
use lib.IntN.{ℤ}
use lib.ListN.{length, take}
use lib.Seq.{length-take-le}
use mir.Syntax.{w64}
use mir.Val.{SFits}
use Rattle.base.specs.Bytes.{Bytes, all}
use Rattle.base.proofs.Split.{by_lt, by_eq, no, either_left, either_right, by_either}
use Rattle.base.proofs.Lists.{all_nil, all_cons, all_head, all_tail}
use Rattle.kind.specs.declared.Kind.{Kind}
use Rattle.osm_id.specs.Order.{rank, id_of}
use Rattle.osm_id.proofs.Orders.{id_rank, same_is}
use Rattle.version_floor.specs.Version.{higher, word_of}
use Rattle.compact_append.proofs.Writes.{fits_is}
use Rattle.compact_append.proofs.Joins.{appended}
use Rattle.little.specs.Little.{over}
use Rattle.compact.specs.Layout.{joined_bytes}
use Rattle.compact.specs.Fits.{fits_kept}
use Rattle.compact.specs.Legal.{legal}
use Rattle.compact.specs.Cut.{KeptRecord}
use Rattle.compact_legal.specs.Whole.{kept_bytes, Whole, starts_at}
use Rattle.compact_legal.proofs.Wholes.{nothing_whole, append_whole, append_kept}
use Rattle.compact_legal.proofs.Starts.{starts_stays, starts_last}
use Rattle.kind_table.specs.declared.Row.{Row}
use Rattle.kind_table.specs.Rows.{put}
use Rattle.kind_table.specs.Words.{rows_of, rows_from}
use Rattle.kind_table.proofs.Tables.{sound_empty}
use Rattle.kind_table.proofs.Maps.{put_nil, put_before, put_over, put_behind}
use Rattle.kind_store.specs.KindStore.{KindStore, kind_store_with, is_live, gone, rowed, known_version, floor_of, floor_after, pushed, deleted}
use Rattle.kind_store.proofs.Answers.{by_delete, answered}
use Rattle.kind_store.proofs.KindStores.{Laid, delete_laid, push_laid, push_fits, push_used, push_arena}
use Rattle.kind_sound.specs.Sound.{sound_row, SoundKindStore}

pub empty_sound : (strings : ℕ) (k : Kind) (table : List ℕ) (arena : Bytes) → SoundKindStore strings k (kind_store_with table 0 arena 0)
unfolding rows_of rows_from all
empty_sound strings k table arena = record { fits = omega arith; whole = nothing_whole strings k; order = sound_empty table; rows = refl }

-- a row put among rows that pass
all_put : (p : Row → Bool) (n : Row) (rs : List Row) → p n ≡ true → all p rs ≡ true → all p (put n rs) ≡ true
all_put p n [] h g = rw (put_nil n) (all_cons p n [] h g)
all_put p n (r ∷ rs) h g =
    by_lt n.rank r.rank
    (λ l. rw (put_before n r rs l) (all_cons p n (r ∷ rs) h g))
    (λ l. by_eq n.rank r.rank
    (λ e. rw (put_over n r rs e) (all_cons p n rs h (all_tail p r rs g)))
    (λ e. rw (put_behind n r rs (omega (arith, l, e))) (all_cons p r (put n rs) (all_head p r rs g) (all_put p n rs h (all_tail p r rs g)))))

-- rows that point at records still do when records are added behind
row_stays : (xs ys : List KeptRecord) (r : Row) → sound_row xs r ≡ true → sound_row (xs ++ ys) r ≡ true
unfolding sound_row
row_stays xs ys r h =
    by_either (not (is_live r.offset)) (starts_at (id_of r.rank) r.offset xs) h
    (λ t. either_left _ _ t)
    (λ t. either_right _ (starts_stays (id_of r.rank) r.offset xs ys t))

rows_stay : (xs ys : List KeptRecord) (rs : List Row) → all (sound_row xs) rs ≡ true → all (sound_row (xs ++ ys)) rs ≡ true
rows_stay xs ys [] h = all_nil (sound_row (xs ++ ys))
rows_stay xs ys (r ∷ rs) h = all_cons (sound_row (xs ++ ys)) r rs (row_stays xs ys r (all_head (sound_row xs) r rs h)) (rows_stay xs ys rs (all_tail (sound_row xs) r rs h))

-- what a push or a delete lays down keeps a kind store sound, where its row passes and the records are those before and more behind them
pub laid_sound : (strings : ℕ) (k : Kind) (s t : KindStore) (id : ℤ) (offset floor : ℕ) (ys : List KeptRecord) → Laid s id offset floor t → (w : SoundKindStore strings k s)
    → t.used ≤ length t.arena → (v : Whole strings k (take t.used t.arena)) → v.kept ≡ w.whole.kept ++ ys
    → sound_row v.kept (record { rank = rank id; offset = offset; floor = floor }) ≡ true → SoundKindStore strings k t
laid_sound strings k s t id offset floor ys l w f v e h =
    record {
      fits = f;
      whole = v;
      order = l.sound;
      rows = rw l.rows (all_put (sound_row v.kept) (record { rank = rank id; offset = offset; floor = floor }) (rows_of s.table s.ids) h (rw e (rows_stay w.whole.kept ys (rows_of s.table s.ids) w.rows)));
    }

module _ (strings : ℕ) (k : Kind) (setting : ℕ) (s : KindStore) (id : ℤ) (claim : Option ℤ) (w : SoundKindStore strings k s) where
  delete_bytes : (deleted k setting s id claim).answer ≡ (Ok tt) → ((deleted k setting s id claim).kind_store.used ≡ s.used) × ((deleted k setting s id claim).kind_store.arena ≡ s.arena)
  unfolding rowed
  delete_bytes e =
      by_delete k setting s id claim
      (λ v c w. let z = answered w e in no (cc)) (λ c r w. let z = answered w e in no (cc))
      (λ c r w. rw w (refl, refl))

  gone_sound : (xs : List KeptRecord) (n floor : ℕ) → sound_row xs (record { rank = n; offset = gone; floor = floor }) ≡ true
  unfolding sound_row is_live
  gone_sound xs n floor = either_left _ _ refl

  pub delete_sound : (deleted k setting s id claim).answer ≡ (Ok tt) → SoundKindStore strings k (deleted k setting s id claim).kind_store
  delete_sound e =
      let t = (deleted k setting s id claim).kind_store in
      let b = delete_bytes e in
      let u : take t.used t.arena ≡ take s.used s.arena = rw (b.0, b.1) in
      let v : Whole strings k (take t.used t.arena) = record { kept = w.whole.kept; fits = w.whole.fits; legals = w.whole.legals; same = u ∙ w.whole.same } in
      laid_sound strings k s t id gone (word_of (higher (known_version k s id) claim)) [] (delete_laid k setting s id claim w.order e) w (rw (b.0, b.1) w.fits) v
      (sym (append-nil w.whole.kept)) (gone_sound w.whole.kept (rank id) (word_of (higher (known_version k s id) claim)))

-- a push of a legal record's bytes under its own id
module _ (strings : ℕ) (k : Kind) (setting : ℕ) (s : KindStore) (claim : Option ℤ) (x : KeptRecord) (f : fits_kept k x ≡ true) (g : legal strings x.held ≡ true) (i : SFits w64 x.id)
    (w : SoundKindStore strings k s) (taken : (pushed k setting s x.id claim (kept_bytes x)).answer ≡ (Ok tt)) where
  push_bytes : take (pushed k setting s x.id claim (kept_bytes x)).kind_store.used (pushed k setting s x.id claim (kept_bytes x)).kind_store.arena ≡ take s.used s.arena ++ kept_bytes x
  push_bytes =
      let l = push_fits k setting s x.id claim (kept_bytes x) taken in
      rw (push_used k setting s x.id claim (kept_bytes x) taken, push_arena k setting s x.id claim (kept_bytes x) taken)
      (appended s.arena s.used (kept_bytes x) (over s.arena s.used (kept_bytes x)) (s.used + length (kept_bytes x)) (fits_is s.arena s.used (kept_bytes x) l)).used_bytes

  new_row : (floor : ℕ) → sound_row (w.whole.kept ++ x ∷ []) (record { rank = rank x.id; offset = s.used; floor = floor }) ≡ true
  unfolding sound_row
  new_row floor =
      let n : length (joined_bytes kept_bytes w.whole.kept) ≡ s.used = sym (ap length w.whole.same) ∙ length-take-le s.used s.arena w.fits in
      either_right _ (rw (id_rank i, ← n) (starts_last x.id w.whole.kept x ((same_is x.id x.id).1 refl)))

  pub push_sound : SoundKindStore strings k (pushed k setting s x.id claim (kept_bytes x)).kind_store
  push_sound =
      let t = (pushed k setting s x.id claim (kept_bytes x)).kind_store in
      let y = append_whole strings k (take s.used s.arena) x f g w.whole in
      let v : Whole strings k (take t.used t.arena) = record { kept = y.kept; fits = y.fits; legals = y.legals; same = push_bytes ∙ y.same } in
      let e : y.kept ≡ w.whole.kept ++ x ∷ [] = append_kept strings k (take s.used s.arena) x f w.whole y in
      let l = push_laid k setting s x.id claim w.order (kept_bytes x) taken in
      let o = floor_after setting (known_version k s x.id) claim (floor_of s x.id) in
      laid_sound strings k s t x.id s.used o (x ∷ []) l w
      (omega (arith, push_fits k setting s x.id claim (kept_bytes x) taken, push_used k setting s x.id claim (kept_bytes x) taken, l.size)) v e (rw e (new_row o))
