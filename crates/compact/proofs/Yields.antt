-- An iterator over a record's bytes yields the record's tags, in their order, and then none.
use Rattle.std.specs.Prelude.{Err, None, Ok, Some, option_map}
use Prim.Native.Nat.{ℕ, zero, suc, ◌+◌, ◌-◌, ◌≤◌}
use mathlib.Core.Path.{◌≡◌, refl, ap, ◌∙◌}
use mathlib.Core.Bool.{true}
use mathlib.Core.List.{List, ◌∷◌, ◌++◌}
use native.Mathlib.Omega.{arith}
use lib.IntN.{ℤ}
use lib.ListN.{length, take, drop, length-append}
use denote.Ref.{Bor}
use Rattle.base.specs.Bytes.{Bytes}
use Rattle.model.specs.Record.{Record, kind_of}
use Rattle.compact.specs.declared.CompactTagIter.{CompactTagIter}
use Rattle.compact.specs.Layout.{head_len, head_of, record_bytes}
use Rattle.compact.specs.Fits.{fitting}
use Rattle.compact.specs.Legal.{legal_texts}
use Rattle.compact.specs.View.{TagStep, head_at, tag_step, tag_given, steps_onward, steps_from, tags_from}
use Rattle.compact.specs.Tags.{tags_of, tag_next, yielded, all_tags}
use Rattle.compact.proofs.Lengths.{length_head}
use Rattle.compact.proofs.Cuts.{head_tags}
use Rattle.compact.proofs.Back.{read_record_lem}
use Rattle.compact.proofs.Tags.{place_whole, next_step, next_tag}

long : (id : ℤ) (r : Record ℕ) (q : Bytes) → head_len (kind_of r.body) ≤ length (record_bytes id r ++ q)
unfolding record_bytes
long id r q = rw (length-append, length-append, length-append, length_head) (omega arith)

module _ (b : Bor (List ℕ)) where
  abbrev it : ℕ → ℕ → CompactTagIter
  it o n = record { bytes = b; offset = o; remaining = n }

  -- what `next` yields is what the steps yield from the iterator's place on
  pub yields_from : (n o : ℕ) → yielded n (it o n) ≡ tags_from b.now o n
  unfolding yielded tags_from steps_from
  yields_from zero o = rw (next_step (it o 0))
  yields_from (suc n) o = rw (next_step (it o (suc n))) (go (λ at. yields_from n at) (tag_step b.now o (suc n)) refl)
    where
      go : ((at : ℕ) → yielded n (it at n) ≡ tags_from b.now at n) → (t : TagStep) → tag_step b.now o (suc n) ≡ t → steps_onward (tag_given b.now t) (λ at. yielded n (tag_next (it o (suc n))).iter) ≡ steps_onward (tag_given b.now t) (λ at. tags_from b.now at n)
      go later (Ok None) e = refl
      go later (Err r) e = refl
      go later (Ok (Some t)) e =
          let less : suc n - 1 ≡ n = omega arith in
          ap (option_map (record { key = t.key; value = take t.len (drop t.start b.now) } ∷◌))
          (ap (yielded n) (next_tag (it o (suc n)) t e ∙ ap (it (t.start + t.len)) less) ∙ later (t.start + t.len))

  -- of the bytes of a record, whatever follows them
  pub yields_tags : (id : ℤ) (r : Record ℕ) (q : Bytes) → fitting id r ≡ true → legal_texts r ≡ true → b.now ≡ record_bytes id r ++ q → all_tags (tags_of (kind_of r.body) b) ≡ Some r.tags
  unfolding tags_of
  yields_tags id r q h g e =
      let k = kind_of r.body in
      let there = read_record_lem id r q h g in
      let p = place_whole k b.now (rw e (long id r q)) in
      let hd : head_at k b.now ≡ head_of id r.body (length r.tags) = rw e there.head in
      rw (← p, hd, head_tags id r.body (length r.tags), yields_from, e, there.tags)
