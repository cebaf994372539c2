-- Spans as the library cuts them off the words, two words each.
use Rattle.std.specs.Prelude.{None, Option, Some, cond}
use Prim.Native.Nat.{ℕ, zero, suc, ◌+◌, ◌*◌, ◌/◌, ◌<◌}
use mathlib.Core.Path.{◌≡◌, refl, ◌∙◌, ap}
use mathlib.Core.List.{List}
use native.Mathlib.Omega.{arith}
use lib.Dec.{leb}
use lib.ListN.{length, get_or, take, drop}
use lib.Seq.{get_or-take}
use borrow.Author.Tests.{le-leb}
use Rattle.std.specs.Simd.{first_chunks}
use Rattle.std.proofs.lemmas.List.{get_or-drop, drop-drop}
use Rattle.base.specs.Bytes.{Bytes, both}
use Rattle.little.specs.declared.Span.{Span}
use Rattle.interner.specs.Strings.{spanned, span_at}

chunk_at : (k h : ℕ) (ws d : List ℕ) → h < k → get_or (first_chunks 2 k ws) h d ≡ take 2 (drop (2 * h) ws)
chunk_at zero h ws d l = absurd (omega arith)
chunk_at (suc k) zero ws d l = refl
chunk_at (suc k) (suc h) ws d l =
    let e : 2 + 2 * h ≡ 2 * suc h = omega arith in
    chunk_at k h (drop 2 ws) d (omega arith) ∙ ap (take 2) (drop-drop (2 * h) 2 ws ∙ ap (λ n. drop n ws) e)

word_at : (k h j : ℕ) (ws d : List ℕ) → h < k → j < 2 → get_or (get_or (first_chunks 2 k ws) h d) j 0 ≡ get_or ws (2 * h + j) 0
word_at k h j ws d l m = rw (chunk_at k h ws d l, get_or-take 2 (drop (2 * h) ws) j 0 m, get_or-drop)

-- the span of a pair of words, if it lies among the bytes
abbrev pub pair_span : List ℕ → Bytes → Option Span
pair_span p bytes = cond (leb (get_or p 0 0 + get_or p 1 0) (length bytes)) (Some (record { start = get_or p 0 0; len = get_or p 1 0 })) None

pub span_of_pair : (spans : List ℕ) (bytes : Bytes) (h k : ℕ) (p d : List ℕ) → k ≡ length spans / 2 → h < k → p ≡ get_or (first_chunks 2 k spans) h d → pair_span p bytes ≡ span_at spans bytes h
unfolding span_at spanned both
span_of_pair spans bytes h k p d e l f =
    let o : 2 * h + 0 ≡ 2 * h = omega arith in
    let first : get_or p 0 0 ≡ get_or spans (2 * h) 0 = rw f (rw o at (word_at k h 0 spans d l (omega arith))) in
    let second : get_or p 1 0 ≡ get_or spans (2 * h + 1) 0 = rw f (word_at k h 1 spans d l (omega arith)) in
    rw (first, second, le-leb (2 * h + 2) (length spans) (omega arith))
