-- An input that comes in pieces of any size is taken in as the whole is; and where its reader stands still, or a line is too long to be kept, the rest of it need not be read.
use Prim.Native.Nat.{ℕ, ◌<◌}
use mathlib.Core.Path.{◌≡◌, refl, sym, ◌∙◌, ap}
use mathlib.Core.Bool.{true}
use mathlib.Core.List.{List, [], ◌∷◌, ◌++◌, append_assoc, append-nil, flatten, foldl, foldl-append}
use native.Mathlib.Omega.{arith}
use lib.ListN.{length}
use Rattle.base.specs.Bytes.{Bytes}
use Rattle.line.proofs.Lines.{lacks, lacks_nil}
use Rattle.input_lines.specs.Lines.{lines_of, rest_of, input_lines}
use Rattle.input_lines.specs.Stream.{Stream, fresh_stream, after_piece, after_end, after_input}
use Rattle.input_lines.proofs.Lines.{rest_lacks, input_append, input_open, input_begins}

module _ {S : Type 0} (step : S → Bytes → S) where
  -- what is to come after some pieces, the kept bytes first
  pub pieces_on : (f : Stream S) (pieces : List Bytes) → lacks 10 f.rest ≡ true
      → after_end step (foldl (after_piece step) f pieces) ≡ after_input step f.state (f.rest ++ flatten pieces)
  unfolding flatten
  pieces_on f [] h = rw (append-nil, input_open f.rest h)
  pieces_on f (p ∷ ps) h =
      pieces_on (after_piece step f p) ps (rest_lacks (f.rest ++ p))
      ∙ (sym (foldl-append step f.state (lines_of (f.rest ++ p)) (input_lines (rest_of (f.rest ++ p) ++ flatten ps)))
      ∙ rw (← input_append (f.rest ++ p) (flatten ps), append_assoc))

  -- pieces of any size are taken in as the whole
  pub pieces_whole : (s : S) (pieces : List Bytes) → after_end step (foldl (after_piece step) (fresh_stream step s) pieces) ≡ after_input step s (flatten pieces)
  pieces_whole s pieces = pieces_on (fresh_stream step s) pieces (lacks_nil 10)

  -- ---- a state that no line changes

  abbrev pub Still : S → Type 0
  Still s = (l : Bytes) → step s l ≡ s

  pub still_taken : (s : S) → Still s → (ls : List Bytes) → foldl step s ls ≡ s
  still_taken s h [] = refl
  still_taken s h (l ∷ ls) = rw (h l) (still_taken s h ls)

  -- there the rest of the input need not be read
  pub stopped_early : (f : Stream S) (pieces : List Bytes) → lacks 10 f.rest ≡ true → Still f.state
      → after_end step (foldl (after_piece step) f pieces) ≡ f.state
  stopped_early f pieces h k = pieces_on f pieces h ∙ still_taken f.state k (input_lines (f.rest ++ flatten pieces))

  -- ---- an unfinished line of more than so many bytes, after which nothing changes whatever it goes on with

  module _ (most : ℕ)
      (long : (s : S) (p t : Bytes) → most < length p → lacks 10 p ≡ true → (step s (p ++ t) ≡ step s p) × Still (step s p)) where
    -- it is taken in as it stands, and the rest of the input need not be read
    pub cut_short : (f : Stream S) (pieces : List Bytes) → lacks 10 f.rest ≡ true → most < length f.rest
        → after_end step (foldl (after_piece step) f pieces) ≡ step f.state f.rest
    cut_short f pieces h k =
        let w = input_begins f.rest (flatten pieces) (omega arith) h in
        let l = long f.state f.rest w.after k h in
        pieces_on f pieces h
        ∙ (ap (foldl step f.state) w.are
        ∙ (ap (λ (s : S). foldl step s w.others) l.0 ∙ still_taken (step f.state f.rest) l.1 w.others))
