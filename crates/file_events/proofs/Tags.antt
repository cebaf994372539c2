-- A tag's line as it is kept is judged as the line that it stands for: the same where it is held, and 2 where either is too long.
use Prim.Native.Nat.{ℕ, ◌+◌, ◌<◌, ◌≤◌, min}
use mathlib.Core.Path.{◌≡◌, refl, sym, ◌∙◌, ap}
use mathlib.Core.Bool.{Bool, true, false}
use mathlib.Core.List.{List, [], ◌∷◌, ◌++◌, append_assoc}
use native.Mathlib.Omega.{arith}
use lib.ListN.{length, take, drop, length-append}
use lib.Seq.{take_all, take-append-add, drop-append_seam, length-take-le}
use Rattle.base.specs.Bytes.{Bytes}
use Rattle.base.proofs.Split.{by_le}
use Rattle.little.specs.Little.{over}
use Rattle.little.proofs.Overs.{length_over, over_fits, used_over}
use Rattle.refusal.specs.declared.Refusal.TheVariants.{LongLine}
use Rattle.event.specs.Event.{refused, body, start_word, event_of}
use Rattle.event.proofs.Parts.{unended_line}
use Rattle.event.proofs.Events.{judged_long}
use Rattle.file_reader.specs.File.{FileState, kept_line, line_start, line_written, tag_line}

-- bytes that stand up to a line's room, before what is kept of it
front_taken : (s w : Bytes) (at used : ℕ) → at + length w ≡ 6 → 6 + used ≤ length s → take (6 + used) (over s at w) ≡ take at s ++ (w ++ take used (drop 6 s))
front_taken s w at used h k =
    let p : length (take at s ++ w) ≡ 6 = length-append (take at s) w ∙ (ap (λ n. n + length w) (length-take-le at s (omega arith)) ∙ h) in
    let o : over s at w ≡ (take at s ++ w) ++ drop 6 s = over_fits s at w (omega arith) ∙ (rw h (sym (append_assoc (take at s) w (drop 6 s)))) in
    let q : take (length (take at s ++ w) + used) ((take at s ++ w) ++ drop 6 s) ≡ (take at s ++ w) ++ take used (drop 6 s) = take-append-add (take at s ++ w) (drop 6 s) used in
    rw o ((rw p at q) ∙ append_assoc (take at s) w (take used (drop 6 s)))

-- what a tag's word and its end make of it
line_taken : (s w : Bytes) (at used : ℕ) → at + length w ≡ 6 → 6 + used + 1 ≤ length s
    → drop at (take (7 + used) (over (over s at w) (6 + used) (10 ∷ []))) ≡ w ++ (take used (drop 6 s) ++ (10 ∷ []))
line_taken s w at used h k =
    let n : 7 + used ≡ (6 + used) + 1 = omega arith in
    let l : length (take at s) ≡ at = length-take-le at s (omega arith) in
    let u : take ((6 + used) + 1) (over (over s at w) (6 + used) (10 ∷ [])) ≡ take (6 + used) (over s at w) ++ (10 ∷ []) =
    used_over (over s at w) (6 + used) (10 ∷ []) (omega (arith, length_over s at w)) in
    let e : take (6 + used) (over s at w) ++ (10 ∷ []) ≡ take at s ++ (w ++ (take used (drop 6 s) ++ (10 ∷ []))) =
    ap (λ t. t ++ (10 ∷ [])) (front_taken s w at used h (omega arith))
    ∙ (append_assoc (take at s) (w ++ take used (drop 6 s)) (10 ∷ []) ∙ ap (λ t. take at s ++ t) (append_assoc w (take used (drop 6 s)) (10 ∷ []))) in
    let d : drop (length (take at s)) (take at s ++ (w ++ (take used (drop 6 s) ++ (10 ∷ [])))) ≡ w ++ (take used (drop 6 s) ++ (10 ∷ [])) = drop-append_seam (take at s) _ in
    rw (n, u, e) (rw l at d)

pub tag_line_is : (empty : Bool) (f : FileState) → 7 + f.used ≤ length f.bytes → tag_line empty f ≡ start_word empty ++ (9 ∷ (kept_line f ++ (10 ∷ [])))
tag_line_is true f h = line_taken f.bytes (start_word true ++ (9 ∷ [])) 0 f.used refl (omega arith)
tag_line_is false f h = line_taken f.bytes (start_word false ++ (9 ∷ [])) 1 f.used refl (omega arith)

-- a line that is too long is 2, whatever it holds
long_line : (empty : Bool) (k : Bytes) → 16380 ≤ length k → event_of (start_word empty ++ (9 ∷ (k ++ (10 ∷ [])))) ≡ refused LongLine
long_line true k h =
    let t : Bytes = start_word true ++ (9 ∷ k) in
    let u = unended_line t in
    let b : body (t ++ (10 ∷ [])) ≡ t = rw u in
    judged_long (t ++ (10 ∷ [])) (rw b (omega arith))
long_line false k h =
    let t : Bytes = start_word false ++ (9 ∷ k) in
    let u = unended_line t in
    let b : body (t ++ (10 ∷ [])) ≡ t = rw u in
    judged_long (t ++ (10 ∷ [])) (rw b (omega arith))

kept_judged : (empty : Bool) (x : Bytes) → event_of (start_word empty ++ (9 ∷ (take 16380 x ++ (10 ∷ [])))) ≡ event_of (start_word empty ++ (9 ∷ (x ++ (10 ∷ []))))
kept_judged empty x =
    by_le (length x) 16380
    (λ h. rw (take_all 16380 x h))
    (λ h. long_line empty (take 16380 x) (omega (arith, length-take-le 16380 x (omega arith))) ∙ sym (long_line empty x (omega arith)))

-- "2 measures that line": what is kept of a tag's line is judged as all of it
pub tag_judged : (empty : Bool) (f : FileState) (x : Bytes) → length f.bytes ≡ 32771 → f.used ≡ min 16380 (length x) → kept_line f ≡ take 16380 x
    → event_of (tag_line empty f) ≡ event_of (start_word empty ++ (9 ∷ (x ++ (10 ∷ []))))
tag_judged empty f x l u k = rw (tag_line_is empty f (omega arith), k) (kept_judged empty x)
