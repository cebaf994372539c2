-- The text of an extent: no longer than its line, so an array of a line's largest length holds it whole.
use Rattle.std.specs.Prelude.{None, Option, Some}
use Prim.Native.Nat.{ℕ, suc, ◌-◌, ◌≤◌, min}
use mathlib.Core.Path.{◌≡◌, sym, ◌∙◌}
use mathlib.Core.Bool.{Bool, true, false, not}
use mathlib.Core.List.{[], ◌∷◌}
use native.Mathlib.Omega.{arith}
use lib.ListN.{length, take}
use lib.Dec.{eqb}
use lib.Seq.{slice, length-slice}
use Rattle.base.specs.Bytes.{Bytes, all}
use Rattle.base.proofs.Split.{by_bool}
use Rattle.little.specs.Little.{over}
use Rattle.little.proofs.Overs.{read_back}
use Rattle.text.specs.Escape.{byte_before, meaning, unescape_from}
use Rattle.event.specs.Event.{or_empty}
use Rattle.event_scan.specs.Piece.{value_text}
use Rattle.event_scan.proofs.Places.{lent_is}
use Rattle.event_scan.proofs.Pieces.{text_bare}

-- ---- a text is no longer than the value that writes it

one_more : (m : Option ℕ) (x : Option Bytes) (n : ℕ) → length (or_empty x) ≤ n → length (or_empty (byte_before m x)) ≤ suc n
unfolding byte_before
one_more None x n h = omega arith
one_more (Some b) None n h = omega arith
one_more (Some b) (Some t) n h = omega arith

shorter : (v : Bytes) (marked : Bool) → length (or_empty (unescape_from marked v)) ≤ length v
unfolding unescape_from
shorter [] false = omega arith
shorter [] true = omega arith
shorter (b ∷ v) true = one_more (meaning b) (unescape_from false v) (length v) (shorter v false)
shorter (b ∷ v) false =
    by_bool (eqb b 92)
    (λ e. let h = shorter v true in rw (e, unescape_from) (omega arith))
    (λ e. rw (e, unescape_from) (one_more (Some b) (unescape_from false v) (length v) (shorter v false)))

pub text_shorter : (v : Bytes) → length (value_text v) ≤ length v
unfolding value_text
text_shorter v = shorter v false

-- so as many bytes as an array of a line's largest length has hold the text of a value of a line whole
pub held_whole : (s last v : Bytes) (n end : ℕ) → length s ≡ 16384 → length v ≤ 16384 → (last ≡ over s 0 (value_text v)) × (n ≡ length (value_text v))
    → end ≡ min n 16384 → take end last ≡ value_text v
held_whole s last v n end l short e m =
    let k = text_shorter v in
    let same : end ≡ length (value_text v) = omega (arith, e.1) in
    rw (same, e.0) (read_back s 0 (value_text v) (omega arith))
