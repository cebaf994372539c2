-- Lines where they lie: those that are left of a run, and the rest moved to the front of its buffer.
use Rattle.std.specs.Prelude.{ℕ, List, length}
use Rattle.std.proofs.Math.Seq.{slice}
use Rattle.base.specs.Bytes.{Bytes}
use Rattle.little.specs.Little.{over}
use Rattle.input_lines.specs.Lines.{lines_of}
use Rattle.input_lines.specs.declared.RunLines.{RunLines}

-- the whole lines that are left
abbrev pub lines_left : RunLines → List Bytes
lines_left l = lines_of l.rest.now

-- a buffer, and how many bytes are kept at its front
pub record Front : Type 0 where
  pub buffer : Bytes
  pub kept : ℕ

-- the bytes from one place up to another moved to the front; those past the end are left out, and no other byte is touched
unfoldable pub keep_rest : Bytes → ℕ → ℕ → Front
keep_rest s from to = record { buffer = over s 0 (slice from to s); kept = length (slice from to s) }
