-- By what it was.
use mathlib.Core.Path.{refl}
use Rattle.file_reader.specs.Held.{file_held}
use Rattle.file_reader.proofs.Steps.{meant_start, meant_end, meant_none}
use Rattle.file_reader.proofs.markup_ended.Goals as goal

pub returns-in-StartTag-clause-value : goal.returns-in-StartTag-clause-value
returns-in-StartTag-clause-value c = λ g i. meant_start (file_held c.args.state.now c.args.file.now) c.in-StartTag.is (c.start_tag_ends.ensures.value g i)

pub returns-in-EndTag-clause-value : goal.returns-in-EndTag-clause-value
returns-in-EndTag-clause-value c = λ g i. meant_end (file_held c.args.state.now c.args.file.now) c.in-EndTag.is (c.end_tag_ends.ensures.value g i)

pub returns-in-Skipped-clause-value : goal.returns-in-Skipped-clause-value
returns-in-Skipped-clause-value c = λ g i. meant_none (file_held c.args.state.now c.args.file.now) c.in-Skipped.is refl
