-- `xml_names::is_name_start_char`: ASCII by its characters, the others by theirs.
use mathlib.Core.Path.{◌∙◌}
use native.Mathlib.Omega.{arith}
use Rattle.xml_names.proofs.Names.{start_ascii, start_beyond}
use Rattle.xml_names.proofs.is_name_start_char.Goals as goal

pub returns-then-c-lt128 : goal.returns-then-c-lt128
returns-then-c-lt128 c = c.starts_in_ascii.ensures ∙ start_ascii c.args.c (omega arith)

pub returns-else-c-lt128 : goal.returns-else-c-lt128
returns-else-c-lt128 c = c.starts_beyond.ensures ∙ start_beyond c.args.c (omega arith)
