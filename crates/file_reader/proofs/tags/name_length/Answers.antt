-- Up to the first tab, or all.
use Rattle.file_reader.proofs.Names.{name_at_tab, name_is_all}
use Rattle.file_reader.proofs.tags.name_length.Goals as goal

pub returns-in-Some-clause-name : goal.returns-in-Some-clause-name
returns-in-Some-clause-name c = let e = c.in-Some.ensures in name_at_tab c.args.rest.now c.in-Some.i e.0 e.1.0 e.1.1

pub returns-in-None-clause-name : goal.returns-in-None-clause-name
returns-in-None-clause-name c = name_is_all c.args.rest.now c.in-None.ensures
