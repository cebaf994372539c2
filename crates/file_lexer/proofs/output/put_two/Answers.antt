use mathlib.Core.Path.{◌∙◌}
use mathlib.Core.List.{[], ◌∷◌}
use Rattle.file_lexer.proofs.Lines.{grown_again}
use Rattle.file_lexer.proofs.output.put_two.Goals as goal

pub returns : goal.returns
returns c =
    let behind = c.put_byte-behind in
    c.put_byte.ensures
    ∙ grown_again c.args.bytes.now c.args.used (c.args.first ∷ []) (c.args.second ∷ []) (record { bytes = behind.new.bytes; used = behind.result }) behind.ensures
