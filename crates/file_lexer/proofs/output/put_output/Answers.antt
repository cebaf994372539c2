-- Kind by kind.
use Prim.Native.Nat.{min}
use mathlib.Core.Path.{◌≡◌, ◌∙◌}
use mathlib.Core.List.{[], ◌∷◌}
use native.Mathlib.Omega.{arith}
use Rattle.base.proofs.Lists.{all_tail}
use Rattle.little.specs.Little.{is_byte}
use Rattle.text.specs.Char.{utf8}
use Rattle.markup_tags.specs.Output.{written_by}
use Rattle.file_lexer.proofs.Lines.{grown_nothing, grown_again}
use Rattle.file_lexer.proofs.Growths.{utf8_most, escape_most}
use Rattle.file_lexer.proofs.output.put_output.Goals as goal

pub put_char-requires : goal.put_char-requires
unfolding written_by
put_char-requires c = utf8_most c.in-Plain.c (rw c.in-Plain.is at c.requires)

pub put_char-requires-in-Tabbed : goal.put_char-requires-in-Tabbed
unfolding written_by
put_char-requires-in-Tabbed c = utf8_most c.in-Tabbed.c (all_tail is_byte 9 (utf8 c.in-Tabbed.c) (rw c.in-Tabbed.is at c.requires))

pub put_escaped-requires : goal.put_escaped-requires
unfolding written_by
put_escaped-requires c = escape_most c.in-Escaped.c (rw c.in-Escaped.is at c.requires)

pub returns-in-Nothing : goal.returns-in-Nothing
unfolding written_by
returns-in-Nothing c =
    let e : c.min.result ≡ min 16380 c.args.used = omega (arith, c.min.ensures) in
    rw (c.in-Nothing.is, e) (grown_nothing c.args.bytes.now c.args.used)

pub returns-in-Plain : goal.returns-in-Plain
unfolding written_by
returns-in-Plain c = rw c.in-Plain.is c.put_char.ensures

pub returns-in-Tabbed : goal.returns-in-Tabbed
unfolding written_by
returns-in-Tabbed c =
    let behind = c.put_byte-behind in
    rw c.in-Tabbed.is
    (c.put_char-in-Tabbed.ensures
    ∙ grown_again c.args.bytes.now c.args.used (9 ∷ []) (utf8 c.in-Tabbed.c) (record { bytes = behind.new.bytes; used = behind.result }) behind.ensures)

pub returns-in-EqualsSign : goal.returns-in-EqualsSign
unfolding written_by
returns-in-EqualsSign c = rw c.in-EqualsSign.is c.put_byte.ensures

pub returns-in-Escaped : goal.returns-in-Escaped
unfolding written_by
returns-in-Escaped c = rw c.in-Escaped.is c.put_escaped.ensures
