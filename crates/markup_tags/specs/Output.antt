-- What a character adds to the line of a markup's event. "in values `\t`, `\n`, `\r`, `\\` stand for tab, line feed, carriage return, backslash"
use Rattle.std.specs.Prelude.{[], ◌∷◌}
use Rattle.base.specs.Bytes.{Bytes}
use Rattle.base.specs.Chars.{horizontal_tab, equals_sign}
use Rattle.text.specs.Char.{utf8}
use Rattle.text.specs.Escape.{escape}
use Rattle.markup_tags.specs.declared.Output.{Output}
use Rattle.markup_tags.specs.declared.Output.TheVariants.{Nothing, Plain, Tabbed, EqualsSign, Escaped}

unfoldable pub written_by : Output → Bytes
written_by Nothing = []
written_by (Plain c) = utf8 c
written_by (Tabbed c) = horizontal_tab ∷ utf8 c
written_by EqualsSign = equals_sign ∷ []
written_by (Escaped c) = escape (utf8 c)
