-- Texts as they are lent: those that are left.
use Rattle.std.specs.Prelude.{List}
use Rattle.base.specs.Bytes.{Bytes}
use Rattle.overlay_texts.specs.Texts.{cut_texts}
use Rattle.overlay_texts.specs.declared.JoinedTexts.{JoinedTexts}

abbrev pub texts_left : JoinedTexts → List Bytes
texts_left j = cut_texts j.lengths.now j.bytes.now
