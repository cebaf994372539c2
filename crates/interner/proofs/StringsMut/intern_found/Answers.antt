-- `intern_found`: where there is room, the span and the bytes fit.
use mathlib.Core.Path.{◌≡◌, sym, ◌∙◌}
use mathlib.Core.Bool.{true}
use Rattle.interner.specs.Lent.{store_held}
use Rattle.interner.specs.Strings.{text_room}
use Rattle.interner.proofs.Takes.{room_words, room_bytes}
use Rattle.interner.proofs.StringsMut.intern_found.Goals as goal

pub add-requires : goal.add-requires
add-requires c =
    let a = c.args in
    let s = store_held a.self.now in
    let r : text_room s a.text.now ≡ true = rw c.strings.ensures at (sym c.has_room.ensures ∙ c.if-has_room.true) in
    (room_words s a.text.now r, room_bytes s a.text.now r)
