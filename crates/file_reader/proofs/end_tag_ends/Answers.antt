-- The open element is closed, or 26.
use Prim.Native.Nat.{ℕ}
use mathlib.Core.Path.{refl, ◌∙◌, ap}
use Rattle.file_lexer.specs.declared.Lexer.{Lexer}
use Rattle.reader.specs.Lent.{state_held}
use Rattle.reader.specs.Event.{EventResult}
use Rattle.file_reader.specs.File.{FileState, behind_markup}
use Rattle.file_reader.specs.Held.{file_held}
use Rattle.file_reader.proofs.Given.{given_lines}
use Rattle.file_reader.proofs.Steps.{name_seen, end_tag_by}
use Rattle.file_reader.proofs.end_tag_ends.Goals as goal

pub returns-clause-value : goal.returns-clause-value
returns-clause-value c =
    λ g i.
    let f : FileState = file_held c.args.state.now c.args.file.now in
    let t = c.close_event-answer in
    let r : EventResult = record { state = state_held t.new.state; answer = t.result } in
    let v = c.view in
    let o = name_seen f {p = c.args.state.now.reader.place} {b = v.result.bytes.now} v.result.lexer {n = v.result.named} refl v.ensures.bytes (ap (λ (z : Lexer). z.used) v.ensures.lexer) v.ensures.named in
    ap (λ (n : ℕ). behind_markup f r f.bytes n) c.named_behind-file.ensures
    ∙ end_tag_by f r c.name_is_open-matched.result (c.name_is_open-matched.ensures ∙ o) (t.ensures.value (given_lines f.feeds g) i)
