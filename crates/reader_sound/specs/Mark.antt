-- A stop mark as a reader goes by it: "a refused event, except for 22, stops its reader"; a mark that no refused event leaves stops nothing.
use Rattle.reader.specs.declared.RefusedAt.{RefusedAt}
use Rattle.std.specs.Prelude.{Bool, cond, Option, Some, None, Result, Err}
use Rattle.refusal.specs.declared.Refusal.TheVariants as R
use Rattle.reader.specs.State.{stops_by, refusal_at}
use Rattle.reader.specs.Table.{answer_by}

unfoldable pub stop_mark : Option RefusedAt → Option RefusedAt
stop_mark None = None
stop_mark (Some a) = cond (stops_by a.refusal) (Some a) None

-- what is answered before a step: 22, which names no line, then the stop mark
unfoldable pub going_answer : Bool → Option RefusedAt → Result Unit RefusedAt
going_answer sound stop = cond sound (answer_by (stop_mark stop)) (Err (refusal_at R.Unsound 0))
