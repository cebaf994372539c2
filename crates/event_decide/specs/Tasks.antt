-- What the code holds of an event's task, and what it stands for: a decision of crate event_decision, its numbers by their bits, its texts by how they are written.
use Rattle.std.specs.Prelude.{ℕ, ◌≡◌, List, None, Err, Ok, Result}
use Rattle.std.specs.Int.{w64}
use Rattle.std.proofs.Common.{to_z}
use Rattle.refusal.specs.declared.Refusal.{Refusal}
use Rattle.nesting.specs.declared.Place.{Place}
use Rattle.event.specs.Event.{Attr}
use Rattle.event_decision.specs.Decision.{Decision, refuses, moves, begins, deletes, tags, refers, joins, ends}
use Rattle.event_values.specs.Value.{body_in}
use Rattle.event_values.specs.Values.{tag_means, TagInBounds, TagWritten, member_means, MemberInBounds, MemberWritten}
use Rattle.event_metadata.specs.Values.{metadata_means, MetadataInBounds, user_written, user_in}
use Rattle.event_decide.specs.declared.tasks.Work.{Work}
use Rattle.event_decide.specs.declared.tasks.Work.TheVariants as W
use Rattle.event_decide.specs.declared.tasks.Task.{Task}

abbrev pub work_means : Place → Work → Decision
work_means p W.Nothing = moves p
work_means p (W.Begins e) = begins e.empty p (to_z w64 e.id) (metadata_means e.metadata) (body_in e.kind e.coordinates.lat e.coordinates.lon)
work_means p (W.Deletes e) = deletes e.kind p (to_z w64 e.id) (metadata_means e.metadata)
work_means p (W.Tags t) = tags p (tag_means t)
work_means p (W.Refers r) = refers p (to_z w64 r)
work_means p (W.Joins m) = joins p (member_means m)
work_means p W.Ends = ends p

abbrev pub task_means : Task → Decision
task_means t = work_means t.place t.work

abbrev pub work_answer : Place → Result Work Refusal → Decision
work_answer p (Ok w) = work_means p w
work_answer p (Err r) = refuses r

abbrev pub task_answer : Result Task Refusal → Decision
task_answer (Ok t) = task_means t
task_answer (Err r) = refuses r

-- ---- how long the texts are, as they are written: no longer than so many bytes

abbrev pub WorkInBounds : ℕ → Work → Type 0
WorkInBounds n W.Nothing = Unit {0}
WorkInBounds n (W.Begins e) = MetadataInBounds n e.metadata
WorkInBounds n (W.Deletes e) = MetadataInBounds n e.metadata
WorkInBounds n (W.Tags t) = TagInBounds n t
WorkInBounds n (W.Refers r) = Unit {0}
WorkInBounds n (W.Joins m) = MemberInBounds n m
WorkInBounds n W.Ends = Unit {0}

abbrev pub TaskInBounds : ℕ → Task → Type 0
TaskInBounds n t = WorkInBounds n t.work

-- ---- its texts are those of these attributes, as they are written

abbrev pub WorkWritten : List Attr → Work → Type 0
WorkWritten attrs W.Nothing = Unit {0}
WorkWritten attrs (W.Begins e) = user_written e.metadata ≡ user_in None attrs
WorkWritten attrs (W.Deletes e) = user_written e.metadata ≡ user_in None attrs
WorkWritten attrs (W.Tags t) = TagWritten attrs t
WorkWritten attrs (W.Refers r) = Unit {0}
WorkWritten attrs (W.Joins m) = MemberWritten attrs m
WorkWritten attrs W.Ends = Unit {0}

abbrev pub TaskWritten : List Attr → Task → Type 0
TaskWritten attrs t = WorkWritten attrs t.work
