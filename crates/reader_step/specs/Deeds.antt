-- What is to be done in storage, and what it stands for: a decision of crate event_decision, whatever the bits of its metadata are.
use Rattle.std.specs.Prelude.{ℕ, ◌≤◌, length}
use Rattle.std.specs.Int.{w64}
use Rattle.std.proofs.Common.{to_z}
use Rattle.nesting.specs.declared.Place.{Place}
use Rattle.event_decision.specs.Decision.{Decision, refuses, moves, begins, deletes, tags, refers, joins, ends}
use Rattle.event_values.specs.Value.{body_in}
use Rattle.event_values.specs.Values.{tag_means, member_means}
use Rattle.reader_acts.specs.Acts.{act_means, UserShort}
use Rattle.reader_step.specs.declared.Deed.{Deed}
use Rattle.reader_step.specs.declared.Deed.TheVariants as D

abbrev pub deed_means : {N : ℕ} → Place → Deed N → Decision
deed_means p (D.Refuses r) = refuses r
deed_means p D.Nothing = moves p
deed_means p (D.Begins b) = begins b.empty p (to_z w64 b.act.id) (act_means b.act) (body_in b.act.kind b.coordinates.lat b.coordinates.lon)
deed_means p (D.Deletes a) = deletes a.kind p (to_z w64 a.id) (act_means a)
deed_means p (D.Tags t) = tags p (tag_means t)
deed_means p (D.Refers r) = refers p (to_z w64 r)
deed_means p (D.Joins m) = joins p (member_means m)
deed_means p D.Ends = ends p

-- its texts are no longer than a line may be
abbrev pub DeedShort : {N : ℕ} → Deed N → Type 0
DeedShort (D.Refuses r) = Unit {0}
DeedShort D.Nothing = Unit {0}
DeedShort (D.Begins b) = UserShort b.act.user
DeedShort (D.Deletes a) = UserShort a.user
DeedShort (D.Tags t) = (length t.key.bytes.now ≤ 16384) × (length t.value.bytes.now ≤ 16384)
DeedShort (D.Refers r) = Unit {0}
DeedShort (D.Joins m) = length m.role.bytes.now ≤ 16384
DeedShort D.Ends = Unit {0}
