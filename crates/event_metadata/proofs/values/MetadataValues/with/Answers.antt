-- `with` goes by the name: a refusal, or the value with its flags.
use Rattle.std.proofs.Common.{sym, ◌∙◌}
use Rattle.std.specs.Prelude.{is_some}
use Rattle.base.proofs.Equal.{known}
use Rattle.event_values.proofs.Raws.{false_raw}
use Rattle.event_values.proofs.Values.{handed_on}
use Rattle.event_metadata.proofs.Given.{given_marked, given_hidden, given_user, given_version, narrow_value, wide_value, moment_value}
use Rattle.event_metadata.proofs.values.MetadataValues.with.Goals as goal

pub returns-in_ok-version-in-Version-clause-means : goal.returns-in_ok-version-in-Version-clause-means
returns-in_ok-version-in-Version-clause-means g c =
    let e = narrow_value _ _ c.in_ok-version-in-Version.ensures.value c.integer_32.ensures in
    let m = c.args.self.now in
    rw (c.in-Version.is, ← e, given_version m.given m.hidden (is_some m.user) (is_some m.version))

pub returns-in_err-timestamp-in-Timestamp-clause-means : goal.returns-in_err-timestamp-in-Timestamp-clause-means
returns-in_err-timestamp-in-Timestamp-clause-means g c =
    let e = moment_value _ _ c.in_err-timestamp-in-Timestamp.ensures.value c.parse_rfc3339_utc.ensures in
    rw (c.in-Timestamp.is, handed_on c.from_residual-in_err-timestamp-in-Timestamp.ensures, ← e)

pub returns-in_ok-timestamp-in-Timestamp-clause-means : goal.returns-in_ok-timestamp-in-Timestamp-clause-means
returns-in_ok-timestamp-in-Timestamp-clause-means g c =
    let e = moment_value _ _ c.in_ok-timestamp-in-Timestamp.ensures.value c.parse_rfc3339_utc.ensures in
    let m = c.args.self.now in
    rw (c.in-Timestamp.is, ← e, given_marked m.given m.hidden (is_some m.user) (is_some m.version))

pub returns-in_err-changeset-in-Changeset-clause-means : goal.returns-in_err-changeset-in-Changeset-clause-means
returns-in_err-changeset-in-Changeset-clause-means g c =
    let e = wide_value _ _ c.in_err-changeset-in-Changeset.ensures.value c.read.ensures in
    rw (c.in-Changeset.is, handed_on c.from_residual-in_err-changeset-in-Changeset.ensures, ← e)

pub returns-in_ok-changeset-in-Changeset-clause-means : goal.returns-in_ok-changeset-in-Changeset-clause-means
returns-in_ok-changeset-in-Changeset-clause-means g c =
    let e = wide_value _ _ c.in_ok-changeset-in-Changeset.ensures.value c.read.ensures in
    let m = c.args.self.now in
    rw (c.in-Changeset.is, ← e, given_marked m.given m.hidden (is_some m.user) (is_some m.version))

pub returns-in_ok-uid-in-Uid-clause-means : goal.returns-in_ok-uid-in-Uid-clause-means
returns-in_ok-uid-in-Uid-clause-means g c =
    let e = narrow_value _ _ c.in_ok-uid-in-Uid.ensures.value c.integer_32-in-Uid.ensures in
    let m = c.args.self.now in
    rw (c.in-Uid.is, ← e, given_marked m.given m.hidden (is_some m.user) (is_some m.version))

pub returns-in-User-clause-means : goal.returns-in-User-clause-means
returns-in-User-clause-means g c =
    let m = c.args.self.now in
    rw (c.in-User.is, given_user m.given m.hidden (is_some m.user) (is_some m.version))

pub returns-in-Visible-clause-means : goal.returns-in-Visible-clause-means
returns-in-Visible-clause-means g c =
    let m = c.args.self.now in
    let e = sym (known _ _ c.as_slice.ensures c.eq.ensures ∙ false_raw c.args.value.now.bytes.now) ∙ c.if-eq.true in
    rw (c.in-Visible.is, e, given_hidden m.given m.hidden (is_some m.user) (is_some m.version))

pub returns-in-Visible-2-clause-means : goal.returns-in-Visible-2-clause-means
returns-in-Visible-2-clause-means g c =
    let m = c.args.self.now in
    let e = sym (known _ _ c.as_slice.ensures c.eq.ensures ∙ false_raw c.args.value.now.bytes.now) ∙ c.if-eq.false in
    rw (c.in-Visible-2.is, e, given_marked m.given m.hidden (is_some m.user) (is_some m.version))
