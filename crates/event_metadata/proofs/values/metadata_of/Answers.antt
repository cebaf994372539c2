-- `metadata_of` goes from attribute to attribute: one that gives metadata, is refused, or is passed over.
use Rattle.std.proofs.Common.{map, arith, sym, ◌∙◌, ap}
use Rattle.std.specs.Prelude.{None}
use Rattle.event_scan.specs.Parts.{with_text, written_size}
use Rattle.event_scan.specs.Fields.{written_left, attributes_left}
use Rattle.event_scan.proofs.Parts.{first_written}
use Rattle.event_fields.specs.Field.{metadata_of}
use Rattle.event_values.proofs.Values.{handed_on}
use Rattle.event_metadata.specs.Values.{flags_of, user_in}
use Rattle.event_metadata.proofs.Given.{metadata_ends, metadata_passed, metadata_on, metadata_stops, user_ends, user_passed, user_on}
use Rattle.event_metadata.proofs.values.metadata_of.Goals as goal

pub loop-attribute-init : goal.loop-attribute-init
unfolding metadata_of flags_of
loop-attribute-init g c =
    let e = c.into_iter-attribute-iterator.ensures.into_iter_gives in
    (tt, omega (arith, ap (λ a. written_size (written_left a)) e), ap (λ a. metadata_of (attributes_left a)) e, ap (λ a. user_in None (written_left a)) e)

pub returns-in_err-metadata : goal.returns-in_err-metadata
returns-in_err-metadata g c =
    record {
      means = rw (handed_on c.from_residual.ensures) (metadata_stops _ _ _ _ (ap (map with_text) c.in-Some.ensures.steps) c.in-Some-metadata_name.ensures _ c.in_err-metadata.ensures.means ∙ c.loop-attribute.invariant.2);
      in_bounds = rw (handed_on c.from_residual.ensures) tt;
      written = rw (handed_on c.from_residual.ensures) tt;
    }

pub loop-attribute-preserved-in-Some-metadata_name : goal.loop-attribute-preserved-in-Some-metadata_name
loop-attribute-preserved-in-Some-metadata_name g c =
    let i = c.loop-attribute.invariant in
    let w = first_written _ _ _ c.in-Some.ensures.steps in (
      c.in_ok-metadata.ensures.in_bounds _ i.0 (omega (arith, w.0, i.1)),
      omega (arith, w.1, i.1),
      metadata_on _ _ _ _ (ap (map with_text) c.in-Some.ensures.steps) c.in-Some-metadata_name.ensures _ c.in_ok-metadata.ensures.means ∙ i.2,
      user_on _ _ _ _ c.in-Some.ensures.steps c.in-Some-metadata_name.ensures c.in_ok-metadata.ensures.written ∙ i.3,
    )

pub loop-attribute-preserved : goal.loop-attribute-preserved
loop-attribute-preserved g c =
    let i = c.loop-attribute.invariant in
    let w = first_written _ _ _ c.in-Some.ensures.steps in (
      i.0,
      omega (arith, w.1, i.1),
      metadata_passed _ _ _ _ (ap (map with_text) c.in-Some.ensures.steps) c.in_default.ensures ∙ i.2,
      user_passed _ _ _ _ c.in-Some.ensures.steps c.in_default.ensures ∙ i.3,
    )

pub returns : goal.returns
returns g c =
    record {
      means = sym (metadata_ends _ _ (ap (map with_text) c.in-None.ensures.steps.0)) ∙ c.loop-attribute.invariant.2;
      in_bounds = c.loop-attribute.invariant.0;
      written = sym (user_ends _ _ c.in-None.ensures.steps.0) ∙ c.loop-attribute.invariant.3;
    }
