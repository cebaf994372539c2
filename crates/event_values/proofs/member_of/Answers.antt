-- `member_of`: type, then ref, then role.
use mathlib.Core.Path.{◌∙◌, ap}
use Rattle.event_scan.specs.Fields.{text_written}
use Rattle.event_scan.proofs.Parts.{found_short}
use Rattle.event_fields.specs.Field.{type_named, member_of}
use Rattle.event_values.specs.Value.{field_in}
use Rattle.event_values.proofs.Raws.{name_raw}
use Rattle.event_values.proofs.Values.{handed_on, type_read, or_empty_is, or_empty_short, or_empty_written}
use Rattle.event_values.proofs.member_of.Goals as goal

pub returns-in_err-named : goal.returns-in_err-named
unfolding member_of
returns-in_err-named g c =
    record {
      means = rw (handed_on c.from_residual.ensures, ← c.in_err-named.ensures.means);
      in_bounds = rw (handed_on c.from_residual.ensures) tt;
      written = rw (handed_on c.from_residual.ensures) tt;
    }

pub returns-in_err-kind : goal.returns-in_err-kind
unfolding member_of
returns-in_err-kind g c =
    let k = ap (field_in (λ k. k)) c.in_err-kind.ensures.value ∙ type_read _ c.kind.ensures ∙ ap type_named (c.from.ensures ∙ name_raw _) in
    record {
      means = rw (handed_on c.from_residual-in_err-kind.ensures, ← c.in_ok-named.ensures.means, ← k);
      in_bounds = rw (handed_on c.from_residual-in_err-kind.ensures) tt;
      written = rw (handed_on c.from_residual-in_err-kind.ensures) tt;
    }

pub returns-in_err-reference : goal.returns-in_err-reference
unfolding member_of
returns-in_err-reference g c =
    let k = ap (field_in (λ k. k)) c.in_ok-kind.ensures.value ∙ type_read _ c.kind.ensures ∙ ap type_named (c.from.ensures ∙ name_raw _) in
    record {
      means = rw (handed_on c.from_residual-in_err-reference.ensures, ← c.in_ok-named.ensures.means, ← k, ← c.in_err-reference.ensures);
      in_bounds = rw (handed_on c.from_residual-in_err-reference.ensures) tt;
      written = rw (handed_on c.from_residual-in_err-reference.ensures) tt;
    }

pub returns : goal.returns
unfolding member_of
returns g c =
    let w = or_empty_is _ c.value_of.result c.as_slice.ensures c.value_of.ensures.written in
    let k = ap (field_in (λ k. k)) c.in_ok-kind.ensures.value ∙ type_read _ c.kind.ensures ∙ ap type_named (c.from.ensures ∙ name_raw _) in
    let r = ap text_written c.unwrap_or-role.ensures ∙ or_empty_written _ c.value_of.result _ c.as_slice.ensures c.value_of.ensures.text in
    let short = or_empty_short _ _ c.value_of.result c.as_slice.ensures (found_short (λ v. v.bytes.now) _ _ _ c.value_of.ensures.written) in
    record {
      means = rw (← c.in_ok-named.ensures.means, ← k, ← c.in_ok-reference.ensures, r);
      in_bounds = rw c.unwrap_or-role.ensures short;
      written = rw c.unwrap_or-role.ensures w;
    }
