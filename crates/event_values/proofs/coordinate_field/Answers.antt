-- `coordinate_field`: 24, 7, or what the one form gives.
use mathlib.Core.Path.{sym, ◌∙◌}
use Rattle.event_values.proofs.Values.{coordinate_values}
use Rattle.event_values.proofs.coordinate_field.Goals as goal

pub returns-in-Some-Some : goal.returns-in-Some-Some
returns-in-Some-Some g c =
    let w = sym (rw c.in-Some-Some.is-0 at c.axis_values.ensures.whole) in
    let d = sym (rw c.in-Some-Some.is-1 at c.axis_values.ensures.degrees) in
    coordinate_values c.args.axis _ w d

pub returns-in-None-None : goal.returns-in-None-None
returns-in-None-None g c =
    let w = sym (rw c.in-None-None.is-0 at c.axis_values.ensures.whole) in
    let d = sym (rw c.in-None-None.is-1 at c.axis_values.ensures.degrees) in
    coordinate_values c.args.axis _ w d

pub returns-in-Some-None : goal.returns-in-Some-None
returns-in-Some-None g c =
    let w = sym (rw c.in-Some-None.is-0 at c.axis_values.ensures.whole) in
    let d = sym (rw c.in-Some-None.is-1 at c.axis_values.ensures.degrees) in
    c.whole_coordinate.ensures ∙ coordinate_values c.args.axis _ w d

pub returns-in-None-Some : goal.returns-in-None-Some
returns-in-None-Some g c =
    let w = sym (rw c.in-None-Some.is-0 at c.axis_values.ensures.whole) in
    let d = sym (rw c.in-None-Some.is-1 at c.axis_values.ensures.degrees) in
    c.degrees_coordinate.ensures ∙ coordinate_values c.args.axis _ w d
