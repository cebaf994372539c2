-- A step is taken, and the walk goes on behind the tag that it yields.
use Rattle.std.specs.Prelude.{Err, None, Ok, Some}
use mathlib.Core.Path.{◌≡◌, sym, ap, ◌∙◌}
use borrow.Author.Rules.{rules}
use native.Mathlib.Omega.{arith}
use Rattle.base.proofs.Split.{no}
use Rattle.compact.specs.Tags.{turn_by, tag_turn}
use Rattle.compact.specs.View.{TagStep, tag_step}
use Rattle.compact.proofs.Tags.{Left, tag_left, turn_stays}
use Rattle.compact.proofs.TagPlace.next.Goals as goal

pub returns-in_default : goal.returns-in_default
unfolding tag_turn
returns-in_default c =
    let p = c.args.self.now in
    let t = c.tag_step-step in
    rw (← t.ensures) (sym (turn_stays t.result p (λ x e. let n : c.in_default.field-0 ≡ None = search rules in let z : Ok None ≡ Ok (Some x) = sym (c.in_default.is ∙ ap Ok n) ∙ e in no cc)))

pub returns-in_default-2 : goal.returns-in_default-2
unfolding tag_turn
returns-in_default-2 c =
    let p = c.args.self.now in
    let t = c.tag_step-step in
    rw (← t.ensures) (sym (turn_stays t.result p (λ x e. let z : Err c.in_default.field-0 ≡ Ok (Some x) = sym c.in_default.is ∙ e in no cc)))

-- the tag that is yielded
yielded : (c : goal.After-struct_known-1) → let p = c.args.self.now in ◌≡◌ {A = TagStep} (Ok (Some c.in-Ok-Some.tag)) (tag_step c.args.bytes.now p.offset p.remaining)
yielded c =
    let q : c.in-Ok-Some.field-0 ≡ Some c.in-Ok-Some.tag = rw c.in-Ok-Some.is at c.in-Ok-Some.field-0-is in
    let p : c.tag_step-step.result ≡ Ok c.in-Ok-Some.field-0 = c.in-Ok-Some.is in
    sym (p ∙ ap Ok q) ∙ c.tag_step-step.ensures

-- it ends within the bytes, and one was remaining
left : (c : goal.After-struct_known-1) → Left c.args.bytes.now c.args.self.now.remaining c.in-Ok-Some.tag.start c.in-Ok-Some.tag.len
left c = let p = c.args.self.now in tag_left c.args.bytes.now p.offset p.remaining _ (sym (yielded c))

pub overflow_add-self : goal.overflow_add-self
overflow_add-self c = let l = left c in omega (arith, l.fits)

pub overflow_sub-self : goal.overflow_sub-self
overflow_sub-self c = let l = left (record { before = search; type_inv = search }) in omega (arith, l.more)

pub returns : goal.returns
unfolding tag_turn turn_by
returns c =
    let y = yielded (record { before = search; type_inv = search }) in
    rw (c.tag_step-step.ensures, ← y)
