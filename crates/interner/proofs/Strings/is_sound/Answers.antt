-- `is_sound`: the counts and handle 0 first, then each string.
use mathlib.Core.Path.{◌∙◌, sym}
use native.Mathlib.Omega.{arith}
use Rattle.interner.specs.Lent.{store_seen}
use Rattle.interner.proofs.Checks.{unsound, some_held, first_length, strings_decide}
use Rattle.interner.proofs.Strings.is_sound.Goals as goal

pub returns-then-self : goal.returns-then-self
returns-then-self c = sym (unsound (store_seen c.args.self.now) (λ p. omega (arith, p.bytes)))

pub returns-then-self-2 : goal.returns-then-self-2
returns-then-self-2 c = sym (unsound (store_seen c.args.self.now) (λ p. omega (arith, p.words)))

pub returns-then-self-eq0 : goal.returns-then-self-eq0
returns-then-self-eq0 c =
    let s = store_seen c.args.self.now in
    sym (unsound s (λ p. omega (arith, some_held s p)))

pub returns-then-self-eq0-2 : goal.returns-then-self-eq0-2
returns-then-self-eq0-2 c =
    rw (c.texts.ensures.spans, c.texts.ensures.bytes) at c.sound_up_to.ensures
    ∙ sym (strings_decide (store_seen c.args.self.now) (omega arith) (omega arith) (omega arith) c.if-self-eq0-2.true)

pub returns-else-self-eq0-2 : goal.returns-else-self-eq0-2
returns-else-self-eq0-2 c =
    let s = store_seen c.args.self.now in
    sym (unsound s (λ p. c.if-self-eq0-2.false (first_length s p)))
