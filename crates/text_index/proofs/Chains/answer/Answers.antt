-- `answer`: the text is held, there is room for it, or there is none.
use Prim.Native.Nat.{ℕ, zero, suc, ◌+◌, ◌<◌}
use mathlib.Core.Path.{◌≡◌, refl}
use mathlib.Core.List.{List}
use native.Mathlib.Omega.{arith}
use borrow.Author.Tests.{lt-ltb, le-ltb}
use Rattle.std.specs.Prelude.{None, Option, Some, IfSome}
use Rattle.std.specs.Bool.{then_some}
use Rattle.std.specs.Option.{option_or}
use Rattle.base.specs.Bytes.{Bytes}
use Rattle.base.proofs.Split.{by_bool}
use Rattle.interner.specs.Lent.{store_seen, find_held}
use Rattle.interner.specs.Strings.{Store, is_at, find_from, find_in, used_of, text_room, taken_as, intern}
use Rattle.interner.specs.Texts.{handle_answered}
use Rattle.interner.proofs.Finds.{find_none, find_here, find_on}
use Rattle.text_index.specs.Chained.{told_apart}
use Rattle.text_index.proofs.Chains.answer.Goals as goal

answered : (s : Store) (t : Bytes) (found : Option ℕ) → option_or found (then_some (text_room s t) s.strings) ≡ handle_answered (taken_as s t found).answer
unfolding taken_as
answered s t (Some h) = refl
answered s t None = by_bool (text_room s t) (λ e. rw e) (λ e. rw e)

-- what is found among some handles is one of them
found_below : (spans : List ℕ) (bytes t : Bytes) (n h : ℕ) → IfSome (find_from spans bytes t n h) (λ k. k < h + n)
found_below spans bytes t zero h = rw (find_none spans bytes t h) (tt)
found_below spans bytes t (suc n) h =
    let m : suc h + n ≡ h + suc n = omega arith in
    by_bool (is_at spans bytes t h)
    (λ e. rw (find_here spans bytes t n h e) (omega arith))
    (λ e. rw (find_on spans bytes t n h e) (rw m at (found_below spans bytes t n (suc h))))

held_below : (s : Store) (t : Bytes) → IfSome (find_held s t) (λ h. h < s.strings)
unfolding find_in
held_below s t =
    let z : 0 + s.strings ≡ s.strings = omega arith in
    rw z at (found_below s.spans (used_of s) t s.strings 0)

told : (s : Store) (t : Bytes) (found : Option ℕ) → IfSome found (λ h. h < s.strings) → told_apart s.strings (option_or found (then_some (text_room s t) s.strings)) ≡ (taken_as s t found).answer
unfolding taken_as told_apart
told s t (Some h) b = rw (lt-ltb h s.strings b)
told s t None b = by_bool (text_room s t) (λ e. rw (e, le-ltb s.strings s.strings (omega arith))) (λ e. rw e)

pub returns-clause-handle : goal.returns-clause-handle
unfolding intern
returns-clause-handle c = λ g. rw (c.or.ensures, c.then_some-next.ensures, c.has_room.ensures, c.find.ensures g) (answered (store_seen c.args.strings.now) c.args.text.now _)

pub returns-clause-told : goal.returns-clause-told
unfolding intern
returns-clause-told c = λ g.
    let s = store_seen c.args.strings.now in
    rw (c.or.ensures, c.then_some-next.ensures, c.has_room.ensures, c.find.ensures g) (told s c.args.text.now _ (held_below s c.args.text.now))
