-- Which lines are refused, and by which number: 2, 3 and 4, each exactly where document 01 says, and no other.
use Rattle.std.specs.Prelude.{None, Option, Some}
use Prim.Native.Nat.{◌<◌, ◌≤◌}
use mathlib.Core.Path.{◌≡◌, refl, sym, ◌∙◌, ap}
use mathlib.Core.Bool.{Bool, true, false, not, cond}
use mathlib.Core.List.{List, [], ◌∷◌}
use mathlib.Core.Logic.{◌↔◌, ◌⊎◌, inl, inr}
use native.Mathlib.Omega.{arith}
use lib.Dec.{eqb}
use lib.ListN.{length}
use Rattle.base.specs.Ascii.{ascii}
use Rattle.base.specs.Bytes.{Bytes, all, same}
use Rattle.base.proofs.Split.{no, clash}
use Rattle.refusal.specs.declared.Refusal.{Refusal}
use Rattle.refusal.specs.declared.Refusal.TheVariants.{LongLine, NotText, NotEventLine}
use Rattle.line.specs.Line.{fields}
use Rattle.event.specs.Event.{Attr, Event, closes, others, Reading, reads, refused, unended, body, legal_line, is_empty, attrs_of, none_twice, starts_with, starts_from, alone, event_from, event_in, event_of, line_of}
use Rattle.event.specs.Legal.{legal_event}
use Rattle.event.proofs.Events.{judge, judged_long, judged_illegal, reads_back, writes_back}

-- ---- a legal line of legal length is an event, or refused 4

data Fourth : Reading → Type 0 where
  is_event : (e : Event) → Fourth (reads e)
  is_none : Fourth (refused NotEventLine)

by_cond : (t : Bool) {a b : Reading} → Fourth a → Fourth b → Fourth (cond t a b)
by_cond true x y = x
by_cond false x y = y

starts_with_fourth : (empty : Bool) (n : Bytes) (o : Option (List Attr)) → Fourth (starts_with empty n o)
starts_with_fourth empty n None = is_none
starts_with_fourth empty n (Some attrs) = by_cond (none_twice attrs) (is_event _) is_none

starts_from_fourth : (empty : Bool) (fs : List Bytes) → Fourth (starts_from empty fs)
starts_from_fourth empty [] = is_none
starts_from_fourth empty (n ∷ fs) = by_cond (is_empty n) is_none (starts_with_fourth empty n (attrs_of fs))

alone_fourth : (e : Event) (fs : List Bytes) → Fourth (alone e fs)
alone_fourth e [] = is_event e
alone_fourth e (f ∷ fs) = is_none

event_from_fourth : (fs : List Bytes) → Fourth (event_from fs)
event_from_fourth [] = is_none
event_from_fourth (w ∷ fs) =
    by_cond (same w (ascii "open")) (starts_from_fourth false fs)
    (by_cond (same w (ascii "empty")) (starts_from_fourth true fs)
    (by_cond (same w (ascii "close")) (alone_fourth closes fs)
    (by_cond (same w (ascii "other")) (alone_fourth others fs)
    is_none)))

event_in_fourth : (o : Option Bytes) → Fourth (event_in o)
event_in_fourth None = is_none
event_in_fourth (Some t) = by_cond (all (λ b. not (eqb b 10)) t) (event_from_fourth (fields t)) is_none

fourth : {C : Type 0} {r : Reading} → Fourth r → ((e : Event) → r ≡ reads e → C) → (r ≡ refused NotEventLine → C) → C
fourth (is_event e) f g = f e refl
fourth is_none f g = g refl

-- ---- every line, by what it is

pub by_line : {C : Type 0} (s : Bytes)
    → (16384 < length (body s) → event_of s ≡ refused LongLine → C)
    → (length (body s) ≤ 16384 → legal_line (body s) ≡ false → event_of s ≡ refused NotText → C)
    → (length (body s) ≤ 16384 → legal_line (body s) ≡ true → event_of s ≡ refused NotEventLine → C)
    → ((e : Event) → length (body s) ≤ 16384 → legal_line (body s) ≡ true → event_of s ≡ reads e → C)
    → C
by_line s f g k m =
    judge s f g
    (λ h t x. fourth (event_in_fourth (unended s)) (λ e q. m e h t (x ∙ q)) (λ q. k h t (x ∙ q)))

-- 2: "over 16,384 bytes without its line feed"
pub long_exactly : (s : Bytes) → (event_of s ≡ refused LongLine) ↔ (16384 < length (body s))
long_exactly s = ((λ q. by_line s (λ h x. h) (λ h k x. no (cc)) (λ h k x. no (cc)) (λ e h k x. no (cc))), judged_long s)

-- 3: "not text", where it is not 2
pub not_text_exactly : (s : Bytes) → (event_of s ≡ refused NotText) ↔ ((length (body s) ≤ 16384) × (legal_line (body s) ≡ false))
not_text_exactly s =
    ((λ q. by_line s (λ h x. no (cc)) (λ h k x. (h, k)) (λ h k x. no (cc)) (λ e h k x. no (cc))), (λ w. judged_illegal s w.0 w.1))

-- 4: "not an event line, or an attribute twice", where it is neither 2 nor 3: the line of no legal event
pub not_event_exactly : (s : Bytes) → (event_of s ≡ refused NotEventLine)
    ↔ ((length (body s) ≤ 16384) × (legal_line (body s) ≡ true) × ((e : Event) → legal_event e ≡ true → line_of e ≡ s → ⊥))
not_event_exactly s = (
  (λ q. by_line s (λ h x. no (cc)) (λ h k x. no (cc))
      (λ h k x. (h, k, λ e l w. let z : refused NotEventLine ≡ reads e = sym q ∙ sym (ap event_of w) ∙ reads_back e l in no (cc)))
      (λ e h k x. no (cc))),
  (λ w. by_line s
      (λ h x. no (omega (arith, w.0)))
      (λ h k x. clash w.1 k)
      (λ h k x. x)
      (λ e h k x. let b = writes_back s e x in absurd (w.2 e b.1 b.0))),
)

-- no line is refused otherwise
pub no_other : (s : Bytes) (r : Refusal) → event_of s ≡ refused r → (r ≡ LongLine) ⊎ ((r ≡ NotText) ⊎ (r ≡ NotEventLine))
no_other s r q =
    by_line s
    (λ h x. inl (cc))
    (λ h k x. inr (inl (cc)))
    (λ h k x. inr (inr (cc)))
    (λ e h k x. no (cc))
