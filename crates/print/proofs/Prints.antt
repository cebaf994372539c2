-- Laws of printing: piece after piece, lent no bytes, lent the output, and the pieces of a line.
use Rattle.std.specs.Prelude.{None, Option, Some}
use Prim.Native.Nat.{ℕ, ◌+◌, ◌-◌, ◌≤◌, ◌<◌}
use mathlib.Core.Path.{◌≡◌, refl, sym, ◌∙◌, ap}
use mathlib.Core.List.{List, [], ◌∷◌, ◌++◌, append_assoc, append-nil}
use native.Mathlib.Omega.{arith}
use lib.ListN.{length, length-append}
use borrow.Author.Tests.{le-leb, lt-leb}
use Rattle.base.specs.Bytes.{Bytes}
use Rattle.base.proofs.Split.{by_le}
use Rattle.line.specs.Line.{tabbed, line}
use Rattle.little.specs.Little.{over}
use Rattle.little.proofs.Overs.{over_none, over_nothing, over_over, length_over}
use Rattle.print.specs.Print.{Printed, placed_at, print_step, print, joined_pieces, tab, tabs, line_pieces}
use Rattle.print.specs.Piece.{behind}

-- ---- the room behind a piece

pub behind_fits : (r n : ℕ) → n ≤ r → behind (Some r) n ≡ Some (r - n)
unfolding behind
behind_fits r n h = rw (le-leb n r h)

pub behind_past : (r n : ℕ) → r < n → behind (Some r) n ≡ None
unfolding behind
behind_past r n h = rw (lt-leb n r h)

pub behind_full : (n : ℕ) → behind None n ≡ None
unfolding behind
behind_full n = refl

pub behind_nothing : (room : Option ℕ) → behind room 0 ≡ room
behind_nothing (Some r) = let d : r - 0 ≡ r = omega arith in rw (behind_fits r 0 (omega arith), d)
behind_nothing None = behind_full 0

-- two pieces leave the room that both together leave
pub behind_both : (room : Option ℕ) (m n : ℕ) → behind (behind room m) n ≡ behind room (m + n)
behind_both None m n = rw (behind_full m, behind_full n, behind_full (m + n))
behind_both (Some r) m n =
    by_le m r
    (λ h. let w = behind_fits r m h in
    by_le (m + n) r
    (λ g. let d : r - m - n ≡ r - (m + n) = omega arith in rw (w, behind_fits (r - m) n (omega arith), behind_fits r (m + n) g, d))
    (λ g. rw (w, behind_past (r - m) n (omega arith), behind_past r (m + n) g)))
    (λ h. rw (behind_past r m h, behind_full n, behind_past r (m + n) (omega arith)))

-- ---- one piece

pub placed_within : (out : Bytes) (at : ℕ) (x : Bytes) → at + length x ≤ length out → placed_at out at x ≡ over out at x
unfolding placed_at
placed_within out at x h = rw (le-leb (at + length x) (length out) h)

pub placed_past : (out : Bytes) (at : ℕ) (x : Bytes) → length out < at + length x → placed_at out at x ≡ out
unfolding placed_at
placed_past out at x h = rw (lt-leb (at + length x) (length out) h)

placed_none : (at : ℕ) (x : Bytes) → placed_at [] at x ≡ []
placed_none at x = by_le (at + length x) 0 (λ h. placed_within [] at x h ∙ over_none at x) (λ h. placed_past [] at x h)

length_placed : (out : Bytes) (at : ℕ) (x : Bytes) → length (placed_at out at x) ≡ length out
length_placed out at x =
    by_le (at + length x) (length out)
    (λ h. ap length (placed_within out at x h) ∙ length_over out at x)
    (λ h. ap length (placed_past out at x h))

module _ (cap : ℕ) (x out : Bytes) where
  pub step_fits : (r : ℕ) → length x ≤ r → print_step cap x (record { out = out; room = Some r }) ≡ record { out = placed_at out (cap - r) x; room = Some (r - length x) }
  unfolding print_step
  step_fits r h = rw (le-leb (length x) r h)

  pub step_past : (r : ℕ) → r < length x → print_step cap x (record { out = out; room = Some r }) ≡ record { out = out; room = None }
  unfolding print_step
  step_past r h = rw (lt-leb (length x) r h)

  pub step_full : print_step cap x (record { out = out; room = None }) ≡ record { out = out; room = None }
  unfolding print_step
  step_full = refl

  pub length_step : (room : Option ℕ) → length (print_step cap x (record { out = out; room = room })).out ≡ length out
  length_step None = rw step_full
  length_step (Some r) =
      by_le (length x) r
      (λ h. rw (step_fits r h) (length_placed out (cap - r) x))
      (λ h. rw (step_past r h))

  -- the room does not go by the output
  pub room_step : (room : Option ℕ) → (print_step cap x (record { out = out; room = room })).room ≡ behind room (length x)
  room_step None = rw (step_full, behind_full)
  room_step (Some r) =
      by_le (length x) r
      (λ h. rw (step_fits r h, behind_fits r (length x) h))
      (λ h. rw (step_past r h, behind_past r (length x) h))

-- ---- pieces one after the other

pub print_append : (cap : ℕ) (xs ys : List Bytes) (p : Printed) → print cap (xs ++ ys) p ≡ print cap ys (print cap xs p)
unfolding print
print_append cap [] ys p = refl
print_append cap (x ∷ xs) ys p = print_append cap xs ys (print_step cap x p)

pub length_print : (cap : ℕ) (xs : List Bytes) (p : Printed) → length (print cap xs p).out ≡ length p.out
unfolding print
length_print cap [] p = refl
length_print cap (x ∷ xs) p = length_print cap xs (print_step cap x p) ∙ length_step cap x p.out p.room

pub joined_append : (xs ys : List Bytes) → joined_pieces (xs ++ ys) ≡ joined_pieces xs ++ joined_pieces ys
unfolding joined_pieces
joined_append [] ys = refl
joined_append (x ∷ xs) ys = rw (joined_append xs ys) (sym (append_assoc x (joined_pieces xs) (joined_pieces ys)))

-- the room that is left goes by the length alone
pub room_print : (cap : ℕ) (xs : List Bytes) (p : Printed) → (print cap xs p).room ≡ behind p.room (length (joined_pieces xs))
unfolding print joined_pieces
room_print cap [] p = sym (behind_nothing p.room)
room_print cap (x ∷ xs) p =
    rw (room_print cap xs (print_step cap x p), room_step cap x p.out p.room, behind_both, length-append)

-- ---- lent no bytes: the length is measured

step_none : (cap : ℕ) (x : Bytes) (room : Option ℕ) → print_step cap x (record { out = []; room = room }) ≡ record { out = []; room = behind room (length x) }
step_none cap x None = rw (step_full, behind_full)
step_none cap x (Some r) =
    by_le (length x) r
    (λ h. rw (step_fits cap x [] r h, behind_fits r (length x) h, placed_none))
    (λ h. rw (step_past cap x [] r h, behind_past r (length x) h))

pub measured : (cap : ℕ) (xs : List Bytes) (room : Option ℕ) → print cap xs (record { out = []; room = room }) ≡ record { out = []; room = behind room (length (joined_pieces xs)) }
unfolding print joined_pieces
measured cap [] room = rw behind_nothing
measured cap (x ∷ xs) room = rw (step_none cap x room, measured cap xs (behind room (length x)), behind_both, length-append)

-- ---- lent the output: what fits is written

written_of : (cap : ℕ) (xs : List Bytes) (out : Bytes) (r : ℕ) → cap ≡ length out → length (joined_pieces xs) ≤ r → r ≤ cap
    → print cap xs (record { out = out; room = Some r }) ≡ record { out = over out (cap - r) (joined_pieces xs); room = Some (r - length (joined_pieces xs)) }
unfolding print joined_pieces
written_of cap [] out r c h g = let d : r - 0 ≡ r = omega arith in rw (over_nothing, d)
written_of cap (x ∷ xs) out r c h g =
    let l : length x + length (joined_pieces xs) ≤ r = rw length-append at h in
    let at = cap - r in
    let p : placed_at out at x ≡ over out at x = placed_within out at x (omega arith) in
    let n : cap ≡ length (over out at x) = rw length_over c in
    let a : cap - (r - length x) ≡ at + length x = omega arith in
    let d : r - length x - length (joined_pieces xs) ≡ r - (length x + length (joined_pieces xs)) = omega arith in
    rw (step_fits cap x out r (omega arith), p, written_of cap xs (over out at x) (r - length x) n (omega arith) (omega arith), a, over_over, length-append, d)

pub written : (xs : List Bytes) (out : Bytes) (r : ℕ) → length (joined_pieces xs) ≤ r → r ≤ length out
    → print (length out) xs (record { out = out; room = Some r }) ≡ record { out = over out (length out - r) (joined_pieces xs); room = Some (r - length (joined_pieces xs)) }
written xs out r h g = written_of (length out) xs out r refl h g

-- ---- the pieces of a line

pub tabs_append : (fs gs : List Bytes) → tabs (fs ++ gs) ≡ tabs fs ++ tabs gs
unfolding tabs
tabs_append [] gs = refl
tabs_append (f ∷ fs) gs = ap (λ (t : List Bytes). tab ∷ f ∷ t) (tabs_append fs gs)

joined_tabs : (f : Bytes) (fs : List Bytes) → f ++ joined_pieces (tabs fs) ≡ tabbed (f ∷ fs)
unfolding joined_pieces tabs tabbed
joined_tabs f [] = append-nil f
joined_tabs f (g ∷ fs) = ap (λ (t : Bytes). f ++ (9 ∷ t)) (joined_tabs g fs)

pub line_pieces_lem : (f : Bytes) (fs : List Bytes) → joined_pieces (line_pieces (f ∷ fs)) ≡ line (f ∷ fs)
unfolding joined_pieces line_pieces line
line_pieces_lem f fs = rw (joined_append (tabs fs) ((10 ∷ []) ∷ []), ← append_assoc f (joined_pieces (tabs fs)) (10 ∷ []), joined_tabs f fs)
