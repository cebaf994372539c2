-- Laws of whole lines: where a line ends, and which event its first words make.
use Rattle.std.specs.Prelude.{None, Option, Some}
use Prim.Native.Nat.{ℕ, suc, ◌+◌, ◌-◌, ◌<◌, ◌≤◌}
use mathlib.Core.Path.{◌≡◌, refl, sym, ◌∙◌, ap}
use mathlib.Core.Bool.{Bool, true, false, not, cond}
use mathlib.Core.List.{List, [], ◌∷◌, ◌++◌}
use native.Mathlib.Omega.{arith}
use lib.Dec.{eqb}
use lib.ListN.{length, get_or, take, length-append}
use lib.Seq.{take-suc, take-length, take-append_seam, get_or-append_seam}
use borrow.Author.Tests.{ne_eqb}
use Rattle.base.specs.Ascii.{ascii}
use Rattle.base.specs.Bytes.{Bytes, all, both, either, same}
use Rattle.base.proofs.Split.{by_eq, clash, both_of}
use Rattle.text.specs.Char.{from_to}
use Rattle.text.specs.Check.{is_plain}
use Rattle.text.proofs.Texts.{all_imp}
use Rattle.text.proofs.PlainBytes.{plain_text}
use Rattle.refusal.specs.declared.Refusal.TheVariants.{LongLine, NotText, NotEventLine}
use Rattle.line.specs.Line.{fields}
use Rattle.event.specs.Event.{Reading, refused, unended, body, starts_from, event_from, event_in, event_of, legal_line}
use Rattle.event.proofs.Parts.{unended_line, unended_some}
use Rattle.event.proofs.Events.{judged_long, judged_illegal, judged_legal}
use Rattle.event_scan.specs.Scan.{lone}

-- ---- where a line ends

module _ (s : Bytes) where
  pub ended_some : 0 < length s → get_or s (length s - 1) 0 ≡ 10 → unended s ≡ Some (take (length s - 1) s)
  ended_some h e =
      let n : suc (length s - 1) ≡ length s = omega arith in
      let q : s ≡ take (length s - 1) s ++ (10 ∷ []) = sym (take-length s) ∙ ap (λ k. take k s) (sym n) ∙ take-suc s (length s - 1) 0 (omega arith) ∙ rw e in
      ap unended q ∙ unended_line (take (length s - 1) s)

  pub ended_none : (get_or s (length s - 1) 0 ≡ 10 → ⊥) → unended s ≡ None
  ended_none n = go (unended s) refl
    where
      last : (t : Bytes) → get_or (t ++ (10 ∷ [])) (length (t ++ (10 ∷ [])) - 1) 0 ≡ 10
      last t = let k : length (t ++ (10 ∷ [])) - 1 ≡ length t = rw length-append (omega arith) in rw k (get_or-append_seam t 10 [] 0)

      go : (o : Option Bytes) → unended s ≡ o → unended s ≡ None
      go None p = p
      go (Some t) p = absurd (n (rw (unended_some s t p) (last t)))

-- what is judged, as a part of the line
pub record Judged (s : Bytes) : Type 0 where
  pub part : take (length (body s)) s ≡ body s
  pub within : length (body s) ≤ length s
  pub whole : length (body s) ≡ length s → unended s ≡ None
  pub cut : (length (body s) ≡ length s → ⊥) → unended s ≡ Some (body s)

pub judged : (s : Bytes) → Judged s
judged s = go (unended s) refl
  where
    go : (o : Option Bytes) → unended s ≡ o → Judged s
    go None p =
        let b : body s ≡ s = rw p in
        record { part = rw b (take-length s); within = rw b (omega arith); whole = λ e. p; cut = λ n. absurd (n (rw b)) }
    go (Some t) p =
        let b : body s ≡ t = rw p in
        let q = unended_some s t p in
        let l : length s ≡ length t + 1 = ap length q ∙ length-append t (10 ∷ []) in
        record {
          part = rw b (ap (take (length t)) q ∙ take-append_seam t (10 ∷ []));
          within = rw b (omega arith);
          whole = λ e. absurd (let z : length t ≡ length s = sym (ap length b) ∙ e in omega arith);
          cut = λ n. rw (b, p);
        }

-- ---- the first word

either_way : {r : Reading} (a b : Bool) → cond a r (cond b r r) ≡ r
either_way true b = refl
either_way false true = refl
either_way false false = refl

module _ (s : Bytes) (w : Bytes) (gs : List Bytes) (e : fields s ≡ w ∷ gs) where
  pub event_opens : same w (ascii "open") ≡ true → starts_from false gs ≡ event_from (fields s)
  event_opens h = sym (rw (e, h))

  pub event_empties : same w (ascii "open") ≡ false → same w (ascii "empty") ≡ true → starts_from true gs ≡ event_from (fields s)
  event_empties h k = sym (rw (e, h, k))

  pub event_longer : (f : Bytes) (hs : List Bytes) → same w (ascii "open") ≡ false → same w (ascii "empty") ≡ false → gs ≡ f ∷ hs → refused NotEventLine ≡ event_from (fields s)
  event_longer f hs h k m = sym (rw (e, m, h, k) (either_way (same w (ascii "close")) (same w (ascii "other"))))

  pub event_word : same w (ascii "open") ≡ false → same w (ascii "empty") ≡ false → gs ≡ [] → lone w ≡ event_from (fields s)
  unfolding lone
  event_word h k m = sym (rw (e, m, h, k))

-- ---- a line of plain bytes

-- a byte that is not plain is nowhere in it
plain_lacks : (c : ℕ) → is_plain c ≡ false → (t : Bytes) → all is_plain t ≡ true → all (λ b. not (eqb b c)) t ≡ true
plain_lacks c e t h =
    all_imp is_plain (λ b. not (eqb b c))
    (λ b p. by_eq b c (λ q. clash p (rw q e)) (λ n. rw (ne_eqb b c n))) t h

not_plain_10 : is_plain 10 ≡ false
unfolding is_plain from_to both either
not_plain_10 = refl

not_plain_13 : is_plain 13 ≡ false
unfolding is_plain from_to both either
not_plain_13 = refl

module _ (t : Bytes) (h : all is_plain t ≡ true) where
  pub plain_legal : legal_line t ≡ true
  unfolding legal_line
  plain_legal = both_of (plain_text t h) (plain_lacks 13 not_plain_13 t h)

  pub plain_whole : all (λ b. not (eqb b 10)) t ≡ true
  plain_whole = plain_lacks 10 not_plain_10 t h

-- ---- the order of the checks, where n bytes of the line are judged

module _ (s : Bytes) (n : ℕ) (e : n ≡ length (body s)) where
  pub judged_part : take n s ≡ body s
  judged_part = ap (λ k. take k s) e ∙ (judged s).part

  pub scan_long : 16384 < n → refused LongLine ≡ event_of s
  scan_long h = sym (judged_long s (omega arith))

  module _ (h : n ≤ 16384) where
    pub scan_illegal : legal_line (take n s) ≡ false → refused NotText ≡ event_of s
    scan_illegal k = sym (judged_illegal s (omega arith) (sym (ap legal_line judged_part) ∙ k))

    module _ (k : legal_line (take n s) ≡ true) where
      in_line : event_of s ≡ event_in (unended s)
      in_line = judged_legal s (omega arith) (sym (ap legal_line judged_part) ∙ k)

      pub scan_open : n ≡ length s → refused NotEventLine ≡ event_of s
      scan_open q = sym (in_line ∙ rw ((judged s).whole (sym e ∙ q)))

      module _ (q : n ≡ length s → ⊥) where
        in_body : event_of s ≡ event_in (Some (take n s))
        in_body = in_line ∙ rw ((judged s).cut (λ z. q (e ∙ z)), judged_part)

        pub scan_broken : all (λ b. not (eqb b 10)) (take n s) ≡ false → refused NotEventLine ≡ event_of s
        scan_broken f = sym (in_body ∙ rw f)

        pub reads_event : all (λ b. not (eqb b 10)) (take n s) ≡ true → event_from (fields (take n s)) ≡ event_of s
        reads_event f = sym (in_body ∙ rw f)
