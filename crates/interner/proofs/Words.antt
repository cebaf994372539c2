-- The words of the strings: their runs are the texts, so whether these are distinct decides soundness where all are legal.
use Rattle.std.specs.Prelude.{None}
use Prim.Native.Nat.{ℕ, zero, suc, ◌+◌, ◌-◌, ◌≤◌, ◌<◌}
use mathlib.Core.Path.{◌≡◌, refl, sym, ◌∙◌}
use mathlib.Core.Bool.{true, false}
use mathlib.Core.List.{List, [], ◌∷◌, map}
use native.Mathlib.Nat.{add-zero, zero-add}
use native.Mathlib.Omega.{arith}
use lib.ListN.{length, get_or, take, drop, set}
use lib.Seq.{get_or-set_same, get_or-set_other}
use Rattle.base.specs.Bytes.{Bytes, both}
use Rattle.base.proofs.Split.{by_bool, by_eq, both_left, both_right, both_of, both_no_left, clash}
use Rattle.text.specs.Check.{is_text}
use Rattle.distinct.specs.Distinct.{distinct, run_in, runs_in}
use Rattle.interner.specs.Strings.{spanned, bytes_at, span_at}
use Rattle.interner.specs.Sound.{handles, texts_in, span_within, sound_up_to}
use Rattle.interner.specs.Check.{legal_at, WordsNoted}
use Rattle.interner.proofs.Finds.{SpanWithin, lies_not, lies_bytes}
use Rattle.interner.proofs.Handles.{all_handles, all_made}
use Rattle.interner.proofs.Checks.{upto_parts}

runs_made : (bytes : Bytes) (f : ℕ → Bytes) (words : List ℕ) (n h : ℕ) → n ≤ length words → ((k : ℕ) → k < n → run_in bytes (get_or words k 0) ≡ f (h + k))
    → runs_in bytes (take n words) ≡ map f (handles n h)
unfolding handles
runs_made bytes f words zero h g e = refl
runs_made bytes f [] (suc n) h g e = absurd (omega arith)
runs_made bytes f (w ∷ ws) (suc n) h g e =
    let p : run_in bytes w ≡ f h = rw add-zero at (e 0 (omega arith)) in
    let q : runs_in bytes (take n ws) ≡ map f (handles n (suc h)) =
    runs_made bytes f ws n (suc h) (omega arith) (λ k l. let z : suc h + k ≡ h + suc k = omega arith in rw z (e (suc k) (omega arith))) in
    cc

module _ (spans : List ℕ) (bytes : Bytes) where
  pub noted_none : (words : List ℕ) → WordsNoted spans bytes words 0
  noted_none words j h = absurd (omega arith)

  pub noted_more : (words : List ℕ) (h w : ℕ) → h < length words → WordsNoted spans bytes words h → run_in bytes w ≡ bytes_at spans bytes h → WordsNoted spans bytes (set words h w) (h + 1)
  noted_more words h w g d e j a =
      by_eq j h
      (λ q. rw (q, get_or-set_same words h w 0 g) e)
      (λ q. rw (get_or-set_other words h j w 0 q) (d j (omega arith)))

  pub legal_missing : (h : ℕ) → None ≡ span_at spans bytes h → legal_at spans bytes h ≡ false
  unfolding legal_at
  legal_missing h e = both_no_left _ _ (lies_not spans bytes h e)

  pub legal_lies : (h start len : ℕ) (t : Bytes) → SpanWithin spans bytes h start len → t ≡ take (start + len - start) (drop start bytes) → legal_at spans bytes h ≡ is_text t
  unfolding legal_at both
  legal_lies h start len t l e =
      let b : bytes_at spans bytes h ≡ t = sym (e ∙ lies_bytes spans bytes h start len l) in
      rw (l.within, b)

  -- each of the first n strings is legal
  abbrev pub LegalUpTo : ℕ → Type 0
  LegalUpTo n = (k : ℕ) → k < n → legal_at spans bytes k ≡ true

  pub legal_more : (h : ℕ) → LegalUpTo h → legal_at spans bytes h ≡ true → LegalUpTo (h + 1)
  legal_more h p e k a = by_eq k h (λ q. rw q e) (λ q. p k (omega arith))

  -- one string that is not legal is enough
  pub not_legal : (n h : ℕ) → h < n → legal_at spans bytes h ≡ false → sound_up_to spans bytes n ≡ false
  unfolding legal_at
  not_legal n h g e =
      by_bool (sound_up_to spans bytes n)
      (λ p. let u = upto_parts spans bytes n p in clash (both_of (u.lies h g) (u.legal h g)) e)
      (λ p. p)

  pub words_decide : (words : List ℕ) (n : ℕ) → n ≤ length words → LegalUpTo n → WordsNoted spans bytes words n → sound_up_to spans bytes n ≡ distinct (runs_in bytes (take n words))
  unfolding sound_up_to span_within texts_in legal_at both
  words_decide words n g p d =
      let a = all_handles (spanned spans bytes) n 0 (λ k l m. both_left _ _ (p k (omega arith))) in
      let b = all_made is_text (bytes_at spans bytes) n 0 (λ k l m. both_right (spanned spans bytes k) _ (p k (omega arith))) in
      let r = runs_made bytes (bytes_at spans bytes) words n 0 g (λ k l. rw zero-add (d k l)) in
      rw (a, b, r)
