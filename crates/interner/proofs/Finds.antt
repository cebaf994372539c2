-- Laws of where a string lies and of the search for a text.
use Rattle.std.specs.Prelude.{None, Some}
use Prim.Native.Nat.{ℕ, zero, suc, ◌+◌, ◌-◌, ◌*◌, ◌≤◌, ◌<◌}
use mathlib.Core.Path.{◌≡◌, refl, ◌∙◌}
use mathlib.Core.Bool.{true, false}
use mathlib.Core.List.{List}
use native.Mathlib.Omega.{arith}
use lib.ListN.{length, take, drop}
use borrow.Author.Tests.{leb-true, le-leb, lt-leb}
use Rattle.base.specs.Bytes.{Bytes, both, same}
use Rattle.base.proofs.Split.{by_bool, both_right, both_of, both_no_left, both_no_right, no}
use Rattle.little.specs.declared.Span.{Span}
use Rattle.interner.specs.Strings.{start_of, length_of, spanned, bytes_at, span_at, string_at, is_at, find_from}

module _ (spans : List ℕ) (bytes : Bytes) where
  -- ---- where a string lies

  pub spanned_yes : (h : ℕ) → 2 * h + 2 ≤ length spans → start_of spans h + length_of spans h ≤ length bytes → spanned spans bytes h ≡ true
  unfolding spanned
  spanned_yes h p q = both_of (le-leb _ _ p) (le-leb _ _ q)

  pub spanned_bytes : (h : ℕ) → spanned spans bytes h ≡ true → start_of spans h + length_of spans h ≤ length bytes
  unfolding spanned
  spanned_bytes h e = leb-true _ _ (both_right _ _ e)

  pub no_words : (h : ℕ) → length spans < 2 * h + 2 → spanned spans bytes h ≡ false
  unfolding spanned
  no_words h p = both_no_left _ _ (lt-leb _ _ p)

  pub no_bytes : (h : ℕ) → length bytes < start_of spans h + length_of spans h → spanned spans bytes h ≡ false
  unfolding spanned
  no_bytes h p = both_no_right _ (lt-leb _ _ p)

  pub part : (h : ℕ) → spanned spans bytes h ≡ true → span_at spans bytes h ≡ Some (record { start = start_of spans h; len = length_of spans h })
  unfolding span_at
  part h e = rw e

  pub missing : (h : ℕ) → spanned spans bytes h ≡ false → span_at spans bytes h ≡ None
  unfolding span_at
  missing h e = rw e

  -- a string that lies somewhere lies within the bytes, where its words say
  pub record SpanWithin (h start len : ℕ) : Type 0 where
    pub within : spanned spans bytes h ≡ true
    pub starts : start ≡ start_of spans h
    pub long : len ≡ length_of spans h

  pub lies : (h : ℕ) (s : Span) → Some s ≡ span_at spans bytes h → SpanWithin h s.start s.len
  lies h s e =
      by_bool (spanned spans bytes h)
      (λ p. let q = part h p in record { within = p; starts = cc; long = cc })
      (λ p. let q = missing h p in no (cc))

  pub lies_not : (h : ℕ) → None ≡ span_at spans bytes h → spanned spans bytes h ≡ false
  lies_not h e = by_bool (spanned spans bytes h) (λ p. let q = part h p in no (cc)) (λ p. p)

  pub within_bytes : (h start len : ℕ) → SpanWithin h start len → start + len ≤ length bytes
  within_bytes h start len l = omega (arith, spanned_bytes h l.within, l.starts, l.long)

  pub span_bytes : (h : ℕ) (s : Span) → Some s ≡ span_at spans bytes h → s.start + s.len ≤ length bytes
  span_bytes h s e = within_bytes h s.start s.len (lies h s e)

  -- ---- the string

  -- the part of the bytes from its start to its end
  pub lies_bytes : (h start len : ℕ) → SpanWithin h start len → take (start + len - start) (drop start bytes) ≡ bytes_at spans bytes h
  lies_bytes h start len l = let n : start + len - start ≡ len = omega arith in rw (n, l.starts, l.long)

  pub string_lies : (h : ℕ) (s : Span) → Some s ≡ span_at spans bytes h → Some (take (s.start + s.len - s.start) (drop s.start bytes)) ≡ string_at spans bytes h
  unfolding string_at
  string_lies h s e = let l = lies h s e in rw (l.within, lies_bytes h s.start s.len l)

  pub string_missing : (h : ℕ) → None ≡ span_at spans bytes h → None ≡ string_at spans bytes h
  unfolding string_at
  string_missing h e = rw (lies_not h e)

  -- a string that was found
  pub record StringHeld (h : ℕ) (t : Bytes) : Type 0 where
    pub within : spanned spans bytes h ≡ true
    pub string : t ≡ bytes_at spans bytes h

  pub found : (h : ℕ) (t : Bytes) → Some t ≡ string_at spans bytes h → StringHeld h t
  unfolding string_at
  found h t e =
      by_bool (spanned spans bytes h)
      (λ p. record { within = p; string = let q : Some t ≡ Some (bytes_at spans bytes h) = rw p at e in cc })
      (λ p. let q : Some t ≡ None = rw p at e in no (cc))

  pub found_not : (h : ℕ) → None ≡ string_at spans bytes h → spanned spans bytes h ≡ false
  unfolding string_at
  found_not h e = by_bool (spanned spans bytes h) (λ p. let q : None ≡ Some (bytes_at spans bytes h) = rw p at e in no (cc)) (λ p. p)

  -- ---- whether it is a text

  pub at_string : (t : Bytes) (h : ℕ) (u : Bytes) → Some u ≡ string_at spans bytes h → same t u ≡ is_at spans bytes t h
  unfolding is_at both
  at_string t h u e = let f = found h u e in rw (f.within, ← f.string)

  pub at_missing : (t : Bytes) (h : ℕ) → spanned spans bytes h ≡ false → is_at spans bytes t h ≡ false
  unfolding is_at
  at_missing t h e = both_no_left _ _ e

  -- ---- the search

  module _ (t : Bytes) where
    pub find_none : (h : ℕ) → find_from spans bytes t 0 h ≡ None
    unfolding find_from
    find_none h = refl

    pub find_here : (n h : ℕ) → is_at spans bytes t h ≡ true → find_from spans bytes t (suc n) h ≡ Some h
    unfolding find_from
    find_here n h e = rw e

    pub find_on : (n h : ℕ) → is_at spans bytes t h ≡ false → find_from spans bytes t (suc n) h ≡ find_from spans bytes t n (suc h)
    unfolding find_from
    find_on n h e = rw e

    -- past the spans there is none
    pub find_past : (n h : ℕ) → length spans < 2 * h + 2 → find_from spans bytes t n h ≡ None
    find_past zero h p = find_none h
    find_past (suc n) h p = find_on n h (at_missing t h (no_words h p)) ∙ find_past n (suc h) (omega arith)
