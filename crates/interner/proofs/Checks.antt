-- The check of the strings, handle by handle, decides their soundness.
use Rattle.std.specs.Prelude.{None, Option, Some, not}
use Rattle.std.specs.Option.{is_some}
use Prim.Native.Nat.{ℕ, zero, suc, ◌+◌, ◌-◌, ◌*◌, ◌≤◌, ◌<◌}
use mathlib.Core.Path.{◌≡◌, refl, sym, ◌∙◌, ap}
use mathlib.Core.Bool.{Bool, true, false}
use mathlib.Core.List.{List, [], ◌∷◌, map}
use native.Mathlib.Numerals.{add-one}
use native.Mathlib.Omega.{arith}
use native.Mathlib.Nat.{zero-add}
use Rattle.std.specs.Bool.{MatchBool}
use Rattle.std.specs.List.{AllWithin, HoldsAt, range_with_len}
use Rattle.std.proofs.lemmas.List.FromFn.{length-range_with_len, get_or-range_with_len}
use lib.ListN.{length, drop, length-take, length-drop, length-map}
use borrow.Author.Tests.{le-leb}
use Rattle.base.specs.Bytes.{Bytes, both, same}
use Rattle.base.proofs.Split.{by_bool, by_lt, both_left, both_right, both_of, both_no_left, clash, same_test}
use Rattle.base.proofs.Lists.{same_yes, same_refl, same_swap}
use Rattle.text.specs.Check.{is_text}
use Rattle.interner.specs.Texts.{handle_of}
use Rattle.interner.specs.Strings.{start_of, length_of, spanned, bytes_at, string_at, find_in, Store, used_of}
use Rattle.distinct.specs.Distinct.{differs, distinct}
use Rattle.distinct.proofs.Orders.{distinct_by, distinct_at}
use Rattle.interner.specs.Sound.{handles, texts_in, texts_of, counts_within, span_within, sound_up_to, first_empty, sound_strings}
use Rattle.interner.specs.Check.{is_not, new_at}
use Rattle.interner.proofs.Finds.{found, found_not, spanned_bytes}
use Rattle.interner.proofs.Handles.{length_handles, all_handles, each_handle, all_made, each_made, made_at}
use Rattle.interner.proofs.Held.{same_not, differs_of, not_held, held_not}
use Rattle.interner.proofs.Interns.{Sound, sound_parts, length_texts, placed, finds_from}

not_placed : (o : Option ℕ) → is_not (placed 0 o) ≡ true → o ≡ None
not_placed None e = refl
not_placed (Some k) e = clash e refl

pub none_not : (o : Option ℕ) (r : Bool) → is_some o ≡ not r → r ≡ is_not o
none_not None true e = refl
none_not None false e = clash e refl
none_not (Some k) true e = clash (sym e) refl
none_not (Some k) false e = refl

module _ (f : ℕ → Bytes) where
  pub distinct_made : (n h : ℕ) → ((j k : ℕ) → h ≤ j → j < k → k < h + n → same (f j) (f k) ≡ false) → distinct (map f (handles n h)) ≡ true
  distinct_made n h g =
      distinct_by (map f (handles n h))
      (λ j k l m.
      let b : k < n = omega (arith, length-map (handles n h) f, length_handles n h) in
      rw (made_at f [] n h j (omega arith), made_at f [] n h k b) (g (h + j) (h + k) (omega arith) (omega arith) (omega arith)))

  pub distinct_each : (n h : ℕ) → distinct (map f (handles n h)) ≡ true → (j k : ℕ) → h ≤ j → j < k → k < h + n → same (f j) (f k) ≡ false
  distinct_each n h e j k a b d =
      let p : h + (j - h) ≡ j = omega arith in
      let q : h + (k - h) ≡ k = omega arith in
      let r = distinct_at (map f (handles n h)) e (j - h) (k - h) (omega arith) (omega (arith, length-map (handles n h) f, length_handles n h)) in
      rw (made_at f [] n h (j - h) (omega arith), made_at f [] n h (k - h) (omega arith), p, q) at r

module _ (spans : List ℕ) (bytes : Bytes) where
  -- the soundness of the first n strings, string by string
  pub record UpTo (n : ℕ) : Type 0 where
    pub lies : (k : ℕ) → k < n → spanned spans bytes k ≡ true
    pub legal : (k : ℕ) → k < n → is_text (bytes_at spans bytes k) ≡ true
    pub differ : (j k : ℕ) → j < k → k < n → same (bytes_at spans bytes j) (bytes_at spans bytes k) ≡ false

  pub upto_parts : (n : ℕ) → sound_up_to spans bytes n ≡ true → UpTo n
  unfolding sound_up_to span_within texts_in
  upto_parts n e =
      let d = both_right (span_within spans bytes n) _ e in
      record {
        lies = λ k h. each_handle (spanned spans bytes) n 0 (both_left (span_within spans bytes n) _ e) k (omega arith) (omega arith);
        legal = λ k h. each_made is_text (bytes_at spans bytes) n 0 (both_left _ _ d) k (omega arith) (omega arith);
        differ = λ j k g h. distinct_each (bytes_at spans bytes) n 0 (both_right _ _ d) j k (omega arith) g (omega arith);
      }

  pub upto_of : (n : ℕ) → UpTo n → sound_up_to spans bytes n ≡ true
  unfolding sound_up_to span_within texts_in
  upto_of n p =
      both_of (all_handles (spanned spans bytes) n 0 (λ k a b. p.lies k (omega arith)))
      (both_of (all_made is_text (bytes_at spans bytes) n 0 (λ k a b. p.legal k (omega arith)))
      (distinct_made (bytes_at spans bytes) n 0 (λ j k a b d. p.differ j k b (omega arith))))

  -- ---- no string before a handle equals a text

  found_as : (n : ℕ) (t : Bytes) → UpTo n → find_in spans bytes n t ≡ placed 0 (handle_of t (texts_in spans bytes n))
  unfolding find_in texts_in
  found_as n t p = finds_from spans bytes t n 0 (λ k a b. p.lies k (omega arith))

  pub none_before : (n : ℕ) (t : Bytes) → UpTo n → is_not (find_in spans bytes n t) ≡ true → (j : ℕ) → j < n → same t (bytes_at spans bytes j) ≡ false
  unfolding texts_in
  none_before n t p e j h =
      let o = not_placed (handle_of t (texts_in spans bytes n)) (rw (found_as n t p) at e) in
      same_not t (bytes_at spans bytes j) (each_made (differs t) (bytes_at spans bytes) n 0 (held_not t (texts_in spans bytes n) o) j (omega arith) (omega arith))

  pub before_none : (n : ℕ) (t : Bytes) → UpTo n → ((j : ℕ) → j < n → same t (bytes_at spans bytes j) ≡ false) → is_not (find_in spans bytes n t) ≡ true
  unfolding texts_in
  before_none n t p f =
      let a = all_made (differs t) (bytes_at spans bytes) n 0 (λ k g h. differs_of t (bytes_at spans bytes k) (f k (omega arith))) in
      rw (found_as n t p, not_held t (texts_in spans bytes n) a)

  -- ---- one handle

  pub new_missing : (h : ℕ) → None ≡ string_at spans bytes h → false ≡ new_at spans bytes h
  unfolding new_at
  new_missing h e = sym (both_no_left _ _ (found_not spans bytes h e))

  pub new_found : (h : ℕ) (t : Bytes) → Some t ≡ string_at spans bytes h → both (is_text t) (is_not (find_in spans bytes h t)) ≡ new_at spans bytes h
  unfolding new_at both
  new_found h t e = let f = found spans bytes h t e in rw (f.within, ← f.string)

  -- ---- one handle more

  pub one_more : (h : ℕ) → UpTo h → new_at spans bytes h ≡ true → UpTo (h + 1)
  unfolding new_at
  one_more h p e =
      let b = both_right (spanned spans bytes h) _ e in
      record {
        lies = λ k a. by_lt k h (p.lies k) (λ q. let z : k ≡ h = omega arith in rw z (both_left (spanned spans bytes h) _ e));
        legal = λ k a. by_lt k h (p.legal k) (λ q. let z : k ≡ h = omega arith in rw z (both_left _ _ b));
        differ = λ j k a d.
            by_lt k h (p.differ j k a)
            (λ q. let z : k ≡ h = omega arith in rw z (same_swap _ _ ∙ none_before h (bytes_at spans bytes h) p (both_right _ _ b) j (omega arith)));
      }

  pub upto_less : (n h : ℕ) → h ≤ n → UpTo n → UpTo h
  upto_less n h g p =
      record {
        lies = λ k a. p.lies k (omega arith);
        legal = λ k a. p.legal k (omega arith);
        differ = λ j k a b. p.differ j k a (omega arith);
      }

  pub new_within : (n h : ℕ) → h < n → UpTo n → new_at spans bytes h ≡ true
  unfolding new_at
  new_within n h g p =
      both_of (p.lies h g)
      (both_of (p.legal h g)
      (before_none h (bytes_at spans bytes h) (upto_less n h (omega arith) p) (λ j a. same_swap _ _ ∙ p.differ j h a g)))

  pub upto_none : UpTo 0
  upto_none = record { lies = λ k a. absurd (omega arith); legal = λ k a. absurd (omega arith); differ = λ j k a b. absurd (omega arith) }

  -- one string that is not new is enough
  pub upto_not : (n h : ℕ) → h < n → new_at spans bytes h ≡ false → sound_up_to spans bytes n ≡ false
  upto_not n h g e = by_bool (sound_up_to spans bytes n) (λ p. clash (new_within n h g (upto_parts n p)) e) (λ p. p)

  -- each string is new, or one is not
  upto_each : (n : ℕ) → ((h : ℕ) → h < n → new_at spans bytes h ≡ true) → UpTo n
  upto_each zero f = upto_none
  upto_each (suc n) f = rw add-one at (one_more n (upto_each n (λ h g. f h (omega arith))) (f n (omega arith)))

  pub each_decides : (n : ℕ) (r : Bool)
      → MatchBool r (AllWithin (λ h. new_at spans bytes h ≡ true) (range_with_len 0 n) 0 (length (range_with_len 0 n)))
      ((k : ℕ) × (k < length (range_with_len 0 n)) × HoldsAt (λ h. new_at spans bytes h ≡ false) (range_with_len 0 n) k)
      → r ≡ sound_up_to spans bytes n
  each_decides n true f =
      sym (upto_of n (upto_each n (λ h g. rw (get_or-range_with_len 0 n h 0 g, zero-add) at (f h 0 (omega arith) (omega (arith, length-range_with_len 0 n))))))
  each_decides n false f =
      let g : f.0 < n = omega (arith, f.1, length-range_with_len 0 n) in
      sym (upto_not n f.0 g (rw (get_or-range_with_len 0 n f.0 0 g, zero-add) at (f.2 0)))

-- ---- the counts and handle 0

pub unsound : (s : Store) → (Sound s → ⊥) → sound_strings s ≡ false
unsound s n = by_bool (sound_strings s) (λ e. absurd (n (sound_parts s e))) (λ e. e)

first_there : (ts : List Bytes) → first_empty ts ≡ true → 0 < length ts
unfolding first_empty
first_there [] e = clash e refl
first_there (t ∷ ts) e = omega arith

pub some_held : (s : Store) → Sound s → 0 < s.strings
some_held s p = omega (arith, first_there (texts_of s) p.empty, length_texts s)

-- the first text is that of handle 0
first_text : (spans : List ℕ) (bytes : Bytes) (n : ℕ) → 0 < n → first_empty (texts_in spans bytes n) ≡ same (bytes_at spans bytes 0) []
unfolding first_empty texts_in handles
first_text spans bytes zero h = absurd (omega arith)
first_text spans bytes (suc n) h = refl

pub first_length : (s : Store) → Sound s → length_of s.spans 0 ≡ 0
first_length s p =
    let n = some_held s p in
    let e = same_yes (bytes_at s.spans (used_of s) 0) [] (sym (first_text s.spans (used_of s) s.strings n) ∙ p.empty) in
    let b = spanned_bytes s.spans (used_of s) 0 (p.spans 0 n) in
    let d = drop (start_of s.spans 0) (used_of s) in
    omega (arith, ap length e, length-take (length_of s.spans 0) d, length-drop (start_of s.spans 0) (used_of s))

-- with the counts within and an empty first string, the strings decide
pub strings_decide : (s : Store) → 2 * s.strings ≤ length s.spans → s.used ≤ length s.bytes → 0 < s.strings → length_of s.spans 0 ≡ 0
    → sound_strings s ≡ sound_up_to s.spans (used_of s) s.strings
unfolding sound_strings counts_within
strings_decide s p q n e =
    let f : first_empty (texts_of s) ≡ true = first_text s.spans (used_of s) s.strings n ∙ rw e (same_refl []) in
    same_test (sound_strings s) (sound_up_to s.spans (used_of s) s.strings)
    (λ h. both_left (sound_up_to s.spans (used_of s) s.strings) _ (both_right (counts_within s) _ h))
    (λ h. both_of (both_of (le-leb _ _ p) (le-leb _ _ q)) (both_of h f))
