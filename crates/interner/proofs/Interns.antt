-- Sound strings: `intern` keeps them, and what it does to the stored form is what taking in does to the texts.
use Rattle.std.specs.Prelude.{None, Option, Some, option_map}
use Prim.Native.Nat.{ℕ, zero, suc, ◌+◌, ◌*◌, ◌≤◌, ◌<◌}
use mathlib.Core.Path.{◌≡◌, refl, sym, ◌∙◌, ap}
use mathlib.Core.Bool.{true, false}
use mathlib.Core.List.{List, [], ◌∷◌, ◌++◌, map, map-append}
use native.Mathlib.Nat.{add-zero, add-suc, suc-add, zero-add}
use native.Mathlib.Numerals.{add-one}
use native.Mathlib.Omega.{arith}
use lib.ListN.{length, take, drop, length-append, length-drop, length-map}
use lib.Seq.{length-take-le, take-append-le, drop-append-le, drop_at, take_all}
use borrow.Author.Tests.{leb-true, le-leb, lt-ltb, le-ltb}
use Rattle.base.specs.Bytes.{Bytes, both, all, same}
use Rattle.base.proofs.Split.{by_bool, by_eq, both_left, both_right, both_of, clash, no}
use Rattle.base.proofs.Lists.{all_append, all_cons, all_nil, all_head, all_tail, same_refl}
use Rattle.text.specs.Check.{is_text}
use Rattle.text.proofs.Theorem.{text_nil}
use Rattle.little.specs.Little.{over}
use Rattle.little.proofs.Overs.{length_over, used_over, get_d_before, get_d_over}
use Rattle.interner.specs.Interned.{Held, Full}
use Rattle.interner.specs.Texts.{handle_of, take_in, take_all_of, no_texts, answer_as, intern_accepted, handle_answered, text_of}
use Rattle.interner.specs.Strings.{start_of, length_of, spanned, bytes_at, is_at, find_from, find_in, Store, used_of, text_room, added, text_taken, intern, intern_all, accepted_of, span_of}
use Rattle.distinct.specs.Distinct.{differs, distinct}
use Rattle.interner.specs.Sound.{handles, texts_in, texts_of, counts_within, span_within, sound_up_to, first_empty, sound_strings, fresh_store}
use Rattle.interner.proofs.Finds.{spanned_yes, spanned_bytes, find_none, find_here, find_on, part}
use Rattle.interner.proofs.Takes.{held, new, full, room_words, room_bytes}
use Rattle.interner.proofs.Handles.{length_handles, handles_more, all_handles, each_handle, map_handles, made_at}
use Rattle.interner.proofs.Held.{handle_here, handle_on, handle_new, take_held, take_new, distinct_nil, distinct_cons, distinct_new, first_empty_more, empty_handle, holds}

-- ---- soundness, part by part

pub record Sound (s : Store) : Type 0 where
  pub words : 2 * s.strings ≤ length s.spans
  pub bytes : s.used ≤ length s.bytes
  pub spans : (k : ℕ) → k < s.strings → spanned s.spans (used_of s) k ≡ true
  pub legal : all is_text (texts_of s) ≡ true
  pub differ : distinct (texts_of s) ≡ true
  pub empty : first_empty (texts_of s) ≡ true

pub sound_parts : (s : Store) → sound_strings s ≡ true → Sound s
unfolding sound_strings counts_within sound_up_to span_within
sound_parts s e =
    let a = both_left (counts_within s) _ e in
    let b = both_right (counts_within s) _ e in
    let u = both_left (sound_up_to s.spans (used_of s) s.strings) _ b in
    let d = both_right (span_within s.spans (used_of s) s.strings) _ u in
    record {
      words = leb-true _ _ (both_left _ _ a);
      bytes = leb-true _ _ (both_right _ _ a);
      spans = λ k h. each_handle (spanned s.spans (used_of s)) s.strings 0 (both_left (span_within s.spans (used_of s) s.strings) _ u) k (omega arith) (omega arith);
      legal = both_left _ _ d;
      differ = both_right _ _ d;
      empty = both_right _ _ b;
    }

pub sound_of : (s : Store) → Sound s → sound_strings s ≡ true
unfolding sound_strings counts_within sound_up_to span_within
sound_of s p =
    both_of (both_of (le-leb _ _ p.words) (le-leb _ _ p.bytes))
    (both_of
    (both_of (all_handles (spanned s.spans (used_of s)) s.strings 0 (λ k a b. p.spans k (omega arith))) (both_of p.legal p.differ))
    p.empty)

pub length_texts : (s : Store) → length (texts_of s) ≡ s.strings
unfolding texts_in
length_texts s = length-map (handles s.strings 0) (bytes_at s.spans (used_of s)) ∙ length_handles s.strings 0

pub length_used : (s : Store) → Sound s → length (used_of s) ≡ s.used
length_used s p = length-take-le s.used s.bytes p.bytes

-- ---- the text of a held handle is read where its span says

pub text_at : (s : Store) (h : ℕ) → h < s.strings → text_of (texts_of s) h ≡ bytes_at s.spans (used_of s) h
unfolding texts_in
text_at s h g = rw zero-add at (made_at (bytes_at s.spans (used_of s)) [] s.strings 0 h g)

pub resolved : (s : Store) → Sound s → (h : ℕ) → h < s.strings → span_of s.spans (used_of s) s.strings h ≡ Some (record { start = start_of s.spans h; len = length_of s.spans h })
unfolding span_of
resolved s p h g = rw (lt-ltb h s.strings g) (part s.spans (used_of s) h (p.spans h g))

pub unheld : (s : Store) (h : ℕ) → s.strings ≤ h → span_of s.spans (used_of s) s.strings h ≡ None
unfolding span_of
unheld s h g = rw (le-ltb h s.strings g)

-- ---- the search finds the handle of the text

-- the place in a list of the strings from h on, as a handle
abbrev pub placed : ℕ → Option ℕ → Option ℕ
placed h None = None
placed h (Some k) = Some (h + k)

placed_on : (h : ℕ) (o : Option ℕ) → placed (suc h) o ≡ placed h (option_map suc o)
placed_on h None = refl
placed_on h (Some k) = rw (suc-add, add-suc)

pub finds_from : (spans : List ℕ) (bytes : Bytes) (t : Bytes) (n h : ℕ)
    → ((k : ℕ) → h ≤ k → k < h + n → spanned spans bytes k ≡ true)
    → find_from spans bytes t n h ≡ placed h (handle_of t (map (bytes_at spans bytes) (handles n h)))
unfolding handles handle_of is_at both
finds_from spans bytes t zero h f = find_none spans bytes t h
finds_from spans bytes t (suc n) h f =
    let b = bytes_at spans bytes h in
    let m = map (bytes_at spans bytes) (handles n (suc h)) in
    let i : is_at spans bytes t h ≡ same t b = rw (f h (omega arith) (omega arith)) in
    by_bool (same t b)
    (λ p. find_here spans bytes t n h (i ∙ p) ∙ rw (handle_here t b m p, add-zero))
    (λ p. find_on spans bytes t n h (i ∙ p) ∙ (finds_from spans bytes t n (suc h) (λ k a c. f k (omega arith) (omega arith)) ∙ rw (handle_on t b m p) (placed_on h (handle_of t m))))

pub finds : (s : Store) (t : Bytes) → Sound s → find_in s.spans (used_of s) s.strings t ≡ placed 0 (handle_of t (texts_of s))
unfolding find_in texts_in
finds s t p = finds_from s.spans (used_of s) t s.strings 0 (λ k a b. p.spans k (omega arith))

-- ---- a text added to sound strings

-- the bytes of a span do not change when more follow
span_stays : (u t : Bytes) (a n : ℕ) → a + n ≤ length u → take n (drop a (u ++ t)) ≡ take n (drop a u)
span_stays u t a n h =
    rw (drop-append-le a u t (omega arith)) (take-append-le n (drop a u) t (omega (arith, length-drop a u)))

module _ (s : Store) (t : Bytes) (p : Sound s) (r : text_room s t ≡ true) where
  words_left : 2 * s.strings + 2 ≤ length s.spans
  words_left = room_words s t r

  used_after : used_of (added s t) ≡ used_of s ++ t
  unfolding added
  used_after = used_over s.bytes s.used t (room_bytes s t r)

  -- the words of a held string
  start_stays : (k : ℕ) → k < s.strings → start_of (added s t).spans k ≡ start_of s.spans k
  unfolding added
  start_stays k h = get_d_before s.spans (2 * s.strings) _ (2 * k) 0 (omega arith)

  length_stays : (k : ℕ) → k < s.strings → length_of (added s t).spans k ≡ length_of s.spans k
  unfolding added
  length_stays k h = get_d_before s.spans (2 * s.strings) _ (2 * k + 1) 0 (omega arith)

  -- the words of the new one
  start_new : start_of (added s t).spans s.strings ≡ s.used
  unfolding added
  start_new = rw add-zero at (get_d_over s.spans (2 * s.strings) (s.used ∷ length t ∷ []) 0 0 (omega (arith, words_left)) (omega arith))

  length_new : length_of (added s t).spans s.strings ≡ length t
  unfolding added
  length_new = get_d_over s.spans (2 * s.strings) (s.used ∷ length t ∷ []) 1 0 (omega (arith, words_left)) (omega arith)

  length_spans : length (added s t).spans ≡ length s.spans
  unfolding added
  length_spans = length_over s.spans (2 * s.strings) _

  string_stays : (k : ℕ) → k < s.strings → bytes_at (added s t).spans (used_of (added s t)) k ≡ bytes_at s.spans (used_of s) k
  string_stays k h =
      rw (used_after, start_stays k h, length_stays k h) (span_stays (used_of s) t (start_of s.spans k) (length_of s.spans k) (spanned_bytes s.spans (used_of s) k (p.spans k h)))

  string_new : bytes_at (added s t).spans (used_of (added s t)) s.strings ≡ t
  string_new =
      rw (used_after, start_new, length_new, drop_at (used_of s) t s.used (length_used s p)) (take_all (length t) t (omega arith))

  pub strings_added : (added s t).strings ≡ s.strings + 1
  unfolding added
  strings_added = refl

  bytes_left : (added s t).used ≤ length (added s t).bytes
  unfolding added
  bytes_left = omega (arith, room_bytes s t r, length_over s.bytes s.used t)

  spanned_stays : (k : ℕ) → k < s.strings → spanned (added s t).spans (used_of (added s t)) k ≡ true
  spanned_stays k h =
      let b = spanned_bytes s.spans (used_of s) k (p.spans k h) in
      spanned_yes (added s t).spans (used_of (added s t)) k (omega (arith, length_spans, p.words))
      (rw (used_after, start_stays k h, length_stays k h) (omega (arith, length-append (used_of s) t)))

  spanned_new : spanned (added s t).spans (used_of (added s t)) s.strings ≡ true
  spanned_new =
      spanned_yes (added s t).spans (used_of (added s t)) s.strings (omega (arith, length_spans, words_left))
      (rw (used_after, start_new, length_new) (omega (arith, length-append (used_of s) t, length_used s p)))

  pub texts_added : texts_of (added s t) ≡ texts_of s ++ (t ∷ [])
  unfolding texts_in
  texts_added =
      let f = bytes_at (added s t).spans (used_of (added s t)) in
      rw (strings_added, add-one, handles_more, map-append, map_handles f (bytes_at s.spans (used_of s)) s.strings 0 (λ k a b. string_stays k (omega arith)), zero-add, string_new)

  -- the strings are sound with one more, if it is a text that is not held
  pub sound_added : handle_of t (texts_of s) ≡ None → is_text t ≡ true → Sound (added s t)
  sound_added e l =
      record {
        words = omega (arith, strings_added, length_spans, words_left);
        bytes = bytes_left;
        spans = λ k h. by_eq k s.strings (λ q. rw q spanned_new) (λ q. spanned_stays k (omega (arith, strings_added)));
        legal = rw texts_added (all_append is_text (texts_of s) (t ∷ []) p.legal (all_cons is_text t [] l (all_nil is_text)));
        differ = rw texts_added (distinct_new (texts_of s) t p.differ e);
        empty = rw texts_added (first_empty_more (texts_of s) (t ∷ []) p.empty);
      }

-- ---- what `intern` does to sound strings

module _ (s : Store) (t : Bytes) (p : Sound s) where
  pub does_held : (h : ℕ) → handle_of t (texts_of s) ≡ Some h → intern s t ≡ record { store = s; answer = Held h }
  does_held h e = held s t h (finds s t p ∙ rw (e, zero-add))

  pub does_new : handle_of t (texts_of s) ≡ None → text_room s t ≡ true → intern s t ≡ text_taken s t
  does_new e r = new s t (finds s t p ∙ rw e) r

  pub does_full : handle_of t (texts_of s) ≡ None → text_room s t ≡ false → intern s t ≡ record { store = s; answer = Full }
  does_full e r = full s t (finds s t p ∙ rw e) r

  by_case : {C : Type 0} → ((h : ℕ) → handle_of t (texts_of s) ≡ Some h → C) → (handle_of t (texts_of s) ≡ None → text_room s t ≡ true → C) → (handle_of t (texts_of s) ≡ None → text_room s t ≡ false → C) → C
  by_case {C} f g k = go (handle_of t (texts_of s)) refl
    where
      go : (o : Option ℕ) → handle_of t (texts_of s) ≡ o → C
      go (Some h) e = f h e
      go None e = by_bool (text_room s t) (g e) (k e)

  -- "`intern` returns the handle of an equal text already held, else the next one", 13 where there is no room for it
  pub answers : (intern s t).answer ≡ answer_as (text_room s t) (texts_of s) (handle_of t (texts_of s))
  unfolding answer_as
  answers =
      by_case
      (λ h e. rw (does_held h e, e))
      (λ e r. rw (does_new e r, e, r, length_texts))
      (λ e r. rw (does_full e r, e, r))

  -- full exactly where the text is not held and there is no room
  pub full_only : (intern s t).answer ≡ Full → (handle_of t (texts_of s) ≡ None) × (text_room s t ≡ false)
  full_only q =
      by_case
      (λ h e. let z = does_held h e in no (cc))
      (λ e r. let z = does_new e r in no (cc))
      (λ e r. (e, r))

  pub full_when : handle_of t (texts_of s) ≡ None → text_room s t ≡ false → (intern s t).answer ≡ Full
  full_when e r = rw (does_full e r)

  -- a refusal changes nothing
  pub full_same : (intern s t).answer ≡ Full → (intern s t).store ≡ s
  full_same q = let n = full_only q in rw (does_full n.0 n.1)

  full_store : intern_accepted (intern s t).answer ≡ false → texts_of (intern s t).store ≡ texts_of s
  full_store q =
      by_case
      (λ h e. clash refl (rw (does_held h e) at q))
      (λ e r. clash refl (rw (does_new e r) at q))
      (λ e r. rw (does_full e r))

  -- the texts after it
  pub texts_after : intern_accepted (intern s t).answer ≡ true → texts_of (intern s t).store ≡ take_in (texts_of s) t
  texts_after q =
      by_case
      (λ h e. rw (does_held h e, take_held (texts_of s) t h e))
      (λ e r. rw (does_new e r, take_new (texts_of s) t e) (texts_added s t p r))
      (λ e r. clash (rw (does_full e r) at q) refl)

  -- the handle answered is the place of the text
  pub handle_after : (h : ℕ) → handle_answered (intern s t).answer ≡ Some h → handle_of t (texts_of (intern s t).store) ≡ Some h
  handle_after h q =
      by_case
      (λ k e. let i : Some k ≡ Some h = rw (does_held k e) at q in rw (does_held k e) (e ∙ i))
      (λ e r.
      let i : Some s.strings ≡ Some h = rw (does_new e r) at q in
      rw (does_new e r, texts_added s t p r) (handle_new t (texts_of s) e ∙ (rw length_texts i)))
      (λ e r. let i : None ≡ Some h = rw (does_full e r) at q in no (cc))

  pub text_answered : (h : ℕ) → handle_answered (intern s t).answer ≡ Some h → text_of (texts_of (intern s t).store) h ≡ t
  text_answered h q = (holds t (texts_of (intern s t).store) h (handle_after h q)).text

  pub keeps : is_text t ≡ true → Sound (intern s t).store
  keeps l =
      by_case
      (λ h e. rw (does_held h e) p)
      (λ e r. rw (does_new e r) (sound_added s t p r e l))
      (λ e r. rw (does_full e r) p)

-- the empty text never meets 13
pub empty_held : (s : Store) → Sound s → intern s [] ≡ record { store = s; answer = Held 0 }
empty_held s p = does_held s [] p 0 (empty_handle (texts_of s) p.empty)

-- ---- lists of texts

accepted_none : (s : Store) → accepted_of s [] ≡ []
unfolding accepted_of
accepted_none s = refl

accepted_yes : (s : Store) (t : Bytes) (ts : List Bytes) → intern_accepted (intern s t).answer ≡ true → accepted_of s (t ∷ ts) ≡ t ∷ accepted_of (intern s t).store ts
unfolding accepted_of
accepted_yes s t ts q = rw q

accepted_no : (s : Store) (t : Bytes) (ts : List Bytes) → intern_accepted (intern s t).answer ≡ false → accepted_of s (t ∷ ts) ≡ accepted_of (intern s t).store ts
unfolding accepted_of
accepted_no s t ts q = rw q

-- handle n is the n-th new text taken in
pub texts_all : (s : Store) (ts : List Bytes) → Sound s → all is_text ts ≡ true → texts_of (intern_all s ts) ≡ take_all_of (texts_of s) (accepted_of s ts)
unfolding intern_all take_all_of
texts_all s [] p l = sym (ap (take_all_of (texts_of s)) (accepted_none s))
texts_all s (t ∷ ts) p l =
    let i = texts_all (intern s t).store ts (keeps s t p (all_head is_text t ts l)) (all_tail is_text t ts l) in
    let a = accepted_of (intern s t).store ts in
    by_bool (intern_accepted (intern s t).answer)
    (λ q. i ∙ (ap (λ (x : List Bytes). take_all_of x a) (texts_after s t p q) ∙ ap (take_all_of (texts_of s)) (sym (accepted_yes s t ts q))))
    (λ q. i ∙ (ap (λ (x : List Bytes). take_all_of x a) (full_store s t p q) ∙ ap (take_all_of (texts_of s)) (sym (accepted_no s t ts q))))

pub keeps_all : (s : Store) (ts : List Bytes) → Sound s → all is_text ts ≡ true → Sound (intern_all s ts)
unfolding intern_all
keeps_all s [] p l = p
keeps_all s (t ∷ ts) p l = keeps_all (intern s t).store ts (keeps s t p (all_head is_text t ts l)) (all_tail is_text t ts l)

-- ---- the strings of an empty overlay

module _ (spans : List ℕ) (bytes : Bytes) (h : 2 ≤ length spans) where
  fresh_start : start_of (over spans 0 (0 ∷ 0 ∷ [])) 0 ≡ 0
  fresh_start = get_d_over spans 0 (0 ∷ 0 ∷ []) 0 0 (omega arith) (omega arith)

  fresh_length : length_of (over spans 0 (0 ∷ 0 ∷ [])) 0 ≡ 0
  fresh_length = get_d_over spans 0 (0 ∷ 0 ∷ []) 1 0 (omega arith) (omega arith)

  pub fresh_texts : texts_of (fresh_store spans bytes) ≡ no_texts
  unfolding texts_in handles
  fresh_texts = rw fresh_length

  fresh_spanned : (k : ℕ) → k < 1 → spanned (over spans 0 (0 ∷ 0 ∷ [])) [] k ≡ true
  fresh_spanned k g =
      let z : k ≡ 0 = omega arith in
      rw z
      (spanned_yes (over spans 0 (0 ∷ 0 ∷ [])) [] 0 (omega (arith, length_over spans 0 (0 ∷ 0 ∷ []))) (omega (arith, fresh_start, fresh_length)))

  pub fresh_sound : Sound (fresh_store spans bytes)
  unfolding first_empty
  fresh_sound =
      record {
        words = omega (arith, length_over spans 0 (0 ∷ 0 ∷ []));
        bytes = omega arith;
        spans = fresh_spanned;
        legal = rw fresh_texts (all_cons is_text [] [] text_nil (all_nil is_text));
        differ = rw fresh_texts (distinct_cons [] [] (all_nil (differs [])) distinct_nil);
        empty = rw fresh_texts (same_refl []);
      }

  pub fresh_all : (ts : List Bytes) → all is_text ts ≡ true → texts_of (intern_all (fresh_store spans bytes) ts) ≡ take_all_of no_texts (accepted_of (fresh_store spans bytes) ts)
  fresh_all ts l = rw fresh_texts at (texts_all (fresh_store spans bytes) ts fresh_sound l)
