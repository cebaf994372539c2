-- interner.rs: the texts that the two sides hold.
use Rattle.std.specs.Prelude.{None, Option, Some, slice_get}
use Rattle.std.proofs.Common.{◌≡◌, ℕ, zero, suc, ◌+◌, ◌<◌, ◌≤◌, false, cond, List, [], ◌∷◌, ◌++◌, length, take, drop, sym, refl, ap, ◌∙◌, arith, length-append, length-drop, le-leb}
use lib.ListN.{get_or-append}
use lib.Seq.{drop-append-le, drop-append_seam, take-append-le, take-length, get_or-append_seam}
use borrow.Author.Tests.{lt-leb}
use Rattle.base.specs.Bytes.{Bytes, same}
use Rattle.base.proofs.Split.{by_bool, by_lt, by_le, no}
use Rattle.base.proofs.Lists.{same_yes, same_swap}
use Rattle.interner.specs.Texts.{handle_of, take_in, with_new, text_of, no_texts}
use Rattle.interner.proofs.Held.{handle_new, handle_here, handle_on, unraised}
use Rattle.published.specs.Std.{slice}
use Rattle.published.specs.Interner.{StringInterner, Span, get_text, resolve, intern}
use Rattle.published.specs.Interner as Interner
use Rattle.refines.specs.Overlays.{SameTexts}

-- ---- elements by number

elem_old : {A : Type 0} (xs : List A) (x : A) (n : ℕ) → n < length xs → slice_get (xs ++ (x ∷ [])) n ≡ slice_get xs n
elem_old [] x n h = absurd (omega arith)
elem_old (y ∷ xs) x zero h = refl
elem_old (y ∷ xs) x (suc n) h = elem_old xs x n (omega arith)

elem_new : {A : Type 0} (xs : List A) (x : A) → slice_get (xs ++ (x ∷ [])) (length xs) ≡ Some x
elem_new [] x = refl
elem_new (y ∷ xs) x = elem_new xs x

-- ---- an empty interner

pub texts_new : SameTexts no_texts Interner.new
unfolding get_text handle_of resolve slice
texts_new =
    record {
      count = refl;
      lookup = λ t. by_bool (same t []) (λ e. rw (same_swap [] t, e)) (λ e. rw (same_swap [] t, e));
      resolves = λ n h. first n h;
    }
  where
    first : (n : ℕ) → n < 1 → resolve (Interner.new).strings n ≡ Some (text_of no_texts n)
    first zero h = refl
    first (suc n) h = absurd (omega arith)

-- ---- a text taken in

-- what is found among texts with one more
handle_more : (held : List Bytes) (s t : Bytes) → handle_of s held ≡ None → handle_of t (held ++ (s ∷ [])) ≡ cond (same s t) (Some (length held)) (handle_of t held)
unfolding handle_of
handle_more [] s t e = rw (same_swap t s)
handle_more (x ∷ xs) s t e =
    by_bool (same s x) (λ h. no (cc (handle_here s x xs h)))
    (λ h. let r : handle_of s xs ≡ None = unraised (handle_of s xs) (sym (handle_on s x xs h) ∙ e) in
    by_bool (same t x)
    (λ q. let d : same s t ≡ false = rw (same_yes t x q) h in rw (q, d))
    (λ q. rw (q, handle_more xs s t r) (by_bool (same s t) (λ u. rw u) (λ u. rw u))))

resolve_more : (b t : Bytes) (o : Option Span) (x : Bytes) → Interner.resolve_in b o ≡ Some x → Interner.resolve_in (b ++ t) o ≡ Some x
unfolding slice
resolve_more b t None x e = no cc
resolve_more b t (Some p) x e =
    by_le (p.offset + p.len) (length b)
    (λ l. let m : p.offset + p.len ≤ length (b ++ t) = rw (length-append b t) (omega arith) in
    let y : take p.len (drop p.offset b) ≡ x = cc (rw (le-leb _ _ l) at e) in
    let z : take p.len (drop p.offset (b ++ t)) ≡ take p.len (drop p.offset b) =
    rw (drop-append-le p.offset b t (omega arith)) (take-append-le p.len (drop p.offset b) t (rw (length-drop p.offset b) (omega arith))) in
    rw (le-leb _ _ m) (ap Some (z ∙ y)))
    (λ l. no (cc (rw (lt-leb _ _ l) at e)))

resolve_last : (b t : Bytes) → Interner.resolve_in (b ++ t) (Some (record { offset = length b; len = length t })) ≡ Some t
unfolding slice
resolve_last b t =
    let m : length b + length t ≤ length (b ++ t) = rw (length-append b t) (omega arith) in
    rw (le-leb _ _ m, drop-append_seam b t, take-length t)

module _ (held : List Bytes) (i : StringInterner) (w : SameTexts held i) (t : Bytes) where
  texts_as : (o : Option ℕ) → handle_of t held ≡ o → SameTexts (with_new held t o) (Interner.intern_as i t o).interner
  unfolding get_text resolve
  texts_as (Some h) e = w
  texts_as None e =
      record {
        count = rw (length-append i.strings.table _, length-append held _, w.count);
        lookup = λ s. rw (handle_more held t s e, w.count) (ap (cond (same t s) (Some (length held))) (w.lookup s));
        resolves = λ n h.
            by_lt n (length held)
            (λ l. rw (elem_old i.strings.table (record { offset = length i.strings.bytes; len = length t }) n (omega (arith, w.count)), get_or-append held (t ∷ []) [] n l)
            (resolve_more i.strings.bytes t (slice_get i.strings.table n) (text_of held n) (w.resolves n l)))
            (λ l. let q : n ≡ length held = omega (arith, h, length-append held (t ∷ [])) in
            let v : n ≡ length i.strings.table = omega (arith, q, w.count) in
            let g : text_of (held ++ (t ∷ [])) n ≡ t = rw q (get_or-append_seam held t [] []) in
            rw (g, v, elem_new i.strings.table (record { offset = length i.strings.bytes; len = length t })) (resolve_last i.strings.bytes t));
      }

  pub texts_intern : SameTexts (take_in held t) (intern i t).interner
  unfolding intern take_in
  texts_intern = rw (w.lookup t) (texts_as (handle_of t held) refl)

  handle_as : (o : Option ℕ) → handle_of t held ≡ o → handle_of t (with_new held t o) ≡ Some (Interner.intern_as i t o).id
  handle_as (Some h) e = e
  handle_as None e = rw w.count (handle_new t held e)

  -- the id that it returns is the handle of the text among those held after it
  pub handle_intern : handle_of t (take_in held t) ≡ Some (intern i t).id
  unfolding intern take_in
  handle_intern = rw (w.lookup t) (handle_as (handle_of t held) refl)
