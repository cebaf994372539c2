-- Laws of held texts: the handle of a text is its place, taking in adds behind, and a held text keeps its handle.
use Rattle.std.specs.Prelude.{None, Option, Some, option_map}
use Prim.Native.Nat.{ℕ, suc, ◌<◌}
use mathlib.Core.Path.{◌≡◌, refl, sym, ◌∙◌, ap}
use mathlib.Core.Bool.{true, false}
use mathlib.Core.List.{List, [], ◌∷◌, ◌++◌, append_assoc, append-nil}
use native.Mathlib.Omega.{arith}
use lib.ListN.{length, get_or-append}
use Rattle.base.specs.Bytes.{Bytes, all, same}
use Rattle.base.proofs.Split.{by_bool, both_of, both_left, both_right, clash, no}
use Rattle.base.proofs.Lists.{same_yes, same_refl, same_swap, all_nil, all_cons, all_head, all_tail, all_append}
use Rattle.interner.specs.Texts.{handle_of, take_in, take_all_of, text_of}
use Rattle.distinct.specs.Distinct.{differs, distinct}
use Rattle.interner.specs.Sound.{first_empty}

-- ---- the handle of a text

pub handle_here : (t s : Bytes) (ss : List Bytes) → same t s ≡ true → handle_of t (s ∷ ss) ≡ Some 0
unfolding handle_of
handle_here t s ss e = rw e

pub handle_on : (t s : Bytes) (ss : List Bytes) → same t s ≡ false → handle_of t (s ∷ ss) ≡ option_map suc (handle_of t ss)
unfolding handle_of
handle_on t s ss e = rw e

-- a handle with the text at its place
pub record Holds (held : List Bytes) (h : ℕ) (t : Bytes) : Type 0 where
  pub below : h < length held
  pub text : text_of held h ≡ t

-- one more than the handle in the rest
pub raised : (o : Option ℕ) (h : ℕ) → option_map suc o ≡ Some h → (k : ℕ) × ((o ≡ Some k) × (suc k ≡ h))
raised None h e = no (cc)
raised (Some k) h e = (k, (refl, cc))

pub unraised : (o : Option ℕ) → option_map suc o ≡ None → o ≡ None
unraised None e = refl
unraised (Some k) e = no (cc)

pub holds : (t : Bytes) (held : List Bytes) (h : ℕ) → handle_of t held ≡ Some h → Holds held h t
unfolding handle_of
holds t [] h e = no (cc)
holds t (s ∷ ss) h e =
    by_bool (same t s)
    (λ p.
    let q : ◌≡◌ {A = ℕ} 0 h = cc (handle_here t s ss p) in
    rw (← q) (record { below = omega arith; text = sym (same_yes t s p) }))
    (λ p.
    let r = raised (handle_of t ss) h (sym (handle_on t s ss p) ∙ e) in
    let i = holds t ss r.0 r.1.0 in
    rw (← r.1.1) (record { below = omega (arith, i.below); text = i.text }))

-- a text is not held exactly where it differs from each
pub differs_of : (s t : Bytes) → same s t ≡ false → differs s t ≡ true
unfolding differs
differs_of s t e = rw e

pub same_not : (s t : Bytes) → differs s t ≡ true → same s t ≡ false
unfolding differs
same_not s t e = by_bool (same s t) (λ p. clash (rw p at e) refl) (λ p. p)

pub not_held : (t : Bytes) (held : List Bytes) → all (differs t) held ≡ true → handle_of t held ≡ None
unfolding handle_of
not_held t [] e = refl
not_held t (s ∷ ss) e =
    handle_on t s ss (same_not t s (all_head (differs t) s ss e)) ∙ rw (not_held t ss (all_tail (differs t) s ss e))

pub held_not : (t : Bytes) (held : List Bytes) → handle_of t held ≡ None → all (differs t) held ≡ true
held_not t [] e = all_nil (differs t)
held_not t (s ∷ ss) e =
    by_bool (same t s)
    (λ p. no (cc (handle_here t s ss p)))
    (λ p. all_cons (differs t) s ss (differs_of t s p) (held_not t ss (unraised (handle_of t ss) (sym (handle_on t s ss p) ∙ e))))

-- a new text gets the next handle
pub handle_new : (t : Bytes) (held : List Bytes) → handle_of t held ≡ None → handle_of t (held ++ (t ∷ [])) ≡ Some (length held)
handle_new t [] e = handle_here t t [] (same_refl t)
handle_new t (s ∷ ss) e =
    by_bool (same t s)
    (λ p. no (cc (handle_here t s ss p)))
    (λ p. handle_on t s (ss ++ (t ∷ [])) p ∙ rw (handle_new t ss (unraised (handle_of t ss) (sym (handle_on t s ss p) ∙ e))))

-- ---- taking in

pub take_held : (held : List Bytes) (t : Bytes) (h : ℕ) → handle_of t held ≡ Some h → take_in held t ≡ held
unfolding take_in
take_held held t h e = rw e

pub take_new : (held : List Bytes) (t : Bytes) → handle_of t held ≡ None → take_in held t ≡ held ++ (t ∷ [])
unfolding take_in
take_new held t e = rw e

-- taking in only adds behind
pub grown : (held : List Bytes) (t : Bytes) → (x : List Bytes) × (take_in held t ≡ held ++ x)
grown held t = go (handle_of t held) refl
  where
    go : (o : Option ℕ) → handle_of t held ≡ o → (x : List Bytes) × (take_in held t ≡ held ++ x)
    go None e = (t ∷ [], take_new held t e)
    go (Some h) e = ([], take_held held t h e ∙ sym (append-nil held))

pub grown_all : (held ts : List Bytes) → (x : List Bytes) × (take_all_of held ts ≡ held ++ x)
unfolding take_all_of
grown_all held [] = ([], sym (append-nil held))
grown_all held (t ∷ ts) =
    let g = grown held t in let k = grown_all (take_in held t) ts in
    (g.0 ++ k.0, k.1 ∙ (ap (λ (y : List Bytes). y ++ k.0) g.1 ∙ append_assoc held g.0 k.0))

-- a held handle's text never changes
pub text_stays : (held : List Bytes) (t : Bytes) (n : ℕ) → n < length held → text_of (take_in held t) n ≡ text_of held n
text_stays held t n h = let g = grown held t in rw g.1 (get_or-append held g.0 [] n h)

pub text_stays_all : (held ts : List Bytes) (n : ℕ) → n < length held → text_of (take_all_of held ts) n ≡ text_of held n
text_stays_all held ts n h = let g = grown_all held ts in rw g.1 (get_or-append held g.0 [] n h)

-- ---- what soundness asks of the texts

pub distinct_nil : distinct [] ≡ true
unfolding distinct
distinct_nil = refl

pub distinct_cons : (t : Bytes) (ts : List Bytes) → all (differs t) ts ≡ true → distinct ts ≡ true → distinct (t ∷ ts) ≡ true
unfolding distinct
distinct_cons t ts p q = both_of p q

pub distinct_head : (t : Bytes) (ts : List Bytes) → distinct (t ∷ ts) ≡ true → all (differs t) ts ≡ true
unfolding distinct
distinct_head t ts e = both_left _ _ e

pub distinct_tail : (t : Bytes) (ts : List Bytes) → distinct (t ∷ ts) ≡ true → distinct ts ≡ true
unfolding distinct
distinct_tail t ts e = both_right _ _ e

-- a new text is different from those before it
pub distinct_new : (held : List Bytes) (t : Bytes) → distinct held ≡ true → handle_of t held ≡ None → distinct (held ++ (t ∷ [])) ≡ true
distinct_new [] t d e = distinct_cons t [] (all_nil (differs t)) distinct_nil
distinct_new (s ∷ ss) t d e =
    let p = held_not t (s ∷ ss) e in
    let q : same s t ≡ false = same_swap s t ∙ same_not t s (all_head (differs t) s ss p) in
    distinct_cons s (ss ++ (t ∷ []))
    (all_append (differs s) ss (t ∷ []) (distinct_head s ss d) (all_cons (differs s) t [] (differs_of s t q) (all_nil (differs s))))
    (distinct_new ss t (distinct_tail s ss d) (not_held t ss (all_tail (differs t) s ss p)))

pub first_empty_more : (held x : List Bytes) → first_empty held ≡ true → first_empty (held ++ x) ≡ true
unfolding first_empty
first_empty_more [] x e = clash e refl
first_empty_more (t ∷ ts) x e = e

-- the empty text has handle 0
pub empty_handle : (held : List Bytes) → first_empty held ≡ true → handle_of [] held ≡ Some 0
unfolding first_empty
empty_handle [] e = clash e refl
empty_handle (t ∷ ts) e = handle_here [] t ts (same_swap [] t ∙ e)
