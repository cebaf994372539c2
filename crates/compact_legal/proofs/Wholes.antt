-- Whole records end to end: the test decides the record `Whole`, and an append keeps it.
use Rattle.std.specs.Prelude.{None, Option, Some}
use Prim.Native.Nat.{ℕ, zero, suc, ◌-◌, ◌<◌, ◌≤◌}
use mathlib.Core.Path.{◌≡◌, refl, sym, ◌∙◌, ap}
use mathlib.Core.Bool.{Bool, true, false}
use mathlib.Core.List.{List, [], ◌∷◌, ◌++◌, append_assoc, append-nil}
use native.Mathlib.Omega.{arith}
use lib.ListN.{length, drop, length-drop, length-append}
use Rattle.base.specs.Bytes.{Bytes, all}
use Rattle.base.proofs.Split.{by_bool, no, clash}
use Rattle.base.proofs.Lists.{all_nil, all_cons, all_head, all_tail, all_append, all_right}
use Rattle.little.specs.Little.{is_byte}
use Rattle.kind.specs.declared.Kind.{Kind}
use Rattle.compact.specs.Layout.{joined_bytes}
use Rattle.compact.specs.Cut.{Cut, found, KeptRecord, cut_record}
use Rattle.compact.specs.Fits.{fits_kept}
use Rattle.compact.proofs.Cuts.{record_format}
use Rattle.compact.proofs.Format.{of_cut}
use Rattle.compact.proofs.Lengths.{length_record}
use Rattle.compact.specs.Legal.{legal}
use Rattle.compact_legal.specs.Judge.{record_end, end_of}
use Rattle.compact_legal.specs.Whole.{kept_bytes, Whole, legal_rest, after_legal, onward, whole_step, whole_by, whole_records}
use Rattle.compact.proofs.Places.{off_length}
use Rattle.compact_legal.proofs.Fronts.{record_off, end_tells}

module _ (strings : ℕ) (k : Kind) where
  -- what a legal record at the front tells
  after_is : (s r : Bytes) → after_legal strings k s ≡ Some r → (c : Cut KeptRecord) × ((cut_record k s ≡ Some c) × ((legal strings c.item.held ≡ true) × (c.rest ≡ r)))
  unfolding after_legal
  after_is s r h = go (cut_record k s) refl h
    where
      go : (o : Option (Cut KeptRecord)) → cut_record k s ≡ o → legal_rest strings o ≡ Some r → (c : Cut KeptRecord) × ((cut_record k s ≡ Some c) × ((legal strings c.item.held ≡ true) × (c.rest ≡ r)))
      go None e t = no cc
      go (Some c) e t =
          by_bool (legal strings c.item.held)
          (λ y. let z : Some c.rest ≡ Some r = rw y at t in let w : c.rest ≡ r = cc in (c, (e, (y, w))))
          (λ y. let z : None ≡ Some r = rw y at t in no cc)

  after_of : (s : Bytes) (c : Cut KeptRecord) → cut_record k s ≡ Some c → legal strings c.item.held ≡ true → after_legal strings k s ≡ Some c.rest
  unfolding after_legal
  after_of s c e t = rw (e, t)

  shorter : (s r : Bytes) → after_legal strings k s ≡ Some r → length r < length s
  shorter s r h =
      let x = after_is s r h in
      let o = record_off k s x.0 x.1.0 in
      let l : length x.0.rest ≡ length s - o.0 = off_length o.1.0 in
      let f = o.1.0.fits in
      omega (arith, o.1.1, ap length x.1.1.1)

  same_onward : (s : Bytes) (f g : Bytes → Bool) → ((r : Bytes) → length r < length s → f r ≡ g r) → onward (after_legal strings k s) f ≡ onward (after_legal strings k s) g
  same_onward s f g h = go (after_legal strings k s) refl
    where
      go : (o : Option Bytes) → after_legal strings k s ≡ o → onward o f ≡ onward o g
      go None e = refl
      go (Some r) e = h r (shorter s r e)

  -- ---- fuel: as much as the length is enough

  enough : (f g : ℕ) (s : Bytes) → length s ≤ f → length s ≤ g → whole_by strings k f s ≡ whole_by strings k g s
  unfolding whole_by
  enough zero zero s p q = refl
  enough zero (suc g) [] p q = refl
  enough zero (suc g) (b ∷ s) p q = absurd (omega arith)
  enough (suc f) zero [] p q = refl
  enough (suc f) zero (b ∷ s) p q = absurd (omega arith)
  enough (suc f) (suc g) [] p q = refl
  enough (suc f) (suc g) (b ∷ s) p q = same_onward (b ∷ s) (whole_by strings k f) (whole_by strings k g) (λ r l. enough f g r (omega arith) (omega arith))

  pub whole_nil : whole_records strings k [] ≡ true
  unfolding whole_records whole_by
  whole_nil = refl

  pub whole_next : (s r : Bytes) → after_legal strings k s ≡ Some r → whole_records strings k s ≡ whole_records strings k r
  unfolding whole_records whole_by
  whole_next [] r e = absurd (omega (arith, shorter [] r e))
  whole_next (b ∷ s) r e = let l = shorter (b ∷ s) r e in rw e (enough (length s) (length r) r (omega arith) (omega arith))

  pub whole_stops : (s : Bytes) → 0 < length s → after_legal strings k s ≡ None → whole_records strings k s ≡ false
  unfolding whole_records whole_by
  whole_stops [] h e = absurd (omega arith)
  whole_stops (b ∷ s) h e = rw e

  -- ---- the walk of the code

  pub walk_on : (s : Bytes) (at e : ℕ) → at ≤ length s → Some e ≡ record_end strings k s at → (whole_records strings k (drop at s) ≡ whole_records strings k (drop e s)) × ((at < e) × (e ≤ length s))
  walk_on s at e h t =
      let x = end_tells strings k s at h e (sym t) in
      let r = x.1.1.1.0 in
      (whole_next (drop at s) (drop e s) (after_of (drop at s) x.0 x.1.0 x.1.1.0 ∙ ap Some r), x.1.1.1.1)

  pub walk_stops : (s : Bytes) (at : ℕ) → at < length s → None ≡ record_end strings k s at → whole_records strings k (drop at s) ≡ false
  unfolding record_end end_of after_legal
  walk_stops s at h t = whole_stops (drop at s) (omega (arith, length-drop at s)) (go (cut_record k (drop at s)) t)
    where
      go : (o : Option (Cut KeptRecord)) → None ≡ end_of (λ (x : KeptRecord). legal strings x.held) (length s) o → legal_rest strings o ≡ None
      go None t = refl
      go (Some c) t =
          by_bool (legal strings c.item.held)
          (λ y. let z : None ≡ Some (length s - length c.rest) = rw y at t in no cc)
          (λ y. rw y)

-- ---- the test decides `Whole`

joined_append : (xs ys : List KeptRecord) → joined_bytes kept_bytes (xs ++ ys) ≡ joined_bytes kept_bytes xs ++ joined_bytes kept_bytes ys
unfolding joined_bytes
joined_append [] ys = refl
joined_append (x ∷ xs) ys = rw (joined_append xs ys) (sym (append_assoc (kept_bytes x) (joined_bytes kept_bytes xs) (joined_bytes kept_bytes ys)))

joined_snoc : (xs : List KeptRecord) (x : KeptRecord) → joined_bytes kept_bytes (xs ++ x ∷ []) ≡ joined_bytes kept_bytes xs ++ kept_bytes x
unfolding joined_bytes
joined_snoc xs x = joined_append xs (x ∷ []) ∙ rw append-nil

-- a record has bytes
pub kept_long : (x : KeptRecord) → 0 < length (kept_bytes x)
kept_long x = omega (arith, length_record x.id x.held)

-- the bytes tell the records
pub kept_unique : (k : Kind) (xs ys : List KeptRecord) → all (fits_kept k) xs ≡ true → all (fits_kept k) ys ≡ true → joined_bytes kept_bytes xs ≡ joined_bytes kept_bytes ys → xs ≡ ys
unfolding joined_bytes
kept_unique k [] [] f g e = refl
kept_unique k [] (y ∷ ys) f g e = let n = kept_long y in let l = ap length e ∙ length-append (kept_bytes y) (joined_bytes kept_bytes ys) in absurd (omega arith)
kept_unique k (x ∷ xs) [] f g e = let n = kept_long x in let l = sym (ap length e) ∙ length-append (kept_bytes x) (joined_bytes kept_bytes xs) in absurd (omega arith)
kept_unique k (x ∷ xs) (y ∷ ys) f g e =
    let p = (record_format k).back x (joined_bytes kept_bytes xs) (all_head (fits_kept k) x xs f) in
    let q = (record_format k).back y (joined_bytes kept_bytes ys) (all_head (fits_kept k) y ys g) in
    let c : found x (joined_bytes kept_bytes xs) ≡ found y (joined_bytes kept_bytes ys) = sym p ∙ (ap (cut_record k) e ∙ q) in
    let a : (x ≡ y) × (joined_bytes kept_bytes xs ≡ joined_bytes kept_bytes ys) = of_cut (λ z r. (x ≡ z) × (joined_bytes kept_bytes xs ≡ r)) c (refl, refl) in
    let h : x ≡ y = a.0 in
    let t : xs ≡ ys = kept_unique k xs ys (all_tail (fits_kept k) x xs f) (all_tail (fits_kept k) y ys g) a.1 in
    cc

module _ (strings : ℕ) (k : Kind) where
  pub nothing_whole : Whole strings k []
  unfolding joined_bytes
  nothing_whole = record { kept = []; fits = all_nil (fits_kept k); legals = all_nil (λ (x : KeptRecord). legal strings x.held); same = refl }

  -- a record before whole records
  before_whole : (s : Bytes) (c : Cut KeptRecord) → s ≡ kept_bytes c.item ++ c.rest → fits_kept k c.item ≡ true → legal strings c.item.held ≡ true → Whole strings k c.rest → Whole strings k s
  unfolding joined_bytes
  before_whole s c e f g w =
      record {
        kept = c.item ∷ w.kept;
        fits = all_cons (fits_kept k) c.item w.kept f w.fits;
        legals = all_cons (λ (x : KeptRecord). legal strings x.held) c.item w.kept g w.legals;
        same = e ∙ ap (kept_bytes c.item ++◌) w.same;
      }

  sound_step : (s : Bytes) (f : Bytes → Bool) → all is_byte s ≡ true → whole_step strings k f s ≡ true → ((r : Bytes) → all is_byte r ≡ true → f r ≡ true → Whole strings k r) → Whole strings k s
  sound_step [] f b t next = nothing_whole
  sound_step (x ∷ s) f b t next = go (after_legal strings k (x ∷ s)) refl t
    where
      go : (o : Option Bytes) → after_legal strings k (x ∷ s) ≡ o → onward o f ≡ true → Whole strings k (x ∷ s)
      go None e t = clash t refl
      go (Some r) e t =
          let y = after_is strings k (x ∷ s) r e in
          let z = (record_format k).forth (x ∷ s) y.0 b y.1.0 in
          let small : all is_byte y.0.rest ≡ true = all_right is_byte (kept_bytes y.0.item) y.0.rest (rw (← z.0) b) in
          before_whole (x ∷ s) y.0 z.0 z.1 y.1.1.0 (next y.0.rest small (rw y.1.1.1 t))

  sound_by : (f : ℕ) (s : Bytes) → all is_byte s ≡ true → whole_by strings k f s ≡ true → Whole strings k s
  unfolding whole_by
  sound_by zero s b t = sound_step s (λ r. false) b t (λ r c z. clash z refl)
  sound_by (suc f) s b t = sound_step s (whole_by strings k f) b t (sound_by f)

  pub sound : (s : Bytes) → all is_byte s ≡ true → whole_records strings k s ≡ true → Whole strings k s
  unfolding whole_records
  sound s b t = sound_by (length s) s b t

  complete_of : (xs : List KeptRecord) → all (fits_kept k) xs ≡ true → all (λ (x : KeptRecord). legal strings x.held) xs ≡ true → whole_records strings k (joined_bytes kept_bytes xs) ≡ true
  unfolding joined_bytes
  complete_of [] f l = whole_nil strings k
  complete_of (x ∷ xs) f l =
      let c : cut_record k (kept_bytes x ++ joined_bytes kept_bytes xs) ≡ found x (joined_bytes kept_bytes xs) = (record_format k).back x (joined_bytes kept_bytes xs) (all_head (fits_kept k) x xs f) in
      whole_next strings k (kept_bytes x ++ joined_bytes kept_bytes xs) (joined_bytes kept_bytes xs) (after_of strings k (kept_bytes x ++ joined_bytes kept_bytes xs) _ c (all_head (λ (x : KeptRecord). legal strings x.held) x xs l))
      ∙ complete_of xs (all_tail (fits_kept k) x xs f) (all_tail (λ (x : KeptRecord). legal strings x.held) x xs l)

  pub complete : (s : Bytes) → Whole strings k s → whole_records strings k s ≡ true
  complete s w = rw w.same (complete_of w.kept w.fits w.legals)

  -- ---- an append keeps it

  pub append_whole : (s : Bytes) (x : KeptRecord) → fits_kept k x ≡ true → legal strings x.held ≡ true → Whole strings k s → Whole strings k (s ++ kept_bytes x)
  append_whole s x f g w =
      record {
        kept = w.kept ++ x ∷ [];
        fits = all_append (fits_kept k) w.kept (x ∷ []) w.fits (all_cons (fits_kept k) x [] f (all_nil (fits_kept k)));
        legals = all_append (λ (x : KeptRecord). legal strings x.held) w.kept (x ∷ []) w.legals (all_cons (λ (x : KeptRecord). legal strings x.held) x [] g (all_nil (λ (x : KeptRecord). legal strings x.held)));
        same = ap (◌++ kept_bytes x) w.same ∙ sym (joined_snoc w.kept x);
      }

  -- the records after an append are those before it and the new one
  pub append_kept : (s : Bytes) (x : KeptRecord) → fits_kept k x ≡ true → (w : Whole strings k s) (v : Whole strings k (s ++ kept_bytes x)) → v.kept ≡ w.kept ++ x ∷ []
  append_kept s x f w v =
      kept_unique k v.kept (w.kept ++ x ∷ []) v.fits (all_append (fits_kept k) w.kept (x ∷ []) w.fits (all_cons (fits_kept k) x [] f (all_nil (fits_kept k))))
      (sym v.same ∙ (ap (◌++ kept_bytes x) w.same ∙ sym (joined_snoc w.kept x)))
