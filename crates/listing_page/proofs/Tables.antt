-- Sorted tables: what is found in them, that this is all there is to them, and that the summary of acts is one that holds what is known of each key.
use Rattle.std.specs.Prelude.{None, Option, Some, option_map}
use mathlib.Core.Path.{◌≡◌, refl, sym, ◌∙◌, ap}
use mathlib.Core.Bool.{true, cond}
use mathlib.Core.List.{List, [], ◌∷◌, ◌++◌}
use Rattle.base.specs.Bytes.{Bytes}
use Rattle.base.proofs.Split.{clash, no}
use Rattle.base.proofs.Strict.{by_order, asymmetric}
use Rattle.model.specs.Act.{Act, Key, key_of, same_key, key_before}
use Rattle.model.proofs.Keys.{keys, same_key_lem, other_key, by_key}
use Rattle.listing_page.specs.Summary.{Known, nothing, learn, known_from, known, PageRow, Table, find_key, put_row, high_in, row_after, summary_from, summary}

-- ---- sorted tables

-- what holds of each row of a table
unfoldable pub Every : (PageRow → Type 0) → Table → Type 0
Every P [] = Unit {0}
Every P (r ∷ rs) = P r × Every P rs

-- each key of a table comes after k
abbrev pub Above : Key → Table → Type 0
Above k = Every (λ r. key_before k r.key ≡ true)

-- each row's key comes before the keys of the rows after it
unfoldable pub Sorted : Table → Type 0
Sorted [] = Unit {0}
Sorted (r ∷ rs) = Above r.key rs × Sorted rs

-- ---- find and put, by cases

pub find_nil : (k : Key) → find_key k [] ≡ None
unfolding find_key
find_nil k = refl

module _ (k : Key) (r : PageRow) (rs : Table) where
  pub find_here : k ≡ r.key → find_key k (r ∷ rs) ≡ Some r
  unfolding find_key
  find_here e = rw ((same_key_lem k r.key).1 e)

  pub find_later : (k ≡ r.key → ⊥) → find_key k (r ∷ rs) ≡ find_key k rs
  unfolding find_key
  find_later n = rw (other_key k r.key n)

module _ (n r : PageRow) (rs : Table) where
  pub put_before : key_before n.key r.key ≡ true → put_row n (r ∷ rs) ≡ n ∷ r ∷ rs
  unfolding put_row
  put_before t = ap (λ x. cond x (n ∷ r ∷ rs) (cond (same_key n.key r.key) (n ∷ rs) (r ∷ put_row n rs))) t

  pub put_here : n.key ≡ r.key → put_row n (r ∷ rs) ≡ n ∷ rs
  unfolding put_row
  put_here e = rw (e, keys.irreflexive r.key, (same_key_lem r.key r.key).1 refl)

  pub put_later : key_before r.key n.key ≡ true → put_row n (r ∷ rs) ≡ r ∷ put_row n rs
  unfolding put_row
  put_later t = rw (asymmetric keys r.key n.key t, other_key n.key r.key (λ e. clash (rw e at t) (keys.irreflexive r.key)))

-- a row is put before, over or after another
pub by_place : {C : Type 0} (n r : PageRow) → (key_before n.key r.key ≡ true → C) → (n.key ≡ r.key → C) → (key_before r.key n.key ≡ true → C) → C
by_place n r = by_order keys n.key r.key

-- ---- what is found after a row is put

pub find_put_same : (k : Key) (n : PageRow) (rs : Table) → k ≡ n.key → find_key k (put_row n rs) ≡ Some n
unfolding put_row
find_put_same k n [] e = find_here k n [] e
find_put_same k n (r ∷ rs) e =
    by_place n r
    (λ t. rw (put_before n r rs t) (find_here k n (r ∷ rs) e))
    (λ d. rw (put_here n r rs d) (find_here k n rs e))
    (λ t. rw (put_later n r rs t)
    (find_later k r (put_row n rs) (λ d. clash (rw (sym d ∙ e) at t) (keys.irreflexive n.key)) ∙ find_put_same k n rs e))

pub find_put_other : (k : Key) (n : PageRow) (rs : Table) → (k ≡ n.key → ⊥) → find_key k (put_row n rs) ≡ find_key k rs
unfolding put_row
find_put_other k n [] m = find_later k n [] m
find_put_other k n (r ∷ rs) m =
    by_place n r
    (λ t. rw (put_before n r rs t) (find_later k n (r ∷ rs) m))
    (λ d. rw (put_here n r rs d) (find_later k n rs m ∙ sym (find_later k r rs (λ e. m (e ∙ sym d)))))
    (λ t. rw (put_later n r rs t)
    (by_key k r.key
    (λ e. find_here k r (put_row n rs) e ∙ sym (find_here k r rs e))
    (λ d. find_later k r (put_row n rs) d ∙ find_put_other k n rs m ∙ sym (find_later k r rs d))))

pub find_key_lem : (k : Key) (rs : Table) (r : PageRow) → find_key k rs ≡ Some r → k ≡ r.key
find_key_lem k [] r e = no (cc (find_nil k))
find_key_lem k (q ∷ rs) r e =
    by_key k q.key
    (λ d. let w : q ≡ r = cc (find_here k q rs d) in d ∙ ap (λ x. x.key) w)
    (λ d. find_key_lem k rs r (sym (find_later k q rs d) ∙ e))

-- ---- a row put into a sorted table leaves it sorted

pub every_put : (P : PageRow → Type 0) (n : PageRow) (rs : Table) → P n → Every P rs → Every P (put_row n rs)
unfolding Every put_row
every_put P n [] p h = (p, tt)
every_put P n (r ∷ rs) p h =
    by_place n r
    (λ t. rw (put_before n r rs t) (p, h))
    (λ e. rw (put_here n r rs e) (p, h.1))
    (λ t. rw (put_later n r rs t) (h.0, every_put P n rs p h.1))

above_down : (j k : Key) (rs : Table) → key_before j k ≡ true → Above k rs → Above j rs
unfolding Every
above_down j k [] t a = tt
above_down j k (r ∷ rs) t a = (keys.transitive j k r.key t a.0, above_down j k rs t a.1)

pub sorted_nil : Sorted []
unfolding Sorted
sorted_nil = tt

pub sorted_put : (n : PageRow) (rs : Table) → Sorted rs → Sorted (put_row n rs)
unfolding Sorted Every put_row
sorted_put n [] h = (tt, tt)
sorted_put n (r ∷ rs) h =
    by_place n r
    (λ t. rw (put_before n r rs t) ((t, above_down n.key r.key rs t h.0), h))
    (λ e. rw (put_here n r rs e) (rw e h.0, h.1))
    (λ t. rw (put_later n r rs t) (every_put _ n rs t h.0, sorted_put n rs h.1))

-- ---- two sorted tables in which each key finds the same are the same

find_above : (k : Key) (rs : Table) → Above k rs → find_key k rs ≡ None
unfolding Every
find_above k [] a = find_nil k
find_above k (r ∷ rs) a =
    find_later k r rs (λ e. clash (rw e at a.0) (keys.irreflexive r.key)) ∙ find_above k rs a.1

-- the first key of a table is not before that of another in which it is found
not_first : (r s : PageRow) (rs ss : Table) → Above s.key ss → find_key r.key (r ∷ rs) ≡ find_key r.key (s ∷ ss) → key_before r.key s.key ≡ true → ⊥
unfolding Every
not_first r s rs ss a e t =
    no (cc (find_here r.key r rs refl, find_above r.key (s ∷ ss) (t, above_down r.key s.key ss t a)))

pub same_table : (rs ss : Table) → Sorted rs → Sorted ss → ((k : Key) → find_key k rs ≡ find_key k ss) → rs ≡ ss
unfolding Sorted
same_table [] [] h g e = refl
same_table [] (s ∷ ss) h g e = no (cc (e s.key, find_nil s.key, find_here s.key s ss refl))
same_table (r ∷ rs) [] h g e = no (cc (e r.key, find_nil r.key, find_here r.key r rs refl))
same_table (r ∷ rs) (s ∷ ss) h g e =
    by_place r s
    (λ t. absurd (not_first r s rs ss g.0 (e r.key) t))
    (λ d. let q : r ≡ s = cc (e r.key, find_here r.key r rs refl, find_here r.key s ss d) in
    cc (q, same_table rs ss h.1 g.1 (rest d)))
    (λ t. absurd (not_first s r ss rs h.0 (sym (e s.key)) t))
  where
    rest : r.key ≡ s.key → (k : Key) → find_key k rs ≡ find_key k ss
    rest d k =
        by_key k r.key
        (λ p. cc (p, d, find_above r.key rs h.0, find_above s.key ss g.0))
        (λ n. sym (find_later k r rs n) ∙ e k ∙ find_later k s ss (λ p. n (p ∙ sym d)))

-- ---- the summary

-- what holds of the row that each act leaves holds of every row of the summary
every_from : (P : PageRow → Type 0) → ((a : Act Bytes) (r : Option PageRow) → P (row_after a r)) → (t : Table) (acts : List (Act Bytes)) → Every P t → Every P (summary_from t acts)
unfolding summary_from
every_from P f t [] h = h
every_from P f t (a ∷ acts) h = every_from P f (put_row (row_after a (find_key (key_of a) t)) t) acts (every_put P (row_after a (find_key (key_of a) t)) t (f a (find_key (key_of a) t)) h)

pub every_summary : (P : PageRow → Type 0) → ((a : Act Bytes) (r : Option PageRow) → P (row_after a r)) → (acts : List (Act Bytes)) → Every P (summary acts)
unfolding summary Every
every_summary P f acts = every_from P f [] acts tt

sorted_from : (t : Table) (acts : List (Act Bytes)) → Sorted t → Sorted (summary_from t acts)
unfolding summary_from
sorted_from t [] h = h
sorted_from t (a ∷ acts) h = sorted_from (put_row (row_after a (find_key (key_of a) t)) t) acts (sorted_put _ t h)

pub summary_sorted : (acts : List (Act Bytes)) → Sorted (summary acts)
unfolding summary
summary_sorted acts = sorted_from [] acts sorted_nil

-- what a row says, or that there is none
abbrev pub known_in : Option PageRow → Known
known_in None = nothing
known_in (Some r) = record { last = Some r.last; high = r.high }

high_in_lem : (r : Option PageRow) → (known_in r).high ≡ high_in r
high_in_lem None = refl
high_in_lem (Some r) = refl

-- the table learns of an act what is to be known after it
module _ (a : Act Bytes) (t : Table) (k : Key) where
  learns_own : k ≡ key_of a → known_in (find_key k (put_row (row_after a (find_key (key_of a) t)) t)) ≡ learn a (known_in (find_key k t))
  learns_own e =
      let h : high_in (find_key (key_of a) t) ≡ (known_in (find_key k t)).high = ap (λ j. high_in (find_key j t)) (sym e) ∙ sym (high_in_lem (find_key k t)) in
      cc (find_put_same k (row_after a (find_key (key_of a) t)) t e, h)

  learns : known_in (find_key k (put_row (row_after a (find_key (key_of a) t)) t)) ≡ cond (same_key k (key_of a)) (learn a (known_in (find_key k t))) (known_in (find_key k t))
  learns =
      by_key k (key_of a)
      (λ e. rw ((same_key_lem k (key_of a)).1 e) (learns_own e))
      (λ n. rw (other_key k (key_of a) n) (ap known_in (find_put_other k (row_after a (find_key (key_of a) t)) t n)))

known_from_lem : (t : Table) (acts : List (Act Bytes)) (k : Key) → known_from (known_in (find_key k t)) acts k ≡ known_in (find_key k (summary_from t acts))
unfolding known_from summary_from
known_from_lem t [] k = refl
known_from_lem t (a ∷ acts) k = rw (← learns a t k) (known_from_lem (put_row (row_after a (find_key (key_of a) t)) t) acts k)

-- the summary holds what is known of each key, and nothing else
pub known_summary : (acts : List (Act Bytes)) (k : Key) → known acts k ≡ known_in (find_key k (summary acts))
unfolding known summary
known_summary acts k = rw (find_nil k) at (known_from_lem [] acts k)

-- the row for what is known of a key
abbrev pub row_in : Key → Known → Option PageRow
row_in k x = option_map (λ l. record { key = k; high = x.high; last = l }) x.last

-- a key has a row exactly when an act named it, and the row holds what the last act left and the highest version
pub find_summary : (acts : List (Act Bytes)) (k : Key) → find_key k (summary acts) ≡ row_in k (known acts k)
find_summary acts k = rw (known_summary acts k) (go (find_key k (summary acts)) refl)
  where
    go : (o : Option PageRow) → find_key k (summary acts) ≡ o → o ≡ row_in k (known_in o)
    go None e = refl
    go (Some r) e = λ i. Some (record { key = sym (find_key_lem k (summary acts) r e) i; high = r.high; last = r.last })

-- a key that no act named has no version
pub unnamed : (acts : List (Act Bytes)) (k : Key) → (known acts k).last ≡ None → known acts k ≡ nothing
unnamed acts k e = known_summary acts k ∙ ap known_in (find_summary acts k ∙ gone_row)
  where
    gone_row : row_in k (known acts k) ≡ None
    gone_row = rw e

-- ---- one act more

summary_append : (t : Table) (acts bcts : List (Act Bytes)) → summary_from t (acts ++ bcts) ≡ summary_from (summary_from t acts) bcts
unfolding summary_from
summary_append t [] bcts = refl
summary_append t (a ∷ acts) bcts = summary_append (put_row (row_after a (find_key (key_of a) t)) t) acts bcts

known_append : (x : Known) (acts bcts : List (Act Bytes)) (k : Key) → known_from x (acts ++ bcts) k ≡ known_from (known_from x acts k) bcts k
unfolding known_from
known_append x [] bcts k = refl
known_append x (a ∷ acts) bcts k = known_append (cond (same_key k (key_of a)) (learn a x) x) acts bcts k

module _ (acts : List (Act Bytes)) (a : Act Bytes) where
  pub known_more : (k : Key) → known (acts ++ (a ∷ [])) k ≡ cond (same_key k (key_of a)) (learn a (known acts k)) (known acts k)
  unfolding known known_from
  known_more k = known_append nothing acts (a ∷ []) k
