-- The reading of marks piece by piece: a list of marks leads from a place to a place, and makes changes on the way.
use Rattle.std.specs.Prelude.{None, Option, Some}
use Rattle.base.specs.Options.{Option-elim, bind}
use mathlib.Core.Path.{◌≡◌, refl, sym, ◌∙◌, ap}
use mathlib.Core.List.{List, [], ◌∷◌, ◌++◌, append_assoc, append-nil}
use Rattle.nesting.specs.declared.Name.{Name}
use Rattle.nesting.specs.declared.Place.{Place}
use Rattle.nesting.specs.Nesting.{closed}
use Rattle.nesting.specs.Marks.{Mark, opens, empties, closes, Change, mark_step, run, makes, changes_from}

run_append : (p : Place) (xs ys : List Mark) → run p (xs ++ ys) ≡ bind (run p xs) (λ q. run q ys)
unfolding run bind
run_append p [] ys = refl
run_append p (m ∷ xs) ys = go (mark_step p m) (λ q. run_append q xs ys)
  where
    go : (o : Option Place) → ((q : Place) → run q (xs ++ ys) ≡ bind (run q xs) (λ r. run r ys)) → bind o (λ q. run q (xs ++ ys)) ≡ bind (bind o (λ q. run q xs)) (λ q. run q ys)
    go None f = refl
    go (Some q) f = f q

changes_append : (p : Place) (xs ys : List Mark) → changes_from p (xs ++ ys) ≡ changes_from p xs ++ Option-elim (run p xs) [] (λ q. changes_from q ys)
unfolding changes_from run bind Option-elim
changes_append p [] ys = refl
changes_append p (m ∷ xs) ys = go (mark_step p m) (λ q. changes_append q xs ys)
  where
    go : (o : Option Place) → ((q : Place) → changes_from q (xs ++ ys) ≡ changes_from q xs ++ Option-elim (run q xs) [] (λ r. changes_from r ys))
        → makes p m ++ Option-elim o [] (λ q. changes_from q (xs ++ ys))
        ≡ makes p m ++ Option-elim o [] (λ q. changes_from q xs) ++ Option-elim (bind o (λ q. run q xs)) [] (λ q. changes_from q ys)
    go None f = sym (append-nil _)
    go (Some q) f = ap (λ cs. makes p m ++ cs) (f q) ∙ sym (append_assoc (makes p m) _ _)

-- from p the marks ms lead to q, and make the changes cs
pub record Leads (p : Place) (ms : List Mark) (cs : List Change) (q : Place) : Type 0 where
  pub runs : run p ms ≡ Some q
  pub does : changes_from p ms ≡ cs

pub stays : (p : Place) → Leads p [] [] p
unfolding run changes_from
stays p = record { runs = refl; does = refl }

pub goes : {p q r : Place} {m : Mark} {ms : List Mark} {cs : List Change} → mark_step p m ≡ Some q → Leads q ms cs r → Leads p (m ∷ ms) (makes p m ++ cs) r
unfolding run changes_from bind Option-elim
goes e l = record { runs = rw e l.runs; does = rw (e, l.does) }

pub joins : {p q r : Place} {xs ys : List Mark} {cs ds : List Change} → Leads p xs cs q → Leads q ys ds r → Leads p (xs ++ ys) (cs ++ ds) r
unfolding bind Option-elim
joins {p} {q} {r} {xs} {ys} {cs} {ds} l k = record { runs = run_append p xs ys ∙ rw l.runs k.runs; does = changes_append p xs ys ∙ rw (l.runs, l.does, k.does) }

pub making : {p q : Place} {ms : List Mark} {cs ds : List Change} → Leads p ms cs q → cs ≡ ds → Leads p ms ds q
making l e = record { runs = l.runs; does = l.does ∙ e }

-- an empty element
pub alone : {p q : Place} {n : Name} → mark_step p (empties n) ≡ Some q → Leads p (empties n ∷ []) (makes p (empties n)) q
alone {p} {q} {n} e = making (goes e (stays q)) (append-nil _)

closing : (r : Place) → mark_step r closes ≡ Some (closed r)
unfolding mark_step
closing r = refl

-- an element with something in it
pub around : {p q r : Place} {n : Name} {ms : List Mark} {cs : List Change} → mark_step p (opens n) ≡ Some q → Leads q ms cs r
    → Leads p (opens n ∷ (ms ++ (closes ∷ []))) (makes p (opens n) ++ (cs ++ makes r closes)) (closed r)
around {p} {q} {r} {n} {ms} {cs} e l = goes e (joins l (making (goes (closing r) (stays _)) (append-nil _)))
