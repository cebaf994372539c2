-- Where a lexer refuses bytes behind a `<`, no legal markup begins so; and what it tells as a markup is a legal one that stands there.
use Prim.Native.Nat.{ℕ, ◌≤◌}
use mathlib.Core.Path.{◌≡◌, refl, sym, ◌∙◌, ap}
use mathlib.Core.Bool.{Bool, true}
use mathlib.Core.List.{[], ◌∷◌, ◌++◌, append-nil}
use mathlib.Core.Logic.{◌↔◌}
use lib.ListN.{length}
use Rattle.base.specs.Bytes.{Bytes}
use Rattle.base.proofs.Split.{no}
use Rattle.text.specs.Text.{encoded}
use Rattle.markup.specs.Markup.{Markup, legal_markup_at, written_markup, Meaning, meaning_of}
use Rattle.markup.specs.Automaton.{Lexed, incomplete, finished, not_well_formed, lexed, MarkupState, behind_less_than_sign}
use Rattle.markup.specs.MarkupBytes.{BytesState, at_char, markup_of_bytes}
use Rattle.markup.proofs.MarkupBytes.{boundary_continued}
use Rattle.markup_tags.specs.Meanings.{meaning_kept}
use Rattle.markup_steps.proofs.Runs.{HeldState, HeldMeaning, held_step, held_of, held_lexed, held_begun, begun_run, held_exactly, held_refused}
use Rattle.file_lexer.specs.declared.Before.{Before}
use Rattle.file_lexer.specs.Lexing.{is_first, between, within, Lexing, Told, more, markup, not_markup, LexedRun, lex_run}
use Rattle.file_events.proofs.Lexes.{nothing_kept, RunTells, run_tells, sign_lexed}

-- bytes begin with a legal markup
pub record MarkupStands (first : Bool) (s rest : Bytes) (m : Markup) : Type 0 where
  pub legal : legal_markup_at first m ≡ true
  pub text : s ≡ encoded (written_markup m) ++ rest

-- "markup not well formed by itself or unsupported, judged as it is reached"
pub record MarkupJudged (first : Bool) (s : Bytes) (r : LexedRun) : Type 0 where
  -- what is told as a markup is a legal one that stands there, and is told as what it means
  pub told : (e : Meaning) → r.told ≡ markup e → (m : Markup) × (MarkupStands first s r.rest m × (e ≡ meaning_kept (meaning_of m)))
  -- where bytes are refused, no legal markup begins so, however the file goes on
  pub refused : r.told ≡ not_markup → (t rest : Bytes) (m : Markup) → MarkupStands first (s ++ t) rest m → ⊥
  -- where they are not, and end between two characters, a legal markup goes on so
  pub continued : (q : MarkupState) → r.told ≡ more → r.lexing.place ≡ within (at_char q) → (t : Bytes) × ((m : Markup) × MarkupStands first (s ++ t) [] m)

-- a run that has come to the end of a character can be continued
run_continued : (first : Bool) (s : Bytes) (h : HeldState) (q : MarkupState) → lexed held_step (held_begun first) s ≡ incomplete h → h.state ≡ at_char q
    → (t : Bytes) × ((m : Markup) × MarkupStands first ((60 ∷ s) ++ t) [] m)
run_continued first s h q e g = go (markup_of_bytes first (60 ∷ s)) refl (sym (begun_run first s) ∙ e)
  where
    go : (r : Lexed BytesState Meaning) → markup_of_bytes first (60 ∷ s) ≡ r → held_lexed r ≡ incomplete h → (t : Bytes) × ((m : Markup) × MarkupStands first ((60 ∷ s) ++ t) [] m)
    go (incomplete p) x y =
        let u : held_of p ≡ h = cc y in
        let v : p.bytes ≡ [] = ap (λ (k : HeldState). k.state.bytes) u ∙ ap (λ (k : BytesState). k.bytes) g in
        let w : p ≡ at_char p.markup = λ i. record { markup = p.markup; bytes = v i } in
        let z = boundary_continued first (60 ∷ s) p.markup (x ∙ ap incomplete w) in
        (z.0, (z.1.1.markup, record { legal = z.1.1.legal; text = z.1.1.text }))
    go (finished m rest) x y = no (cc y)
    go not_well_formed x y = no (cc y)

judged : (lent : Bytes) (feeds lines : ℕ) (first : Bool) (s : Bytes) (x : Lexed HeldState HeldMeaning) (r : LexedRun) → lexed held_step (held_begun first) s ≡ x
    → RunTells lent feeds lines s x r → MarkupJudged first (60 ∷ s) r
judged lent feeds lines first s (incomplete h) r e w =
    let a : r.told ≡ more = ap (λ (k : LexedRun). k.told) w.is in
    let b : r.lexing.place ≡ within h.state = ap (λ (k : LexedRun). k.lexing.place) w.is in
    record {
      told = λ d f. no (cc (sym a ∙ f));
      refused = λ f. no (cc (sym a ∙ f));
      continued = λ q f g. let c : within h.state ≡ within (at_char q) = sym b ∙ g in run_continued first s h q e (cc c);
    }
judged lent feeds lines first s (finished m rest) r e w =
    let a : r.told ≡ markup m.meaning = ap (λ (k : LexedRun). k.told) w.is in
    let b : r.rest ≡ rest = ap (λ (k : LexedRun). k.rest) w.is in
    let h = (held_exactly first s rest m).0 e in
    record {
      told = λ d f.
          let c : markup m.meaning ≡ markup d = sym a ∙ f in
          let g : m.meaning ≡ d = cc c in (
            h.markup,
            (
              record { legal = h.legal; text = h.text ∙ ap (λ z. encoded (written_markup h.markup) ++ z) (sym b) },
              sym g ∙ ap (λ (k : HeldMeaning). k.meaning) h.told,
            ),
          );
      refused = λ f. no (cc (sym a ∙ f));
      continued = λ q f g. no (cc (sym a ∙ f));
    }
judged lent feeds lines first s not_well_formed r e w =
    let a = w.told in
    record {
      told = λ d f. no (cc (sym a ∙ f));
      refused = λ f t rest m k. held_refused first s t rest (meaning_of m) e (record { markup = m; legal = k.legal; text = k.text; meaning = refl });
      continued = λ q f g. no (cc (sym a ∙ f));
    }

-- between markups, what bytes that begin with a `<` are told as
pub markup_judged : (before : Before) (l : Lexing) (s : Bytes) → l.place ≡ between before → 16387 ≤ length l.bytes → MarkupJudged (is_first before) (60 ∷ s) (lex_run l (60 ∷ s))
markup_judged before l s p room =
    let first : Bool = is_first before in
    rw (sign_lexed before l s p)
    (judged l.bytes l.lines l.lines first s _ _ refl
    (run_tells l.bytes l.lines room s (at_char (behind_less_than_sign first)) l.lines [] l.bytes (nothing_kept l.bytes)))

-- bytes that are read to their end, if they are, end between two characters
abbrev pub EndsAtCharacter : LexedRun → Type 0
EndsAtCharacter r = r.told ≡ more → (q : MarkupState) × (r.lexing.place ≡ within (at_char q))

exactly : (first : Bool) (s : Bytes) (r : LexedRun) (d : Told) → r.told ≡ d → MarkupJudged first s r → EndsAtCharacter r
    → ((t rest : Bytes) (m : Markup) → MarkupStands first (s ++ t) rest m → ⊥) → r.told ≡ not_markup
exactly first s r more e j c h =
    let q = c e in
    let w = j.continued q.0 e q.1 in
    absurd (h w.0 [] w.1.0 w.1.1)
exactly first s r (markup a) e j c h =
    let w = j.told a e in
    absurd (h [] r.rest w.0 (record { legal = w.1.0.legal; text = append-nil s ∙ w.1.0.text }))
exactly first s r not_markup e j c h = e

-- they are refused exactly where no legal markup begins so, however the file goes on
pub malformed_exactly : (before : Before) (l : Lexing) (s : Bytes) → l.place ≡ between before → 16387 ≤ length l.bytes → EndsAtCharacter (lex_run l (60 ∷ s))
    → ((lex_run l (60 ∷ s)).told ≡ not_markup) ↔ ((t rest : Bytes) (m : Markup) → MarkupStands (is_first before) ((60 ∷ s) ++ t) rest m → ⊥)
malformed_exactly before l s p room c =
    let j = markup_judged before l s p room in
    (j.refused, exactly (is_first before) (60 ∷ s) (lex_run l (60 ∷ s)) (lex_run l (60 ∷ s)).told refl j c)
