-- An automaton over a run of characters: a run in pieces, and what holds of the text that it has read.
use Rattle.markup.specs.Automaton.{Moved, continues, completes, malformed, Lexed, incomplete, finished, not_well_formed, lexed_on, lexed, wrapped_step, inner_step}
use Prim.Native.Nat.{ℕ}
use mathlib.Core.Path.{◌≡◌, refl, sym, ap}
use mathlib.Core.List.{List, [], ◌∷◌, ◌++◌, append_assoc}
use Rattle.base.proofs.Split.{no}

-- a character behind a run
pub moved_char : {A : Type 0} (xs : List A) (x : A) (ys : List A) → xs ++ (x ∷ ys) ≡ (xs ++ (x ∷ [])) ++ ys
moved_char xs x ys = sym (append_assoc xs (x ∷ []) ys)

module _ {S A : Type 0} (step : S → ℕ → Moved S A) where
  -- what more characters come to
  abbrev pub lexed_more : List ℕ → Lexed S A → Lexed S A
  lexed_more t (incomplete q) = lexed step q t
  lexed_more t (finished a rest) = finished a (rest ++ t)
  lexed_more t not_well_formed = not_well_formed

  -- pieces equal the whole
  pub pieces : (s : List ℕ) (q : S) (t : List ℕ) → lexed step q (s ++ t) ≡ lexed_more t (lexed step q s)
  unfolding lexed
  pieces [] q t = refl
  pieces (c ∷ s) q t = go (step q c) (λ r. pieces s r t)
    where
      go : (m : Moved S A) → ((r : S) → lexed step r (s ++ t) ≡ lexed_more t (lexed step r s))
          → lexed_on (λ r. lexed step r (s ++ t)) (s ++ t) m ≡ lexed_more t (lexed_on (λ r. lexed step r s) s m)
      go (continues r) h = h r
      go (completes a) h = refl
      go malformed h = refl

  -- what a step leaves of an invariant: the text that is read, as what it puts before the rest
  module _ (Reading : (List ℕ → List ℕ) → S → Type 0) (Read : (List ℕ → List ℕ) → A → Type 0) where
    abbrev pub Kept : (List ℕ → List ℕ) → Moved S A → Type 0
    Kept before (continues q) = Reading before q
    Kept before (completes a) = Read before a
    Kept before malformed = Unit {0}

    -- a run that is read is what was read of it before the rest
    abbrev pub ReadBefore : List ℕ → List ℕ → A → Type 0
    ReadBefore whole rest a = (before : List ℕ → List ℕ) × (Read before a × (whole ≡ before rest))

    pub read_all : ((before : List ℕ → List ℕ) (q : S) (c : ℕ) → Reading before q → Kept (λ s. before (c ∷ s)) (step q c))
        → (s : List ℕ) (before : List ℕ → List ℕ) (q : S) (rest : List ℕ) (a : A) → Reading before q → lexed step q s ≡ finished a rest → ReadBefore (before s) rest a
    unfolding lexed
    read_all keeps [] before q rest a r e = no (cc e)
    read_all keeps (c ∷ s) before q rest a r e = go (step q c) (keeps before q c r) (read_all keeps s (λ t. before (c ∷ t))) e
      where
        go : (m : Moved S A) → Kept (λ t. before (c ∷ t)) m
            → ((p : S) (tail : List ℕ) (b : A) → Reading (λ t. before (c ∷ t)) p → lexed step p s ≡ finished b tail → ReadBefore (before (c ∷ s)) tail b)
            → lexed_on (λ p. lexed step p s) s m ≡ finished a rest → ReadBefore (before (c ∷ s)) rest a
        go (continues p) k h e = h p rest a k e
        go (completes b) k h e =
            let x : finished b s ≡ finished a rest = e in
            let y : b ≡ a = cc x in
            let z : s ≡ rest = cc x in
            (λ t. before (c ∷ t), (rw y at k, ap (λ t. before (c ∷ t)) z))
        go malformed k h e = no (cc e)

module _ {S T A B : Type 0} (step : S → ℕ → Moved S A) (outer : T → ℕ → Moved T B) (wrap : S → T) where
  -- a part read to its end, where its end is not that of the whole
  pub inner_lexed : (behind : A → T) → ((q : S) (c : ℕ) → outer (wrap q) c ≡ inner_step wrap behind (step q c))
      → (s : List ℕ) (q : S) (rest : List ℕ) (a : A) → lexed step q s ≡ finished a rest → lexed outer (wrap q) s ≡ lexed outer (behind a) rest
  unfolding lexed
  inner_lexed behind stepped [] q rest a e = no (cc e)
  inner_lexed behind stepped (c ∷ s) q rest a e = rw (stepped q c) (go (step q c) (inner_lexed behind stepped s) e)
    where
      go : (m : Moved S A) → ((p : S) (tail : List ℕ) (b : A) → lexed step p s ≡ finished b tail → lexed outer (wrap p) s ≡ lexed outer (behind b) tail)
          → lexed_on (λ p. lexed step p s) s m ≡ finished a rest → lexed_on (λ p. lexed outer p s) s (inner_step wrap behind m) ≡ lexed outer (behind a) rest
      go (continues p) h e = h p rest a e
      go (completes b) h e =
          let x : finished b s ≡ finished a rest = e in
          let y : b ≡ a = cc x in
          let z : s ≡ rest = cc x in
          rw (y, z)
      go malformed h e = no (cc e)

module _ {S T A : Type 0} (step : S → ℕ → Moved S A) (outer : T → ℕ → Moved T A) (wrap : S → T) where
  -- and where it is
  pub part_lexed : ((q : S) (c : ℕ) → outer (wrap q) c ≡ wrapped_step wrap (step q c))
      → (s : List ℕ) (q : S) (rest : List ℕ) (a : A) → lexed step q s ≡ finished a rest → lexed outer (wrap q) s ≡ finished a rest
  unfolding lexed
  part_lexed stepped [] q rest a e = no (cc e)
  part_lexed stepped (c ∷ s) q rest a e = rw (stepped q c) (go (step q c) (part_lexed stepped s) e)
    where
      go : (m : Moved S A) → ((p : S) (tail : List ℕ) (b : A) → lexed step p s ≡ finished b tail → lexed outer (wrap p) s ≡ finished b tail)
          → lexed_on (λ p. lexed step p s) s m ≡ finished a rest → lexed_on (λ p. lexed outer p s) s (wrapped_step wrap m) ≡ finished a rest
      go (continues p) h e = h p rest a e
      go (completes b) h e =
          let x : finished b s ≡ finished a rest = e in
          let y : b ≡ a = cc x in
          let z : s ≡ rest = cc x in
          rw (y, z)
      go malformed h e = no (cc e)
