-- What a character more makes of a value of the declaration.
use Prim.Native.Nat.{ℕ}
use mathlib.Core.Path.{◌≡◌, refl, ◌∙◌}
use mathlib.Core.Bool.{Bool, true, false, cond}
use mathlib.Core.List.{List, [], ◌∷◌, ◌++◌, map, map-append}
use mathlib.Core.Logic.{◌⊎◌, inl, inr}
use Rattle.std.specs.Prelude.{Some}
use lib.Dec.{eqb}
use borrow.Author.Tests.{eqb-true}
use Rattle.base.specs.Ascii.{ascii}
use Rattle.base.specs.Bytes.{both, either, all, same, is_digit}
use Rattle.base.proofs.Split.{by_bool, both_true, either_false}
use Rattle.text.specs.Char.{from_to}
use Rattle.text.specs.Check.{begins}
use Rattle.markup.specs.Markup.{QuoteMark, DeclarationKey, version_key, encoding_key, standalone_key, version_num, upper_case, key_value, Meaning}
use Rattle.markup.specs.Automaton.{Moved, continues, malformed, DeclarationState, between_items, in_key_value, begins_version, begins_key_value}
use Rattle.markup_skipped.specs.Declarations.{value_grown, value_end, value_kept, declaration_kept, declaration_forgotten, value_key, value_letters}
use Rattle.markup_skipped.specs.declared.declarations.ValueLetters.{ValueLetters}
use Rattle.markup_skipped.specs.declared.declarations.ValueLetters.TheVariants as V

-- a value that is the beginning of one where a test holds, and what is then kept of it
grown : (key : DeclarationKey) (q : QuoteMark) (v w : List ℕ) (t : Bool) → begins_key_value key v ≡ t → (t ≡ true → value_kept key v ≡ w)
    → declaration_forgotten (value_grown key q v) ≡ cond t (continues (in_key_value key q w)) malformed
unfolding declaration_kept
grown key q v w t e k = by_bool t (λ h. rw (e, h, k h)) (λ h. rw (e, h))

pub nothing_kept : (key : DeclarationKey) → value_kept key [] ≡ []
unfolding value_kept version_num
nothing_kept version_key = refl
nothing_kept encoding_key = refl
nothing_kept standalone_key = refl

zero_digit : is_digit 48 ≡ true
unfolding is_digit both
zero_digit = refl

module _ (q : QuoteMark) (c : ℕ) where
  -- a value that goes on where a test holds
  abbrev pub taken : DeclarationKey → Bool → List ℕ → Moved DeclarationState Meaning
  taken key fits v = cond fits (continues (in_key_value key q v)) malformed

  -- the encoding with a character more, of which the capital counts
  encoded : (v : List ℕ) (x : ℕ) → begins (map upper_case (v ++ (c ∷ []))) (ascii "UTF-8") ≡ eqb (upper_case c) x → map upper_case v ≡ v
      → declaration_forgotten (value_grown encoding_key q (v ++ (c ∷ []))) ≡ taken encoding_key (eqb (upper_case c) x) (v ++ (x ∷ []))
  unfolding begins_key_value value_kept
  encoded v x b u =
      let k = λ (h : eqb (upper_case c) x ≡ true). let e = eqb-true (upper_case c) x h in map-append upper_case v (c ∷ []) ∙ rw (u, e) in
      grown encoding_key q (v ++ (c ∷ [])) (v ++ (x ∷ [])) (eqb (upper_case c) x) b k

  pub version0 : declaration_forgotten (value_grown version_key q (c ∷ [])) ≡ taken version_key (eqb c 49) (ascii "1")
  unfolding begins_key_value begins_version value_kept version_num all both
  version0 = grown version_key q (c ∷ []) (ascii "1") (eqb c 49) refl (λ h. let e = eqb-true c 49 h in rw e)

  pub version1 : declaration_forgotten (value_grown version_key q (ascii "1" ++ (c ∷ []))) ≡ taken version_key (eqb c 46) (ascii "1.")
  unfolding begins_key_value begins_version value_kept version_num all both
  version1 = grown version_key q (ascii "1" ++ (c ∷ [])) (ascii "1.") (eqb c 46) (both_true _) (λ h. let e = eqb-true c 46 h in rw e)

  pub version2 : declaration_forgotten (value_grown version_key q (ascii "1." ++ (c ∷ []))) ≡ taken version_key (is_digit c) (ascii "1.0")
  unfolding begins_key_value begins_version value_kept version_num all both
  version2 = grown version_key q (ascii "1." ++ (c ∷ [])) (ascii "1.0") (is_digit c) (both_true _) (λ h. rw h)

  pub version3 : declaration_forgotten (value_grown version_key q (ascii "1.0" ++ (c ∷ []))) ≡ taken version_key (is_digit c) (ascii "1.0")
  unfolding begins_key_value begins_version value_kept version_num all both
  version3 = grown version_key q (ascii "1.0" ++ (c ∷ [])) (ascii "1.0") (is_digit c) (rw zero_digit (both_true _)) (λ h. rw (zero_digit, h))

  pub encoding0 : declaration_forgotten (value_grown encoding_key q (c ∷ [])) ≡ taken encoding_key (eqb (upper_case c) 85) (ascii "U")
  unfolding begins same from_to both
  encoding0 = encoded [] 85 (both_true _) refl

  pub encoding1 : declaration_forgotten (value_grown encoding_key q (ascii "U" ++ (c ∷ []))) ≡ taken encoding_key (eqb (upper_case c) 84) (ascii "UT")
  unfolding begins same from_to both
  encoding1 = encoded (ascii "U") 84 (both_true _) refl

  pub encoding2 : declaration_forgotten (value_grown encoding_key q (ascii "UT" ++ (c ∷ []))) ≡ taken encoding_key (eqb (upper_case c) 70) (ascii "UTF")
  unfolding begins same from_to both
  encoding2 = encoded (ascii "UT") 70 (both_true _) refl

  pub encoding3 : declaration_forgotten (value_grown encoding_key q (ascii "UTF" ++ (c ∷ []))) ≡ taken encoding_key (eqb (upper_case c) 45) (ascii "UTF-")
  unfolding begins same from_to both
  encoding3 = encoded (ascii "UTF") 45 (both_true _) refl

  pub encoding4 : declaration_forgotten (value_grown encoding_key q (ascii "UTF-" ++ (c ∷ []))) ≡ taken encoding_key (eqb (upper_case c) 56) (ascii "UTF-8")
  unfolding begins same from_to both
  encoding4 = encoded (ascii "UTF-") 56 (both_true _) refl

  pub standalone0 : eqb c 121 ≡ false → declaration_forgotten (value_grown standalone_key q (c ∷ [])) ≡ taken standalone_key (eqb c 110) (ascii "n")
  unfolding begins_key_value begins value_kept same both either
  standalone0 n = grown standalone_key q (c ∷ []) (ascii "n") (eqb c 110) (rw n (both_true _)) (λ h. let e = eqb-true c 110 h in rw e)

  pub standalone_y : declaration_forgotten (value_grown standalone_key q (ascii "y" ++ (c ∷ []))) ≡ taken standalone_key (eqb c 101) (ascii "ye")
  unfolding begins_key_value begins value_kept same both
  standalone_y = grown standalone_key q (ascii "y" ++ (c ∷ [])) (ascii "ye") (eqb c 101) (either_false _ ∙ both_true _) (λ h. let e = eqb-true c 101 h in rw e)

  pub standalone_ye : declaration_forgotten (value_grown standalone_key q (ascii "ye" ++ (c ∷ []))) ≡ taken standalone_key (eqb c 115) (ascii "yes")
  unfolding begins_key_value begins value_kept same both
  standalone_ye = grown standalone_key q (ascii "ye" ++ (c ∷ [])) (ascii "yes") (eqb c 115) (either_false _ ∙ both_true _) (λ h. let e = eqb-true c 115 h in rw e)

  pub standalone_n : declaration_forgotten (value_grown standalone_key q (ascii "n" ++ (c ∷ []))) ≡ taken standalone_key (eqb c 111) (ascii "no")
  unfolding begins_key_value begins value_kept same both either
  standalone_n = grown standalone_key q (ascii "n" ++ (c ∷ [])) (ascii "no") (eqb c 111) (both_true _) (λ h. let e = eqb-true c 111 h in rw e)

-- behind a whole encoding or a whole `yes` or `no` no letter stands
pub no_more : (letters : ValueLetters) (q : QuoteMark) (c : ℕ) → (letters ≡ V.Encoding5) ⊎ ((letters ≡ V.Yes) ⊎ (letters ≡ V.No))
    → malformed ≡ declaration_forgotten (value_grown (value_key letters) q (value_letters letters ++ (c ∷ [])))
unfolding begins_key_value begins same from_to both either
no_more letters q c (inl e) = rw e
no_more letters q c (inr (inl e)) = rw e
no_more letters q c (inr (inr e)) = rw e

-- ---- what the mark behind a value comes to

abbrev pub ended_so : ValueLetters → Moved DeclarationState Meaning
ended_so letters = declaration_forgotten (value_end (value_key letters) (value_letters letters))

pub word_ends : (letters : ValueLetters) → (letters ≡ V.Yes) ⊎ (letters ≡ V.No) → continues (between_items (Some standalone_key) false) ≡ ended_so letters
unfolding key_value same both either declaration_kept
word_ends letters (inl e) = rw e
word_ends letters (inr e) = rw e

pub none_ends : (letters : ValueLetters) → (letters ≡ V.Version3 → ⊥) → (letters ≡ V.Encoding5 → ⊥) → (letters ≡ V.Yes → ⊥) → (letters ≡ V.No → ⊥) → malformed ≡ ended_so letters
unfolding key_value version_num same from_to both either
none_ends V.Version0 a b d e = refl
none_ends V.Version1 a b d e = refl
none_ends V.Version2 a b d e = refl
none_ends V.Version3 a b d e = absurd (a refl)
none_ends V.Encoding0 a b d e = refl
none_ends V.Encoding1 a b d e = refl
none_ends V.Encoding2 a b d e = refl
none_ends V.Encoding3 a b d e = refl
none_ends V.Encoding4 a b d e = refl
none_ends V.Encoding5 a b d e = absurd (b refl)
none_ends V.Standalone0 a b d e = refl
none_ends V.Y a b d e = refl
none_ends V.Ye a b d e = refl
none_ends V.Yes a b d e = absurd (d refl)
none_ends V.N a b d e = refl
none_ends V.No a b d e = absurd (e refl)
