-- The automaton reads exactly the legal references, as the characters that they refer to.
use Rattle.markup.specs.Automaton.{Moved, malformed, finished, lexed, ReferenceState, behind_ampersand, in_entity, behind_hash, in_decimal, behind_x, in_hex, begins_entity, entity_of, letter_taken, digit_taken, referred_char, reference_step}
use Rattle.markup.specs.Names.{no_chars}
use Rattle.markup.specs.References.{Entity, ampersand, less_than, greater_than, apostrophe, quotation_mark, entity_name, entity_char, Reference, entity_ref, decimal_ref, hex_ref, hex_digit, digit_value, digits_value, some_digits, legal_reference, written_reference, referred}
use Rattle.markup.proofs.Lexing.{Kept, moved_char}
use Rattle.markup.proofs.Parts.{some_more}
use Prim.Native.Nat.{ℕ, ◌+◌, ◌*◌, ◌≤◌}
use mathlib.Core.Path.{◌≡◌, refl, sym, ◌∙◌, ap}
use mathlib.Core.Bool.{Bool, true, false, cond, not}
use mathlib.Core.List.{List, [], ◌∷◌, ◌++◌, append_assoc}
use native.Mathlib.Omega.{arith}
use native.Mathlib.Nat.{zero-mul, zero-add}
use lib.Dec.{eqb, leb}
use borrow.Author.Tests.{eqb-true, ne_eqb, le-leb, leb-true}
use Rattle.base.specs.Bytes.{both, either, all, same, is_digit}
use Rattle.base.proofs.Split.{clash, by_bool, by_either, both_left, both_right, both_of}
use Rattle.base.proofs.Lists.{all_head, all_tail, all_cons, all_nil, same_yes}
use Rattle.text.specs.Char.{xml_char, from_to}
use Rattle.text.specs.Check.{begins}

-- ---- numbers

pub value_more : (base v : ℕ) (ds : List ℕ) (d : ℕ) → digits_value base v (ds ++ (d ∷ [])) ≡ digits_value base v ds * base + digit_value d
unfolding digits_value
value_more base v [] d = refl
value_more base v (e ∷ ds) d = value_more base (v * base + digit_value e) ds d

-- digits only add to a number
pub value_grows : (base : ℕ) → ((v : ℕ) → v ≤ v * base) → (v : ℕ) (ds : List ℕ) → v ≤ digits_value base v ds
unfolding digits_value
value_grows base g v [] = omega arith
value_grows base g v (d ∷ ds) = omega (arith, g v, value_grows base g (v * base + digit_value d) ds)

bounded : (lo hi c : ℕ) → from_to lo hi c ≡ true → c ≤ hi
unfolding from_to
bounded lo hi c e = leb-true c hi (both_right _ _ e)

pub char_bound : (c : ℕ) → xml_char c ≡ true → c ≤ 0x10ffff
unfolding xml_char
char_bound c e =
    by_either _ _ e
    (λ l. by_either _ _ l (λ h. let k = eqb-true c 0x9 h in omega arith)
    (λ m. by_either _ _ m (λ h. let k = eqb-true c 0xa h in omega arith) (λ h. let k = eqb-true c 0xd h in omega arith)))
    (λ r. by_either _ _ r (λ h. let k = bounded 0x20 0xd7ff c h in omega arith)
    (λ m. by_either _ _ m (λ h. let k = bounded 0xe000 0xfffd c h in omega arith) (λ h. bounded 0x10000 0x10ffff c h)))

pub digit_bound : (c : ℕ) → is_digit c ≡ true → (48 ≤ c) × (c ≤ 57)
unfolding is_digit
digit_bound c e = (leb-true 48 c (both_left _ _ e), leb-true c 57 (both_right _ _ e))

pub digit_other : (c : ℕ) → is_digit c ≡ true → eqb c 59 ≡ false
digit_other c e = let k = digit_bound c e in ne_eqb c 59 (λ q. omega arith)

pub hex_other : (c : ℕ) → hex_digit c ≡ true → eqb c 59 ≡ false
unfolding hex_digit from_to
hex_other c e =
    by_either _ _ e (digit_other c)
    (λ r. by_either _ _ r
    (λ h. let k = leb-true 65 c (both_left _ _ h) in ne_eqb c 59 (λ q. omega arith))
    (λ h. let k = leb-true 97 c (both_left _ _ h) in ne_eqb c 59 (λ q. omega arith)))

-- ---- what is read

-- the text is that of a legal reference to the character
abbrev pub ReferenceRead : (List ℕ → List ℕ) → ℕ → Type 0
ReferenceRead before d = (r : Reference) × ((legal_reference r ≡ true) × (((s : List ℕ) → before s ≡ written_reference r ++ s) × (d ≡ referred r)))

abbrev DigitsReading : (List ℕ → Bool) → ℕ → (List ℕ → List ℕ) → (List ℕ → List ℕ) → ℕ → Type 0
DigitsReading legal base lead before v = (ds : List ℕ) × ((legal ds ≡ true) × ((v ≡ digits_value base 0 ds) × ((s : List ℕ) → before s ≡ lead (ds ++ s))))

unfoldable pub ReferenceReading : (List ℕ → List ℕ) → ReferenceState → Type 0
ReferenceReading before behind_ampersand = (s : List ℕ) → before s ≡ 38 ∷ s
ReferenceReading before (in_entity n) = (s : List ℕ) → before s ≡ 38 ∷ (n ++ s)
ReferenceReading before behind_hash = (s : List ℕ) → before s ≡ 38 ∷ (35 ∷ s)
ReferenceReading before (in_decimal v) = DigitsReading (some_digits is_digit) 10 (λ s. 38 ∷ (35 ∷ s)) before v
ReferenceReading before behind_x = (s : List ℕ) → before s ≡ 38 ∷ (35 ∷ (120 ∷ s))
ReferenceReading before (in_hex v) = DigitsReading (some_digits hex_digit) 16 (λ s. 38 ∷ (35 ∷ (120 ∷ s))) before v

abbrev ReferenceKept : (List ℕ → List ℕ) → Moved ReferenceState ℕ → Type 0
ReferenceKept = Kept reference_step ReferenceReading ReferenceRead

entity_kept : (before : List ℕ → List ℕ) (n : List ℕ) (e : Entity) → ((s : List ℕ) → before s ≡ 38 ∷ (n ++ s)) → same n (entity_name e) ≡ true
    → ReferenceRead (λ s. before (59 ∷ s)) (entity_char e)
unfolding legal_reference written_reference referred
entity_kept before n e r t =
    (entity_ref e, (refl, (λ s. r (59 ∷ s) ∙ ap (λ w. 38 ∷ w) (ap (λ m. m ++ (59 ∷ s)) (same_yes n (entity_name e) t) ∙ moved_char (entity_name e) 59 s), refl)))

entities_kept : (before : List ℕ → List ℕ) (n : List ℕ) → ((s : List ℕ) → before s ≡ 38 ∷ (n ++ s)) → ReferenceKept (λ s. before (59 ∷ s)) (entity_of n)
unfolding entity_of
entities_kept before n r =
    by_bool (same n (entity_name ampersand)) (λ t. rw t (entity_kept before n ampersand r t))
    (λ a. by_bool (same n (entity_name less_than)) (λ t. rw (a, t) (entity_kept before n less_than r t))
    (λ b. by_bool (same n (entity_name greater_than)) (λ t. rw (a, b, t) (entity_kept before n greater_than r t))
    (λ d. by_bool (same n (entity_name apostrophe)) (λ t. rw (a, b, d, t) (entity_kept before n apostrophe r t))
    (λ f. by_bool (same n (entity_name quotation_mark)) (λ t. rw (a, b, d, f, t) (entity_kept before n quotation_mark r t))
    (λ g. rw (a, b, d, f, g) tt)))))

letters_kept : (before : List ℕ → List ℕ) (n : List ℕ) → ((s : List ℕ) → before s ≡ 38 ∷ (n ++ s)) → ReferenceKept before (letter_taken n)
unfolding ReferenceReading
letters_kept before n r = by_bool (begins_entity n) (λ t. rw t r) (λ t. rw t tt)

module _ (digit : ℕ → Bool) (base : ℕ) (lead : List ℕ → List ℕ) (wrap : ℕ → ReferenceState)
    (reading : (before : List ℕ → List ℕ) (v : ℕ) → DigitsReading (some_digits digit) base lead before v → ReferenceReading before (wrap v)) where
  digits_kept : (before : List ℕ → List ℕ) (v : ℕ) → DigitsReading (some_digits digit) base lead before v → ReferenceKept before (digit_taken wrap v)
  digits_kept before v r = by_bool (leb v 0x10ffff) (λ t. rw t (reading before v r)) (λ t. rw t tt)

  first_digit : (before : List ℕ → List ℕ) (c : ℕ) → ((s : List ℕ) → before s ≡ lead s) → digit c ≡ true
      → ReferenceKept (λ s. before (c ∷ s)) (digit_taken wrap (digit_value c))
  unfolding digits_value
  first_digit before c r t =
      digits_kept (λ s. before (c ∷ s)) (digit_value c)
      (c ∷ [], (both_of refl (all_cons digit c [] t (all_nil digit)), (sym (rw (zero-mul, zero-add)), λ s. r (c ∷ s))))

  next_digit : (before : List ℕ → List ℕ) (v c : ℕ) → DigitsReading (some_digits digit) base lead before v → digit c ≡ true
      → ReferenceKept (λ s. before (c ∷ s)) (digit_taken wrap (v * base + digit_value c))
  next_digit before v c (ds, (l, (n, r))) t =
      digits_kept (λ s. before (c ∷ s)) (v * base + digit_value c)
      (ds ++ (c ∷ []), (some_more digit ds c (both_right _ _ l) t, (rw n (sym (value_more base 0 ds c)), λ s. r (c ∷ s) ∙ ap lead (moved_char ds c s))))

decimal_end : (before : List ℕ → List ℕ) (v : ℕ) → ReferenceReading before (in_decimal v) → ReferenceKept (λ s. before (59 ∷ s)) (referred_char v)
unfolding ReferenceReading legal_reference written_reference referred
decimal_end before v (ds, (l, (n, r))) =
    by_bool (xml_char v)
    (λ t. let x : xml_char (digits_value 10 0 ds) ≡ true = rw n at t in
    rw t (decimal_ref ds, (both_of l x, (λ s. r (59 ∷ s) ∙ ap (λ w. 38 ∷ (35 ∷ w)) (moved_char ds 59 s), n))))
    (λ t. rw t tt)

hex_end : (before : List ℕ → List ℕ) (v : ℕ) → ReferenceReading before (in_hex v) → ReferenceKept (λ s. before (59 ∷ s)) (referred_char v)
unfolding ReferenceReading legal_reference written_reference referred
hex_end before v (ds, (l, (n, r))) =
    by_bool (xml_char v)
    (λ t. let x : xml_char (digits_value 16 0 ds) ≡ true = rw n at t in
    rw t (hex_ref ds, (both_of l x, (λ s. r (59 ∷ s) ∙ ap (λ w. 38 ∷ (35 ∷ (120 ∷ w))) (moved_char ds 59 s), n))))
    (λ t. rw t tt)

-- a step keeps what is read so
pub reference_kept : (before : List ℕ → List ℕ) (q : ReferenceState) (c : ℕ) → ReferenceReading before q → ReferenceKept (λ s. before (c ∷ s)) (reference_step q c)
unfolding ReferenceReading reference_step
reference_kept before behind_ampersand c r =
    by_bool (eqb c 35)
    (λ t. let e = eqb-true c 35 t in rw t (λ s. r (c ∷ s) ∙ ap (λ d. 38 ∷ (d ∷ s)) e))
    (λ t. rw t (letters_kept (λ s. before (c ∷ s)) (c ∷ []) (λ s. r (c ∷ s))))
reference_kept before (in_entity n) c r =
    by_bool (eqb c 59)
    (λ t. let e = eqb-true c 59 t in rw (t, e) (entities_kept before n r))
    (λ t. rw t (letters_kept (λ s. before (c ∷ s)) (n ++ (c ∷ [])) (λ s. r (c ∷ s) ∙ ap (λ w. 38 ∷ w) (moved_char n c s))))
reference_kept before behind_hash c r =
    by_bool (eqb c 120)
    (λ t. let e = eqb-true c 120 t in rw t (λ s. r (c ∷ s) ∙ ap (λ d. 38 ∷ (35 ∷ (d ∷ s))) e))
    (λ x. by_bool (is_digit c)
    (λ t. rw (x, t) (first_digit is_digit 10 (λ s. 38 ∷ (35 ∷ s)) in_decimal (λ b v h. h) before c r t))
    (λ t. rw (x, t) tt))
reference_kept before (in_decimal v) c r =
    by_bool (eqb c 59)
    (λ t. let e = eqb-true c 59 t in rw (t, e) (decimal_end before v r))
    (λ x. by_bool (is_digit c)
    (λ t. rw (x, t) (next_digit is_digit 10 (λ s. 38 ∷ (35 ∷ s)) in_decimal (λ b w h. h) before v c r t))
    (λ t. rw (x, t) tt))
reference_kept before behind_x c r =
    by_bool (hex_digit c)
    (λ t. rw t (first_digit hex_digit 16 (λ s. 38 ∷ (35 ∷ (120 ∷ s))) in_hex (λ b v h. h) before c r t))
    (λ t. rw t tt)
reference_kept before (in_hex v) c r =
    by_bool (eqb c 59)
    (λ t. let e = eqb-true c 59 t in rw (t, e) (hex_end before v r))
    (λ x. by_bool (hex_digit c)
    (λ t. rw (x, t) (next_digit hex_digit 16 (λ s. 38 ∷ (35 ∷ (120 ∷ s))) in_hex (λ b w h. h) before v c r t))
    (λ t. rw (x, t) tt))

-- ---- and each legal reference is read

module _ (digit : ℕ → Bool) (base : ℕ) (wrap : ℕ → ReferenceState) (grows : (v : ℕ) → v ≤ v * base) (other : (c : ℕ) → digit c ≡ true → eqb c 59 ≡ false)
    (stepped : (v c : ℕ) → reference_step (wrap v) c ≡ cond (eqb c 59) (referred_char v) (cond (digit c) (digit_taken wrap (v * base + digit_value c)) malformed)) where
  pub digits_read : (ds rest : List ℕ) (v : ℕ) → all digit ds ≡ true → xml_char (digits_value base v ds) ≡ true
      → lexed reference_step (wrap v) (ds ++ (59 ∷ rest)) ≡ finished (digits_value base v ds) rest
  unfolding lexed digits_value
  digits_read [] rest v h x = rw (stepped v 59, x)
  digits_read (d ∷ ds) rest v h x =
      let t = all_head digit d ds h in
      let l : leb (v * base + digit_value d) 0x10ffff ≡ true = le-leb (v * base + digit_value d) 0x10ffff
      (omega (arith, value_grows base grows (v * base + digit_value d) ds, char_bound (digits_value base (v * base + digit_value d) ds) x)) in
      rw (stepped v d, other d t, t, l) (digits_read ds rest (v * base + digit_value d) (all_tail digit d ds h) x)

pub entity_read : (e : Entity) (rest : List ℕ) → lexed reference_step behind_ampersand (entity_name e ++ (59 ∷ rest)) ≡ finished (entity_char e) rest
unfolding lexed reference_step begins_entity entity_of begins same both either
entity_read ampersand rest = refl
entity_read less_than rest = refl
entity_read greater_than rest = refl
entity_read apostrophe rest = refl
entity_read quotation_mark rest = refl

digit_first : (c : ℕ) → is_digit c ≡ true → eqb c 120 ≡ false
digit_first c e = let k = digit_bound c e in ne_eqb c 120 (λ q. omega arith)

-- a reference behind its `&`, before the rest
abbrev pub behind_amp : Reference → List ℕ → List ℕ
behind_amp (entity_ref e) rest = entity_name e ++ (59 ∷ rest)
behind_amp (decimal_ref ds) rest = 35 ∷ (ds ++ (59 ∷ rest))
behind_amp (hex_ref ds) rest = 35 ∷ (120 ∷ (ds ++ (59 ∷ rest)))

pub reference_text : (r : Reference) (rest : List ℕ) → written_reference r ++ rest ≡ 38 ∷ behind_amp r rest
unfolding written_reference
reference_text (entity_ref e) rest = ap (λ t. 38 ∷ t) (append_assoc (entity_name e) (59 ∷ []) rest)
reference_text (decimal_ref ds) rest = ap (λ t. 38 ∷ (35 ∷ t)) (append_assoc ds (59 ∷ []) rest)
reference_text (hex_ref ds) rest = ap (λ t. 38 ∷ (35 ∷ (120 ∷ t))) (append_assoc ds (59 ∷ []) rest)

digits_bound : (base : ℕ) → ((v : ℕ) → v ≤ v * base) → (v : ℕ) (ds : List ℕ) → xml_char (digits_value base v ds) ≡ true → leb v 0x10ffff ≡ true
digits_bound base g v ds x = le-leb v 0x10ffff (omega (arith, value_grows base g v ds, char_bound (digits_value base v ds) x))

pub ten : (v : ℕ) → v ≤ v * 10
ten v = omega arith

pub sixteen : (v : ℕ) → v ≤ v * 16
sixteen v = omega arith

pub decimal_read : (ds rest : List ℕ) → legal_reference (decimal_ref ds) ≡ true → lexed reference_step behind_hash (ds ++ (59 ∷ rest)) ≡ finished (digits_value 10 0 ds) rest
unfolding legal_reference lexed reference_step digits_value
decimal_read [] rest l = clash (both_left _ _ (both_left _ _ l)) refl
decimal_read (d ∷ ds) rest l =
    let h = both_right (not (no_chars (d ∷ ds))) (all is_digit (d ∷ ds)) (both_left _ _ l) in
    let t = all_head is_digit d ds h in
    let x : xml_char (digits_value 10 (digit_value d) ds) ≡ true = rw zero-add at (both_right _ _ l) in
    let b = digits_bound 10 ten (digit_value d) ds x in
    rw (digit_first d t, t, b, zero-add) (digits_read is_digit 10 in_decimal ten digit_other (λ v c. refl) ds rest (digit_value d) (all_tail is_digit d ds h) x)

pub hex_read : (ds rest : List ℕ) → legal_reference (hex_ref ds) ≡ true → lexed reference_step behind_x (ds ++ (59 ∷ rest)) ≡ finished (digits_value 16 0 ds) rest
unfolding legal_reference lexed reference_step digits_value
hex_read [] rest l = clash (both_left _ _ (both_left _ _ l)) refl
hex_read (d ∷ ds) rest l =
    let h = both_right (not (no_chars (d ∷ ds))) (all hex_digit (d ∷ ds)) (both_left _ _ l) in
    let t = all_head hex_digit d ds h in
    let x : xml_char (digits_value 16 (digit_value d) ds) ≡ true = rw zero-add at (both_right _ _ l) in
    let b = digits_bound 16 sixteen (digit_value d) ds x in
    rw (t, b, zero-add) (digits_read hex_digit 16 in_hex sixteen hex_other (λ v c. refl) ds rest (digit_value d) (all_tail hex_digit d ds h) x)

pub reference_read : (r : Reference) (rest : List ℕ) → legal_reference r ≡ true → lexed reference_step behind_ampersand (behind_amp r rest) ≡ finished (referred r) rest
unfolding lexed reference_step referred
reference_read (entity_ref e) rest l = entity_read e rest
reference_read (decimal_ref ds) rest l = decimal_read ds rest l
reference_read (hex_ref ds) rest l = hex_read ds rest l
