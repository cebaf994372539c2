-- The automaton over bytes reads exactly the encodings of legal markups.
use Rattle.markup.specs.Markup.{Markup, may_stand, legal_markup_at, written_markup, Meaning, meaning_of}
use Rattle.markup.specs.Automaton.{Moved, continues, completes, malformed, Lexed, incomplete, finished, not_well_formed, lexed_on, lexed, wrapped_step, MarkupState, before_markup, markup_step, markup_of}
use Rattle.markup.specs.MarkupBytes.{second_byte, begins_char, is_char, char_moved, char_step, BytesState, at_char, bytes_step, markup_of_bytes}
use Rattle.markup.proofs.Lexing.{moved_char, pieces, lexed_more}
use Rattle.markup.proofs.Markups.{sound, complete}
use Rattle.markup.proofs.References.{char_bound}
use Rattle.markup.proofs.Written.{written_xml}
use Rattle.markup.proofs.Refused.{unfinished_continued}
use Prim.Native.Nat.{ℕ, ◌+◌, ◌/◌, ◌%◌, ◌<◌, ◌≤◌}
use mathlib.Core.Path.{◌≡◌, refl, sym, ◌∙◌, ap}
use mathlib.Core.Bool.{Bool, true, false}
use mathlib.Core.List.{List, [], ◌∷◌, ◌++◌, append_assoc, append-nil}
use mathlib.Core.Logic.{◌↔◌}
use native.Mathlib.Omega.{arith}
use borrow.Author.Tests.{eq-eqb, ne_eqb, le-leb, lt-leb, lt-ltb, le-ltb}
use Rattle.base.specs.Bytes.{Bytes, all}
use Rattle.base.proofs.Split.{no, clash, by_bool, by_lt, by_eq, both_left, both_right, both_of, both_no_left}
use Rattle.base.proofs.Lists.{all_head, all_tail, same_yes, same_refl}
use Rattle.text.specs.Char.{from_to, xml_char, utf8}
use Rattle.text.specs.Check.{decoded}
use Rattle.text.specs.Text.{encoded}
use Rattle.text.proofs.Chars.{decoded_utf8}
use Rattle.text.proofs.Xml.{no_surrogate}
use Rattle.text.proofs.Texts.{encoded_append}

-- ---- what is read

-- characters that are read as a markup, and their encoding before the rest
pub record CharsRead (q : MarkupState) (s rest : Bytes) (e : Meaning) : Type 0 where
  pub chars : List ℕ
  pub read : lexed markup_step q chars ≡ finished e []
  pub text : s ≡ encoded chars ++ rest

char_whole : (s : Bytes) → is_char s ≡ true → (xml_char (decoded s) ≡ true) × (utf8 (decoded s) ≡ s)
unfolding is_char
char_whole s h = (both_left _ _ h, same_yes (utf8 (decoded s)) s (both_right (xml_char (decoded s)) _ h))

bytes_sound : (bs : Bytes) (q : MarkupState) (s rest : Bytes) (e : Meaning) → lexed bytes_step (record { markup = q; bytes = s }) bs ≡ finished e rest → CharsRead q (s ++ bs) rest e
unfolding lexed bytes_step char_step encoded
bytes_sound [] q s rest e h = no (cc h)
bytes_sound (b ∷ bs) q s rest e h =
    let t = s ++ (b ∷ []) in
    let ih : (p : MarkupState) (u tail : Bytes) (d : Meaning) → lexed bytes_step (record { markup = p; bytes = u }) bs ≡ finished d tail → CharsRead p (u ++ bs) tail d = bytes_sound bs in
    by_bool (begins_char t)
    (λ g. let k : lexed bytes_step (record { markup = q; bytes = t }) bs ≡ finished e rest = rw g at h in
    let r = ih q t rest e k in
    record { chars = r.chars; read = r.read; text = moved_char s b bs ∙ r.text })
    (λ g. by_bool (is_char t)
    (λ i. let w = char_whole t i in
    let k : lexed_on (λ p. lexed bytes_step p bs) bs (wrapped_step at_char (markup_step q (decoded t))) ≡ finished e rest = rw (g, i) at h in
    ended q (decoded t) (markup_step q (decoded t)) refl k (moved_char s b bs ∙ ap (λ x. x ++ bs) (sym w.1)) ih)
    (λ i. let k : lexed_on {S = BytesState} {A = Meaning} (λ p. lexed bytes_step p bs) bs malformed ≡ finished e rest = rw (g, i) at h in no (cc k)))
  where
    ended : (q : MarkupState) (c : ℕ) (m : Moved MarkupState Meaning) → markup_step q c ≡ m → lexed_on (λ p. lexed bytes_step p bs) bs (wrapped_step at_char m) ≡ finished e rest
        → s ++ (b ∷ bs) ≡ utf8 c ++ bs
        → ((p : MarkupState) (u tail : Bytes) (d : Meaning) → lexed bytes_step (record { markup = p; bytes = u }) bs ≡ finished d tail → CharsRead p (u ++ bs) tail d)
        → CharsRead q (s ++ (b ∷ bs)) rest e
    ended q c (continues p) x k w ih =
        let r = ih p [] rest e k in
        record { chars = c ∷ r.chars; read = rw x r.read; text = w ∙ (ap (λ y. utf8 c ++ y) r.text ∙ sym (append_assoc (utf8 c) (encoded r.chars) rest)) }
    ended q c (completes d) x k w ih =
        let y : finished d bs ≡ finished e rest = k in
        let z : d ≡ e = cc y in
        let v : bs ≡ rest = cc y in
        record { chars = c ∷ []; read = rw (x, z); text = w ∙ (ap (λ y. utf8 c ++ y) v ∙ ap (λ y. y ++ rest) (sym (append-nil (utf8 c)))) }
    ended q c malformed x k w ih = no (cc k)

-- a run of bytes begins with the encoding of a legal markup that means what is said, and has a rest
pub record BytesWritten (first : Bool) (s rest : Bytes) (e : Meaning) : Type 0 where
  pub markup : Markup
  pub legal : legal_markup_at first markup ≡ true
  pub text : s ≡ encoded (written_markup markup) ++ rest
  pub meaning : e ≡ meaning_of markup

pub sound_bytes : (first : Bool) (s rest : Bytes) (e : Meaning) → markup_of_bytes first s ≡ finished e rest → BytesWritten first s rest e
sound_bytes first s rest e h =
    let r = bytes_sound s (before_markup first) [] rest e h in
    let w = sound first r.chars [] e r.read in
    record { markup = w.markup; legal = w.legal; text = r.text ∙ ap (λ c. encoded c ++ rest) (w.text ∙ append-nil (written_markup w.markup)); meaning = w.meaning }

-- ---- and each legal character is read from its bytes

char_is : (c : ℕ) → xml_char c ≡ true → (is_char (utf8 c) ≡ true) × (decoded (utf8 c) ≡ c)
unfolding is_char
char_is c x =
    let d : decoded (utf8 c) ≡ c = ap decoded (sym (append-nil (utf8 c))) ∙ decoded_utf8 c [] in
    (rw d (both_of x (same_refl (utf8 c))), d)

-- what the last byte of a character leads to, and one before it
char_ends : (c : ℕ) → xml_char c ≡ true → begins_char (utf8 c) ≡ false → char_moved (utf8 c) ≡ completes c
char_ends c x b = let k = char_is c x in rw (b, k.0, k.1)

char_goes_on : (s : Bytes) → begins_char s ≡ true → char_moved s ≡ continues s
char_goes_on s b = rw b

-- reading a character and what follows it
abbrev AfterChar : MarkupState → ℕ → Bytes → Lexed BytesState Meaning
AfterChar q c s = lexed_on (λ p. lexed bytes_step p s) s (wrapped_step at_char (markup_step q c))

abbrev CharReads : ℕ → Type 0
CharReads c = (q : MarkupState) (s : Bytes) → lexed bytes_step (at_char q) (utf8 c ++ s) ≡ AfterChar q c s

in_range : (lo hi x : ℕ) → lo ≤ x → x ≤ hi → from_to lo hi x ≡ true
unfolding from_to
in_range lo hi x l h = both_of (le-leb lo x l) (le-leb x hi h)

under_range : (lo hi x : ℕ) → x < lo → from_to lo hi x ≡ false
unfolding from_to
under_range lo hi x l = both_no_left _ _ (lt-leb lo x l)

utf8_one : (c : ℕ) → c < 0x80 → utf8 c ≡ c ∷ []
unfolding utf8
utf8_one c h = rw (lt-ltb c 0x80 h)

utf8_two : (c : ℕ) → 0x80 ≤ c → c < 0x800 → utf8 c ≡ (0xc0 + c / 64) ∷ ((0x80 + c % 64) ∷ [])
unfolding utf8
utf8_two c l h = rw (le-ltb c 0x80 l, lt-ltb c 0x800 h)

utf8_three : (c : ℕ) → 0x800 ≤ c → c < 0x10000 → utf8 c ≡ (0xe0 + c / 4096) ∷ ((0x80 + c / 64 % 64) ∷ ((0x80 + c % 64) ∷ []))
unfolding utf8
utf8_three c l h = rw (le-ltb c 0x80 (omega arith), le-ltb c 0x800 l, lt-ltb c 0x10000 h)

utf8_four : (c : ℕ) → 0x10000 ≤ c → utf8 c ≡ (0xf0 + c / 262144) ∷ ((0x80 + c / 4096 % 64) ∷ ((0x80 + c / 64 % 64) ∷ ((0x80 + c % 64) ∷ [])))
unfolding utf8
utf8_four c l = rw (le-ltb c 0x80 (omega arith), le-ltb c 0x800 (omega arith), le-ltb c 0x10000 l)

one_ends : (c : ℕ) → c < 0x80 → begins_char (c ∷ []) ≡ false
unfolding begins_char
one_ends c h = under_range 0xc2 0xf4 c (omega arith)

two_begins : (c : ℕ) → 0x80 ≤ c → c < 0x800 → begins_char ((0xc0 + c / 64) ∷ []) ≡ true
unfolding begins_char
two_begins c l h = in_range 0xc2 0xf4 (0xc0 + c / 64) (omega arith) (omega arith)

two_ends : (c : ℕ) → c < 0x800 → begins_char ((0xc0 + c / 64) ∷ ((0x80 + c % 64) ∷ [])) ≡ false
unfolding begins_char
two_ends c h = both_no_left _ _ (under_range 0xe0 0xf4 (0xc0 + c / 64) (omega arith))

three_begins : (c : ℕ) → c < 0x10000 → begins_char ((0xe0 + c / 4096) ∷ []) ≡ true
unfolding begins_char
three_begins c h = in_range 0xc2 0xf4 (0xe0 + c / 4096) (omega arith) (omega arith)

three_second : (c : ℕ) → xml_char c ≡ true → 0x800 ≤ c → c < 0x10000 → second_byte (0xe0 + c / 4096) (0x80 + c / 64 % 64) ≡ true
unfolding second_byte
three_second c x l h =
    by_eq (0xe0 + c / 4096) 0xe0
    (λ e. rw (eq-eqb (0xe0 + c / 4096) 0xe0 e, ne_eqb (0xe0 + c / 4096) 0xed (λ f. omega arith), ne_eqb (0xe0 + c / 4096) 0xf4 (λ f. omega arith))
    (in_range 0xa0 0xbf (0x80 + c / 64 % 64) (omega arith) (omega arith)))
    (λ n. by_eq (0xe0 + c / 4096) 0xed
    (λ e. rw (ne_eqb (0xe0 + c / 4096) 0xe0 n, ne_eqb (0xe0 + c / 4096) 0xf0 (λ f. omega arith), eq-eqb (0xe0 + c / 4096) 0xed e) (low e))
    (λ m. rw (ne_eqb (0xe0 + c / 4096) 0xe0 n, ne_eqb (0xe0 + c / 4096) 0xf0 (λ f. omega arith), ne_eqb (0xe0 + c / 4096) 0xed m, ne_eqb (0xe0 + c / 4096) 0xf4 (λ f. omega arith))
    (in_range 0x80 0xbf (0x80 + c / 64 % 64) (omega arith) (omega arith))))
  where
    low : 0xe0 + c / 4096 ≡ 0xed → from_to 0x80 0x9f (0x80 + c / 64 % 64) ≡ true
    low e =
        by_lt c 0xd800
        (λ a. in_range 0x80 0x9f (0x80 + c / 64 % 64) (omega arith) (omega arith))
        (λ a. clash x (no_surrogate c (omega arith) (omega arith)))

three_goes_on : (c : ℕ) → xml_char c ≡ true → 0x800 ≤ c → c < 0x10000 → begins_char ((0xe0 + c / 4096) ∷ ((0x80 + c / 64 % 64) ∷ [])) ≡ true
unfolding begins_char
three_goes_on c x l h = both_of (in_range 0xe0 0xf4 (0xe0 + c / 4096) (omega arith) (omega arith)) (three_second c x l h)

three_ends : (c : ℕ) → c < 0x10000 → begins_char ((0xe0 + c / 4096) ∷ ((0x80 + c / 64 % 64) ∷ ((0x80 + c % 64) ∷ []))) ≡ false
unfolding begins_char
three_ends c h = both_no_left _ _ (under_range 0xf0 0xf4 (0xe0 + c / 4096) (omega arith))

four_begins : (c : ℕ) → c ≤ 0x10ffff → begins_char ((0xf0 + c / 262144) ∷ []) ≡ true
unfolding begins_char
four_begins c h = in_range 0xc2 0xf4 (0xf0 + c / 262144) (omega arith) (omega arith)

four_second : (c : ℕ) → 0x10000 ≤ c → c ≤ 0x10ffff → second_byte (0xf0 + c / 262144) (0x80 + c / 4096 % 64) ≡ true
unfolding second_byte
four_second c l h =
    by_eq (0xf0 + c / 262144) 0xf0
    (λ e. rw (ne_eqb (0xf0 + c / 262144) 0xe0 (λ f. omega arith), eq-eqb (0xf0 + c / 262144) 0xf0 e, ne_eqb (0xf0 + c / 262144) 0xed (λ f. omega arith), ne_eqb (0xf0 + c / 262144) 0xf4 (λ f. omega arith))
    (in_range 0x90 0xbf (0x80 + c / 4096 % 64) (omega arith) (omega arith)))
    (λ n. by_eq (0xf0 + c / 262144) 0xf4
    (λ e. rw (ne_eqb (0xf0 + c / 262144) 0xe0 (λ f. omega arith), ne_eqb (0xf0 + c / 262144) 0xf0 n, ne_eqb (0xf0 + c / 262144) 0xed (λ f. omega arith), eq-eqb (0xf0 + c / 262144) 0xf4 e)
    (in_range 0x80 0x8f (0x80 + c / 4096 % 64) (omega arith) (omega arith)))
    (λ m. rw (ne_eqb (0xf0 + c / 262144) 0xe0 (λ f. omega arith), ne_eqb (0xf0 + c / 262144) 0xf0 n, ne_eqb (0xf0 + c / 262144) 0xed (λ f. omega arith), ne_eqb (0xf0 + c / 262144) 0xf4 m)
    (in_range 0x80 0xbf (0x80 + c / 4096 % 64) (omega arith) (omega arith))))

four_goes_on : (c : ℕ) → 0x10000 ≤ c → c ≤ 0x10ffff → begins_char ((0xf0 + c / 262144) ∷ ((0x80 + c / 4096 % 64) ∷ [])) ≡ true
unfolding begins_char
four_goes_on c l h = both_of (in_range 0xe0 0xf4 (0xf0 + c / 262144) (omega arith) (omega arith)) (four_second c l h)

four_near : (c : ℕ) → 0x10000 ≤ c → c ≤ 0x10ffff → begins_char ((0xf0 + c / 262144) ∷ ((0x80 + c / 4096 % 64) ∷ ((0x80 + c / 64 % 64) ∷ []))) ≡ true
unfolding begins_char
four_near c l h =
    both_of (in_range 0xf0 0xf4 (0xf0 + c / 262144) (omega arith) (omega arith)) (both_of (four_second c l h) (in_range 0x80 0xbf (0x80 + c / 64 % 64) (omega arith) (omega arith)))

four_ends : (c : ℕ) → begins_char ((0xf0 + c / 262144) ∷ ((0x80 + c / 4096 % 64) ∷ ((0x80 + c / 64 % 64) ∷ ((0x80 + c % 64) ∷ [])))) ≡ false
unfolding begins_char
four_ends c = refl

one_read : (c : ℕ) → xml_char c ≡ true → c < 0x80 → CharReads c
unfolding lexed bytes_step char_step
one_read c x h q s =
    let u = utf8_one c h in
    let b : begins_char (c ∷ []) ≡ false = one_ends c h in
    let m : char_moved (c ∷ []) ≡ completes c = rw (← u) (char_ends c x (rw u b)) in
    rw (u, m)

two_read : (c : ℕ) → xml_char c ≡ true → 0x80 ≤ c → c < 0x800 → CharReads c
unfolding lexed bytes_step char_step
two_read c x l h q s =
    let u = utf8_two c l h in
    let f = char_goes_on ((0xc0 + c / 64) ∷ []) (two_begins c l h) in
    let m : char_moved ((0xc0 + c / 64) ∷ ((0x80 + c % 64) ∷ [])) ≡ completes c = rw (← u) (char_ends c x (rw u (two_ends c h))) in
    rw (u, f, m)

three_read : (c : ℕ) → xml_char c ≡ true → 0x800 ≤ c → c < 0x10000 → CharReads c
unfolding lexed bytes_step char_step
three_read c x l h q s =
    let u = utf8_three c l h in
    let f = char_goes_on ((0xe0 + c / 4096) ∷ []) (three_begins c h) in
    let g = char_goes_on ((0xe0 + c / 4096) ∷ ((0x80 + c / 64 % 64) ∷ [])) (three_goes_on c x l h) in
    let m : char_moved ((0xe0 + c / 4096) ∷ ((0x80 + c / 64 % 64) ∷ ((0x80 + c % 64) ∷ []))) ≡ completes c = rw (← u) (char_ends c x (rw u (three_ends c h))) in
    rw (u, f, g, m)

four_read : (c : ℕ) → xml_char c ≡ true → 0x10000 ≤ c → CharReads c
unfolding lexed bytes_step char_step
four_read c x l q s =
    let u = utf8_four c l in
    let h = char_bound c x in
    let f = char_goes_on ((0xf0 + c / 262144) ∷ []) (four_begins c h) in
    let g = char_goes_on ((0xf0 + c / 262144) ∷ ((0x80 + c / 4096 % 64) ∷ [])) (four_goes_on c l h) in
    let k = char_goes_on ((0xf0 + c / 262144) ∷ ((0x80 + c / 4096 % 64) ∷ ((0x80 + c / 64 % 64) ∷ []))) (four_near c l h) in
    let m : char_moved ((0xf0 + c / 262144) ∷ ((0x80 + c / 4096 % 64) ∷ ((0x80 + c / 64 % 64) ∷ ((0x80 + c % 64) ∷ [])))) ≡ completes c = rw (← u) (char_ends c x (rw u (four_ends c))) in
    rw (u, f, g, k, m)

char_read : (c : ℕ) → xml_char c ≡ true → CharReads c
char_read c x =
    by_lt c 0x80 (one_read c x)
    (λ l. by_lt c 0x800 (two_read c x l)
    (λ m. by_lt c 0x10000 (three_read c x m) (four_read c x)))

chars_read : (cs : List ℕ) (q : MarkupState) (t : List ℕ) (rest : Bytes) (e : Meaning) → all xml_char cs ≡ true → lexed markup_step q cs ≡ finished e t
    → lexed bytes_step (at_char q) (encoded cs ++ rest) ≡ finished e (encoded t ++ rest)
unfolding lexed encoded
chars_read [] q t rest e l h = no (cc h)
chars_read (c ∷ cs) q t rest e l h =
    rw (append_assoc (utf8 c) (encoded cs) rest)
    (char_read c (all_head xml_char c cs l) q (encoded cs ++ rest)
    ∙ go (markup_step q c) h (λ p u d. chars_read cs p u rest d (all_tail xml_char c cs l)))
  where
    go : (m : Moved MarkupState Meaning) → lexed_on (λ p. lexed markup_step p cs) cs m ≡ finished e t
        → ((p : MarkupState) (u : List ℕ) (d : Meaning) → lexed markup_step p cs ≡ finished d u → lexed bytes_step (at_char p) (encoded cs ++ rest) ≡ finished d (encoded u ++ rest))
        → lexed_on (λ p. lexed bytes_step p (encoded cs ++ rest)) (encoded cs ++ rest) (wrapped_step at_char m) ≡ finished e (encoded t ++ rest)
    go (continues p) h ih = ih p t e h
    go (completes d) h ih =
        let y : finished d cs ≡ finished e t = h in
        let z : d ≡ e = cc y in
        let w : cs ≡ t = cc y in
        rw (z, w)
    go malformed h ih = no (cc h)

pub complete_bytes : (first : Bool) (m : Markup) (rest : Bytes) → legal_markup_at first m ≡ true → markup_of_bytes first (encoded (written_markup m) ++ rest) ≡ finished (meaning_of m) rest
unfolding encoded
complete_bytes first m rest l =
    let h : markup_of first (written_markup m) ≡ finished (meaning_of m) [] = ap (markup_of first) (sym (append-nil (written_markup m))) ∙ complete first m [] l in
    chars_read (written_markup m) (before_markup first) [] rest (meaning_of m) (written_xml m (both_right (may_stand first m) _ l)) h

-- a run of bytes is read as a markup exactly where it begins with the encoding of a legal one, and as what that one means
pub exactly_bytes : (first : Bool) (s rest : Bytes) (e : Meaning) → (markup_of_bytes first s ≡ finished e rest) ↔ BytesWritten first s rest e
exactly_bytes first s rest e = (
  sound_bytes first s rest e,
  λ w. ap (markup_of_bytes first) w.text ∙ (complete_bytes first w.markup rest w.legal ∙ ap (λ m. finished m rest) (sym w.meaning)),
)

-- pieces equal the whole
pub bytes_pieces : (first : Bool) (s t : Bytes) → markup_of_bytes first (s ++ t) ≡ lexed_more bytes_step t (markup_of_bytes first s)
bytes_pieces first s t = pieces bytes_step s (at_char (before_markup first)) t

-- where a run of bytes is refused, no legal markup begins so, however the bytes go on
pub none_well_formed_bytes : (first : Bool) (s t rest : Bytes) (e : Meaning) → markup_of_bytes first s ≡ not_well_formed → BytesWritten first (s ++ t) rest e → ⊥
none_well_formed_bytes first s t rest e r w =
    let h = (exactly_bytes first (s ++ t) rest e).1 w in
    let x : lexed_more bytes_step t (markup_of_bytes first s) ≡ finished e rest = sym (bytes_pieces first s t) ∙ h in
    let y : lexed_more bytes_step t not_well_formed ≡ finished e rest = rw r at x in
    no (cc y)

-- ---- what is not refused at a character's end can still become a legal markup

-- characters that lead from one state to another, and the bytes behind them
record CharsWithin (q p : MarkupState) (s u : Bytes) : Type 0 where
  chars : List ℕ
  read : lexed markup_step q chars ≡ incomplete p
  text : s ≡ encoded chars ++ u

bytes_within : (bs : Bytes) (q : MarkupState) (s : Bytes) (p : MarkupState) (u : Bytes)
    → lexed bytes_step (record { markup = q; bytes = s }) bs ≡ incomplete (record { markup = p; bytes = u }) → CharsWithin q p (s ++ bs) u
unfolding lexed bytes_step char_step encoded
bytes_within [] q s p u h =
    let z : ◌≡◌ {A = BytesState} (record { markup = q; bytes = s }) (record { markup = p; bytes = u }) = cc h in
    let x : q ≡ p = ap (λ (t : BytesState). t.markup) z in
    let y : s ≡ u = ap (λ (t : BytesState). t.bytes) z in
    record { chars = []; read = rw x; text = append-nil s ∙ y }
bytes_within (b ∷ bs) q s p u h =
    let t = s ++ (b ∷ []) in
    let ih : (r : MarkupState) (v : Bytes) → lexed bytes_step (record { markup = r; bytes = v }) bs ≡ incomplete (record { markup = p; bytes = u }) → CharsWithin r p (v ++ bs) u = λ r v. bytes_within bs r v p u in
    by_bool (begins_char t)
    (λ g. let k : lexed bytes_step (record { markup = q; bytes = t }) bs ≡ incomplete (record { markup = p; bytes = u }) = rw g at h in
    let r = ih q t k in
    record { chars = r.chars; read = r.read; text = moved_char s b bs ∙ r.text })
    (λ g. by_bool (is_char t)
    (λ i. let w = char_whole t i in
    let k : AfterChar q (decoded t) bs ≡ incomplete (record { markup = p; bytes = u }) = rw (g, i) at h in
    on (decoded t) (markup_step q (decoded t)) refl k (moved_char s b bs ∙ ap (λ x. x ++ bs) (sym w.1)) ih)
    (λ i. let k : lexed_on {S = BytesState} {A = Meaning} (λ r. lexed bytes_step r bs) bs malformed ≡ incomplete (record { markup = p; bytes = u }) = rw (g, i) at h in no (cc k)))
  where
    on : (c : ℕ) (m : Moved MarkupState Meaning) → markup_step q c ≡ m → lexed_on (λ r. lexed bytes_step r bs) bs (wrapped_step at_char m) ≡ incomplete (record { markup = p; bytes = u })
        → s ++ (b ∷ bs) ≡ utf8 c ++ bs
        → ((r : MarkupState) (v : Bytes) → lexed bytes_step (record { markup = r; bytes = v }) bs ≡ incomplete (record { markup = p; bytes = u }) → CharsWithin r p (v ++ bs) u)
        → CharsWithin q p (s ++ (b ∷ bs)) u
    on c (continues r) x k w ih =
        let z = ih r [] k in
        record { chars = c ∷ z.chars; read = rw x z.read; text = w ∙ (ap (λ y. utf8 c ++ y) z.text ∙ sym (append_assoc (utf8 c) (encoded z.chars) u)) }
    on c (completes d) x k w ih = no (cc k)
    on c malformed x k w ih = no (cc k)

-- a state between two characters can be completed; inside a character it is the character's end that decides
pub boundary_continued : (first : Bool) (s : Bytes) (q : MarkupState) → markup_of_bytes first s ≡ incomplete (at_char q) → (t : Bytes) × ((e : Meaning) × BytesWritten first (s ++ t) [] e)
boundary_continued first s q h =
    let r = bytes_within s (before_markup first) [] q [] h in
    let k = unfinished_continued first r.chars q r.read in
    let w = k.1.1 in (
      encoded k.0,
      (
        k.1.0,
        record {
          markup = w.markup;
          legal = w.legal;
          text = ap (λ x. x ++ encoded k.0) (r.text ∙ append-nil (encoded r.chars)) ∙ (sym (encoded_append r.chars k.0) ∙ (ap encoded (w.text ∙ append-nil (written_markup w.markup)) ∙ sym (append-nil (encoded (written_markup w.markup)))));
          meaning = w.meaning;
        },
      ),
    )
