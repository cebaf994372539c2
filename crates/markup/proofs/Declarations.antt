-- The automaton reads exactly the legal XML declarations.
use Rattle.std.specs.Prelude.{None, Option, Some}
use Rattle.markup.specs.Automaton.{Moved, finished, lexed, DeclarationState, between_items, in_keyword, behind_keyword, behind_key_equals, in_key_value, behind_items, item_follows, version_read, begins_version, begins_key_value, keyword_begun, keyword_ended, declaration_step}
use Rattle.markup.specs.Names.{white_space, no_chars, some_space}
use Rattle.markup.specs.Markup.{QuoteMark, double_mark, single_mark, mark_char, DeclarationKey, version_key, encoding_key, standalone_key, keyword, version_num, upper_case, key_value, DeclarationItem, legal_item, written_item, XmlDeclaration, legal_optional, written_optional, legal_declaration, written_declaration, declaration, legal_markup, may_stand, written_markup, Meaning, no_event, meaning_of}
use Rattle.markup.proofs.Lexing.{Kept, moved_char}
use Rattle.markup.proofs.Parts.{all_more, some_more, some_space_of}
use Rattle.markup.proofs.Names.{equals_black, double_black, single_black, question_black}
use Rattle.markup.proofs.Readings.{MarkupRead}
use Prim.Native.Nat.{ℕ}
use mathlib.Core.Path.{◌≡◌, refl, sym, ◌∙◌, ap}
use mathlib.Core.Bool.{Bool, true, false, not}
use mathlib.Core.List.{List, [], ◌∷◌, ◌++◌, append_assoc, append-nil, map, map-append}
use native.Mathlib.Omega.{arith}
use lib.Dec.{eqb}
use borrow.Author.Tests.{eqb-true, eq-eqb, ne_eqb, leb-true, not-true}
use Rattle.base.specs.Bytes.{both, either, all, same, is_digit}
use Rattle.base.proofs.Split.{clash, by_bool, by_either, both_left, both_right, both_of, either_left, either_right}
use Rattle.base.proofs.Lists.{all_nil, all_head, all_tail, all_left, same_yes}
use Rattle.text.specs.Char.{from_to}
use Rattle.text.specs.Check.{begins}
use Rattle.text.proofs.Lengths.{begins_append}

-- ---- what is read

abbrev pub declared : List ℕ → List ℕ
declared s = 60 ∷ (63 ∷ (120 ∷ (109 ∷ (108 ∷ s))))

pub record ItemsRead (before : List ℕ → List ℕ) : Type 0 where
  pub version : DeclarationItem
  pub encoding : Option DeclarationItem
  pub standalone : Option DeclarationItem
  pub legal_version : legal_item version_key version ≡ true
  pub legal_encoding : legal_optional encoding_key encoding ≡ true
  pub legal_standalone : legal_optional standalone_key standalone ≡ true
  pub text : (s : List ℕ)
      → before s ≡ declared (written_item version_key version ++ (written_optional encoding_key encoding ++ (written_optional standalone_key standalone ++ s)))

-- `<?xml` and the items up to one of a key
unfoldable pub ItemsReading : (List ℕ → List ℕ) → Option DeclarationKey → Type 0
ItemsReading before None = (s : List ℕ) → before s ≡ declared s
ItemsReading before (Some version_key) = (i : ItemsRead before) × ((i.encoding ≡ None) × (i.standalone ≡ None))
ItemsReading before (Some encoding_key) = (i : ItemsRead before) × (i.standalone ≡ None)
ItemsReading before (Some standalone_key) = ItemsRead before

-- and white space
pub record ItemGapReading (before : List ℕ → List ℕ) (last : Option DeclarationKey) (spaced : Bool) : Type 0 where
  pub outer : List ℕ → List ℕ
  pub items : ItemsReading outer last
  pub gap : List ℕ
  pub legal : all white_space gap ≡ true
  pub some : spaced ≡ not (no_chars gap)
  pub text : (s : List ℕ) → before s ≡ outer (gap ++ s)

-- and the beginning of a keyword
pub record ItemKeywordReading (before : List ℕ → List ℕ) (key : DeclarationKey) (rest : List ℕ) : Type 0 where
  pub last : Option DeclarationKey
  pub outer : List ℕ → List ℕ
  pub items : ItemsReading outer last
  pub follows : item_follows last key ≡ true
  pub gap : List ℕ
  pub legal : some_space gap ≡ true
  pub letters : List ℕ
  pub whole : keyword key ≡ letters ++ rest
  pub text : (s : List ℕ) → before s ≡ outer (gap ++ (letters ++ s))

-- and white space before the equals sign
pub record ItemBeforeReading (before : List ℕ → List ℕ) (key : DeclarationKey) : Type 0 where
  pub outer : List ℕ → List ℕ
  pub name : ItemKeywordReading outer key []
  pub gap : List ℕ
  pub legal : all white_space gap ≡ true
  pub text : (s : List ℕ) → before s ≡ outer (gap ++ s)

-- and the equals sign and white space behind it
pub record ItemEqualsReading (before : List ℕ → List ℕ) (key : DeclarationKey) : Type 0 where
  pub outer : List ℕ → List ℕ
  pub head : ItemBeforeReading outer key
  pub gap : List ℕ
  pub legal : all white_space gap ≡ true
  pub text : (s : List ℕ) → before s ≡ outer (61 ∷ (gap ++ s))

-- and a quote mark and the beginning of a value
pub record ItemValueReading (before : List ℕ → List ℕ) (key : DeclarationKey) (q : QuoteMark) (v : List ℕ) : Type 0 where
  pub outer : List ℕ → List ℕ
  pub head : ItemEqualsReading outer key
  pub text : (s : List ℕ) → before s ≡ outer (mark_char q ∷ (v ++ s))

-- or white space and the question mark
pub record ItemsEndReading (before : List ℕ → List ℕ) : Type 0 where
  pub outer : List ℕ → List ℕ
  pub last : Option DeclarationKey
  pub version : version_read last ≡ true
  pub items : ItemsReading outer last
  pub gap : List ℕ
  pub legal : all white_space gap ≡ true
  pub text : (s : List ℕ) → before s ≡ outer (gap ++ (63 ∷ s))

unfoldable pub DeclarationReading : (List ℕ → List ℕ) → DeclarationState → Type 0
DeclarationReading before (between_items last spaced) = ItemGapReading before last spaced
DeclarationReading before (in_keyword key rest) = ItemKeywordReading before key rest
DeclarationReading before (behind_keyword key) = ItemBeforeReading before key
DeclarationReading before (behind_key_equals key) = ItemEqualsReading before key
DeclarationReading before (in_key_value key q v) = ItemValueReading before key q v
DeclarationReading before behind_items = ItemsEndReading before

abbrev pub DeclarationKept : (List ℕ → List ℕ) → Moved DeclarationState Meaning → Type 0
DeclarationKept = Kept declaration_step DeclarationReading (MarkupRead true)

pub item_text : (key : DeclarationKey) (i : DeclarationItem) (s : List ℕ)
    → written_item key i ++ s ≡ i.gap ++ (keyword key ++ (i.eq.before ++ (61 ∷ (i.eq.behind ++ (mark_char i.quote ∷ (i.value ++ (mark_char i.quote ∷ s)))))))
unfolding written_item
item_text key i s = simp append_assoc

pub declaration_text : (d : XmlDeclaration) (s : List ℕ)
    → written_markup (declaration d) ++ s
    ≡ declared (written_item version_key d.version ++ (written_optional encoding_key d.encoding ++ (written_optional standalone_key d.standalone ++ (d.gap ++ (63 ∷ (62 ∷ s))))))
unfolding written_markup written_declaration
declaration_text d s = simp append_assoc

-- ---- a step keeps what is read so

item_added : (last : Option DeclarationKey) (key : DeclarationKey) (outer : List ℕ → List ℕ) (i : DeclarationItem) → item_follows last key ≡ true → ItemsReading outer last
    → legal_item key i ≡ true → (after : List ℕ → List ℕ) → ((s : List ℕ) → after s ≡ outer (written_item key i ++ s)) → ItemsReading after (Some key)
unfolding ItemsReading
item_added None version_key outer i f r l after t =
    (record { version = i; encoding = None; standalone = None; legal_version = l; legal_encoding = refl; legal_standalone = refl; text = λ s. t s ∙ r _ }, (refl, refl))
item_added None encoding_key outer i f r l after t = clash f refl
item_added None standalone_key outer i f r l after t = clash f refl
item_added (Some version_key) version_key outer i f r l after t = clash f refl
item_added (Some version_key) encoding_key outer i f (r, (e, n)) l after t = (
  record {
    version = r.version;
    encoding = Some i;
    standalone = None;
    legal_version = r.legal_version;
    legal_encoding = l;
    legal_standalone = refl;
    text = λ s. t s ∙ (let x = r.text (written_item encoding_key i ++ s) in rw (e, n) at x);
  },
  refl,
)
item_added (Some version_key) standalone_key outer i f (r, (e, n)) l after t =
    record {
      version = r.version;
      encoding = None;
      standalone = Some i;
      legal_version = r.legal_version;
      legal_encoding = refl;
      legal_standalone = l;
      text = λ s. t s ∙ (let x = r.text (written_item standalone_key i ++ s) in rw (e, n) at x);
    }
item_added (Some encoding_key) version_key outer i f r l after t = clash f refl
item_added (Some encoding_key) encoding_key outer i f r l after t = clash f refl
item_added (Some encoding_key) standalone_key outer i f (r, n) l after t =
    record {
      version = r.version;
      encoding = r.encoding;
      standalone = Some i;
      legal_version = r.legal_version;
      legal_encoding = r.legal_encoding;
      legal_standalone = l;
      text = λ s. t s ∙ (let x = r.text (written_item standalone_key i ++ s) in rw n at x);
    }
item_added (Some standalone_key) key outer i f r l after t = clash f refl

all_items : (last : Option DeclarationKey) (outer : List ℕ → List ℕ) → version_read last ≡ true → ItemsReading outer last → ItemsRead outer
unfolding ItemsReading
all_items None outer v r = clash v refl
all_items (Some version_key) outer v (r, h) = r
all_items (Some encoding_key) outer v (r, h) = r
all_items (Some standalone_key) outer v r = r

keyword_from : (before : List ℕ → List ℕ) (last : Option DeclarationKey) (c : ℕ) (key : DeclarationKey) (k : ℕ) (ls : List ℕ) → ItemGapReading before last true
    → keyword key ≡ k ∷ ls → both (item_follows last key) (eqb c k) ≡ true → ItemKeywordReading (λ s. before (c ∷ s)) key ls
keyword_from before last c key k ls r w t =
    let e = eqb-true c k (both_right (item_follows last key) (eqb c k) t) in
    record {
      last = last;
      outer = r.outer;
      items = r.items;
      follows = both_left (item_follows last key) (eqb c k) t;
      gap = r.gap;
      legal = some_space_of r.gap r.legal (sym r.some);
      letters = k ∷ [];
      whole = w;
      text = λ s. ap (λ d. before (d ∷ s)) e ∙ r.text (k ∷ s);
    }

begun_kept : (before : List ℕ → List ℕ) (last : Option DeclarationKey) (c : ℕ) → ItemGapReading before last true → DeclarationKept (λ s. before (c ∷ s)) (keyword_begun last c)
unfolding keyword_begun DeclarationReading
begun_kept before last c r =
    by_bool (both (item_follows last version_key) (eqb c 118))
    (λ t. rw t (keyword_from before last c version_key 118 _ r refl t))
    (λ v. by_bool (both (item_follows last encoding_key) (eqb c 101))
    (λ t. rw (v, t) (keyword_from before last c encoding_key 101 _ r refl t))
    (λ e. by_bool (both (item_follows last standalone_key) (eqb c 115))
    (λ t. rw (v, e, t) (keyword_from before last c standalone_key 115 _ r refl t))
    (λ t. rw (v, e, t) tt)))

between_kept : (before : List ℕ → List ℕ) (last : Option DeclarationKey) (spaced : Bool) (c : ℕ) → ItemGapReading before last spaced
    → DeclarationKept (λ s. before (c ∷ s)) (declaration_step (between_items last spaced) c)
unfolding declaration_step DeclarationReading
between_kept before last spaced c r =
    by_bool (white_space c)
    (λ t. rw t (record {
      outer = r.outer;
      items = r.items;
      gap = r.gap ++ (c ∷ []);
      legal = all_more white_space r.gap c r.legal t;
      some = sym (both_left _ _ (some_more white_space r.gap c r.legal t));
      text = λ s. r.text (c ∷ s) ∙ ap r.outer (moved_char r.gap c s);
    }))
    (λ w. by_bool (both (version_read last) (eqb c 63))
    (λ t. let e = eqb-true c 63 (both_right (version_read last) (eqb c 63) t) in
    rw (w, t) (record {
      outer = r.outer;
      last = last;
      version = both_left (version_read last) (eqb c 63) t;
      items = r.items;
      gap = r.gap;
      legal = r.legal;
      text = λ s. ap (λ d. before (d ∷ s)) e ∙ r.text (63 ∷ s);
    }))
    (λ q. by_bool spaced
    (λ t. let g : ItemGapReading before last true = rw t at r in rw (w, q, t) (begun_kept before last c g))
    (λ t. rw (w, q, t) tt)))

ended_kept : (before : List ℕ → List ℕ) (key : DeclarationKey) (c : ℕ) → ItemBeforeReading before key → DeclarationKept (λ s. before (c ∷ s)) (keyword_ended key c)
unfolding keyword_ended DeclarationReading
ended_kept before key c r =
    by_bool (white_space c)
    (λ t. rw t (record { outer = r.outer; name = r.name; gap = r.gap ++ (c ∷ []); legal = all_more white_space r.gap c r.legal t; text = λ s. r.text (c ∷ s) ∙ ap r.outer (moved_char r.gap c s) }))
    (λ w. by_bool (eqb c 61)
    (λ t. let e = eqb-true c 61 t in rw (w, t) (record { outer = before; head = r; gap = []; legal = all_nil white_space; text = λ s. ap (λ d. before (d ∷ s)) e }))
    (λ t. rw (w, t) tt))

equals_kept : (before : List ℕ → List ℕ) (key : DeclarationKey) (c : ℕ) → ItemEqualsReading before key → DeclarationKept (λ s. before (c ∷ s)) (declaration_step (behind_key_equals key) c)
unfolding declaration_step DeclarationReading
equals_kept before key c r =
    by_bool (white_space c)
    (λ t. rw t (record { outer = r.outer; head = r.head; gap = r.gap ++ (c ∷ []); legal = all_more white_space r.gap c r.legal t; text = λ s. r.text (c ∷ s) ∙ ap (λ w. r.outer (61 ∷ w)) (moved_char r.gap c s) }))
    (λ w. by_bool (eqb c 34)
    (λ t. let e = eqb-true c 34 t in rw (w, t) (record { outer = before; head = r; text = λ s. ap (λ d. before (d ∷ s)) e }))
    (λ p. by_bool (eqb c 39)
    (λ t. let e = eqb-true c 39 t in rw (w, p, t) (record { outer = before; head = r; text = λ s. ap (λ d. before (d ∷ s)) e }))
    (λ t. rw (w, p, t) tt)))

item_read : (before : List ℕ → List ℕ) (key : DeclarationKey) (q : QuoteMark) (v : List ℕ) (c : ℕ) → ItemValueReading before key q v → eqb c (mark_char q) ≡ true → key_value key v ≡ true
    → ItemGapReading (λ s. before (c ∷ s)) (Some key) false
unfolding legal_item
item_read before key q v c r m l =
    let e = eqb-true c (mark_char q) m in
    let b = r.head.head in
    let k = b.name in
    let i : DeclarationItem = record { gap = k.gap; eq = record { before = b.gap; behind = r.head.gap }; quote = q; value = v } in
    let whole : keyword key ≡ k.letters = k.whole ∙ append-nil k.letters in
    record {
      outer = λ s. before (c ∷ s);
      items = item_added k.last key k.outer i k.follows k.items (both_of k.legal (both_of (both_of b.legal r.head.legal) l)) (λ s. before (c ∷ s))
          (λ s. ap (λ d. before (d ∷ s)) e ∙ (r.text _ ∙ (r.head.text _ ∙ (b.text _ ∙ (k.text _ ∙ ap k.outer
          (ap (λ w. k.gap ++ (w ++ (b.gap ++ (61 ∷ (r.head.gap ++ (mark_char q ∷ (v ++ (mark_char q ∷ s)))))))) (sym whole) ∙ sym (item_text key i s)))))));
      gap = [];
      legal = all_nil white_space;
      some = refl;
      text = λ s. refl;
    }

value_kept : (before : List ℕ → List ℕ) (key : DeclarationKey) (q : QuoteMark) (v : List ℕ) (c : ℕ) → ItemValueReading before key q v
    → DeclarationKept (λ s. before (c ∷ s)) (declaration_step (in_key_value key q v) c)
unfolding declaration_step DeclarationReading
value_kept before key q v c r =
    by_bool (eqb c (mark_char q))
    (λ m. by_bool (key_value key v)
    (λ l. rw (m, l) (item_read before key q v c r m l))
    (λ l. rw (m, l) tt))
    (λ m. by_bool (begins_key_value key (v ++ (c ∷ [])))
    (λ b. rw (m, b) (record { outer = r.outer; head = r.head; text = λ s. r.text (c ∷ s) ∙ ap (λ w. r.outer (mark_char q ∷ w)) (moved_char v c s) }))
    (λ b. rw (m, b) tt))

end_kept : (before : List ℕ → List ℕ) (c : ℕ) → ItemsEndReading before → DeclarationKept (λ s. before (c ∷ s)) (declaration_step behind_items c)
unfolding declaration_step legal_markup legal_declaration may_stand meaning_of
end_kept before c r =
    let i = all_items r.last r.outer r.version r.items in
    let d : XmlDeclaration = record { version = i.version; encoding = i.encoding; standalone = i.standalone; gap = r.gap } in
    by_bool (eqb c 62)
    (λ t. let e = eqb-true c 62 t in
    rw t (record {
      markup = declaration d;
      place = refl;
      legal = both_of (both_of i.legal_version i.legal_encoding) (both_of i.legal_standalone r.legal);
      meaning = refl;
      text = λ s. ap (λ d. before (d ∷ s)) e ∙ (r.text (62 ∷ s) ∙ (i.text _ ∙ sym (declaration_text d s)));
    }))
    (λ t. rw t tt)

pub declaration_kept : (before : List ℕ → List ℕ) (q : DeclarationState) (c : ℕ) → DeclarationReading before q → DeclarationKept (λ s. before (c ∷ s)) (declaration_step q c)
unfolding declaration_step DeclarationReading
declaration_kept before (between_items last spaced) c r = between_kept before last spaced c r
declaration_kept before (in_keyword key []) c r = ended_kept before key c (record { outer = before; name = r; gap = []; legal = all_nil white_space; text = λ s. refl })
declaration_kept before (in_keyword key (l ∷ ls)) c r =
    by_bool (eqb c l)
    (λ t. let e = eqb-true c l t in
    rw t (record {
      last = r.last;
      outer = r.outer;
      items = r.items;
      follows = r.follows;
      gap = r.gap;
      legal = r.legal;
      letters = r.letters ++ (l ∷ []);
      whole = r.whole ∙ moved_char r.letters l ls;
      text = λ s. ap (λ d. before (d ∷ s)) e ∙ (r.text (l ∷ s) ∙ ap (λ w. r.outer (r.gap ++ w)) (moved_char r.letters l s));
    }))
    (λ t. rw t tt)
declaration_kept before (behind_keyword key) c r = ended_kept before key c r
declaration_kept before (behind_key_equals key) c r = equals_kept before key c r
declaration_kept before (in_key_value key q v) c r = value_kept before key q v c r
declaration_kept before behind_items c r = end_kept before c r

-- ---- and each legal declaration is read

spaces_walk : (gap : List ℕ) (last : Option DeclarationKey) (s : List ℕ) → all white_space gap ≡ true
    → lexed declaration_step (between_items last true) (gap ++ s) ≡ lexed declaration_step (between_items last true) s
unfolding lexed declaration_step
spaces_walk [] last s l = refl
spaces_walk (c ∷ gap) last s l = rw (all_head white_space c gap l) (spaces_walk gap last s (all_tail white_space c gap l))

gap_walk : (gap : List ℕ) (last : Option DeclarationKey) (spaced : Bool) (s : List ℕ) → some_space gap ≡ true
    → lexed declaration_step (between_items last spaced) (gap ++ s) ≡ lexed declaration_step (between_items last true) s
unfolding lexed declaration_step some_space
gap_walk [] last spaced s l = clash (both_left _ _ l) refl
gap_walk (c ∷ gap) last spaced s l =
    let h = both_right (not (no_chars (c ∷ gap))) (all white_space (c ∷ gap)) l in
    rw (all_head white_space c gap h) (spaces_walk gap last s (all_tail white_space c gap h))

pub keyword_walk : (ls : List ℕ) (key : DeclarationKey) (s : List ℕ) → lexed declaration_step (in_keyword key ls) (ls ++ s) ≡ lexed declaration_step (in_keyword key []) s
unfolding lexed declaration_step
keyword_walk [] key s = refl
keyword_walk (l ∷ ls) key s = rw (eq-eqb l l refl) (keyword_walk ls key s)

keyword_read : (last : Option DeclarationKey) (key : DeclarationKey) (s : List ℕ) → item_follows last key ≡ true
    → lexed declaration_step (between_items last true) (keyword key ++ s) ≡ lexed declaration_step (in_keyword key []) s
unfolding lexed declaration_step keyword_begun white_space either both
keyword_read None version_key s f = refl
keyword_read None encoding_key s f = clash f refl
keyword_read None standalone_key s f = clash f refl
keyword_read (Some version_key) version_key s f = clash f refl
keyword_read (Some version_key) encoding_key s f = refl
keyword_read (Some version_key) standalone_key s f = refl
keyword_read (Some encoding_key) version_key s f = clash f refl
keyword_read (Some encoding_key) encoding_key s f = clash f refl
keyword_read (Some encoding_key) standalone_key s f = refl
keyword_read (Some standalone_key) key s f = clash f refl

pub before_walk : (gap : List ℕ) (key : DeclarationKey) (s : List ℕ) → all white_space gap ≡ true
    → lexed declaration_step (behind_keyword key) (gap ++ (61 ∷ s)) ≡ lexed declaration_step (behind_key_equals key) s
unfolding lexed declaration_step keyword_ended
before_walk [] key s l = rw equals_black
before_walk (c ∷ gap) key s l = rw (all_head white_space c gap l) (before_walk gap key s (all_tail white_space c gap l))

pub keyword_ends : (gap : List ℕ) (key : DeclarationKey) (s : List ℕ)
    → lexed declaration_step (in_keyword key []) (gap ++ (61 ∷ s)) ≡ lexed declaration_step (behind_keyword key) (gap ++ (61 ∷ s))
unfolding lexed declaration_step
keyword_ends [] key s = refl
keyword_ends (c ∷ gap) key s = refl

behind_walk : (gap : List ℕ) (key : DeclarationKey) (s : List ℕ) → all white_space gap ≡ true
    → lexed declaration_step (behind_key_equals key) (gap ++ s) ≡ lexed declaration_step (behind_key_equals key) s
unfolding lexed declaration_step
behind_walk [] key s l = refl
behind_walk (c ∷ gap) key s l = rw (all_head white_space c gap l) (behind_walk gap key s (all_tail white_space c gap l))

pub mark_walk : (q : QuoteMark) (key : DeclarationKey) (s : List ℕ) → lexed declaration_step (behind_key_equals key) (mark_char q ∷ s) ≡ lexed declaration_step (in_key_value key q []) s
unfolding lexed declaration_step
mark_walk double_mark key s = rw double_black
mark_walk single_mark key s = rw single_black

-- a value holds no quote mark
unfoldable pub unmarked : ℕ → Bool
unmarked c = both (not (eqb c 34)) (not (eqb c 39))

digits_unmarked : (ds : List ℕ) → all is_digit ds ≡ true → all unmarked ds ≡ true
unfolding unmarked is_digit all
digits_unmarked [] l = refl
digits_unmarked (d ∷ ds) l =
    let h = both_left (is_digit d) (all is_digit ds) l in
    let k = leb-true 48 d (both_left _ _ h) in
    both_of (rw (ne_eqb d 34 (λ e. omega arith), ne_eqb d 39 (λ e. omega arith)) (both_of refl refl)) (digits_unmarked ds (both_right (is_digit d) (all is_digit ds) l))

char_unmarked : (c x : ℕ) → eqb (upper_case c) x ≡ true → unmarked x ≡ true → unmarked c ≡ true
unfolding unmarked from_to both
char_unmarked c x e u =
    by_bool (eqb c 34)
    (λ t. let k = eqb-true c 34 t in let y : eqb 34 x ≡ true = rw k at e in let z = eqb-true 34 x y in let w : unmarked 34 ≡ true = rw (← z) at u in clash w refl)
    (λ t. by_bool (eqb c 39)
    (λ f. let k = eqb-true c 39 f in let y : eqb 39 x ≡ true = rw k at e in let z = eqb-true 39 x y in let w : unmarked 39 ≡ true = rw (← z) at u in clash w refl)
    (λ f. rw (t, f) refl))

uppers_unmarked : (v x : List ℕ) → same (map upper_case v) x ≡ true → all unmarked x ≡ true → all unmarked v ≡ true
unfolding same all
uppers_unmarked [] x e u = refl
uppers_unmarked (c ∷ v) [] e u = clash e refl
uppers_unmarked (c ∷ v) (y ∷ x) e u =
    both_of (char_unmarked c y (both_left _ _ e) (both_left _ _ u)) (uppers_unmarked v x (both_right (eqb (upper_case c) y) _ e) (both_right (unmarked y) _ u))

same_unmarked : (v x : List ℕ) → same v x ≡ true → all unmarked x ≡ true → all unmarked v ≡ true
same_unmarked v x e u = rw (same_yes v x e) u

version_unmarked : (v : List ℕ) → version_num v ≡ true → all unmarked v ≡ true
unfolding version_num all unmarked both
version_unmarked [] l = refl
version_unmarked (c ∷ []) l = clash l refl
version_unmarked (c ∷ d ∷ ds) l =
    let heads = both_left (both (eqb c 49) (eqb d 46)) _ l in
    let e = eqb-true c 49 (both_left _ _ heads) in
    let f = eqb-true d 46 (both_right (eqb c 49) _ heads) in
    let digits = both_right (not (no_chars ds)) (all is_digit ds) (both_right (both (eqb c 49) (eqb d 46)) _ l) in
    rw (e, f) (digits_unmarked ds digits)

pub value_unmarked : (key : DeclarationKey) (v : List ℕ) → key_value key v ≡ true → all unmarked v ≡ true
unfolding key_value unmarked all both
value_unmarked version_key v l = version_unmarked v l
value_unmarked encoding_key v l = uppers_unmarked v _ l refl
value_unmarked standalone_key v l = by_either _ _ l (λ y. same_unmarked v _ y refl) (λ n. same_unmarked v _ n refl)

-- the beginning of a value begins one
version_begins : (v w : List ℕ) → version_num (v ++ w) ≡ true → begins_version v ≡ true
unfolding version_num begins_version
version_begins [] w l = refl
version_begins (c ∷ []) [] l = clash l refl
version_begins (c ∷ []) (d ∷ w) l = both_left _ _ (both_left (both (eqb c 49) (eqb d 46)) _ l)
version_begins (c ∷ d ∷ ds) w l =
    let heads = both_left (both (eqb c 49) (eqb d 46)) _ l in
    both_of heads (all_left is_digit ds w (both_right (not (no_chars (ds ++ w))) _ (both_right (both (eqb c 49) (eqb d 46)) _ l)))

same_begins : (v w x : List ℕ) → same (v ++ w) x ≡ true → begins v x ≡ true
same_begins v w x e = rw (← (same_yes (v ++ w) x e)) (begins_append v w)

value_begins : (key : DeclarationKey) (v w : List ℕ) → key_value key (v ++ w) ≡ true → begins_key_value key v ≡ true
unfolding key_value begins_key_value
value_begins version_key v w l = version_begins v w l
value_begins encoding_key v w l = same_begins (map upper_case v) (map upper_case w) _ (rw map-append at l)
value_begins standalone_key v w l = by_either _ _ l (λ y. either_left _ _ (same_begins v w _ y)) (λ n. either_right _ (same_begins v w _ n))

unmarked_other : (q : QuoteMark) (c : ℕ) → unmarked c ≡ true → eqb c (mark_char q) ≡ false
unfolding unmarked
unmarked_other double_mark c u = not-true (eqb c 34) (both_left _ _ u)
unmarked_other single_mark c u = not-true (eqb c 39) (both_right (not (eqb c 34)) _ u)

pub value_walk : (u : List ℕ) (key : DeclarationKey) (q : QuoteMark) (w s : List ℕ) → key_value key (w ++ u) ≡ true → all unmarked u ≡ true
    → lexed declaration_step (in_key_value key q w) (u ++ (mark_char q ∷ s)) ≡ lexed declaration_step (between_items (Some key) false) s
unfolding lexed declaration_step
value_walk [] key q w s l u = let k : key_value key w ≡ true = rw append-nil at l in rw (eq-eqb (mark_char q) (mark_char q) refl, k)
value_walk (c ∷ cs) key q w s l u =
    let k : key_value key ((w ++ (c ∷ [])) ++ cs) ≡ true = rw moved_char at l in
    rw (unmarked_other q c (all_head unmarked c cs u), value_begins key (w ++ (c ∷ [])) cs k) (value_walk cs key q (w ++ (c ∷ [])) s k (all_tail unmarked c cs u))

pub item_walk : (last : Option DeclarationKey) (spaced : Bool) (key : DeclarationKey) (i : DeclarationItem) (s : List ℕ) → item_follows last key ≡ true → legal_item key i ≡ true
    → lexed declaration_step (between_items last spaced) (written_item key i ++ s) ≡ lexed declaration_step (between_items (Some key) false) s
unfolding legal_item
item_walk last spaced key i s f l =
    let more = both_right (some_space i.gap) _ l in
    let gaps = both_left (both (all white_space i.eq.before) (all white_space i.eq.behind)) _ more in
    let value = both_right (both (all white_space i.eq.before) (all white_space i.eq.behind)) _ more in
    rw (item_text key i s)
    (gap_walk i.gap last spaced _ (both_left _ _ l)
    ∙ (keyword_read last key _ f
    ∙ (keyword_ends i.eq.before key _
    ∙ (before_walk i.eq.before key _ (both_left (all white_space i.eq.before) (all white_space i.eq.behind) gaps)
    ∙ (behind_walk i.eq.behind key _ (both_right (all white_space i.eq.before) (all white_space i.eq.behind) gaps)
    ∙ (mark_walk i.quote key _
    ∙ value_walk i.value key i.quote [] s value (value_unmarked key i.value value)))))))

pub end_walk : (key : DeclarationKey) (spaced : Bool) (s : List ℕ) → lexed declaration_step (between_items (Some key) spaced) (63 ∷ (62 ∷ s)) ≡ finished no_event s
unfolding lexed declaration_step both
end_walk key spaced s = rw question_black

gap_read : (key : DeclarationKey) (gap s : List ℕ) → all white_space gap ≡ true → lexed declaration_step (between_items (Some key) false) (gap ++ (63 ∷ (62 ∷ s))) ≡ finished no_event s
gap_read key [] s l = end_walk key false s
gap_read key (c ∷ gap) s l = gap_walk (c ∷ gap) (Some key) false _ (some_space_of (c ∷ gap) l refl) ∙ end_walk key true s

standalone_walk : (last : DeclarationKey) (o : Option DeclarationItem) (gap s : List ℕ) → item_follows (Some last) standalone_key ≡ true → legal_optional standalone_key o ≡ true → all white_space gap ≡ true
    → lexed declaration_step (between_items (Some last) false) (written_optional standalone_key o ++ (gap ++ (63 ∷ (62 ∷ s)))) ≡ finished no_event s
standalone_walk last None gap s f o l = gap_read last gap s l
standalone_walk last (Some i) gap s f o l = item_walk (Some last) false standalone_key i _ f o ∙ gap_read standalone_key gap s l

encoding_walk : (e o : Option DeclarationItem) (gap s : List ℕ) → legal_optional encoding_key e ≡ true → legal_optional standalone_key o ≡ true → all white_space gap ≡ true
    → lexed declaration_step (between_items (Some version_key) false) (written_optional encoding_key e ++ (written_optional standalone_key o ++ (gap ++ (63 ∷ (62 ∷ s))))) ≡ finished no_event s
encoding_walk None o gap s e n l = standalone_walk version_key o gap s refl n l
encoding_walk (Some i) o gap s e n l = item_walk (Some version_key) false encoding_key i _ refl e ∙ standalone_walk encoding_key o gap s refl n l

-- a declaration behind its `<?xml`
abbrev pub behind_xml : XmlDeclaration → List ℕ → List ℕ
behind_xml d s = written_item version_key d.version ++ (written_optional encoding_key d.encoding ++ (written_optional standalone_key d.standalone ++ (d.gap ++ (63 ∷ (62 ∷ s)))))

pub declaration_read : (d : XmlDeclaration) (s : List ℕ) → legal_declaration d ≡ true → lexed declaration_step (between_items None false) (behind_xml d s) ≡ finished no_event s
unfolding legal_declaration
declaration_read d s l =
    let a = both_left _ _ l in
    let b = both_right (both (legal_item version_key d.version) (legal_optional encoding_key d.encoding)) _ l in
    item_walk None false version_key d.version _ refl (both_left _ _ a)
    ∙ encoding_walk d.encoding d.standalone d.gap s (both_right (legal_item version_key d.version) _ a) (both_left _ _ b) (both_right (legal_optional standalone_key d.standalone) _ b)
