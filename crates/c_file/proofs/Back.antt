-- A file's reader is what its words stand for, where its place is one that words can have.
use Rattle.std.specs.Prelude.{Some, None, Option}
use Prim.Native.Nat.{ℕ, ◌≤◌, ◌-◌}
use mathlib.Core.Path.{◌≡◌, refl, ◌∙◌}
use mathlib.Core.Bool.{Bool, true, false}
use mathlib.Core.List.{List, [], ◌∷◌, map}
use native.Mathlib.Omega.{arith}
use lib.Dec.{leb, eqb}
use lib.ListN.{length, drop, length-drop}
use borrow.Author.Tests.{leb-true}
use Rattle.base.specs.Ascii.{ascii}
use Rattle.base.specs.Bytes.{both, same}
use Rattle.base.proofs.Split.{both_left, both_right, both_true}
use Rattle.xml_chars.specs.declared.CharBytes.{CharBytes}
use Rattle.xml_chars.specs.Chars.{bytes_in, begun}
use Rattle.markup_tags.specs.References.{letters_in}
use Rattle.markup_tags.specs.StartTags.{mark_for}
use Rattle.markup_tags.specs.declared.references.EntityLetters.{EntityLetters}
use Rattle.markup_tags.specs.declared.references.EntityLetters.TheVariants as E
use Rattle.markup_tags.specs.declared.references.ReferencePlace.{ReferencePlace}
use Rattle.markup_tags.specs.declared.references.ReferencePlace.TheVariants as F
use Rattle.markup_tags.specs.declared.start_tags.QuoteMark.{QuoteMark}
use Rattle.markup_tags.specs.declared.start_tags.QuoteMark.TheVariants as Q
use Rattle.markup_tags.specs.declared.start_tags.StartTagPlace.{StartTagPlace}
use Rattle.markup_tags.specs.declared.start_tags.StartTagPlace.TheVariants as S
use Rattle.markup_tags.specs.declared.end_tags.EndTagPlace.TheVariants as N
use Rattle.markup_skipped.specs.Declarations.{key_for, last_for, value_key, value_letters}
use Rattle.markup_skipped.specs.Instructions.{target_letters}
use Rattle.markup_skipped.specs.declared.comments.CommentPlace.TheVariants as M
use Rattle.markup_skipped.specs.declared.declarations.DeclarationKey.{DeclarationKey}
use Rattle.markup_skipped.specs.declared.declarations.DeclarationKey.TheVariants as K
use Rattle.markup_skipped.specs.declared.declarations.ValueLetters.{ValueLetters}
use Rattle.markup_skipped.specs.declared.declarations.ValueLetters.TheVariants as V
use Rattle.markup_skipped.specs.declared.declarations.DeclarationPlace.{DeclarationPlace}
use Rattle.markup_skipped.specs.declared.declarations.DeclarationPlace.TheVariants as D
use Rattle.markup_skipped.specs.declared.instructions.TargetLetters.{TargetLetters}
use Rattle.markup_skipped.specs.declared.instructions.TargetLetters.TheVariants as T
use Rattle.markup_skipped.specs.declared.instructions.InstructionPlace.TheVariants as I
use Rattle.markup_steps.specs.Held.{markup_for}
use Rattle.markup_steps.specs.declared.MarkupPlace.{MarkupPlace}
use Rattle.markup_steps.specs.declared.MarkupPlace.TheVariants as P
use Rattle.file_lexer.specs.Held.{where_of}
use Rattle.file_lexer.specs.declared.Before.{Before}
use Rattle.file_lexer.specs.declared.Before.TheVariants as B
use Rattle.file_lexer.specs.declared.FilePlace.{FilePlace}
use Rattle.file_lexer.specs.declared.FilePlace.TheVariants as W
use Rattle.c_file.specs.declared.PlaceWords.{PlaceWords}
use Rattle.c_file.specs.Fits.{markup_fits, is_held}
use Rattle.c_file.specs.Words.{before_in, all_letters, letters_of, targets, target_in, value_in, key_in, last_in, flag_in, mark_in, start_tag_in, end_tag_in, comment_in}
use Rattle.c_file.specs.Words.{instruction_in, declaration_in, markup_in, detailed}
use Rattle.c_file.specs.Words.{flag_word, before_word, mark_word, key_word, last_word, place_among, value_word, markup_words, words_of_file, place_coded, is_file, file_of_words}
use Rattle.c_file.proofs.Chars.{chars_back}

-- 7 zeros are before the first byte of a file
pub fresh_words : file_of_words (0 ∷ 0 ∷ 0 ∷ 0 ∷ 0 ∷ 0 ∷ 0 ∷ []) ≡ Some (record { lexer = record { place = W.Text B.Nothing; feeds = 0; used = 0 }; named = 0 })
unfolding file_of_words is_file place_coded detailed both
fresh_words = refl

-- ---- codes

flag_back : (t : Bool) → (leb (flag_word t) 1 ≡ true) × (flag_in (flag_word t) ≡ t)
flag_back true = (refl, refl)
flag_back false = (refl, refl)

mark_back : (q : QuoteMark) → (leb (mark_word (mark_for q)) 1 ≡ true) × (mark_in (mark_word (mark_for q)) ≡ q)
mark_back Q.Double = (refl, refl)
mark_back Q.Single = (refl, refl)

key_back : (k : DeclarationKey) → (leb (key_word (key_for k)) 2 ≡ true) × (key_in (key_word (key_for k)) ≡ k)
key_back K.Version = (refl, refl)
key_back K.Encoding = (refl, refl)
key_back K.Standalone = (refl, refl)

last_back : (l : Option DeclarationKey) → (leb (last_word (last_for l)) 3 ≡ true) × (last_in (last_word (last_for l)) ≡ l)
last_back None = (refl, refl)
last_back (Some K.Version) = (refl, refl)
last_back (Some K.Encoding) = (refl, refl)
last_back (Some K.Standalone) = (refl, refl)

before_back : (b : Before) → (leb (before_word b) 4 ≡ true) × (before_in (before_word b) ≡ b)
before_back B.Nothing = (refl, refl)
before_back B.MarkFirst = (refl, refl)
before_back B.MarkSecond = (refl, refl)
before_back B.Mark = (refl, refl)
before_back B.Text = (refl, refl)

abbrev entity_word : EntityLetters → ℕ
entity_word l = place_among (map letters_in all_letters) (letters_in l)

entity_back : (l : EntityLetters) → (leb (entity_word l) 13 ≡ true) × (letters_of (entity_word l) ≡ l)
unfolding place_among same both
entity_back E.A = (refl, refl)
entity_back E.Am = (refl, refl)
entity_back E.Amp = (refl, refl)
entity_back E.Ap = (refl, refl)
entity_back E.Apo = (refl, refl)
entity_back E.Apos = (refl, refl)
entity_back E.L = (refl, refl)
entity_back E.Lt = (refl, refl)
entity_back E.G = (refl, refl)
entity_back E.Gt = (refl, refl)
entity_back E.Q = (refl, refl)
entity_back E.Qu = (refl, refl)
entity_back E.Quo = (refl, refl)
entity_back E.Quot = (refl, refl)

abbrev target_word : TargetLetters → ℕ
target_word l = place_among (map target_letters targets) (target_letters l)

target_back : (l : TargetLetters) → (leb (target_word l) 6 ≡ true) × (target_in (target_word l) ≡ l)
unfolding place_among same both
target_back T.X = (refl, refl)
target_back T.Xm = (refl, refl)
target_back T.Xml = (refl, refl)
target_back T.UpperX = (refl, refl)
target_back T.UpperXm = (refl, refl)
target_back T.UpperXml = (refl, refl)
target_back T.Other = (refl, refl)

abbrev letters_word : ValueLetters → ℕ
letters_word l = value_word (value_key l) (value_letters l)

value_back : (l : ValueLetters) → (leb (letters_word l) 15 ≡ true) × (value_in (letters_word l) ≡ l)
unfolding place_among same both
value_back V.Version0 = (refl, refl)
value_back V.Version1 = (refl, refl)
value_back V.Version2 = (refl, refl)
value_back V.Version3 = (refl, refl)
value_back V.Encoding0 = (refl, refl)
value_back V.Encoding1 = (refl, refl)
value_back V.Encoding2 = (refl, refl)
value_back V.Encoding3 = (refl, refl)
value_back V.Encoding4 = (refl, refl)
value_back V.Encoding5 = (refl, refl)
value_back V.Standalone0 = (refl, refl)
value_back V.Y = (refl, refl)
value_back V.Ye = (refl, refl)
value_back V.Yes = (refl, refl)
value_back V.N = (refl, refl)
value_back V.No = (refl, refl)

-- ---- a place in a markup

record PlaceBack (x : PlaceWords) (place : MarkupPlace) : Type 0 where
  named : eqb x.number 0 ≡ false
  within : detailed x.number x.first x.second ≡ true
  back : markup_in x.number x.first x.second ≡ place

reference_back : (q : QuoteMark) (p : ReferencePlace) → markup_fits (P.StartTag (S.Reference q p)) ≡ true
    → PlaceBack (markup_words (markup_for (P.StartTag (S.Reference q p)))) (P.StartTag (S.Reference q p))
unfolding markup_words markup_in start_tag_in detailed both
reference_back q F.Ampersand h = record { named = refl; within = rw (mark_back q).0; back = rw (mark_back q).1 }
reference_back q (F.Entity l) h = record { named = refl; within = rw ((mark_back q).0, (entity_back l).0); back = rw ((mark_back q).1, (entity_back l).1) }
reference_back q F.Hash h = record { named = refl; within = rw (mark_back q).0; back = rw (mark_back q).1 }
reference_back q (F.Decimal v) h = record { named = refl; within = rw (mark_back q).0 h; back = rw (mark_back q).1 }
reference_back q F.HexBegun h = record { named = refl; within = rw (mark_back q).0; back = rw (mark_back q).1 }
reference_back q (F.Hex v) h = record { named = refl; within = rw (mark_back q).0 h; back = rw (mark_back q).1 }

start_tag_back : (p : StartTagPlace) → markup_fits (P.StartTag p) ≡ true → PlaceBack (markup_words (markup_for (P.StartTag p))) (P.StartTag p)
unfolding markup_words markup_in start_tag_in detailed both
start_tag_back S.Name h = record { named = refl; within = refl; back = refl }
start_tag_back (S.Behind t) h = record { named = refl; within = rw (flag_back t).0; back = rw (flag_back t).1 }
start_tag_back S.AttributeName h = record { named = refl; within = refl; back = refl }
start_tag_back S.BehindAttributeName h = record { named = refl; within = refl; back = refl }
start_tag_back S.BehindEqualsSign h = record { named = refl; within = refl; back = refl }
start_tag_back (S.Value q t) h = record { named = refl; within = rw ((mark_back q).0, (flag_back t).0); back = rw ((mark_back q).1, (flag_back t).1) }
start_tag_back (S.Reference q p) h = reference_back q p h
start_tag_back S.Slash h = record { named = refl; within = refl; back = refl }

-- as many letters of a keyword as are still to come
due : (r : List ℕ) (n : ℕ) → n ≤ length r → length (drop (length r - n) r) ≡ n
due r n h = rw (length-drop (length r - n) r) (omega arith)

keyword_back : (k : DeclarationKey) (n : ℕ) → markup_fits (P.Instruction (I.Declaration (D.Keyword k n))) ≡ true
    → PlaceBack (markup_words (markup_for (P.Instruction (I.Declaration (D.Keyword k n))))) (P.Instruction (I.Declaration (D.Keyword k n)))
unfolding markup_words markup_in declaration_in detailed both
keyword_back K.Version n h =
    let e : length (drop (6 - n) (ascii "ersion")) ≡ n = due (ascii "ersion") n (leb-true n 6 h) in
    record { named = refl; within = rw e (both_true (leb n 6) ∙ h); back = rw e }
keyword_back K.Encoding n h =
    let e : length (drop (7 - n) (ascii "ncoding")) ≡ n = due (ascii "ncoding") n (leb-true n 7 h) in
    record { named = refl; within = rw e (both_true (leb n 7) ∙ h); back = rw e }
keyword_back K.Standalone n h =
    let e : length (drop (9 - n) (ascii "tandalone")) ≡ n = due (ascii "tandalone") n (leb-true n 9 h) in
    record { named = refl; within = rw e (both_true (leb n 9) ∙ h); back = rw e }

declaration_back : (p : DeclarationPlace) → markup_fits (P.Instruction (I.Declaration p)) ≡ true
    → PlaceBack (markup_words (markup_for (P.Instruction (I.Declaration p)))) (P.Instruction (I.Declaration p))
unfolding markup_words markup_in declaration_in detailed both
declaration_back (D.Between l t) h = record { named = refl; within = rw ((last_back l).0, (flag_back t).0); back = rw ((last_back l).1, (flag_back t).1) }
declaration_back (D.Keyword k n) h = keyword_back k n h
declaration_back (D.BehindKeyword k) h = record { named = refl; within = rw (key_back k).0; back = rw (key_back k).1 }
declaration_back (D.EqualsSign k) h = record { named = refl; within = rw (key_back k).0; back = rw (key_back k).1 }
declaration_back (D.Value q l) h = record { named = refl; within = rw ((mark_back q).0, (value_back l).0); back = rw ((mark_back q).1, (value_back l).1) }
declaration_back D.Behind h = record { named = refl; within = refl; back = refl }

markup_back : (p : MarkupPlace) → markup_fits p ≡ true → PlaceBack (markup_words (markup_for p)) p
unfolding markup_words markup_in end_tag_in comment_in instruction_in detailed both
markup_back (P.Begun t) h = record { named = refl; within = rw (flag_back t).0; back = rw (flag_back t).1 }
markup_back (P.StartTag p) h = start_tag_back p h
markup_back (P.EndTag N.Slash) h = record { named = refl; within = refl; back = refl }
markup_back (P.EndTag N.Name) h = record { named = refl; within = refl; back = refl }
markup_back (P.EndTag N.Behind) h = record { named = refl; within = refl; back = refl }
markup_back (P.Bang M.Bang) h = record { named = refl; within = refl; back = refl }
markup_back (P.Bang M.Hyphen) h = record { named = refl; within = refl; back = refl }
markup_back (P.Bang (M.Inside t)) h = record { named = refl; within = rw (flag_back t).0; back = rw (flag_back t).1 }
markup_back (P.Bang M.TwoHyphens) h = record { named = refl; within = refl; back = refl }
markup_back (P.Instruction (I.Question t)) h = record { named = refl; within = rw (flag_back t).0; back = rw (flag_back t).1 }
markup_back (P.Instruction (I.Target t l)) h = record { named = refl; within = rw ((flag_back t).0, (target_back l).0); back = rw ((flag_back t).1, (target_back l).1) }
markup_back (P.Instruction I.BehindTarget) h = record { named = refl; within = refl; back = refl }
markup_back (P.Instruction (I.Data t)) h = record { named = refl; within = rw (flag_back t).0; back = rw (flag_back t).1 }
markup_back (P.Instruction (I.Declaration p)) h = declaration_back p h

-- ---- all words

within_back : (place : MarkupPlace) (chars : CharBytes) (feeds used named : ℕ) → markup_fits place ≡ true → begun (bytes_in chars) ≡ true
    → file_of_words (words_of_file (where_of (W.Markup place chars)) feeds used named)
    ≡ Some (record { lexer = record { place = W.Markup place chars; feeds = feeds; used = used }; named = named })
unfolding file_of_words is_file words_of_file place_coded both
within_back place chars feeds used named f b =
    let m = markup_back place f in
    let c = chars_back chars b in
    rw (m.within, m.named, c.within, m.back, c.back)

pub words_back : (p : FilePlace) (feeds used named : ℕ) → is_held p ≡ true
    → file_of_words (words_of_file (where_of p) feeds used named) ≡ Some (record { lexer = record { place = p; feeds = feeds; used = used }; named = named })
unfolding file_of_words is_file words_of_file is_held place_coded detailed both
words_back (W.Text before) feeds used named h = rw ((before_back before).0, (before_back before).1)
words_back (W.Markup place chars) feeds used named h =
    within_back place chars feeds used named (both_left (markup_fits place) (begun (bytes_in chars)) h) (both_right (markup_fits place) (begun (bytes_in chars)) h)
