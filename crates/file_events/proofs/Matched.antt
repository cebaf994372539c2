-- "26 unmatched end tag: an end tag with none open or whose name is not the open one's", by the names of the elements that are open.
use Rattle.std.specs.Prelude.{Ok, Err, Result, None, Option, Some}
use Prim.Native.Nat.{ℕ, ◌+◌, ◌<◌, ◌≤◌}
use mathlib.Core.Path.{◌≡◌, refl, sym, ◌∙◌, ap, subst}
use mathlib.Core.Bool.{Bool, true, false}
use mathlib.Core.List.{List, [], ◌∷◌, ◌++◌}
use mathlib.Core.Logic.{◌↔◌, ◌⊎◌, inl, inr, ⊎_elim}
use native.Mathlib.Omega.{arith}
use lib.Dec.{leb}
use lib.ListN.{length, take, length-append}
use lib.Seq.{take_all, length-take-le}
use borrow.Author.Tests.{le-leb, leb-true}
use Rattle.base.specs.Bytes.{Bytes, both, all, same}
use Rattle.base.proofs.Split.{by_le, both_left, both_right, both_of, same_test, no}
use Rattle.base.proofs.Lists.{all_nil, all_cons, all_head, all_tail, same_yes}
use Rattle.refusal.specs.declared.Refusal.TheVariants as R
use Rattle.nesting.specs.declared.Level.TheVariants as L
use Rattle.text.specs.Text.{encoded}
use Rattle.markup.specs.Markup.{attrs_meant, Markup, start_tag, end_tag, comment, instruction, declaration, meaning_of}
use Rattle.file_lexer.specs.declared.Before.{Before}
use Rattle.file_reader.specs.File.{FileState, FileResult, is_open, open_name, file_bytes}
use Rattle.file_events.specs.Parts.{FilePart, text_between, markup_part, written_part, written_file, before_behind, legal_at, legal_file}
use Rattle.file_events.specs.Unlined.{unlined_answer}
use Rattle.file_events.specs.Refusals.{AtPart, IsUnmatched}
use Rattle.file_events.specs.Open.{behind_innermost, with_start, part_opens, innermost, IsUnmatchedName, UnmatchedName}
use Rattle.file_events.proofs.Refusals.{StandsSound, part_keeps, unmatched_in_file}
use Rattle.file_events.proofs.Open.{Named, name_is_innermost, none_named, part_names, start_short}

-- names that are kept whole
abbrev Short : List Bytes → Type 0
Short names = all (λ n. leb (length n) 16379) names ≡ true

-- what is kept of an end tag's name is enough to tell it from such a one
name_same : (n m : Bytes) → length m ≤ 16379 → same (take 16380 n) m ≡ same n m
name_same n m h =
    by_le (length n) 16380
    (λ k. ap (λ x. same x m) (take_all 16380 n k))
    (λ k. let l = length-take-le 16380 n (omega arith) in
    same_test _ _ (λ e. absurd (omega (arith, l, ap length (same_yes (take 16380 n) m e)))) (λ e. absurd (omega (arith, ap length (same_yes n m e)))))

open_same : (n : Bytes) (names : List Bytes) → Short names → is_open (take 16380 n) (innermost names) ≡ is_open n (innermost names)
open_same n [] s = refl
open_same n (m ∷ names) s = name_same n m (leb-true (length m) 16379 (all_head (λ x. leb (length x) 16379) m names s))

behind_short : (names : List Bytes) → Short names → Short (behind_innermost names)
behind_short [] s = s
behind_short (m ∷ names) s = all_tail (λ x. leb (length x) 16379) m names s

part_short : (p : FilePart) (before : Before) (f : FileState) (names : List Bytes) → StandsSound before f → legal_at before p ≡ true → f.state.reader.lines < 18446744073709551615
    → (file_bytes (written_part p) f).answer ≡ Ok tt → Short names → Short (part_opens p names)
unfolding legal_at meaning_of
part_short (text_between t) before f names w l h o s = s
part_short (markup_part (start_tag false n xs gap)) before f names w l h o s =
    let m = start_tag false n xs gap in
    let k = start_short m before f w l h false (encoded n) (attrs_meant xs) refl o in
    all_cons (λ x. leb (length x) 16379) (encoded n) names (le-leb (length (encoded n)) 16379 k) s
part_short (markup_part (start_tag true n xs gap)) before f names w l h o s = s
part_short (markup_part (end_tag n gap)) before f names w l h o s = behind_short names s
part_short (markup_part (comment ps)) before f names w l h o s = s
part_short (markup_part (instruction t gap cs)) before f names w l h o s = s
part_short (markup_part (declaration d)) before f names w l h o s = s

part_named : (p : FilePart) (f : FileState) (names : List Bytes) → Named f names → Short names → IsUnmatched p f ↔ IsUnmatchedName p names
part_named (text_between t) f names u s = (λ x. x, λ x. x)
part_named (markup_part (start_tag empty n xs gap)) f names u s = (λ x. x, λ x. x)
part_named (markup_part (end_tag n gap)) f names u s =
    let e : is_open (take 16380 (encoded n)) (open_name f) ≡ is_open (encoded n) (innermost names) =
    ap (is_open (take 16380 (encoded n))) (name_is_innermost f names u) ∙ open_same (encoded n) names s in
    (λ x. sym e ∙ x, λ x. e ∙ x)
part_named (markup_part (comment ps)) f names u s = (λ x. x, λ x. x)
part_named (markup_part (instruction t gap cs)) f names u s = (λ x. x, λ x. x)
part_named (markup_part (declaration d)) f names u s = (λ x. x, λ x. x)

by_names : (ps : List FilePart) (before : Before) (f : FileState) (names : List Bytes) → legal_file before ps ≡ true → StandsSound before f
    → f.state.reader.lines + length (written_file ps) < 18446744073709551615 → Named f names → Short names → AtPart IsUnmatched ps f ↔ UnmatchedName ps names f
unfolding legal_file written_file
by_names [] before f names l w h u s = (λ x. x, λ x. x)
by_names (p ∷ ps) before f names l w h u s =
    let lp = both_left (legal_at before p) (legal_file (before_behind before p) ps) l in
    let n = length-append (written_part p) (written_file ps) in
    let x = part_named p f names u s in
    let ih : (file_bytes (written_part p) f).answer ≡ Ok tt → AtPart IsUnmatched ps (file_bytes (written_part p) f).file ↔ UnmatchedName ps (part_opens p names)
    (file_bytes (written_part p) f).file =
    λ o. let v = part_keeps p before f w lp (omega arith) o in
    by_names ps (before_behind before p) (file_bytes (written_part p) f).file (part_opens p names) (both_right (legal_at before p) _ l) v.0 (omega (arith, v.1))
    (part_names p before f names w lp (omega arith) u o) (part_short p before f names w lp (omega arith) o s) in
    (λ i. ⊎_elim (λ y. inl (x.0 y)) (λ y. inr (y.0, (ih y.0).0 y.1)) i, λ i. ⊎_elim (λ y. inl (x.1 y)) (λ y. inr (y.0, (ih y.0).1 y.1)) i)

-- 26 exactly at an end tag with none open or whose name is not the open one's, in a file from its beginning
pub unmatched_by_name : (ps : List FilePart) (before : Before) (f : FileState) → legal_file before ps ≡ true → StandsSound before f
    → f.state.reader.lines + length (written_file ps) < 18446744073709551615 → f.state.reader.place.level ≡ L.Doc
    → (unlined_answer (file_bytes (written_file ps) f).answer ≡ Err R.UnmatchedEndTag) ↔ UnmatchedName ps [] f
unmatched_by_name ps before f l w h d =
    let u : Named f [] = none_named f d in
    let x = unmatched_in_file ps before f l w h in
    let y = by_names ps before f [] l w h u (all_nil (λ x. leb (length x) 16379)) in
    (λ e. y.0 (x.0 e), λ e. x.1 (y.1 e))
