-- A start tag as it is held: where in it a reader stands. Its name, its attributes and the value so far are in the line. They are forgotten here: what is held has them empty.
use Rattle.std.specs.Prelude.{ℕ, Bool, false, List, [], ◌∷◌, ◌++◌, cond, length, drop}
use Rattle.base.specs.Bytes.{Bytes, both}
use Rattle.base.specs.Chars.{horizontal_tab, equals_sign}
use Rattle.text.specs.Text.{encoded}
use Rattle.text.specs.Escape.{escape}
use Rattle.event.specs.Event.{Attr, attr_field, starts}
use Rattle.markup.specs.Names.{name_start_char}
use Rattle.markup.specs.Markup as X
use Rattle.markup.specs.Markup.{Meaning, means_event}
use Rattle.markup.specs.Automaton.{Moved, continues, completes, malformed, inner_step, ValueState, in_value, in_reference, ElementParts, with_attr, StartTagState}
use Rattle.markup.specs.Automaton.{in_name, behind_part, in_attribute_name, behind_attribute_name, behind_equals_sign, in_attribute_value, behind_slash}
use Rattle.markup_tags.specs.References.{reference_for}
use Rattle.markup_tags.specs.Meanings.{meaning_kept}
use Rattle.markup_tags.specs.declared.references.ReferencePlace.{ReferencePlace}
use Rattle.markup_tags.specs.declared.start_tags.QuoteMark.{QuoteMark}
use Rattle.markup_tags.specs.declared.start_tags.QuoteMark.TheVariants as Q
use Rattle.markup_tags.specs.declared.start_tags.StartTagPlace.{StartTagPlace}
use Rattle.markup_tags.specs.declared.start_tags.StartTagPlace.TheVariants as P
use Rattle.markup_tags.specs.declared.start_tags.StartTagMoved.{StartTagMoved}
use Rattle.markup_tags.specs.declared.start_tags.StartTagMoved.TheVariants as M

-- ---- what stands in the line: `NAME⇥attr=value..`

unfoldable pub attrs_line : List Attr → Bytes
attrs_line [] = []
attrs_line (a ∷ attrs) = horizontal_tab ∷ (attr_field a ++ attrs_line attrs)

abbrev pub parts_line : ElementParts → Bytes
parts_line e = encoded e.name ++ attrs_line e.attrs

-- the value so far
abbrev pub value_so_far : ValueState → List ℕ
value_so_far (in_value cr v) = v
value_so_far (in_reference v r) = v

unfoldable pub start_tag_line : StartTagState → Bytes
start_tag_line (in_name n) = encoded n
start_tag_line (behind_part e spaced) = parts_line e
start_tag_line (in_attribute_name e a) = parts_line e ++ (horizontal_tab ∷ encoded a)
start_tag_line (behind_attribute_name e a) = parts_line e ++ (horizontal_tab ∷ (encoded a ++ (equals_sign ∷ [])))
start_tag_line (behind_equals_sign e a) = parts_line e ++ (horizontal_tab ∷ (encoded a ++ (equals_sign ∷ [])))
start_tag_line (in_attribute_value e a q v) = parts_line e ++ (horizontal_tab ∷ (encoded a ++ (equals_sign ∷ escape (encoded (value_so_far v)))))
start_tag_line (behind_slash e) = parts_line e

-- what a step adds to it
abbrev pub start_tag_grown : StartTagState → Moved StartTagState Meaning → Bytes
start_tag_grown s (continues t) = drop (length (start_tag_line s)) (start_tag_line t)
start_tag_grown s (completes m) = []
start_tag_grown s malformed = []

-- ---- what is forgotten

abbrev pub no_parts : ElementParts
no_parts = record { name = []; attrs = [] }

abbrev pub value_kept : ValueState → ValueState
value_kept (in_value cr v) = in_value cr []
value_kept (in_reference v r) = in_reference [] r

unfoldable pub start_tag_kept : StartTagState → StartTagState
start_tag_kept (in_name n) = in_name []
start_tag_kept (behind_part e spaced) = behind_part no_parts spaced
start_tag_kept (in_attribute_name e a) = in_attribute_name no_parts []
start_tag_kept (behind_attribute_name e a) = behind_attribute_name no_parts []
start_tag_kept (behind_equals_sign e a) = behind_equals_sign no_parts []
start_tag_kept (in_attribute_value e a q v) = in_attribute_value no_parts [] q (value_kept v)
start_tag_kept (behind_slash e) = behind_slash no_parts

abbrev pub start_tag_forgotten : Moved StartTagState Meaning → Moved StartTagState Meaning
start_tag_forgotten (continues s) = continues (start_tag_kept s)
start_tag_forgotten (completes m) = completes (meaning_kept m)
start_tag_forgotten malformed = malformed

-- ---- what is held

abbrev pub mark_for : QuoteMark → X.QuoteMark
mark_for Q.Double = X.double_mark
mark_for Q.Single = X.single_mark

abbrev pub in_held_value : QuoteMark → ValueState → StartTagState
in_held_value mark v = in_attribute_value no_parts [] (mark_for mark) v

abbrev pub in_held_reference : QuoteMark → ReferencePlace → StartTagState
in_held_reference mark place = in_held_value mark (in_reference [] (reference_for place))

-- a step within a value
abbrev pub value_taken : QuoteMark → Moved ValueState (List ℕ) → Moved StartTagState Meaning
value_taken mark m = inner_step (in_held_value mark) (λ w. behind_part (with_attr no_parts [] w) false) m

-- the first character of an attribute's name
abbrev pub first_of_attribute : Bool → ℕ → Moved StartTagState Meaning
first_of_attribute spaced c = cond (both spaced (name_start_char c)) (continues (in_attribute_name no_parts (c ∷ []))) malformed

-- what is added to the line where a tag goes on
abbrev pub where_continued : Bytes → Moved StartTagState Meaning → Bytes
where_continued s (continues t) = s
where_continued s (completes m) = []
where_continued s malformed = []

abbrev pub start_tag_for : StartTagPlace → StartTagState
start_tag_for P.Name = in_name []
start_tag_for (P.Behind spaced) = behind_part no_parts spaced
start_tag_for P.AttributeName = in_attribute_name no_parts []
start_tag_for P.BehindAttributeName = behind_attribute_name no_parts []
start_tag_for P.BehindEqualsSign = behind_equals_sign no_parts []
start_tag_for (P.Value mark cr) = in_held_value mark (in_value cr [])
start_tag_for (P.Reference mark place) = in_held_reference mark place
start_tag_for P.Slash = behind_slash no_parts

abbrev pub start_tag_moved : StartTagMoved → Moved StartTagState Meaning
start_tag_moved (M.Continues place) = continues (start_tag_for place)
start_tag_moved (M.Completes empty) = completes (means_event (starts empty [] []) [])
start_tag_moved M.Malformed = malformed
