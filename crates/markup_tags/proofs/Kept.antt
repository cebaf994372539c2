-- What is held of a tag between two characters decides each step, and what it adds to the line; the line of a tag that ends is that of its event.
use Prim.Native.Nat.{ℕ}
use mathlib.Core.Path.{◌≡◌, refl, sym, ◌∙◌, ap, subst}
use mathlib.Core.Bool.{Bool, true, false, cond}
use mathlib.Core.List.{List, [], ◌∷◌, ◌++◌, append_assoc, append-nil}
use lib.Dec.{eqb}
use Rattle.base.specs.Bytes.{Bytes, both}
use Rattle.base.proofs.Split.{by_bool}
use Rattle.text.specs.Char.{xml_char, utf8}
use Rattle.text.specs.Text.{encoded}
use Rattle.text.specs.Escape.{escape}
use Rattle.text.proofs.Texts.{encoded_append}
use Rattle.text.proofs.Escapes.{escape_append}
use Rattle.line.specs.Line.{tabbed, line}
use Rattle.event.specs.Event.{Attr, attr_field, attr_fields, starts, closes, start_word, line_of}
use Rattle.markup.specs.Names.{white_space, name_start_char, name_char}
use Rattle.markup.specs.Markup.{QuoteMark, mark_char, Meaning, means_event}
use Rattle.markup.specs.Automaton.{Moved, continues, completes, malformed, inner_step, ReferenceState, reference_step, ValueState, in_value, in_reference, raw_step, value_step}
use Rattle.markup.specs.Automaton.{ElementParts, with_attr, start_meant, StartTagState, part_ended, attribute_name_ended, start_tag_step}
use Rattle.markup.specs.Automaton.{in_name, behind_part, in_attribute_name, behind_attribute_name, behind_equals_sign, in_attribute_value, behind_slash}
use Rattle.markup.specs.Automaton.{EndTagState, behind_end_slash, in_end_name, behind_end_name, end_name_ended, end_tag_step}
use Rattle.markup_tags.specs.StartTags.{attrs_line, parts_line, no_parts, value_kept, start_tag_line, start_tag_grown, start_tag_kept, start_tag_forgotten}
use Rattle.markup_tags.specs.EndTags.{end_tag_line, end_tag_grown, end_tag_kept, end_tag_forgotten}

-- ---- lines that grow

-- by nothing
same_line : (s : Bytes) → s ≡ s ++ []
same_line s = sym (append-nil s)

name_more : (n : List ℕ) (c : ℕ) → encoded (n ++ (c ∷ [])) ≡ encoded n ++ (utf8 c ++ [])
unfolding encoded
name_more n c = encoded_append n (c ∷ [])

value_more : (v : List ℕ) (c : ℕ) → escape (encoded (v ++ (c ∷ []))) ≡ escape (encoded v) ++ escape (utf8 c ++ [])
value_more v c = ap escape (name_more v c) ∙ escape_append (encoded v) (utf8 c ++ [])

attr_more : (attrs : List Attr) (a : Attr) → attrs_line (attrs ++ (a ∷ [])) ≡ attrs_line attrs ++ (9 ∷ attr_field a)
unfolding attrs_line
attr_more [] a = ap (λ s. 9 ∷ s) (append-nil (attr_field a))
attr_more (b ∷ attrs) a = ap (λ s. 9 ∷ s) (ap (λ s. attr_field b ++ s) (attr_more attrs a) ∙ sym (append_assoc (attr_field b) (attrs_line attrs) (9 ∷ attr_field a)))

part_more : (p q r : Bytes) → p ++ (9 ∷ (q ++ r)) ≡ (p ++ (9 ∷ q)) ++ r
part_more p q r = sym (append_assoc p (9 ∷ q) r)

-- ---- a step of a start tag

-- two moves, of a state and of what is held of it: what is held of them is the same, and the second shows what the first adds to the line
abbrev LineGrown : StartTagState → Moved StartTagState Meaning → Moved StartTagState Meaning → Type 0
LineGrown s (continues t) m = start_tag_line t ≡ start_tag_line s ++ start_tag_grown (start_tag_kept s) m
LineGrown s (completes x) m = Unit {0}
LineGrown s malformed m = Unit {0}

abbrev Follows : StartTagState → Moved StartTagState Meaning → Moved StartTagState Meaning → Type 0
Follows s m k = (start_tag_forgotten m ≡ start_tag_forgotten k) × LineGrown s m k

part_follows : (s : StartTagState) (e : ElementParts) (spaced : Bool) (c : ℕ) → start_tag_line s ≡ parts_line e → start_tag_line (start_tag_kept s) ≡ []
    → Follows s (part_ended e spaced c) (part_ended no_parts spaced c)
unfolding part_ended start_tag_line attrs_line encoded start_tag_kept
part_follows s e spaced c l k =
    by_bool (white_space c)
    (λ t. rw (t, l, k) (refl, same_line (parts_line e)))
    (λ w. by_bool (eqb c 47)
    (λ t. rw (w, t, l, k) (refl, same_line (parts_line e)))
    (λ p. by_bool (eqb c 62)
    (λ t. rw (w, p, t) (refl, tt))
    (λ g. by_bool (both spaced (name_start_char c))
    (λ t. rw (w, p, g, t, l, k) (refl, refl))
    (λ t. rw (w, p, g, t) (refl, tt)))))

module _ (e : ElementParts) (a : List ℕ) where
  name_ended_follows : (c : ℕ) → Follows (in_attribute_name e a) (attribute_name_ended e a c) (attribute_name_ended no_parts [] c)
  unfolding attribute_name_ended start_tag_line attrs_line encoded start_tag_kept
  name_ended_follows c =
      by_bool (white_space c)
      (λ t. rw t (refl, part_more (parts_line e) (encoded a) (61 ∷ [])))
      (λ w. by_bool (eqb c 61)
      (λ t. rw (w, t) (refl, part_more (parts_line e) (encoded a) (61 ∷ [])))
      (λ t. rw (w, t) (refl, tt)))

  behind_name_follows : (c : ℕ) → Follows (behind_attribute_name e a) (attribute_name_ended e a c) (attribute_name_ended no_parts [] c)
  unfolding attribute_name_ended start_tag_line attrs_line encoded start_tag_kept
  behind_name_follows c =
      by_bool (white_space c)
      (λ t. rw t (refl, same_line (parts_line e ++ (9 ∷ (encoded a ++ (61 ∷ []))))))
      (λ w. by_bool (eqb c 61)
      (λ t. rw (w, t) (refl, same_line (parts_line e ++ (9 ∷ (encoded a ++ (61 ∷ []))))))
      (λ t. rw (w, t) (refl, tt)))

  equals_follows : (c : ℕ) → Follows (behind_equals_sign e a) (start_tag_step (behind_equals_sign e a) c) (start_tag_step (behind_equals_sign no_parts []) c)
  unfolding start_tag_step start_tag_line attrs_line encoded escape start_tag_kept
  equals_follows c =
      by_bool (white_space c)
      (λ t. rw t (refl, same_line (parts_line e ++ (9 ∷ (encoded a ++ (61 ∷ []))))))
      (λ w. by_bool (eqb c 34)
      (λ t. rw (w, t) (refl, same_line (parts_line e ++ (9 ∷ (encoded a ++ (61 ∷ []))))))
      (λ p. by_bool (eqb c 39)
      (λ t. rw (w, p, t) (refl, same_line (parts_line e ++ (9 ∷ (encoded a ++ (61 ∷ []))))))
      (λ t. rw (w, p, t) (refl, tt))))

  module _ (q : QuoteMark) where
    -- a step within the value
    abbrev taken : Moved ValueState (List ℕ) → Moved StartTagState Meaning
    taken m = inner_step (in_attribute_value e a q) (λ w. behind_part (with_attr e a w) false) m

    abbrev taken_held : Moved ValueState (List ℕ) → Moved StartTagState Meaning
    taken_held m = inner_step (in_attribute_value no_parts [] q) (λ w. behind_part (with_attr no_parts [] w) false) m

    abbrev value_line : List ℕ → Bytes
    value_line v = parts_line e ++ (9 ∷ (encoded a ++ (61 ∷ escape (encoded v))))

    line_more : (v : List ℕ) (c : ℕ) → value_line (v ++ (c ∷ [])) ≡ value_line v ++ escape (utf8 c ++ [])
    line_more v c =
        let y = escape (utf8 c ++ []) in
        ap (λ s. parts_line e ++ (9 ∷ (encoded a ++ (61 ∷ s)))) (value_more v c)
        ∙ (ap (λ s. parts_line e ++ (9 ∷ s)) (sym (append_assoc (encoded a) (61 ∷ escape (encoded v)) y)) ∙ part_more (parts_line e) (encoded a ++ (61 ∷ escape (encoded v))) y)

    value_ended : (v : List ℕ) → parts_line (with_attr e a v) ≡ value_line v ++ []
    value_ended v =
        ap (λ s. encoded e.name ++ s) (attr_more e.attrs (record { name = encoded a; value = encoded v }))
        ∙ (sym (append_assoc (encoded e.name) (attrs_line e.attrs) (9 ∷ (encoded a ++ (61 ∷ escape (encoded v))))) ∙ same_line (value_line v))

    raw_follows : (cr : Bool) (v : List ℕ) (c : ℕ) → Follows (in_attribute_value e a q (in_value cr v)) (taken (raw_step cr v c)) (taken_held (raw_step cr [] c))
    unfolding start_tag_line attrs_line encoded escape start_tag_kept
    raw_follows cr v c =
        by_bool (both cr (eqb c 10))
        (λ t. rw t (refl, same_line (value_line v)))
        (λ t. rw t (refl, line_more v (cond (white_space c) 32 c)))

    in_value_follows : (cr : Bool) (v : List ℕ) (c : ℕ)
        → Follows (in_attribute_value e a q (in_value cr v)) (taken (value_step q (in_value cr v) c)) (taken_held (value_step q (in_value cr []) c))
    unfolding value_step start_tag_line attrs_line encoded escape start_tag_kept
    in_value_follows cr v c =
        by_bool (eqb c (mark_char q))
        (λ t. rw t (refl, value_ended v))
        (λ m. by_bool (eqb c 38)
        (λ t. rw (m, t) (refl, same_line (value_line v)))
        (λ p. by_bool (eqb c 60)
        (λ t. rw (m, p, t) (refl, tt))
        (λ l. by_bool (xml_char c)
        (λ t. rw (m, p, l, t) (raw_follows cr v c))
        (λ t. rw (m, p, l, t) (refl, tt)))))

    abbrev referred_in : List ℕ → Moved ReferenceState ℕ → Moved ValueState (List ℕ)
    referred_in v m = inner_step (in_reference v) (λ d. in_value false (v ++ (d ∷ []))) m

    reference_follows : (v : List ℕ) (r : ReferenceState) (m : Moved ReferenceState ℕ)
        → Follows (in_attribute_value e a q (in_reference v r)) (taken (referred_in v m)) (taken_held (referred_in [] m))
    unfolding start_tag_line attrs_line encoded escape start_tag_kept
    reference_follows v r (continues p) = (refl, same_line (value_line v))
    reference_follows v r (completes d) = (refl, line_more v d)
    reference_follows v r malformed = (refl, tt)

    value_follows : (v : ValueState) (c : ℕ) → Follows (in_attribute_value e a q v) (taken (value_step q v c)) (taken_held (value_step q (value_kept v) c))
    unfolding value_step
    value_follows (in_value cr v) c = in_value_follows cr v c
    value_follows (in_reference v r) c = reference_follows v r (reference_step r c)

follows : (s : StartTagState) (c : ℕ) → Follows s (start_tag_step s c) (start_tag_step (start_tag_kept s) c)
unfolding start_tag_step start_tag_line attrs_line encoded start_tag_kept
follows (in_name n) c =
    by_bool (name_char c)
    (λ t. rw t (refl, name_more n c))
    (λ t. rw t (part_follows (in_name n) (record { name = n; attrs = [] }) false c (same_line (encoded n)) refl))
follows (behind_part e spaced) c = part_follows (behind_part e spaced) e spaced c refl refl
follows (in_attribute_name e a) c =
    by_bool (name_char c)
    (λ t. rw t (refl, ap (λ s. parts_line e ++ (9 ∷ s)) (name_more a c) ∙ part_more (parts_line e) (encoded a) (utf8 c ++ [])))
    (λ t. rw t (name_ended_follows e a c))
follows (behind_attribute_name e a) c = behind_name_follows e a c
follows (behind_equals_sign e a) c = equals_follows e a c
follows (in_attribute_value e a q v) c = value_follows e a q v c
follows (behind_slash e) c = by_bool (eqb c 62) (λ t. rw t (refl, tt)) (λ t. rw t (refl, tt))

-- what is held decides what is held next
pub start_tag_kept_step : (s : StartTagState) (c : ℕ) → start_tag_forgotten (start_tag_step s c) ≡ start_tag_forgotten (start_tag_step (start_tag_kept s) c)
start_tag_kept_step s c = (follows s c).0

-- and what is added to the line
pub start_tag_line_grows : (s t : StartTagState) (c : ℕ) → start_tag_step s c ≡ continues t
    → start_tag_line t ≡ start_tag_line s ++ start_tag_grown (start_tag_kept s) (start_tag_step (start_tag_kept s) c)
start_tag_line_grows s t c e = subst (λ m. LineGrown s m (start_tag_step (start_tag_kept s) c)) e (follows s c).1

-- ---- the end of a start tag

-- the event of a tag that ends, with its line
pub record StartEnded (s : StartTagState) (m : Meaning) : Type 0 where
  pub empty : Bool
  pub name : Bytes
  pub attrs : List Attr
  pub meant : m ≡ means_event (starts empty name attrs) name
  pub text : line_of (starts empty name attrs) ≡ start_word empty ++ (9 ∷ (start_tag_line s ++ (10 ∷ [])))

tabbed_attrs : (f : Bytes) (attrs : List Attr) → tabbed (f ∷ attr_fields attrs) ≡ f ++ attrs_line attrs
unfolding tabbed attr_fields attrs_line
tabbed_attrs f [] = same_line f
tabbed_attrs f (a ∷ attrs) = ap (λ s. f ++ (9 ∷ s)) (tabbed_attrs (attr_field a) attrs)

pub start_line : (empty : Bool) (n : Bytes) (attrs : List Attr) → line_of (starts empty n attrs) ≡ start_word empty ++ (9 ∷ ((n ++ attrs_line attrs) ++ (10 ∷ [])))
unfolding line_of line tabbed
start_line empty n attrs = ap (λ s. (start_word empty ++ (9 ∷ s)) ++ (10 ∷ [])) (tabbed_attrs n attrs) ∙ append_assoc (start_word empty) (9 ∷ (n ++ attrs_line attrs)) (10 ∷ [])

meant_so : (s : StartTagState) (empty : Bool) (e : ElementParts) → start_tag_line s ≡ parts_line e → StartEnded s (start_meant empty e)
meant_so s empty e l = record {
  empty = empty;
  name = encoded e.name;
  attrs = e.attrs;
  meant = refl;
  text = rw l (start_line empty (encoded e.name) e.attrs);
}

abbrev EndsSo : StartTagState → Moved StartTagState Meaning → Type 0
EndsSo s (continues t) = Unit {0}
EndsSo s (completes m) = StartEnded s m
EndsSo s malformed = Unit {0}

part_ends : (s : StartTagState) (e : ElementParts) (spaced : Bool) (c : ℕ) → start_tag_line s ≡ parts_line e → EndsSo s (part_ended e spaced c)
unfolding part_ended
part_ends s e spaced c l =
    by_bool (white_space c)
    (λ t. rw t tt)
    (λ w. by_bool (eqb c 47)
    (λ t. rw (w, t) tt)
    (λ p. by_bool (eqb c 62)
    (λ t. rw (w, p, t) (meant_so s false e l))
    (λ g. by_bool (both spaced (name_start_char c)) (λ t. rw (w, p, g, t) tt) (λ t. rw (w, p, g, t) tt))))

name_goes_on : (s : StartTagState) (e : ElementParts) (a : List ℕ) (c : ℕ) → EndsSo s (attribute_name_ended e a c)
unfolding attribute_name_ended
name_goes_on s e a c = by_bool (white_space c) (λ t. rw t tt) (λ w. by_bool (eqb c 61) (λ t. rw (w, t) tt) (λ t. rw (w, t) tt))

value_goes_on : (s : StartTagState) (e : ElementParts) (a : List ℕ) (q : QuoteMark) (m : Moved ValueState (List ℕ))
    → EndsSo s (inner_step (in_attribute_value e a q) (λ w. behind_part (with_attr e a w) false) m)
value_goes_on s e a q (continues v) = tt
value_goes_on s e a q (completes w) = tt
value_goes_on s e a q malformed = tt

ends_so : (s : StartTagState) (c : ℕ) → EndsSo s (start_tag_step s c)
unfolding start_tag_step start_tag_line attrs_line
ends_so (in_name n) c =
    by_bool (name_char c) (λ t. rw t tt) (λ t. rw t (part_ends (in_name n) (record { name = n; attrs = [] }) false c (same_line (encoded n))))
ends_so (behind_part e spaced) c = part_ends (behind_part e spaced) e spaced c refl
ends_so (in_attribute_name e a) c = by_bool (name_char c) (λ t. rw t tt) (λ t. rw t (name_goes_on (in_attribute_name e a) e a c))
ends_so (behind_attribute_name e a) c = name_goes_on (behind_attribute_name e a) e a c
ends_so (behind_equals_sign e a) c =
    by_bool (white_space c)
    (λ t. rw t tt)
    (λ w. by_bool (eqb c 34) (λ t. rw (w, t) tt) (λ p. by_bool (eqb c 39) (λ t. rw (w, p, t) tt) (λ t. rw (w, p, t) tt)))
ends_so (in_attribute_value e a q v) c = value_goes_on (in_attribute_value e a q v) e a q (value_step q v c)
ends_so (behind_slash e) c = by_bool (eqb c 62) (λ t. rw t (meant_so (behind_slash e) true e refl)) (λ t. rw t tt)

pub start_tag_ends : (s : StartTagState) (c : ℕ) (m : Meaning) → start_tag_step s c ≡ completes m → StartEnded s m
start_tag_ends s c m e = subst (EndsSo s) e (ends_so s c)

-- ---- an end tag

abbrev EndLineGrown : EndTagState → Moved EndTagState Meaning → Moved EndTagState Meaning → Type 0
EndLineGrown s (continues t) k = end_tag_line t ≡ end_tag_line s ++ end_tag_grown (end_tag_kept s) k
EndLineGrown s (completes m) k = (m ≡ means_event closes (end_tag_line s))
EndLineGrown s malformed k = Unit {0}

abbrev EndFollows : EndTagState → Moved EndTagState Meaning → Moved EndTagState Meaning → Type 0
EndFollows s m k = (end_tag_forgotten m ≡ end_tag_forgotten k) × EndLineGrown s m k

end_name_follows : (s : EndTagState) (n : List ℕ) (c : ℕ) → end_tag_line s ≡ encoded n → end_tag_line (end_tag_kept s) ≡ []
    → EndFollows s (end_name_ended n c) (end_name_ended [] c)
unfolding end_name_ended end_tag_line encoded end_tag_kept
end_name_follows s n c l k =
    by_bool (white_space c)
    (λ t. rw (t, l, k) (refl, same_line (encoded n)))
    (λ w. by_bool (eqb c 62) (λ t. rw (w, t, l) (refl, refl)) (λ t. rw (w, t) (refl, tt)))

end_follows : (s : EndTagState) (c : ℕ) → EndFollows s (end_tag_step s c) (end_tag_step (end_tag_kept s) c)
unfolding end_tag_step end_tag_line encoded end_tag_kept
end_follows behind_end_slash c = by_bool (name_start_char c) (λ t. rw t (refl, refl)) (λ t. rw t (refl, tt))
end_follows (in_end_name n) c =
    by_bool (name_char c)
    (λ t. rw t (refl, name_more n c))
    (λ t. rw t (end_name_follows (in_end_name n) n c refl refl))
end_follows (behind_end_name n) c = end_name_follows (behind_end_name n) n c refl refl

pub end_tag_kept_step : (s : EndTagState) (c : ℕ) → end_tag_forgotten (end_tag_step s c) ≡ end_tag_forgotten (end_tag_step (end_tag_kept s) c)
end_tag_kept_step s c = (end_follows s c).0

pub end_tag_line_grows : (s t : EndTagState) (c : ℕ) → end_tag_step s c ≡ continues t
    → end_tag_line t ≡ end_tag_line s ++ end_tag_grown (end_tag_kept s) (end_tag_step (end_tag_kept s) c)
end_tag_line_grows s t c e = subst (λ m. EndLineGrown s m (end_tag_step (end_tag_kept s) c)) e (end_follows s c).1

-- an end tag that ends is a close, and its name stands in the line
pub end_tag_ends : (s : EndTagState) (c : ℕ) (m : Meaning) → end_tag_step s c ≡ completes m → m ≡ means_event closes (end_tag_line s)
end_tag_ends s c m e = subst (λ x. EndLineGrown s x (end_tag_step (end_tag_kept s) c)) e (end_follows s c).1
