-- Document 01, interner.rs: "Handle 0 is the empty text. `intern` returns the handle of an equal text already held, else the next one,
-- so n stands for the n-th new text taken in." Here the held texts are a list; how they are stored is Strings.
use Rattle.std.specs.Prelude.{ℕ, suc, Bool, true, false, cond, List, [], ◌∷◌, ◌++◌, length, get_or, None, Option, Some, option_map}
use Rattle.base.specs.Bytes.{Bytes, same}
use Rattle.interner.specs.Interned.{Interned, Held, New, Full}

-- the handle of an equal text, if one is held
unfoldable pub handle_of : Bytes → List Bytes → Option ℕ
handle_of t [] = None
handle_of t (s ∷ ss) = cond (same t s) (Some 0) (option_map suc (handle_of t ss))

-- the texts with one more, unless an equal one is held
abbrev pub with_new : List Bytes → Bytes → Option ℕ → List Bytes
with_new held t None = held ++ (t ∷ [])
with_new held t (Some h) = held

unfoldable pub take_in : List Bytes → Bytes → List Bytes
take_in held t = with_new held t (handle_of t held)

unfoldable pub take_all_of : List Bytes → List Bytes → List Bytes
take_all_of held [] = held
take_all_of held (t ∷ ts) = take_all_of (take_in held t) ts

-- the texts of an empty overlay
abbrev pub no_texts : List Bytes
no_texts = [] ∷ []

-- the text of a handle
abbrev pub text_of : List Bytes → ℕ → Bytes
text_of held n = get_or held n []

-- what `intern` answers: the handle of an equal text, else the next one, or that it is full where there is no room
unfoldable pub answer_as : Bool → List Bytes → Option ℕ → Interned
answer_as room held (Some h) = Held h
answer_as room held None = cond room (New (length held)) Full

-- accepted unless refused
abbrev pub intern_accepted : Interned → Bool
intern_accepted (Held h) = true
intern_accepted (New h) = true
intern_accepted Full = false

-- the handle that an answer gives
abbrev pub handle_answered : Interned → Option ℕ
handle_answered (Held h) = Some h
handle_answered (New h) = Some h
handle_answered Full = None
