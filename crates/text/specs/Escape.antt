-- Document 01, event lines: "In values `\t`, `\n`, `\r`, `\\` stand for tab, line feed, carriage return, backslash".
use Rattle.std.specs.Prelude.{ℕ, Bool, true, false, cond, [], ◌∷◌, ◌++◌, eqb, None, Option, Some, option_map}
use Rattle.base.specs.Bytes.{Bytes, either}
use Rattle.base.specs.Chars.{horizontal_tab, line_feed, carriage_return, backslash, letter_small_n, letter_small_r, letter_small_t}

-- a byte as a value holds it
unfoldable pub escaped : ℕ → Bytes
escaped b =
    cond (eqb b horizontal_tab) (backslash ∷ letter_small_t ∷ [])
    (cond (eqb b line_feed) (backslash ∷ letter_small_n ∷ [])
    (cond (eqb b carriage_return) (backslash ∷ letter_small_r ∷ [])
    (cond (eqb b backslash) (backslash ∷ backslash ∷ [])
    (b ∷ []))))

unfoldable pub escape : Bytes → Bytes
escape [] = []
escape (b ∷ bs) = escaped b ++ escape bs

-- what the byte after a backslash stands for; "another escape .. is refused"
unfoldable pub meaning : ℕ → Option ℕ
meaning b =
    cond (eqb b letter_small_t) (Some horizontal_tab)
    (cond (eqb b letter_small_n) (Some line_feed)
    (cond (eqb b letter_small_r) (Some carriage_return)
    (cond (eqb b backslash) (Some backslash)
    None)))

-- a byte before what follows it, where both are there
unfoldable pub byte_before : Option ℕ → Option Bytes → Option Bytes
byte_before None t = None
byte_before (Some b) t = option_map (b ∷◌) t

-- the text of a value; the flag says that a backslash has just been read
unfoldable pub unescape_from : Bool → Bytes → Option Bytes
unescape_from false [] = Some []
unescape_from true [] = None
unescape_from false (b ∷ bs) = elim (eqb b backslash) [ true ↦ unescape_from true bs | false ↦ byte_before (Some b) (unescape_from false bs) ]
unescape_from true (b ∷ bs) = byte_before (meaning b) (unescape_from false bs)

abbrev pub unescape : Bytes → Option Bytes
unescape = unescape_from false

-- a tab, a line feed or a carriage return
unfoldable pub breaks : ℕ → Bool
breaks b = either (eqb b horizontal_tab) (either (eqb b line_feed) (eqb b carriage_return))
