-- What chains of handles say of a list of texts: of each bucket the last handle, of each handle the one before it in its bucket, each as the handle and one, 0 for none.
use Rattle.std.specs.Prelude.{ℕ, zero, suc, ◌+◌, ◌≤◌, ◌<◌, ◌≡◌, true, false, cond, ltb, List, [], length, get_or, set, Option, Some, None}
use Rattle.base.specs.Bytes.{Bytes}
use Rattle.interner.specs.Interned.{Interned, Held, New, Full}
use Rattle.interner.specs.Strings.{is_at, Store}
use Rattle.interner.specs.Sound.{texts_in, texts_of, sound_up_to, sound_strings}
use Rattle.text_index.specs.Index.{bucket_at, LastBelow}

pub record HandleChains : Type 0 where
  pub lasts : List ℕ
  pub befores : List ℕ
  pub handles : ℕ

-- no handles
abbrev pub none_chained : HandleChains
none_chained = record { lasts = []; befores = []; handles = 0 }

-- the handle of an entry
abbrev pub handle_coded : ℕ → Option ℕ
handle_coded zero = None
handle_coded (suc h) = Some h

pub record Chained (c : HandleChains) (texts : List Bytes) : Type 0 where
  pub few : c.handles ≤ length texts
  pub heads : (b : ℕ) → b < 4096 → LastBelow (bucket_at texts) b c.handles (get_or c.lasts b 0)
  pub befores : (h : ℕ) → h < c.handles → LastBelow (bucket_at texts) (bucket_at texts h) h (get_or c.befores h 0)

-- the first n strings are sound, with chains for them
pub record TextsChained (c : HandleChains) (spans : List ℕ) (bytes : Bytes) (n : ℕ) : Type 0 where
  pub sound : sound_up_to spans bytes n ≡ true
  pub chains : Chained c (texts_in spans bytes n)

-- sound strings with chains for them
pub record StoreChained (c : HandleChains) (s : Store) : Type 0 where
  pub sound : sound_strings s ≡ true
  pub chains : Chained c (texts_of s)

-- what a search by the chains asks of them: where they hold no handle, nothing
abbrev pub ChainsServe : HandleChains → Store → Type 0
ChainsServe c s = 0 < c.handles → StoreChained c s

-- the chains with handle h in bucket b
abbrev pub chain_linked : HandleChains → ℕ → ℕ → HandleChains
chain_linked c b h = record { lasts = set c.lasts b (h + 1); befores = set c.befores h (get_or c.lasts b 0); handles = h + 1 }

-- the handle of the text among the first n, or none where none of them has it
abbrev pub FoundBelow : List ℕ → Bytes → Bytes → ℕ → Option ℕ → Type 0
FoundBelow spans bytes t n (Some h) = (h < n) × (is_at spans bytes t h ≡ true)
FoundBelow spans bytes t n None = (h : ℕ) → h < n → is_at spans bytes t h ≡ false

-- what taking a text in answers, told by how many are held and by its handle: below the count it is held, else new
unfoldable pub told_apart : ℕ → Option ℕ → Interned
told_apart count None = Full
told_apart count (Some h) = cond (ltb h count) (Held h) (New h)
