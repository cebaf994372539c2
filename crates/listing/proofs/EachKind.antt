-- The walk over the three kinds: the lines of each.
use Prim.Native.Nat.{ℕ, ◌+◌, ◌<◌, ◌≤◌}
use mathlib.Core.Path.{◌≡◌, subst}
use mathlib.Core.List.{List, [], ◌∷◌, ◌++◌, append_assoc, append-nil}
use native.Mathlib.Numerals.{add-one}
use lib.ListN.{length, get_or, drop, drop_of_length-le}
use lib.Seq.{drop-cons}
use Rattle.base.specs.Bytes.{Bytes}
use Rattle.kind.specs.declared.Kind.{Kind}
use Rattle.kind.specs.declared.Kind.TheVariants.{Node, Way, Relation}
use Rattle.interner.specs.Strings.{Store}
use Rattle.kind_store.specs.KindStore.{KindStore}
use Rattle.print.specs.Printer.{Prints}
use Rattle.print.specs.declared.Printer.{Printer}
use Rattle.listing_fields.specs.Fields.{text_held}
use Rattle.listing_rows.specs.Lines.{kind_pieces}
use Rattle.overlay.specs.Overlay.{Overlay, kind_store_of}
use Rattle.listing.specs.Pieces.{kind_lines, pieces_of}

-- the lines of some kinds
unfoldable pub lines_of : Overlay → List Kind → List Bytes
lines_of o [] = []
lines_of o (k ∷ ks) = kind_lines k o ++ lines_of o ks

abbrev pub kinds : List Kind
kinds = Node ∷ Way ∷ Relation ∷ []

module _ (o : Overlay) where
  pub all_lines : pieces_of o ≡ lines_of o kinds
  unfolding pieces_of lines_of
  all_lines = rw (append-nil (kind_lines Relation o)) (append_assoc (kind_lines Node o) (kind_lines Way o) (kind_lines Relation o))

  pub next_lines : (ks : List Kind) (i : ℕ) (d : Kind) → i < length ks → lines_of o (drop i ks) ≡ kind_lines (get_or ks i d) o ++ lines_of o (drop (i + 1) ks)
  unfolding lines_of
  next_lines ks i d h = rw (add-one, drop-cons ks i d h)

  pub last_lines : (ks : List Kind) (i : ℕ) → length ks ≤ i → lines_of o (drop i ks) ≡ []
  unfolding lines_of
  last_lines ks i h = rw (drop_of_length-le ks h)

-- a kind is printed from what is lent for it
pub kind_printed : {p q : Printer} (o : Overlay) (k : Kind) (t : Store) (s : KindStore) → t ≡ o.texts → s ≡ kind_store_of k o → Prints (kind_pieces (text_held t) k s) p q → Prints (kind_lines k o) p q
kind_printed {p} {q} o k t s e f h = subst (λ (u : KindStore). Prints (kind_pieces (text_held o.texts) k u) p q) f (subst (λ (u : Store). Prints (kind_pieces (text_held u) k s) p q) e h)
