-- Which date-times keep the form: those with capitals, no fraction, `Z` and no leap second.
use Rattle.std.specs.Prelude.{None, Option, Some}
use Prim.Native.Nat.{ℕ, ◌≤◌}
use Prim.Native.Char.{Char, code}
use mathlib.Core.Path.{◌≡◌, refl, sym, ap, ◌∙◌}
use mathlib.Core.List.{◌++◌}
use native.Mathlib.Omega.{arith}
use lib.ListN.{get_or, take, drop}
use Rattle.base.specs.Ascii.{ascii}
use Rattle.base.specs.Bytes.{Bytes}
use Rattle.base.proofs.Split.{no, by_eq}
use Rattle.integer.specs.Integer.{decimal}
use Rattle.rfc3339.specs.Rfc3339.{Case, upper, lower, Offset, utc, east, west, DateTime, letter, two, four, time_numoffset, time_offset, optional, partial_time, full_date, full_time, date_time, Ranges}
use Rattle.rfc3339.specs.Form.{KeepsForm}
use Rattle.rfc3339.proofs.Fields.{two_reads}
use Rattle.rfc3339.proofs.Texts.{marked, unmarked}

-- ---- the places of a date-time's text

-- what stands after the second
abbrev pub after_second : Option Bytes → Offset → Bytes
after_second o f = optional o ++ time_offset f

module _ (t : DateTime) where
  pub at10 : get_or (date_time t) 10 0 ≡ letter "T" t.separator
  unfolding date_time full_date full_time partial_time two four
  at10 = refl

  at17 : take 2 (drop 17 (date_time t)) ≡ two t.second
  unfolding date_time full_date full_time partial_time two four
  at17 = refl

  at19 : get_or (date_time t) 19 0 ≡ get_or (after_second t.secfrac t.offset) 0 0
  unfolding date_time full_date full_time partial_time two four
  at19 = refl

sixty : two 60 ≡ ascii "60"
unfolding two
sixty = refl

pub two_alone : (m n : ℕ) → two m ≡ two n → m ≡ n
two_alone m n e = sym (two_reads m) ∙ ap (decimal 0) e ∙ two_reads n

capital : (b : Char) (c : Case) → letter b c ≡ code b → c ≡ upper
unfolding letter
capital b upper e = refl
capital b lower e = no (omega arith)

-- after the second only "Z" begins so
only_z : (o : Option Bytes) (f : Offset) → get_or (after_second o f) 0 0 ≡ code "Z" → (o ≡ None) × (f ≡ utc upper)
unfolding optional time_offset time_numoffset
only_z None (utc c) e = (refl, ap utc (capital "Z" c e))
only_z None (east h m) e = no (omega arith)
only_z None (west h m) e = no (omega arith)
only_z (Some digits) f e = no (omega arith)

-- capitals, no fraction, `Z` and no leap second
pub record Unmarked (t : DateTime) : Type 0 where
  pub separator : t.separator ≡ upper
  pub second : t.second ≤ 59
  pub secfrac : t.secfrac ≡ None
  pub offset : t.offset ≡ utc upper

pub kept_unmarked : (t : DateTime) → Ranges t → KeepsForm (date_time t) → Unmarked t
kept_unmarked t r k =
    let z = only_z t.secfrac t.offset (sym (at19 t) ∙ k.capital_z) in
    record {
      separator = capital "T" t.separator (sym (at10 t) ∙ k.capital_t);
      second = by_eq t.second 60 (λ e. absurd (k.no_second60 (at17 t ∙ ap two e ∙ sixty))) (λ n. omega arith);
      secfrac = z.0;
      offset = z.1;
    }

pub is_unmarked : (t : DateTime) → Unmarked t → t ≡ unmarked t
is_unmarked t p =
    let e : marked t t.separator t.secfrac t.offset ≡ unmarked t = rw (p.separator, p.secfrac, p.offset) in e
