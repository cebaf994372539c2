-- Metadata that is read is legal, its numbers fit their widths, and each flag is set by exactly the attributes that document 01 names.
use Rattle.std.specs.Prelude.{None, Option, Some}
use Prim.Native.Nat.{ℕ, ◌≤◌}
use mathlib.Core.Path.{◌≡◌, refl, sym, ◌∙◌, ap, subst}
use mathlib.Core.Bool.{Bool, true, false, cond, not}
use mathlib.Core.Logic.{◌↔◌, ◌⊎◌, inl, inr, ⊎_elim}
use mathlib.Core.List.{List, [], ◌∷◌, Memᴰ}
use native.Mathlib.Omega.{arith}
use Prim.Native.String.{String}
use lib.Dec.{leb, eqb}
use lib.IntN.{ℤ, pos}
use lib.ListN.{replicate}
use mir.Syntax.{w32, w64}
use mir.Val.{SFits}
use borrow.Author.Tests.{leb-true}
use Rattle.base.specs.Ascii.{ascii}
use Rattle.base.specs.Bytes.{Bytes, both, either, all, same}
use Rattle.base.proofs.Split.{by_bool, clash, no, both_left, both_right, either_right, either_false}
use Rattle.base.proofs.Lists.{same_yes, same_swap, all_head, all_tail}
use Rattle.base.proofs.Table.{rule}
use Rattle.refusal.specs.declared.Refusal.{Refusal}
use Rattle.refusal.specs.declared.Refusal.TheVariants.{NotInteger, NotTimestamp}
use Rattle.integer.specs.Integer.{integer_of}
use Rattle.integer.proofs.Integers.{integer_of_is}
use Rattle.stamp.specs.Stamp.{stamp}
use Rattle.stamp.proofs.Bounds.{stamp_fits}
use Rattle.model.specs.Record.{Meta, flagged, claim_of}
use Rattle.event.specs.Event.{Attr, named}
use Rattle.event_fields.specs.Field.{Field, got, bad, and_then, or_else, no_meta, mark, with_version, with_timestamp, with_changeset, with_uid, with_user, with_visible, meta_with, meta_from, metadata_of}
use Rattle.event_fields.proofs.Fields.{then_got, then_bad, by_field}

-- ---- flags

-- "Flags: 1 present, 2 hidden, 4 has user, 8 has version"
pub data Flag : Type 0 where
  present hidden has_user has_version : Flag

abbrev pub bit_of : Flag → ℕ
bit_of present = 1
bit_of hidden = 2
bit_of has_user = 4
bit_of has_version = 8

-- two flags are the same one
abbrev pub is_flag : Flag → Flag → Bool
is_flag b c = eqb (bit_of b) (bit_of c)

agree : Bool → Bool → Bool
agree true b = b
agree false b = not b

agree_yes : (a b : Bool) → agree a b ≡ true → a ≡ b
unfolding agree
agree_yes true true e = refl
agree_yes true false e = clash e refl
agree_yes false true e = clash e refl
agree_yes false false e = refl

abbrev flags : List Flag
flags = present ∷ hidden ∷ has_user ∷ has_version ∷ []

among_flags : (b : Flag) → Memᴰ b flags
among_flags present = Memᴰ.head refl
among_flags hidden = Memᴰ.tail (Memᴰ.head refl)
among_flags has_user = Memᴰ.tail (Memᴰ.tail (Memᴰ.head refl))
among_flags has_version = Memᴰ.tail (Memᴰ.tail (Memᴰ.tail (Memᴰ.head refl)))

pub all_at : {A : Type 0} (p : A → Bool) (xs : List A) {x : A} → all p xs ≡ true → Memᴰ x xs → p x ≡ true
all_at {A = A} p [] h x4 = elim x4 [ ]
all_at p (y ∷ xs) h (Memᴰ.head e) = rw e (all_head p y xs h)
all_at p (y ∷ xs) h (Memᴰ.tail m) = all_at p xs (all_tail p y xs h) m

-- setting flag c leaves flags at most 15, and sets c alone
marks_one : ℕ → Flag → Bool
marks_one f c = both (leb (mark (bit_of c) f) 15) (all (λ b. agree (flagged (bit_of b) (mark (bit_of c) f)) (either (is_flag b c) (flagged (bit_of b) f))) flags)

marks : ℕ → ℕ → Bool
marks f x = all (marks_one f) flags

marks_one_lem : (c : Flag) (f : ℕ) → f ≤ 15 → marks_one f c ≡ true
unfolding marks marks_one mark flagged agree all both either
marks_one_lem c f h = all_at (marks_one f) flags (rule marks (replicate 16 0) refl f (omega arith)) (among_flags c)

module _ (c : Flag) (f : ℕ) (h : f ≤ 15) where
  pub mark_small : mark (bit_of c) f ≤ 15
  unfolding marks_one
  mark_small = leb-true (mark (bit_of c) f) 15 (both_left _ _ (marks_one_lem c f h))

  pub mark_sets : (b : Flag) → flagged (bit_of b) (mark (bit_of c) f) ≡ either (is_flag b c) (flagged (bit_of b) f)
  unfolding marks_one
  mark_sets b = agree_yes _ _ (all_at _ flags (both_right _ _ (marks_one_lem c f h)) (among_flags b))

-- "Any of the six attributes sets flag 1; only `visible=false` exactly sets 2."
abbrev pub sets : Flag → Attr → Bool
sets present a =
    either (same a.name (ascii "version")) (either (same a.name (ascii "timestamp")) (either (same a.name (ascii "changeset"))
    (either (same a.name (ascii "uid")) (either (same a.name (ascii "user")) (same a.name (ascii "visible"))))))
sets hidden a = both (same a.name (ascii "visible")) (same a.value (ascii "false"))
sets has_user a = same a.name (ascii "user")
sets has_version a = same a.name (ascii "version")

sets_none : (a : Attr) → same a.name (ascii "version") ≡ false → same a.name (ascii "timestamp") ≡ false → same a.name (ascii "changeset") ≡ false
    → same a.name (ascii "uid") ≡ false → same a.name (ascii "user") ≡ false → same a.name (ascii "visible") ≡ false → (b : Flag) → sets b a ≡ false
unfolding either both
sets_none a e1 e2 e3 e4 e5 e6 present = rw (e1, e2, e3, e4, e5, e6)
sets_none a e1 e2 e3 e4 e5 e6 hidden = rw e6
sets_none a e1 e2 e3 e4 e5 e6 has_user = e5
sets_none a e1 e2 e3 e4 e5 e6 has_version = e1

-- ---- one attribute

abbrev pub attr : String → Bytes → Attr
attr s v = record { name = ascii s; value = v }

-- an attribute that is taken: the metadata before it and after it
pub data Took (m : Meta Bytes) : Attr → Meta Bytes → Type 0 where
  version : {v : Bytes} {z : ℤ} → integer_of w32 v ≡ Some z → Took m (attr "version" v) (with_version m z)
  timestamp : {v : Bytes} {z : ℤ} → stamp v ≡ Some z → Took m (attr "timestamp" v) (with_timestamp m z)
  changeset : {v : Bytes} {z : ℤ} → integer_of w64 v ≡ Some z → Took m (attr "changeset" v) (with_changeset m z)
  uid : {v : Bytes} {z : ℤ} → integer_of w32 v ≡ Some z → Took m (attr "uid" v) (with_uid m z)
  user : {v : Bytes} → Took m (attr "user" v) (with_user m v)
  visible : {v : Bytes} → Took m (attr "visible" v) (with_visible m v)
  other : {a : Attr} → ((b : Flag) → sets b a ≡ false) → Took m a m

-- an attribute that is refused: "8 not an integer of its width; 9 timestamp"
pub data Fault : Attr → Refusal → Type 0 where
  version : {v : Bytes} → integer_of w32 v ≡ None → Fault (attr "version" v) NotInteger
  timestamp : {v : Bytes} → stamp v ≡ None → Fault (attr "timestamp" v) NotTimestamp
  changeset : {v : Bytes} → integer_of w64 v ≡ None → Fault (attr "changeset" v) NotInteger
  uid : {v : Bytes} → integer_of w32 v ≡ None → Fault (attr "uid" v) NotInteger

data Met (m : Meta Bytes) (a : Attr) : Field (Meta Bytes) → Type 0 where
  took : {n : Meta Bytes} → Took m a n → Met m a (got n)
  failed : {r : Refusal} → Fault a r → Met m a (bad r)

module _ (m : Meta Bytes) where
  -- an attribute by its name
  by_name : (s : String) (a : Attr) {f : Field (Meta Bytes)} → same a.name (ascii s) ≡ true → Met m (attr s a.value) f → Met m a f
  by_name s a {f} e t = subst (λ (n : Bytes). Met m (record { name = n; value = a.value }) f) (sym (same_yes a.name (ascii s) e)) t

  -- a value that is read, or refused
  by_value : (r : Refusal) {a : Attr} (o : Option ℤ) (f : ℤ → Meta Bytes) → ((z : ℤ) → o ≡ Some z → Took m a (f z)) → (o ≡ None → Fault a r) → Met m a (and_then (or_else r o) (λ z. got (f z)))
  by_value r None f t b = failed (b refl)
  by_value r (Some z) f t b = took (t z refl)

  meet : (a : Attr) → Met m a (meta_with m a)
  unfolding meta_with
  meet a =
      by_bool (same a.name (ascii "version"))
      (λ e. rw e (by_name "version" a e (by_value NotInteger (integer_of w32 a.value) (with_version m) (λ z. Took.version) Fault.version)))
      (λ e1. rw e1 (by_bool (same a.name (ascii "timestamp"))
      (λ e. rw e (by_name "timestamp" a e (by_value NotTimestamp (stamp a.value) (with_timestamp m) (λ z. Took.timestamp) Fault.timestamp)))
      (λ e2. rw e2 (by_bool (same a.name (ascii "changeset"))
      (λ e. rw e (by_name "changeset" a e (by_value NotInteger (integer_of w64 a.value) (with_changeset m) (λ z. Took.changeset) Fault.changeset)))
      (λ e3. rw e3 (by_bool (same a.name (ascii "uid"))
      (λ e. rw e (by_name "uid" a e (by_value NotInteger (integer_of w32 a.value) (with_uid m) (λ z. Took.uid) Fault.uid)))
      (λ e4. rw e4 (by_bool (same a.name (ascii "user"))
      (λ e. rw e (by_name "user" a e (took user)))
      (λ e5. rw e5 (by_bool (same a.name (ascii "visible"))
      (λ e. rw e (by_name "visible" a e (took visible)))
      (λ e6. rw e6 (took (other (sets_none a e1 e2 e3 e4 e5 e6))))))))))))))

  taken : {a : Attr} {n : Meta Bytes} → Met m a (got n) → Took m a n
  taken (took t) = t

  faulty : {a : Attr} {r : Refusal} → Met m a (bad r) → Fault a r
  faulty (failed b) = b

  pub with_got : (a : Attr) {n : Meta Bytes} → meta_with m a ≡ got n → Took m a n
  with_got a e = taken (rw e at (meet a))

  fails : {a : Attr} {r : Refusal} → Fault a r → meta_with m a ≡ bad r
  unfolding meta_with same both
  fails (version e) = rw e
  fails (timestamp e) = rw e
  fails (changeset e) = rw e
  fails (uid e) = rw e

  pub with_bad : (a : Attr) (r : Refusal) → (meta_with m a ≡ bad r) ↔ Fault a r
  with_bad a r = (λ e. faulty (rw e at (meet a)), λ b. fails b)

-- ---- the flags after one attribute

-- what sets the flag 1 alone, and what sets it and another
module _ (f : ℕ) (h : f ≤ 15) (s : Flag → Bool) where
  one_set : s present ≡ true → s hidden ≡ false → s has_user ≡ false → s has_version ≡ false
      → (b : Flag) → flagged (bit_of b) (mark 1 f) ≡ either (s b) (flagged (bit_of b) f)
  unfolding either
  one_set p q u v present = rw p (mark_sets present f h present)
  one_set p q u v hidden = rw q (mark_sets present f h hidden)
  one_set p q u v has_user = rw u (mark_sets present f h has_user)
  one_set p q u v has_version = rw v (mark_sets present f h has_version)

  two_set : (c : Flag) → s present ≡ true → s hidden ≡ is_flag hidden c → s has_user ≡ is_flag has_user c → s has_version ≡ is_flag has_version c
      → (b : Flag) → flagged (bit_of b) (mark (bit_of c) (mark 1 f)) ≡ either (s b) (flagged (bit_of b) f)
  unfolding either
  two_set c p q u v b = mark_sets c (mark 1 f) (mark_small present f h) b ∙ ap (either (is_flag b c)) (mark_sets present f h b) ∙ joined b
    where
      joined : (b : Flag) → either (is_flag b c) (either (is_flag b present) (flagged (bit_of b) f)) ≡ either (s b) (flagged (bit_of b) f)
      joined present = rw p (either_right (is_flag present c) refl)
      joined hidden = rw q
      joined has_user = rw u
      joined has_version = rw v

two_small : (c : Flag) (f : ℕ) → f ≤ 15 → mark (bit_of c) (mark 1 f) ≤ 15
two_small c f h = mark_small c (mark 1 f) (mark_small present f h)

small_step : {m n : Meta Bytes} {a : Attr} → Took m a n → m.flags ≤ 15 → n.flags ≤ 15
small_step {m} (version e) h = two_small has_version m.flags h
small_step {m} (timestamp e) h = mark_small present m.flags h
small_step {m} (changeset e) h = mark_small present m.flags h
small_step {m} (uid e) h = mark_small present m.flags h
small_step {m} user h = two_small has_user m.flags h
small_step {m} (visible {v = v}) h = by_bool (same v (ascii "false")) (λ t. rw t (two_small hidden m.flags h)) (λ t. rw t (mark_small present m.flags h))
small_step (other s) h = h

flag_step : {m n : Meta Bytes} {a : Attr} → Took m a n → m.flags ≤ 15 → (b : Flag) → flagged (bit_of b) n.flags ≡ either (sets b a) (flagged (bit_of b) m.flags)
unfolding either both same
flag_step {m} (version {v = v} e) h b = two_set m.flags h (λ c. sets c (attr "version" v)) has_version refl refl refl refl b
flag_step {m} (timestamp {v = v} e) h b = one_set m.flags h (λ c. sets c (attr "timestamp" v)) refl refl refl refl b
flag_step {m} (changeset {v = v} e) h b = one_set m.flags h (λ c. sets c (attr "changeset" v)) refl refl refl refl b
flag_step {m} (uid {v = v} e) h b = one_set m.flags h (λ c. sets c (attr "uid" v)) refl refl refl refl b
flag_step {m} (user {v = v}) h b = two_set m.flags h (λ c. sets c (attr "user" v)) has_user refl refl refl refl b
flag_step {m} (visible {v = v}) h b =
    by_bool (same v (ascii "false"))
    (λ t. rw t (two_set m.flags h (λ c. sets c (attr "visible" v)) hidden refl t refl refl b))
    (λ t. rw t (one_set m.flags h (λ c. sets c (attr "visible" v)) refl t refl refl b))
flag_step (other s) h b = rw (s b)

-- ---- the attributes of a line

-- the first attribute at fault gives the refusal: "metadata in line order"
pub data FirstFault : List Attr → Refusal → Type 0 where
  here : {a : Attr} {attrs : List Attr} {r : Refusal} → Fault a r → FirstFault (a ∷ attrs) r
  later : {a : Attr} {attrs : List Attr} {r : Refusal} → ((x : Refusal) → Fault a x → ⊥) → FirstFault attrs r → FirstFault (a ∷ attrs) r

no_fault : {r : Refusal} → FirstFault [] r → ⊥
no_fault t = elim t [ ]

first_fault : {a : Attr} {attrs : List Attr} {r : Refusal} → FirstFault (a ∷ attrs) r → Fault a r ⊎ (((x : Refusal) → Fault a x → ⊥) × FirstFault attrs r)
first_fault (here b) = inl b
first_fault (later h t) = inr (h, t)

pub from_bad : (m : Meta Bytes) (attrs : List Attr) (r : Refusal) → (meta_from m attrs ≡ bad r) ↔ FirstFault attrs r
unfolding meta_from
from_bad m [] r = (λ e. no (cc), λ t. absurd (no_fault t))
from_bad m (a ∷ attrs) r = (
  λ e. ⊎_elim
      (λ b. here ((with_bad m a r).0 b))
      (λ t. later (λ x b. no (cc ((with_bad m a x).1 b, t.1.0))) ((from_bad t.0 attrs r).0 t.1.1))
      ((then_bad _ (meta_with m a) r).0 e),
  λ t. ⊎_elim
      (λ b. rw ((with_bad m a r).1 b))
      (λ s. by_field (meta_with m a) (λ n e. rw e ((from_bad n attrs r).1 s.1)) (λ x e. absurd (s.0 x ((with_bad m a x).0 e))))
      (first_fault t),
)

pub meta_bad : (attrs : List Attr) (r : Refusal) → (metadata_of attrs ≡ bad r) ↔ FirstFault attrs r
unfolding metadata_of
meta_bad attrs r = from_bad no_meta attrs r

-- what each attribute that is taken keeps, all of them keep
module _ (P : Meta Bytes → Type 0) (step : (m n : Meta Bytes) (a : Attr) → Took m a n → P m → P n) where
  pub from_keeps : (m : Meta Bytes) (attrs : List Attr) {n : Meta Bytes} → meta_from m attrs ≡ got n → P m → P n
  unfolding meta_from
  from_keeps m [] {n} e p = let q : m ≡ n = cc in rw q at p
  from_keeps m (a ∷ attrs) e p = let t = then_got _ (meta_with m a) e in from_keeps t.0 attrs t.1.1 (step m t.0 a (with_got m a t.1.0) p)

-- ---- legal metadata

-- a field whose flag is not set is 0: "A field not given is 0."
abbrev pub Unless : {A : Type 0} → ℕ → Meta Bytes → A → A → Type 0
Unless bit m x zero = flagged bit m.flags ≡ false → x ≡ zero

-- "flags u8, version i32, timestamp i64, changeset i64, uid i32": the flags 2, 4 and 8 need 1, the other fields their own flag, and each number fits
pub record Legal (m : Meta Bytes) : Type 0 where
  pub small : m.flags ≤ 15
  pub flags : Unless 1 m m.flags 0
  pub version : Unless 8 m m.version (pos 0)
  pub timestamp : Unless 1 m m.timestamp (pos 0)
  pub changeset : Unless 1 m m.changeset (pos 0)
  pub uid : Unless 1 m m.uid (pos 0)
  pub user : Unless 4 m m.user []
  pub version_fits : SFits w32 m.version
  pub timestamp_fits : SFits w64 m.timestamp
  pub changeset_fits : SFits w64 m.changeset
  pub uid_fits : SFits w32 m.uid

pub no_legal : Legal no_meta
no_legal = record {
  small = omega arith;
  flags = λ e. refl;
  version = λ e. refl;
  timestamp = λ e. refl;
  changeset = λ e. refl;
  uid = λ e. refl;
  user = λ e. refl;
  version_fits = record { sfits = omega arith };
  timestamp_fits = record { sfits = omega arith };
  changeset_fits = record { sfits = omega arith };
  uid_fits = record { sfits = omega arith };
}

-- metadata after an attribute that sets the first flag
legal_with : {m : Meta Bytes} → Legal m → (n : Meta Bytes) → n.flags ≤ 15 → flagged 1 n.flags ≡ true → Unless 8 n n.version (pos 0) → Unless 4 n n.user []
    → SFits w32 n.version → SFits w64 n.timestamp → SFits w64 n.changeset → SFits w32 n.uid → Legal n
legal_with l n s f v u fv ft fc fu = record {
  small = s;
  flags = λ e. clash f e;
  version = v;
  timestamp = λ e. clash f e;
  changeset = λ e. clash f e;
  uid = λ e. clash f e;
  user = u;
  version_fits = fv;
  timestamp_fits = ft;
  changeset_fits = fc;
  uid_fits = fu;
}

lost : (x y : Bool) → either x y ≡ false → y ≡ false
unfolding either
lost true y e = clash refl e
lost false y e = e

-- a flag that is not set after an attribute was not set before it
unset : {m n : Meta Bytes} {a : Attr} → Took m a n → Legal m → (b : Flag) → flagged (bit_of b) n.flags ≡ false → flagged (bit_of b) m.flags ≡ false
unset {a = a} t l b e = lost (sets b a) _ (sym (flag_step t l.small b) ∙ e)

legal_step : (m n : Meta Bytes) (a : Attr) → Took m a n → Legal m → Legal n
unfolding either both same
legal_step m n a (version {v = v} {z = z} e) l =
    let t : Took m a n = version e in
    legal_with l (with_version m z) (small_step t l.small) (flag_step t l.small present) (λ h. clash (flag_step t l.small has_version) h) (λ h. l.user (unset t l has_user h))
    (integer_of_is w32 v e).1 l.timestamp_fits l.changeset_fits l.uid_fits
legal_step m n a (timestamp {v = v} {z = z} e) l =
    let t : Took m a n = timestamp e in
    legal_with l (with_timestamp m z) (small_step t l.small) (flag_step t l.small present) (λ h. l.version (unset t l has_version h)) (λ h. l.user (unset t l has_user h))
    l.version_fits (stamp_fits v e) l.changeset_fits l.uid_fits
legal_step m n a (changeset {v = v} {z = z} e) l =
    let t : Took m a n = changeset e in
    legal_with l (with_changeset m z) (small_step t l.small) (flag_step t l.small present) (λ h. l.version (unset t l has_version h)) (λ h. l.user (unset t l has_user h))
    l.version_fits l.timestamp_fits (integer_of_is w64 v e).1 l.uid_fits
legal_step m n a (uid {v = v} {z = z} e) l =
    let t : Took m a n = uid e in
    legal_with l (with_uid m z) (small_step t l.small) (flag_step t l.small present) (λ h. l.version (unset t l has_version h)) (λ h. l.user (unset t l has_user h))
    l.version_fits l.timestamp_fits l.changeset_fits (integer_of_is w32 v e).1
legal_step m n a (user {v = v}) l =
    let t : Took m a n = user in
    legal_with l (with_user m v) (small_step t l.small) (flag_step t l.small present) (λ h. l.version (unset t l has_version h)) (λ h. clash (flag_step t l.small has_user) h)
    l.version_fits l.timestamp_fits l.changeset_fits l.uid_fits
legal_step m n a (visible {v = v}) l =
    let t : Took m a n = visible in
    legal_with l (with_visible m v) (small_step t l.small) (flag_step t l.small present) (λ h. l.version (unset t l has_version h)) (λ h. l.user (unset t l has_user h))
    l.version_fits l.timestamp_fits l.changeset_fits l.uid_fits
legal_step m n a (other h) l = l

pub meta_legal : (attrs : List Attr) {m : Meta Bytes} → metadata_of attrs ≡ got m → Legal m
unfolding metadata_of
meta_legal attrs e = from_keeps Legal legal_step no_meta attrs e no_legal

-- ---- which flags are set

-- some attribute passes a test
unfoldable pub any : (Attr → Bool) → List Attr → Bool
any p [] = false
any p (a ∷ attrs) = either (p a) (any p attrs)

either_swap : (x y z : Bool) → either x (either y z) ≡ either (either y x) z
unfolding either
either_swap true true z = refl
either_swap true false z = refl
either_swap false true z = refl
either_swap false false z = refl

from_flags : (m : Meta Bytes) (attrs : List Attr) {n : Meta Bytes} → m.flags ≤ 15 → meta_from m attrs ≡ got n
    → (b : Flag) → flagged (bit_of b) n.flags ≡ either (any (sets b) attrs) (flagged (bit_of b) m.flags)
unfolding meta_from any either
from_flags m [] {n} h e b = let q : m ≡ n = cc in rw q
from_flags m (a ∷ attrs) h e b =
    let t = then_got _ (meta_with m a) e in
    let k = with_got m a t.1.0 in
    from_flags t.0 attrs (small_step k h) t.1.1 b ∙ ap (either (any (sets b) attrs)) (flag_step k h b) ∙ either_swap (any (sets b) attrs) (sets b a) _

-- a flag is set exactly when an attribute sets it
pub meta_flags : (attrs : List Attr) {m : Meta Bytes} → metadata_of attrs ≡ got m → (b : Flag) → flagged (bit_of b) m.flags ≡ any (sets b) attrs
unfolding metadata_of flagged
meta_flags attrs e b = from_flags no_meta attrs (omega arith) e b ∙ ap (either (any (sets b) attrs)) (none_set b) ∙ either_false (any (sets b) attrs)
  where
    none_set : (b : Flag) → flagged (bit_of b) 0 ≡ false
    none_set present = refl
    none_set hidden = refl
    none_set has_user = refl
    none_set has_version = refl

pub any_named : (n : Bytes) (attrs : List Attr) → any (λ a. same a.name n) attrs ≡ named n attrs
unfolding any named either
any_named n [] = refl
any_named n (a ∷ attrs) = rw (same_swap a.name n) (by_bool (same n a.name) (λ t. rw t) (λ t. rw t (any_named n attrs)))

-- "It claims the version it gives": a version is claimed exactly when there is an attribute `version`
pub meta_claim : (attrs : List Attr) {m : Meta Bytes} → metadata_of attrs ≡ got m → claim_of m ≡ cond (named (ascii "version") attrs) (Some m.version) None
unfolding claim_of
meta_claim attrs {m} e = ap (λ (t : Bool). cond t (Some m.version) None) (meta_flags attrs e has_version ∙ any_named (ascii "version") attrs)

-- what holds of every attribute's value, and of the empty text, holds of the user
pub meta_user : (p : Bytes → Bool) (attrs : List Attr) {m : Meta Bytes} → p [] ≡ true → all (λ a. p a.value) attrs ≡ true → metadata_of attrs ≡ got m → p m.user ≡ true
unfolding metadata_of meta_from
meta_user p attrs h k e = go no_meta attrs h k e
  where
    step : {m n : Meta Bytes} {a : Attr} → Took m a n → p a.value ≡ true → p m.user ≡ true → p n.user ≡ true
    step (version e) v h = h
    step (timestamp e) v h = h
    step (changeset e) v h = h
    step (uid e) v h = h
    step user v h = v
    step visible v h = h
    step (other s) v h = h

    go : (m : Meta Bytes) (attrs : List Attr) {n : Meta Bytes} → p m.user ≡ true → all (λ a. p a.value) attrs ≡ true → meta_from m attrs ≡ got n → p n.user ≡ true
    go m [] {n} h k e = let q : m ≡ n = cc in rw q at h
    go m (a ∷ attrs) h k e =
        let t = then_got _ (meta_with m a) e in
        go t.0 attrs (step (with_got m a t.1.0) (all_head _ a attrs k) h) (all_tail _ a attrs k) t.1.1
