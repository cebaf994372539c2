-- The element that is staged, as a legal record: what the test of a reader says, and what stays when texts are taken in; and an element without parts.
use Rattle.refusal.specs.declared.Refusal.{Refusal}
use Rattle.std.specs.Prelude.{Err, Ok, Result, Some, is_ok}
use Prim.Native.Nat.{ℕ, ◌<◌, ◌≤◌}
use mathlib.Core.Path.{◌≡◌, refl, sym, ◌∙◌, ap}
use mathlib.Core.Bool.{true}
use mathlib.Core.List.{List, []}
use native.Mathlib.Omega.{arith}
use lib.ListN.{length, take}
use mir.Syntax.{w64}
use mir.Val.{to_z}
use borrow.Author.Tests.{leb-true, le-leb}
use Rattle.base.specs.Bytes.{Bytes, all}
use Rattle.base.proofs.Split.{both_left, both_right, both_of, clash}
use Rattle.base.proofs.Lists.{all_nil}
use Rattle.little.specs.Little.{is_byte}
use Rattle.little.proofs.Littles.{bytes_take}
use Rattle.text.specs.Check.{is_text}
use Rattle.kind.specs.declared.Kind.{Kind}
use Rattle.model.specs.Record.{Tag, Body, Record, kind_of}
use Rattle.model.specs.Swap.{swap_record}
use Rattle.compact.specs.Held.{meta_of, head_in}
use Rattle.compact.specs.Layout.{head_of, body_bytes, parts_bytes, joined_bytes}
use Rattle.compact.specs.Fits.{fits_body, fits_tag}
use Rattle.compact.specs.Legal.{limits, handle, value_bytes, legal_meta, body_handles, legal_handles, legal_texts, in_range, body_within, within_limits, legal}
use Rattle.compact.specs.declared.ArenaMeta.{ArenaMeta}
use Rattle.compact.specs.declared.PushHead.{PushHead}
use Rattle.compact_legal.specs.Judge.{fault_answer, fault_for}
use Rattle.compact_legal.proofs.Laws.{legal_is, legal_more, push_legal}
use Rattle.interner.specs.Texts.{text_of}
use Rattle.overlay.specs.Given.{head_fits, meta_fits}
use Rattle.acts.specs.Turn.{Staged}
use Rattle.reader.specs.declared.Pending.{Pending}
use Rattle.reader.specs.State.{pending_record, pending_sound}
use Rattle.reader.specs.Means.{staged_of}
use Rattle.reader.proofs.Texts.{legal_agree}
use Rattle.reader.proofs.Element.{Stages, stages_of, stages_back}

pub record Held (strings : ℕ) (k : Kind) (parts : Bytes) (x : Pending) : Type 0 where
  pub held : Record ℕ
  pub stages : Stages k x.head x.meta (take x.used parts) held
  pub lawful : legal strings held ≡ true
  pub fits : x.used ≤ length parts
  pub head : head_fits x.head ≡ true
  pub meta : meta_fits x.meta ≡ true

pub fault_legal : (n : ℕ) (r : Record ℕ) → legal n r ≡ true → fault_for n (Some r) ≡ (Ok tt)
unfolding fault_for
fault_legal n r l = ap fault_answer ((legal_is n r).0 l)

legal_held : (f : Result Unit Refusal) → is_ok f ≡ true → f ≡ (Ok tt)
legal_held (Ok tt) e = refl
legal_held (Err r) e = clash e refl

-- the texts of a record under its id, in an act's terms
abbrev pub element_as : List Bytes → PushHead → Record ℕ → Staged
element_as texts h r = record { id = to_z w64 h.id; held = swap_record (text_of texts) r }

module _ (strings : ℕ) (k : Kind) (parts : Bytes) (x : Pending) where
  -- what the test accepts is a legal record, and a legal record passes it
  pub held_of : head_fits x.head ≡ true → meta_fits x.meta ≡ true → all is_byte parts ≡ true → pending_sound strings k parts x ≡ true → Held strings k parts x
  unfolding pending_sound pending_record
  held_of h m b e =
      let r = push_legal strings (pending_record k parts x) (legal_held _ (both_right _ _ e)) in
      record {
        held = r.0;
        stages = stages_of k x.head x.meta (take x.used parts) r.0 (bytes_take x.used parts b) r.1.0;
        lawful = r.1.1;
        fits = leb-true x.used (length parts) (both_left _ _ e);
        head = h;
        meta = m;
      }

  module _ (w : Held strings k parts x) where
    pub held_sound : pending_sound strings k parts x ≡ true
    unfolding pending_sound pending_record
    held_sound =
        both_of (le-leb x.used (length parts) w.fits)
        (ap is_ok (ap (fault_for strings) (stages_back k x.head x.meta (take x.used parts) w.held w.stages) ∙ fault_legal strings w.held w.lawful))

    pub held_few : within_limits limits w.held ≡ true
    unfolding legal
    held_few = both_right _ _ (both_right _ _ (both_right _ _ w.lawful))

    -- what it stands for among the acts
    pub held_means : (texts : List Bytes) → staged_of texts k parts x ≡ element_as texts x.head w.held
    unfolding staged_of pending_record
    held_means texts = rw (stages_back k x.head x.meta (take x.used parts) w.held w.stages)

    -- more strings
    pub held_more : (n : ℕ) → strings ≤ n → Held n k parts x
    held_more n l = record { held = w.held; stages = w.stages; lawful = legal_more strings n l w.held w.lawful; fits = w.fits; head = w.head; meta = w.meta }

    pub held_same : (old new : List Bytes) → ((h : ℕ) → h < strings → text_of new h ≡ text_of old h) → staged_of new k parts x ≡ staged_of old k parts x
    held_same old new same =
        let c = legal_agree strings (text_of new) (text_of old) same w.held w.lawful in
        held_means new ∙ ((λ i. record { id = to_z w64 x.head.id; held = c i }) ∙ sym (held_means old))

-- ---- an element that has no part yet: a legal body without refs and members, and metadata that is legal

pub record Partless (k : Kind) (h : PushHead) (b : Body ℕ) : Type 0 where
  pub kind : kind_of b ≡ k
  pub head : head_of (to_z w64 h.id) b 0 ≡ head_in k h
  pub fit : fits_body b ≡ true
  pub parts : body_bytes b ≡ []
  pub handles : (strings : ℕ) → body_handles strings b ≡ true
  pub inside : in_range b ≡ true
  pub few : body_within limits b ≡ true

abbrev pub bare_record : ArenaMeta → Body ℕ → Record ℕ
bare_record a b = record { meta = meta_of a; body = b; tags = [] }

module _ {k : Kind} {h : PushHead} {b : Body ℕ} (w : Partless k h b) where
  pub bare_stages : (a : ArenaMeta) → Stages k h a [] (bare_record a b)
  unfolding parts_bytes joined_bytes
  bare_stages a = record { kind = w.kind; head = w.head; meta = refl; fit = both_of w.fit (all_nil fits_tag); bytes = rw w.parts }

  pub bare_legal : (n : ℕ) (a : ArenaMeta) → legal_meta n (meta_of a) ≡ true → legal n (bare_record a b) ≡ true
  unfolding legal legal_handles legal_texts within_limits value_bytes
  bare_legal n a e =
      both_of (both_of e (both_of (w.handles n) (all_nil (λ (x : Tag ℕ). handle n x.key))))
      (both_of (all_nil (λ (x : Tag ℕ). is_text x.value)) (both_of w.inside (both_of refl (both_of w.few refl))))

  abbrev pub bare_held : (n : ℕ) (a : ArenaMeta) (parts : Bytes) → legal_meta n (meta_of a) ≡ true → head_fits h ≡ true → meta_fits a ≡ true
      → Held n k parts (record { head = h; meta = a; used = 0 })
  bare_held n a parts e f g = record { held = bare_record a b; stages = bare_stages a; lawful = bare_legal n a e; fits = omega arith; head = f; meta = g }
