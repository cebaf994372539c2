-- Laws of putting other texts for texts: the same texts, twice, by two functions that agree on the texts that are there.
use mathlib.Core.Path.{◌≡◌, refl, ap}
use mathlib.Core.List.{List, [], ◌∷◌, ◌++◌, map, map-id, map-map, map-append}
use Rattle.model.specs.Record.{Member, Tag, Body, place, refs, members, Record, claim_of, kind_of}
use Rattle.model.specs.Act.{Act, push, delete, key_of, claimed_by}
use Rattle.model.specs.Swap.{swap_meta, swap_member, swap_tag, swap_body, swap_record, swap_act, roles_of, keys_of, body_texts, record_texts}

-- the texts of an act: a deletion has none
abbrev pub texts_in : {S : Type 0} → Act S → List S
texts_in (push id r) = record_texts r
texts_in (delete k id claim) = []

-- ---- each text for itself

module _ {S : Type 0} where
  body_id : (b : Body S) → swap_body (λ x. x) b ≡ b
  body_id (place lat lon) = refl
  body_id (refs rs) = refl
  body_id (members ms) = ap members (map-id ms)

  pub record_id : (r : Record S) → swap_record (λ x. x) r ≡ r
  record_id r = λ i. record { meta = r.meta; body = body_id r.body i; tags = map-id r.tags i }

  pub act_id : (a : Act S) → swap_act (λ x. x) a ≡ a
  act_id (push id r) = ap (push id) (record_id r)
  act_id (delete k id claim) = refl

-- ---- one function after another

module _ {S U P : Type 0} (g : U → P) (f : S → U) where
  body_twice : (b : Body S) → swap_body g (swap_body f b) ≡ swap_body (λ x. g (f x)) b
  body_twice (place lat lon) = refl
  body_twice (refs rs) = refl
  body_twice (members ms) = ap members (map-map (swap_member g) (swap_member f) ms)

  pub record_twice : (r : Record S) → swap_record g (swap_record f r) ≡ swap_record (λ x. g (f x)) r
  record_twice r = λ i. record {
    meta = swap_meta (λ x. g (f x)) r.meta;
    body = body_twice r.body i;
    tags = map-map (swap_tag g) (swap_tag f) r.tags i;
  }

  pub act_twice : (a : Act S) → swap_act g (swap_act f a) ≡ swap_act (λ x. g (f x)) a
  act_twice (push id r) = ap (push id) (record_twice r)
  act_twice (delete k id claim) = refl

-- ---- two functions that agree on the texts

module _ {S U : Type 0} (f g : S → U) where
  both_parts : (xs ys : List S) → map f (xs ++ ys) ≡ map g (xs ++ ys) → (map f xs ≡ map g xs) × (map f ys ≡ map g ys)
  both_parts [] ys e = (refl, e)
  both_parts (x ∷ xs) ys e =
      let q : map f (xs ++ ys) ≡ map g (xs ++ ys) = cc in
      let ih = both_parts xs ys q in
      (cc ih.0, ih.1)

  members_agree : (ms : List (Member S)) → map f (roles_of ms) ≡ map g (roles_of ms) → map (swap_member f) ms ≡ map (swap_member g) ms
  members_agree [] e = refl
  members_agree (m ∷ ms) e =
      let q : map f (roles_of ms) ≡ map g (roles_of ms) = cc in
      cc (members_agree ms q)

  tags_agree : (ts : List (Tag S)) → map f (keys_of ts) ≡ map g (keys_of ts) → map (swap_tag f) ts ≡ map (swap_tag g) ts
  tags_agree [] e = refl
  tags_agree (t ∷ ts) e =
      let q : map f (keys_of ts) ≡ map g (keys_of ts) = cc in
      cc (tags_agree ts q)

  body_agree : (b : Body S) → map f (body_texts b) ≡ map g (body_texts b) → swap_body f b ≡ swap_body g b
  body_agree (place lat lon) e = refl
  body_agree (refs rs) e = refl
  body_agree (members ms) e = ap members (members_agree ms e)

  pub record_agree : (r : Record S) → map f (record_texts r) ≡ map g (record_texts r) → swap_record f r ≡ swap_record g r
  record_agree r e =
      let q : map f (body_texts r.body ++ keys_of r.tags) ≡ map g (body_texts r.body ++ keys_of r.tags) = cc in
      let h = both_parts (body_texts r.body) (keys_of r.tags) q in
      cc (body_agree r.body h.0, tags_agree r.tags h.1)

  pub act_agree : (a : Act S) → map f (texts_in a) ≡ map g (texts_in a) → swap_act f a ≡ swap_act g a
  act_agree (push id r) e = ap (push id) (record_agree r e)
  act_agree (delete k id claim) e = refl

-- ---- the texts of what was swapped; what a swap keeps

module _ {S U : Type 0} (f : S → U) where
  roles_swap : (ms : List (Member S)) → roles_of (map (swap_member f) ms) ≡ map f (roles_of ms)
  roles_swap [] = refl
  roles_swap (m ∷ ms) = ap (f m.role ∷◌) (roles_swap ms)

  keys_swap : (ts : List (Tag S)) → keys_of (map (swap_tag f) ts) ≡ map f (keys_of ts)
  keys_swap [] = refl
  keys_swap (t ∷ ts) = ap (f t.key ∷◌) (keys_swap ts)

  body_swap : (b : Body S) → body_texts (swap_body f b) ≡ map f (body_texts b)
  body_swap (place lat lon) = refl
  body_swap (refs rs) = refl
  body_swap (members ms) = roles_swap ms

  pub record_texts_lem : (r : Record S) → record_texts (swap_record f r) ≡ map f (record_texts r)
  record_texts_lem r = rw (body_swap r.body, keys_swap r.tags, map-append f (body_texts r.body) (keys_of r.tags))

  pub act_texts : (a : Act S) → texts_in (swap_act f a) ≡ map f (texts_in a)
  act_texts (push id r) = record_texts_lem r
  act_texts (delete k id claim) = refl

  pub body_kind : (b : Body S) → kind_of (swap_body f b) ≡ kind_of b
  body_kind (place lat lon) = refl
  body_kind (refs rs) = refl
  body_kind (members ms) = refl

  pub act_key : (a : Act S) → key_of (swap_act f a) ≡ key_of a
  act_key (push id r) = λ i. record { kind = body_kind r.body i; id = id }
  act_key (delete k id claim) = refl

  pub act_claim : (a : Act S) → claimed_by (swap_act f a) ≡ claimed_by a
  unfolding claim_of
  act_claim (push id r) = refl
  act_claim (delete k id claim) = refl
