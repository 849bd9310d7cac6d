-- A well-typed claim is well typed over numbers, of the type with other numbers for its records.
use Rattle.std.proofs.Common.{◌≡◌, ℕ, zero, suc, ◌<◌, true, List, [], ◌∷◌, ◌++◌, map, length, get_or, Some, refl, sym, ap, ◌∙◌, subst}
use Rattle.std.specs.List.{AllByRecursion}
use Rattle.std.proofs.lemmas.Bool.{ltb-true}
use Rattle.std.proofs.lemmas.List.{length-map}
use Rattle.slang_values.specs.Value.{ValueType, unit_type, number_type, truth_type, sequence_type, record_type, Records, fields, element_type, is_known}
use Rattle.slang_values.specs.Tree.{literal, truth_literal, name, bound, unary, binary, update, quantified, listed, Trees, no_trees, tree_then, sequence_of, record_of}
use Rattle.slang_values.specs.Typing.{NameTypes, type_of, IsFieldType, IsTyped, EachIsTyped, AreTyped, IsClosed, AreClosed}
use Rattle.slang_values.specs.declared.operators.Unary.{Unary}
use Rattle.slang_values.specs.declared.operators.Binary.{Binary}
use Rattle.validity.specs.Bind.{bind_all}
use Rattle.validity.proofs.TypeOf.{type_of_typed}
use Rattle.program_trees.specs.Claims.{ClaimName, ClaimTree, renamed_name, renamed_claim}
use Rattle.leg_rules.specs.LegNames.{LegName, same_name}
use Rattle.leg_rules.specs.Numbering.{Appearance, name_appears, claim_appears, parts_appear, number_in, renumbered_type, renumbered, all_renumbered}
use Rattle.numbering_laws.proofs.Places.{all_left, all_right}
use Rattle.numbering_laws.proofs.Values.{TypeIn, AreRenumbered}
use Rattle.numbering_laws.proofs.Claims.{AppearsIn}

all_or : (Q : ValueType → Type 0) (ts : List ValueType) (k : ℕ) (past : ValueType) → AllByRecursion Q ts → Q past → Q (get_or ts k past)
all_or Q [] k past h p = p
all_or Q (t ∷ ts) zero past h p = h.0
all_or Q (t ∷ ts) (suc k) past h p = all_or Q ts k past h.1 p

got_renumbered : (f : ℕ → ℕ) (ts : List ValueType) (k : ℕ) → get_or (map (renumbered_type f) ts) k unit_type ≡ renumbered_type f (get_or ts k unit_type)
got_renumbered f [] k = refl
got_renumbered f (t ∷ ts) zero = refl
got_renumbered f (t ∷ ts) (suc k) = got_renumbered f ts k

module _ (f : ℕ → ℕ) (number : LegName → ℕ) where
  abbrev pub number_claim : ClaimTree LegName → ClaimTree ℕ
  number_claim c = renumbered f (renamed_claim number c)

  abbrev number_claims : Trees (ClaimName LegName) → Trees (ClaimName ℕ)
  number_claims cs = all_renumbered f (bind_all (λ a. name (renamed_name number a)) cs)

  mutual
    pub closed_new : (c : ClaimTree LegName) (n : ℕ) → IsClosed n c → IsClosed n (number_claim c)
    closed_new (literal z) n h = tt
    closed_new (truth_literal b) n h = tt
    closed_new (name a) n h = tt
    closed_new (bound m) n h = h
    closed_new (unary op a) n h = closed_new a n h
    closed_new (binary op a b) n h = (closed_new a n h.0, closed_new b n h.1)
    closed_new (update a i x) n h = (closed_new a n h.0, closed_new i n h.1, closed_new x n h.2)
    closed_new (quantified q low high body) n h = (closed_new low n h.0, closed_new high n h.1, closed_new body (suc n) h.2)
    closed_new (listed l ts) n h = all_closed_new ts n h

    all_closed_new : (ts : Trees (ClaimName LegName)) (n : ℕ) → AreClosed n ts → AreClosed n (number_claims ts)
    all_closed_new no_trees n h = tt
    all_closed_new (tree_then t ts) n h = (closed_new t n h.0, all_closed_new ts n h.1)

module _ (records new_records : Records) (S : ℕ → Type 0) (f back : ℕ → ℕ) (are : AreRenumbered records new_records S f back) (variables : List LegName) (known : (t : ValueType) → TypeIn S t → is_known new_records (renumbered_type f t) ≡ true) where
  abbrev Appears : Appearance → Type 0
  Appears = AppearsIn records new_records S f back are variables

  abbrev new_type : ValueType → ValueType
  new_type t = renumbered_type f t

  field_new : (k : ℕ) (r t : ValueType) → IsFieldType records k r t → TypeIn S r → TypeIn S t × IsFieldType new_records k (new_type r) (new_type t)
  field_new k unit_type t h at = absurd h
  field_new k number_type t h at = absurd h
  field_new k truth_type t h at = absurd h
  field_new k (sequence_type r) t h at = absurd h
  field_new k (record_type n) t h at =
      let is = are.fields_are n at in (
        subst (TypeIn S) (sym h.1) (all_or (TypeIn S) (fields records n) k unit_type (are.members n at) tt),
        (
          subst (λ ts. k < length ts) (sym is) (subst (λ l. k < l) (sym (length-map (fields records n) new_type)) h.0),
          ap new_type h.1 ∙ (sym (got_renumbered f (fields records n) k) ∙ ap (λ ts. get_or ts k unit_type) (sym is)),
        ),
      )

  module _ (names : NameTypes (ClaimName LegName)) (new_names : NameTypes (ClaimName ℕ)) (stands : (a : ClaimName LegName) (t : ValueType) → names a ≡ Some t → AllByRecursion Appears (name_appears a) → TypeIn S t × (new_names (renamed_name (number_in same_name variables) a) ≡ Some (new_type t))) where
    abbrev new : ClaimTree LegName → ClaimTree ℕ
    new c = number_claim f (number_in same_name variables) c

    abbrev news : Trees (ClaimName LegName) → Trees (ClaimName ℕ)
    news cs = all_renumbered f (bind_all (λ a. name (renamed_name (number_in same_name variables) a)) cs)

    -- of the type, which names records of the leg
    abbrev NewTyped : ClaimTree LegName → ValueType → Type 0
    NewTyped c t = TypeIn S t × IsTyped new_records new_names (new c) (new_type t)

    plain_number : {t : ValueType} → t ≡ number_type → TypeIn S t
    plain_number e = subst (TypeIn S) (sym e) tt

    plain_truth : {t : ValueType} → t ≡ truth_type → TypeIn S t
    plain_truth e = subst (TypeIn S) (sym e) tt

    left : (a b : ClaimTree LegName) → AllByRecursion Appears (claim_appears a ++ claim_appears b) → AllByRecursion Appears (claim_appears a)
    left a b h = all_left Appears (claim_appears a) (claim_appears b) h

    right : (a b : ClaimTree LegName) → AllByRecursion Appears (claim_appears a ++ claim_appears b) → AllByRecursion Appears (claim_appears b)
    right a b h = all_right Appears (claim_appears a) (claim_appears b) h

    numbers : (a b : ClaimTree LegName) (t : ValueType) → t ≡ number_type → NewTyped a number_type → NewTyped b number_type
        → TypeIn S t × ((new_type t ≡ number_type) × IsTyped new_records new_names (new a) number_type × IsTyped new_records new_names (new b) number_type)
    numbers a b t e h k = (plain_number e, (ap new_type e, h.1, k.1))

    compared : (a b : ClaimTree LegName) (t : ValueType) → t ≡ truth_type → NewTyped a number_type → NewTyped b number_type
        → TypeIn S t × ((new_type t ≡ truth_type) × IsTyped new_records new_names (new a) number_type × IsTyped new_records new_names (new b) number_type)
    compared a b t e h k = (plain_truth e, (ap new_type e, h.1, k.1))

    truths : (a b : ClaimTree LegName) (t : ValueType) → t ≡ truth_type → NewTyped a truth_type → NewTyped b truth_type
        → TypeIn S t × ((new_type t ≡ truth_type) × IsTyped new_records new_names (new a) truth_type × IsTyped new_records new_names (new b) truth_type)
    truths a b t e h k = (plain_truth e, (ap new_type e, h.1, k.1))

    mutual
      pub typed_new : (c : ClaimTree LegName) (t : ValueType) → IsTyped records names c t → AllByRecursion Appears (claim_appears c) → NewTyped c t
      typed_new (literal z) t h p = (plain_number h, ap new_type h)
      typed_new (truth_literal b) t h p = (plain_truth h, ap new_type h)
      typed_new (name a) t h p = stands a t h p
      typed_new (bound n) t h p = (plain_number h, ap new_type h)
      typed_new (unary Unary.Neg a) t h p = (plain_number h.0, (ap new_type h.0, (typed_new a number_type h.1 p).1))
      typed_new (unary Unary.Not a) t h p = (plain_truth h.0, (ap new_type h.0, (typed_new a truth_type h.1 p).1))
      typed_new (unary Unary.Size a) t h p =
          let s = sequence_type (element_type (type_of records names a)) in
          let inner = (typed_new a s h.1 p).1 in
          let is = type_of_typed new_records new_names (new a) (new_type s) inner in (
            plain_number h.0,
            (ap new_type h.0, subst (λ r. IsTyped new_records new_names (new a) (sequence_type (element_type r))) (sym is) inner),
          )
      typed_new (unary (Unary.Field k) a) t h p =
          let r = type_of records names a in
          let inner = typed_new a r h.1 p in
          let is = type_of_typed new_records new_names (new a) (new_type r) inner.1 in
          let field = field_new k r t h.0 inner.0 in (
            field.0,
            (
              subst (λ s. IsFieldType new_records k s (new_type t)) (sym is) field.1,
              subst (λ s. IsTyped new_records new_names (new a) s) (sym is) inner.1,
            ),
          )
      typed_new (binary Binary.Add a b) t h p = numbers a b t h.0 (typed_new a number_type h.1 (left a b p)) (typed_new b number_type h.2 (right a b p))
      typed_new (binary Binary.Sub a b) t h p = numbers a b t h.0 (typed_new a number_type h.1 (left a b p)) (typed_new b number_type h.2 (right a b p))
      typed_new (binary Binary.Mul a b) t h p = numbers a b t h.0 (typed_new a number_type h.1 (left a b p)) (typed_new b number_type h.2 (right a b p))
      typed_new (binary Binary.Div a b) t h p = numbers a b t h.0 (typed_new a number_type h.1 (left a b p)) (typed_new b number_type h.2 (right a b p))
      typed_new (binary Binary.Rem a b) t h p = numbers a b t h.0 (typed_new a number_type h.1 (left a b p)) (typed_new b number_type h.2 (right a b p))
      typed_new (binary Binary.And a b) t h p = truths a b t h.0 (typed_new a truth_type h.1 (left a b p)) (typed_new b truth_type h.2 (right a b p))
      typed_new (binary Binary.Or a b) t h p = truths a b t h.0 (typed_new a truth_type h.1 (left a b p)) (typed_new b truth_type h.2 (right a b p))
      typed_new (binary Binary.Imply a b) t h p = truths a b t h.0 (typed_new a truth_type h.1 (left a b p)) (typed_new b truth_type h.2 (right a b p))
      typed_new (binary Binary.Lt a b) t h p = compared a b t h.0 (typed_new a number_type h.1 (left a b p)) (typed_new b number_type h.2 (right a b p))
      typed_new (binary Binary.Le a b) t h p = compared a b t h.0 (typed_new a number_type h.1 (left a b p)) (typed_new b number_type h.2 (right a b p))
      typed_new (binary Binary.Eq a b) t h p =
          let r = type_of records names a in
          let x = typed_new a r h.1 (left a b p) in
          let y = typed_new b r h.2 (right a b p) in
          let is = sym (type_of_typed new_records new_names (new a) (new_type r) x.1) in (
            plain_truth h.0,
            (
              ap new_type h.0,
              subst (λ s. IsTyped new_records new_names (new a) s) is x.1,
              subst (λ s. IsTyped new_records new_names (new b) s) is y.1,
            ),
          )
      typed_new (binary Binary.Read a i) t h p =
          let x = typed_new a (sequence_type t) h.0 (left a i p) in
          (x.0, (x.1, (typed_new i number_type h.1 (right a i p)).1))
      typed_new (binary Binary.Append a x) t h p =
          let r = type_of records names x in
          let y = typed_new a t h.1 (left a x p) in
          let z = typed_new x r h.2 (right a x p) in
          let is = sym (type_of_typed new_records new_names (new x) (new_type r) z.1) in
          (y.0, (ap new_type h.0 ∙ ap sequence_type is, y.1, subst (λ s. IsTyped new_records new_names (new x) s) is z.1))
      typed_new (update a i x) t h p =
          let rest = all_right Appears (claim_appears a) (claim_appears i ++ claim_appears x) p in
          let r = type_of records names x in
          let y = typed_new a t h.1 (all_left Appears (claim_appears a) (claim_appears i ++ claim_appears x) p) in
          let z = typed_new x r h.3 (right i x rest) in
          let is = sym (type_of_typed new_records new_names (new x) (new_type r) z.1) in (
            y.0,
            (
              ap new_type h.0 ∙ ap sequence_type is,
              y.1,
              (typed_new i number_type h.2 (left i x rest)).1,
              subst (λ s. IsTyped new_records new_names (new x) s) is z.1,
            ),
          )
      typed_new (quantified q low high body) t h p =
          let rest = all_right Appears (claim_appears low) (claim_appears high ++ claim_appears body) p in (
            plain_truth h.0,
            (
              ap new_type h.0,
              (typed_new low number_type h.1 (all_left Appears (claim_appears low) (claim_appears high ++ claim_appears body) p)).1,
              (typed_new high number_type h.2 (left high body rest)).1,
              (typed_new body truth_type h.3 (right high body rest)).1,
            ),
          )
      typed_new (listed (sequence_of s) ts) t h p =
          (subst (TypeIn S) (sym h.0) p.0, (ap new_type h.0, known s p.0, each_typed_new ts s h.2 p.1))
      typed_new (listed (record_of n) ts) t h p = (
        subst (TypeIn S) (sym h.0) p.0,
        (
          ap new_type h.0,
          ltb-true (f n) (length new_records) (known (record_type n) p.0),
          subst (AreTyped new_records new_names (news ts)) (sym (are.fields_are n p.0)) (all_typed_new ts (fields records n) h.2 p.1),
        ),
      )

      each_typed_new : (ts : Trees (ClaimName LegName)) (t : ValueType) → EachIsTyped records names ts t → AllByRecursion Appears (parts_appear ts)
          → EachIsTyped new_records new_names (news ts) (new_type t)
      each_typed_new no_trees t h p = tt
      each_typed_new (tree_then a ts) t h p = (
        (typed_new a t h.0 (all_left Appears (claim_appears a) (parts_appear ts) p)).1,
        each_typed_new ts t h.1 (all_right Appears (claim_appears a) (parts_appear ts) p),
      )

      all_typed_new : (ts : Trees (ClaimName LegName)) (ss : List ValueType) → AreTyped records names ts ss → AllByRecursion Appears (parts_appear ts)
          → AreTyped new_records new_names (news ts) (map new_type ss)
      all_typed_new no_trees [] h p = tt
      all_typed_new no_trees (s ∷ ss) h p = absurd h
      all_typed_new (tree_then a ts) [] h p = absurd h
      all_typed_new (tree_then a ts) (s ∷ ss) h p = (
        (typed_new a s h.0 (all_left Appears (claim_appears a) (parts_appear ts) p)).1,
        all_typed_new ts ss h.1 (all_right Appears (claim_appears a) (parts_appear ts) p),
      )
