-- The value of a claim over numbers is that of the claim over names, with other numbers for the records in it.
use Rattle.std.proofs.Common.{◌≡◌, ℕ, ℤ, List, ◌++◌, refl, ap, ap₂, ◌∙◌}
use Rattle.std.specs.List.{AllByRecursion}
use Rattle.slang_values.specs.Number.{numbers_between}
use Rattle.slang_values.specs.Value.{Records, Value, truth, sequence, record_value, value_then, number_of, truth_of, updated}
use Rattle.slang_values.specs.Tree.{literal, truth_literal, name, bound, unary, binary, update, quantified, listed, Trees, no_trees, tree_then, sequence_of, record_of, Bounds, inside, unary_value, binary_value, holds_of, value, values}
use Rattle.validity.specs.Bind.{bind_all}
use Rattle.program_trees.specs.Claims.{ClaimName, ClaimTree, renamed_name, renamed_claim}
use Rattle.leg_rules.specs.LegNames.{LegName, same_name}
use Rattle.leg_rules.specs.Numbering.{Appearance, of_variable, of_type, name_appears, claim_appears, parts_appear, number_in, renumbered_type, renumbered, all_renumbered}
use Rattle.numbering_laws.specs.NumberedPassing.{number_name}
use Rattle.numbering_laws.proofs.Places.{In, all_left, all_right}
use Rattle.numbering_laws.proofs.Values.{renumbered_value, renumbered_values, TypeIn, ValueIn, ValuesIn, number_of-renumbered, truth_of-renumbered, updated-renumbered, updated-in, AreRenumbered, unary-in, binary-in, unary-renumbered, binary-renumbered}

module _ (records new_records : Records) (S : ℕ → Type 0) (f back : ℕ → ℕ) (are : AreRenumbered records new_records S f back) (variables : List LegName) where
  -- what appears has a number
  abbrev pub AppearsIn : Appearance → Type 0
  AppearsIn (of_variable x) = In variables x
  AppearsIn (of_type t) = TypeIn S t

  abbrev pub number : LegName → ℕ
  number x = number_in same_name variables x

  abbrev pub new_claim : ClaimTree LegName → ClaimTree LegName
  new_claim claim = renamed_claim number_name (renumbered f (renamed_claim number claim))

  abbrev new_claims : Trees (ClaimName LegName) → Trees (ClaimName LegName)
  new_claims claims = bind_all (λ a. name (renamed_name number_name a)) (all_renumbered f (bind_all (λ a. name (renamed_name number a)) claims))

  -- the values of a name of the leg, and of the same name by its number
  abbrev pub NameStands : (ClaimName LegName → Value) → (ClaimName LegName → Value) → ClaimName LegName → Type 0
  NameStands names new_names a = ValueIn S (names a) × (new_names (renamed_name number_name (renamed_name number a)) ≡ renumbered_value f (names a))

  module _ (names new_names : ClaimName LegName → Value) (stands : (a : ClaimName LegName) → AllByRecursion AppearsIn (name_appears a) → NameStands names new_names a) where
    mutual
      pub value-in : (c : ClaimTree LegName) (e : Bounds) → AllByRecursion AppearsIn (claim_appears c) → ValueIn S (value records names e c)
      value-in (literal z) e h = tt
      value-in (truth_literal b) e h = tt
      value-in (name a) e h = (stands a h).0
      value-in (bound n) e h = tt
      value-in (unary op a) e h = unary-in records new_records S f back are op (value records names e a) (value-in a e h)
      value-in (binary op a b) e h =
          binary-in records new_records S f back are op (value records names e a) (value records names e b)
          (value-in a e (all_left AppearsIn (claim_appears a) (claim_appears b) h)) (value-in b e (all_right AppearsIn (claim_appears a) (claim_appears b) h))
      value-in (update a i x) e h =
          let rest = all_right AppearsIn (claim_appears a) (claim_appears i ++ claim_appears x) h in
          updated-in S (value records names e a) (number_of (value records names e i)) (value records names e x)
          (value-in a e (all_left AppearsIn (claim_appears a) (claim_appears i ++ claim_appears x) h))
          (value-in x e (all_right AppearsIn (claim_appears i) (claim_appears x) rest))
      value-in (quantified q low high body) e h = tt
      value-in (listed (sequence_of t) ts) e h = (h.0, values-in ts e h.1)
      value-in (listed (record_of n) ts) e h = (h.0, values-in ts e h.1)

      values-in : (ts : Trees (ClaimName LegName)) (e : Bounds) → AllByRecursion AppearsIn (parts_appear ts) → ValuesIn S (values records names e ts)
      values-in no_trees e h = tt
      values-in (tree_then t ts) e h =
          (value-in t e (all_left AppearsIn (claim_appears t) (parts_appear ts) h), values-in ts e (all_right AppearsIn (claim_appears t) (parts_appear ts) h))

    mutual
      pub value-new : (c : ClaimTree LegName) (e : Bounds) → AllByRecursion AppearsIn (claim_appears c)
          → value new_records new_names e (new_claim c) ≡ renumbered_value f (value records names e c)
      value-new (literal z) e h = refl
      value-new (truth_literal b) e h = refl
      value-new (name a) e h = (stands a h).1
      value-new (bound n) e h = refl
      value-new (unary op a) e h =
          ap (unary_value op) (value-new a e h) ∙ unary-renumbered records new_records S f back are op (value records names e a)
      value-new (binary op a b) e h =
          let l = all_left AppearsIn (claim_appears a) (claim_appears b) h in
          let r = all_right AppearsIn (claim_appears a) (claim_appears b) h in
          ap₂ (binary_value new_records op) (value-new a e l) (value-new b e r)
          ∙ binary-renumbered records new_records S f back are op (value records names e a) (value records names e b) (value-in a e l) (value-in b e r)
      value-new (update a i x) e h =
          let rest = all_right AppearsIn (claim_appears a) (claim_appears i ++ claim_appears x) h in
          let p = value-new a e (all_left AppearsIn (claim_appears a) (claim_appears i ++ claim_appears x) h) in
          let q = ap number_of (value-new i e (all_left AppearsIn (claim_appears i) (claim_appears x) rest))
          ∙ number_of-renumbered f (value records names e i) in
          let r = value-new x e (all_right AppearsIn (claim_appears i) (claim_appears x) rest) in
          (λ j. updated (p j) (q j) (r j)) ∙ updated-renumbered f (value records names e a) (number_of (value records names e i)) (value records names e x)
      value-new (quantified q low high body) e h =
          let rest = all_right AppearsIn (claim_appears low) (claim_appears high ++ claim_appears body) h in
          let l = ap number_of (value-new low e (all_left AppearsIn (claim_appears low) (claim_appears high ++ claim_appears body) h))
          ∙ number_of-renumbered f (value records names e low) in
          let u = ap number_of (value-new high e (all_left AppearsIn (claim_appears high) (claim_appears body) rest))
          ∙ number_of-renumbered f (value records names e high) in
          let b : (k : ℤ) → truth_of (value new_records new_names (inside k e) (new_claim body)) ≡ truth_of (value records names (inside k e) body) =
          λ k. ap truth_of (value-new body (inside k e) (all_right AppearsIn (claim_appears high) (claim_appears body) rest))
          ∙ truth_of-renumbered f (value records names (inside k e) body) in
          λ j. truth (holds_of q (λ k. b k j) (numbers_between (l j) (u j)))
      value-new (listed (sequence_of t) ts) e h = ap (sequence (renumbered_type f t)) (values-new ts e h.1)
      value-new (listed (record_of n) ts) e h = ap (record_value (f n)) (values-new ts e h.1)

      values-new : (ts : Trees (ClaimName LegName)) (e : Bounds) → AllByRecursion AppearsIn (parts_appear ts)
          → values new_records new_names e (new_claims ts) ≡ renumbered_values f (values records names e ts)
      values-new no_trees e h = refl
      values-new (tree_then t ts) e h =
          ap₂ value_then (value-new t e (all_left AppearsIn (claim_appears t) (parts_appear ts) h))
          (values-new ts e (all_right AppearsIn (claim_appears t) (parts_appear ts) h))
