-- What appears in well-typed claims and items.
use Rattle.std.proofs.Common.{◌≡◌, ℕ, Bool, List, [], ◌∷◌, ◌++◌, map, length, Some}
use Rattle.std.specs.List.{AllByRecursion}
use Rattle.std.proofs.lemmas.Bool.{lt-ltb}
use Rattle.numbering_laws.proofs.Places.{none≢some, all_append}
use Rattle.slang_values.specs.Value.{ValueType, number_type, truth_type, sequence_type, fields, element_type}
use Rattle.slang_values.specs.Tree.{literal, truth_literal, name, bound, unary, binary, update, quantified, listed, Trees, no_trees, tree_then, sequence_of, record_of}
use Rattle.slang_values.specs.Typing.{NameTypes, type_of, IsTyped, EachIsTyped, AreTyped}
use Rattle.slang_values.specs.declared.operators.Unary.{Unary}
use Rattle.slang_values.specs.declared.operators.Binary.{Binary}
use Rattle.program_trees.specs.Claims.{ClaimName, variable, old_variable, let_symbol, ClaimTree, ProofStepTree, line, block, ProofStepTrees, no_steps, step_then}
use Rattle.program_trees.specs.Programs.{MethodTree, ProgramTree}
use Rattle.program_trees.specs.Variables.{Variable}
use Rattle.program_trees.specs.Legs.{ItemTree, assume, check, set, fresh, proof}
use Rattle.leg_rules.specs.LegNames.{LegName}
use Rattle.leg_rules.specs.Legs.{Items}
use Rattle.leg_rules.specs.Numbering.{Appearance, of_variable, name_appears, claim_appears, parts_appear, step_appears, steps_appear, item_appears, leg_appears}
use Rattle.leg_rules.specs.Typed.{with_label, no_labels}
use Rattle.leg_soundness.specs.Passing.{leg_types}
use Rattle.numbering_laws.specs.NumberedPassing.{IsKnownAppearance}
use Rattle.leg_typing.specs.OverNames.{variable_names, proof_names, IsStepOver, AreStepsOver, IsItemOver}
use Rattle.leg_typing.specs.Laws.{HasKnownTypes}

module _ (program : ProgramTree Variable) (method : MethodTree Variable) (known : HasKnownTypes program method) where
  abbrev Known : Appearance → Type 0
  Known = IsKnownAppearance program method

  module _ (names : NameTypes (ClaimName LegName)) (appears : (a : ClaimName LegName) (t : ValueType) → names a ≡ Some t → AllByRecursion Known (name_appears a)) where
    two : (a b : ClaimTree LegName) → AllByRecursion Known (claim_appears a) → AllByRecursion Known (claim_appears b)
        → AllByRecursion Known (claim_appears a ++ claim_appears b)
    two a b h k = all_append Known (claim_appears a) (claim_appears b) h k

    three : (a b c : ClaimTree LegName) → AllByRecursion Known (claim_appears a) → AllByRecursion Known (claim_appears b)
        → AllByRecursion Known (claim_appears c) → AllByRecursion Known (claim_appears a ++ (claim_appears b ++ claim_appears c))
    three a b c h k l = all_append Known (claim_appears a) (claim_appears b ++ claim_appears c) h (two b c k l)

    mutual
      claim_known : (c : ClaimTree LegName) (t : ValueType) → IsTyped program.records names c t → AllByRecursion Known (claim_appears c)
      claim_known (literal z) t h = tt
      claim_known (truth_literal b) t h = tt
      claim_known (name a) t h = appears a t h
      claim_known (bound n) t h = tt
      claim_known (unary Unary.Neg a) t h = claim_known a number_type h.1
      claim_known (unary Unary.Not a) t h = claim_known a truth_type h.1
      claim_known (unary Unary.Size a) t h = claim_known a (sequence_type (element_type (type_of program.records names a))) h.1
      claim_known (unary (Unary.Field k) a) t h = claim_known a (type_of program.records names a) h.1
      claim_known (binary Binary.Add a b) t h = two a b (claim_known a number_type h.1) (claim_known b number_type h.2)
      claim_known (binary Binary.Sub a b) t h = two a b (claim_known a number_type h.1) (claim_known b number_type h.2)
      claim_known (binary Binary.Mul a b) t h = two a b (claim_known a number_type h.1) (claim_known b number_type h.2)
      claim_known (binary Binary.Div a b) t h = two a b (claim_known a number_type h.1) (claim_known b number_type h.2)
      claim_known (binary Binary.Rem a b) t h = two a b (claim_known a number_type h.1) (claim_known b number_type h.2)
      claim_known (binary Binary.And a b) t h = two a b (claim_known a truth_type h.1) (claim_known b truth_type h.2)
      claim_known (binary Binary.Or a b) t h = two a b (claim_known a truth_type h.1) (claim_known b truth_type h.2)
      claim_known (binary Binary.Imply a b) t h = two a b (claim_known a truth_type h.1) (claim_known b truth_type h.2)
      claim_known (binary Binary.Lt a b) t h = two a b (claim_known a number_type h.1) (claim_known b number_type h.2)
      claim_known (binary Binary.Le a b) t h = two a b (claim_known a number_type h.1) (claim_known b number_type h.2)
      claim_known (binary Binary.Eq a b) t h =
          two a b (claim_known a (type_of program.records names a) h.1) (claim_known b (type_of program.records names a) h.2)
      claim_known (binary Binary.Read a i) t h = two a i (claim_known a (sequence_type t) h.0) (claim_known i number_type h.1)
      claim_known (binary Binary.Append a x) t h = two a x (claim_known a t h.1) (claim_known x (type_of program.records names x) h.2)
      claim_known (update a i x) t h =
          three a i x (claim_known a t h.1) (claim_known i number_type h.2) (claim_known x (type_of program.records names x) h.3)
      claim_known (quantified q low high body) t h =
          three low high body (claim_known low number_type h.1) (claim_known high number_type h.2) (claim_known body truth_type h.3)
      claim_known (listed (sequence_of s) ts) t h = (h.1, each_known ts s h.2)
      claim_known (listed (record_of n) ts) t h = (lt-ltb n (length program.records) h.1, parts_known ts (fields program.records n) h.2)

      each_known : (ts : Trees (ClaimName LegName)) (t : ValueType) → EachIsTyped program.records names ts t → AllByRecursion Known (parts_appear ts)
      each_known no_trees t h = tt
      each_known (tree_then a ts) t h = all_append Known (claim_appears a) (parts_appear ts) (claim_known a t h.0) (each_known ts t h.1)

      parts_known : (ts : Trees (ClaimName LegName)) (ss : List ValueType) → AreTyped program.records names ts ss → AllByRecursion Known (parts_appear ts)
      parts_known no_trees [] h = tt
      parts_known no_trees (s ∷ ss) h = absurd h
      parts_known (tree_then a ts) [] h = absurd h
      parts_known (tree_then a ts) (s ∷ ss) h = all_append Known (claim_appears a) (parts_appear ts) (claim_known a s h.0) (parts_known ts ss h.1)

  -- ---- items

  abbrev types : NameTypes LegName
  types = leg_types program method

  outside : (a : ClaimName LegName) (t : ValueType) → variable_names types a ≡ Some t → AllByRecursion Known (name_appears a)
  outside (variable x) t h = ((t, h, known x t h), tt)
  outside (old_variable x) t h = absurd (none≢some h)
  outside (let_symbol label) t h = tt

  inside_proofs : (lets : ℕ → Bool) (a : ClaimName LegName) (t : ValueType) → proof_names types lets a ≡ Some t → AllByRecursion Known (name_appears a)
  inside_proofs lets (variable x) t h = ((t, h, known x t h), tt)
  inside_proofs lets (old_variable x) t h = ((t, h, known x t h), tt)
  inside_proofs lets (let_symbol label) t h = tt

  mutual
    step_known : (step : ProofStepTree LegName) (lets : ℕ → Bool) → IsStepOver program.records types lets step → AllByRecursion Known (step_appears step)
    step_known (line label claim rule cites) lets h = claim_known (proof_names types lets) (inside_proofs lets) claim truth_type h.typed
    step_known (block label has_symbol assumed given steps) lets h =
        let inner = with_label has_symbol label lets in
        all_append Known (claim_appears given) (steps_appear steps)
        (claim_known (proof_names types inner) (inside_proofs inner) given truth_type h.0.typed) (steps_known steps inner h.1)

    steps_known : (steps : ProofStepTrees LegName) (lets : ℕ → Bool) → AreStepsOver program.records types lets steps → AllByRecursion Known (steps_appear steps)
    steps_known no_steps lets h = tt
    steps_known (step_then step steps) lets h =
        all_append Known (step_appears step) (steps_appear steps) (step_known step lets h.0) (steps_known steps lets h.1)

  fresh_known : (xs : List LegName) → AllByRecursion (λ x. (t : ValueType) × (types x ≡ Some t)) xs → AllByRecursion Known (map of_variable xs)
  fresh_known [] h = tt
  fresh_known (x ∷ xs) h = ((h.0.0, h.0.1, known x h.0.0 h.0.1), fresh_known xs h.1)

  item_known : (item : ItemTree LegName) → IsItemOver program.records types item → AllByRecursion Known (item_appears item)
  item_known (assume claim) h = claim_known (variable_names types) outside claim truth_type h.typed
  item_known (check kind claim) h = claim_known (variable_names types) outside claim truth_type h.typed
  item_known (set x claim) h = ((h.0, h.1, known x h.0 h.1), claim_known (variable_names types) outside claim h.0 h.2.typed)
  item_known (fresh xs) h = fresh_known xs h
  item_known (proof steps) h = steps_known steps no_labels h

  pub leg_known : (items : Items) → AllByRecursion (λ noted. IsItemOver program.records types noted.item) items → AllByRecursion Known (leg_appears items)
  leg_known [] h = tt
  leg_known (noted ∷ items) h = all_append Known (item_appears noted.item) (leg_appears items) (item_known noted.item h.0) (leg_known items h.1)
