-- The key of a leg: its bytes.
use Rattle.std.specs.Prelude.{ℕ, ℤ, List, [], ◌∷◌, ◌++◌, length}
use Rattle.std.specs.Int.{w32, w128, to_be_bytes, cast_unsigned}
use Rattle.std.specs.List.{flat_map}
use Rattle.slang_values.specs.Value.{ValueType, unit_type, number_type, truth_type, sequence_type, record_type}
use Rattle.slang_values.specs.Tree.{literal, truth_literal, name, bound, unary, binary, update, quantified, listed, Listed, sequence_of, record_of, Trees, no_trees, tree_then, tree_list}
use Rattle.slang_values.specs.declared.operators.Unary.{Unary}
use Rattle.program_trees.specs.Claims.{ClaimName, variable, old_variable, let_symbol, ClaimTree, ProofStepTree, line, block, ProofStepTrees, no_steps, step_then}
use Rattle.program_trees.specs.Legs.{ItemTree, assume, check, set, fresh, proof, LegTree}
use Rattle.key_rules.specs.Codes

-- a number: four bytes, the highest first
abbrev pub number_bytes : ℕ → List ℕ
number_bytes n = to_be_bytes w32 n

-- a literal: sixteen bytes in two's complement
abbrev pub literal_bytes : ℤ → List ℕ
literal_bytes z = to_be_bytes w128 (cast_unsigned w128 z)

-- a list: its length, and its members
abbrev pub list_bytes : {A : Type 0} → (A → List ℕ) → List A → List ℕ
list_bytes bytes_of xs = number_bytes (length xs) ++ flat_map bytes_of xs

-- ---- types

abbrev pub type_bytes : ValueType → List ℕ
type_bytes unit_type = []
type_bytes number_type = Codes.type_code Codes.of_number ∷ []
type_bytes truth_type = Codes.type_code Codes.of_truth ∷ []
type_bytes (sequence_type t) = Codes.type_code Codes.of_sequence ∷ type_bytes t
type_bytes (record_type n) = Codes.type_code Codes.of_record ∷ number_bytes n

-- ---- claims

abbrev pub head_byte : Codes.ClaimHead → List ℕ
head_byte head = Codes.claim_code head ∷ []

abbrev pub name_bytes : ClaimName ℕ → List ℕ
name_bytes (variable x) = head_byte Codes.of_variable ++ number_bytes x
name_bytes (old_variable x) = head_byte Codes.of_old_variable ++ number_bytes x
name_bytes (let_symbol label) = head_byte Codes.of_let_symbol ++ number_bytes label

-- what stands behind the operand: the place of a field
abbrev pub place_bytes : Unary → List ℕ
place_bytes Unary.Neg = []
place_bytes Unary.Not = []
place_bytes Unary.Size = []
place_bytes (Unary.Field k) = number_bytes k

-- the type of the elements of a sequence, or the record's number
abbrev pub front_bytes : Listed → List ℕ
front_bytes (sequence_of t) = head_byte Codes.of_sequence_literal ++ type_bytes t
front_bytes (record_of n) = head_byte Codes.of_record_literal ++ number_bytes n

abbrev mutual
  pub claim_bytes : ClaimTree ℕ → List ℕ
  claim_bytes (literal z) = head_byte Codes.of_literal ++ literal_bytes z
  claim_bytes (truth_literal b) = head_byte (Codes.of_truth_literal b)
  claim_bytes (name a) = name_bytes a
  claim_bytes (bound n) = head_byte Codes.of_bound ++ number_bytes n
  claim_bytes (unary op a) = head_byte (Codes.unary_head op) ++ (claim_bytes a ++ place_bytes op)
  claim_bytes (binary op a b) = head_byte (Codes.of_binary op) ++ (claim_bytes a ++ claim_bytes b)
  claim_bytes (update a i x) = head_byte Codes.of_update ++ (claim_bytes a ++ (claim_bytes i ++ claim_bytes x))
  claim_bytes (quantified q low high body) = head_byte (Codes.of_quantified q) ++ (claim_bytes low ++ (claim_bytes high ++ claim_bytes body))
  claim_bytes (listed front parts) = front_bytes front ++ (number_bytes (length (tree_list parts)) ++ parts_bytes parts)

  pub parts_bytes : Trees (ClaimName ℕ) → List ℕ
  parts_bytes no_trees = []
  parts_bytes (tree_then t ts) = claim_bytes t ++ parts_bytes ts

-- ---- steps of proofs

abbrev pub step_list : {A : Type 0} → ProofStepTrees A → List (ProofStepTree A)
step_list no_steps = []
step_list (step_then step steps) = step ∷ step_list steps

abbrev mutual
  pub step_bytes : ProofStepTree ℕ → List ℕ
  step_bytes (line label claim rule cites) =
      Codes.step_code Codes.of_line ∷ (number_bytes label ++ (claim_bytes claim ++ (rule ∷ list_bytes number_bytes cites)))
  step_bytes (block label has_symbol assumed claim steps) =
      Codes.step_code Codes.of_block ∷ (number_bytes label ++ (Codes.flag_code has_symbol ∷ (number_bytes assumed ++ (claim_bytes claim
      ++ (number_bytes (length (step_list steps)) ++ steps_bytes steps)))))

  pub steps_bytes : ProofStepTrees ℕ → List ℕ
  steps_bytes no_steps = []
  steps_bytes (step_then step steps) = step_bytes step ++ steps_bytes steps

-- ---- items and legs

abbrev pub item_bytes : ItemTree ℕ → List ℕ
item_bytes (assume claim) = Codes.item_code Codes.of_assume ∷ claim_bytes claim
item_bytes (check kind claim) = Codes.item_code Codes.of_check ∷ (Codes.kind_code kind ∷ claim_bytes claim)
item_bytes (set x claim) = Codes.item_code Codes.of_set ∷ (number_bytes x ++ claim_bytes claim)
item_bytes (fresh xs) = Codes.item_code Codes.of_fresh ∷ list_bytes number_bytes xs
item_bytes (proof steps) = Codes.item_code Codes.of_proof ∷ (number_bytes (length (step_list steps)) ++ steps_bytes steps)

-- The types of the fields of each record, the types of the variables, and the items.
abbrev pub encode : LegTree → List ℕ
encode leg =
    Codes.profile ∷ (list_bytes (list_bytes type_bytes) leg.records ++ (list_bytes type_bytes leg.variables ++ list_bytes item_bytes leg.items))
