-- The leg of a key.
use Rattle.std.specs.Prelude.{ℕ, zero, suc, List, [], ◌∷◌, length, Option, Some, None}
use Rattle.slang_values.specs.Value.{ValueType, number_type, truth_type, sequence_type, record_type}
use Rattle.slang_values.specs.Tree.{Tree, literal, truth_literal, name, bound, unary, binary, update, quantified, listed, sequence_of, record_of, Trees, no_trees, tree_then}
use Rattle.slang_values.specs.declared.operators.Unary.{Unary}
use Rattle.program_trees.specs.Claims.{variable, old_variable, let_symbol, ClaimTree, ProofStepTree, line, block, ProofStepTrees, no_steps, step_then}
use Rattle.program_trees.specs.Legs.{ItemTree, assume, check, set, fresh, proof, LegTree}
use Rattle.key_rules.specs.Codes
use Rattle.key_rules.specs.Readers.{Reader, given, none, ◌>>=◌, read_byte, read_number, read_literal, read_coded, read_list}

-- ---- types

-- what follows the first byte of a type, where this reads a type inside it
abbrev pub type_behind : Reader ValueType → Codes.TypeHead → Reader ValueType
type_behind inner Codes.of_number = given number_type
type_behind inner Codes.of_truth = given truth_type
type_behind inner Codes.of_sequence = inner >>= λ t. given (sequence_type t)
type_behind inner Codes.of_record = read_number >>= λ n. given (record_type n)

-- a type, of so many parts one inside another at most
abbrev pub read_type : ℕ → Reader ValueType
read_type zero = none
read_type (suc depth) = read_coded Codes.type_code Codes.type_heads >>= type_behind (read_type depth)

-- ---- claims

abbrev pub trees_of : {A : Type 0} → List (Tree A) → Trees A
trees_of [] = no_trees
trees_of (t ∷ ts) = tree_then t (trees_of ts)

-- what follows the first byte of a claim, where these read a type and a part of it
abbrev pub claim_behind : Reader ValueType → Reader (ClaimTree ℕ) → Codes.ClaimHead → Reader (ClaimTree ℕ)
claim_behind type part Codes.of_literal = read_literal >>= λ z. given (literal z)
claim_behind type part (Codes.of_truth_literal b) = given (truth_literal b)
claim_behind type part Codes.of_variable = read_number >>= λ x. given (name (variable x))
claim_behind type part Codes.of_bound = read_number >>= λ n. given (bound n)
claim_behind type part Codes.of_old_variable = read_number >>= λ x. given (name (old_variable x))
claim_behind type part Codes.of_let_symbol = read_number >>= λ label. given (name (let_symbol label))
claim_behind type part Codes.of_neg = part >>= λ a. given (unary Unary.Neg a)
claim_behind type part Codes.of_not = part >>= λ a. given (unary Unary.Not a)
claim_behind type part Codes.of_size = part >>= λ a. given (unary Unary.Size a)
claim_behind type part Codes.of_field = part >>= λ a. read_number >>= λ k. given (unary (Unary.Field k) a)
claim_behind type part (Codes.of_binary op) = part >>= λ a. part >>= λ b. given (binary op a b)
claim_behind type part Codes.of_update = part >>= λ a. part >>= λ i. part >>= λ x. given (update a i x)
claim_behind type part (Codes.of_quantified q) = part >>= λ low. part >>= λ high. part >>= λ body. given (quantified q low high body)
claim_behind type part Codes.of_sequence_literal = type >>= λ t. read_list part >>= λ ts. given (listed (sequence_of t) (trees_of ts))
claim_behind type part Codes.of_record_literal = read_number >>= λ n. read_list part >>= λ ts. given (listed (record_of n) (trees_of ts))

abbrev pub read_claim : ℕ → Reader (ClaimTree ℕ)
read_claim zero = none
read_claim (suc depth) = read_coded Codes.claim_code Codes.claim_heads >>= claim_behind (read_type depth) (read_claim depth)

-- ---- steps of proofs

abbrev pub steps_of : {A : Type 0} → List (ProofStepTree A) → ProofStepTrees A
steps_of [] = no_steps
steps_of (step ∷ steps) = step_then step (steps_of steps)

abbrev pub step_behind : Reader (ClaimTree ℕ) → Reader (ProofStepTree ℕ) → Codes.StepHead → Reader (ProofStepTree ℕ)
step_behind claim inner Codes.of_line =
    read_number >>= λ label. claim >>= λ c. read_byte >>= λ rule. read_list read_number >>= λ cites. given (line label c rule cites)
step_behind claim inner Codes.of_block =
    read_number >>= λ label. read_coded Codes.flag_code Codes.flags >>= λ has_symbol. read_number >>= λ assumed. claim >>= λ c.
    read_list inner >>= λ steps. given (block label has_symbol assumed c (steps_of steps))

abbrev pub read_step : ℕ → Reader (ProofStepTree ℕ)
read_step zero = none
read_step (suc depth) = read_coded Codes.step_code Codes.step_heads >>= step_behind (read_claim depth) (read_step depth)

-- ---- items and legs

abbrev pub item_behind : Reader (ClaimTree ℕ) → Reader (ProofStepTree ℕ) → Codes.ItemHead → Reader (ItemTree ℕ)
item_behind claim step Codes.of_assume = claim >>= λ c. given (assume c)
item_behind claim step Codes.of_check = read_coded Codes.kind_code Codes.checked_kinds >>= λ kind. claim >>= λ c. given (check kind c)
item_behind claim step Codes.of_set = read_number >>= λ x. claim >>= λ c. given (set x c)
item_behind claim step Codes.of_fresh = read_list read_number >>= λ xs. given (fresh xs)
item_behind claim step Codes.of_proof = read_list step >>= λ steps. given (proof (steps_of steps))

abbrev pub read_item : ℕ → Reader (ItemTree ℕ)
read_item depth = read_coded Codes.item_code Codes.item_heads >>= item_behind (read_claim depth) (read_step depth)

abbrev pub itself : ℕ → ℕ
itself b = b

abbrev pub read_leg : ℕ → Reader LegTree
read_leg depth =
    read_coded itself (Codes.profile ∷ []) >>= λ first. read_list (read_list (read_type depth)) >>= λ records. read_list (read_type depth) >>= λ variables.
    read_list (read_item depth) >>= λ items. given (record { records = records; variables = variables; items = items })

-- all of the bytes were read
abbrev pub whole : {A : Type 0} → A → List ℕ → Option A
whole a [] = Some a
whole a (b ∷ bytes) = None

abbrev pub all_of : {A : Type 0} → Option (A × List ℕ) → Option A
all_of None = None
all_of (Some found) = whole found.0 found.1

-- The leg whose key these bytes are. No part of it is longer than the key, so the key's length is depth enough.
abbrev pub decode : List ℕ → Option LegTree
decode bytes = all_of (read_leg (length bytes) bytes)
