-- The bytes that say what a part of a key is. Each is stated once: it is read by looking for it among the bytes of all that may stand there.
use Rattle.std.specs.Prelude.{ℕ, nat_eq, Bool, true, false, List, [], ◌∷◌, Option, Some, None, if◌then◌else◌}
use Rattle.slang_values.specs.declared.operators.Unary.{Unary}
use Rattle.slang_values.specs.declared.operators.Binary.{Binary}
use Rattle.slang_values.specs.declared.operators.Quantifier.{Quantifier}
use Rattle.program_trees.specs.declared.answer.Kind.{Kind}
use Rattle.program_trees.specs.declared.answer.Kind.TheVariants as kinds

-- what has this code, of those listed
abbrev pub coded : {A : Type 0} → (A → ℕ) → List A → ℕ → Option A
coded code [] n = None
coded code (x ∷ xs) n = if nat_eq (code x) n then Some x else coded code xs n

-- the first byte of a leg, which names this form of keys
abbrev pub profile : ℕ
profile = 1

-- ---- types

-- what a type begins with; no part of a leg is of the type `Unit`
pub data TypeHead : Type 0 where
  of_number : TypeHead
  of_truth : TypeHead
  of_sequence : TypeHead
  of_record : TypeHead

abbrev pub type_code : TypeHead → ℕ
type_code of_number = 0
type_code of_truth = 1
type_code of_sequence = 2
type_code of_record = 3

abbrev pub type_heads : List TypeHead
type_heads = of_number ∷ of_truth ∷ of_sequence ∷ of_record ∷ []

-- ---- claims

-- what a claim begins with
pub data ClaimHead : Type 0 where
  of_literal : ClaimHead
  of_truth_literal : Bool → ClaimHead
  of_variable : ClaimHead
  of_bound : ClaimHead
  of_old_variable : ClaimHead
  of_neg : ClaimHead
  of_not : ClaimHead
  of_size : ClaimHead
  of_field : ClaimHead
  of_binary : Binary → ClaimHead
  of_update : ClaimHead
  of_sequence_literal : ClaimHead
  of_record_literal : ClaimHead
  of_quantified : Quantifier → ClaimHead
  of_let_symbol : ClaimHead

abbrev pub claim_code : ClaimHead → ℕ
claim_code of_literal = 0
claim_code (of_truth_literal true) = 1
claim_code (of_truth_literal false) = 2
claim_code of_variable = 3
claim_code of_bound = 4
claim_code of_old_variable = 5
claim_code of_neg = 6
claim_code of_not = 7
claim_code (of_binary Binary.Add) = 8
claim_code (of_binary Binary.Sub) = 9
claim_code (of_binary Binary.Mul) = 10
claim_code (of_binary Binary.Div) = 11
claim_code (of_binary Binary.Rem) = 12
claim_code (of_binary Binary.And) = 13
claim_code (of_binary Binary.Or) = 14
claim_code (of_binary Binary.Imply) = 15
claim_code (of_binary Binary.Eq) = 16
claim_code (of_binary Binary.Lt) = 17
claim_code (of_binary Binary.Le) = 18
claim_code of_size = 19
claim_code (of_binary Binary.Read) = 20
claim_code of_update = 21
claim_code (of_binary Binary.Append) = 22
claim_code of_sequence_literal = 23
claim_code of_record_literal = 24
claim_code of_field = 25
claim_code (of_quantified Quantifier.All) = 26
claim_code (of_quantified Quantifier.Exists) = 27
claim_code of_let_symbol = 28

abbrev pub claim_heads : List ClaimHead
claim_heads =
    of_literal ∷ of_truth_literal true ∷ of_truth_literal false ∷ of_variable ∷ of_bound ∷ of_old_variable ∷ of_neg ∷ of_not
    ∷ of_binary Binary.Add ∷ of_binary Binary.Sub ∷ of_binary Binary.Mul ∷ of_binary Binary.Div ∷ of_binary Binary.Rem
    ∷ of_binary Binary.And ∷ of_binary Binary.Or ∷ of_binary Binary.Imply ∷ of_binary Binary.Eq ∷ of_binary Binary.Lt ∷ of_binary Binary.Le
    ∷ of_size ∷ of_binary Binary.Read ∷ of_update ∷ of_binary Binary.Append ∷ of_sequence_literal ∷ of_record_literal ∷ of_field
    ∷ of_quantified Quantifier.All ∷ of_quantified Quantifier.Exists ∷ of_let_symbol ∷ []

abbrev pub unary_head : Unary → ClaimHead
unary_head Unary.Neg = of_neg
unary_head Unary.Not = of_not
unary_head Unary.Size = of_size
unary_head (Unary.Field k) = of_field

-- ---- steps of proofs

pub data StepHead : Type 0 where
  of_line : StepHead
  of_block : StepHead

abbrev pub step_code : StepHead → ℕ
step_code of_line = 0
step_code of_block = 1

abbrev pub step_heads : List StepHead
step_heads = of_line ∷ of_block ∷ []

-- whether a block has a symbol
abbrev pub flag_code : Bool → ℕ
flag_code false = 0
flag_code true = 1

abbrev pub flags : List Bool
flags = false ∷ true ∷ []

-- ---- items

pub data ItemHead : Type 0 where
  of_assume : ItemHead
  of_check : ItemHead
  of_set : ItemHead
  of_fresh : ItemHead
  of_proof : ItemHead

abbrev pub item_code : ItemHead → ℕ
item_code of_assume = 0
item_code of_check = 1
item_code of_set = 2
item_code of_fresh = 3
item_code of_proof = 4

abbrev pub item_heads : List ItemHead
item_heads = of_assume ∷ of_check ∷ of_set ∷ of_fresh ∷ of_proof ∷ []

abbrev pub kind_code : Kind → ℕ
kind_code kinds.Assert = 0
kind_code kinds.Requires = 1
kind_code kinds.Ensures = 2
kind_code kinds.InvStart = 3
kind_code kinds.InvKept = 4
kind_code kinds.Index = 5
kind_code kinds.Division = 6
kind_code kinds.Deduce = 7
kind_code kinds.Term = 8

-- the kinds that a check may have
abbrev pub checked_kinds : List Kind
checked_kinds = kinds.Assert ∷ kinds.Requires ∷ kinds.Ensures ∷ kinds.InvStart ∷ kinds.InvKept ∷ kinds.Index ∷ kinds.Division ∷ []
