-- What types and claims of a key begin with, and what follows.
use Rattle.std.specs.Prelude.{ℕ, ℤ, Option}
use Rattle.slang_values.specs.Tree.{literal, unary}
use Rattle.slang_values.specs.declared.operators.Unary.{Unary}
use Rattle.program_trees.specs.Claims.{ClaimTree}
use Rattle.key_rules.specs.Codes
use Rattle.key_rules.specs.Readers.{Reader, given, ◌>>=◌, read_number, read_literal}
use Rattle.claim_reader.specs.declared.codes.TypeHead.{TypeHead}
use Rattle.claim_reader.specs.declared.codes.TypeHead.TheVariants as types
use Rattle.claim_reader.specs.declared.codes.ClaimHead.{ClaimHead}
use Rattle.claim_reader.specs.declared.codes.ClaimHead.TheVariants as claims

abbrev pub type_head_data : TypeHead → Codes.TypeHead
type_head_data types.Number = Codes.of_number
type_head_data types.Truth = Codes.of_truth
type_head_data types.Sequence = Codes.of_sequence
type_head_data types.Record = Codes.of_record

abbrev pub claim_head_data : ClaimHead → Codes.ClaimHead
claim_head_data claims.Literal = Codes.of_literal
claim_head_data (claims.Truth b) = Codes.of_truth_literal b
claim_head_data claims.Variable = Codes.of_variable
claim_head_data claims.Bound = Codes.of_bound
claim_head_data claims.OldVariable = Codes.of_old_variable
claim_head_data claims.LetSymbol = Codes.of_let_symbol
claim_head_data claims.Neg = Codes.of_neg
claim_head_data claims.Not = Codes.of_not
claim_head_data claims.Size = Codes.of_size
claim_head_data claims.Field = Codes.of_field
claim_head_data (claims.Binary op) = Codes.of_binary op
claim_head_data claims.Update = Codes.of_update
claim_head_data (claims.Quantified q) = Codes.of_quantified q
claim_head_data claims.Sequence = Codes.of_sequence_literal
claim_head_data claims.Record = Codes.of_record_literal

-- what begins with that byte
unfoldable pub type_head_coded : ℕ → Option Codes.TypeHead
type_head_coded byte = Codes.coded Codes.type_code Codes.type_heads byte

unfoldable pub claim_head_coded : ℕ → Option Codes.ClaimHead
claim_head_coded byte = Codes.coded Codes.claim_code Codes.claim_heads byte

-- what follows the first byte of a claim
abbrev pub literal_behind : Reader (ClaimTree ℕ)
literal_behind = read_literal >>= λ z. given (literal z)

abbrev pub number_behind : (ℕ → ClaimTree ℕ) → Reader (ClaimTree ℕ)
number_behind of_number = read_number >>= λ n. given (of_number n)

abbrev pub one_part : Unary → Reader (ClaimTree ℕ) → Reader (ClaimTree ℕ)
one_part op part = part >>= λ a. given (unary op a)
