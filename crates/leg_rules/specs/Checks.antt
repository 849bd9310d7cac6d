-- What an expression of the program asks for, so that it does not fail.
use Rattle.std.specs.Prelude.{ℕ, pos, List, [], ◌∷◌, ◌++◌, map, if◌then◌else◌}
use Rattle.slang_values.specs.Tree.{literal, unary as unary_tree, binary as binary_tree}
use Rattle.slang_values.specs.declared.operators.Unary.{Unary}
use Rattle.slang_values.specs.declared.operators.Binary.{Binary}
use Rattle.slang_tree.specs.declared.expression.Operator.{Operator}
use Rattle.program_trees.specs.declared.answer.Kind.{Kind}
use Rattle.program_trees.specs.declared.answer.Kind.TheVariants as kinds
use Rattle.program_trees.specs.Operators.{Evaluated, always, where_true, where_false, right_evaluated, divides}
use Rattle.program_trees.specs.Claims.{ClaimTree}
use Rattle.program_trees.specs.Programs.{TypedExpr, number, truth, variable, unary, binary, read, update, listed, TypedExprs, no_exprs, expr_then, claim_of}

-- a claim that is to hold, of a kind, and the node that it is told of at
pub record Demand (A : Type 0) : Type 0 where
  pub kind : Kind
  pub claim : ClaimTree A
  pub node : ℕ

-- `0 <= i & i < a.size`
abbrev pub in_range : {A : Type 0} → ClaimTree A → ClaimTree A → ClaimTree A
in_range head index = binary_tree Binary.And (binary_tree Binary.Le (literal (pos 0)) index) (binary_tree Binary.Lt index (unary_tree Unary.Size head))

-- `!(d == 0)`
abbrev pub is_not_zero : {A : Type 0} → ClaimTree A → ClaimTree A
is_not_zero divisor = unary_tree Unary.Not (binary_tree Binary.Eq divisor (literal (pos 0)))

-- the claim is demanded only where the condition holds
abbrev pub under : {A : Type 0} → ClaimTree A → Demand A → Demand A
under condition d = record { kind = d.kind; claim = binary_tree Binary.Imply condition d.claim; node = d.node }

-- The demands of a right operand are made only where it is evaluated.
abbrev pub guarded : {A : Type 0} → Evaluated → ClaimTree A → List (Demand A) → List (Demand A)
guarded always left ds = ds
guarded where_true left ds = map (under left) ds
guarded where_false left ds = map (under (unary_tree Unary.Not left)) ds

abbrev pub own_division : {A : Type 0} → ℕ → Operator → ClaimTree A → List (Demand A)
own_division node operator divisor = if divides operator then record { kind = kinds.Division; claim = is_not_zero divisor; node = node } ∷ [] else []

abbrev mutual
  -- In the order of evaluation: parts come before what they are parts of, from the left.
  pub demands : {A : Type 0} → TypedExpr A → List (Demand A)
  demands (number node z) = []
  demands (truth node b) = []
  demands (variable node x) = []
  demands (unary node op operand) = demands operand
  demands (binary node operator left right) =
      demands left ++ (guarded (right_evaluated operator) (claim_of left) (demands right) ++ own_division node operator (claim_of right))
  demands (read node head index) =
      demands head ++ (demands index ++ record { kind = kinds.Index; claim = in_range (claim_of head) (claim_of index); node = node } ∷ [])
  demands (update node head index element) =
      demands head ++ (demands index ++ (demands element ++ record { kind = kinds.Index; claim = in_range (claim_of head) (claim_of index); node = node } ∷ []))
  demands (listed node front parts) = part_demands parts

  pub part_demands : {A : Type 0} → TypedExprs A → List (Demand A)
  part_demands no_exprs = []
  part_demands (expr_then expr exprs) = demands expr ++ part_demands exprs

-- of expressions one after the other
abbrev pub argument_demands : {A : Type 0} → List (TypedExpr A) → List (Demand A)
argument_demands [] = []
argument_demands (expr ∷ exprs) = demands expr ++ argument_demands exprs
