-- What may be named at a place of a program, and which claims and expressions are well typed there.
use Rattle.std.specs.Prelude.{◌≡◌, ℕ, zero, suc, ◌<◌, ◌≤◌, nat_le, Bool, true, false, not, List, [], ◌∷◌, length, slice_get, ⊤, Option, Some, None, if◌then◌else◌}
use Rattle.std.specs.Option.{option_map_or}
use Rattle.std.specs.List.{AllByRecursion, list_all}
use Rattle.slang_values.specs.Value.{ValueType, number_type, truth_type, is_element_type}
use Rattle.slang_values.specs.Measure.{height}
use Rattle.slang_values.specs.Typing.{NameTypes, IsTyped, IsClosed}
use Rattle.program_trees.specs.Claims.{ClaimName, variable, old_variable, let_symbol, ClaimTree, NotedTree, ProofStepTree, line, block, ProofStepTrees, no_steps, step_then, is_rule, is_empty}
use Rattle.program_trees.specs.Programs.{TypedExpr, claim_of, MethodTree, ProgramTree}
use Rattle.program_trees.specs.Variables.{Variable, local, global, entry, result, variable_types}
use Rattle.leg_rules.specs.Typed.{with_label}
use Rattle.typed_programs.specs.Parts.{expr_height, expr_nodes, element_types}

-- a place of a method: the variables that may be named there, and how many nodes the text has
pub record Scope : Type 0 where
  pub program : ProgramTree Variable
  pub method : MethodTree Variable
  pub named : Variable → Bool
  pub nodes : ℕ

-- the type of a variable that may be named
abbrev pub type_in : Scope → Variable → Option ValueType
type_in scope x = if scope.named x then variable_types scope.program scope.method x else None

-- a `var`: a parameter is none, and no global that is fixed
abbrev pub is_var : Scope → Variable → Bool
is_var scope (local n) = nat_le (length scope.method.params) n
is_var scope (global n) = option_map_or (λ g. not g.fixed) (slice_get scope.program.globals n) false
is_var scope (entry n) = false
is_var scope result = false

abbrev pub claim_names : Scope → NameTypes (ClaimName Variable)
claim_names scope (variable x) = type_in scope x
claim_names scope (old_variable x) = None
claim_names scope (let_symbol label) = None

-- In a proof a claim also names old values of `var`s, and the symbols of the blocks around it, which are numbers.
abbrev pub proof_names : Scope → (ℕ → Bool) → NameTypes (ClaimName Variable)
proof_names scope lets (variable x) = type_in scope x
proof_names scope lets (old_variable x) = if is_var scope x then type_in scope x else None
proof_names scope lets (let_symbol label) = if lets label then Some number_type else None

-- The claim is a truth value, no bound variable of it is loose, its sequences have elements, and it is not higher than 2,000.
pub record IsClaimOver (scope : Scope) (names : NameTypes (ClaimName Variable)) (claim : ClaimTree Variable) : Type 0 where
  pub typed : IsTyped scope.program.records names claim truth_type
  pub closed : IsClosed 0 claim
  pub elements : list_all is_element_type (element_types claim) ≡ true
  pub low : height claim ≤ 2000

pub record IsNotedIn (scope : Scope) (noted : NotedTree Variable) : Type 0 where
  pub claim : IsClaimOver scope (claim_names scope) noted.claim
  pub node : noted.node < scope.nodes

-- The expression has a value of that type, is not higher than 1,000, and has its nodes in the text.
pub record IsValueIn (scope : Scope) (type : ValueType) (expr : TypedExpr Variable) : Type 0 where
  pub typed : IsTyped scope.program.records (claim_names scope) (claim_of expr) type
  pub elements : list_all is_element_type (element_types (claim_of expr)) ≡ true
  pub low : expr_height expr ≤ 1000
  pub nodes : AllByRecursion (λ n. n < scope.nodes) (expr_nodes expr)

-- one value for each type
abbrev pub AreValuesIn : Scope → List ValueType → List (TypedExpr Variable) → Type 0
AreValuesIn scope [] [] = ⊤
AreValuesIn scope (t ∷ ts) (expr ∷ exprs) = IsValueIn scope t expr × AreValuesIn scope ts exprs
AreValuesIn scope [] (expr ∷ exprs) = ⊥
AreValuesIn scope (t ∷ ts) [] = ⊥

abbrev mutual
  -- a step by a rule of the table, or a block, which has steps only where that many blocks may stand one inside another
  pub IsStepIn : Scope → ℕ → (ℕ → Bool) → ProofStepTree Variable → Type 0
  IsStepIn scope depth lets (line label claim rule cites) =
      IsClaimOver scope (proof_names scope lets) claim × (is_rule rule ≡ true)
  IsStepIn scope zero lets (block label has_symbol assumed given steps) =
      IsClaimOver scope (proof_names scope (with_label has_symbol label lets)) given × (is_empty steps ≡ true)
  IsStepIn scope (suc depth) lets (block label has_symbol assumed given steps) =
      IsClaimOver scope (proof_names scope (with_label has_symbol label lets)) given × AreStepsIn scope depth (with_label has_symbol label lets) steps

  pub AreStepsIn : Scope → ℕ → (ℕ → Bool) → ProofStepTrees Variable → Type 0
  AreStepsIn scope depth lets no_steps = ⊤
  AreStepsIn scope depth lets (step_then step steps) = IsStepIn scope depth lets step × AreStepsIn scope depth lets steps
