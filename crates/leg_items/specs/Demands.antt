-- Demands under conditions, as plain data.
use Rattle.std.specs.Prelude.{◌≡◌, ℕ, pos, List, [], ◌∷◌, ◌++◌, map}
use Rattle.slang_values.specs.Tree.{literal, unary, binary}
use Rattle.slang_values.specs.declared.operators.Unary.{Unary}
use Rattle.slang_values.specs.declared.operators.Binary.{Binary}
use Rattle.slang_tree.specs.declared.expression.Operator.{Operator}
use Rattle.program_trees.specs.declared.answer.Kind.TheVariants as kinds
use Rattle.program_trees.specs.Claims.{ClaimTree}
use Rattle.program_trees.specs.Operators.{Evaluated as EvaluatedData, always, where_true, where_false, right_evaluated}
use Rattle.lk_claims.specs.declared.claim.Claim.{Claim}
use Rattle.leg_rules.specs.Checks.{Demand, in_range}
use Rattle.leg_rules.specs.Legs.{Items}
use Rattle.leg_items.specs.declared.demands.Evaluated.{Evaluated}
use Rattle.leg_items.specs.declared.demands.Evaluated.TheVariants as e
use Rattle.leg_items.specs.declared.name.Scope.{Scope}
use Rattle.leg_items.specs.declared.name.Frame.TheVariants as f
use Rattle.leg_items.specs.Drafts.{framed_demand}

abbrev pub evaluated_data : Evaluated → EvaluatedData
evaluated_data e.Always = always
evaluated_data e.WhereTrue = where_true
evaluated_data e.WhereFalse = where_false

abbrev pub operator_evaluated : Operator → EvaluatedData
operator_evaluated operator = right_evaluated operator

-- the claim where the conditions hold, the first of them outermost
abbrev pub implied_by : {A : Type 0} → List (ClaimTree A) → ClaimTree A → ClaimTree A
implied_by [] claim = claim
implied_by (condition ∷ conditions) claim = binary Binary.Imply condition (implied_by conditions claim)

abbrev pub under_all : {A : Type 0} → List (ClaimTree A) → Demand A → Demand A
under_all conditions d = record { kind = d.kind; claim = implied_by conditions d.claim; node = d.node }

-- the checks of the demands, each under the conditions
abbrev pub demanded_under : Scope → List (ClaimTree ℕ) → List (Demand ℕ) → Items
demanded_under scope conditions ds = map (λ d. framed_demand (f.Own scope) (under_all conditions d)) ds

abbrev pub range_demand : {A : Type 0} → ℕ → ClaimTree A → ClaimTree A → Demand A
range_demand node head index = record { kind = kinds.Index; claim = in_range head index; node = node }

-- the two parts of `in_range`
abbrev pub at_least_zero : {A : Type 0} → ClaimTree A → ClaimTree A
at_least_zero index = binary Binary.Le (literal (pos 0)) index

abbrev pub under_size : {A : Type 0} → ClaimTree A → ClaimTree A → ClaimTree A
under_size head index = binary Binary.Lt index (unary Unary.Size head)

-- the second list is the first without its last member
abbrev pub IsWithoutLast : List Claim → List Claim → Type 0
IsWithoutLast before now = (last : Claim) → (front : List Claim) → before ≡ front ++ last ∷ [] → now ≡ front
