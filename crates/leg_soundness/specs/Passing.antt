-- What it means that a leg passes: along it each check holds where the assumptions before it do.
use Rattle.std.specs.Prelude.{◌≡◌, ℕ, true, List, [], ◌∷◌, if◌then◌else◌}
use Rattle.std.specs.List.{AllByRecursion}
use Rattle.std.specs.Set.{is_member}
use Rattle.slang_values.specs.Value.{Records, Value, unit, truth_of}
use Rattle.slang_values.specs.Tree.{value}
use Rattle.slang_values.specs.Typing.{NameTypes, FitNames}
use Rattle.validity.specs.Validity.{no_bounds}
use Rattle.program_trees.specs.Claims.{ClaimName, variable, old_variable, let_symbol, ClaimTree, line, block, ProofStepTrees, no_steps, step_then}
use Rattle.program_trees.specs.Programs.{MethodTree, ProgramTree}
use Rattle.program_trees.specs.Variables.{Variable, variable_types}
use Rattle.program_trees.specs.Legs.{ItemTree, assume, check, set, fresh, proof}
use Rattle.run_rules.specs.Runs.{method_at}
use Rattle.run_rules.specs.Reach.{Reaches}
use Rattle.leg_rules.specs.LegNames.{LegName, own, of_call, same_name}
use Rattle.leg_rules.specs.Legs.{Items, legs}

-- the values of a leg's variables, and what they were before their last changes
pub record LegValues : Type 0 where
  pub now : LegName → Value
  pub old : LegName → Value

-- Without a change the old value is the present one.
abbrev pub begins : (LegName → Value) → LegValues
begins names = record { now = names; old = names }

abbrev pub leg_name_value : LegValues → ClaimName LegName → Value
leg_name_value s (variable x) = s.now x
leg_name_value s (old_variable x) = s.old x
leg_name_value s (let_symbol label) = unit

abbrev pub leg_value : Records → LegValues → ClaimTree LegName → Value
leg_value records s claim = value records (leg_name_value s) no_bounds claim

abbrev pub IsTrueAt : Records → LegValues → ClaimTree LegName → Type 0
IsTrueAt records s claim = truth_of (leg_value records s claim) ≡ true

abbrev pub with_now : LegName → Value → LegValues → LegValues
with_now x v s = record {
  now = λ y. if same_name y x then v else s.now y;
  old = λ y. if same_name y x then s.now y else s.old y;
}

-- the variables of the list have the values that the function gives them
abbrev pub with_fresh : List LegName → (LegName → Value) → LegValues → LegValues
with_fresh xs new s = record {
  now = λ y. if is_member same_name xs y then new y else s.now y;
  old = λ y. if is_member same_name xs y then s.now y else s.old y;
}

-- the claims of the outermost steps
abbrev pub claimed : ProofStepTrees LegName → List (ClaimTree LegName)
claimed no_steps = []
claimed (step_then (line label claim rule cites) steps) = claim ∷ claimed steps
claimed (step_then (block label has_symbol assumed given inner) steps) = claimed steps

-- An item, and what comes next: what is checked and what a proof claims holds, and what comes next holds where what is assumed does, whatever values of
-- their types the fresh variables have.
abbrev pub PassesItem : Records → NameTypes LegName → ItemTree LegName → (LegValues → Type 0) → LegValues → Type 0
PassesItem records types (assume claim) Next s = IsTrueAt records s claim → Next s
PassesItem records types (check kind claim) Next s = IsTrueAt records s claim × Next s
PassesItem records types (set x claim) Next s = Next (with_now x (leg_value records s claim) s)
PassesItem records types (fresh xs) Next s = (new : LegName → Value) → FitNames records types new → Next (with_fresh xs new s)
PassesItem records types (proof steps) Next s = AllByRecursion (IsTrueAt records s) (claimed steps) × Next s

-- The items pass one after the other, and at their end it is as the end says.
abbrev pub Passes : Records → NameTypes LegName → Items → (LegValues → Type 0) → LegValues → Type 0
Passes records types [] End s = End s
Passes records types (noted ∷ items) End s = PassesItem records types noted.item (Passes records types items End) s

abbrev pub leg_types : ProgramTree Variable → MethodTree Variable → NameTypes LegName
leg_types program method (own x) = variable_types program method x
leg_types program method (of_call node number x) = variable_types program (method_at program number) x

-- Nothing more is asked at the end of a leg.
abbrev pub AtEnd : LegValues → Type 0
AtEnd s = Unit {0}

abbrev pub AllPass : ProgramTree Variable → MethodTree Variable → List Items → LegValues → Type 0
AllPass program method all s = AllByRecursion (λ leg. Passes program.records (leg_types program method) leg AtEnd s) all

-- The legs of the method pass, whatever values of their types their variables begin with.
abbrev pub LegsPass : ProgramTree Variable → MethodTree Variable → Type 0
LegsPass program method =
    (names : LegName → Value) → FitNames program.records (leg_types program method) names → AllPass program method (legs program method) (begins names)

-- The legs of each method pass that calls lead to from the one of that number.
abbrev pub ReachedLegsPass : ProgramTree Variable → ℕ → Type 0
ReachedLegsPass program from = (number : ℕ) → Reaches program from number → LegsPass program (method_at program number)
