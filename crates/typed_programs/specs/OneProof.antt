-- That a program is well typed has one proof at most, as a type's invariant must.
use Rattle.std.proofs.Common.{◌≡◌, ℕ, zero, suc, Bool, List, [], ◌∷◌, map, length, Option, Some, None}
use Rattle.std.specs.Coded.{×_prop, Unit-prop, le_prop}
use Rattle.std.specs.List.{AllByRecursion-prop}
use Rattle.std.proofs.lemmas.Map.Keys.{IsDistinct-prop}
use Rattle.std.proofs.Math.Bool.{Bool-set}
use Rattle.std.proofs.Props.{props}
use Rattle.std.specs.declared.cmp.Ordering.TheVariants.{Less}
use Rattle.slang_values.specs.Value.{ValueType, truth_type}
use Rattle.slang_values.specs.Typing.{NameTypes}
use Rattle.validity.specs.OneProof.{type_set, three, four, IsTyped-prop, IsClosed-prop, AreWellFormed-prop}
use Rattle.program_trees.specs.Claims.{ClaimName, ClaimTree, NotedTree, ProofStepTree, line, block, ProofStepTrees, no_steps, step_then}
use Rattle.program_trees.specs.Programs.{TypedExpr, claim_of, CodeTree, set, give, assert, deduce, branch, loop, call, CodeTrees, no_code, code_then, MethodTree, GlobalTree, ProgramTree}
use Rattle.program_trees.specs.Variables.{Variable}
use Rattle.leg_rules.specs.Typed.{with_label, no_labels}
use Rattle.run_rules.specs.Runs.{method_at}
use Rattle.typed_programs.specs.Parts.{expr_nodes}
use Rattle.typed_programs.specs.Scopes.{Scope, proof_names, claim_names, IsClaimOver, IsNotedIn, IsValueIn, AreValuesIn, IsStepIn, AreStepsIn}
use Rattle.typed_programs.specs.WellTyped.{Around, within, behind, target_type, IsTarget, IsOptionalTarget, End, goes_on, returns, ended, end_behind, IsModified, IsCall, IsTypedCode, AreTypedCodes, IsTypedMethod, IsTypedGlobal, AreAscending, IsTypedProgram, scope_before, scope_behind, around_body, body_end}

five : {A B C D E : Type 0} → IsProp A → IsProp B → IsProp C → IsProp D → IsProp E → IsProp (A × B × C × D × E)
five p q r s t x y i = (p x.0 y.0 i, q x.1 y.1 i, r x.2 y.2 i, s x.3 y.3 i, t x.4 y.4 i)

IsClaimOver-prop : (scope : Scope) (names : NameTypes (ClaimName Variable)) (claim : ClaimTree Variable) → IsProp (IsClaimOver scope names claim)
IsClaimOver-prop scope names claim f g i = record {
  typed = IsTyped-prop scope.program.records names claim truth_type f.typed g.typed i;
  closed = IsClosed-prop 0 claim f.closed g.closed i;
  elements = Bool-set _ _ f.elements g.elements i;
  low = le_prop f.low g.low i;
}

IsNotedIn-prop : (scope : Scope) (noted : NotedTree Variable) → IsProp (IsNotedIn scope noted)
IsNotedIn-prop scope noted f g i = record {
  claim = IsClaimOver-prop scope (claim_names scope) noted.claim f.claim g.claim i;
  node = le_prop f.node g.node i;
}

IsValueIn-prop : (scope : Scope) (type : ValueType) (expr : TypedExpr Variable) → IsProp (IsValueIn scope type expr)
IsValueIn-prop scope type expr f g i = record {
  typed = IsTyped-prop scope.program.records (claim_names scope) (claim_of expr) type f.typed g.typed i;
  elements = Bool-set _ _ f.elements g.elements i;
  low = le_prop f.low g.low i;
  nodes = AllByRecursion-prop _ (λ n. le_prop) (expr_nodes expr) f.nodes g.nodes i;
}

AreValuesIn-prop : (scope : Scope) (types : List ValueType) (exprs : List (TypedExpr Variable)) → IsProp (AreValuesIn scope types exprs)
AreValuesIn-prop scope [] [] = Unit-prop
AreValuesIn-prop scope (t ∷ ts) (expr ∷ exprs) = ×_prop (IsValueIn-prop scope t expr) (AreValuesIn-prop scope ts exprs)
AreValuesIn-prop scope [] (expr ∷ exprs) = λ x y. absurd x
AreValuesIn-prop scope (t ∷ ts) [] = λ x y. absurd x

mutual
  IsStepIn-prop : (scope : Scope) (depth : ℕ) (lets : ℕ → Bool) (step : ProofStepTree Variable) → IsProp (IsStepIn scope depth lets step)
  IsStepIn-prop scope zero lets (line label claim rule cites) = ×_prop (IsClaimOver-prop scope (proof_names scope lets) claim) (Bool-set _ _)
  IsStepIn-prop scope (suc depth) lets (line label claim rule cites) = ×_prop (IsClaimOver-prop scope (proof_names scope lets) claim) (Bool-set _ _)
  IsStepIn-prop scope zero lets (block label has_symbol assumed given steps) =
      ×_prop (IsClaimOver-prop scope (proof_names scope (with_label has_symbol label lets)) given) (Bool-set _ _)
  IsStepIn-prop scope (suc depth) lets (block label has_symbol assumed given steps) =
      ×_prop (IsClaimOver-prop scope (proof_names scope (with_label has_symbol label lets)) given)
      (AreStepsIn-prop scope depth (with_label has_symbol label lets) steps)

  AreStepsIn-prop : (scope : Scope) (depth : ℕ) (lets : ℕ → Bool) (steps : ProofStepTrees Variable) → IsProp (AreStepsIn scope depth lets steps)
  AreStepsIn-prop scope depth lets no_steps = Unit-prop
  AreStepsIn-prop scope depth lets (step_then step steps) = ×_prop (IsStepIn-prop scope depth lets step) (AreStepsIn-prop scope depth lets steps)

IsTarget-prop : (around : Around) (x : Variable) (t : ValueType) → IsProp (IsTarget around x t)
IsTarget-prop around x t = ×_prop (Bool-set _ _) (hlevel (props, type_set))

IsOptionalTarget-prop : (around : Around) (target : Option Variable) (t : ValueType) → IsProp (IsOptionalTarget around target t)
IsOptionalTarget-prop around None t = Unit-prop
IsOptionalTarget-prop around (Some x) t = IsTarget-prop around x t

IsModified-prop : (around : Around) (modifies : List Variable) → IsProp (IsModified around modifies)
IsModified-prop around modifies f g i = record {
  vars = Bool-set _ _ f.vars g.vars i;
  once = IsDistinct-prop _ modifies f.once g.once i;
}

IsCall-prop : (around : Around) (target : Option Variable) (number : ℕ) (arguments : List (TypedExpr Variable)) → IsProp (IsCall around target number arguments)
IsCall-prop around target number arguments f g i = record {
  there = le_prop f.there g.there i;
  arguments_typed = AreValuesIn-prop around.scope (method_at around.scope.program number).params arguments f.arguments_typed g.arguments_typed i;
  covered = Bool-set _ _ f.covered g.covered i;
  target_typed = IsOptionalTarget-prop around target (method_at around.scope.program number).result f.target_typed g.target_typed i;
}

mutual
  IsTypedCode-prop : (end : End) (around : Around) (code : CodeTree Variable) → IsProp (IsTypedCode end around code)
  IsTypedCode-prop end around (set node x value) =
      three le_prop (IsTarget-prop around x (target_type around x)) (IsValueIn-prop around.scope (target_type around x) value)
  IsTypedCode-prop (returns t) around (give node value) = ×_prop le_prop (IsValueIn-prop around.scope t value)
  IsTypedCode-prop goes_on around (give node value) = λ x y. absurd x
  IsTypedCode-prop ended around (give node value) = λ x y. absurd x
  IsTypedCode-prop end around (assert noted) = IsNotedIn-prop around.scope noted
  IsTypedCode-prop end around (deduce node steps) = three le_prop (AreStepsIn-prop around.scope 200 no_labels steps) (IsDistinct-prop _ _)
  IsTypedCode-prop end around (branch node test on_true on_false) =
      four le_prop (IsValueIn-prop around.scope truth_type test) (AreTypedCodes-prop goes_on around on_true) (AreTypedCodes-prop goes_on around on_false)
  IsTypedCode-prop end around (loop node test modifies invariants body) =
      five le_prop (IsValueIn-prop around.scope truth_type test) (IsModified-prop around modifies)
      (AllByRecursion-prop _ (IsNotedIn-prop around.scope) invariants) (AreTypedCodes-prop goes_on (within around modifies) body)
  IsTypedCode-prop end around (call node target name_node number arguments) = three le_prop le_prop (IsCall-prop around target number arguments)

  AreTypedCodes-prop : (end : End) (around : Around) (codes : CodeTrees Variable) → IsProp (AreTypedCodes end around codes)
  AreTypedCodes-prop goes_on around no_code = Unit-prop
  AreTypedCodes-prop (returns t) around no_code = λ x y. absurd x
  AreTypedCodes-prop ended around no_code = Unit-prop
  AreTypedCodes-prop ended around (code_then code codes) = λ x y. absurd x
  AreTypedCodes-prop goes_on around (code_then code codes) =
      ×_prop (IsTypedCode-prop goes_on around code) (AreTypedCodes-prop (end_behind goes_on code) (behind around code) codes)
  AreTypedCodes-prop (returns t) around (code_then code codes) =
      ×_prop (IsTypedCode-prop (returns t) around code) (AreTypedCodes-prop (end_behind (returns t) code) (behind around code) codes)

same_types_prop : (ss ts : List ValueType) → IsProp (ss ≡ ts)
same_types_prop ss ts = hlevel (props, type_set)

IsTypedMethod-prop : (program : ProgramTree Variable) (nodes : ℕ) (method : MethodTree Variable) → IsProp (IsTypedMethod program nodes method)
IsTypedMethod-prop program nodes method f g i = record {
  node = le_prop f.node g.node i;
  params = same_types_prop _ _ f.params g.params i;
  locals = Bool-set _ _ f.locals g.locals i;
  result_type = Bool-set _ _ f.result_type g.result_type i;
  modifies = Bool-set _ _ f.modifies g.modifies i;
  once = IsDistinct-prop _ method.modifies f.once g.once i;
  requires_ = AllByRecursion-prop _ (IsNotedIn-prop (scope_before program nodes method)) method.requires_ f.requires_ g.requires_ i;
  ensures_ = AllByRecursion-prop _ (IsNotedIn-prop (scope_behind program nodes method)) method.ensures_ f.ensures_ g.ensures_ i;
  body = AreTypedCodes-prop (body_end program nodes method method.result) (around_body program nodes method) method.body f.body g.body i;
}

IsTypedGlobal-prop : (program : ProgramTree Variable) (nodes : ℕ) (global : GlobalTree Variable) → IsProp (IsTypedGlobal program nodes global)
IsTypedGlobal-prop program nodes global f g i = record {
  type = Bool-set _ _ f.type g.type i;
  constant = Bool-set _ _ f.constant g.constant i;
  initial = IsValueIn-prop _ global.type global.initial f.initial g.initial i;
}

AreAscending-prop : (names : List (List ℕ)) → IsProp (AreAscending names)
AreAscending-prop [] = Unit-prop
AreAscending-prop (x ∷ []) = Unit-prop
AreAscending-prop (x ∷ y ∷ names) = ×_prop (hlevel props) (AreAscending-prop (y ∷ names))

pub IsTypedProgram-prop : (program : ProgramTree Variable) (node_files : List ℕ) (files : ℕ) → IsProp (IsTypedProgram program node_files files)
IsTypedProgram-prop program node_files files f g i = record {
  records = AreWellFormed-prop program.records f.records g.records i;
  fields = AllByRecursion-prop _ (λ types. Bool-set _ _) program.records f.fields g.fields i;
  globals = AllByRecursion-prop _ (IsTypedGlobal-prop program (length node_files)) program.globals f.globals g.globals i;
  methods = AllByRecursion-prop _ (IsTypedMethod-prop program (length node_files)) program.methods f.methods g.methods i;
  sorted = AreAscending-prop (map (λ method. method.name) program.methods) f.sorted g.sorted i;
  node_files_there = AllByRecursion-prop _ (λ file. le_prop) node_files f.node_files_there g.node_files_there i;
}
