-- Claims and expressions of a typed program are well typed on the legs of a method.
use Rattle.std.proofs.Common.{◌≡◌, ℕ, zero, suc, Bool, true, false, cond, List, [], ◌∷◌, ◌++◌, map, Option, Some, None, refl}
use Rattle.std.specs.List.{AllByRecursion}
use Rattle.std.proofs.lemmas.Bool.{false≢true}
use Rattle.numbering_laws.proofs.Places.{none≢some, all_append}
use Rattle.slang_values.specs.Value.{ValueType, truth_type}
use Rattle.slang_values.specs.Tree.{name}
use Rattle.slang_values.specs.Typing.{NameTypes, IsTyped, IsClosed}
use Rattle.validity.proofs.Binds.{IsTyped-bind, IsClosed-bind}
use Rattle.program_trees.specs.declared.answer.Kind.{Kind}
use Rattle.program_trees.specs.Claims.{ClaimName, variable, old_variable, let_symbol, ClaimTree, NotedTree, ProofStepTree, line, block, ProofStepTrees, no_steps, step_then, renamed_name, renamed_claim, renamed_noted, renamed_step, renamed_steps, is_empty}
use Rattle.program_trees.specs.Programs.{TypedExpr, claim_of, MethodTree, ProgramTree}
use Rattle.program_trees.specs.Variables.{Variable, variable_types}
use Rattle.program_trees.specs.Legs.{set}
use Rattle.leg_rules.specs.LegNames.{LegName, own}
use Rattle.leg_rules.specs.Checks.{Demand, demands, argument_demands}
use Rattle.leg_rules.specs.Legs.{Items, at_node, own_claim, assumed, checked, demanded, set_items, test_items, on_true_items, on_false_items}
use Rattle.leg_rules.specs.Typed.{with_label}
use Rattle.leg_soundness.specs.Passing.{leg_types}
use Rattle.typed_programs.specs.Scopes.{Scope, type_in, is_var, claim_names, proof_names as scope_proof_names, IsClaimOver, IsNotedIn, AreValuesIn, IsStepIn, AreStepsIn}
use Rattle.leg_typing.specs.OverNames.{variable_names, proof_names, IsTypedClaim, IsStepOver, AreStepsOver, IsItemOver}
use Rattle.method_legs.proofs.Expressions.{expr_closed, IsDemand, demands_typed}

-- a type that is only seen under a condition
pub seen : (b : Bool) (o : Option ValueType) (t : ValueType) → cond b o None ≡ Some t → o ≡ Some t
seen true o t h = h
seen false o t h = absurd (none≢some h)

module _ (program : ProgramTree Variable) (method : MethodTree Variable) where
  abbrev pub types : NameTypes LegName
  types = leg_types program method

  -- all items of a leg are well typed
  abbrev pub AreItems : Items → Type 0
  AreItems items = AllByRecursion (λ noted. IsItemOver program.records types noted.item) items

  abbrev pub IsOver : ValueType → ClaimTree LegName → Type 0
  IsOver t c = IsTypedClaim program.records (variable_names types) t c

  pub items_append : (items more : Items) → AreItems items → AreItems more → AreItems (items ++ more)
  items_append items more h k = all_append (λ noted. IsItemOver program.records types noted.item) items more h k

  -- ---- claims by other names

  -- the names of a claim have their types on the leg
  abbrev pub Carries : NameTypes (ClaimName Variable) → (Variable → LegName) → Type 0
  Carries names f = (a : ClaimName Variable) (t : ValueType) → names a ≡ Some t → variable_names types (renamed_name f a) ≡ Some t

  pub carried : (names : NameTypes (ClaimName Variable)) (f : Variable → LegName) → Carries names f → (c : ClaimTree Variable) (t : ValueType)
      → IsTyped program.records names c t → IsClosed 0 c → IsOver t (renamed_claim f c)
  carried names f carries c t h closed = record {
    typed = IsTyped-bind program.records names (variable_names types) (λ a. name (renamed_name f a)) carries c t h;
    closed = IsClosed-bind (λ a. name (renamed_name f a)) (λ a. tt) c 0 closed;
  }

  abbrev pub scope_of : (Variable → Bool) → ℕ → Scope
  scope_of named nodes = record { program = program; method = method; named = named; nodes = nodes }

  pub own_names : (named : Variable → Bool) (nodes : ℕ) → Carries (claim_names (scope_of named nodes)) own
  own_names named nodes (variable x) t h = seen (named x) (variable_types program method x) t h
  own_names named nodes (old_variable x) t h = absurd (none≢some h)
  own_names named nodes (let_symbol label) t h = absurd (none≢some h)

  -- ---- claims of contracts, invariants and assertions

  module _ (names : NameTypes (ClaimName Variable)) (f : Variable → LegName) (carries : Carries names f) where
    -- a truth value over these names
    abbrev IsTruth : NotedTree Variable → Type 0
    IsTruth noted = IsTyped program.records names noted.claim truth_type × IsClosed 0 noted.claim

    pub assumed_items : (claims : List (NotedTree Variable)) → AllByRecursion IsTruth claims → AreItems (assumed (map (renamed_noted f) claims))
    assumed_items [] h = tt
    assumed_items (noted ∷ claims) h = (carried names f carries noted.claim truth_type h.0.0 h.0.1, assumed_items claims h.1)

    pub checked_items : (kind : Kind) (claims : List (NotedTree Variable)) → AllByRecursion IsTruth claims
        → AreItems (checked kind (map (renamed_noted f) claims))
    checked_items kind [] h = tt
    checked_items kind (noted ∷ claims) h = (carried names f carries noted.claim truth_type h.0.0 h.0.1, checked_items kind claims h.1)

  pub noted_truths : (scope : Scope) (claims : List (NotedTree Variable)) → AllByRecursion (IsNotedIn scope) claims
      → AllByRecursion (λ noted. IsTyped scope.program.records (claim_names scope) noted.claim truth_type × IsClosed 0 noted.claim) claims
  noted_truths scope [] h = tt
  noted_truths scope (noted ∷ claims) h = ((h.0.claim.typed, h.0.claim.closed), noted_truths scope claims h.1)

  -- ---- expressions

  module _ (named : Variable → Bool) (nodes : ℕ) where
    abbrev Names : NameTypes (ClaimName Variable)
    Names = claim_names (scope_of named nodes)

    demanded_items : (ds : List (Demand Variable)) → AllByRecursion (IsDemand program.records Names) ds → AreItems (demanded ds)
    demanded_items [] h = tt
    demanded_items (d ∷ ds) h = (carried Names own (own_names named nodes) d.claim truth_type h.0.0 h.0.1, demanded_items ds h.1)

    pub value_over : (expr : TypedExpr Variable) (t : ValueType) → IsTyped program.records Names (claim_of expr) t → IsOver t (own_claim (claim_of expr))
    value_over expr t h = carried Names own (own_names named nodes) (claim_of expr) t h (expr_closed expr 0)

    pub test_are : (expr : TypedExpr Variable) (t : ValueType) → IsTyped program.records Names (claim_of expr) t → AreItems (test_items expr)
    test_are expr t h = demanded_items (demands expr) (demands_typed program.records Names expr t h)

    pub set_are : (node : ℕ) (x : Variable) (value : TypedExpr Variable) (t : ValueType) → variable_types program method x ≡ Some t
        → IsTyped program.records Names (claim_of value) t → AreItems (set_items node x value)
    set_are node x value t at h =
        items_append (demanded (demands value)) (at_node node (set (own x) (own_claim (claim_of value))) ∷ []) (test_are value t h)
        ((t, at, value_over value t h), tt)

    pub on_true_are : (node : ℕ) (test : TypedExpr Variable) → IsTyped program.records Names (claim_of test) truth_type → AreItems (on_true_items node test)
    on_true_are node test h = (value_over test truth_type h, tt)

    pub on_false_are : (node : ℕ) (test : TypedExpr Variable) → IsTyped program.records Names (claim_of test) truth_type
        → AreItems (on_false_items node test)
    on_false_are node test h = let is = value_over test truth_type h in (record { typed = (refl, is.typed); closed = is.closed }, tt)

    all_demands : (ts : List ValueType) (arguments : List (TypedExpr Variable)) → AreValuesIn (scope_of named nodes) ts arguments
        → AllByRecursion (IsDemand program.records Names) (argument_demands arguments)
    all_demands [] [] h = tt
    all_demands [] (a ∷ arguments) h = absurd h
    all_demands (t ∷ ts) [] h = absurd h
    all_demands (t ∷ ts) (a ∷ arguments) h =
        all_append (IsDemand program.records Names) (demands a) (argument_demands arguments) (demands_typed program.records Names a t h.0.typed)
        (all_demands ts arguments h.1)

    pub arguments_are : (ts : List ValueType) (arguments : List (TypedExpr Variable)) → AreValuesIn (scope_of named nodes) ts arguments
        → AreItems (demanded (argument_demands arguments))
    arguments_are ts arguments h = demanded_items (argument_demands arguments) (all_demands ts arguments h)

    -- ---- the steps of a proof

    steps_names : (lets : ℕ → Bool) (a : ClaimName Variable) (t : ValueType) → scope_proof_names (scope_of named nodes) lets a ≡ Some t
        → proof_names types lets (renamed_name own a) ≡ Some t
    steps_names lets (variable x) t h = seen (named x) (variable_types program method x) t h
    steps_names lets (old_variable x) t h =
        seen (named x) (variable_types program method x) t (seen (is_var (scope_of named nodes) x) (type_in (scope_of named nodes) x) t h)
    steps_names lets (let_symbol label) t h = h

    step_claim : (lets : ℕ → Bool) (c : ClaimTree Variable) → IsClaimOver (scope_of named nodes) (scope_proof_names (scope_of named nodes) lets) c
        → IsTypedClaim program.records (proof_names types lets) truth_type (own_claim c)
    step_claim lets c h = record {
      typed = IsTyped-bind program.records (scope_proof_names (scope_of named nodes) lets) (proof_names types lets) (λ a. name (renamed_name own a))
          (steps_names lets) c truth_type h.typed;
      closed = IsClosed-bind (λ a. name (renamed_name own a)) (λ a. tt) c 0 h.closed;
    }

    empty_steps : (lets : ℕ → Bool) (steps : ProofStepTrees Variable) → is_empty steps ≡ true
        → AreStepsOver program.records types lets (renamed_steps own steps)
    empty_steps lets no_steps h = tt
    empty_steps lets (step_then step steps) h = absurd (false≢true h)

    mutual
      step_over : (step : ProofStepTree Variable) (depth : ℕ) (lets : ℕ → Bool) → IsStepIn (scope_of named nodes) depth lets step
          → IsStepOver program.records types lets (renamed_step own step)
      step_over (line label claim rule cites) zero lets h = step_claim lets claim h.0
      step_over (line label claim rule cites) (suc depth) lets h = step_claim lets claim h.0
      step_over (block label has_symbol assumed given steps) zero lets h =
          let inner = with_label has_symbol label lets in (step_claim inner given h.0, empty_steps inner steps h.1)
      step_over (block label has_symbol assumed given steps) (suc depth) lets h =
          let inner = with_label has_symbol label lets in (step_claim inner given h.0, steps_over steps depth inner h.1)

      pub steps_over : (steps : ProofStepTrees Variable) (depth : ℕ) (lets : ℕ → Bool) → AreStepsIn (scope_of named nodes) depth lets steps
          → AreStepsOver program.records types lets (renamed_steps own steps)
      steps_over no_steps depth lets h = tt
      steps_over (step_then step steps) depth lets h = (step_over step depth lets h.0, steps_over steps depth lets h.1)
