-- Claims, expressions and steps of proofs over numbers, and back.
use Rattle.std.proofs.Common.{◌≡◌, ℕ, zero, suc, Bool, true, false, cond, List, [], ◌∷◌, map, Some, None, refl, ap, ap₂, ◌∙◌}
use Rattle.std.specs.List.{AllByRecursion}
use Rattle.std.proofs.lemmas.Bool.{false≢true}
use Rattle.slang_values.specs.Value.{ValueType}
use Rattle.slang_values.specs.Tree.{Tree, literal, truth_literal, name, bound, unary, binary, update, quantified, listed, Trees, no_trees, tree_then}
use Rattle.slang_values.specs.declared.operators.Unary.{Unary}
use Rattle.slang_tree.specs.declared.expression.Operator.{Operator}
use Rattle.validity.specs.Bind.{EachName, EachNameOfAll}
use Rattle.validity.proofs.Binds.{bind-bind, bind-name, bind-same_names, EachName-typed}
use Rattle.leg_rules.specs.Typed.{with_label}
use Rattle.program_trees.specs.Operators.{connective, connected, exchanged, negated}
use Rattle.program_trees.specs.Claims.{ClaimName, variable, old_variable, let_symbol, ClaimTree, NotedTree, ProofStepTree, line, block, ProofStepTrees, no_steps, step_then, renamed_name, renamed_claim, renamed_noted, renamed_step, renamed_steps, is_empty}
use Rattle.program_trees.specs.Programs.{TypedExpr, TypedExprs, claim_of, claims_of, renamed_expr, renamed_exprs}
use Rattle.program_trees.specs.Programs as programs
use Rattle.program_trees.specs.Variables.{Variable, variable_types}
use Rattle.typed_programs.specs.Scopes.{Scope, type_in, is_var, claim_names, proof_names, IsClaimOver, IsNotedIn, IsValueIn, AreValuesIn, IsStepIn, AreStepsIn}
use Rattle.claim_typing.proofs.Parts.{none_is_some}

-- what a connective stands between
pub connected_names : {A : Type 0} (P : A → Type 0) (operator : Operator) (a b : Tree A) → EachName P (connected operator a b) → EachName P a × EachName P b
connected_names {A = A} P operator a b h = at (exchanged operator) (negated operator) h
  where
    at : (turned other : Bool) → EachName P (cond turned (binary (connective operator) b a)
        (cond other (unary Unary.Not (binary (connective operator) a b)) (binary (connective operator) a b))) → EachName P a × EachName P b
    at true other k = (k.1, k.0)
    at false true k = k
    at false false k = k

module _ (f : Variable → ℕ) (g : ℕ → Variable) where
  -- the number stands for the variable
  abbrev pub Back : Variable → Type 0
  Back x = g (f x) ≡ x

  abbrev pub BackName : ClaimName Variable → Type 0
  BackName (variable x) = g (f x) ≡ x
  BackName (old_variable x) = g (f x) ≡ x
  BackName (let_symbol label) = Unit {0}

  name_back : (a : ClaimName Variable) → BackName a → renamed_name g (renamed_name f a) ≡ a
  name_back (variable x) h = ap variable h
  name_back (old_variable x) h = ap old_variable h
  name_back (let_symbol label) h = refl

  -- the same for each name
  mutual
    each_back : (c : ClaimTree Variable) → EachName BackName c → EachName (λ a. name (renamed_name g (renamed_name f a)) ≡ name a) c
    each_back (literal z) h = tt
    each_back (truth_literal b) h = tt
    each_back (name a) h = ap name (name_back a h)
    each_back (bound n) h = tt
    each_back (unary op a) h = each_back a h
    each_back (binary op a b) h = (each_back a h.0, each_back b h.1)
    each_back (update a i x) h = (each_back a h.0, each_back i h.1, each_back x h.2)
    each_back (quantified q low high body) h = (each_back low h.0, each_back high h.1, each_back body h.2)
    each_back (listed l ts) h = all_back ts h

    all_back : (cs : Trees (ClaimName Variable)) → EachNameOfAll BackName cs →
        EachNameOfAll (λ a. name (renamed_name g (renamed_name f a)) ≡ name a) cs
    all_back no_trees h = tt
    all_back (tree_then c cs) h = (each_back c h.0, all_back cs h.1)

  pub claim_back : (c : ClaimTree Variable) → EachName BackName c → renamed_claim g (renamed_claim f c) ≡ c
  claim_back c h =
      bind-bind (λ a. name (renamed_name f a)) (λ a. name (renamed_name g a)) c
      ∙ bind-same_names (λ a. name (renamed_name g (renamed_name f a))) name c (each_back c h) ∙ bind-name c

  mutual
    pub expr_back : (e : TypedExpr Variable) → EachName BackName (claim_of e) → renamed_expr g (renamed_expr f e) ≡ e
    expr_back (programs.number node z) h = refl
    expr_back (programs.truth node b) h = refl
    expr_back (programs.variable node x) h = ap (programs.variable node) h
    expr_back (programs.unary node op operand) h = ap (programs.unary node op) (expr_back operand h)
    expr_back (programs.binary node operator left right) h =
        let p = connected_names BackName operator (claim_of left) (claim_of right) h in
        ap₂ (programs.binary node operator) (expr_back left p.0) (expr_back right p.1)
    expr_back (programs.read node head index) h = ap₂ (programs.read node) (expr_back head h.0) (expr_back index h.1)
    expr_back (programs.update node head index element) h =
        let a = expr_back head h.0 in
        let i = expr_back index h.1 in
        let x = expr_back element h.2 in
        λ j. programs.update node (a j) (i j) (x j)
    expr_back (programs.listed node front parts) h = ap (programs.listed node front) (exprs_back parts h)

    exprs_back : (es : TypedExprs Variable) → EachNameOfAll BackName (claims_of es) → renamed_exprs g (renamed_exprs f es) ≡ es
    exprs_back programs.no_exprs h = refl
    exprs_back (programs.expr_then e es) h = ap₂ programs.expr_then (expr_back e h.0) (exprs_back es h.1)

  -- ---- at a place of a program

  -- each variable of a type comes back
  abbrev pub TypesBack : Scope → Type 0
  TypesBack place = (x : Variable) (t : ValueType) → variable_types place.program place.method x ≡ Some t → g (f x) ≡ x

  type_back : (place : Scope) → TypesBack place → (x : Variable) (t : ValueType) → type_in place x ≡ Some t → g (f x) ≡ x
  type_back place back x t h = at (place.named x) h
    where
      at : (b : Bool) → cond b (variable_types place.program place.method x) None ≡ Some t → g (f x) ≡ x
      at true k = back x t k
      at false k = none_is_some k

  names_back : (place : Scope) → TypesBack place → (a : ClaimName Variable) (t : ValueType) → claim_names place a ≡ Some t → BackName a
  names_back place back (variable x) t h = type_back place back x t h
  names_back place back (old_variable x) t h = none_is_some h
  names_back place back (let_symbol label) t h = tt

  proof_names_back : (place : Scope) → TypesBack place → (lets : ℕ → Bool) (a : ClaimName Variable) (t : ValueType) → proof_names place lets a ≡ Some t → BackName a
  proof_names_back place back lets (variable x) t h = type_back place back x t h
  proof_names_back place back lets (old_variable x) t h = at (is_var place x) h
    where
      at : (b : Bool) → cond b (type_in place x) None ≡ Some t → g (f x) ≡ x
      at true k = type_back place back x t k
      at false k = none_is_some k
  proof_names_back place back lets (let_symbol label) t h = tt

  pub value_back : (place : Scope) → TypesBack place → (t : ValueType) (e : TypedExpr Variable) → IsValueIn place t e → renamed_expr g (renamed_expr f e) ≡ e
  value_back place back t e h =
      expr_back e (EachName-typed place.program.records (claim_names place) BackName (names_back place back) (claim_of e) t h.typed)

  pub values_back : (place : Scope) → TypesBack place → (ts : List ValueType) (es : List (TypedExpr Variable)) → AreValuesIn place ts es →
      map (renamed_expr g) (map (renamed_expr f) es) ≡ es
  values_back place back [] [] h = refl
  values_back place back [] (e ∷ es) h = absurd h
  values_back place back (t ∷ ts) [] h = absurd h
  values_back place back (t ∷ ts) (e ∷ es) h = ap₂ (λ a as'. a ∷ as') (value_back place back t e h.0) (values_back place back ts es h.1)

  pub noted_back : (place : Scope) → TypesBack place → (noted : NotedTree Variable) → IsNotedIn place noted → renamed_noted g (renamed_noted f noted) ≡ noted
  noted_back place back noted h =
      let c = claim_back noted.claim (EachName-typed place.program.records (claim_names place) BackName (names_back place back) noted.claim _ h.claim.typed) in
      λ i. record { claim = c i; node = noted.node }

  pub all_noted_back : (place : Scope) → TypesBack place → (noted : List (NotedTree Variable)) → AllByRecursion (IsNotedIn place) noted →
      map (renamed_noted g) (map (renamed_noted f) noted) ≡ noted
  all_noted_back place back [] h = refl
  all_noted_back place back (first ∷ others) h = ap₂ (λ a as'. a ∷ as') (noted_back place back first h.0) (all_noted_back place back others h.1)

  step_claim : (place : Scope) → TypesBack place → (lets : ℕ → Bool) (claim : ClaimTree Variable) → IsClaimOver place (proof_names place lets) claim →
      renamed_claim g (renamed_claim f claim) ≡ claim
  step_claim place back lets claim h =
      claim_back claim (EachName-typed place.program.records (proof_names place lets) BackName (proof_names_back place back lets) claim _ h.typed)

  no_steps_back : (steps : ProofStepTrees Variable) → is_empty steps ≡ true → renamed_steps g (renamed_steps f steps) ≡ steps
  no_steps_back no_steps h = refl
  no_steps_back (step_then step steps) h = absurd (false≢true h)

  mutual
    step_back : (place : Scope) → TypesBack place → (depth : ℕ) (lets : ℕ → Bool) (step : ProofStepTree Variable) → IsStepIn place depth lets step →
        renamed_step g (renamed_step f step) ≡ step
    step_back place back zero lets (line label claim rule cites) h = ap (λ c. line label c rule cites) (step_claim place back lets claim h.0)
    step_back place back (suc depth) lets (line label claim rule cites) h = ap (λ c. line label c rule cites) (step_claim place back lets claim h.0)
    step_back place back zero lets (block label has_symbol assumed given steps) h =
        ap₂ (λ c s. block label has_symbol assumed c s) (step_claim place back (with_label has_symbol label lets) given h.0) (no_steps_back steps h.1)
    step_back place back (suc depth) lets (block label has_symbol assumed given steps) h =
        ap₂ (λ c s. block label has_symbol assumed c s) (step_claim place back (with_label has_symbol label lets) given h.0)
        (steps_back place back depth (with_label has_symbol label lets) steps h.1)

    pub steps_back : (place : Scope) → TypesBack place → (depth : ℕ) (lets : ℕ → Bool) (steps : ProofStepTrees Variable) → AreStepsIn place depth lets steps →
        renamed_steps g (renamed_steps f steps) ≡ steps
    steps_back place back depth lets no_steps h = refl
    steps_back place back depth lets (step_then step steps) h = ap₂ step_then (step_back place back depth lets step h.0) (steps_back place back depth lets steps h.1)
