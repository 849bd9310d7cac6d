-- What is over other variables, twice, is over those of both: of claims, steps, expressions and their demands.
use Rattle.std.proofs.Common.{◌≡◌, ℕ, Bool, true, false, List, [], ◌∷◌, ◌++◌, map, if◌then◌else◌, refl, ap, ap₂, sym, ◌∙◌}
use Rattle.std.proofs.lemmas.List.{map-append}
use Rattle.slang_values.specs.Tree.{Trees, name, unary as unary_tree, binary as binary_tree, update as update_tree, listed as listed_tree, tree_then}
use Rattle.slang_values.specs.declared.operators.Unary.{Unary}
use Rattle.slang_values.specs.declared.operators.Binary.{Binary}
use Rattle.slang_tree.specs.declared.expression.Operator.{Operator}
use Rattle.validity.specs.Bind.{bind, bind_all}
use Rattle.validity.proofs.Binds.{bind-bind}
use Rattle.program_trees.specs.Claims.{ClaimName, ClaimTree, renamed_name, renamed_claim, variable, old_variable, let_symbol, ProofStepTree, line, block, ProofStepTrees, no_steps, step_then, renamed_step, renamed_steps}
use Rattle.program_trees.specs.Operators.{connective, exchanged, negated, connected, Evaluated, always, where_true, where_false, right_evaluated, divides}
use Rattle.program_trees.specs.Programs.{TypedExpr, number, truth, variable as variable_expr, unary, binary, read, update, listed, TypedExprs, no_exprs, expr_then, claim_of, claims_of, renamed_expr, renamed_exprs}
use Rattle.program_trees.specs.declared.answer.Kind.TheVariants as kinds
use Rattle.leg_items.specs.Demands.{range_demand}
use Rattle.leg_rules.specs.Checks.{Demand, demands, part_demands, argument_demands, guarded, own_division, under, is_not_zero}

-- ---- claims and steps

same_names : {A B C : Type 0} (f : B → C) (g : A → B) (a : ClaimName A) → renamed_name f (renamed_name g a) ≡ renamed_name (λ x. f (g x)) a
same_names f g (variable x) = refl
same_names f g (old_variable x) = refl
same_names f g (let_symbol label) = refl

pub renamed-renamed : {A B C : Type 0} (f : B → C) (g : A → B) (t : ClaimTree A) → renamed_claim f (renamed_claim g t) ≡ renamed_claim (λ a. f (g a)) t
renamed-renamed f g t =
    bind-bind (λ a. name (renamed_name g a)) (λ b. name (renamed_name f b)) t
    ∙ ap (λ h. bind h t) (λ i a. name (same_names f g a i))

mutual
  pub renamed_step-twice : {A B C : Type 0} (f : B → C) (g : A → B) (s : ProofStepTree A) → renamed_step f (renamed_step g s) ≡ renamed_step (λ a. f (g a)) s
  renamed_step-twice f g (line label claim rule cites) = ap (λ c. line label c rule cites) (renamed-renamed f g claim)
  renamed_step-twice f g (block label has_symbol assumed given steps) =
      ap₂ (λ c ss. block label has_symbol assumed c ss) (renamed-renamed f g given) (renamed_steps-twice f g steps)

  pub renamed_steps-twice : {A B C : Type 0} (f : B → C) (g : A → B) (s : ProofStepTrees A) → renamed_steps f (renamed_steps g s) ≡ renamed_steps (λ a. f (g a)) s
  renamed_steps-twice f g no_steps = refl
  renamed_steps-twice f g (step_then step steps) = ap₂ step_then (renamed_step-twice f g step) (renamed_steps-twice f g steps)

-- ---- the claim of an expression

connected-renamed : {A B : Type 0} (f : A → B) (op : Operator) (a b : ClaimTree A) → renamed_claim f (connected op a b) ≡ connected op (renamed_claim f a) (renamed_claim f b)
connected-renamed f op a b =
    elim (exchanged op) as (λ e. renamed_claim f (if e then binary_tree (connective op) b a
    else (if negated op then unary_tree Unary.Not (binary_tree (connective op) a b) else binary_tree (connective op) a b))
    ≡ (if e then binary_tree (connective op) (renamed_claim f b) (renamed_claim f a)
    else (if negated op then unary_tree Unary.Not (binary_tree (connective op) (renamed_claim f a) (renamed_claim f b)) else binary_tree (connective op) (renamed_claim f a) (renamed_claim f b)))) [
      | true ↦ refl
      | false ↦ elim (negated op) as (λ n. renamed_claim f (if n then unary_tree Unary.Not (binary_tree (connective op) a b) else binary_tree (connective op) a b)
          ≡ (if n then unary_tree Unary.Not (binary_tree (connective op) (renamed_claim f a) (renamed_claim f b)) else binary_tree (connective op) (renamed_claim f a) (renamed_claim f b)))
          [ true ↦ refl | false ↦ refl ]
    ]

mutual
  pub claim_of-renamed : {A B : Type 0} (f : A → B) (e : TypedExpr A) → claim_of (renamed_expr f e) ≡ renamed_claim f (claim_of e)
  claim_of-renamed f (number node z) = refl
  claim_of-renamed f (truth node b) = refl
  claim_of-renamed f (variable_expr node x) = refl
  claim_of-renamed f (unary node op operand) = ap (unary_tree op) (claim_of-renamed f operand)
  claim_of-renamed f (binary node op left right) =
      ap₂ (connected op) (claim_of-renamed f left) (claim_of-renamed f right) ∙ sym (connected-renamed f op (claim_of left) (claim_of right))
  claim_of-renamed f (read node head index) = ap₂ (binary_tree Binary.Read) (claim_of-renamed f head) (claim_of-renamed f index)
  claim_of-renamed f (update node head index element) =
      λ i. update_tree (claim_of-renamed f head i) (claim_of-renamed f index i) (claim_of-renamed f element i)
  claim_of-renamed f (listed node front parts) = ap (listed_tree front) (claims_of-renamed f parts)

  claims_of-renamed : {A B : Type 0} (f : A → B) (es : TypedExprs A) → claims_of (renamed_exprs f es) ≡ bind_all (λ a. name (renamed_name f a)) (claims_of es)
  claims_of-renamed f no_exprs = refl
  claims_of-renamed f (expr_then e es) = ap₂ tree_then (claim_of-renamed f e) (claims_of-renamed f es)

-- ---- demands

abbrev pub renamed_demand : {A B : Type 0} → (A → B) → Demand A → Demand B
renamed_demand f d = record { kind = d.kind; claim = renamed_claim f d.claim; node = d.node }

under-renamed : {A B : Type 0} (f : A → B) (c : ClaimTree A) (ds : List (Demand A)) → map (under (renamed_claim f c)) (map (renamed_demand f) ds) ≡ map (renamed_demand f) (map (under c) ds)
under-renamed f c [] = refl
under-renamed f c (d ∷ ds) = ap (λ later. renamed_demand f (under c d) ∷ later) (under-renamed f c ds)

guarded-renamed : {A B : Type 0} (f : A → B) (e : Evaluated) (c : ClaimTree A) (ds : List (Demand A)) → guarded e (renamed_claim f c) (map (renamed_demand f) ds) ≡ map (renamed_demand f) (guarded e c ds)
guarded-renamed f always c ds = refl
guarded-renamed f where_true c ds = under-renamed f c ds
guarded-renamed f where_false c ds = under-renamed f (unary_tree Unary.Not c) ds

division-renamed : {A B : Type 0} (f : A → B) (node : ℕ) (op : Operator) (c : ClaimTree A) → own_division node op (renamed_claim f c) ≡ map (renamed_demand f) (own_division node op c)
division-renamed f node op c =
    elim (divides op) as (λ b. (if b then record { kind = kinds.Division; claim = is_not_zero (renamed_claim f c); node = node } ∷ [] else [])
    ≡ map (renamed_demand f) (if b then record { kind = kinds.Division; claim = is_not_zero c; node = node } ∷ [] else []))
    [ true ↦ refl | false ↦ refl ]

-- the demands of parts come first, and then their own
joined : {A B : Type 0} (f : Demand A → Demand B) (xs ys zs : List (Demand A)) (us vs ws : List (Demand B)) →
    us ≡ map f xs → vs ≡ map f ys → ws ≡ map f zs → us ++ (vs ++ ws) ≡ map f (xs ++ (ys ++ zs))
joined f xs ys zs us vs ws a b c =
    ap₂ (λ u r. u ++ r) a (ap₂ (λ v w. v ++ w) b c ∙ sym (map-append f ys zs)) ∙ sym (map-append f xs (ys ++ zs))

mutual
  pub demands-renamed : {A B : Type 0} (f : A → B) (e : TypedExpr A) → demands (renamed_expr f e) ≡ map (renamed_demand f) (demands e)
  demands-renamed f (number node z) = refl
  demands-renamed f (truth node b) = refl
  demands-renamed f (variable_expr node x) = refl
  demands-renamed f (unary node op operand) = demands-renamed f operand
  demands-renamed f (binary node op left right) =
      joined (renamed_demand f) (demands left) (guarded (right_evaluated op) (claim_of left) (demands right)) (own_division node op (claim_of right)) _ _ _
      (demands-renamed f left)
      (ap₂ (guarded (right_evaluated op)) (claim_of-renamed f left) (demands-renamed f right) ∙ guarded-renamed f (right_evaluated op) (claim_of left) (demands right))
      (ap (own_division node op) (claim_of-renamed f right) ∙ division-renamed f node op (claim_of right))
  demands-renamed f (read node head index) =
      joined (renamed_demand f) (demands head) (demands index) (range_demand node (claim_of head) (claim_of index) ∷ []) _ _ _
      (demands-renamed f head) (demands-renamed f index)
      (ap₂ (λ a i. range_demand node a i ∷ []) (claim_of-renamed f head) (claim_of-renamed f index))
  demands-renamed f (update node head index element) =
      joined (renamed_demand f) (demands head) (demands index) (demands element ++ range_demand node (claim_of head) (claim_of index) ∷ []) _ _ _
      (demands-renamed f head) (demands-renamed f index)
      (ap₂ (λ xs d. xs ++ d) (demands-renamed f element)
      (ap₂ (λ a i. range_demand node a i ∷ []) (claim_of-renamed f head) (claim_of-renamed f index))
      ∙ sym (map-append (renamed_demand f) (demands element) (range_demand node (claim_of head) (claim_of index) ∷ [])))
  demands-renamed f (listed node front parts) = part_demands-renamed f parts

  part_demands-renamed : {A B : Type 0} (f : A → B) (es : TypedExprs A) → part_demands (renamed_exprs f es) ≡ map (renamed_demand f) (part_demands es)
  part_demands-renamed f no_exprs = refl
  part_demands-renamed f (expr_then e es) =
      ap₂ (λ xs ys. xs ++ ys) (demands-renamed f e) (part_demands-renamed f es) ∙ sym (map-append (renamed_demand f) (demands e) (part_demands es))

pub argument_demands-renamed : {A B : Type 0} (f : A → B) (es : List (TypedExpr A)) → argument_demands (map (renamed_expr f) es) ≡ map (renamed_demand f) (argument_demands es)
argument_demands-renamed f [] = refl
argument_demands-renamed f (e ∷ es) =
    ap₂ (λ xs ys. xs ++ ys) (demands-renamed f e) (argument_demands-renamed f es) ∙ sym (map-append (renamed_demand f) (demands e) (argument_demands es))
