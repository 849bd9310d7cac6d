-- A typed program over variables of any kind.
use Rattle.std.specs.Prelude.{ℕ, ℤ, Bool, List, map, Option}
use Rattle.std.specs.Option.{option_map}
use Rattle.slang_values.specs.Value.{ValueType, Records}
use Rattle.slang_values.specs.Tree.{Listed, literal as literal_tree, truth_literal, unary as unary_tree, binary as binary_tree, update as update_tree, listed as listed_tree, Trees, no_trees, tree_then}
use Rattle.slang_values.specs.declared.operators.Unary.{Unary}
use Rattle.slang_values.specs.declared.operators.Binary.{Binary}
use Rattle.slang_tree.specs.declared.expression.Operator.{Operator}
use Rattle.program_trees.specs.Operators.{connected}
use Rattle.program_trees.specs.Claims.{ClaimName, ClaimTree, variable_claim, NotedTree, ProofStepTrees, renamed_noted, renamed_steps}

-- ---- expressions

mutual
  -- an expression of the program, each part with the number of its node
  pub data TypedExpr (A : Type 0) : Type 0 where
    number : (node : ℕ) (z : ℤ) → TypedExpr A
    truth : (node : ℕ) (b : Bool) → TypedExpr A
    variable : (node : ℕ) (x : A) → TypedExpr A
    -- `-`, `!`, the size of a sequence, or a field of a record
    unary : (node : ℕ) (op : Unary) (operand : TypedExpr A) → TypedExpr A
    binary : (node : ℕ) (operator : Operator) (left right : TypedExpr A) → TypedExpr A
    read : (node : ℕ) (head index : TypedExpr A) → TypedExpr A
    update : (node : ℕ) (head index element : TypedExpr A) → TypedExpr A
    -- a sequence by its elements, or a record by its fields
    listed : (node : ℕ) (front : Listed) (parts : TypedExprs A) → TypedExpr A

  pub data TypedExprs (A : Type 0) : Type 0 where
    no_exprs : TypedExprs A
    expr_then : TypedExpr A → TypedExprs A → TypedExprs A

abbrev mutual
  -- the claim that has the value of the expression, where it does not fail
  pub claim_of : {A : Type 0} → TypedExpr A → ClaimTree A
  claim_of (number node z) = literal_tree z
  claim_of (truth node b) = truth_literal b
  claim_of (variable node x) = variable_claim x
  claim_of (unary node op operand) = unary_tree op (claim_of operand)
  claim_of (binary node operator left right) = connected operator (claim_of left) (claim_of right)
  claim_of (read node head index) = binary_tree Binary.Read (claim_of head) (claim_of index)
  claim_of (update node head index element) = update_tree (claim_of head) (claim_of index) (claim_of element)
  claim_of (listed node front parts) = listed_tree front (claims_of parts)

  pub claims_of : {A : Type 0} → TypedExprs A → Trees (ClaimName A)
  claims_of no_exprs = no_trees
  claims_of (expr_then expr exprs) = tree_then (claim_of expr) (claims_of exprs)

-- ---- statements

mutual
  pub data CodeTree (A : Type 0) : Type 0 where
    -- a `val`, a `var` or an assignment
    set : (node : ℕ) (target : A) (value : TypedExpr A) → CodeTree A
    -- a `return`
    give : (node : ℕ) (value : TypedExpr A) → CodeTree A
    assert : (noted : NotedTree A) → CodeTree A
    deduce : (node : ℕ) (steps : ProofStepTrees A) → CodeTree A
    branch : (node : ℕ) (test : TypedExpr A) (on_true on_false : CodeTrees A) → CodeTree A
    loop : (node : ℕ) (test : TypedExpr A) (modifies : List A) (invariants : List (NotedTree A)) (body : CodeTrees A) → CodeTree A
    -- A call of a method by its number. Its result goes to a variable, where it has one that is used. The called name has a node of its own.
    call : (node : ℕ) (target : Option A) (name_node method : ℕ) (arguments : List (TypedExpr A)) → CodeTree A

  pub data CodeTrees (A : Type 0) : Type 0 where
    no_code : CodeTrees A
    code_then : CodeTree A → CodeTrees A → CodeTrees A

-- ---- methods and programs

-- A method with its contract and its body. Its locals are its parameters, and then its `val`s and `var`s in the order of the text.
pub record MethodTree (A : Type 0) : Type 0 where
  pub name : List ℕ
  pub node : ℕ
  pub params : List ValueType
  pub result : ValueType
  pub requires_ : List (NotedTree A)
  -- globals by number
  pub modifies : List ℕ
  pub ensures_ : List (NotedTree A)
  pub locals : List ValueType
  pub body : CodeTrees A

-- A global, whose initial value is a constant. One that is fixed is a `val`.
pub record GlobalTree (A : Type 0) : Type 0 where
  pub fixed : Bool
  pub type : ValueType
  pub initial : TypedExpr A

-- the methods in the order of their names
pub record ProgramTree (A : Type 0) : Type 0 where
  pub records : Records
  pub globals : List (GlobalTree A)
  pub methods : List (MethodTree A)

-- ---- over other variables

abbrev mutual
  pub renamed_expr : {A B : Type 0} → (A → B) → TypedExpr A → TypedExpr B
  renamed_expr f (number node z) = number node z
  renamed_expr f (truth node b) = truth node b
  renamed_expr f (variable node x) = variable node (f x)
  renamed_expr f (unary node op operand) = unary node op (renamed_expr f operand)
  renamed_expr f (binary node operator left right) = binary node operator (renamed_expr f left) (renamed_expr f right)
  renamed_expr f (read node head index) = read node (renamed_expr f head) (renamed_expr f index)
  renamed_expr f (update node head index element) = update node (renamed_expr f head) (renamed_expr f index) (renamed_expr f element)
  renamed_expr f (listed node front parts) = listed node front (renamed_exprs f parts)

  pub renamed_exprs : {A B : Type 0} → (A → B) → TypedExprs A → TypedExprs B
  renamed_exprs f no_exprs = no_exprs
  renamed_exprs f (expr_then expr exprs) = expr_then (renamed_expr f expr) (renamed_exprs f exprs)

abbrev mutual
  pub renamed_code : {A B : Type 0} → (A → B) → CodeTree A → CodeTree B
  renamed_code f (set node target value) = set node (f target) (renamed_expr f value)
  renamed_code f (give node value) = give node (renamed_expr f value)
  renamed_code f (assert noted) = assert (renamed_noted f noted)
  renamed_code f (deduce node steps) = deduce node (renamed_steps f steps)
  renamed_code f (branch node test on_true on_false) = branch node (renamed_expr f test) (renamed_codes f on_true) (renamed_codes f on_false)
  renamed_code f (loop node test modifies invariants body) =
      loop node (renamed_expr f test) (map f modifies) (map (renamed_noted f) invariants) (renamed_codes f body)
  renamed_code f (call node target name_node method arguments) = call node (option_map f target) name_node method (map (renamed_expr f) arguments)

  pub renamed_codes : {A B : Type 0} → (A → B) → CodeTrees A → CodeTrees B
  renamed_codes f no_code = no_code
  renamed_codes f (code_then code codes) = code_then (renamed_code f code) (renamed_codes f codes)

abbrev pub renamed_method : {A B : Type 0} → (A → B) → MethodTree A → MethodTree B
renamed_method f method = record {
  name = method.name;
  node = method.node;
  params = method.params;
  result = method.result;
  requires_ = map (renamed_noted f) method.requires_;
  modifies = method.modifies;
  ensures_ = map (renamed_noted f) method.ensures_;
  locals = method.locals;
  body = renamed_codes f method.body;
}

abbrev pub renamed_global : {A B : Type 0} → (A → B) → GlobalTree A → GlobalTree B
renamed_global f global = record { fixed = global.fixed; type = global.type; initial = renamed_expr f global.initial }
