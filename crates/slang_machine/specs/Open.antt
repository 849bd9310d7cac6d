-- What is open while a text is read token by token: the inside of what was begun and has not ended, each with what was read of
-- it. What is innermost comes first.
use Rattle.std.specs.Prelude.{ℕ, Bool, List, [], ◌∷◌, ◌++◌, Option, if◌then◌else◌, nat_lt, ◌+◌, ◌*◌}
use Rattle.slang_values.specs.declared.operators.Quantifier.{Quantifier}
use Rattle.slang_tree.specs.declared.place.Place.{Place}
use Rattle.slang_tree.specs.declared.expression.Name.{Name}
use Rattle.slang_tree.specs.declared.statement.Label.{Label}
use Rattle.slang_tree.specs.TypeTree.{TypeTree}
use Rattle.slang_tree.specs.ExprTree as e
use Rattle.slang_tree.specs.ExprTree.{ExprTree, place_of}
use Rattle.slang_tree.specs.StmtTree as s
use Rattle.slang_tree.specs.StmtTree.{StepTree, steps_of, StmtTree, StmtTrees, stmts_of}
use Rattle.slang_tree.specs.DeclTree.{ConstTree, TypedName, MethodDeclTree, DeclTree}
use Rattle.slang_grammar.specs.declared.operator.Side.{Side}
use Rattle.slang_grammar.specs.declared.operator.Side.TheVariants.{Left, Right}
use Rattle.slang_grammar.specs.declared.operator.Prefix.{Prefix}
use Rattle.slang_grammar.specs.declared.operator.Infix.{Infix}
use Rattle.slang_grammar.specs.Expressions.{prefix_tree}

-- the declarations before a method, and the method so far
pub record Draft : Type 0 where
  pub done : List DeclTree
  pub method : MethodDeclTree

-- A block that is open, and the place where an if-statement goes: into a block, behind what stands there, or behind the `else` of
-- another.
mutual
  pub data Block : Type 0 where
    -- the body of a method
    body_of : Draft → Block
    then_of : (place : Place) (test : ExprTree) → Target → Block
    else_of : (place : Place) (test : ExprTree) (on_true : StmtTrees) → Target → Block
    loop_of : (place : Place) (test : ExprTree) (modifies : List Name) (claims : List ExprTree) → List StmtTree → Block → Block

  pub data Target : Type 0 where
    in_block : List StmtTree → Block → Target
    behind_else : (place : Place) (test : ExprTree) (on_true : StmtTrees) → Target → Target

-- a block, with the statements so far
pub record Within : Type 0 where
  pub stmts : List StmtTree
  pub block : Block

abbrev pub with_stmt : Within → StmtTree → Within
with_stmt at stmt = record { stmts = at.stmts ++ stmt ∷ []; block = at.block }

-- an if-statement goes to its place
abbrev pub put : Target → StmtTree → Within
put (in_block stmts block) stmt = record { stmts = stmts ++ stmt ∷ []; block = block }
put (behind_else place test on_true target) stmt = put target (s.branch place test on_true (s.else_then (s.stmt_then stmt s.no_stmts)))

-- steps that are open, with the steps so far
pub data Steps : Type 0 where
  deduction_of : (place : Place) → Within → Steps
  -- a SubProof, with its label, its assumption, and the steps around it
  block_of : (label assumed : Label) (supposed : ExprTree) → List StepTree → Steps → Steps
  -- the SubProof of a Let
  let_of : (label : Label) (variable : Name) (assumed : Label) (supposed : ExprTree) → List StepTree → Steps → Steps

-- a step begins, behind its label
pub record Labelled : Type 0 where
  pub label : Label
  pub steps : List StepTree
  pub around : Steps

-- the clauses of contracts that hold claims
pub data ClaimWord : Type 0 where
  requiring : ClaimWord
  ensuring : ClaimWord

-- a loop up to its body
pub record LoopHead : Type 0 where
  pub place : Place
  pub test : ExprTree
  pub modifies : List Name
  pub claims : List ExprTree
  pub around : Within

-- what an expression is read for
pub data Purpose : Type 0 where
  value_of : (fixed : Bool) (place : Place) → Name → Option TypeTree → Within → Purpose
  assigned_to : Name → Within → Purpose
  -- an argument of a call that stands alone, behind others
  argument_of_call : Name → List ExprTree → Within → Purpose
  test_of_if : (place : Place) → Target → Purpose
  test_of_loop : (place : Place) → Within → Purpose
  asserted : (place : Place) → Within → Purpose
  returned : (place : Place) → Draft → Purpose
  clause_claim : ClaimWord → List ExprTree → Draft → Purpose
  loop_claim : LoopHead → Purpose
  step_claim : Labelled → Purpose
  -- the assumption of a SubProof, behind its own label, which may be that of a Let
  assumed_in : (variable : Option Name) (assumed : Label) → Labelled → Purpose

-- what is open around an operand
pub data Around : Type 0 where
  alone : Purpose → Around
  inside : Around → Around
  under : Prefix → Place → Around → Around
  right_of : ExprTree → Infix → Around → Around
  -- an argument, behind others
  argument_of : (head : ExprTree) → List ExprTree → Around → Around
  element_at : (head index : ExprTree) → Around → Around
  -- an element of a sequence, behind others
  element_of : (place : Place) → Option TypeTree → List ExprTree → Around → Around
  low_of : Quantifier → (place : Place) → Around → Around
  high_of : Quantifier → (place : Place) → (low : ExprTree) → Around → Around
  body_over : Quantifier → (place : Place) → (low high : ExprTree) → Name → Around → Around
  body_over_indices : Quantifier → (place : Place) → (head : ExprTree) → Name → Around → Around

-- constants that are open, with those so far
pub data Consts : Type 0 where
  constant_of : (fixed : Bool) (place : Place) → Name → Option TypeTree → List DeclTree → Consts
  constants_in : (place : Place) → Option TypeTree → List ConstTree → Consts → Consts
  fields_in : Name → List ConstTree → Consts → Consts

-- what a type is read for
pub data TypePurpose : Type 0 where
  of_result : (place : Place) → Around → TypePurpose
  of_elements : (place : Place) → Around → TypePurpose
  of_value : (fixed : Bool) (place : Place) → Name → Within → TypePurpose
  of_global : (fixed : Bool) (place : Place) → Name → List DeclTree → TypePurpose
  of_constants : (place : Place) → Consts → TypePurpose
  of_field : (place : Place) → Name → List TypedName → Name → List DeclTree → TypePurpose
  of_param : Name → List TypedName → Name → List DeclTree → TypePurpose
  of_method : Name → List TypedName → List DeclTree → TypePurpose

-- a type inside another
pub data AroundType : Type 0 where
  whole_type : TypePurpose → AroundType
  sequence_of : (place : Place) → AroundType → AroundType

-- the type, with what it stands inside
pub record GrownType : Type 0 where
  pub ty : TypeTree
  pub around : AroundType

-- How strongly operators pull.

abbrev pub apart : Side → Side → ℕ
apart Left Left = 1
apart Left Right = 2
apart Right Left = 2
apart Right Right = 1

-- How strongly an operator pulls its operand on this side. An operand between two operators goes to the one that pulls it
-- more strongly, and to none where both pull alike: then both are of one level and join to two sides.
abbrev pub pull : Side → Infix → ℕ
pull side row = 2 * row.level + apart side row.joins

-- how strongly what is open pulls the operand
abbrev pub held : Around → ℕ
held (under by place around) = 19
held (right_of left row around) = pull Right row
held _ = 0

-- an expression, and what is still open around it
pub record Grown : Type 0 where
  pub expr : ExprTree
  pub around : Around

abbrev pub grown : ExprTree → Around → Grown
grown expr around = record { expr = expr; around = around }

abbrev pub infix_tree : Infix → ExprTree → ExprTree → ExprTree
infix_tree row left right = e.binary (place_of left) row.operator left right

-- the operand, grown by the prefixes and by the operators that pull it more strongly than this, up to what was begun
abbrev pub close : ℕ → ExprTree → Around → Grown
close least expr (under by place around) = close least (prefix_tree by place expr) around
close least expr (right_of left row around) =
    if nat_lt least (pull Right row) then close least (infix_tree row left expr) around else grown expr (right_of left row around)
close least expr (alone at) = grown expr (alone at)
close least expr (inside around) = grown expr (inside around)
close least expr (argument_of head arguments around) = grown expr (argument_of head arguments around)
close least expr (element_at head index around) = grown expr (element_at head index around)
close least expr (element_of place ty elements around) = grown expr (element_of place ty elements around)
close least expr (low_of by place around) = grown expr (low_of by place around)
close least expr (high_of by place low around) = grown expr (high_of by place low around)
close least expr (body_over by place low high variable around) = grown expr (body_over by place low high variable around)
close least expr (body_over_indices by place head variable around) = grown expr (body_over_indices by place head variable around)
