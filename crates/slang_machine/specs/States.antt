-- What may come next while a text is read token by token.
use Rattle.std.specs.Prelude.{ℕ, Bool, List, Option}
use Rattle.slang_values.specs.declared.operators.Quantifier.{Quantifier}
use Rattle.slang_tree.specs.declared.place.Place.{Place}
use Rattle.slang_tree.specs.declared.expression.Name.{Name}
use Rattle.slang_tree.specs.declared.statement.Label.{Label}
use Rattle.slang_tree.specs.TypeTree.{TypeTree}
use Rattle.slang_tree.specs.ExprTree.{ExprTree}
use Rattle.slang_tree.specs.StmtTree.{StepTree, StmtTrees}
use Rattle.slang_tree.specs.DeclTree.{ConstTree, TypedName, DeclTree}
use Rattle.slang_machine.specs.Open.{Draft, Target, Within, Steps, Labelled, LoopHead, ClaimWord, Around, Consts, AroundType}

-- an operand that is whole, or a field of one, which may be the indices of a range
pub data Operand : Type 0 where
  whole : ExprTree → Operand
  dotted : (head : ExprTree) → Name → Operand

-- what a quantifier ranges over
pub data Range : Type 0 where
  between : (low high : ExprTree) → Range
  indices_of : (head : ExprTree) → Range

-- whose names are listed
pub data NamesOf : Type 0 where
  contract_names : Draft → NamesOf
  loop_names : (place : Place) (test : ExprTree) → Within → NamesOf

-- `In` or `Old`
pub data ValueWord : Type 0 where
  entry_word : ValueWord
  old_word : ValueWord

pub data State : Type 0 where
  -- declarations
  top : List DeclTree → State
  ended : List DeclTree → State
  path_due : (place : Place) → List Name → List DeclTree → State
  path_end : (place : Place) → List Name → List DeclTree → State
  global_name : (fixed : Bool) (place : Place) → List DeclTree → State
  global_type : (fixed : Bool) (place : Place) → Name → List DeclTree → State
  global_equals : (fixed : Bool) (place : Place) → Name → Option TypeTree → List DeclTree → State
  want_const : Consts → State
  minus_digits : (place : Place) → Consts → State
  consts_type : (place : Place) → Consts → State
  consts_left : (place : Place) → Option TypeTree → Consts → State
  const_or_end : Consts → State
  fields_left : Name → Consts → State
  have_const : ConstTree → Consts → State
  at_due : (place : Place) → List DeclTree → State
  class_due : (place : Place) → List DeclTree → State
  record_name_due : (place : Place) → List DeclTree → State
  fields_due : (place : Place) → Name → List DeclTree → State
  field_due : (place : Place) → Name → List TypedName → List DeclTree → State
  field_name : (place : Place) → Name → List TypedName → List DeclTree → State
  field_colon_due : (place : Place) → Name → List TypedName → List DeclTree → State
  field_colon : (place : Place) → Name → List TypedName → Name → List DeclTree → State
  field_end : (place : Place) → Name → List TypedName → List DeclTree → State
  naming : List DeclTree → State
  params_due : Name → List DeclTree → State
  param_or_end : Name → List TypedName → List DeclTree → State
  param_colon : Name → List TypedName → Name → List DeclTree → State
  param_end : Name → List TypedName → List DeclTree → State
  result_colon : Name → List TypedName → List DeclTree → State
  equals_due : Draft → State
  begin_due : Draft → State
  -- bodies and contracts
  part_or_end : ℕ → Draft → State
  part_end : ℕ → Draft → State
  clauses_due : Draft → State
  clause_or_end : ℕ → Draft → State
  clause_end : ℕ → Draft → State
  claims_due : ClaimWord → Draft → State
  claim_or_end : ClaimWord → List ExprTree → Draft → State
  names_due : NamesOf → State
  first_name : NamesOf → State
  name_end : List Name → NamesOf → State
  name_or_end : List Name → NamesOf → State
  -- types
  want_type : AroundType → State
  type_left : (place : Place) → AroundType → State
  have_type : TypeTree → AroundType → State
  -- statements
  stmt_or_end : Within → State
  stmt_end : Within → State
  value_name : (fixed : Bool) (place : Place) → Within → State
  value_type : (fixed : Bool) (place : Place) → Name → Within → State
  value_equals : (fixed : Bool) (place : Place) → Name → Option TypeTree → Within → State
  name_seen : Name → Within → State
  call_or_end : Name → List ExprTree → Within → State
  if_left : (place : Place) → Target → State
  then_due : (place : Place) → ExprTree → Target → State
  else_or_end : (place : Place) → ExprTree → StmtTrees → Target → State
  else_due : (place : Place) → ExprTree → StmtTrees → Target → State
  loop_left : (place : Place) → Within → State
  loop_begin : (place : Place) → ExprTree → Within → State
  invariant_due : (place : Place) → ExprTree → Within → State
  invariant_left : (place : Place) → ExprTree → Within → State
  modifies_due : (place : Place) → ExprTree → Within → State
  loop_claim_end : LoopHead → State
  loop_claim_or_end : LoopHead → State
  invariant_end : LoopHead → State
  assert_left : (place : Place) → Within → State
  -- steps
  steps_left : (place : Place) → Within → State
  step_due : List StepTree → Steps → State
  step_or_end : List StepTree → Steps → State
  step_end : List StepTree → Steps → State
  labelled : Labelled → State
  by_due : ExprTree → Labelled → State
  rule_due : ExprTree → Labelled → State
  cites_or_end : ExprTree → Name → Labelled → State
  cite_due : ExprTree → Name → Labelled → State
  cite_end : ExprTree → Name → List Label → Labelled → State
  cite_or_end : ExprTree → Name → List Label → Labelled → State
  sub_left : (variable : Option Name) → Labelled → State
  assumed_due : (variable : Option Name) → Labelled → State
  assume_due : (variable : Option Name) → Label → Labelled → State
  assume_left : (variable : Option Name) → Label → Labelled → State
  let_left : Labelled → State
  let_inner : Labelled → State
  let_name : Labelled → State
  let_colon : Name → Labelled → State
  let_type : Name → Labelled → State
  let_right : Name → Labelled → State
  let_arrow : Name → Labelled → State
  let_sub : Name → Labelled → State
  let_end : List StepTree → Steps → State
  -- expressions
  want : Around → State
  have : Operand → Around → State
  result_or_type : (place : Place) → Around → State
  value_left : ValueWord → (place : Place) → Around → State
  value_written : ValueWord → (place : Place) → Around → State
  value_right : ValueWord → (place : Place) → Name → Around → State
  sequence_or_type : (place : Place) → Around → State
  elements_due : (place : Place) → TypeTree → Around → State
  element_or_end : (place : Place) → Option TypeTree → List ExprTree → Around → State
  argument_or_end : (head : ExprTree) → List ExprTree → Around → State
  field_written : (head : ExprTree) → Around → State
  range_left : Quantifier → (place : Place) → Around → State
  bound_left : Quantifier → (place : Place) → Range → Around → State
  bound_name : Quantifier → (place : Place) → Range → Around → State
  bound_arrow : Quantifier → (place : Place) → Range → Name → Around → State
