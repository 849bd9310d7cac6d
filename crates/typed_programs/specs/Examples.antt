-- The definition of well-typed programs, tried on small programs.
use Rattle.std.specs.Prelude.{ℕ, pos, false, List, [], ◌∷◌, None}
use Rattle.slang_values.specs.Value.{ValueType, unit_type, number_type}
use Rattle.slang_tree.specs.declared.expression.Operator.TheVariants as o
use Rattle.program_trees.specs.Programs.{TypedExpr, number, variable, binary, set, give, call, CodeTrees, no_code, code_then, MethodTree, GlobalTree, ProgramTree}
use Rattle.program_trees.specs.Variables.{Variable, local, global}
use Rattle.typed_programs.specs.WellTyped.{IsTypedProgram}

-- A method of one number without a contract but for what it modifies. Its other locals are numbers too.
abbrev pub method_of : List ℕ → ValueType → List ℕ → List ValueType → CodeTrees Variable → MethodTree Variable
method_of name type modifies others body = record {
  name = name;
  node = 0;
  params = number_type ∷ [];
  result = type;
  requires_ = [];
  modifies = modifies;
  ensures_ = [];
  locals = number_type ∷ others;
  body = body;
}

-- one global, a `var` that begins with 0
abbrev pub counter : GlobalTree Variable
counter = record { fixed = false; type = number_type; initial = number 0 (pos 0) }

abbrev pub program_of : List (MethodTree Variable) → ProgramTree Variable
program_of methods = record { records = []; globals = counter ∷ []; methods = methods }

-- well typed where the text has one node, in its one file
abbrev pub IsTypedAlone : List (MethodTree Variable) → Type 0
IsTypedAlone methods = IsTypedProgram (program_of methods) (0 ∷ []) 1

abbrev pub one_more : Variable → TypedExpr Variable
one_more x = binary 0 o.Add (variable 0 x) (number 0 (pos 1))

abbrev pub gives : TypedExpr Variable → CodeTrees Variable
gives value = code_then (give 0 value) no_code

-- `val y = x + 1` and `return y`
abbrev pub declares : MethodTree Variable
declares = method_of [] number_type [] (number_type ∷ []) (code_then (set 0 (local 1) (one_more (local 0))) (gives (variable 0 (local 1))))

-- `g = g + 1`, where the method modifies these
abbrev pub counts : List ℕ → MethodTree Variable
counts modifies = method_of [] unit_type modifies [] (code_then (set 0 (global 0) (one_more (global 0))) no_code)

-- a call of the first method, where the method modifies these
abbrev pub calls : List ℕ → MethodTree Variable
calls modifies = method_of (1 ∷ []) unit_type modifies [] (code_then (call 0 None 0 0 (variable 0 (local 0) ∷ [])) no_code)

pub record ProgramExamples : Type 0 where
  pub declares_is : IsTypedAlone (declares ∷ [])
  pub counts_is : IsTypedAlone (counts (0 ∷ []) ∷ calls (0 ∷ []) ∷ [])
  -- what is assigned, by the method or by what it calls, and is not modified
  pub assigned_outside : IsTypedAlone (counts [] ∷ []) → ⊥
  pub called_outside : IsTypedAlone (counts (0 ∷ []) ∷ calls [] ∷ []) → ⊥
  -- an assignment to a parameter, and a local that is named before it is declared
  pub parameter_assigned : IsTypedAlone (method_of [] unit_type [] [] (code_then (set 0 (local 0) (number 0 (pos 1))) no_code) ∷ []) → ⊥
  pub named_too_early : IsTypedAlone (method_of [] number_type [] (number_type ∷ []) (gives (variable 0 (local 1))) ∷ []) → ⊥
  -- no return, a statement behind one, and methods out of order
  pub without_return : IsTypedAlone (method_of [] number_type [] [] no_code ∷ []) → ⊥
  pub behind_return : IsTypedAlone (method_of [] number_type [] [] (code_then (give 0 (number 0 (pos 1))) (gives (number 0 (pos 1)))) ∷ []) → ⊥
  pub out_of_order : IsTypedAlone (calls (0 ∷ []) ∷ counts (0 ∷ []) ∷ []) → ⊥
