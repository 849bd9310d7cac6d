-- A program of two methods: one assigns a global, and the other calls it.
use Rattle.std.specs.Prelude.{ℕ, pos, Bool, true, false, List, [], ◌∷◌, None}
use Rattle.slang_values.specs.Value.{unit_type, number_type}
use Rattle.slang_tree.specs.declared.expression.Operator.TheVariants as o
use Rattle.program_trees.specs.Programs.{TypedExpr, number, variable, binary, set, call, CodeTrees, no_code, code_then, MethodTree, GlobalTree, ProgramTree}

-- g + 1
abbrev pub next_g : TypedExpr ℕ
next_g = binary 0 o.Add (variable 0 1) (number 0 (pos 1))

-- var g: Z = 0
abbrev pub counter : GlobalTree ℕ
counter = record { fixed = false; type = number_type; initial = number 0 (pos 0) }

-- `g = g + 1`, or a call of the first method
abbrev pub body_of : Bool → CodeTrees ℕ
body_of false = code_then (set 0 1 next_g) no_code
body_of true = code_then (call 0 None 0 0 (variable 0 0 ∷ [])) no_code

abbrev pub name_of : Bool → List ℕ
name_of false = []
name_of true = 1 ∷ []

-- of one number, and with Modifies(g)
abbrev pub method_of : Bool → MethodTree ℕ
method_of calls = record {
  name = name_of calls;
  node = 0;
  params = number_type ∷ [];
  result = unit_type;
  requires_ = [];
  modifies = 0 ∷ [];
  ensures_ = [];
  locals = number_type ∷ [];
  body = body_of calls;
}

abbrev pub two_methods : ProgramTree ℕ
two_methods = record { records = []; globals = counter ∷ []; methods = method_of false ∷ method_of true ∷ [] }
