-- The variables of a method by their kinds, and by their numbers.
use Rattle.std.specs.Prelude.{ℕ, ◌+◌, ◌-◌, nat_eq, nat_lt, Bool, true, false, length, map, if◌then◌else◌, slice_get, Option, Some, None}
use Rattle.std.specs.Option.{option_map}
use Rattle.slang_values.specs.Value.{ValueType, unit_type}
use Rattle.slang_values.specs.Typing.{NameTypes}
use Rattle.program_trees.specs.Programs.{MethodTree, ProgramTree, renamed_method, renamed_global}

pub data Variable : Type 0 where
  -- by its place among the method's locals: a parameter, a `val` or a `var`
  local : ℕ → Variable
  global : ℕ → Variable
  -- what the global was when the method began
  entry : ℕ → Variable
  result : Variable

abbrev pub same_variable : Variable → Variable → Bool
same_variable (local m) (local n) = nat_eq m n
same_variable (global m) (global n) = nat_eq m n
same_variable (entry m) (entry n) = nat_eq m n
same_variable result result = true
same_variable _ _ = false

-- The numbers of a method's variables count first its locals, then the globals, then their entry values, and last the result.
abbrev pub variable_of : (locals globals : ℕ) → ℕ → Variable
variable_of locals globals n =
    if nat_lt n locals then local n
    else (if nat_lt n (locals + globals) then global (n - locals)
    else (if nat_lt n (locals + globals + globals) then entry (n - (locals + globals)) else result))

-- The program over variables by their kinds. The initial value of a global names none.
abbrev pub with_kinds : ProgramTree ℕ → ProgramTree Variable
with_kinds program = record {
  records = program.records;
  globals = map (renamed_global global) program.globals;
  methods = map (λ method. renamed_method (variable_of (length method.locals) (length program.globals)) method) program.methods;
}

-- the type of each variable of a method; a method of type `Unit` has no result
abbrev pub variable_types : ProgramTree Variable → MethodTree Variable → NameTypes Variable
variable_types program method (local n) = slice_get method.locals n
variable_types program method (global n) = option_map (λ g. g.type) (slice_get program.globals n)
variable_types program method (entry n) = option_map (λ g. g.type) (slice_get program.globals n)
variable_types program method result = result_type method.result
  where
    result_type : ValueType → Option ValueType
    result_type unit_type = None
    result_type t = Some t

-- The numbers of a method's variables count first its locals, then the globals, then their entry values, and last the result.
abbrev pub number_of : (locals globals : ℕ) → Variable → ℕ
number_of locals globals (local n) = n
number_of locals globals (global n) = locals + n
number_of locals globals (entry n) = locals + globals + n
number_of locals globals result = locals + globals + globals

-- the initial value of a global names none
abbrev pub no_number : Variable → ℕ
no_number x = 0

abbrev pub numbered_method : ℕ → MethodTree Variable → MethodTree ℕ
numbered_method globals method = renamed_method (number_of (length method.locals) globals) method

abbrev pub numbered_program : ProgramTree Variable → ProgramTree ℕ
numbered_program program = record {
  records = program.records;
  globals = map (renamed_global no_number) program.globals;
  methods = map (numbered_method (length program.globals)) program.methods;
}
