-- Which expressions of a text are well typed, and of which type. Nothing here speaks of faults.
use Rattle.std.specs.Prelude.{◌≡◌, ◌↔◌, ℕ, Bool, true, false, List, [], ◌∷◌, codes, ⊤, Option, Some, None}
use Rattle.std.specs.Str.{bytes_eq}
use Rattle.slang_values.specs.Value.{ValueType, unit_type, number_type, truth_type, sequence_type, record_type, is_element_type}
use Rattle.slang_values.specs.declared.operators.Binary.{Binary}
use Rattle.slang_tree.specs.declared.expression.Name.{Name}
use Rattle.slang_tree.specs.TypeTree.{TypeTree, z_name, b_name, unit_name, sequence_name, record_name}
use Rattle.slang_tree.specs.ExprTree.{ExprTree, ExprTrees, no_exprs, expr_then}
use Rattle.slang_tree.specs.ExprTree as e
use Rattle.program_trees.specs.Operators.{connective}
use Rattle.program_trees.specs.Variables.{global}
use Rattle.type_rules.specs.Meanings.{Meaning, variable, bound_variable, block_variable, record_class, Declared, Field, Scope, meaning_among, meaning_of, is_known, field_types, with_bound}
use Rattle.type_rules.specs.Expressions.{Context, in_program, in_ensures, in_proof, field_named, Callee, a_value, a_record, a_method, callee, judged}

-- ---- types as they are written

abbrev pub IsClass : List Declared → Name → ValueType → Type 0
IsClass names written t = (n : ℕ) × (meaning_among names written.text ≡ Some (record_class n)) × (t ≡ record_type n)

-- the type of the elements of a sequence
abbrev pub IsElementType : List Declared → TypeTree → ValueType → Type 0
IsElementType names (z_name place) t = t ≡ number_type
IsElementType names (b_name place) t = t ≡ truth_type
IsElementType names (unit_name place) t = ⊥
IsElementType names (sequence_name place element) t = ⊥
IsElementType names (record_name written) t = IsClass names written t

-- the type of a variable or a field
abbrev pub IsType : List Declared → TypeTree → ValueType → Type 0
IsType names (z_name place) t = t ≡ number_type
IsType names (b_name place) t = t ≡ truth_type
IsType names (unit_name place) t = ⊥
IsType names (sequence_name place element) t = (s : ValueType) × IsElementType names element s × (t ≡ sequence_type s)
IsType names (record_name written) t = IsClass names written t

-- what may stand beside a part
abbrev pub MayBeWritten : List Declared → Option TypeTree → ValueType → Type 0
MayBeWritten names None t = ⊤
MayBeWritten names (Some ty) t = IsType names ty t

-- ---- names

-- a variable of that type
abbrev pub IsVariableOf : Option Meaning → ValueType → Type 0
IsVariableOf (Some (variable x changes type)) t = type ≡ Some t
IsVariableOf (Some (bound_variable depth)) t = t ≡ number_type
IsVariableOf (Some (block_variable label)) t = t ≡ number_type
IsVariableOf other t = ⊥

-- a `var`, of the method or among the globals
abbrev pub IsVarOf : Option Meaning → ValueType → Type 0
IsVarOf (Some (variable x true type)) t = type ≡ Some t
IsVarOf other t = ⊥

-- a `var` among the globals
abbrev pub IsGlobalVarOf : Option Meaning → ValueType → Type 0
IsGlobalVarOf (Some (variable (global n) true type)) t = type ≡ Some t
IsGlobalVarOf other t = ⊥

-- ---- words of claims

-- `Res` stands in Ensures of a method that has a result
abbrev pub IsResultOf : Context → ValueType → Type 0
IsResultOf (in_ensures (Some unit_type)) t = ⊥
IsResultOf (in_ensures (Some r)) t = t ≡ r
IsResultOf other t = ⊥

-- `In` stands in Ensures
abbrev pub IsEntryOf : Context → Option Meaning → ValueType → Type 0
IsEntryOf (in_ensures r) meaning t = IsGlobalVarOf meaning t
IsEntryOf other meaning t = ⊥

-- `Old` stands in proofs
abbrev pub IsOldOf : Context → Option Meaning → ValueType → Type 0
IsOldOf in_proof meaning t = IsVarOf meaning t
IsOldOf other meaning t = ⊥

abbrev pub IsClaimContext : Context → Type 0
IsClaimContext in_program = ⊥
IsClaimContext other = ⊤

-- ---- operators

-- what a connective gives of operands of these types
abbrev pub Gives : Binary → (left right : ValueType) → ValueType → Type 0
Gives Binary.And l r t = (l ≡ truth_type) × (r ≡ truth_type) × (t ≡ truth_type)
Gives Binary.Or l r t = (l ≡ truth_type) × (r ≡ truth_type) × (t ≡ truth_type)
Gives Binary.Imply l r t = (l ≡ truth_type) × (r ≡ truth_type) × (t ≡ truth_type)
Gives Binary.Eq l r t = (r ≡ l) × (t ≡ truth_type)
Gives Binary.Append l r t = (l ≡ sequence_type r) × (t ≡ l)
Gives Binary.Add l r t = (l ≡ number_type) × (r ≡ number_type) × (t ≡ number_type)
Gives Binary.Sub l r t = (l ≡ number_type) × (r ≡ number_type) × (t ≡ number_type)
Gives Binary.Mul l r t = (l ≡ number_type) × (r ≡ number_type) × (t ≡ number_type)
Gives Binary.Div l r t = (l ≡ number_type) × (r ≡ number_type) × (t ≡ number_type)
Gives Binary.Rem l r t = (l ≡ number_type) × (r ≡ number_type) × (t ≡ number_type)
-- a comparison
Gives other l r t = (l ≡ number_type) × (r ≡ number_type) × (t ≡ truth_type)

-- ---- expressions

-- an element of a sequence, or a record of its fields; a call is no expression
abbrev pub AppliedHas : Scope → Callee → (head : ValueType → Type 0) → (arguments : List ValueType → Type 0) → ValueType → Type 0
AppliedHas scope a_value head arguments t = head (sequence_type t) × arguments (number_type ∷ [])
AppliedHas scope (a_record n) head arguments t = (ts : List ValueType) × (field_types scope n ≡ Some ts) × arguments ts × (t ≡ record_type n)
AppliedHas scope (a_method signature modifies) head arguments t = ⊥

-- `indices` stands in ranges alone, `size` is that of a sequence, and each other word that of a field of a record
abbrev pub FieldHas : Scope → (is_indices is_size : Bool) → List ℕ → (head : ValueType → Type 0) → ValueType → Type 0
FieldHas scope true is_size text head t = ⊥
FieldHas scope false true text head t = (s : ValueType) × head (sequence_type s) × (t ≡ number_type)
FieldHas scope false false text head t = (n : ℕ) × (f : Field) × head (record_type n) × (field_named scope n text ≡ Some f) × (f.type ≡ Some t)

-- Where no type stands in front there is a first element.
abbrev pub FrontHas : Scope → Option TypeTree → ExprTrees → ValueType → Type 0
FrontHas scope None no_exprs s = ⊥
FrontHas scope None (expr_then tree trees) s = is_element_type s ≡ true
FrontHas scope (Some ty) trees s = IsElementType scope.names ty s

abbrev mutual
  -- The expression is well typed there, of that type.
  pub HasType : Scope → Context → ExprTree → ValueType → Type 0
  HasType scope context (e.number place z) t = t ≡ number_type
  HasType scope context (e.truth place) t = t ≡ truth_type
  HasType scope context (e.falsity place) t = t ≡ truth_type
  HasType scope context (e.name text place) t = IsVariableOf (meaning_of scope text) t
  HasType scope context (e.result place ty) t = IsResultOf context t × MayBeWritten scope.names ty t
  HasType scope context (e.entry_value place written) t = IsEntryOf context (meaning_of scope written.text) t
  HasType scope context (e.old_value place written) t = IsOldOf context (meaning_of scope written.text) t
  HasType scope context (e.minus place operand) t = (t ≡ number_type) × HasType scope context operand number_type
  HasType scope context (e.negation place operand) t = (t ≡ truth_type) × HasType scope context operand truth_type
  HasType scope context (e.binary place operator left right) t =
      (l : ValueType) × (r : ValueType) × HasType scope context left l × HasType scope context right r × Gives (connective operator) l r t
  HasType scope context (e.application place head arguments) t =
      AppliedHas scope (callee scope head) (HasType scope context head) (HaveTypes scope context arguments) t
  HasType scope context (e.update place head index element) t =
      (s : ValueType) × (t ≡ sequence_type s) × HasType scope context head (sequence_type s) × HasType scope context index number_type
      × HasType scope context element s
  HasType scope context (e.field place head written) t =
      FieldHas scope (bytes_eq written.text (codes "indices")) (bytes_eq written.text (codes "size")) written.text (HasType scope context head) t
  HasType scope context (e.sequence place ty elements) t =
      (s : ValueType) × (t ≡ sequence_type s) × FrontHas scope ty elements s × EachHas scope context elements s
  HasType scope context (e.quantified place quantifier low high named body) t =
      (t ≡ truth_type) × IsClaimContext context × (is_known scope named.text ≡ false) × HasType scope context low number_type
      × HasType scope context high number_type × HasType (with_bound scope named.text) context body truth_type
  HasType scope context (e.quantified_indices place quantifier head named body) t =
      (t ≡ truth_type) × IsClaimContext context × (is_known scope named.text ≡ false)
      × ((s : ValueType) × HasType scope context head (sequence_type s)) × HasType (with_bound scope named.text) context body truth_type

  -- one expression for each type, of that type
  pub HaveTypes : Scope → Context → ExprTrees → List ValueType → Type 0
  HaveTypes scope context no_exprs [] = ⊤
  HaveTypes scope context no_exprs (t ∷ ts) = ⊥
  HaveTypes scope context (expr_then tree trees) [] = ⊥
  HaveTypes scope context (expr_then tree trees) (t ∷ ts) = HasType scope context tree t × HaveTypes scope context trees ts

  -- each is of that type
  pub EachHas : Scope → Context → ExprTrees → ValueType → Type 0
  EachHas scope context no_exprs t = ⊤
  EachHas scope context (expr_then tree trees) t = HasType scope context tree t × EachHas scope context trees t

-- The rules that tell of faults find an expression to be of a type exactly where it is well typed of that type.
abbrev pub TypesAreFound : Type 0
TypesAreFound = (scope : Scope) (context : Context) (tree : ExprTree) (t : ValueType) → ((judged scope context tree).type ≡ Some t) ↔ HasType scope context tree t
