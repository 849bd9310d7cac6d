-- What the names of a text mean where they stand.
use Rattle.std.specs.Prelude.{ℕ, ◌+◌, Bool, true, false, ◌&&◌, ◌||◌, not, List, [], ◌∷◌, ◌++◌, map, find, get_or, Option, Some, None}
use Rattle.std.specs.Option.{option_map, option_map_or, is_some}
use Rattle.std.specs.List.{list_all}
use Rattle.std.specs.Set.{is_member}
use Rattle.std.specs.Str.{bytes_eq}
use Rattle.slang_values.specs.Value.{ValueType}
use Rattle.program_trees.specs.Variables.{Variable, local, global}

-- the types of a method's parameters, and of its result
pub record Signature : Type 0 where
  pub params : List ValueType
  pub result : ValueType

-- What a name means. It has no type where what is written for the type has a fault.
pub data Meaning : Type 0 where
  -- a parameter, a `val`, a `var` or a global; a `var` may be assigned
  variable : (x : Variable) (is_var : Bool) (type : Option ValueType) → Meaning
  -- the variable of a quantifier, by how many quantifiers stand around that one
  bound_variable : (depth : ℕ) → Meaning
  -- the variable of a block of a proof, by the label of the block
  block_variable : (label : ℕ) → Meaning
  -- a record by its number
  record_class : (number : ℕ) → Meaning
  -- A method by its number, with the names that its Modifies has. It has a signature where all its types are without fault.
  method : (number : ℕ) (signature : Option Signature) (modifies : List (List ℕ)) → Meaning

pub record Declared : Type 0 where
  pub text : List ℕ
  pub meaning : Meaning

abbrev pub declared : List ℕ → Meaning → Declared
declared text meaning = record { text = text; meaning = meaning }

-- a field of a record by its name
pub record Field : Type 0 where
  pub text : List ℕ
  pub type : Option ValueType

-- A place of the text.
pub record Scope : Type 0 where
  -- what has a name there, in the order of declaration
  pub names : List Declared
  -- the fields of each record
  pub fields : List (List Field)
  -- the variables that may be changed, by their names
  pub covers : List ℕ → Bool
  -- how many locals were declared before
  pub locals : ℕ
  -- how many quantifiers stand around
  pub depth : ℕ

-- ---- what a name means

-- Of several declarations of one name the first has it.
abbrev pub meaning_among : List Declared → List ℕ → Option Meaning
meaning_among names text = option_map (λ d. d.meaning) (find (λ d. bytes_eq d.text text) names)

abbrev pub meaning_of : Scope → List ℕ → Option Meaning
meaning_of scope text = meaning_among scope.names text

abbrev pub is_known : Scope → List ℕ → Bool
is_known scope text = is_some (meaning_of scope text)

-- each of them has a type
abbrev pub all_typed : {A : Type 0} → List (Option A) → Option (List A)
all_typed [] = Some []
all_typed (None ∷ types) = None
all_typed (Some t ∷ types) = option_map (λ ts. t ∷ ts) (all_typed types)

-- the fields of a record
abbrev pub fields_of : Scope → ℕ → List Field
fields_of scope number = get_or scope.fields number []

-- their types, where no field has a fault
abbrev pub field_types : Scope → ℕ → Option (List ValueType)
field_types scope number = all_typed (map (λ f. f.type) (fields_of scope number))

-- The type of a variable; what is written for the types of the name has no fault.
abbrev pub is_well_declared : Scope → Meaning → Bool
is_well_declared scope (variable x is_var type) = is_some type
is_well_declared scope (bound_variable depth) = true
is_well_declared scope (block_variable label) = true
is_well_declared scope (record_class number) = is_some (field_types scope number)
is_well_declared scope (method number signature modifies) = is_some signature

-- ---- a `var`, of the method or among the globals

abbrev pub is_var : Meaning → Bool
is_var (variable x changes type) = changes
is_var other = false

abbrev pub is_global_var : Meaning → Bool
is_global_var (variable (global n) changes type) = changes
is_global_var other = false

-- the name is that of a `var` among the globals
abbrev pub names_global_var : Scope → List ℕ → Bool
names_global_var scope text = option_map_or is_global_var (meaning_of scope text) false

-- All `var`s among the globals that these names name may be changed.
abbrev pub covers_all : Scope → List (List ℕ) → Bool
covers_all scope modifies = list_all (λ text. not (names_global_var scope text) || scope.covers text) modifies

-- ---- larger scopes

-- with one name more, behind the others
abbrev pub with_name : Scope → List ℕ → Meaning → Scope
with_name scope text meaning = record scope { names = scope.names ++ declared text meaning ∷ [] }

-- with a local of the method, which may be changed where it is a `var`
abbrev pub with_local : Scope → List ℕ → Bool → Option ValueType → Scope
with_local scope text changes type = record {
  names = scope.names ++ declared text (variable (local scope.locals) changes type) ∷ [];
  fields = scope.fields;
  covers = λ other. bytes_eq text other || scope.covers other;
  locals = scope.locals + 1;
  depth = scope.depth;
}

-- with the variable of a quantifier
abbrev pub with_bound : Scope → List ℕ → Scope
with_bound scope text = record {
  names = scope.names ++ declared text (bound_variable scope.depth) ∷ [];
  fields = scope.fields;
  covers = scope.covers;
  locals = scope.locals;
  depth = scope.depth + 1;
}

-- in a loop, which changes only these of what stands outside
abbrev pub within : Scope → List (List ℕ) → Scope
within scope modifies = record scope { covers = λ text. scope.covers text && is_member bytes_eq modifies text }
