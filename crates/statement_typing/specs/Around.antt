-- When what is in scope at a place of a text agrees with what may be named and assigned there in the program.
use Rattle.std.specs.Prelude.{◌≡◌, ℕ, ◌+◌, ◌<◌, Bool, true, List, [], ◌∷◌, length, slice_get, Option, Some, None, is_some, ⊤, ◌⊎◌}
use Rattle.std.specs.List.{AllByRecursion, list_all}
use Rattle.slang_values.specs.Value.{ValueType, fields, is_known, is_value_type}
use Rattle.program_trees.specs.Programs.{MethodTree, ProgramTree}
use Rattle.program_trees.specs.Variables.{Variable, local, global, variable_types}
use Rattle.run_rules.specs.Runs.{method_at}
use Rattle.typed_programs.specs.Scopes as programs
use Rattle.typed_programs.specs.WellTyped.{Around, is_program_type, is_result_type}
use Rattle.type_rules.specs.Meanings.{Signature, Meaning, variable, bound_variable, block_variable, record_class, method, Declared, Scope, meaning_among, meaning_of, field_types, fields_of}

abbrev pub Among : {A : Type 0} → A → List A → Type 0
Among a [] = ⊥
Among a (b ∷ bs) = (b ≡ a) ⊎ Among a bs

-- One of the texts names the global of that number, and it is a `var`.
pub record IsNamedGlobal (names : List Declared) (texts : List (List ℕ)) (n : ℕ) : Type 0 where
  pub text : List ℕ
  pub among : Among text texts
  pub type : Option ValueType
  pub meant : meaning_among names text ≡ Some (variable (global n) true type)

-- a local that is declared before the place, or a variable of another kind
abbrev pub IsBefore : ℕ → Variable → Type 0
IsBefore locals (local n) = n < locals
IsBefore locals other = ⊤

module _ (program : ProgramTree Variable) (own : MethodTree Variable) (nodes : ℕ) where
  -- a place of the method, where these variables may be named
  abbrev pub place_at : (Variable → Bool) → programs.Scope
  place_at named = record { program = program; method = own; named = named; nodes = nodes }

  -- and these assigned
  abbrev pub around_at : (named assigned : Variable → Bool) → Around
  around_at named assigned = record { scope = place_at named; assigned = assigned }

  -- A variable of the text may be named, has its type in the program, and may be assigned where it is a `var` that may be changed.
  pub record IsVariable (named assigned : Variable → Bool) (covered : Bool) (locals : ℕ) (x : Variable) (changes : Bool) (t : ValueType) : Type 0 where
    pub is_named : named x ≡ true
    pub typed : variable_types program own x ≡ Some t
    pub known : is_program_type program.records t ≡ true
    pub var : changes ≡ true → programs.is_var (place_at named) x ≡ true
    pub may_be_assigned : changes ≡ true → covered ≡ true → assigned x ≡ true
    pub before : IsBefore locals x

  -- A method of the text has its signature in the program, and what it modifies is what its names name.
  pub record IsMethod (names : List Declared) (number : ℕ) (signature : Signature) (modifies : List (List ℕ)) : Type 0 where
    pub there : number < length program.methods
    pub params : (method_at program number).params ≡ signature.params
    pub result : (method_at program number).result ≡ signature.result
    pub known : is_result_type program.records signature.result ≡ true
    pub modified : AllByRecursion (IsNamedGlobal names modifies) (method_at program number).modifies

  abbrev pub IsMeant : (named assigned : Variable → Bool) (scope : Scope) → List ℕ → Meaning → Type 0
  IsMeant named assigned scope text (variable x changes None) = ⊥
  IsMeant named assigned scope text (variable x changes (Some t)) = IsVariable named assigned (scope.covers text) scope.locals x changes t
  IsMeant named assigned scope text (bound_variable depth) = ⊥
  IsMeant named assigned scope text (block_variable label) = ⊥
  IsMeant named assigned scope text (record_class n) = n < length program.records
  IsMeant named assigned scope text (method number None modifies) = ⊥
  IsMeant named assigned scope text (method number (Some signature) modifies) = IsMethod scope.names number signature modifies

  -- At a place outside of quantifiers and proofs.
  pub record FitsAround (named assigned : Variable → Bool) (scope : Scope) : Type 0 where
    pub meanings : (text : List ℕ) (m : Meaning) → meaning_of scope text ≡ Some m → IsMeant named assigned scope text m
    -- no two names have one variable
    pub apart : (s t : List ℕ) (x : Variable) (c d : Bool) (u v : Option ValueType) →
        meaning_of scope s ≡ Some (variable x c u) → meaning_of scope t ≡ Some (variable x d v) → s ≡ t
    pub outside : scope.depth ≡ 0
    -- of locals only those declared before may be named, and what may be named has a type that variables may have
    pub fresh : (n : ℕ) → named (local n) ≡ true → n < scope.locals
    pub named_types : (x : Variable) (t : ValueType) → named x ≡ true → variable_types program own x ≡ Some t → is_program_type program.records t ≡ true
    -- the records have the same fields, of types that fields may have
    pub same_fields : (n : ℕ) → field_types scope n ≡ Some (fields program.records n)
    pub typed_fields : (n : ℕ) → AllByRecursion (λ f. is_some f.type ≡ true) (fields_of scope n)
    pub known_fields : (n : ℕ) → list_all (is_known program.records) (fields program.records n) ≡ true
    pub value_fields : (n : ℕ) → list_all is_value_type (fields program.records n) ≡ true

-- From that number on the locals of the method have these types.
abbrev pub HasLocals : MethodTree Variable → ℕ → List ValueType → Type 0
HasLocals own start types = (k : ℕ) (t : ValueType) → slice_get types k ≡ Some t → slice_get own.locals (start + k) ≡ Some t
