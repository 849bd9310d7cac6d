-- When a scope of a text and the types of a program's variables say the same.
use Rattle.std.specs.Prelude.{◌≡◌, ℕ, ◌<◌, Bool, true, List, length, Some}
use Rattle.std.specs.List.{list_all}
use Rattle.slang_values.specs.Value.{ValueType, unit_type, number_type, Records, fields, is_known}
use Rattle.slang_values.specs.Typing.{NameTypes, IsTyped}
use Rattle.slang_tree.specs.ExprTree.{ExprTree}
use Rattle.program_trees.specs.Claims.{ClaimName, old_variable, let_symbol}
use Rattle.program_trees.specs.Claims as names
use Rattle.program_trees.specs.Variables.{Variable, global, entry, result}
use Rattle.type_rules.specs.Meanings.{variable, block_variable, record_class, Scope, meaning_of, field_types}
use Rattle.type_rules.specs.Expressions.{Context, in_ensures, in_proof, judged}
use Rattle.typed_texts.specs.Claims.{claim_of_tree}

-- a name of a claim with its type, which names records that are there
abbrev pub HasType : Records → NameTypes (ClaimName Variable) → ClaimName Variable → ValueType → Type 0
HasType records types x t = (types x ≡ Some t) × (is_known records t ≡ true)

-- of the result, where a claim may speak of it: a method of type `Unit` has none
abbrev pub FitsResult : Records → NameTypes (ClaimName Variable) → Context → Type 0
FitsResult records types (in_ensures (Some unit_type)) = Unit {0}
FitsResult records types (in_ensures (Some t)) = HasType records types (names.variable result) t
FitsResult records types other = Unit {0}

-- of what a `var` among the globals was when the method began
abbrev pub FitsEntry : Records → NameTypes (ClaimName Variable) → Context → ℕ → ValueType → Type 0
FitsEntry records types (in_ensures r) n t = HasType records types (names.variable (entry n)) t
FitsEntry records types other n t = Unit {0}

-- of what a `var` was before its last change
abbrev pub FitsOld : Records → NameTypes (ClaimName Variable) → Context → Variable → ValueType → Type 0
FitsOld records types in_proof x t = HasType records types (old_variable x) t
FitsOld records types other x t = Unit {0}

-- Each name that means something in the scope has the type there that its variable has in the program.
pub record FitsScope (records : Records) (types : NameTypes (ClaimName Variable)) (context : Context) (scope : Scope) : Type 0 where
  pub variables : (text : List ℕ) (x : Variable) (is_var : Bool) (t : ValueType) →
      meaning_of scope text ≡ Some (variable x is_var (Some t)) → HasType records types (names.variable x) t
  pub entries : (text : List ℕ) (n : ℕ) (t : ValueType) →
      meaning_of scope text ≡ Some (variable (global n) true (Some t)) → FitsEntry records types context n t
  pub olds : (text : List ℕ) (x : Variable) (t : ValueType) →
      meaning_of scope text ≡ Some (variable x true (Some t)) → FitsOld records types context x t
  pub blocks : (text : List ℕ) (label : ℕ) →
      meaning_of scope text ≡ Some (block_variable label) → types (let_symbol label) ≡ Some number_type
  pub classes : (text : List ℕ) (n : ℕ) → meaning_of scope text ≡ Some (record_class n) → n < length records
  pub result : FitsResult records types context
  -- the records have the same fields, of types that are known
  pub same_fields : (n : ℕ) → field_types scope n ≡ Some (fields records n)
  pub known_fields : (n : ℕ) → list_all (is_known records) (fields records n) ≡ true

-- An expression of the text that has a type, as a claim has that type, where the scope fits.
abbrev pub ClaimsAreTyped : Type 0
ClaimsAreTyped =
    (records : Records) (types : NameTypes (ClaimName Variable)) (context : Context) (scope : Scope) → FitsScope records types context scope →
    (tree : ExprTree) (t : ValueType) → (judged scope context tree).type ≡ Some t → IsTyped records types (claim_of_tree scope context tree) t
