-- The right side that is a call of a method, and any other.
use Rattle.std.proofs.Common.{◌≡◌, ℕ, Option, Some, None, List, refl, sym, ap, ◌∙◌, subst}
use Rattle.std.specs.Option.{unwrap_or}
use Rattle.slang_tree.specs.declared.place.Place.{Place}
use Rattle.slang_tree.specs.declared.expression.Name.{Name}
use Rattle.slang_tree.specs.ExprTree.{ExprTree, ExprTrees}
use Rattle.slang_tree.specs.ExprTree as e
use Rattle.program_trees.specs.Variables.{Variable}
use Rattle.type_rules.specs.Meanings.{Meaning, Scope, Signature, variable, bound_variable, block_variable, record_class, method, meaning_of}
use Rattle.type_rules.specs.Expressions.{a_value, a_record, a_method, callee_meant}
use Rattle.typed_texts.specs.Code.{applied_to, assigned, call_of, set_to, method_meant}
use Rattle.typed_texts.specs.Values.{Value, value_of_tree}
use Rattle.typed_parts.specs.Heads.{method_in}
use Rattle.typed_parts.proofs.Callees.{method_found}
use Rattle.call_making.specs.Sides.{applied_in, name_in, written}

no_some : {A : Type 0} (a : A) → None ≡ Some a → ⊥
no_some a h = cc h

some_no : {A : Type 0} (a : A) → Some a ≡ None → ⊥
some_no a h = cc h

-- what is a value in a scope
abbrev IsSetTo : Scope → ExprTree → Type 0
IsSetTo at tree = (place : Place) (x : Variable) → assigned at place x tree ≡ set_to place x (value_of_tree at tree)

-- of what is no application
pub set_alone : (at : Scope) (tree : ExprTree) → None ≡ applied_in tree → IsSetTo at tree
set_alone at (e.application p head arguments) h = absurd (no_some (head, arguments) h)
set_alone at (e.number p z) h = λ place x. refl
set_alone at (e.truth p) h = λ place x. refl
set_alone at (e.falsity p) h = λ place x. refl
set_alone at (e.name text p) h = λ place x. refl
set_alone at (e.result p ty) h = λ place x. refl
set_alone at (e.entry_value p named) h = λ place x. refl
set_alone at (e.old_value p named) h = λ place x. refl
set_alone at (e.minus p operand) h = λ place x. refl
set_alone at (e.negation p operand) h = λ place x. refl
set_alone at (e.binary p operator left right) h = λ place x. refl
set_alone at (e.update p head index element) h = λ place x. refl
set_alone at (e.field p head named) h = λ place x. refl
set_alone at (e.sequence p ty elements) h = λ place x. refl
set_alone at (e.quantified p quantifier low high named body) h = λ place x. refl
set_alone at (e.quantified_indices p quantifier head named body) h = λ place x. refl

-- an application of what is no name
unnamed : (at : Scope) (p : Place) (head : ExprTree) (arguments : ExprTrees) → None ≡ name_in head → IsSetTo at (e.application p head arguments)
unnamed at p (e.name text q) arguments h = absurd (no_some (written text q) h)
unnamed at p (e.application q head others) arguments h = λ place x. refl
unnamed at p (e.number q z) arguments h = λ place x. refl
unnamed at p (e.truth q) arguments h = λ place x. refl
unnamed at p (e.falsity q) arguments h = λ place x. refl
unnamed at p (e.result q ty) arguments h = λ place x. refl
unnamed at p (e.entry_value q named) arguments h = λ place x. refl
unnamed at p (e.old_value q named) arguments h = λ place x. refl
unnamed at p (e.minus q operand) arguments h = λ place x. refl
unnamed at p (e.negation q operand) arguments h = λ place x. refl
unnamed at p (e.binary q operator left right) arguments h = λ place x. refl
unnamed at p (e.update q head index element) arguments h = λ place x. refl
unnamed at p (e.field q head named) arguments h = λ place x. refl
unnamed at p (e.sequence q ty elements) arguments h = λ place x. refl
unnamed at p (e.quantified q quantifier low high named body) arguments h = λ place x. refl
unnamed at p (e.quantified_indices q quantifier head named body) arguments h = λ place x. refl

-- ---- applications

pub record IsApplication (tree head : ExprTree) (arguments : ExprTrees) : Type 0 where
  pub place : Place
  pub is : tree ≡ e.application place head arguments

pub application_found : (tree head : ExprTree) (arguments : ExprTrees) → Some (head, arguments) ≡ applied_in tree → IsApplication tree head arguments
application_found (e.application p head' arguments') head arguments h =
    let same : (head', arguments') ≡ (head, arguments) = ap (λ it. unwrap_or it (head, arguments)) (sym h) in
    record { place = p; is = ap (λ (parts : ExprTree × ExprTrees). e.application p parts.0 parts.1) same }
application_found (e.number p z) head arguments h = absurd (some_no (head, arguments) h)
application_found (e.truth p) head arguments h = absurd (some_no (head, arguments) h)
application_found (e.falsity p) head arguments h = absurd (some_no (head, arguments) h)
application_found (e.name text p) head arguments h = absurd (some_no (head, arguments) h)
application_found (e.result p ty) head arguments h = absurd (some_no (head, arguments) h)
application_found (e.entry_value p named) head arguments h = absurd (some_no (head, arguments) h)
application_found (e.old_value p named) head arguments h = absurd (some_no (head, arguments) h)
application_found (e.minus p operand) head arguments h = absurd (some_no (head, arguments) h)
application_found (e.negation p operand) head arguments h = absurd (some_no (head, arguments) h)
application_found (e.binary p operator left right) head arguments h = absurd (some_no (head, arguments) h)
application_found (e.update p head' index element) head arguments h = absurd (some_no (head, arguments) h)
application_found (e.field p head' named) head arguments h = absurd (some_no (head, arguments) h)
application_found (e.sequence p ty elements) head arguments h = absurd (some_no (head, arguments) h)
application_found (e.quantified p quantifier low high named body) head arguments h = absurd (some_no (head, arguments) h)
application_found (e.quantified_indices p quantifier head' named body) head arguments h = absurd (some_no (head, arguments) h)

pub name_found : (head : ExprTree) (name : Name) → Some name ≡ name_in head → head ≡ e.name name.text name.place
name_found (e.name text p) name h =
    let same : written text p ≡ name = ap (λ it. unwrap_or it name) (sym h) in
    ap (λ (n : Name). e.name n.text n.place) same
name_found (e.application p head arguments) name h = absurd (some_no name h)
name_found (e.number p z) name h = absurd (some_no name h)
name_found (e.truth p) name h = absurd (some_no name h)
name_found (e.falsity p) name h = absurd (some_no name h)
name_found (e.result p ty) name h = absurd (some_no name h)
name_found (e.entry_value p named) name h = absurd (some_no name h)
name_found (e.old_value p named) name h = absurd (some_no name h)
name_found (e.minus p operand) name h = absurd (some_no name h)
name_found (e.negation p operand) name h = absurd (some_no name h)
name_found (e.binary p operator left right) name h = absurd (some_no name h)
name_found (e.update p head index element) name h = absurd (some_no name h)
name_found (e.field p head named) name h = absurd (some_no name h)
name_found (e.sequence p ty elements) name h = absurd (some_no name h)
name_found (e.quantified p quantifier low high named body) name h = absurd (some_no name h)
name_found (e.quantified_indices p quantifier head named body) name h = absurd (some_no name h)

pub set_unnamed : (at : Scope) (tree head : ExprTree) (arguments : ExprTrees) → Some (head, arguments) ≡ applied_in tree → None ≡ name_in head → IsSetTo at tree
set_unnamed at tree head arguments applied none =
    let found = application_found tree head arguments applied in
    subst (IsSetTo at) (sym found.is) (unnamed at found.place head arguments none)

-- ---- what the name means

no_value : (signature : Option Signature) (modifies : List (List ℕ)) → a_method signature modifies ≡ a_value → ⊥
no_value signature modifies h = cc h

no_record : (signature : Option Signature) (modifies : List (List ℕ)) (n : ℕ) → a_method signature modifies ≡ a_record n → ⊥
no_record signature modifies n h = cc h

-- it is no method
abbrev IsOther : Option Meaning → Type 0
IsOther meaning = (scope : Scope) (place : Place) (x : Variable) (name_place : Place) (arguments : ExprTrees) (value : Value) →
    applied_to scope place x name_place meaning arguments value ≡ set_to place x value

value_other : (meaning : Option Meaning) → callee_meant meaning ≡ a_value → IsOther meaning
value_other None h = λ scope place x name_place arguments value. refl
value_other (Some (variable y is_var type)) h = λ scope place x name_place arguments value. refl
value_other (Some (bound_variable depth)) h = λ scope place x name_place arguments value. refl
value_other (Some (block_variable label)) h = λ scope place x name_place arguments value. refl
value_other (Some (record_class number)) h = λ scope place x name_place arguments value. refl
value_other (Some (method number signature modifies)) h = absurd (no_value signature modifies h)

record_other : (meaning : Option Meaning) (n : ℕ) → callee_meant meaning ≡ a_record n → IsOther meaning
record_other None n h = λ scope place x name_place arguments value. refl
record_other (Some (variable y is_var type)) n h = λ scope place x name_place arguments value. refl
record_other (Some (bound_variable depth)) n h = λ scope place x name_place arguments value. refl
record_other (Some (block_variable label)) n h = λ scope place x name_place arguments value. refl
record_other (Some (record_class number)) n h = λ scope place x name_place arguments value. refl
record_other (Some (method number signature modifies)) n h = absurd (no_record signature modifies n h)

module _ (at : Scope) (tree head : ExprTree) (arguments : ExprTrees) (name : Name) (applied : Some (head, arguments) ≡ applied_in tree)
    (named : Some name ≡ name_in head) where
  whole : (p : Place) → tree ≡ e.application p head arguments → tree ≡ e.application p (e.name name.text name.place) arguments
  whole p is = is ∙ ap (λ h. e.application p h arguments) (name_found head name named)

  set_other : IsOther (meaning_of at name.text) → IsSetTo at tree
  set_other other =
      let found = application_found tree head arguments applied in
      subst (IsSetTo at) (sym (whole found.place found.is))
      (λ place x. other at place x name.place arguments (value_of_tree at (e.application found.place (e.name name.text name.place) arguments)))

  pub set_value : callee_meant (meaning_of at name.text) ≡ a_value → IsSetTo at tree
  set_value h = set_other (value_other (meaning_of at name.text) h)

  pub set_record : (n : ℕ) → callee_meant (meaning_of at name.text) ≡ a_record n → IsSetTo at tree
  set_record n h = set_other (record_other (meaning_of at name.text) n h)

  pub call_method : (n : ℕ) → method_in (meaning_of at name.text) ≡ Some n → (place : Place) (x : Variable) →
      assigned at place x tree ≡ call_of at place (Some x) name.place (meaning_of at name.text) arguments
  call_method n h place x =
      let found = application_found tree head arguments applied in
      let means = (method_found (meaning_of at name.text) n h) in
      let value = value_of_tree at (e.application found.place (e.name name.text name.place) arguments) in
      ap (assigned at place x) (whole found.place found.is)
      ∙ ap (λ meaning. applied_to at place x name.place meaning arguments value) means.means
      ∙ ap (λ meaning. call_of at place (Some x) name.place meaning arguments) (sym means.means)

-- ---- the number of a method

pub number_value : (meaning : Option Meaning) → callee_meant meaning ≡ a_value → 0 ≡ method_meant meaning
number_value None h = refl
number_value (Some (variable y is_var type)) h = refl
number_value (Some (bound_variable depth)) h = refl
number_value (Some (block_variable label)) h = refl
number_value (Some (record_class number)) h = refl
number_value (Some (method number signature modifies)) h = absurd (no_value signature modifies h)

pub number_record : (meaning : Option Meaning) (n : ℕ) → callee_meant meaning ≡ a_record n → 0 ≡ method_meant meaning
number_record None n h = refl
number_record (Some (variable y is_var type)) n h = refl
number_record (Some (bound_variable depth)) n h = refl
number_record (Some (block_variable label)) n h = refl
number_record (Some (record_class number)) n h = refl
number_record (Some (method number signature modifies)) n h = absurd (no_record signature modifies n h)

pub number_method : (meaning : Option Meaning) (n : ℕ) → method_in meaning ≡ Some n → n ≡ method_meant meaning
number_method meaning n h = sym (ap method_meant (method_found meaning n h).means)
