-- What a constant asks of the name of a record, and of the first of its elements.
use Rattle.std.proofs.Common.{◌≡◌, ℕ, Option, Some, None, List, [], ◌∷◌, map, slice_get, refl, sym, ap, ◌∙◌}
use Rattle.std.specs.Option.{unwrap_or}
use Rattle.slang_values.specs.Value.{unit_type}
use Rattle.slang_tree.specs.declared.declaration.Const.{Const}
use Rattle.slang_tree.specs.DeclTree.{const_tree, consts_of}
use Rattle.type_rules.specs.Meanings.{Meaning, Scope, variable, bound_variable, block_variable, record_class, method}
use Rattle.type_rules.specs.Judged.{known_type}
use Rattle.type_rules.specs.Constants.{judged_const, judged_consts}
use Rattle.type_rules.specs.Expressions.{Callee, a_value, a_record, a_method, callee_meant}
use Rattle.typed_texts.specs.Claims.{type_of_elements}
use Rattle.typed_texts.specs.Values.{record_meant}
use Rattle.typed_parts.specs.Heads.{method_in}
use Rattle.typed_parts.proofs.Callees.{method_found}

-- the record that is applied
abbrev number_applied : Callee → ℕ
number_applied (a_record number) = number
number_applied a_value = 0
number_applied (a_method signature modifies) = 0

meant_applied : (meaning : Option Meaning) → record_meant meaning ≡ number_applied (callee_meant meaning)
meant_applied None = refl
meant_applied (Some (variable x is_var type)) = refl
meant_applied (Some (bound_variable depth)) = refl
meant_applied (Some (block_variable label)) = refl
meant_applied (Some (record_class number)) = refl
meant_applied (Some (method number signature modifies)) = refl

pub value_meant : (meaning : Option Meaning) → callee_meant meaning ≡ a_value → 0 ≡ record_meant meaning
value_meant meaning is = sym (meant_applied meaning ∙ ap number_applied is)

pub class_meant : (meaning : Option Meaning) (number : ℕ) → callee_meant meaning ≡ a_record number → number ≡ record_meant meaning
class_meant meaning number is = sym (meant_applied meaning ∙ ap number_applied is)

pub method_meant : (meaning : Option Meaning) (number : ℕ) → method_in meaning ≡ Some number → 0 ≡ record_meant meaning
method_meant meaning number is = sym (ap record_meant (method_found meaning number is).means)

-- ---- the first of some elements

no_first : {A : Type 0} (a : A) → None ≡ Some a → ⊥
no_first a h = cc h

pub none_first : (scope : Scope) (elements : List Const) → None ≡ slice_get elements 0 →
    unit_type ≡ type_of_elements [] (judged_consts scope (consts_of (map const_tree elements)))
none_first scope [] h = refl
none_first scope (e ∷ es) h = absurd (no_first e h)

pub type_first : (scope : Scope) (elements : List Const) (first : Const) → Some first ≡ slice_get elements 0 →
    known_type (judged_const scope (const_tree first)) ≡ type_of_elements [] (judged_consts scope (consts_of (map const_tree elements)))
type_first scope [] first h = absurd (no_first first (sym h))
type_first scope (e ∷ es) first h = ap (λ it. known_type (judged_const scope (const_tree it))) (ap (λ it. unwrap_or it first) h)
