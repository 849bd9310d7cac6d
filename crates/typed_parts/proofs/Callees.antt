-- What is known of a head by what it names.
use Rattle.std.proofs.Common.{◌≡◌, ℕ, Option, Some, None, List, refl, sym, ap, ◌∙◌}
use Rattle.std.specs.Option.{unwrap_or}
use Rattle.slang_tree.specs.ExprTree.{ExprTree}
use Rattle.slang_tree.specs.ExprTree as e
use Rattle.type_rules.specs.Meanings.{Meaning, Scope, Signature, variable, bound_variable, block_variable, record_class, method, meaning_of}
use Rattle.type_rules.specs.Expressions.{Callee, a_value, a_record, a_method, callee, callee_meant}
use Rattle.typed_parts.specs.Heads.{head_meaning, method_in}

-- what is applied is what the head means
pub callee_is : (scope : Scope) (head : ExprTree) → callee scope head ≡ callee_meant (head_meaning scope head)
callee_is scope (e.number place z) = refl
callee_is scope (e.truth place) = refl
callee_is scope (e.falsity place) = refl
callee_is scope (e.name text place) = refl
callee_is scope (e.result place ty) = refl
callee_is scope (e.entry_value place written) = refl
callee_is scope (e.old_value place written) = refl
callee_is scope (e.minus place operand) = refl
callee_is scope (e.negation place operand) = refl
callee_is scope (e.binary place operator left right) = refl
callee_is scope (e.application place head arguments) = refl
callee_is scope (e.update place head index element) = refl
callee_is scope (e.field place head written) = refl
callee_is scope (e.sequence place ty elements) = refl
callee_is scope (e.quantified place quantifier low high named body) = refl
callee_is scope (e.quantified_indices place quantifier head named body) = refl

-- a method that is meant
pub record MeansMethod (meaning : Option Meaning) (number : ℕ) : Type 0 where
  pub signature : Option Signature
  pub modifies : List (List ℕ)
  pub means : meaning ≡ Some (method number signature modifies)

no_method : (number : ℕ) → None ≡ Some number → ⊥
no_method number h = cc h

pub method_found : (meaning : Option Meaning) (number : ℕ) → method_in meaning ≡ Some number → MeansMethod meaning number
method_found (Some (method n signature modifies)) number h =
    record { signature = signature; modifies = modifies; means = ap (λ k. Some (method k signature modifies)) (ap (λ it. unwrap_or it 0) h) }
method_found (Some (variable x is_var type)) number h = absurd (no_method number h)
method_found (Some (bound_variable depth)) number h = absurd (no_method number h)
method_found (Some (block_variable label)) number h = absurd (no_method number h)
method_found (Some (record_class n)) number h = absurd (no_method number h)
method_found None number h = absurd (no_method number h)
