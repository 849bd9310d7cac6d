-- The right side that is a call of a method, and any other.
use Rattle.std.proofs.Common.{◌≡◌, ℕ, Bool, true, false, true≢false, Option, List, refl, sym, ap, ◌∙◌, subst}
use Rattle.slang_tree.specs.declared.place.Place.{Place}
use Rattle.slang_tree.specs.ExprTree.{ExprTree, ExprTrees}
use Rattle.slang_tree.specs.ExprTree as e
use Rattle.type_rules.specs.Judged.{Judged}
use Rattle.type_rules.specs.Meanings.{Scope, Signature}
use Rattle.type_rules.specs.Expressions.{Callee, a_method, a_record, a_value, callee, in_program, judged, judged_each, judged_right, judged_side}
use Rattle.right_sides.specs.Called.{calls_method, is_method}

pub method_found : (callee : Callee) → is_method callee ≡ true → (signature : Option Signature) × ((modifies : List (List ℕ)) × (callee ≡ a_method signature modifies))
method_found a_value h = absurd (true≢false (sym h))
method_found (a_record number) h = absurd (true≢false (sym h))
method_found (a_method signature modifies) h = (signature, (modifies, refl))

side_elsewhere : (scope : Scope) (place : Place) (callee : Callee) (elsewhere : Judged) (arguments : List Judged) → is_method callee ≡ false →
    judged_side scope place callee elsewhere arguments ≡ elsewhere
side_elsewhere scope place a_value elsewhere arguments h = refl
side_elsewhere scope place (a_record number) elsewhere arguments h = refl
side_elsewhere scope place (a_method signature modifies) elsewhere arguments h = absurd (true≢false h)

pub right_elsewhere : (scope : Scope) (tree : ExprTree) → calls_method scope tree ≡ false → judged scope in_program tree ≡ judged_right scope tree
right_elsewhere scope (e.application place head arguments) h =
    sym (side_elsewhere scope place (callee scope head) (judged scope in_program (e.application place head arguments)) (judged_each scope in_program arguments) h)
right_elsewhere scope (e.number place z) h = refl
right_elsewhere scope (e.truth place) h = refl
right_elsewhere scope (e.falsity place) h = refl
right_elsewhere scope (e.name text place) h = refl
right_elsewhere scope (e.result place ty) h = refl
right_elsewhere scope (e.entry_value place written) h = refl
right_elsewhere scope (e.old_value place written) h = refl
right_elsewhere scope (e.minus place operand) h = refl
right_elsewhere scope (e.negation place operand) h = refl
right_elsewhere scope (e.binary place operator left right) h = refl
right_elsewhere scope (e.update place head index element) h = refl
right_elsewhere scope (e.field place head written) h = refl
right_elsewhere scope (e.sequence place ty elements) h = refl
right_elsewhere scope (e.quantified place quantifier low high variable body) h = refl
right_elsewhere scope (e.quantified_indices place quantifier head variable body) h = refl
