-- Returns, and what is wrong where there is none.
use Rattle.std.proofs.Common.{◌≡◌, Bool, true, false, cond, not, Option, Some, None, List, [], ◌∷◌, ◌++◌, refl, sym, ap, ◌∙◌}
use Rattle.std.specs.Option.{is_some}
use Rattle.slang_values.specs.Value.{ValueType, unit_type, number_type, truth_type, sequence_type, record_type}
use Rattle.slang_tree.specs.declared.place.Fault.{Fault}
use Rattle.slang_tree.specs.declared.expression.Name.{Name}
use Rattle.slang_tree.specs.DeclTree.{ReturnTree}
use Rattle.text_types.specs.declared.found.Found.{Found}
use Rattle.text_types.specs.Found.{IsJudged, bare, seen}
use Rattle.text_types.proofs.Parts.{with_none}
use Rattle.type_faults.specs.FirstFault.{with_first}
use Rattle.type_faults.proofs.First.{in_turn}
use Rattle.type_rules.specs.Faults.{type_differs, unless}
use Rattle.type_rules.specs.Judged.{Judged}
use Rattle.type_rules.specs.Meanings.{Scope}
use Rattle.type_rules.specs.Expressions.{in_program, judged}
use Rattle.type_rules.specs.Projects.{return_faults}
use Rattle.claim_judging.proofs.ClaimFaults.{against_part}
use Rattle.return_judging.specs.Missing.{missing_faults, returned_faults}

turned : (b : Bool) (fault : Fault) → unless (not b) fault ≡ cond b (fault ∷ []) []
turned true fault = refl
turned false fault = refl

pub missing_is : (at : Scope) (written : Name) (has_signature : Bool) (type : Option ValueType) → missing_faults written has_signature type ≡ return_faults at written has_signature type None
missing_is at written has_signature None = refl
missing_is at written has_signature (Some unit_type) = refl
missing_is at written has_signature (Some number_type) = turned has_signature (type_differs written.place)
missing_is at written has_signature (Some truth_type) = turned has_signature (type_differs written.place)
missing_is at written has_signature (Some (sequence_type t)) = turned has_signature (type_differs written.place)
missing_is at written has_signature (Some (record_type n)) = turned has_signature (type_differs written.place)

by_unit : (a b c : Option Fault) (x : Found) (X : Judged) → IsJudged a b x X → c ≡ with_first b (unless (not (is_some (seen x).type)) (type_differs x.place)) →
    c ≡ with_first a (X.faults ++ cond (is_some X.type) (type_differs X.place ∷ []) [])
by_unit a b c x X part wrong =
    wrong
    ∙ ap (λ (j : Judged). with_first b (unless (not (is_some j.type)) (type_differs j.place))) part.is
    ∙ ap (with_first b) (turned (is_some X.type) (type_differs X.place))
    ∙ ap (λ f. with_first f (cond (is_some X.type) (type_differs X.place ∷ []) [])) part.told
    ∙ in_turn a X.faults (cond (is_some X.type) (type_differs X.place ∷ []) [])

pub returned_is : (a b c : Option Fault) (x : Found) (at : Scope) (written : Name) (has_signature : Bool) (type : Option ValueType) (returned : ReturnTree) →
    IsJudged a b x (judged at in_program returned.value) → c ≡ with_first b (returned_faults type (seen x)) →
    c ≡ with_first a (return_faults at written has_signature type (Some returned))
returned_is a b c x at written has_signature None returned part wrong = wrong ∙ with_none b ∙ part.told
returned_is a b c x at written has_signature (Some unit_type) returned part wrong = by_unit a b c x (judged at in_program returned.value) part wrong
returned_is a b c x at written has_signature (Some number_type) returned part wrong = against_part a b c x number_type (judged at in_program returned.value) part wrong
returned_is a b c x at written has_signature (Some truth_type) returned part wrong = against_part a b c x truth_type (judged at in_program returned.value) part wrong
returned_is a b c x at written has_signature (Some (sequence_type t)) returned part wrong = against_part a b c x (sequence_type t) (judged at in_program returned.value) part wrong
returned_is a b c x at written has_signature (Some (record_type n)) returned part wrong = against_part a b c x (record_type n) (judged at in_program returned.value) part wrong
