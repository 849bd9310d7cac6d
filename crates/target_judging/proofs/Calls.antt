-- Calls that stand alone, of which the arguments were judged before, and assignments.
use Rattle.std.proofs.Common.{◌≡◌, Bool, cond, ◌&&◌, Option, Some, None, List, [], ◌∷◌, ◌++◌, map, refl, sym, ap, ◌∙◌}
use Rattle.slang_values.specs.Value.{ValueType}
use Rattle.slang_tree.specs.declared.place.Place.{Place}
use Rattle.slang_tree.specs.declared.place.Fault.{Fault}
use Rattle.type_rules.specs.Faults.{call_out_of_place, unknown_name}
use Rattle.type_rules.specs.Judged.{Judged, faults_against_optional, faults_of}
use Rattle.type_rules.specs.Meanings.{Scope, is_well_declared}
use Rattle.type_rules.specs.Statements.{call_faults}
use Rattle.type_faults.specs.FirstFault.{with_first}
use Rattle.type_faults.proofs.First.{in_any_order, in_turn}
use Rattle.text_types.specs.declared.found.Found.{Found}
use Rattle.text_types.specs.Found.{AreJudged, IsJudged, seen}
use Rattle.text_types.proofs.Parts.{are_typed-bare}
use Rattle.claim_judging.proofs.ClaimFaults.{against_optional_part}
use Rattle.name_scopes.specs.declared.meaning.Meaning.{Meaning as CodeMeaning}
use Rattle.name_scopes.specs.declared.meaning.Meaning.TheVariants as m
use Rattle.name_scopes.specs.declared.meaning.Method.{Method}
use Rattle.name_scopes.specs.Meanings.{meant}
use Rattle.target_judging.specs.Otherwise.{otherwise_faults}

-- an unknown name
pub unknown_called : (a b c : Option Fault) (place : Place) (scope : Scope) (founds : List Found) (parts : List Judged) →
    AreJudged a b founds parts → c ≡ with_first b (unknown_name place ∷ []) → c ≡ with_first a (call_faults scope place None parts)
unknown_called a b c place scope founds parts before told =
    told
    ∙ ap (λ found. with_first found (unknown_name place ∷ [])) before.told
    ∙ in_turn a (faults_of parts) (unknown_name place ∷ [])
    ∙ in_any_order a (faults_of parts) (unknown_name place ∷ [])

-- a name of this meaning, which is no method's
otherwise_is : (scope : Scope) (place : Place) (meaning : CodeMeaning) (parts : List Judged) → ((method : Method) → meaning ≡ m.Method method → ⊥) →
    call_faults scope place (Some (meant meaning)) parts ≡ faults_of parts ++ otherwise_faults scope place (meant meaning) parts
otherwise_is scope place (m.Local number changes ty) parts h = refl
otherwise_is scope place (m.Global number changes ty) parts h = refl
otherwise_is scope place (m.Bound depth) parts h = refl
otherwise_is scope place (m.Block label) parts h = refl
otherwise_is scope place (m.Record number) parts h = refl
otherwise_is scope place (m.Method method) parts h = absurd (h method refl)

pub otherwise_called : (a b c : Option Fault) (scope : Scope) (place : Place) (meaning : CodeMeaning) (founds : List Found) (parts : List Judged) →
    ((method : Method) → meaning ≡ m.Method method → ⊥) → AreJudged a b founds parts →
    c ≡ with_first b (otherwise_faults scope place (meant meaning) (map seen founds)) → c ≡ with_first a (call_faults scope place (Some (meant meaning)) parts)
otherwise_called a b c scope place meaning founds parts other before told =
    told
    ∙ ap (λ ps. with_first b (otherwise_faults scope place (meant meaning) ps)) before.are
    ∙ ap (λ (typed : Bool). with_first b (cond (is_well_declared scope (meant meaning) && typed) (call_out_of_place place ∷ []) [])) (are_typed-bare parts)
    ∙ ap (λ found. with_first found (otherwise_faults scope place (meant meaning) parts)) before.told
    ∙ in_turn a (faults_of parts) (otherwise_faults scope place (meant meaning) parts)
    ∙ ap (with_first a) (sym (otherwise_is scope place meaning parts other))

-- ---- an assignment, of which the target was told of, and then the value

pub value_assigned : (a b c d : Option Fault) (targets : List Fault) (x : Found) (s t : Option ValueType) (X : Judged) →
    b ≡ with_first a targets → IsJudged b c x X → s ≡ t → d ≡ with_first c (faults_against_optional s (seen x)) →
    d ≡ with_first a (targets ++ faults_against_optional t X)
value_assigned a b c d targets x s t X first value same told =
    against_optional_part b c d x t X value (told ∙ ap (λ u. with_first c (faults_against_optional u (seen x))) same)
    ∙ ap (λ found. with_first found (faults_against_optional t X)) first
    ∙ in_turn a targets (faults_against_optional t X)
