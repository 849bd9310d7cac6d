-- What is found at a form of which a part has no type, or is missing.
use Rattle.std.proofs.Common.{◌≡◌, Option, Some, None, List, [], ◌∷◌, ◌++◌, map, refl, sym, ap, ◌∙◌, subst, true≢false}
use Rattle.std.specs.Option.{option_map, is_some, unwrap_or}
use Rattle.slang_values.specs.Value.{ValueType}
use Rattle.slang_tree.specs.declared.place.Place.{Place}
use Rattle.slang_tree.specs.declared.place.Fault.{Fault}
use Rattle.type_rules.specs.Meanings.{Field}
use Rattle.type_rules.specs.Judged.{Judged, faults_of, over, untyped}
use Rattle.type_rules.specs.Expressions.{judged_found, judged_listed}
use Rattle.type_faults.specs.FirstFault.{with_first}
use Rattle.text_types.specs.declared.found.Found.{Found}
use Rattle.text_types.specs.Found.{IsJudged, bare, seen}
use Rattle.text_types.proofs.Parts.{faults_of-seen, with_none}
use Rattle.expression_forms.specs.Forms.{front_seen}

pub untyped_over : (before : Option Fault) (result : Found) (place : Place) (founds : List Found) →
    seen result ≡ untyped place [] → IsJudged before before result (untyped place (faults_of (map seen founds)))
untyped_over before result place founds is = record {
  told = sym (with_none before) ∙ ap (with_first before) (sym (faults_of-seen founds));
  is = is;
}

pub front_missing : (before : Option Fault) (result : Found) (place : Place) (founds : List Found) (at : Place) →
    seen result ≡ untyped place [] → IsJudged before before result (judged_listed place (front_seen at None ∷ []) (map seen founds))
front_missing before result place founds at is = record {
  told = sym (with_none before) ∙ ap (λ fs. with_first before (fs ++ [])) (sym (faults_of-seen founds));
  is = is;
}

pub found_as : {before after : Option Fault} {result : Found} (place : Place) (X : Judged) (at : Place) (f : Option Field) (t : Option ValueType) →
    Some t ≡ option_map (λ (f : Field). f.type) f → IsJudged before after result (over place (X ∷ []) [] t) → IsJudged before after result (judged_found place X at f)
found_as place X at None t is it = absurd (true≢false (ap is_some is))
found_as {before} {after} {result} place X at (Some f) t is it =
    subst (λ t. IsJudged before after result (over place (X ∷ []) [] t)) (ap (λ o. unwrap_or o t) is) it
