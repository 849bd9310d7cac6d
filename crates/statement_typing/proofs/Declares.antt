-- What is declared with a value.
use Rattle.std.proofs.Common.{◌≡◌, ℕ, ◌<◌, true, List, [], length, Option, Some, None, is_some, refl, ap, ◌∙◌, subst}
use Rattle.slang_values.specs.Value.{ValueType, unit_type, number_type, truth_type, sequence_type, record_type, Records}
use Rattle.slang_tree.specs.declared.place.Place.{Place}
use Rattle.slang_tree.specs.TypeTree.{TypeTree}
use Rattle.typed_programs.specs.WellTyped.{is_program_type, is_result_type}
use Rattle.type_rules.specs.Meanings.{record_class, Scope, meaning_of}
use Rattle.type_rules.specs.Judged.{Judged, known_type, faults_against_optional}
use Rattle.type_rules.specs.TypeNames.{judged_type}
use Rattle.type_rules.specs.Statements.{any_but_unit, unit_faults, declared_type, value_faults}
use Rattle.claim_typing.proofs.Parts.{both_nil, one_is_none}
use Rattle.value_typing.proofs.Faultless.{type-fair}
use Rattle.statement_typing.proofs.Types.{type_known}
use Rattle.statement_typing.proofs.Typed.{has_known, against}

-- a right side has a type, which is one that a result may have
pub record HasSide (records : Records) (side : Judged) (t : ValueType) : Type 0 where
  pub typed : side.type ≡ Some t
  pub known : is_result_type records t ≡ true

not_unit : (records : Records) (t : ValueType) (place : Place) → unit_faults (Some t) place ≡ [] → is_result_type records t ≡ true →
    (any_but_unit (Some t) ≡ Some t) × (is_program_type records t ≡ true)
not_unit records unit_type place h k = one_is_none h
not_unit records number_type place h k = (refl, k)
not_unit records truth_type place h k = (refl, k)
not_unit records (sequence_type t) place h k = (refl, k)
not_unit records (record_type n) place h k = (refl, k)

module _ (records : Records) (scope : Scope) (classes : (text : List ℕ) (n : ℕ) → meaning_of scope text ≡ Some (record_class n) → n < length records) where
  -- what follows for a value with which something is declared
  pub record Declares (ty : Option TypeTree) (side : Judged) (t : ValueType) : Type 0 where
    pub faultless : side.faults ≡ []
    pub typed : side.type ≡ Some t
    pub declared : declared_type scope ty side ≡ Some t
    pub known : is_program_type records t ≡ true

  pub declares : (ty : Option TypeTree) (side : Judged) → (side.faults ≡ [] → (t : ValueType) × HasSide records side t) →
      value_faults scope ty side ≡ [] → (t : ValueType) × Declares ty side t
  declares None side fair h =
      let p = both_nil side.faults (unit_faults side.type side.place) h in
      let r = fair p.0 in
      let n = not_unit records r.0 side.place (subst (λ o. unit_faults o side.place ≡ []) r.1.typed p.1) r.1.known in
      (r.0, record { faultless = p.0; typed = r.1.typed; declared = ap any_but_unit r.1.typed ∙ n.0; known = n.1 })
  declares (Some ty) side fair h =
      let written = judged_type scope.names ty in
      let p = both_nil written.faults (faults_against_optional written.type side) h in
      let typed = has_known written ((type-fair scope.names ty).0 p.0) in
      let k = subst (λ o. faults_against_optional o side ≡ []) typed p.1 in
      let none = (both_nil side.faults _ k).0 in (
        known_type written,
        record {
          faultless = none;
          typed = against (known_type written) side (λ q. ap is_some (fair q).1.typed) k;
          declared = typed;
          known = type_known records scope.names classes ty (known_type written) typed;
        },
      )
