-- A value of which the faults were told of before, and the type of what is declared with it.
use Rattle.std.proofs.Common.{◌≡◌, cond, Option, Some, None, List, [], ◌∷◌, ◌++◌, refl, sym, ap, ◌∙◌, subst, append-nil, append_assoc}
use Rattle.std.specs.Option.{is_some, option_map}
use Rattle.slang_values.specs.Value.{ValueType}
use Rattle.slang_tree.specs.declared.place.Fault.{Fault}
use Rattle.slang_tree.specs.TypeTree.{TypeTree}
use Rattle.type_rules.specs.Judged.{Judged, expects, faults_against, faults_against_optional}
use Rattle.type_rules.specs.Meanings.{Scope}
use Rattle.type_rules.specs.TypeNames.{judged_type}
use Rattle.type_rules.specs.Statements.{any_but_unit, unit_faults}
use Rattle.type_faults.specs.FirstFault.{with_first}
use Rattle.type_faults.proofs.First.{in_any_order, in_turn}
use Rattle.text_types.specs.declared.text_type.TextType.{TextType}
use Rattle.text_types.specs.TextType.{text_value}
use Rattle.text_types.specs.declared.found.Found.{Found}
use Rattle.text_types.specs.Found.{IsJudged, bare, seen}
use Rattle.name_scopes.specs.declared.scope.NameScope.{NameScope}
use Rattle.name_scopes.specs.Fits.{Fits}
use Rattle.name_scopes.specs.Meanings.{declared_in}
use Rattle.expression_judging.proofs.Each.{type_in}
use Rattle.value_judging.specs.IsDeclared.{IsDeclared, IsWritten}

pub type_alone : (a b c : Option Fault) (x : Found) (type : Option TextType) (scope : Scope) (X : Judged) →
    IsJudged a b x X → c ≡ with_first b (unit_faults (option_map text_value x.ty) x.place) →
    option_map text_value type ≡ any_but_unit (option_map text_value x.ty) → IsDeclared a c type scope None X
type_alone a b c x type scope X value told is = record {
  told = told
      ∙ ap (λ (s : Judged). with_first b (unit_faults s.type s.place)) value.is
      ∙ ap (λ found. with_first found (unit_faults X.type X.place)) value.told
      ∙ in_turn a X.faults (unit_faults X.type X.place);
  is = is ∙ ap (λ (s : Judged). any_but_unit s.type) value.is;
}

-- the type that is written, and then the value against it
pub written_first : (a b c : Option Fault) (w x : Found) (it : Judged) →
    IsJudged a b w it → c ≡ with_first b (faults_against_optional (option_map text_value w.ty) (seen x)) → IsWritten a c w.ty it (seen x)
written_first a b c w x it written told =
    let same = ap (λ (s : Judged). s.type) written.is in
    record {
      told = told
          ∙ ap (λ t. with_first b (faults_against_optional t (seen x))) same
          ∙ ap (λ found. with_first found (faults_against_optional it.type (seen x))) written.told
          ∙ in_turn a it.faults (faults_against_optional it.type (seen x));
      is = same;
    }

-- the faults of a value stand behind those of the type
behind_type : (a : Option Fault) (types : List Fault) (t : Option ValueType) (X : Judged) →
    with_first (with_first a X.faults) (types ++ faults_against_optional t (bare X)) ≡ with_first a (types ++ faults_against_optional t X)
behind_type a types None X =
    ap (with_first (with_first a X.faults)) (append-nil types)
    ∙ in_turn a X.faults types
    ∙ in_any_order a X.faults types
behind_type a types (Some t) X =
    let own : List Fault = cond (is_some X.type) (expects t X) [] in
    in_turn a X.faults (types ++ own)
    ∙ ap (with_first a) (sym (append_assoc X.faults types own))
    ∙ sym (in_turn a (X.faults ++ types) own)
    ∙ ap (λ found. with_first found own) (in_any_order a X.faults types)
    ∙ in_turn a (types ++ X.faults) own
    ∙ ap (with_first a) (append_assoc types X.faults own)

pub type_beside : (a b c : Option Fault) (x : Found) (type : Option TextType) (known : NameScope) (scope : Scope) (ty : TypeTree) (X : Judged) →
    Fits known scope → IsJudged a b x X → IsWritten b c type (judged_type (declared_in known.names) ty) (seen x) → IsDeclared a c type scope (Some ty) X
type_beside a b c x type known scope ty X fits value written =
    let same = type_in known scope ty fits in
    let it = judged_type scope.names ty in
    record {
      told = written.told
          ∙ ap (λ (j : Judged). with_first b (j.faults ++ faults_against_optional j.type (seen x))) same
          ∙ ap (λ s. with_first b (it.faults ++ faults_against_optional it.type s)) value.is
          ∙ ap (λ found. with_first found (it.faults ++ faults_against_optional it.type (bare X))) value.told
          ∙ behind_type a it.faults it.type X;
      is = written.is ∙ ap (λ (j : Judged). j.type) same;
    }
