-- Parameters, one after the other, and what is known behind them.
use Rattle.std.proofs.Common.{◌≡◌, ℕ, ◌+◌, ◌<◌, ◌≤◌, Bool, true, false, cond, Option, Some, None, List, [], ◌∷◌, ◌++◌, length, take, drop, get_or, map, refl, sym, subst, ap, ◌∙◌, append_assoc, append-nil, arith, length-take}
use Rattle.std.specs.Option.{option_map}
use Rattle.std.proofs.lemmas.List.{map-append, take-append-le}
use Rattle.slang_values.specs.Value.{ValueType}
use Rattle.slang_tree.specs.declared.place.Fault.{Fault}
use Rattle.slang_tree.specs.DeclTree.{MethodDeclTree, TypedName}
use Rattle.program_trees.specs.Variables.{global}
use Rattle.type_rules.specs.Judged.{Judged, faults_of}
use Rattle.type_rules.specs.Meanings.{Declared, declared, meaning_among, variable}
use Rattle.type_rules.specs.TypeNames.{judged_type}
use Rattle.type_rules.specs.Projects.{names_with, param_types, result_type}
use Rattle.name_maps.specs.Names.{is_named, with_name}
use Rattle.name_scopes.specs.declared.meaning.Meaning.{Meaning as CodeMeaning}
use Rattle.name_scopes.specs.declared.meaning.Meaning.TheVariants as m
use Rattle.name_scopes.proofs.Named.{declared-named, names_with as known_with}
use Rattle.name_scopes.specs.Meanings.{declared_in}
use Rattle.type_faults.specs.FirstFault.{with_first}
use Rattle.type_faults.proofs.First.{in_turn}
use Rattle.text_types.specs.declared.text_type.TextType.{TextType}
use Rattle.text_types.specs.declared.found.Found.{Found}
use Rattle.text_types.specs.TextType.{text_value}
use Rattle.text_types.specs.Found.{AreJudged, IsJudged, bare, seen}
use Rattle.text_types.proofs.Parts.{judged_append, judged_one}
use Rattle.signature_judging.specs.Knows.{AreHeaderTypes, Knows, type_seen}

-- one parameter more is known
pub known_more : (table : List (List ℕ × CodeMeaning)) (names : List Declared) (params : List TypedName) (param : TypedName) → Knows table (names_with names params) →
    Knows (with_name table param.written.text (m.Global 0 false None)) (names_with names (params ++ param ∷ []))
known_more table names params param knows =
    let see = λ (p : TypedName). declared p.written.text (variable (global 0) false None) in
    let same : names_with names params ++ see param ∷ [] ≡ names_with names (params ++ param ∷ []) =
    append_assoc names (map see params) (see param ∷ []) ∙ ap (λ ns. names ++ ns) (sym (map-append see params (param ∷ []))) in
    subst (Knows (with_name table param.written.text (m.Global 0 false None))) same
    (λ text. known_with table (names_with names params) param.written.text (m.Global 0 false None) knows text)

types-append : (names : List Declared) (params : List TypedName) (param : TypedName) →
    param_types names (params ++ param ∷ []) ≡ param_types names params ++ judged_type (names_with names params) param.ty ∷ []
types-append names [] param =
    ap (λ ns. judged_type ns param.ty ∷ []) (sym (append-nil names))
types-append names (first ∷ params) param =
    let inner = names ++ declared first.written.text (variable (global 0) false None) ∷ [] in
    let see = λ (p : TypedName). declared p.written.text (variable (global 0) false None) in
    ap (λ js. judged_type names first.ty ∷ js) (types-append inner params param)
    ∙ ap (λ ns. judged_type names first.ty ∷ (param_types inner params ++ judged_type ns param.ty ∷ [])) (append_assoc names (see first ∷ []) (map see params))

pub types_more : {a b c : Option Fault} {founds : List Found} {found : Found} (names : List Declared) (params all : List TypedName) (param : TypedName) →
    all ≡ params ++ param ∷ [] → AreJudged a b founds (param_types names params) → IsJudged b c found (judged_type (names_with names params) param.ty) →
    AreJudged a c (founds ++ found ∷ []) (param_types names all)
types_more {a} {b} {c} {founds} {found} names params all param more before next =
    subst (AreJudged a c (founds ++ found ∷ []))
    (sym (types-append names params param) ∙ ap (param_types names) (sym more))
    (judged_append before (judged_one next))

-- what stands in front of a table stays there
front_by : {X : Type 0} (b : Bool) (front es : List X) (e : X) → take (length front) es ≡ front → take (length front) (cond b es (es ++ e ∷ [])) ≡ front
front_by true front es e h = h
front_by false front es e h =
    let within : length front ≤ length es = omega (arith, ap length h, length-take (length front) es) in
    take-append-le (length front) es (e ∷ []) within ∙ h

pub front_kept : (front es : List (List ℕ × CodeMeaning)) (text : List ℕ) (value : CodeMeaning) → take (length front) es ≡ front →
    take (length front) (with_name es text value) ≡ front
front_kept front es text value h = front_by (is_named es text) front es (text, value) h

-- ---- types

seen-types : (founds : List Found) → map (λ (part : Judged). part.type) (map seen founds) ≡ map type_seen founds
seen-types [] = refl
seen-types (found ∷ founds) = ap (λ ts. type_seen found ∷ ts) (seen-types founds)

bare-types : (parts : List Judged) → map (λ (part : Judged). part.type) (map bare parts) ≡ map (λ (part : Judged). part.type) parts
bare-types [] = refl
bare-types (part ∷ parts) = ap (λ ts. part.type ∷ ts) (bare-types parts)

pub types_are : (founds : List Found) (parts : List Judged) → map seen founds ≡ map bare parts → map type_seen founds ≡ map (λ (part : Judged). part.type) parts
types_are founds parts h = sym (seen-types founds) ∙ ap (map (λ (part : Judged). part.type)) h ∙ bare-types parts

-- ---- the whole header

pub alike : (table : List (List ℕ × CodeMeaning)) (names : List Declared) → Knows table names → (text : List ℕ) →
    meaning_among (declared_in table) text ≡ meaning_among names text
alike table names knows text = sym (declared-named table text) ∙ knows text

pub header : {a b c : Option Fault} {founds : List Found} {found : Found} (names : List Declared) (decl : MethodDeclTree) →
    AreJudged a b founds (param_types names decl.params) → IsJudged b c found (result_type names decl) → AreHeaderTypes a c founds found names decl
header {a} {b} {c} {founds} {found} names decl params result = record {
  told = result.told
      ∙ ap (λ before. with_first before (result_type names decl).faults) params.told
      ∙ in_turn a (faults_of (param_types names decl.params)) (result_type names decl).faults;
  params_are = params.are;
  found_is = result.is;
}
