-- What is found at a form with a list of parts, from what is found at them and what is found over them.
use Rattle.std.proofs.Common.{◌≡◌, ℕ, Bool, true, false, cond, nat_eq, Option, Some, None, List, [], ◌∷◌, ◌++◌, length, map, refl, sym, ap, ◌∙◌, subst, append_assoc}
use Rattle.std.proofs.lemmas.List.{length-map}
use Rattle.slang_values.specs.Value.{ValueType, unit_type, number_type, truth_type, sequence_type, record_type, element_type, is_element_type}
use Rattle.slang_tree.specs.declared.place.Place.{Place}
use Rattle.slang_tree.specs.declared.place.Fault.{Fault}
use Rattle.type_rules.specs.Faults.{argument_count, call_out_of_place, claim_word_out_of_place, type_differs}
use Rattle.type_rules.specs.Meanings.{Scope, Signature}
use Rattle.type_rules.specs.Judged.{Judged, all_expect, are_typed, expect_each, expects, faults_of, is_sequence, known_type, over, typed_without, untyped}
use Rattle.type_rules.specs.Expressions.{Context, in_program, in_claim, in_ensures, in_proof, argument_faults, change_faults, index_faults, is_program, judged_call, judged_elements, judged_listed, judged_nested_call, judged_read, judged_record, judged_result_word}
use Rattle.type_faults.specs.FirstFault.{with_first}
use Rattle.type_faults.proofs.First.{in_any_order, in_turn}
use Rattle.text_types.specs.declared.found.Found.{Found}
use Rattle.text_types.specs.Found.{AreJudged, IsJudged, bare, seen}
use Rattle.text_types.proofs.Parts.{all_expect-bare, are_typed-bare, expect_each-bare, faults_of-bare, judged_append, judged_one, judged_over, with_none}
use Rattle.std.specs.Option.{option_map}
use Rattle.text_types.specs.declared.text_type.ElementType.{ElementType}
use Rattle.text_types.specs.declared.text_type.ElementType.TheVariants as e
use Rattle.text_types.specs.declared.text_type.TextType.{TextType}
use Rattle.text_types.specs.declared.text_type.TextType.TheVariants as t
use Rattle.text_types.specs.TextType.{element_value, text_value}
use Rattle.expression_forms.specs.Forms.{elements_faults, front_seen, read_faults}

argument_faults-bare : (place : Place) (types : List ValueType) (parts : List Judged) → argument_faults place types (map bare parts) ≡ argument_faults place types parts
argument_faults-bare place types parts =
    ap (λ n. cond (nat_eq (length types) n) (expect_each types (map bare parts)) (argument_count place ∷ [])) (length-map parts bare)
    ∙ ap (λ fs. cond (nat_eq (length types) (length parts)) fs (argument_count place ∷ [])) (expect_each-bare types parts)

-- without a type, and without faults of its own
untyped_parts : {a b c : Option Fault} {founds : List Found} {result : Found} (place : Place) (parts : List Judged) →
    AreJudged a b founds parts → IsJudged b c result (untyped place (faults_of (map bare parts))) → IsJudged a c result (untyped place (faults_of parts))
untyped_parts {a} {b} {c} place parts before form = record {
  told = form.told ∙ ap (with_first b) (faults_of-bare parts) ∙ with_none b ∙ before.told;
  is = form.is;
}

pub record_parts : {a b c : Option Fault} {founds : List Found} {result : Found} (place : Place) (number : ℕ) (types : Option (List ValueType)) (parts : List Judged) →
    AreJudged a b founds parts → IsJudged b c result (judged_record place number types (map seen founds)) → IsJudged a c result (judged_record place number types parts)
record_parts {a} {b} {c} {founds} {result} place number None parts before form =
    untyped_parts place parts before (subst (λ ps. IsJudged b c result (untyped place (faults_of ps))) before.are form)
record_parts {a} {b} {c} {founds} {result} place number (Some types) parts before form =
    judged_over place parts (argument_faults place types parts) (Some (record_type number)) before
    (subst (λ own. IsJudged b c result (over place (map bare parts) own (Some (record_type number)))) (argument_faults-bare place types parts)
    (subst (λ ps. IsJudged b c result (judged_record place number (Some types) ps)) before.are form))

-- ---- reads

index_faults-bare : (H : Judged) (parts : List Judged) (place : Place) → index_faults (bare H) (map bare parts) place ≡ index_faults H parts place
index_faults-bare H [] place = refl
index_faults-bare H (index ∷ []) place = refl
index_faults-bare H (index ∷ other ∷ parts) place = refl

pub read_parts : {a b c d : Option Fault} {h result : Found} {founds : List Found} (place : Place) (H : Judged) (parts : List Judged) →
    IsJudged a b h H → AreJudged b c founds parts → IsJudged c d result (judged_read place (seen h) (map seen founds)) → IsJudged a d result (judged_read place H parts)
read_parts {a} {b} {c} {d} {h} {result} {founds} place H parts head before form =
    let type : Option ValueType = Some (element_type (known_type H)) in
    let one = subst (λ s. IsJudged c d result (judged_read place s (map seen founds))) head.is form in
    let all = subst (λ ps. IsJudged c d result (judged_read place (bare H) ps)) before.are one in
    judged_over place (H ∷ parts) (read_faults place H parts) type (judged_append (judged_one head) before)
    (subst (λ own. IsJudged c d result (over place (map bare (H ∷ parts)) (cond (is_sequence (known_type H)) own (type_differs place ∷ [])) type))
    (index_faults-bare H parts place) all)

-- ---- calls

-- what is told of a call beside what is wrong with its arguments
moved : (a b c : Option Fault) (beside parts own : List Fault) → b ≡ with_first a parts → c ≡ with_first b (beside ++ own) → c ≡ with_first a (beside ++ (parts ++ own))
moved a b c beside parts own first last =
    last
    ∙ ap (λ f. with_first f (beside ++ own)) first
    ∙ sym (in_turn (with_first a parts) beside own)
    ∙ ap (λ f. with_first f own) (in_turn a parts beside ∙ in_any_order a parts beside)
    ∙ in_turn a (beside ++ parts) own
    ∙ ap (with_first a) (append_assoc beside parts own)

-- a call with faults beside those of its arguments
beside_parts : {a b c : Option Fault} {founds : List Found} (result : Found) (place : Place) (beside own : List Fault) (type : Option ValueType) (parts : List Judged) →
    AreJudged a b founds parts →
    c ≡ with_first b (beside ++ (over place (map bare parts) own type).faults) → seen result ≡ bare (over place (map bare parts) own type) →
    (c ≡ with_first a (beside ++ (over place parts own type).faults)) × (seen result ≡ bare (over place parts own type))
beside_parts {a} {b} {c} result place beside own type parts before told is =
    let typed = are_typed-bare parts in (
      moved a b c beside (faults_of parts) (cond (are_typed parts) own []) before.told
          (told
          ∙ ap (λ fs. with_first b (beside ++ (fs ++ cond (are_typed (map bare parts)) own []))) (faults_of-bare parts)
          ∙ ap (λ t. with_first b (beside ++ cond t own [])) typed),
      is ∙ ap (λ t. record { place = place; faults = []; type = cond t (typed_without own type) None }) typed,
    )

pub call_parts : {a b c : Option Fault} {founds : List Found} {result : Found} (scope : Scope) (place : Place) (signature : Option Signature) (modifies : List (List ℕ)) (parts : List Judged) →
    AreJudged a b founds parts → IsJudged b c result (judged_call scope place signature modifies (map seen founds)) → IsJudged a c result (judged_call scope place signature modifies parts)
call_parts {a} {b} {c} {founds} {result} scope place None modifies parts before form =
    untyped_parts place parts before (subst (λ ps. IsJudged b c result (untyped place (faults_of ps))) before.are form)
call_parts {a} {b} {c} {founds} {result} scope place (Some signature) modifies parts before form =
    let all = subst (λ ps. IsJudged b c result (judged_call scope place (Some signature) modifies ps)) before.are form in
    let same = argument_faults-bare place signature.params parts in
    let change = change_faults scope place modifies in
    let type : Option ValueType = Some signature.result in
    let it = beside_parts result place change (argument_faults place signature.params parts) type parts before
    (all.told ∙ ap (λ own. with_first b (change ++ (over place (map bare parts) own type).faults)) same)
    (all.is ∙ ap (λ own. bare (over place (map bare parts) own type)) same) in
    record { told = it.0; is = it.1 }

pub nested_call_parts : {a b c : Option Fault} {founds : List Found} {result : Found} (scope : Scope) (context : Context) (place : Place)
    (signature : Option Signature) (modifies : List (List ℕ)) (parts : List Judged) →
    AreJudged a b founds parts → IsJudged b c result (judged_nested_call scope context place signature modifies (map seen founds)) →
    IsJudged a c result (judged_nested_call scope context place signature modifies parts)
nested_call_parts {a} {b} {c} {founds} {result} scope context place None modifies parts before form =
    untyped_parts place parts before (subst (λ ps. IsJudged b c result (untyped place (faults_of ps))) before.are form)
nested_call_parts {a} {b} {c} {founds} {result} scope context place (Some signature) modifies parts before form =
    let all = subst (λ ps. IsJudged b c result (judged_nested_call scope context place (Some signature) modifies ps)) before.are form in
    let change = cond (is_program context) (change_faults scope place modifies) [] in
    let misplaced : List Fault = call_out_of_place place ∷ [] in
    let same = ap (λ own. own ++ misplaced) (argument_faults-bare place signature.params parts) in
    let typed = are_typed-bare parts in
    let own = argument_faults place signature.params parts ++ misplaced in
    record {
      told = moved a b c change (faults_of parts) (cond (are_typed parts) own []) before.told
          (all.told
          ∙ ap (λ o. with_first b (change ++ (over place (map bare parts) o None).faults)) same
          ∙ ap (λ fs. with_first b (change ++ (fs ++ cond (are_typed (map bare parts)) own []))) (faults_of-bare parts)
          ∙ ap (λ t. with_first b (change ++ cond t own [])) typed);
      is = all.is;
    }

-- ---- elements

elements_parts : {a b c : Option Fault} {founds : List Found} {result : Found} (place : Place) (parts : List Judged) →
    AreJudged a b founds parts → IsJudged b c result (judged_elements place (map bare parts)) → IsJudged a c result (judged_elements place parts)
elements_parts {a} {b} {c} place [] before form = record {
  told = form.told ∙ ap (λ f. with_first f (type_differs place ∷ [])) (before.told ∙ with_none a);
  is = form.is;
}
elements_parts {a} {b} {c} {founds} {result} place (first ∷ others) before form =
    let type : Option ValueType = Some (sequence_type (known_type first)) in
    judged_over place (first ∷ others) (elements_faults first others) type before
    (subst (λ own. IsJudged b c result (over place (map bare (first ∷ others)) (cond (is_element_type (known_type first)) own (type_differs first.place ∷ [])) type))
    (all_expect-bare (known_type first) others) form)

-- elements without a type in front
pub listed_alone : {a b c : Option Fault} {founds : List Found} {result : Found} (place : Place) (parts : List Judged) →
    AreJudged a b founds parts → IsJudged b c result (judged_elements place (map seen founds)) → IsJudged a c result (judged_listed place [] parts)
listed_alone {a} {b} {c} {founds} {result} place parts before form =
    elements_parts place parts before (subst (λ ps. IsJudged b c result (judged_elements place ps)) before.are form)

abbrev as_text : ElementType → TextType
as_text e.Z = t.Z
as_text e.B = t.B
as_text (e.Record number) = t.Record number

as_text-value : (e : ElementType) → text_value (as_text e) ≡ element_value e
as_text-value e.Z = refl
as_text-value e.B = refl
as_text-value (e.Record number) = refl

abbrev front_found : Place → Option ElementType → Found
front_found at e = record { place = at; ty = option_map as_text e }

front_is : (at : Place) (e : Option ElementType) → seen (front_found at e) ≡ front_seen at e
front_is at None = refl
front_is at (Some e) = ap (λ t. record { place = at; faults = []; type = Some t }) (as_text-value e)

-- and with one, which was told of before
pub listed_behind : {a b c d : Option Fault} {founds : List Found} {result : Found} (front : Option ElementType) (place : Place) (F : Judged) (parts : List Judged) →
    b ≡ with_first a F.faults → option_map element_value front ≡ F.type → AreJudged b c founds parts →
    IsJudged c d result (judged_listed place (front_seen F.place front ∷ []) (map seen founds)) → IsJudged a d result (judged_listed place (F ∷ []) parts)
listed_behind {a} {b} {c} {d} {founds} {result} front place F parts told is before form =
    let type : Option ValueType = Some (sequence_type (known_type F)) in
    let as_bare : front_seen F.place front ≡ bare F = ap (λ t. record { place = F.place; faults = []; type = t }) is in
    let first : IsJudged a b (front_found F.place front) F = record { told = told; is = front_is F.place front ∙ as_bare } in
    let one = subst (λ s. IsJudged c d result (judged_listed place (s ∷ []) (map seen founds))) as_bare form in
    let all = subst (λ ps. IsJudged c d result (judged_listed place (bare F ∷ []) ps)) before.are one in
    judged_over place (F ∷ parts) (all_expect (known_type F) parts) type (judged_append (judged_one first) before)
    (subst (λ own. IsJudged c d result (over place (map bare (F ∷ parts)) own type)) (all_expect-bare (known_type F) parts) all)

-- ---- `Res`

word_parts : {a b c : Option Fault} {founds : List Found} {result : Found} (context : Context) (place : Place) (parts : List Judged) →
    AreJudged a b founds parts → IsJudged b c result (judged_result_word context place (map bare parts)) → IsJudged a c result (judged_result_word context place parts)
word_parts in_program place parts before form = judged_over place parts (claim_word_out_of_place place ∷ []) None before form
word_parts in_claim place parts before form = judged_over place parts (claim_word_out_of_place place ∷ []) None before form
word_parts in_proof place parts before form = judged_over place parts (claim_word_out_of_place place ∷ []) None before form
word_parts (in_ensures None) place parts before form = untyped_parts place parts before form
word_parts (in_ensures (Some unit_type)) place parts before form = judged_over place parts (claim_word_out_of_place place ∷ []) None before form
word_parts {a} {b} {c} {founds} {result} (in_ensures (Some number_type)) place parts before form =
    judged_over place parts (all_expect number_type parts) (Some number_type) before
    (subst (λ own. IsJudged b c result (over place (map bare parts) own (Some number_type))) (all_expect-bare number_type parts) form)
word_parts {a} {b} {c} {founds} {result} (in_ensures (Some truth_type)) place parts before form =
    judged_over place parts (all_expect truth_type parts) (Some truth_type) before
    (subst (λ own. IsJudged b c result (over place (map bare parts) own (Some truth_type))) (all_expect-bare truth_type parts) form)
word_parts {a} {b} {c} {founds} {result} (in_ensures (Some (sequence_type t))) place parts before form =
    judged_over place parts (all_expect (sequence_type t) parts) (Some (sequence_type t)) before
    (subst (λ own. IsJudged b c result (over place (map bare parts) own (Some (sequence_type t)))) (all_expect-bare (sequence_type t) parts) form)
word_parts {a} {b} {c} {founds} {result} (in_ensures (Some (record_type n))) place parts before form =
    judged_over place parts (all_expect (record_type n) parts) (Some (record_type n)) before
    (subst (λ own. IsJudged b c result (over place (map bare parts) own (Some (record_type n)))) (all_expect-bare (record_type n) parts) form)

pub result_parts : {a b c : Option Fault} {founds : List Found} {result : Found} (context : Context) (place : Place) (parts : List Judged) →
    AreJudged a b founds parts → IsJudged b c result (judged_result_word context place (map seen founds)) → IsJudged a c result (judged_result_word context place parts)
result_parts {a} {b} {c} {founds} {result} context place parts before form =
    word_parts context place parts before (subst (λ ps. IsJudged b c result (judged_result_word context place ps)) before.are form)
