-- What is found at a form, from what is found at its parts and what is found over them.
use Rattle.std.proofs.Common.{◌≡◌, ℕ, Bool, true, false, cond, Option, Some, None, List, [], ◌∷◌, ◌++◌, map, refl, sym, ap, ◌∙◌, subst}
use Rattle.slang_values.specs.Value.{ValueType, unit_type, number_type, truth_type, sequence_type, record_type}
use Rattle.slang_values.specs.declared.operators.Binary.{Binary}
use Rattle.slang_tree.specs.declared.place.Place.{Place}
use Rattle.slang_tree.specs.declared.place.Fault.{Fault}
use Rattle.slang_tree.specs.declared.expression.Name.{Name}
use Rattle.std.specs.Str.{bytes_eq}
use Rattle.std.specs.Prelude.{codes}
use Rattle.type_rules.specs.Faults.{claim_word_out_of_place, type_differs, unknown_name, unless}
use Rattle.type_rules.specs.Meanings.{Field, Scope}
use Rattle.type_rules.specs.Judged.{Judged, expects, is_sequence, known_type, over}
use Rattle.expression_forms.specs.Forms.{update_faults}
use Rattle.type_rules.specs.Expressions.{Context, connected_type, field_named, judged_binary, judged_field, judged_found, judged_prefix, judged_quantified, judged_quantified_indices, judged_record_field, judged_size, judged_update, operand_faults, word_faults}
use Rattle.text_types.specs.declared.found.Found.{Found}
use Rattle.text_types.specs.Found.{AreJudged, IsJudged, bare, seen}
use Rattle.text_types.proofs.Parts.{judged_append, judged_one, judged_over}

pub prefix_parts : {a b c : Option Fault} {x result : Found} (place : Place) (t : ValueType) (X : Judged) →
    IsJudged a b x X → IsJudged b c result (judged_prefix place t (seen x)) → IsJudged a c result (judged_prefix place t X)
prefix_parts {a} {b} {c} {x} {result} place t X part form =
    judged_over place (X ∷ []) (expects t X) (Some t) (judged_one part)
    (subst (λ s. IsJudged b c result (judged_prefix place t s)) part.is form)

operand_faults-bare : (operator : Binary) (L R : Judged) → operand_faults operator (bare L) (bare R) ≡ operand_faults operator L R
operand_faults-bare Binary.Add L R = refl
operand_faults-bare Binary.Sub L R = refl
operand_faults-bare Binary.Mul L R = refl
operand_faults-bare Binary.Div L R = refl
operand_faults-bare Binary.Rem L R = refl
operand_faults-bare Binary.And L R = refl
operand_faults-bare Binary.Or L R = refl
operand_faults-bare Binary.Imply L R = refl
operand_faults-bare Binary.Eq L R = refl
operand_faults-bare Binary.Lt L R = refl
operand_faults-bare Binary.Le L R = refl
operand_faults-bare Binary.Read L R = refl
operand_faults-bare Binary.Append L R = refl

pub binary_parts : {a b c d : Option Fault} {l r result : Found} (place : Place) (operator : Binary) (L R : Judged) →
    IsJudged a b l L → IsJudged b c r R → IsJudged c d result (judged_binary place operator (seen l) (seen r)) → IsJudged a d result (judged_binary place operator L R)
binary_parts {a} {b} {c} {d} {l} {r} {result} place operator L R left right form =
    let type : Option ValueType = Some (connected_type operator (known_type L)) in
    let one = subst (λ s. IsJudged c d result (judged_binary place operator s (seen r))) left.is form in
    let both = subst (λ s. IsJudged c d result (judged_binary place operator (bare L) s)) right.is one in
    judged_over place (L ∷ R ∷ []) (operand_faults operator L R) type (judged_append (judged_one left) (judged_one right))
    (subst (λ own. IsJudged c d result (over place (bare L ∷ bare R ∷ []) own type)) (operand_faults-bare operator L R) both)

pub update_parts : {a b c d e : Option Fault} {x y z result : Found} (place : Place) (X Y Z : Judged) →
    IsJudged a b x X → IsJudged b c y Y → IsJudged c d z Z → IsJudged d e result (judged_update place (seen x) (seen y) (seen z)) →
    IsJudged a e result (judged_update place X Y Z)
update_parts {a} {b} {c} {d} {e} {x} {y} {z} {result} place X Y Z first second third form =
    let one = subst (λ s. IsJudged d e result (judged_update place s (seen y) (seen z))) first.is form in
    let two = subst (λ s. IsJudged d e result (judged_update place (bare X) s (seen z))) second.is one in
    let three = subst (λ s. IsJudged d e result (judged_update place (bare X) (bare Y) s)) third.is two in
    judged_over place (X ∷ Y ∷ Z ∷ []) (update_faults place X Y Z) X.type
    (judged_append (judged_one first) (judged_append (judged_one second) (judged_one third))) three

-- ---- fields

over_one : {a b c : Option Fault} {x result : Found} (place : Place) (X : Judged) (own : List Fault) (type : Option ValueType) →
    IsJudged a b x X → IsJudged b c result (over place (bare X ∷ []) own type) → IsJudged a c result (over place (X ∷ []) own type)
over_one place X own type part form = judged_over place (X ∷ []) own type (judged_one part) form

found_parts : {a b c : Option Fault} {x result : Found} (place : Place) (X : Judged) (at : Place) (f : Option Field) →
    IsJudged a b x X → IsJudged b c result (judged_found place (bare X) at f) → IsJudged a c result (judged_found place X at f)
found_parts place X at None part form = over_one place X (unknown_name at ∷ []) None part form
found_parts place X at (Some f) part form = over_one place X [] f.type part form

record_field_parts : {a b c : Option Fault} {x result : Found} (scope : Scope) (place : Place) (X : Judged) (written : Name) (t : ValueType) →
    IsJudged a b x X → IsJudged b c result (judged_record_field scope place (bare X) written t) → IsJudged a c result (judged_record_field scope place X written t)
record_field_parts scope place X written unit_type part form = over_one place X (type_differs place ∷ []) None part form
record_field_parts scope place X written number_type part form = over_one place X (type_differs place ∷ []) None part form
record_field_parts scope place X written truth_type part form = over_one place X (type_differs place ∷ []) None part form
record_field_parts scope place X written (sequence_type t) part form = over_one place X (type_differs place ∷ []) None part form
record_field_parts scope place X written (record_type number) part form = found_parts place X written.place (field_named scope number written.text) part form

field_by : {a b c : Option Fault} {x result : Found} (scope : Scope) (place : Place) (X : Judged) (written : Name) (p q : Bool) → IsJudged a b x X →
    IsJudged b c result (cond p (over place (bare X ∷ []) (claim_word_out_of_place written.place ∷ []) None)
    (cond q (judged_size place (bare X)) (judged_record_field scope place (bare X) written (known_type X)))) →
    IsJudged a c result (cond p (over place (X ∷ []) (claim_word_out_of_place written.place ∷ []) None)
    (cond q (judged_size place X) (judged_record_field scope place X written (known_type X))))
field_by scope place X written true q part form = over_one place X (claim_word_out_of_place written.place ∷ []) None part form
field_by scope place X written false true part form =
    over_one place X (unless (is_sequence (known_type X)) (type_differs place)) (Some number_type) part form
field_by scope place X written false false part form = record_field_parts scope place X written (known_type X) part form

pub field_parts : {a b c : Option Fault} {x result : Found} (scope : Scope) (place : Place) (X : Judged) (written : Name) →
    IsJudged a b x X → IsJudged b c result (judged_field scope place (seen x) written) → IsJudged a c result (judged_field scope place X written)
field_parts {a} {b} {c} {x} {result} scope place X written part form =
    field_by scope place X written (bytes_eq written.text (codes "indices")) (bytes_eq written.text (codes "size")) part
    (subst (λ s. IsJudged b c result (judged_field scope place s written)) part.is form)

-- ---- quantifiers

pub quantified_parts : {a b c d e f : Option Fault} {x y z w result : Found} (context : Context) (place : Place) (X Y Z W : Judged) →
    IsJudged a b x X → IsJudged b c y Y → IsJudged c d z Z → IsJudged d e w W →
    IsJudged e f result (judged_quantified context place (seen x) (seen y) (seen z) (seen w)) → IsJudged a f result (judged_quantified context place X Y Z W)
quantified_parts {a} {b} {c} {d} {e} {f} {x} {y} {z} {w} {result} context place X Y Z W first second third fourth form =
    let one = subst (λ s. IsJudged e f result (judged_quantified context place s (seen y) (seen z) (seen w))) first.is form in
    let two = subst (λ s. IsJudged e f result (judged_quantified context place (bare X) s (seen z) (seen w))) second.is one in
    let three = subst (λ s. IsJudged e f result (judged_quantified context place (bare X) (bare Y) s (seen w))) third.is two in
    let four = subst (λ s. IsJudged e f result (judged_quantified context place (bare X) (bare Y) (bare Z) s)) fourth.is three in
    judged_over place (X ∷ Y ∷ Z ∷ W ∷ [])
    (expects number_type X ++ expects number_type Y ++ expects truth_type W ++ word_faults context place) (Some truth_type)
    (judged_append (judged_one first) (judged_append (judged_one second) (judged_append (judged_one third) (judged_one fourth)))) four

pub indices_parts : {a b c d e : Option Fault} {x y z result : Found} (context : Context) (place : Place) (X Y Z : Judged) →
    IsJudged a b x X → IsJudged b c y Y → IsJudged c d z Z →
    IsJudged d e result (judged_quantified_indices context place (seen x) (seen y) (seen z)) → IsJudged a e result (judged_quantified_indices context place X Y Z)
indices_parts {a} {b} {c} {d} {e} {x} {y} {z} {result} context place X Y Z first second third form =
    let one = subst (λ s. IsJudged d e result (judged_quantified_indices context place s (seen y) (seen z))) first.is form in
    let two = subst (λ s. IsJudged d e result (judged_quantified_indices context place (bare X) s (seen z))) second.is one in
    let three = subst (λ s. IsJudged d e result (judged_quantified_indices context place (bare X) (bare Y) s)) third.is two in
    judged_over place (X ∷ Y ∷ Z ∷ [])
    (unless (is_sequence (known_type X)) (type_differs X.place) ++ expects truth_type Z ++ word_faults context place) (Some truth_type)
    (judged_append (judged_one first) (judged_append (judged_one second) (judged_one third))) three
