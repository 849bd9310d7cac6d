-- Parts of a type, written types and names.
use Rattle.std.proofs.Common.{◌≡◌, ℕ, Bool, true, false, cond, List, [], ◌∷◌, ◌++◌, Option, Some, None, is_some, unwrap_or, option_map, refl, sym, ap, ◌∙◌, subst}
use Rattle.std.proofs.lemmas.Bool.{false≢true, and_from}
use Rattle.slang_values.specs.Value.{ValueType, unit_type, number_type, truth_type, sequence_type, record_type, same_type, element_type}
use Rattle.slang_values.specs.declared.operators.Binary.{Binary}
use Rattle.slang_values.proofs.Equality.{same_type_refl}
use Rattle.slang_tree.specs.declared.place.Place.{Place}
use Rattle.slang_tree.specs.declared.place.Fault.{Fault}
use Rattle.slang_tree.specs.declared.expression.Name.{Name}
use Rattle.slang_tree.specs.TypeTree.{TypeTree, z_name, b_name, unit_name, sequence_name, record_name}
use Rattle.program_trees.specs.Variables.{global}
use Rattle.type_rules.specs.Faults.{duplicate_name, type_differs, claim_word_out_of_place, unless}
use Rattle.type_rules.specs.Meanings.{Meaning, variable, bound_variable, block_variable, record_class, method, Declared, Scope, meaning_among, is_known}
use Rattle.type_rules.specs.Judged.{Judged, well, untyped, are_typed, known_type, over, expects, all_expect, is_sequence}
use Rattle.type_rules.specs.TypeNames.{as_type, judged_element, judged_type}
use Rattle.type_rules.specs.Expressions.{Context, in_program, in_claim, in_ensures, in_proof, judged_meaning, judged_new, judged_result_word, judged_entry, judged_old, operand_faults, connected_type, written_types}
use Rattle.claim_typing.proofs.Parts.{inside, none_is_some, one_is_none, both_nil, over-typed, first_typed, expected, cond_nil, sequence-is}
use Rattle.statement_typing.proofs.Typed.{has_known, over_type}
use Rattle.typing_rules.specs.Expressions.{IsClass, IsElementType, IsType, MayBeWritten, IsVariableOf, IsResultOf, IsEntryOf, IsOldOf, Gives}

-- ---- parts

pub known_is : (part : Judged) (s : ValueType) → part.type ≡ Some s → known_type part ≡ s
known_is part s h = ap (λ o. unwrap_or o unit_type) h

pub expects_from : (s : ValueType) (part : Judged) → part.type ≡ Some s → expects s part ≡ []
expects_from s part h =
    ap (λ k. unless (same_type s k) (type_differs part.place)) (known_is part s h) ∙ ap (λ b. unless b (type_differs part.place)) (same_type_refl s)

pub expects_to : (s : ValueType) (part : Judged) → is_some part.type ≡ true → expects s part ≡ [] → part.type ≡ Some s
expects_to s part h e = has_known part h ∙ ap Some (sym (expected s part e))

pub nil_both : {A : Type 0} (xs ys : List A) → xs ≡ [] → ys ≡ [] → xs ++ ys ≡ []
nil_both [] ys h k = k
nil_both (x ∷ xs) ys h k = one_is_none h

pub typed_then : (part : Judged) (parts : List Judged) (s : ValueType) → part.type ≡ Some s → are_typed parts ≡ true → are_typed (part ∷ parts) ≡ true
typed_then part parts s h k = and_from (is_some part.type) (are_typed parts) (ap is_some h) k

pub over_from : (place : Place) (parts : List Judged) (own : List Fault) (type : Option ValueType) (t : ValueType) → are_typed parts ≡ true → own ≡ [] →
    type ≡ Some t → (over place parts own type).type ≡ Some t
over_from place parts own type t typed none same = over_type place parts own type (record { typed = typed; none = none }) ∙ same

-- of a sequence
pub sequence_part : (s : ValueType) (part : Judged) → part.type ≡ Some (sequence_type s) → is_sequence (known_type part) ≡ true
sequence_part s part h = ap is_sequence (known_is part (sequence_type s) h)

pub element_part : (s : ValueType) (part : Judged) → part.type ≡ Some (sequence_type s) → element_type (known_type part) ≡ s
element_part s part h = ap element_type (known_is part (sequence_type s) h)

-- ---- written types

class_to : (place : Place) (meaning : Option Meaning) (t : ValueType) → (as_type place meaning).type ≡ Some t →
    (n : ℕ) × (meaning ≡ Some (record_class n)) × (t ≡ record_type n)
class_to place (Some (record_class n)) t h = (n, refl, sym (inside h))
class_to place None t h = none_is_some h
class_to place (Some (variable x changes type)) t h = none_is_some h
class_to place (Some (bound_variable depth)) t h = none_is_some h
class_to place (Some (block_variable label)) t h = none_is_some h
class_to place (Some (method n signature modifies)) t h = none_is_some h

class_from : (names : List Declared) (written : Name) (t : ValueType) → IsClass names written t →
    (as_type written.place (meaning_among names written.text)).type ≡ Some t
class_from names written t h = ap (λ m. (as_type written.place m).type) h.1 ∙ ap Some (sym h.2)

pub element_to : (names : List Declared) (ty : TypeTree) (t : ValueType) → (judged_element names ty).type ≡ Some t → IsElementType names ty t
element_to names (z_name place) t h = sym (inside h)
element_to names (b_name place) t h = sym (inside h)
element_to names (unit_name place) t h = none_is_some h
element_to names (sequence_name place element) t h = none_is_some h
element_to names (record_name written) t h = class_to written.place (meaning_among names written.text) t h

pub element_from : (names : List Declared) (ty : TypeTree) (t : ValueType) → IsElementType names ty t → (judged_element names ty).type ≡ Some t
element_from names (z_name place) t h = ap Some (sym h)
element_from names (b_name place) t h = ap Some (sym h)
element_from names (unit_name place) t h = absurd h
element_from names (sequence_name place element) t h = absurd h
element_from names (record_name written) t h = class_from names written t h

pub type_to : (names : List Declared) (ty : TypeTree) (t : ValueType) → (judged_type names ty).type ≡ Some t → IsType names ty t
type_to names (z_name place) t h = sym (inside h)
type_to names (b_name place) t h = sym (inside h)
type_to names (unit_name place) t h = none_is_some h
type_to names (sequence_name place element) t h =
    let part = judged_element names element in
    let p = over-typed place (part ∷ []) [] (option_map sequence_type part.type) t h in
    let q = first_typed part [] p.typed in
    (known_type part, element_to names element (known_type part) q.0, inside (sym p.same ∙ ap (option_map sequence_type) q.0))
type_to names (record_name written) t h = class_to written.place (meaning_among names written.text) t h

pub type_from : (names : List Declared) (ty : TypeTree) (t : ValueType) → IsType names ty t → (judged_type names ty).type ≡ Some t
type_from names (z_name place) t h = ap Some (sym h)
type_from names (b_name place) t h = ap Some (sym h)
type_from names (unit_name place) t h = absurd h
type_from names (sequence_name place element) t h =
    let part = judged_element names element in
    let e = element_from names element h.0 h.1 in
    over_from place (part ∷ []) [] (option_map sequence_type part.type) t (typed_then part [] h.0 e refl) refl
    (ap (option_map sequence_type) e ∙ ap Some (sym h.2))
type_from names (record_name written) t h = class_from names written t h

-- ---- names and words of claims

pub variable_to : (scope : Scope) (place : Place) (meaning : Option Meaning) (t : ValueType) → (judged_meaning scope place meaning).type ≡ Some t → IsVariableOf meaning t
variable_to scope place (Some (variable x changes type)) t h = h
variable_to scope place (Some (bound_variable depth)) t h = sym (inside h)
variable_to scope place (Some (block_variable label)) t h = sym (inside h)
variable_to scope place (Some (record_class n)) t h = none_is_some h
variable_to scope place (Some (method n signature modifies)) t h = none_is_some h
variable_to scope place None t h = none_is_some h

pub variable_from : (scope : Scope) (place : Place) (meaning : Option Meaning) (t : ValueType) → IsVariableOf meaning t → (judged_meaning scope place meaning).type ≡ Some t
variable_from scope place (Some (variable x changes type)) t h = h
variable_from scope place (Some (bound_variable depth)) t h = ap Some (sym h)
variable_from scope place (Some (block_variable label)) t h = ap Some (sym h)
variable_from scope place (Some (record_class n)) t h = absurd h
variable_from scope place (Some (method n signature modifies)) t h = absurd h
variable_from scope place None t h = absurd h

written_to : (scope : Scope) (ty : Option TypeTree) (s : ValueType) → are_typed (written_types scope ty) ≡ true → all_expect s (written_types scope ty) ≡ [] →
    MayBeWritten scope.names ty s
written_to scope None s typed none = tt
written_to scope (Some ty) s typed none =
    let part = judged_type scope.names ty in
    let p = both_nil (expects s part) (all_expect s []) none in
    type_to scope.names ty s (expects_to s part (ap is_some (first_typed part [] typed).0) p.0)

written_from : (scope : Scope) (ty : Option TypeTree) (s : ValueType) → MayBeWritten scope.names ty s →
    (are_typed (written_types scope ty) ≡ true) × (all_expect s (written_types scope ty) ≡ [])
written_from scope None s h = (refl, refl)
written_from scope (Some ty) s h =
    let part = judged_type scope.names ty in
    let e = type_from scope.names ty s h in
    (typed_then part [] s e refl, nil_both (expects s part) [] (expects_from s part e) refl)

word_to : (scope : Scope) (place : Place) (ty : Option TypeTree) (r t : ValueType) →
    (over place (written_types scope ty) (all_expect r (written_types scope ty)) (Some r)).type ≡ Some t → (t ≡ r) × MayBeWritten scope.names ty t
word_to scope place ty r t h =
    let p = over-typed place (written_types scope ty) (all_expect r (written_types scope ty)) (Some r) t h in
    (sym (inside p.same), subst (MayBeWritten scope.names ty) (inside p.same) (written_to scope ty r p.typed p.none))

word_from : (scope : Scope) (place : Place) (ty : Option TypeTree) (r t : ValueType) → t ≡ r → MayBeWritten scope.names ty t →
    (over place (written_types scope ty) (all_expect r (written_types scope ty)) (Some r)).type ≡ Some t
word_from scope place ty r t h k =
    let w = written_from scope ty r (subst (MayBeWritten scope.names ty) h k) in
    over_from place (written_types scope ty) (all_expect r (written_types scope ty)) (Some r) t w.0 w.1 (ap Some (sym h))

no_word : {A : Type 0} → (scope : Scope) (place : Place) (ty : Option TypeTree) (t : ValueType) →
    (over place (written_types scope ty) (claim_word_out_of_place place ∷ []) None).type ≡ Some t → A
no_word scope place ty t h = none_is_some (over-typed place (written_types scope ty) (claim_word_out_of_place place ∷ []) None t h).same

pub result_to : (scope : Scope) (context : Context) (place : Place) (ty : Option TypeTree) (t : ValueType) →
    (judged_result_word context place (written_types scope ty)).type ≡ Some t → IsResultOf context t × MayBeWritten scope.names ty t
result_to scope in_program place ty t h = no_word scope place ty t h
result_to scope in_claim place ty t h = no_word scope place ty t h
result_to scope in_proof place ty t h = no_word scope place ty t h
result_to scope (in_ensures None) place ty t h = none_is_some h
result_to scope (in_ensures (Some unit_type)) place ty t h = no_word scope place ty t h
result_to scope (in_ensures (Some number_type)) place ty t h = word_to scope place ty number_type t h
result_to scope (in_ensures (Some truth_type)) place ty t h = word_to scope place ty truth_type t h
result_to scope (in_ensures (Some (sequence_type s))) place ty t h = word_to scope place ty (sequence_type s) t h
result_to scope (in_ensures (Some (record_type n))) place ty t h = word_to scope place ty (record_type n) t h

pub result_from : (scope : Scope) (context : Context) (place : Place) (ty : Option TypeTree) (t : ValueType) →
    IsResultOf context t × MayBeWritten scope.names ty t → (judged_result_word context place (written_types scope ty)).type ≡ Some t
result_from scope in_program place ty t h = absurd h.0
result_from scope in_claim place ty t h = absurd h.0
result_from scope in_proof place ty t h = absurd h.0
result_from scope (in_ensures None) place ty t h = absurd h.0
result_from scope (in_ensures (Some unit_type)) place ty t h = absurd h.0
result_from scope (in_ensures (Some number_type)) place ty t h = word_from scope place ty number_type t h.0 h.1
result_from scope (in_ensures (Some truth_type)) place ty t h = word_from scope place ty truth_type t h.0 h.1
result_from scope (in_ensures (Some (sequence_type s))) place ty t h = word_from scope place ty (sequence_type s) t h.0 h.1
result_from scope (in_ensures (Some (record_type n))) place ty t h = word_from scope place ty (record_type n) t h.0 h.1

pub entry_to : (context : Context) (place word : Place) (meaning : Option Meaning) (t : ValueType) → (judged_entry context place word meaning).type ≡ Some t →
    IsEntryOf context meaning t
entry_to (in_ensures r) place word (Some (variable (global n) true type)) t h = h
entry_to context place word meaning t h = none_is_some h

pub entry_from : (context : Context) (place word : Place) (meaning : Option Meaning) (t : ValueType) → IsEntryOf context meaning t →
    (judged_entry context place word meaning).type ≡ Some t
entry_from (in_ensures r) place word (Some (variable (global n) true type)) t h = h
entry_from context place word meaning t h = absurd h

pub old_to : (context : Context) (place word : Place) (meaning : Option Meaning) (t : ValueType) → (judged_old context place word meaning).type ≡ Some t →
    IsOldOf context meaning t
old_to in_proof place word (Some (variable x true type)) t h = h
old_to context place word meaning t h = none_is_some h

pub old_from : (context : Context) (place word : Place) (meaning : Option Meaning) (t : ValueType) → IsOldOf context meaning t →
    (judged_old context place word meaning).type ≡ Some t
old_from in_proof place word (Some (variable x true type)) t h = h
old_from context place word meaning t h = absurd h

-- a name that is declared here
new_to : (b : Bool) (place : Place) (found : Fault) → is_some (cond b (untyped place (found ∷ [])) (well place number_type)).type ≡ true → b ≡ false
new_to true place found h = absurd (false≢true h)
new_to false place found h = refl

pub new_name_to : (scope : Scope) (written : Name) → is_some (judged_new scope written).type ≡ true → is_known scope written.text ≡ false
new_name_to scope written h = new_to (is_known scope written.text) written.place (duplicate_name written.place) h

pub new_name_from : (scope : Scope) (written : Name) → is_known scope written.text ≡ false → (judged_new scope written).type ≡ Some number_type
new_name_from scope written h = ap (λ b. (cond b (untyped written.place (duplicate_name written.place ∷ [])) (well written.place number_type)).type) h

-- ---- operators

two_of : (s : ValueType) (left right : Judged) → expects s left ++ expects s right ≡ [] → (known_type left ≡ s) × (known_type right ≡ s)
two_of s left right h =
    let p = both_nil (expects s left) (expects s right) h in (sym (expected s left p.0), sym (expected s right p.1))

pub gives_to : (operator : Binary) (left right : Judged) (t : ValueType) → operand_faults operator left right ≡ [] →
    connected_type operator (known_type left) ≡ t → Gives operator (known_type left) (known_type right) t
gives_to Binary.And left right t h e = let p = two_of truth_type left right h in (p.0, p.1, sym e)
gives_to Binary.Or left right t h e = let p = two_of truth_type left right h in (p.0, p.1, sym e)
gives_to Binary.Imply left right t h e = let p = two_of truth_type left right h in (p.0, p.1, sym e)
gives_to Binary.Eq left right t h e = (sym (expected (known_type left) right h), sym e)
gives_to Binary.Append left right t h e =
    let p = cond_nil (is_sequence (known_type left)) (expects (element_type (known_type left)) right) [] (type_differs left.place) h in
    (sequence-is (known_type left) p.0 ∙ ap sequence_type (expected (element_type (known_type left)) right p.1), sym e)
gives_to Binary.Add left right t h e = let p = two_of number_type left right h in (p.0, p.1, sym e)
gives_to Binary.Sub left right t h e = let p = two_of number_type left right h in (p.0, p.1, sym e)
gives_to Binary.Mul left right t h e = let p = two_of number_type left right h in (p.0, p.1, sym e)
gives_to Binary.Div left right t h e = let p = two_of number_type left right h in (p.0, p.1, sym e)
gives_to Binary.Rem left right t h e = let p = two_of number_type left right h in (p.0, p.1, sym e)
gives_to other left right t h e = let p = two_of number_type left right h in (p.0, p.1, sym e)

both_expected : (s : ValueType) (left right : Judged) (l r : ValueType) → left.type ≡ Some l → right.type ≡ Some r → l ≡ s → r ≡ s →
    expects s left ++ expects s right ≡ []
both_expected s left right l r h k e f =
    nil_both (expects s left) (expects s right) (expects_from s left (h ∙ ap Some e)) (expects_from s right (k ∙ ap Some f))

-- the operands fit, and this is what the operator gives of them
abbrev pub Fits : Binary → Judged → Judged → ValueType → Type 0
Fits operator left right t = (operand_faults operator left right ≡ []) × (connected_type operator (known_type left) ≡ t)

pub gives_from : (operator : Binary) (left right : Judged) (l r t : ValueType) → left.type ≡ Some l → right.type ≡ Some r → Gives operator l r t →
    Fits operator left right t
gives_from Binary.And left right l r t h k g = (both_expected truth_type left right l r h k g.0 g.1, sym g.2)
gives_from Binary.Or left right l r t h k g = (both_expected truth_type left right l r h k g.0 g.1, sym g.2)
gives_from Binary.Imply left right l r t h k g = (both_expected truth_type left right l r h k g.0 g.1, sym g.2)
gives_from Binary.Eq left right l r t h k g = (
  subst (λ s. expects s right ≡ []) (sym (known_is left l h)) (expects_from l right (k ∙ ap Some g.0)),
  sym g.1,
)
gives_from Binary.Append left right l r t h k g =
    let is : left.type ≡ Some (sequence_type r) = h ∙ ap Some g.0 in (
      ap (λ b. cond b (expects (element_type (known_type left)) right) (type_differs left.place ∷ [])) (sequence_part r left is)
          ∙ subst (λ s. expects s right ≡ []) (sym (element_part r left is)) (expects_from r right k),
      known_is left l h ∙ sym g.1,
    )
gives_from Binary.Add left right l r t h k g = (both_expected number_type left right l r h k g.0 g.1, sym g.2)
gives_from Binary.Sub left right l r t h k g = (both_expected number_type left right l r h k g.0 g.1, sym g.2)
gives_from Binary.Mul left right l r t h k g = (both_expected number_type left right l r h k g.0 g.1, sym g.2)
gives_from Binary.Div left right l r t h k g = (both_expected number_type left right l r h k g.0 g.1, sym g.2)
gives_from Binary.Rem left right l r t h k g = (both_expected number_type left right l r h k g.0 g.1, sym g.2)
gives_from other left right l r t h k g = (both_expected number_type left right l r h k g.0 g.1, sym g.2)
