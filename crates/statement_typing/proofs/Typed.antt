-- Parts without faults have types.
use Rattle.std.proofs.Common.{◌≡◌, ◌≤◌, ◌*◌, Bool, true, false, cond, List, [], ◌∷◌, Option, Some, None, is_some, unwrap_or, refl, sym, ap, ◌∙◌, subst, arith}
use Rattle.std.proofs.lemmas.Bool.{false≢true, and_from}
use Rattle.slang_values.specs.Value.{ValueType, unit_type}
use Rattle.slang_values.specs.Measure.{height}
use Rattle.slang_tree.specs.declared.place.Place.{Place}
use Rattle.slang_tree.specs.declared.place.Fault.{Fault}
use Rattle.slang_tree.specs.ExprTree.{ExprTree, ExprTrees, no_exprs, expr_then}
use Rattle.type_rules.specs.Meanings.{Scope}
use Rattle.type_rules.specs.Judged.{Judged, faults_of, are_typed, known_type, typed_without, over, expects, faults_against}
use Rattle.type_rules.specs.Expressions.{Context, judged, judged_each}
use Rattle.typed_texts.specs.Claims.{claim_of_tree}
use Rattle.claim_typing.proofs.Parts.{both_nil, expected, one_is_none}
use Rattle.value_typing.specs.Faultless.{IsWellDeclared}
use Rattle.value_typing.proofs.Faultless.{typed_where_faultless}
use Rattle.text_heights.specs.Heights.{text_height}
use Rattle.text_heights.specs.Low.{IsLow}
use Rattle.text_heights.proofs.Low.{claims_low}

type_of_option : (o : Option ValueType) → is_some o ≡ true → o ≡ Some (unwrap_or o unit_type)
type_of_option None h = absurd (false≢true h)
type_of_option (Some t) h = refl

pub has_known : (part : Judged) → is_some part.type ≡ true → part.type ≡ Some (known_type part)
has_known part h = type_of_option part.type h

-- a part that is of the type that it is to be of, where it has no fault
pub against : (t : ValueType) (part : Judged) → (part.faults ≡ [] → is_some part.type ≡ true) → faults_against t part ≡ [] → part.type ≡ Some t
against t part fair h =
    let p = both_nil part.faults (cond (is_some part.type) (expects t part) []) h in
    let s = fair p.0 in
    has_known part s ∙ ap Some (sym (expected t part (subst (λ b. cond b (expects t part) [] ≡ []) s p.1)))

pub judged_typed : (context : Context) (scope : Scope) → IsWellDeclared context scope → (tree : ExprTree) →
    (judged scope context tree).faults ≡ [] → is_some (judged scope context tree).type ≡ true
judged_typed context scope fine tree h = (typed_where_faultless context scope fine tree).0 h

pub judged_against : (context : Context) (scope : Scope) → IsWellDeclared context scope → (t : ValueType) (tree : ExprTree) →
    faults_against t (judged scope context tree) ≡ [] → (judged scope context tree).type ≡ Some t
judged_against context scope fine t tree h = against t (judged scope context tree) (judged_typed context scope fine tree) h

pub each_typed : (context : Context) (scope : Scope) → IsWellDeclared context scope → (trees : ExprTrees) →
    faults_of (judged_each scope context trees) ≡ [] → are_typed (judged_each scope context trees) ≡ true
each_typed context scope fine no_exprs h = refl
each_typed context scope fine (expr_then tree trees) h =
    let p = both_nil (judged scope context tree).faults (faults_of (judged_each scope context trees)) h in
    and_from (is_some (judged scope context tree).type) (are_typed (judged_each scope context trees)) (judged_typed context scope fine tree p.0)
    (each_typed context scope fine trees p.1)

-- what a form over typed parts without faults has
pub record IsFaultless (parts : List Judged) (own : List Fault) : Type 0 where
  pub typed : are_typed parts ≡ true
  pub none : own ≡ []

pub over_faultless : (place : Place) (parts : List Judged) (own : List Fault) (type : Option ValueType) →
    (faults_of parts ≡ [] → are_typed parts ≡ true) → (over place parts own type).faults ≡ [] → IsFaultless parts own
over_faultless place parts own type fair h =
    let p = both_nil (faults_of parts) (cond (are_typed parts) own []) h in
    let typed = fair p.0 in
    record { typed = typed; none = subst (λ b. cond b own [] ≡ []) typed p.1 }

-- such a form has its type
over_type_at : (typed : Bool) (own : List Fault) (type : Option ValueType) → typed ≡ true → own ≡ [] →
    cond typed (typed_without own type) None ≡ type
over_type_at true [] type h k = refl
over_type_at true (found ∷ own) type h k = one_is_none k
over_type_at false own type h k = absurd (false≢true h)

pub over_type : (place : Place) (parts : List Judged) (own : List Fault) (type : Option ValueType) → IsFaultless parts own →
    (over place parts own type).type ≡ type
over_type place parts own type h = over_type_at (are_typed parts) own type h.typed h.none

-- a claim of a low expression is low
pub claim_is_low : (scope : Scope) (context : Context) (tree : ExprTree) → IsLow tree → height (claim_of_tree scope context tree) ≤ 2000
claim_is_low scope context tree low =
    let h : height (claim_of_tree scope context tree) ≤ 2 * text_height tree = claims_low scope context tree in omega (arith, h, low)
