-- Values, calls, names and steps of proofs have no fault exactly where they are well typed.
use Rattle.std.proofs.Common.{◌≡◌, ⊎_elim, ℕ, Bool, true, false, cond, not, bytes_eq, nat_eq, List, [], ◌∷◌, ◌++◌, map, length, Option, Some, None, is_some, refl, sym, ap, ◌∙◌, subst}
use Rattle.std.specs.List.{AllByRecursion, IsDistinct, list_any}
use Rattle.std.specs.Set.{is_member}
use Rattle.std.proofs.lemmas.Bool.{false≢true, and_parts, or_from, eqb-true, eq-eqb}
use Rattle.slang_values.specs.Value.{ValueType, unit_type, number_type, truth_type, sequence_type, record_type}
use Rattle.slang_tree.specs.declared.place.Place.{Place}
use Rattle.slang_tree.specs.declared.place.Fault.{Fault}
use Rattle.slang_tree.specs.declared.expression.Name.{Name}
use Rattle.slang_tree.specs.declared.statement.Label.{Label}
use Rattle.slang_tree.specs.declared.rules.Rule.{Rule}
use Rattle.slang_tree.specs.Rules.{rule_named}
use Rattle.slang_tree.specs.TypeTree.{TypeTree}
use Rattle.slang_tree.specs.ExprTree.{ExprTree, ExprTrees, no_exprs, expr_then}
use Rattle.slang_tree.specs.ExprTree as e
use Rattle.slang_tree.specs.StmtTree.{StepTree, line, block, let_block, StepTrees, no_steps, step_then}
use Rattle.type_rules.specs.Faults.{unless, duplicate_name, argument_count, outside_modifies}
use Rattle.type_rules.specs.Meanings.{Signature, Meaning, variable, bound_variable, block_variable, record_class, method, declared, Scope, meaning_of, is_known, is_well_declared, is_var, covers_all, with_name}
use Rattle.type_rules.specs.Judged.{Judged, faults_of, are_typed, known_type, over, expects, expect_each, faults_against, faults_against_optional}
use Rattle.type_rules.specs.TypeNames.{judged_type}
use Rattle.type_rules.specs.Expressions.{Context, in_program, in_proof, argument_faults, change_faults, Callee, a_value, a_record, a_method, callee_meant, callee, judged_call, judged, judged_each, judged_side, judged_right}
use Rattle.type_rules.specs.Steps.{takes, cited_faults, rule_faults, claim_faults, new_name_faults, step_faults, steps_faults, labels_of, repeated_labels, proof_faults}
use Rattle.type_rules.specs.Statements.{any_but_unit, unit_faults, declared_type, value_faults, modified_faults, modifies_faults, texts, claims_faults}
use Rattle.claim_typing.proofs.Parts.{one_is_none, both_nil, inside, cond_nil, unless-nil}
use Rattle.value_typing.specs.Faultless.{IsWellDeclared}
use Rattle.value_typing.proofs.Faultless.{typed_where_faultless, type-fair}
use Rattle.statement_typing.proofs.Lists.{AreNew, new_distinct, unless_not, flips, bytes_flip}
use Rattle.statement_typing.proofs.Names.{meant_found}
use Rattle.statement_typing.proofs.Typed.{has_known, against, judged_against, each_typed, over_faultless, over_type}
use Rattle.statement_typing.proofs.Modified.{IsNamedThere, are_named}
use Rattle.typing_rules.specs.Expressions.{HasType}
use Rattle.typing_rules.proofs.Parts.{expects_from, nil_both, type_to, type_from}
use Rattle.typing_rules.proofs.Expressions.{to, from, have_to, have_from}
use Rattle.statement_rules.specs.Statements.{CallHas, SideHas, RightHas, IsNotUnit, DeclaredAs, IsNew, IsVar, AreVars, IsRule, IsTypedStep, AreTypedSteps, IsTypedProof, AreClaims, IsDeclared}

-- ---- one part

unless_from : (holds : Bool) (found : Fault) → holds ≡ true → unless holds found ≡ []
unless_from holds found h = ap (λ b. unless b found) h

pub new_from : (scope : Scope) (written : Name) → IsNew scope written → new_name_faults scope written ≡ []
new_from scope written h = ap (λ b. unless (not b) (duplicate_name written.place)) h

pub new_to : (scope : Scope) (written : Name) → new_name_faults scope written ≡ [] → IsNew scope written
new_to scope written h = unless_not (is_known scope written.text) (duplicate_name written.place) h

pub against_from : (t : ValueType) (part : Judged) → part.faults ≡ [] → part.type ≡ Some t → faults_against t part ≡ []
against_from t part none typed =
    nil_both part.faults (cond (is_some part.type) (expects t part) []) none
    (ap (λ b. cond b (expects t part) []) (ap is_some typed) ∙ expects_from t part typed)

pub expr_to : (context : Context) (scope : Scope) → IsWellDeclared context scope → (t : ValueType) (tree : ExprTree) →
    faults_against t (judged scope context tree) ≡ [] → HasType scope context tree t
expr_to context scope fine t tree h = to scope context tree t (judged_against context scope fine t tree h)

typed_none : (context : Context) (scope : Scope) → IsWellDeclared context scope → (t : ValueType) (tree : ExprTree) →
    (judged scope context tree).type ≡ Some t → (judged scope context tree).faults ≡ []
typed_none context scope fine t tree h = (typed_where_faultless context scope fine tree).1 (ap is_some h)

pub expr_from : (context : Context) (scope : Scope) → IsWellDeclared context scope → (t : ValueType) (tree : ExprTree) → HasType scope context tree t →
    faults_against t (judged scope context tree) ≡ []
expr_from context scope fine t tree h =
    let typed = from scope context tree t h in
    against_from t (judged scope context tree) (typed_none context scope fine t tree typed) typed

-- ---- calls

each_none : (scope : Scope) → IsWellDeclared in_program scope → (trees : ExprTrees) → are_typed (judged_each scope in_program trees) ≡ true →
    faults_of (judged_each scope in_program trees) ≡ []
each_none scope fine no_exprs h = refl
each_none scope fine (expr_then tree trees) h =
    let part = judged scope in_program tree in
    let p = and_parts (is_some part.type) (are_typed (judged_each scope in_program trees)) h in
    nil_both part.faults (faults_of (judged_each scope in_program trees)) ((typed_where_faultless in_program scope fine tree).1 p.0)
    (each_none scope fine trees p.1)

own_none : (b : Bool) (own : List Fault) → own ≡ [] → cond b own [] ≡ []
own_none true own h = h
own_none false own h = refl

-- what a call without faults has
pub record HasCall (side : Judged) (t : ValueType) : Type 0 where
  pub faultless : side.faults ≡ []
  pub typed : side.type ≡ Some t

pub call_to : (scope : Scope) → IsWellDeclared in_program scope → (place : Place) (signature : Option Signature) (modifies : List (List ℕ)) (arguments : ExprTrees) →
    is_some signature ≡ true → (judged_call scope place signature modifies (judged_each scope in_program arguments)).faults ≡ [] →
    (t : ValueType) × CallHas scope signature modifies arguments t × HasCall (judged_call scope place signature modifies (judged_each scope in_program arguments)) t
call_to scope fine place None modifies arguments signed h = absurd (false≢true signed)
call_to scope fine place (Some signature) modifies arguments signed h =
    let parts = judged_each scope in_program arguments in
    let own = argument_faults place signature.params parts in
    let p = both_nil (change_faults scope place modifies) (over place parts own (Some signature.result)).faults h in
    let f = over_faultless place parts own (Some signature.result) (each_typed in_program scope fine arguments) p.1 in
    let c = cond_nil (nat_eq (length signature.params) (length parts)) (expect_each signature.params parts) [] (argument_count place) f.none in (
      signature.result,
      (
        unless-nil (covers_all scope modifies) (outside_modifies place) p.0,
        have_to scope in_program arguments signature.params f.typed (eqb-true (length signature.params) (length parts) c.0) c.1,
        refl,
      ),
      record { faultless = h; typed = over_type place parts own (Some signature.result) f },
    )

pub call_from : (scope : Scope) → IsWellDeclared in_program scope → (place : Place) (signature : Option Signature) (modifies : List (List ℕ)) (arguments : ExprTrees)
    (t : ValueType) → CallHas scope signature modifies arguments t →
    HasCall (judged_call scope place signature modifies (judged_each scope in_program arguments)) t
call_from scope fine place None modifies arguments t h = absurd h
call_from scope fine place (Some signature) modifies arguments t h =
    let parts = judged_each scope in_program arguments in
    let own = argument_faults place signature.params parts in
    let a = have_from scope in_program arguments signature.params h.1 in
    let none : own ≡ [] =
    ap (λ b. cond b (expect_each signature.params parts) (argument_count place ∷ [])) (eq-eqb (length signature.params) (length parts) a.count) ∙ a.each in
    record {
      faultless = nil_both (change_faults scope place modifies) (over place parts own (Some signature.result)).faults
          (unless_from (covers_all scope modifies) (outside_modifies place) h.0)
          (nil_both (faults_of parts) (cond (are_typed parts) own []) (each_none scope fine arguments a.typed) (own_none (are_typed parts) own none));
      typed = over_type place parts own (Some signature.result) (record { typed = a.typed; none = none }) ∙ ap Some (sym h.2);
    }

-- ---- right sides

plain_to : (scope : Scope) → IsWellDeclared in_program scope → (tree : ExprTree) → (judged scope in_program tree).faults ≡ [] →
    (t : ValueType) × HasType scope in_program tree t × HasCall (judged scope in_program tree) t
plain_to scope fine tree h =
    let part = judged scope in_program tree in
    let typed = has_known part ((typed_where_faultless in_program scope fine tree).0 h) in
    (known_type part, to scope in_program tree (known_type part) typed, record { faultless = h; typed = typed })

plain_from : (scope : Scope) → IsWellDeclared in_program scope → (tree : ExprTree) (t : ValueType) → HasType scope in_program tree t →
    HasCall (judged scope in_program tree) t
plain_from scope fine tree t h =
    let typed = from scope in_program tree t h in record { faultless = typed_none in_program scope fine t tree typed; typed = typed }

side_to : (scope : Scope) → IsWellDeclared in_program scope → (place : Place) (c : Callee) (tree : ExprTree) (arguments : ExprTrees) →
    ((signature : Option Signature) (modifies : List (List ℕ)) → c ≡ a_method signature modifies → is_some signature ≡ true) →
    (judged_side scope place c (judged scope in_program tree) (judged_each scope in_program arguments)).faults ≡ [] →
    (t : ValueType) × SideHas scope c tree arguments t
    × HasCall (judged_side scope place c (judged scope in_program tree) (judged_each scope in_program arguments)) t
side_to scope fine place a_value tree arguments signed h = plain_to scope fine tree h
side_to scope fine place (a_record n) tree arguments signed h = plain_to scope fine tree h
side_to scope fine place (a_method signature modifies) tree arguments signed h =
    call_to scope fine place signature modifies arguments (signed signature modifies refl) h

side_from : (scope : Scope) → IsWellDeclared in_program scope → (place : Place) (c : Callee) (tree : ExprTree) (arguments : ExprTrees) (t : ValueType) →
    SideHas scope c tree arguments t → HasCall (judged_side scope place c (judged scope in_program tree) (judged_each scope in_program arguments)) t
side_from scope fine place a_value tree arguments t h = plain_from scope fine tree t h
side_from scope fine place (a_record n) tree arguments t h = plain_from scope fine tree t h
side_from scope fine place (a_method signature modifies) tree arguments t h = call_from scope fine place signature modifies arguments t h

abbrev is_signed : Callee → Bool
is_signed a_value = true
is_signed (a_record n) = true
is_signed (a_method signature modifies) = is_some signature

signed_at : (scope : Scope) (meaning : Option Meaning) → ((m : Meaning) → meaning ≡ Some m → is_well_declared scope m ≡ true) →
    is_signed (callee_meant meaning) ≡ true
signed_at scope None fine = refl
signed_at scope (Some (method n signature modifies)) fine = fine (method n signature modifies) refl
signed_at scope (Some (record_class n)) fine = refl
signed_at scope (Some (variable x changes type)) fine = refl
signed_at scope (Some (bound_variable depth)) fine = refl
signed_at scope (Some (block_variable label)) fine = refl

callee_signed : (scope : Scope) → IsWellDeclared in_program scope → (head : ExprTree) → is_signed (callee scope head) ≡ true
callee_signed scope fine (e.name text place) = signed_at scope (meaning_of scope text) (fine.names text)
callee_signed scope fine other = refl

-- a method that is applied has a signature
method_signed : (scope : Scope) → IsWellDeclared in_program scope → (head : ExprTree) (signature : Option Signature) (modifies : List (List ℕ)) →
    callee scope head ≡ a_method signature modifies → is_some signature ≡ true
method_signed scope fine head signature modifies h = ap is_signed (sym h) ∙ callee_signed scope fine head

pub right_to : (scope : Scope) → IsWellDeclared in_program scope → (tree : ExprTree) → (judged_right scope tree).faults ≡ [] →
    (t : ValueType) × RightHas scope tree t × HasCall (judged_right scope tree) t
right_to scope fine (e.application place head arguments) h =
    side_to scope fine place (callee scope head) (e.application place head arguments) arguments (method_signed scope fine head) h
right_to scope fine other h = plain_to scope fine other h

pub right_from : (scope : Scope) → IsWellDeclared in_program scope → (tree : ExprTree) (t : ValueType) → RightHas scope tree t → HasCall (judged_right scope tree) t
right_from scope fine (e.application place head arguments) t h =
    side_from scope fine place (callee scope head) (e.application place head arguments) arguments t h
right_from scope fine other t h = plain_from scope fine other t h

-- a right side that is of a type that it is to be of
pub right_against : (scope : Scope) → IsWellDeclared in_program scope → (tree : ExprTree) (t : ValueType) →
    faults_against t (judged_right scope tree) ≡ [] → RightHas scope tree t
right_against scope fine tree t h =
    let side = judged_right scope tree in
    let none = (both_nil side.faults (cond (is_some side.type) (expects t side) []) h).0 in
    let r = right_to scope fine tree none in
    let typed = against t side (λ q. ap is_some r.2.typed) h in
    subst (RightHas scope tree) (inside (sym r.2.typed ∙ typed)) r.1

pub right_fits : (scope : Scope) → IsWellDeclared in_program scope → (tree : ExprTree) (t : ValueType) → RightHas scope tree t →
    faults_against t (judged_right scope tree) ≡ []
right_fits scope fine tree t h =
    let r = right_from scope fine tree t h in against_from t (judged_right scope tree) r.faultless r.typed

-- ---- declarations with a value

pub unit_to : (t : ValueType) (place : Place) → unit_faults (Some t) place ≡ [] → IsNotUnit t
unit_to unit_type place h = one_is_none h
unit_to number_type place h = tt
unit_to truth_type place h = tt
unit_to (sequence_type t) place h = tt
unit_to (record_type n) place h = tt

pub unit_from : (t : ValueType) (place : Place) → IsNotUnit t → (unit_faults (Some t) place ≡ []) × (any_but_unit (Some t) ≡ Some t)
unit_from unit_type place h = absurd h
unit_from number_type place h = (refl, refl)
unit_from truth_type place h = (refl, refl)
unit_from (sequence_type t) place h = (refl, refl)
unit_from (record_type n) place h = (refl, refl)

value_to : (scope : Scope) → IsWellDeclared in_program scope → (ty : Option TypeTree) (tree : ExprTree) → value_faults scope ty (judged_right scope tree) ≡ [] →
    (t : ValueType) × DeclaredAs scope ty t × RightHas scope tree t
value_to scope fine None tree h =
    let side = judged_right scope tree in
    let p = both_nil side.faults (unit_faults side.type side.place) h in
    let r = right_to scope fine tree p.0 in
    (r.0, unit_to r.0 side.place (subst (λ o. unit_faults o side.place ≡ []) r.2.typed p.1), r.1)
value_to scope fine (Some ty) tree h =
    let side = judged_right scope tree in
    let written = judged_type scope.names ty in
    let p = both_nil written.faults (faults_against_optional written.type side) h in
    let typed = has_known written ((type-fair scope.names ty).0 p.0) in (
      known_type written,
      type_to scope.names ty (known_type written) typed,
      right_against scope fine tree (known_type written) (subst (λ o. faults_against_optional o side ≡ []) typed p.1),
    )

value_from : (scope : Scope) → IsWellDeclared in_program scope → (ty : Option TypeTree) (tree : ExprTree) (t : ValueType) → DeclaredAs scope ty t →
    RightHas scope tree t → (value_faults scope ty (judged_right scope tree) ≡ []) × (declared_type scope ty (judged_right scope tree) ≡ Some t)
value_from scope fine None tree t is h =
    let side = judged_right scope tree in
    let r = right_from scope fine tree t h in
    let u = unit_from t side.place is in (
      nil_both side.faults (unit_faults side.type side.place) r.faultless (subst (λ o. unit_faults o side.place ≡ []) (sym r.typed) u.0),
      ap any_but_unit r.typed ∙ u.1,
    )
value_from scope fine (Some ty) tree t is h =
    let side = judged_right scope tree in
    let written = judged_type scope.names ty in
    let typed = type_from scope.names ty t is in (
      nil_both written.faults (faults_against_optional written.type side) ((type-fair scope.names ty).1 (ap is_some typed))
          (subst (λ o. faults_against_optional o side ≡ []) (sym typed) (right_fits scope fine tree t h)),
      typed,
    )

pub declared_to : (scope : Scope) → IsWellDeclared in_program scope → (written : Name) (ty : Option TypeTree) (tree : ExprTree) →
    new_name_faults scope written ++ value_faults scope ty (judged_right scope tree) ≡ [] → IsDeclared scope written ty tree
declared_to scope fine written ty tree h =
    let p = both_nil (new_name_faults scope written) (value_faults scope ty (judged_right scope tree)) h in
    (new_to scope written p.0, value_to scope fine ty tree p.1)

pub declared_from : (scope : Scope) → IsWellDeclared in_program scope → (written : Name) (ty : Option TypeTree) (tree : ExprTree) →
    IsDeclared scope written ty tree → (new_name_faults scope written ++ value_faults scope ty (judged_right scope tree) ≡ [])
    × (is_some (declared_type scope ty (judged_right scope tree)) ≡ true)
declared_from scope fine written ty tree h =
    let v = value_from scope fine ty tree h.1.0 h.1.1 h.1.2 in
    (nil_both (new_name_faults scope written) (value_faults scope ty (judged_right scope tree)) (new_from scope written h.0) v.0, ap is_some v.1)

-- ---- names that are modified

pub distinct_new : {K : Type 0} (eq : K → K → Bool) → ((a b : K) → eq a b ≡ eq b a) → (before xs : List K) →
    AllByRecursion (λ x. is_member eq before x ≡ false) xs → IsDistinct eq xs → AreNew eq before xs
unfolding IsDistinct
distinct_new {K = K} eq flip before [] none apart = tt
distinct_new {K = K} eq flip before (x ∷ xs) none apart = (none.0, distinct_new eq flip (x ∷ before) xs (more xs none.1 apart.0) apart.1)
  where
    more : (ys : List K) → AllByRecursion (λ y. is_member eq before y ≡ false) ys → AllByRecursion (λ y. eq x y ≡ false) ys →
        AllByRecursion (λ y. is_member eq (x ∷ before) y ≡ false) ys
    more [] h k = tt
    more (y ∷ ys) h k = (or_from (eq y x) (list_any (eq y) before) (flip y x ∙ k.0) h.0, more ys h.1 k.1)

pub none_before : {K : Type 0} (eq : K → K → Bool) (xs : List K) → AllByRecursion (λ x. is_member eq [] x ≡ false) xs
none_before eq [] = tt
none_before eq (x ∷ xs) = (refl, none_before eq xs)

is_var_at : (scope : Scope) (written : Name) → IsWellDeclared in_program scope → (m : Meaning) → meaning_of scope written.text ≡ Some m → is_var m ≡ true →
    (t : ValueType) × IsVar scope written t
is_var_at scope written fine (variable x true (Some t)) h k = (t, (x, h))
is_var_at scope written fine (variable x true None) h k = absurd (false≢true (fine.names written.text (variable x true None) h))
is_var_at scope written fine (variable x false type) h k = absurd (false≢true k)
is_var_at scope written fine (bound_variable depth) h k = absurd (false≢true k)
is_var_at scope written fine (block_variable label) h k = absurd (false≢true k)
is_var_at scope written fine (record_class n) h k = absurd (false≢true k)
is_var_at scope written fine (method n signature modifies) h k = absurd (false≢true k)

each_var : (scope : Scope) → IsWellDeclared in_program scope → (names : List Name) → AllByRecursion (IsNamedThere is_var scope) names →
    AllByRecursion (λ written. (t : ValueType) × IsVar scope written t) names
each_var scope fine [] h = tt
each_var scope fine (written ∷ names) h = (is_var_at scope written fine h.0.meaning h.0.meant h.0.may, each_var scope fine names h.1)

pub vars_to : (scope : Scope) → IsWellDeclared in_program scope → (names : List Name) → modifies_faults is_var scope [] names ≡ [] → AreVars scope names
vars_to scope fine names h =
    let a = are_named scope fine.names is_var [] names h in
    (each_var scope fine names a.each, new_distinct bytes_eq bytes_flip [] (texts names) a.new)

vars_at : (scope : Scope) (before : List (List ℕ)) (names : List Name) → AllByRecursion (λ written. (t : ValueType) × IsVar scope written t) names →
    AreNew bytes_eq before (texts names) → modifies_faults is_var scope before names ≡ []
vars_at scope before [] h new = refl
vars_at scope before (written ∷ names) h new =
    let twice = unless (not (is_member bytes_eq before written.text)) (duplicate_name written.place) in
    nil_both (modified_faults is_var scope written.place (meaning_of scope written.text) ++ twice) (modifies_faults is_var scope (written.text ∷ before) names)
    (nil_both (modified_faults is_var scope written.place (meaning_of scope written.text)) twice
    (ap (modified_faults is_var scope written.place) h.0.1.1) (ap (λ b. unless (not b) (duplicate_name written.place)) new.0))
    (vars_at scope (written.text ∷ before) names h.1 new.1)

pub vars_from : (scope : Scope) (names : List Name) → AreVars scope names → modifies_faults is_var scope [] names ≡ []
vars_from scope names h =
    vars_at scope [] names h.0 (distinct_new bytes_eq bytes_flip [] (texts names) (none_before bytes_eq (texts names)) h.1)

-- ---- proofs

still_declared : (scope : Scope) (text : List ℕ) (label : ℕ) (m : Meaning) → is_well_declared scope m ≡ true →
    is_well_declared (with_name scope text (block_variable label)) m ≡ true
still_declared scope text label (variable x changes type) h = h
still_declared scope text label (bound_variable depth) h = h
still_declared scope text label (block_variable other) h = h
still_declared scope text label (record_class n) h = h
still_declared scope text label (method n signature modifies) h = h

fine_let : (scope : Scope) (text : List ℕ) (label : ℕ) → IsWellDeclared in_proof scope → IsWellDeclared in_proof (with_name scope text (block_variable label))
fine_let scope text label fine = record {
  names = λ other m h. ⊎_elim
      (λ k. still_declared scope text label m (fine.names other m k))
      (λ k. subst (λ n. is_well_declared (with_name scope text (block_variable label)) n ≡ true) k.1 refl)
      (meant_found scope.names (declared text (block_variable label)) other m h);
  fields = fine.fields;
  result = tt;
}

cited_to : (place : Place) (text : List ℕ) (count : ℕ) (o : Option Rule) → rule_named text ≡ o → cited_faults place count o ≡ [] →
    (r : Rule) × (rule_named text ≡ Some r) × (takes r.cited count ≡ true)
cited_to place text count None e h = one_is_none h
cited_to place text count (Some r) e h = (r, e, unless-nil (takes r.cited count) (argument_count place) h)

rule_from : (rule : Name) (cites : List Label) → IsRule rule cites → rule_faults rule cites ≡ []
rule_from rule cites h = ap (cited_faults rule.place (length cites)) h.1 ∙ unless_from (takes h.0.cited (length cites)) (argument_count rule.place) h.2

mutual
  step_to : (scope : Scope) → IsWellDeclared in_proof scope → (step : StepTree) → step_faults scope step ≡ [] → IsTypedStep scope step
  step_to scope fine (line label claim rule cites) h =
      let p = both_nil (claim_faults scope claim) (rule_faults rule cites) h in
      (expr_to in_proof scope fine truth_type claim p.0, cited_to rule.place rule.text (length cites) (rule_named rule.text) refl p.1)
  step_to scope fine (block label assumed given steps) h =
      let p = both_nil (claim_faults scope given) (steps_faults scope steps) h in
      (expr_to in_proof scope fine truth_type given p.0, steps_to scope fine steps p.1)
  step_to scope fine (let_block label named assumed given steps) h =
      let inner = with_name scope named.text (block_variable label.number) in
      let q = both_nil (new_name_faults scope named ++ claim_faults inner given) (steps_faults inner steps) h in
      let p = both_nil (new_name_faults scope named) (claim_faults inner given) q.0 in
      let next = fine_let scope named.text label.number fine in
      (new_to scope named p.0, expr_to in_proof inner next truth_type given p.1, steps_to inner next steps q.1)

  steps_to : (scope : Scope) → IsWellDeclared in_proof scope → (steps : StepTrees) → steps_faults scope steps ≡ [] → AreTypedSteps scope steps
  steps_to scope fine no_steps h = tt
  steps_to scope fine (step_then step steps) h =
      let p = both_nil (step_faults scope step) (steps_faults scope steps) h in (step_to scope fine step p.0, steps_to scope fine steps p.1)

mutual
  step_from : (scope : Scope) → IsWellDeclared in_proof scope → (step : StepTree) → IsTypedStep scope step → step_faults scope step ≡ []
  step_from scope fine (line label claim rule cites) h =
      nil_both (claim_faults scope claim) (rule_faults rule cites) (expr_from in_proof scope fine truth_type claim h.0) (rule_from rule cites h.1)
  step_from scope fine (block label assumed given steps) h =
      nil_both (claim_faults scope given) (steps_faults scope steps) (expr_from in_proof scope fine truth_type given h.0) (steps_from scope fine steps h.1)
  step_from scope fine (let_block label named assumed given steps) h =
      let inner = with_name scope named.text (block_variable label.number) in
      let next = fine_let scope named.text label.number fine in
      nil_both (new_name_faults scope named ++ claim_faults inner given) (steps_faults inner steps)
      (nil_both (new_name_faults scope named) (claim_faults inner given) (new_from scope named h.0) (expr_from in_proof inner next truth_type given h.1))
      (steps_from inner next steps h.2)

  steps_from : (scope : Scope) → IsWellDeclared in_proof scope → (steps : StepTrees) → AreTypedSteps scope steps → steps_faults scope steps ≡ []
  steps_from scope fine no_steps h = refl
  steps_from scope fine (step_then step steps) h =
      nil_both (step_faults scope step) (steps_faults scope steps) (step_from scope fine step h.0) (steps_from scope fine steps h.1)

labels_new : (before : List ℕ) (labels : List Label) → repeated_labels before labels ≡ [] → AreNew nat_eq before (map (λ label. label.number) labels)
labels_new before [] h = tt
labels_new before (label ∷ labels) h =
    let p = both_nil (unless (not (is_member nat_eq before label.number)) (duplicate_name label.place)) (repeated_labels (label.number ∷ before) labels) h in
    (unless_not (is_member nat_eq before label.number) (duplicate_name label.place) p.0, labels_new (label.number ∷ before) labels p.1)

new_labels : (before : List ℕ) (labels : List Label) → AreNew nat_eq before (map (λ label. label.number) labels) → repeated_labels before labels ≡ []
new_labels before [] h = refl
new_labels before (label ∷ labels) h =
    nil_both (unless (not (is_member nat_eq before label.number)) (duplicate_name label.place)) (repeated_labels (label.number ∷ before) labels)
    (ap (λ b. unless (not b) (duplicate_name label.place)) h.0) (new_labels (label.number ∷ before) labels h.1)

number_flip : (a b : ℕ) → nat_eq a b ≡ nat_eq b a
number_flip = flips nat_eq (λ a b. eqb-true a b) (λ a. eq-eqb a a refl)

pub proof_to : (scope : Scope) → IsWellDeclared in_proof scope → (steps : StepTrees) → proof_faults scope steps ≡ [] → IsTypedProof scope steps
proof_to scope fine steps h =
    let p = both_nil (repeated_labels [] (labels_of steps)) (steps_faults scope steps) h in
    (new_distinct nat_eq number_flip [] (map (λ label. label.number) (labels_of steps)) (labels_new [] (labels_of steps) p.0), steps_to scope fine steps p.1)

pub proof_from : (scope : Scope) → IsWellDeclared in_proof scope → (steps : StepTrees) → IsTypedProof scope steps → proof_faults scope steps ≡ []
proof_from scope fine steps h =
    let numbers = map (λ (label : Label). label.number) (labels_of steps) in
    nil_both (repeated_labels [] (labels_of steps)) (steps_faults scope steps)
    (new_labels [] (labels_of steps) (distinct_new nat_eq number_flip [] numbers (none_before nat_eq numbers) h.0)) (steps_from scope fine steps h.1)

-- ---- claims

pub claims_to : (context : Context) (scope : Scope) → IsWellDeclared context scope → (claims : List ExprTree) → claims_faults scope context claims ≡ [] →
    AreClaims scope context claims
claims_to context scope fine [] h = tt
claims_to context scope fine (claim ∷ claims) h =
    let p = both_nil (faults_against truth_type (judged scope context claim)) (claims_faults scope context claims) h in
    (expr_to context scope fine truth_type claim p.0, claims_to context scope fine claims p.1)

pub claims_from : (context : Context) (scope : Scope) → IsWellDeclared context scope → (claims : List ExprTree) → AreClaims scope context claims →
    claims_faults scope context claims ≡ []
claims_from context scope fine [] h = refl
claims_from context scope fine (claim ∷ claims) h =
    nil_both (faults_against truth_type (judged scope context claim)) (claims_faults scope context claims)
    (expr_from context scope fine truth_type claim h.0) (claims_from context scope fine claims h.1)
