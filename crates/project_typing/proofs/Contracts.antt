-- The contract of a method without faults is well typed in the program.
use Rattle.std.proofs.Common.{◌≡◌, ⊎_elim, ℕ, ◌+◌, ◌≤◌, Bool, true, false, cond, bytes_eq, nat_eq, List, [], ◌∷◌, map, length, Option, Some, None, unwrap_or, refl, sym, ap, ◌∙◌, subst, arith}
use Rattle.std.specs.List.{AllByRecursion, IsDistinct, list_all, list_any}
use Rattle.std.specs.Set.{is_member}
use Rattle.std.proofs.lemmas.Bool.{true≢false, false≢true, and_parts, and_from, or_left, or_right, or_cases, eqb-true, false_from_ne_true}
use Rattle.slang_values.specs.Value.{ValueType, unit_type, number_type, truth_type, sequence_type, record_type, is_known, is_value_type}
use Rattle.slang_values.specs.Typing.{NameTypes}
use Rattle.slang_tree.specs.declared.expression.Name.{Name}
use Rattle.slang_tree.specs.ExprTree.{ExprTree}
use Rattle.program_trees.specs.Claims.{ClaimName}
use Rattle.program_trees.specs.Claims as claim_kinds
use Rattle.program_trees.specs.Programs.{MethodTree, ProgramTree}
use Rattle.program_trees.specs.Variables.{Variable, local, global, entry, result, same_variable, variable_types}
use Rattle.typed_programs.specs.Scopes.{claim_names, IsNotedIn}
use Rattle.typed_programs.specs.Scopes as programs
use Rattle.typed_programs.specs.WellTyped.{is_program_type, is_result_type, is_named_before, is_named_behind, scope_before, scope_behind}
use Rattle.type_rules.specs.Meanings.{Meaning, variable, bound_variable, block_variable, record_class, method, Scope, meaning_of}
use Rattle.type_rules.specs.Judged.{faults_against}
use Rattle.type_rules.specs.Expressions.{in_ensures, judged}
use Rattle.type_rules.specs.Statements.{texts, claims_faults}
use Rattle.typed_texts.specs.Code.{noted, all_noted}
use Rattle.typed_texts.specs.TypedProjects.{global_meant}
use Rattle.claim_typing.specs.Fits.{HasType, FitsResult, FitsScope}
use Rattle.claim_typing.proofs.Parts.{both_nil}
use Rattle.value_typing.specs.Faultless.{HasResultType, IsWellDeclared}
use Rattle.value_typing.proofs.WellTyped.{claims_well_typed}
use Rattle.text_heights.specs.Low.{IsLow}
use Rattle.statement_typing.specs.Around.{IsVariable, IsMeant, FitsAround}
use Rattle.statement_typing.proofs.Lists.{same_bytes, bytes_itself}
use Rattle.statement_typing.proofs.Names.{same_variable-itself}
use Rattle.statement_typing.proofs.Typed.{judged_against, claim_is_low}
use Rattle.statement_typing.proofs.Fits.{well_declared, none_loose}
use Rattle.project_typing.proofs.Meanings.{variable_in}
use Rattle.project_typing.proofs.Methods.{IsGlobalVar}
use Rattle.project_typing.proofs.Scopes.{everything}

module _ (program : ProgramTree Variable) (nodes : ℕ) (own : MethodTree Variable) (scope : Scope)
    (fits : FitsAround program own nodes (is_named_before program nodes own) everything scope) where
  -- ---- what Ensures may speak of

  with_result : (m : MethodTree Variable) (r : ValueType) → is_program_type program.records r ≡ true →
      variable_types program (record m { result = r }) result ≡ Some r
  with_result m unit_type h = absurd (false≢true h)
  with_result m number_type h = refl
  with_result m truth_type h = refl
  with_result m (sequence_type t) h = refl
  with_result m (record_type n) h = refl

  fits_result : (types : NameTypes (ClaimName Variable)) (r : ValueType) → (is_program_type program.records r ≡ true → types (claim_kinds.variable result) ≡ Some r) →
      is_result_type program.records r ≡ true → FitsResult program.records types (in_ensures (Some r))
  fits_result types unit_type there known = tt
  fits_result types number_type there known = (there known, (and_parts (is_value_type number_type) (is_known program.records number_type) known).1)
  fits_result types truth_type there known = (there known, (and_parts (is_value_type truth_type) (is_known program.records truth_type) known).1)
  fits_result types (sequence_type t) there known =
      (there known, (and_parts (is_value_type (sequence_type t)) (is_known program.records (sequence_type t)) known).1)
  fits_result types (record_type n) there known = (there known, (and_parts (is_value_type (record_type n)) (is_known program.records (record_type n)) known).1)

  named_still : (x : Variable) → is_named_before program nodes own x ≡ true → is_named_behind program nodes own x ≡ true
  named_still (local n) h = h
  named_still (global n) h = h
  named_still (entry n) h = absurd (false≢true h)
  named_still result h = absurd (false≢true h)

  type_behind : (x : Variable) (t : ValueType) → is_named_behind program nodes own x ≡ true → variable_types program own x ≡ Some t →
      claim_names (scope_behind program nodes own) (claim_kinds.variable x) ≡ Some t
  type_behind x t h typed = ap (λ b. cond b (variable_types program own x) None) h ∙ typed

  abbrev Is : List ℕ → Variable → Bool → ValueType → Type 0
  Is text x changes t = IsVariable program own nodes (is_named_before program nodes own) everything (scope.covers text) scope.locals x changes t

  has_type : (text : List ℕ) (x : Variable) (changes : Bool) (t : ValueType) → Is text x changes t →
      HasType program.records (claim_names (scope_behind program nodes own)) (claim_kinds.variable x) t
  has_type text x changes t h =
      (type_behind x t (named_still x h.is_named) h.typed, (and_parts (is_value_type t) (is_known program.records t) h.known).1)

  has_entry : (text : List ℕ) (n : ℕ) (t : ValueType) → Is text (global n) true t →
      HasType program.records (claim_names (scope_behind program nodes own)) (claim_kinds.variable (entry n)) t
  has_entry text n t h = (type_behind (entry n) t (h.var refl) h.typed, (and_parts (is_value_type t) (is_known program.records t) h.known).1)

  fits_ensures : (o : Option ValueType) → FitsResult program.records (claim_names (scope_behind program nodes own)) (in_ensures o) →
      FitsScope program.records (claim_names (scope_behind program nodes own)) (in_ensures o) scope
  fits_ensures o fitting = record {
    variables = λ text x changes t h. has_type text x changes t (fits.meanings text (variable x changes (Some t)) h);
    entries = λ text n t h. has_entry text n t (fits.meanings text (variable (global n) true (Some t)) h);
    olds = λ text x t h. tt;
    blocks = λ text label h. absurd (fits.meanings text (block_variable label) h);
    classes = λ text n h. fits.meanings text (record_class n) h;
    result = fitting;
    same_fields = fits.same_fields;
    known_fields = fits.known_fields;
  }

  ensure_noted : (o : Option ValueType) → HasResultType (in_ensures o) → FitsResult program.records (claim_names (scope_behind program nodes own)) (in_ensures o) →
      (claim : ExprTree) → faults_against truth_type (judged scope (in_ensures o) claim) ≡ [] → IsLow claim → (node : ℕ) →
      node + length (noted scope (in_ensures o) claim).places ≤ nodes →
      IsNotedIn (scope_behind program nodes own) ((noted scope (in_ensures o) claim).from node)
  ensure_noted o has fitting claim h low node room =
      let fine : IsWellDeclared (in_ensures o) scope = record {
        names = well_declared program own nodes (is_named_before program nodes own) everything scope fits;
        fields = fits.typed_fields;
        result = has;
      } in
      record {
        claim = claims_well_typed (scope_behind program nodes own) (claim_names (scope_behind program nodes own)) (in_ensures o) scope (fits_ensures o fitting)
            (none_loose program own nodes (is_named_before program nodes own) everything scope fits) fits.outside claim
            (judged_against (in_ensures o) scope fine truth_type claim h) (claim_is_low scope (in_ensures o) claim low);
        node = omega (arith, room);
      }

  ensures_at : (o : Option ValueType) → HasResultType (in_ensures o) → FitsResult program.records (claim_names (scope_behind program nodes own)) (in_ensures o) →
      (claims : List ExprTree) → claims_faults scope (in_ensures o) claims ≡ [] → AllByRecursion IsLow claims → (node : ℕ) →
      node + length (all_noted scope (in_ensures o) claims).places ≤ nodes →
      AllByRecursion (IsNotedIn (scope_behind program nodes own)) ((all_noted scope (in_ensures o) claims).from node)
  ensures_at o has fitting [] h low node room = tt
  ensures_at o has fitting (claim ∷ claims) h low node room =
      let p = both_nil (faults_against truth_type (judged scope (in_ensures o) claim)) (claims_faults scope (in_ensures o) claims) h in (
        ensure_noted o has fitting claim p.0 low.0 node (omega (arith, room)),
        ensures_at o has fitting claims p.1 low.1 (node + length (noted scope (in_ensures o) claim).places) (omega (arith, room)),
      )

  -- where the result of the method is of its type
  pub ensures_noted : (o : Option ValueType) → o ≡ Some own.result → is_result_type program.records own.result ≡ true → (claims : List ExprTree) →
      claims_faults scope (in_ensures o) claims ≡ [] → AllByRecursion IsLow claims → (node : ℕ) →
      node + length (all_noted scope (in_ensures o) claims).places ≤ nodes →
      AllByRecursion (IsNotedIn (scope_behind program nodes own)) ((all_noted scope (in_ensures o) claims).from node)
  ensures_noted o same known claims h low node room =
      ensures_at o (subst (λ u. HasResultType (in_ensures u)) (sym same) tt)
      (subst (λ u. FitsResult program.records (claim_names (scope_behind program nodes own)) (in_ensures u)) (sym same)
      (fits_result (claim_names (scope_behind program nodes own)) own.result (λ k. with_result own own.result k) known))
      claims h low node room

  -- ---- what the method modifies

  abbrev number_of : Scope → Name → ℕ
  number_of outer written = global_meant (meaning_of outer written.text)

  -- outside the parameters the names are those of the same globals
  abbrev pub AreOuter : Scope → List Name → Type 0
  AreOuter outer names = AllByRecursion (λ written. (v : IsGlobalVar scope written) × (global_meant (meaning_of outer written.text) ≡ v.number)) names

  var_of : (written : Name) (v : IsGlobalVar scope written) → programs.is_var (scope_before program nodes own) (global v.number) ≡ true
  var_of written v = at v.type (fits.meanings written.text (variable (global v.number) true v.type) v.meant)
    where
      at : (o : Option ValueType) →
          IsMeant program own nodes (is_named_before program nodes own) everything scope written.text (variable (global v.number) true o) →
          programs.is_var (scope_before program nodes own) (global v.number) ≡ true
      at None h = absurd h
      at (Some t) h = h.var refl

  pub all_vars : (outer : Scope) (names : List Name) → AreOuter outer names →
      list_all (λ g. programs.is_var (scope_before program nodes own) (global g)) (map (λ written. global_meant (meaning_of outer written.text)) names) ≡ true
  all_vars outer [] h = refl
  all_vars outer (written ∷ names) h =
      and_from (programs.is_var (scope_before program nodes own) (global (number_of outer written)))
      (list_all (λ g. programs.is_var (scope_before program nodes own) (global g)) (map (λ w. global_meant (meaning_of outer w.text)) names))
      (subst (λ n. programs.is_var (scope_before program nodes own) (global n) ≡ true) (sym h.0.1) (var_of written h.0.0)) (all_vars outer names h.1)

  other_number : (outer : Scope) (first second : Name) (v : IsGlobalVar scope first) (w : IsGlobalVar scope second) → number_of outer first ≡ v.number →
      number_of outer second ≡ w.number → bytes_eq first.text second.text ≡ false → nat_eq (number_of outer first) (number_of outer second) ≡ false
  other_number outer first second v w h k differ =
      false_from_ne_true (nat_eq (number_of outer first) (number_of outer second)) (λ e.
      let n : v.number ≡ w.number = sym h ∙ eqb-true (number_of outer first) (number_of outer second) e ∙ k in
      let same = fits.apart first.text second.text (global v.number) true true v.type w.type v.meant
      (subst (λ m. meaning_of scope second.text ≡ Some (variable (global m) true w.type)) (sym n) w.meant) in
      true≢false (sym (subst (λ s. bytes_eq first.text s ≡ true) same (bytes_itself first.text)) ∙ differ))

  others_apart : (outer : Scope) (first : Name) (names : List Name) (v : IsGlobalVar scope first) → number_of outer first ≡ v.number → AreOuter outer names →
      AllByRecursion (λ s. bytes_eq first.text s ≡ false) (texts names) →
      AllByRecursion (λ n. nat_eq (number_of outer first) n ≡ false) (map (λ written. global_meant (meaning_of outer written.text)) names)
  others_apart outer first [] v e h differ = tt
  others_apart outer first (second ∷ names) v e h differ =
      (other_number outer first second v h.0.0 e h.0.1 differ.0, others_apart outer first names v e h.1 differ.1)

  pub modifies_once : (outer : Scope) (names : List Name) → AreOuter outer names → IsDistinct bytes_eq (texts names) →
      IsDistinct nat_eq (map (λ written. global_meant (meaning_of outer written.text)) names)
  unfolding IsDistinct
  modifies_once outer [] h differ = tt
  modifies_once outer (written ∷ names) h differ =
      (others_apart outer written names h.0.0 h.0.1 h.1 differ.0, modifies_once outer names h.1 differ.1)

  -- a name that the method modifies is that of a global that its body may assign
  member_global : (outer : Scope) (text : List ℕ) (x : Variable) (c : Bool) (u : Option ValueType) (names : List Name) → AreOuter outer names →
      meaning_of scope text ≡ Some (variable x c u) → list_any (bytes_eq text) (texts names) ≡ true →
      list_any (same_variable x) (map global (map (λ written. global_meant (meaning_of outer written.text)) names)) ≡ true
  member_global outer text x c u [] h e k = k
  member_global outer text x c u (written ∷ names) h e k = ⊎_elim
      (λ q. or_left (same_variable x (global (number_of outer written)))
      (list_any (same_variable x) (map global (map (λ w. global_meant (meaning_of outer w.text)) names)))
      (let v = h.0.0 in
      let one : meaning_of scope text ≡ Some (variable (global v.number) true v.type) = ap (meaning_of scope) (same_bytes text written.text q) ∙ v.meant in
      let is : x ≡ global v.number = ap (λ o. variable_in (unwrap_or o (variable x c u))) (sym e ∙ one) in
      subst (λ n. same_variable x (global n) ≡ true) (sym h.0.1) (subst (λ y. same_variable x y ≡ true) is (same_variable-itself x))))
      (λ l. or_right (same_variable x (global (number_of outer written)))
      (list_any (same_variable x) (map global (map (λ w. global_meant (meaning_of outer w.text)) names))) (member_global outer text x c u names h.1 e l))
      (or_cases (bytes_eq text written.text) (list_any (bytes_eq text) (texts names)) k)

  abbrev pub may_change : Scope → List Name → Scope
  may_change inner names = record inner { covers = is_member bytes_eq (texts names) }

  abbrev pub changed : Scope → List Name → Variable → Bool
  changed outer names x = is_member same_variable (map global (map (λ written. global_meant (meaning_of outer written.text)) names)) x

  body_meant : (outer : Scope) (names : List Name) → AreOuter outer names → (text : List ℕ) (m : Meaning) → meaning_of scope text ≡ Some m →
      IsMeant program own nodes (is_named_before program nodes own) everything scope text m →
      IsMeant program own nodes (is_named_before program nodes own) (changed outer names) (may_change scope names) text m
  body_meant outer names are text (variable x c None) e h = h
  body_meant outer names are text (variable x c (Some t)) e h = record {
    is_named = h.is_named;
    typed = h.typed;
    known = h.known;
    var = h.var;
    may_be_assigned = λ d k. member_global outer text x c (Some t) names are e k;
    before = h.before;
  }
  body_meant outer names are text (bound_variable depth) e h = h
  body_meant outer names are text (block_variable label) e h = h
  body_meant outer names are text (record_class n) e h = h
  body_meant outer names are text (method n None modifies) e h = h
  body_meant outer names are text (method n (Some signature) modifies) e h = h

  pub fits_body : (outer : Scope) (names : List Name) → AreOuter outer names →
      FitsAround program own nodes (is_named_before program nodes own) (changed outer names) (may_change scope names)
  fits_body outer names are = record {
    meanings = λ text m h. body_meant outer names are text m h (fits.meanings text m h);
    apart = fits.apart;
    outside = fits.outside;
    fresh = fits.fresh;
    named_types = fits.named_types;
    same_fields = fits.same_fields;
    typed_fields = fits.typed_fields;
    known_fields = fits.known_fields;
    value_fields = fits.value_fields;
  }
