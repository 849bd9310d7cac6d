-- Statements have no fault exactly where they are well typed.
use Rattle.std.proofs.Common.{◌≡◌, ⊎_elim, ℕ, ◌+◌, Bool, true, false, cond, ◌&&◌, List, [], ◌∷◌, ◌++◌, Option, Some, None, is_some, refl, sym, ap, subst}
use Rattle.std.proofs.lemmas.Bool.{false≢true, and_from}
use Rattle.slang_values.specs.Value.{ValueType, truth_type}
use Rattle.slang_tree.specs.declared.place.Place.{Place}
use Rattle.slang_tree.specs.declared.expression.Name.{Name}
use Rattle.slang_tree.specs.ExprTree.{ExprTree, ExprTrees}
use Rattle.slang_tree.specs.StmtTree.{StmtTree, StmtTrees, ElseTree}
use Rattle.slang_tree.specs.StmtTree as s
use Rattle.program_trees.specs.Variables.{local}
use Rattle.type_rules.specs.Faults.{unless, outside_modifies, constant_assigned, call_out_of_place}
use Rattle.type_rules.specs.Meanings.{Meaning, variable, bound_variable, block_variable, record_class, method, declared, Scope, meaning_of, is_well_declared, is_var, with_local, within}
use Rattle.type_rules.specs.Judged.{faults_of, are_typed, faults_against, faults_against_optional}
use Rattle.type_rules.specs.Expressions.{in_program, in_claim, in_proof, judged, judged_each, judged_right}
use Rattle.type_rules.specs.Statements.{declared_type, target_faults, target_type, call_faults, modifies_faults, texts, local_counts, else_count, past_locals, behind, behind_all, claims_faults, stmt_faults, stmts_faults, else_faults}
use Rattle.claim_typing.proofs.Parts.{one_is_none, both_nil, unless-nil}
use Rattle.value_typing.specs.Faultless.{IsWellDeclared}
use Rattle.statement_typing.proofs.Names.{meant_found}
use Rattle.statement_typing.proofs.Typed.{each_typed}
use Rattle.typing_rules.proofs.Parts.{nil_both}
use Rattle.statement_rules.specs.Statements.{RightHas, IsVar, IsCalled, IsTypedStmt, AreTypedStmts, IsTypedElse, FaultlessWhereTyped}
use Rattle.statement_rules.proofs.Sides.{expr_to, expr_from, call_to, call_from, right_against, right_fits, declared_to, declared_from, vars_to, vars_from, proof_to, proof_from, claims_to, claims_from}

-- ---- scopes

abbrev Fine : Scope → Type 0
Fine scope = IsWellDeclared in_program scope

in_claims : (scope : Scope) → Fine scope → IsWellDeclared in_claim scope
in_claims scope fine = record { names = fine.names; fields = fine.fields; result = tt }

in_proofs : (scope : Scope) → Fine scope → IsWellDeclared in_proof scope
in_proofs scope fine = record { names = fine.names; fields = fine.fields; result = tt }

still_declared : (scope : Scope) (text : List ℕ) (changes : Bool) (o : Option ValueType) (m : Meaning) → is_well_declared scope m ≡ true →
    is_well_declared (with_local scope text changes o) m ≡ true
still_declared scope text changes o (variable x c type) h = h
still_declared scope text changes o (bound_variable depth) h = h
still_declared scope text changes o (block_variable label) h = h
still_declared scope text changes o (record_class n) h = h
still_declared scope text changes o (method n signature modifies) h = h

fine_local : (scope : Scope) (text : List ℕ) (changes : Bool) (o : Option ValueType) → is_some o ≡ true → Fine scope → Fine (with_local scope text changes o)
fine_local scope text changes o some fine = record {
  names = λ other m h. ⊎_elim
      (λ k. still_declared scope text changes o m (fine.names other m k))
      (λ k. subst (λ n. is_well_declared (with_local scope text changes o) n ≡ true) k.1 some)
      (meant_found scope.names (declared text (variable (local scope.locals) changes o)) other m h);
  fields = fine.fields;
  result = tt;
}

past_declared : (scope : Scope) (count : ℕ) (m : Meaning) → is_well_declared scope m ≡ true → is_well_declared (past_locals scope count) m ≡ true
past_declared scope count (variable x c type) h = h
past_declared scope count (bound_variable depth) h = h
past_declared scope count (block_variable label) h = h
past_declared scope count (record_class n) h = h
past_declared scope count (method n signature modifies) h = h

fine_past : (scope : Scope) (count : ℕ) → Fine scope → Fine (past_locals scope count)
fine_past scope count fine = record { names = λ text m h. past_declared scope count m (fine.names text m h); fields = fine.fields; result = tt }

within_declared : (scope : Scope) (names : List (List ℕ)) (m : Meaning) → is_well_declared scope m ≡ true → is_well_declared (within scope names) m ≡ true
within_declared scope names (variable x c type) h = h
within_declared scope names (bound_variable depth) h = h
within_declared scope names (block_variable label) h = h
within_declared scope names (record_class n) h = h
within_declared scope names (method n signature modifies) h = h

fine_within : (scope : Scope) (names : List (List ℕ)) → Fine scope → Fine (within scope names)
fine_within scope names fine = record { names = λ text m h. within_declared scope names m (fine.names text m h); fields = fine.fields; result = tt }

pub fine_behind : (scope : Scope) → IsWellDeclared in_program scope → (stmt : StmtTree) → IsTypedStmt scope stmt → IsWellDeclared in_program (behind scope stmt)
fine_behind scope fine (s.val place written ty value) h =
    fine_local scope written.text false (declared_type scope ty (judged_right scope value)) (declared_from scope fine written ty value h).1 fine
fine_behind scope fine (s.var place written ty value) h =
    fine_local scope written.text true (declared_type scope ty (judged_right scope value)) (declared_from scope fine written ty value h).1 fine
fine_behind scope fine (s.assignment written value) h = fine
fine_behind scope fine (s.call written arguments) h = fine
fine_behind scope fine (s.branch place test on_true otherwise) h = fine_past scope (local_counts on_true + else_count otherwise) fine
fine_behind scope fine (s.loop place test modifies claims body) h = fine_past scope (local_counts body) fine
fine_behind scope fine (s.assertion place claim) h = fine
fine_behind scope fine (s.deduction place steps) h = fine

-- ---- assignments

-- what follows for an assigned name
record IsAssigned (scope : Scope) (written : Name) (value : ExprTree) : Type 0 where
  type : ValueType
  is : IsVar scope written type
  covered : scope.covers written.text ≡ true
  has : RightHas scope value type

assigned_to : (scope : Scope) → Fine scope → (written : Name) (value : ExprTree) (meaning : Option Meaning) → meaning_of scope written.text ≡ meaning →
    target_faults scope written meaning ++ faults_against_optional (target_type meaning) (judged_right scope value) ≡ [] → IsAssigned scope written value
assigned_to scope fine written value None m h = one_is_none h
assigned_to scope fine written value (Some (variable x true (Some t))) m h =
    let p = both_nil (unless (scope.covers written.text) (outside_modifies written.place)) (faults_against_optional (Some t) (judged_right scope value)) h in
    record {
      type = t;
      is = (x, m);
      covered = unless-nil (scope.covers written.text) (outside_modifies written.place) p.0;
      has = right_against scope fine value t p.1;
    }
assigned_to scope fine written value (Some (variable x false (Some t))) m h = one_is_none h
assigned_to scope fine written value (Some (variable x changes None)) m h = absurd (false≢true (fine.names written.text (variable x changes None) m))
assigned_to scope fine written value (Some (bound_variable depth)) m h = one_is_none h
assigned_to scope fine written value (Some (block_variable label)) m h = one_is_none h
assigned_to scope fine written value (Some (record_class n)) m h =
    one_is_none (subst (λ b. cond b (constant_assigned written.place ∷ []) [] ≡ []) (fine.names written.text (record_class n) m)
    (both_nil (cond (is_well_declared scope (record_class n)) (constant_assigned written.place ∷ []) []) _ h).0)
assigned_to scope fine written value (Some (method n None modifies)) m h = absurd (false≢true (fine.names written.text (method n None modifies) m))
assigned_to scope fine written value (Some (method n (Some signature) modifies)) m h = one_is_none h

assigned_from : (scope : Scope) → Fine scope → (written : Name) (value : ExprTree) (t : ValueType) → IsVar scope written t → scope.covers written.text ≡ true →
    RightHas scope value t →
    target_faults scope written (meaning_of scope written.text) ++ faults_against_optional (target_type (meaning_of scope written.text)) (judged_right scope value) ≡ []
assigned_from scope fine written value t is covered has =
    subst (λ m. target_faults scope written m ++ faults_against_optional (target_type m) (judged_right scope value) ≡ []) (sym is.1)
    (nil_both (unless (scope.covers written.text) (outside_modifies written.place)) (faults_against t (judged_right scope value))
    (ap (λ b. unless b (outside_modifies written.place)) covered) (right_fits scope fine value t has))

-- ---- calls

never_called : {A : Type 0} → (scope : Scope) → Fine scope → (place : Place) (arguments : ExprTrees) (m : Meaning) → is_well_declared scope m ≡ true →
    faults_of (judged_each scope in_program arguments)
    ++ (cond (is_well_declared scope m && are_typed (judged_each scope in_program arguments)) (call_out_of_place place ∷ []) []) ≡ [] → A
never_called scope fine place arguments m known h =
    let parts = judged_each scope in_program arguments in
    let p = both_nil (faults_of parts) (cond (is_well_declared scope m && are_typed parts) (call_out_of_place place ∷ []) []) h in
    let typed = each_typed in_program scope fine arguments p.0 in
    one_is_none (subst (λ b. cond b (call_out_of_place place ∷ []) [] ≡ []) (and_from (is_well_declared scope m) (are_typed parts) known typed) p.1)

called_to : (scope : Scope) → Fine scope → (written : Name) (arguments : ExprTrees) (meaning : Option Meaning) → meaning_of scope written.text ≡ meaning →
    call_faults scope written.place meaning (judged_each scope in_program arguments) ≡ [] → IsCalled scope meaning arguments
called_to scope fine written arguments None m h = one_is_none h
called_to scope fine written arguments (Some (method number signature modifies)) m h =
    let r = call_to scope fine written.place signature modifies arguments (fine.names written.text (method number signature modifies) m) h in (r.0, r.1)
called_to scope fine written arguments (Some (variable x changes type)) m h =
    never_called scope fine written.place arguments (variable x changes type) (fine.names written.text (variable x changes type) m) h
called_to scope fine written arguments (Some (bound_variable depth)) m h =
    never_called scope fine written.place arguments (bound_variable depth) (fine.names written.text (bound_variable depth) m) h
called_to scope fine written arguments (Some (block_variable label)) m h =
    never_called scope fine written.place arguments (block_variable label) (fine.names written.text (block_variable label) m) h
called_to scope fine written arguments (Some (record_class n)) m h =
    never_called scope fine written.place arguments (record_class n) (fine.names written.text (record_class n) m) h

called_from : (scope : Scope) → Fine scope → (written : Name) (arguments : ExprTrees) (meaning : Option Meaning) → IsCalled scope meaning arguments →
    call_faults scope written.place meaning (judged_each scope in_program arguments) ≡ []
called_from scope fine written arguments (Some (method number signature modifies)) h =
    (call_from scope fine written.place signature modifies arguments h.0 h.1).faultless
called_from scope fine written arguments other h = absurd h

-- ---- all statements

mutual
  stmt_to : (scope : Scope) → Fine scope → (stmt : StmtTree) → stmt_faults scope stmt ≡ [] → IsTypedStmt scope stmt
  stmt_to scope fine (s.val place written ty value) h = declared_to scope fine written ty value h
  stmt_to scope fine (s.var place written ty value) h = declared_to scope fine written ty value h
  stmt_to scope fine (s.assignment written value) h =
      let a = assigned_to scope fine written value (meaning_of scope written.text) refl h in (a.type, a.is, a.covered, a.has)
  stmt_to scope fine (s.call written arguments) h = called_to scope fine written arguments (meaning_of scope written.text) refl h
  stmt_to scope fine (s.branch place test on_true otherwise) h =
      let inner = past_locals scope (local_counts on_true) in
      let o = both_nil (faults_against truth_type (judged scope in_program test) ++ stmts_faults scope on_true) (else_faults inner otherwise) h in
      let p = both_nil (faults_against truth_type (judged scope in_program test)) (stmts_faults scope on_true) o.0 in (
        expr_to in_program scope fine truth_type test p.0,
        stmts_to scope fine on_true p.1,
        else_to inner (fine_past scope (local_counts on_true) fine) otherwise o.1,
      )
  stmt_to scope fine (s.loop place test modifies claims body) h =
      let inner = within scope (texts modifies) in
      let names = modifies_faults is_var scope [] modifies in
      let tested = faults_against truth_type (judged scope in_program test) in
      let r = both_nil (tested ++ names ++ claims_faults scope in_claim claims) (stmts_faults inner body) h in
      let q = both_nil (tested ++ names) (claims_faults scope in_claim claims) r.0 in
      let p = both_nil tested names q.0 in (
        expr_to in_program scope fine truth_type test p.0,
        vars_to scope fine modifies p.1,
        claims_to in_claim scope (in_claims scope fine) claims q.1,
        stmts_to inner (fine_within scope (texts modifies) fine) body r.1,
      )
  stmt_to scope fine (s.assertion place claim) h = expr_to in_claim scope (in_claims scope fine) truth_type claim h
  stmt_to scope fine (s.deduction place steps) h = proof_to scope (in_proofs scope fine) steps h

  stmts_to : (scope : Scope) → Fine scope → (stmts : StmtTrees) → stmts_faults scope stmts ≡ [] → AreTypedStmts scope stmts
  stmts_to scope fine s.no_stmts h = tt
  stmts_to scope fine (s.stmt_then stmt stmts) h =
      let p = both_nil (stmt_faults scope stmt) (stmts_faults (behind scope stmt) stmts) h in
      let first = stmt_to scope fine stmt p.0 in
      (first, stmts_to (behind scope stmt) (fine_behind scope fine stmt first) stmts p.1)

  else_to : (scope : Scope) → Fine scope → (otherwise : ElseTree) → else_faults scope otherwise ≡ [] → IsTypedElse scope otherwise
  else_to scope fine s.no_else h = tt
  else_to scope fine (s.else_then stmts) h = stmts_to scope fine stmts h

mutual
  stmt_from : (scope : Scope) → Fine scope → (stmt : StmtTree) → IsTypedStmt scope stmt → stmt_faults scope stmt ≡ []
  stmt_from scope fine (s.val place written ty value) h = (declared_from scope fine written ty value h).0
  stmt_from scope fine (s.var place written ty value) h = (declared_from scope fine written ty value h).0
  stmt_from scope fine (s.assignment written value) h = assigned_from scope fine written value h.0 h.1 h.2 h.3
  stmt_from scope fine (s.call written arguments) h = called_from scope fine written arguments (meaning_of scope written.text) h
  stmt_from scope fine (s.branch place test on_true otherwise) h =
      let inner = past_locals scope (local_counts on_true) in
      nil_both (faults_against truth_type (judged scope in_program test) ++ stmts_faults scope on_true) (else_faults inner otherwise)
      (nil_both (faults_against truth_type (judged scope in_program test)) (stmts_faults scope on_true)
      (expr_from in_program scope fine truth_type test h.0) (stmts_from scope fine on_true h.1))
      (else_from inner (fine_past scope (local_counts on_true) fine) otherwise h.2)
  stmt_from scope fine (s.loop place test modifies claims body) h =
      let inner = within scope (texts modifies) in
      let names = modifies_faults is_var scope [] modifies in
      let tested = faults_against truth_type (judged scope in_program test) in
      nil_both (tested ++ names ++ claims_faults scope in_claim claims) (stmts_faults inner body)
      (nil_both (tested ++ names) (claims_faults scope in_claim claims)
      (nil_both tested names (expr_from in_program scope fine truth_type test h.0) (vars_from scope modifies h.1))
      (claims_from in_claim scope (in_claims scope fine) claims h.2))
      (stmts_from inner (fine_within scope (texts modifies) fine) body h.3)
  stmt_from scope fine (s.assertion place claim) h = expr_from in_claim scope (in_claims scope fine) truth_type claim h
  stmt_from scope fine (s.deduction place steps) h = proof_from scope (in_proofs scope fine) steps h

  stmts_from : (scope : Scope) → Fine scope → (stmts : StmtTrees) → AreTypedStmts scope stmts → stmts_faults scope stmts ≡ []
  stmts_from scope fine s.no_stmts h = refl
  stmts_from scope fine (s.stmt_then stmt stmts) h =
      nil_both (stmt_faults scope stmt) (stmts_faults (behind scope stmt) stmts) (stmt_from scope fine stmt h.0)
      (stmts_from (behind scope stmt) (fine_behind scope fine stmt h.0) stmts h.1)

  else_from : (scope : Scope) → Fine scope → (otherwise : ElseTree) → IsTypedElse scope otherwise → else_faults scope otherwise ≡ []
  else_from scope fine s.no_else h = refl
  else_from scope fine (s.else_then stmts) h = stmts_from scope fine stmts h

-- behind statements that are well typed too names have their types
pub fine_all : (scope : Scope) → IsWellDeclared in_program scope → (stmts : StmtTrees) → AreTypedStmts scope stmts → IsWellDeclared in_program (behind_all scope stmts)
fine_all scope fine s.no_stmts h = fine
fine_all scope fine (s.stmt_then stmt stmts) h = fine_all (behind scope stmt) (fine_behind scope fine stmt h.0) stmts h.1

pub faultless_where_typed : FaultlessWhereTyped
faultless_where_typed scope fine stmts = (stmts_to scope fine stmts, stmts_from scope fine stmts)
