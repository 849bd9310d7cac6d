-- The locals of statements without faults have types that variables may have.
use Rattle.std.proofs.Common.{◌≡◌, ℕ, ◌+◌, ◌≤◌, Bool, true, List, [], ◌∷◌, ◌++◌, length, Option, refl, sym, ap, ◌∙◌, subst, arith, length-append}
use Rattle.std.specs.List.{list_all}
use Rattle.std.proofs.lemmas.Bool.{and_from}
use Rattle.std.proofs.lemmas.List.Folds.{list_all-append}
use Rattle.slang_values.specs.Value.{ValueType, truth_type}
use Rattle.slang_tree.specs.declared.expression.Name.{Name}
use Rattle.slang_tree.specs.TypeTree.{TypeTree}
use Rattle.slang_tree.specs.ExprTree.{ExprTree}
use Rattle.slang_tree.specs.StmtTree.{StmtTree, StmtTrees, ElseTree}
use Rattle.slang_tree.specs.StmtTree as s
use Rattle.program_trees.specs.Programs.{MethodTree, ProgramTree}
use Rattle.program_trees.specs.Variables.{Variable}
use Rattle.typed_programs.specs.WellTyped.{goes_on, is_program_type}
use Rattle.type_rules.specs.Meanings.{record_class, Scope, is_var, within}
use Rattle.type_rules.specs.Judged.{faults_against}
use Rattle.type_rules.specs.Expressions.{in_program, in_claim, judged, judged_right}
use Rattle.type_rules.specs.Steps.{new_name_faults}
use Rattle.type_rules.specs.Statements.{declared_type, value_faults, local_counts, past_locals, behind, modifies_faults, texts, claims_faults, stmt_faults, stmts_faults, else_faults}
use Rattle.typed_texts.specs.Code.{variables_meant, code_of_tree, code_of_trees, code_of_else, all_noted, type_declared, locals_of_tree, locals_of_trees, locals_of_else}
use Rattle.typed_texts.specs.Values.{value_of_tree}
use Rattle.claim_typing.proofs.Parts.{both_nil}
use Rattle.text_heights.specs.Low.{IsLowStmt, AreLowStmts, IsLowElse}
use Rattle.statement_typing.specs.Around.{FitsAround, HasLocals}
use Rattle.statement_typing.specs.Laws.{LocalsAreKnown}
use Rattle.statement_typing.proofs.Fits.{fits_past, fits_within, only_these}
use Rattle.statement_typing.proofs.Sides.{right_typed}
use Rattle.statement_typing.proofs.Declares.{declares}
use Rattle.statement_typing.proofs.Statements.{counts_are, count_is, locals_behind, front_locals, behind_locals, stmt_follows}

module _ (program : ProgramTree Variable) (own : MethodTree Variable) (nodes : ℕ) where
  both_known : (ss ts : List ValueType) → list_all (is_program_type program.records) ss ≡ true → list_all (is_program_type program.records) ts ≡ true →
      list_all (is_program_type program.records) (ss ++ ts) ≡ true
  both_known ss ts h k =
      list_all-append (is_program_type program.records) ss ts
      ∙ and_from (list_all (is_program_type program.records) ss) (list_all (is_program_type program.records) ts) h k

  local_known : (named assigned : Variable → Bool) (scope : Scope) → FitsAround program own nodes named assigned scope → (written : Name)
      (ty : Option TypeTree) (tree : ExprTree) → new_name_faults scope written ++ value_faults scope ty (judged_right scope tree) ≡ [] →
      list_all (is_program_type program.records) (type_declared (declared_type scope ty (judged_right scope tree)) ∷ []) ≡ true
  local_known named assigned scope fits written ty tree h =
      let side = judged_right scope tree in
      let p = both_nil (new_name_faults scope written) (value_faults scope ty side) h in
      let d = declares program.records scope (λ text n q. fits.meanings text (record_class n) q) ty side (right_typed program own nodes named assigned scope fits tree) p.1 in
      subst (λ o. list_all (is_program_type program.records) (type_declared o ∷ []) ≡ true) (sym d.1.declared)
      (and_from (is_program_type program.records d.0) true d.1.known refl)

  mutual
    stmt_locals : (named assigned : Variable → Bool) (scope : Scope) → FitsAround program own nodes named assigned scope →
        length own.params ≤ scope.locals → (stmt : StmtTree) → stmt_faults scope stmt ≡ [] → IsLowStmt stmt →
        HasLocals own scope.locals (locals_of_tree scope stmt) → (node : ℕ) → node + length (code_of_tree scope stmt).places ≤ nodes →
        list_all (is_program_type program.records) (locals_of_tree scope stmt) ≡ true
    stmt_locals named assigned scope fits enough (s.val place written ty value) h low locals node room =
        local_known named assigned scope fits written ty value h
    stmt_locals named assigned scope fits enough (s.var place written ty value) h low locals node room =
        local_known named assigned scope fits written ty value h
    stmt_locals named assigned scope fits enough (s.assignment written value) h low locals node room = refl
    stmt_locals named assigned scope fits enough (s.call written arguments) h low locals node room = refl
    stmt_locals named assigned scope fits enough (s.branch place test on_true otherwise) h low locals node room =
        let inner = past_locals scope (local_counts on_true) in
        let o = both_nil (faults_against truth_type (judged scope in_program test) ++ stmts_faults scope on_true) (else_faults inner otherwise) h in
        let p = both_nil (faults_against truth_type (judged scope in_program test)) (stmts_faults scope on_true) o.0 in
        let value = value_of_tree scope test in
        let first = code_of_trees scope on_true in
        let second = code_of_else inner otherwise in
        let m = length-append value.places (first.places ++ second.places) in
        let n = length-append first.places second.places in
        let from_first = node + 1 + length value.places in
        both_known (locals_of_trees scope on_true) (locals_of_else inner otherwise)
        (stmts_locals named assigned scope fits enough on_true p.1 low.1
        (front_locals own scope.locals (locals_of_trees scope on_true) (locals_of_else inner otherwise) locals) from_first (omega (arith, room, m, n)))
        (else_locals named assigned inner (fits_past program own nodes named assigned scope (local_counts on_true) fits) (omega (arith, enough)) otherwise o.1 low.2
        (behind_locals own scope.locals inner.locals (locals_of_trees scope on_true) (locals_of_else inner otherwise)
        (ap (λ k. scope.locals + k) (sym (counts_are scope on_true))) locals) (from_first + length first.places) (omega (arith, room, m, n)))
    stmt_locals named assigned scope fits enough (s.loop place test modifies claims body) h low locals node room =
        let inner = within scope (texts modifies) in
        let names = modifies_faults is_var scope [] modifies in
        let tested = faults_against truth_type (judged scope in_program test) in
        let r = both_nil (tested ++ names ++ claims_faults scope in_claim claims) (stmts_faults inner body) h in
        let q = both_nil (tested ++ names) (claims_faults scope in_claim claims) r.0 in
        let p = both_nil tested names q.0 in
        let value = value_of_tree scope test in
        let first = all_noted scope in_claim claims in
        let second = code_of_trees inner body in
        let m = length-append value.places (first.places ++ second.places) in
        let n = length-append first.places second.places in
        let from_first = node + 1 + length value.places in
        stmts_locals named (only_these assigned (variables_meant scope modifies)) inner
        (fits_within program own nodes named assigned scope modifies fits) enough body r.1 low.2 locals (from_first + length first.places)
        (omega (arith, room, m, n))
    stmt_locals named assigned scope fits enough (s.assertion place claim) h low locals node room = refl
    stmt_locals named assigned scope fits enough (s.deduction place steps) h low locals node room = refl

    stmts_locals : (named assigned : Variable → Bool) (scope : Scope) → FitsAround program own nodes named assigned scope →
        length own.params ≤ scope.locals → (stmts : StmtTrees) → stmts_faults scope stmts ≡ [] → AreLowStmts stmts →
        HasLocals own scope.locals (locals_of_trees scope stmts) → (node : ℕ) → node + length (code_of_trees scope stmts).places ≤ nodes →
        list_all (is_program_type program.records) (locals_of_trees scope stmts) ≡ true
    stmts_locals named assigned scope fits enough s.no_stmts h low locals node room = refl
    stmts_locals named assigned scope fits enough (s.stmt_then stmt stmts) h low locals node room =
        let next = behind scope stmt in
        let p = both_nil (stmt_faults scope stmt) (stmts_faults next stmts) h in
        let first = code_of_tree scope stmt in
        let others = code_of_trees next stmts in
        let m = length-append first.places others.places in
        let front = front_locals own scope.locals (locals_of_tree scope stmt) (locals_of_trees next stmts) locals in
        let f = stmt_follows program own nodes goes_on named assigned scope fits enough stmt p.0 low.0 front node (omega (arith, room, m)) in
        let grown = locals_behind scope stmt in
        both_known (locals_of_tree scope stmt) (locals_of_trees next stmts)
        (stmt_locals named assigned scope fits enough stmt p.0 low.0 front node (omega (arith, room, m)))
        (stmts_locals f.then_named f.then_assigned next f.fits (omega (arith, enough, grown)) stmts p.1 low.1
        (behind_locals own scope.locals next.locals (locals_of_tree scope stmt) (locals_of_trees next stmts)
        (grown ∙ ap (λ k. scope.locals + k) (sym (count_is scope stmt))) locals) (node + length first.places) (omega (arith, room, m)))

    else_locals : (named assigned : Variable → Bool) (scope : Scope) → FitsAround program own nodes named assigned scope →
        length own.params ≤ scope.locals → (otherwise : ElseTree) → else_faults scope otherwise ≡ [] → IsLowElse otherwise →
        HasLocals own scope.locals (locals_of_else scope otherwise) → (node : ℕ) → node + length (code_of_else scope otherwise).places ≤ nodes →
        list_all (is_program_type program.records) (locals_of_else scope otherwise) ≡ true
    else_locals named assigned scope fits enough s.no_else h low locals node room = refl
    else_locals named assigned scope fits enough (s.else_then stmts) h low locals node room =
        stmts_locals named assigned scope fits enough stmts h low locals node room

pub locals_known : LocalsAreKnown
locals_known program own nodes named assigned scope fits enough stmts h low locals node room =
    stmts_locals program own nodes named assigned scope fits enough stmts h low locals node room
