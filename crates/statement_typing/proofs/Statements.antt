-- The statements of a text without faults are well typed in the program.
use Rattle.std.proofs.Common.{◌≡◌, ℕ, ◌+◌, ◌≤◌, Bool, true, false, List, [], ◌∷◌, ◌++◌, length, slice_get, Option, Some, None, refl, sym, ap, ap₂, ◌∙◌, subst, arith, length-append}
use Rattle.std.specs.List.{AllByRecursion}
use Rattle.slang_values.specs.Value.{ValueType, truth_type}
use Rattle.slang_tree.specs.ExprTree.{ExprTree}
use Rattle.slang_tree.specs.StmtTree.{StmtTree, StmtTrees, ElseTree}
use Rattle.slang_tree.specs.StmtTree as s
use Rattle.program_trees.specs.Programs.{CodeTree, CodeTrees, no_code, code_then, MethodTree, ProgramTree}
use Rattle.program_trees.specs.Variables.{Variable}
use Rattle.typed_programs.specs.Scopes.{claim_names, IsNotedIn}
use Rattle.typed_programs.specs.WellTyped.{Around, behind as around_behind, End, goes_on, returns, ended, end_behind, IsTypedCode, AreTypedCodes}
use Rattle.type_rules.specs.Meanings.{Scope, meaning_of, within}
use Rattle.type_rules.specs.Judged.{faults_against}
use Rattle.type_rules.specs.Expressions.{in_program, in_claim, judged}
use Rattle.type_rules.specs.Statements.{local_count, local_counts, else_count, past_locals, behind, behind_all, modifies_faults, texts, claims_faults, stmt_faults, stmts_faults, else_faults}
use Rattle.type_rules.specs.Meanings.{is_var}
use Rattle.typed_texts.specs.Values.{value_of_tree}
use Rattle.typed_texts.specs.Code.{noted, all_noted, variables_meant, code_of_tree, code_of_trees, code_of_else, locals_of_tree, locals_of_trees, locals_of_else}
use Rattle.typed_texts.specs.TypedProjects.{with_return}
use Rattle.claim_typing.proofs.Parts.{both_nil}
use Rattle.value_typing.proofs.WellTyped.{claims_well_typed}
use Rattle.text_heights.specs.Low.{IsLow, IsLowStmt, AreLowStmts, IsLowElse}
use Rattle.statement_typing.specs.Around.{place_at, around_at, FitsAround, HasLocals}
use Rattle.statement_typing.specs.Laws.{IsOpen, StatementsAreTyped}
use Rattle.statement_typing.proofs.Lists.{get_front, get_behind}
use Rattle.statement_typing.proofs.Typed.{judged_against, claim_is_low}
use Rattle.statement_typing.proofs.Fits.{fits_claim, declared_in_program, declared_in_claim, none_loose, fits_past, fits_within, only_these}
use Rattle.statement_typing.proofs.Steps.{proofs_typed}
use Rattle.statement_typing.proofs.Sides.{value_here}
use Rattle.statement_typing.proofs.Modified.{modified_in}
use Rattle.statement_typing.proofs.Forms.{Follows, local_follows, assignment_follows, call_follows}

-- ---- lists of code

pub with_return-none : (codes : CodeTrees Variable) → with_return codes None ≡ codes
with_return-none no_code = refl
with_return-none (code_then code codes) = ap (code_then code) (with_return-none codes)

alone : (around : Around) (codes : CodeTrees Variable) → AreTypedCodes goes_on around (with_return codes None) → AreTypedCodes goes_on around codes
alone around codes h = subst (AreTypedCodes goes_on around) (with_return-none codes) h

codes_then : (end : End) (around : Around) (code : CodeTree Variable) (codes : CodeTrees Variable) → IsOpen end → IsTypedCode end around code →
    end_behind end code ≡ end → AreTypedCodes end (around_behind around code) codes → AreTypedCodes end around (code_then code codes)
codes_then goes_on around code codes unended typed stays rest =
    (typed, subst (λ end. AreTypedCodes end (around_behind around code) codes) (sym stays) rest)
codes_then (returns t) around code codes unended typed stays rest =
    (typed, subst (λ end. AreTypedCodes end (around_behind around code) codes) (sym stays) rest)
codes_then ended around code codes unended typed stays rest = absurd unended

-- ---- locals

mutual
  pub count_is : (scope : Scope) (stmt : StmtTree) → length (locals_of_tree scope stmt) ≡ local_count stmt
  count_is scope (s.val place written ty value) = refl
  count_is scope (s.var place written ty value) = refl
  count_is scope (s.assignment written value) = refl
  count_is scope (s.call written arguments) = refl
  count_is scope (s.branch place test on_true otherwise) =
      length-append (locals_of_trees scope on_true) (locals_of_else (past_locals scope (local_counts on_true)) otherwise)
      ∙ ap₂ (λ m n. m + n) (counts_are scope on_true) (else_count_is (past_locals scope (local_counts on_true)) otherwise)
  count_is scope (s.loop place test modifies claims body) = counts_are (within scope (texts modifies)) body
  count_is scope (s.assertion place claim) = refl
  count_is scope (s.deduction place steps) = refl

  pub counts_are : (scope : Scope) (stmts : StmtTrees) → length (locals_of_trees scope stmts) ≡ local_counts stmts
  counts_are scope s.no_stmts = refl
  counts_are scope (s.stmt_then stmt stmts) =
      length-append (locals_of_tree scope stmt) (locals_of_trees (behind scope stmt) stmts)
      ∙ ap₂ (λ m n. m + n) (count_is scope stmt) (counts_are (behind scope stmt) stmts)

  else_count_is : (scope : Scope) (otherwise : ElseTree) → length (locals_of_else scope otherwise) ≡ else_count otherwise
  else_count_is scope s.no_else = refl
  else_count_is scope (s.else_then stmts) = counts_are scope stmts

pub locals_behind : (scope : Scope) (stmt : StmtTree) → (behind scope stmt).locals ≡ scope.locals + local_count stmt
locals_behind scope (s.val place written ty value) = refl
locals_behind scope (s.var place written ty value) = refl
locals_behind scope (s.assignment written value) = omega arith
locals_behind scope (s.call written arguments) = omega arith
locals_behind scope (s.branch place test on_true otherwise) = refl
locals_behind scope (s.loop place test modifies claims body) = refl
locals_behind scope (s.assertion place claim) = omega arith
locals_behind scope (s.deduction place steps) = omega arith

pub front_locals : (own : MethodTree Variable) (start : ℕ) (ts us : List ValueType) → HasLocals own start (ts ++ us) → HasLocals own start ts
front_locals own start ts us has k t h = has k t (get_front ts us k t h)

pub behind_locals : (own : MethodTree Variable) (start next : ℕ) (ts us : List ValueType) → next ≡ start + length ts → HasLocals own start (ts ++ us) →
    HasLocals own next us
behind_locals own start next ts us e has k t h =
    subst (λ n. slice_get own.locals n ≡ Some t) (let q : start + (length ts + k) ≡ next + k = omega (arith, e) in q)
    (has (length ts + k) t (get_behind ts us k t h))

module _ (program : ProgramTree Variable) (own : MethodTree Variable) (nodes : ℕ) where
  -- ---- claims

  pub claim_noted : (named assigned : Variable → Bool) (scope : Scope) → FitsAround program own nodes named assigned scope → (claim : ExprTree) →
      faults_against truth_type (judged scope in_claim claim) ≡ [] → IsLow claim → (node : ℕ) →
      node + length (noted scope in_claim claim).places ≤ nodes → IsNotedIn (place_at program own nodes named) ((noted scope in_claim claim).from node)
  claim_noted named assigned scope fits claim h low node room = record {
    claim = claims_well_typed (place_at program own nodes named) (claim_names (place_at program own nodes named)) in_claim scope
        (fits_claim program own nodes named assigned scope fits) (none_loose program own nodes named assigned scope fits) fits.outside claim
        (judged_against in_claim scope (declared_in_claim program own nodes named assigned scope fits) truth_type claim h)
        (claim_is_low scope in_claim claim low);
    node = omega (arith, room);
  }

  pub claims_noted : (named assigned : Variable → Bool) (scope : Scope) → FitsAround program own nodes named assigned scope → (claims : List ExprTree) →
      claims_faults scope in_claim claims ≡ [] → AllByRecursion IsLow claims → (node : ℕ) →
      node + length (all_noted scope in_claim claims).places ≤ nodes →
      AllByRecursion (IsNotedIn (place_at program own nodes named)) ((all_noted scope in_claim claims).from node)
  claims_noted named assigned scope fits [] h low node room = tt
  claims_noted named assigned scope fits (claim ∷ claims) h low node room =
      let p = both_nil (faults_against truth_type (judged scope in_claim claim)) (claims_faults scope in_claim claims) h in (
        claim_noted named assigned scope fits claim p.0 low.0 node (omega (arith, room)),
        claims_noted named assigned scope fits claims p.1 low.1 (node + length (noted scope in_claim claim).places) (omega (arith, room)),
      )

  -- ---- statements

  mutual
    pub stmt_follows : (end : End) (named assigned : Variable → Bool) (scope : Scope) → FitsAround program own nodes named assigned scope →
        length own.params ≤ scope.locals → (stmt : StmtTree) → stmt_faults scope stmt ≡ [] → IsLowStmt stmt →
        HasLocals own scope.locals (locals_of_tree scope stmt) → (node : ℕ) → node + length (code_of_tree scope stmt).places ≤ nodes →
        Follows program own nodes end named assigned ((code_of_tree scope stmt).from node) (behind scope stmt)
    stmt_follows end named assigned scope fits enough (s.val place written ty value) h low locals node room =
        local_follows program own nodes end named assigned scope fits place written ty value false node enough h low locals room
    stmt_follows end named assigned scope fits enough (s.var place written ty value) h low locals node room =
        local_follows program own nodes end named assigned scope fits place written ty value true node enough h low locals room
    stmt_follows end named assigned scope fits enough (s.assignment written value) h low locals node room =
        assignment_follows program own nodes end named assigned scope fits written.place written value node (meaning_of scope written.text) refl h low room
    stmt_follows end named assigned scope fits enough (s.call written arguments) h low locals node room =
        call_follows program own nodes end named assigned scope fits written arguments node (meaning_of scope written.text) refl h low room
    stmt_follows end named assigned scope fits enough (s.branch place test on_true otherwise) h low locals node room =
        let inner = past_locals scope (local_counts on_true) in
        let o = both_nil (faults_against truth_type (judged scope in_program test) ++ stmts_faults scope on_true) (else_faults inner otherwise) h in
        let p = both_nil (faults_against truth_type (judged scope in_program test)) (stmts_faults scope on_true) o.0 in
        let value = value_of_tree scope test in
        let first = code_of_trees scope on_true in
        let second = code_of_else inner otherwise in
        let m = length-append value.places (first.places ++ second.places) in
        let n = length-append first.places second.places in
        let from_first = node + 1 + length value.places in
        record {
          typed = (
            omega (arith, room),
            value_here program own nodes named assigned scope fits test truth_type (node + 1)
                (judged_against in_program scope (declared_in_program program own nodes named assigned scope fits) truth_type test p.0) low.0
                (omega (arith, room, m, n)),
            alone (around_at program own nodes named assigned) (first.from from_first)
                (stmts_typed named assigned scope fits enough on_true p.1 low.1
                (front_locals own scope.locals (locals_of_trees scope on_true) (locals_of_else inner otherwise) locals) from_first (omega (arith, room, m, n))
                goes_on tt None (λ now may after. tt)),
            else_typed named assigned inner (fits_past program own nodes named assigned scope (local_counts on_true) fits) (omega (arith, enough)) otherwise o.1
                low.2
                (behind_locals own scope.locals inner.locals (locals_of_trees scope on_true) (locals_of_else inner otherwise)
                (ap (λ k. scope.locals + k) (sym (counts_are scope on_true))) locals) (from_first + length first.places) (omega (arith, room, m, n)),
          );
          stays = refl;
          then_named = named;
          then_assigned = assigned;
          same = refl;
          fits = fits_past program own nodes named assigned scope (local_counts on_true + else_count otherwise) fits;
        }
    stmt_follows end named assigned scope fits enough (s.loop place test modifies claims body) h low locals node room =
        let inner = within scope (texts modifies) in
        let names = modifies_faults is_var scope [] modifies in
        let tested = faults_against truth_type (judged scope in_program test) in
        let r = both_nil (tested ++ names ++ claims_faults scope in_claim claims) (stmts_faults inner body) h in
        let q = both_nil (tested ++ names) (claims_faults scope in_claim claims) r.0 in
        let p = both_nil tested names q.0 in
        let value = value_of_tree scope test in
        let first = all_noted scope in_claim claims in
        let second = code_of_trees inner body in
        let m = length-append value.places (first.places ++ second.places) in
        let n = length-append first.places second.places in
        let from_first = node + 1 + length value.places in
        record {
          typed = (
            omega (arith, room),
            value_here program own nodes named assigned scope fits test truth_type (node + 1)
                (judged_against in_program scope (declared_in_program program own nodes named assigned scope fits) truth_type test p.0) low.0
                (omega (arith, room, m, n)),
            modified_in program own nodes named assigned scope fits modifies p.1,
            claims_noted named assigned scope fits claims q.1 low.1 from_first (omega (arith, room, m, n)),
            alone (around_at program own nodes named (only_these assigned (variables_meant scope modifies)))
                (second.from (from_first + length first.places))
                (stmts_typed named (only_these assigned (variables_meant scope modifies)) inner
                (fits_within program own nodes named assigned scope modifies fits) enough body r.1 low.2 locals (from_first + length first.places)
                (omega (arith, room, m, n)) goes_on tt None (λ now may after. tt)),
          );
          stays = refl;
          then_named = named;
          then_assigned = assigned;
          same = refl;
          fits = fits_past program own nodes named assigned scope (local_counts body) fits;
        }
    stmt_follows end named assigned scope fits enough (s.assertion place claim) h low locals node room = record {
      typed = claim_noted named assigned scope fits claim h low node room;
      stays = refl;
      then_named = named;
      then_assigned = assigned;
      same = refl;
      fits = fits;
    }
    stmt_follows end named assigned scope fits enough (s.deduction place steps) h low locals node room =
        let p = proofs_typed program own nodes named assigned scope fits steps h low in
        record {
          typed = (omega (arith, room), p.0, p.1);
          stays = refl;
          then_named = named;
          then_assigned = assigned;
          same = refl;
          fits = fits;
        }

    pub stmts_typed : (named assigned : Variable → Bool) (scope : Scope) → FitsAround program own nodes named assigned scope →
        length own.params ≤ scope.locals → (stmts : StmtTrees) → stmts_faults scope stmts ≡ [] → AreLowStmts stmts →
        HasLocals own scope.locals (locals_of_trees scope stmts) → (node : ℕ) → node + length (code_of_trees scope stmts).places ≤ nodes → (end : End) →
        IsOpen end → (returned : Option (CodeTree Variable)) →
        ((now may : Variable → Bool) → FitsAround program own nodes now may (behind_all scope stmts) →
        AreTypedCodes end (around_at program own nodes now may) (with_return no_code returned)) →
        AreTypedCodes end (around_at program own nodes named assigned) (with_return ((code_of_trees scope stmts).from node) returned)
    stmts_typed named assigned scope fits enough s.no_stmts h low locals node room end unended returned last = last named assigned fits
    stmts_typed named assigned scope fits enough (s.stmt_then stmt stmts) h low locals node room end unended returned last =
        let next = behind scope stmt in
        let p = both_nil (stmt_faults scope stmt) (stmts_faults next stmts) h in
        let first = code_of_tree scope stmt in
        let others = code_of_trees next stmts in
        let m = length-append first.places others.places in
        let f = stmt_follows end named assigned scope fits enough stmt p.0 low.0
        (front_locals own scope.locals (locals_of_tree scope stmt) (locals_of_trees next stmts) locals) node (omega (arith, room, m)) in
        let from_next = node + length first.places in
        let grown = locals_behind scope stmt in
        let rest = stmts_typed f.then_named f.then_assigned next f.fits (omega (arith, enough, grown)) stmts p.1 low.1
        (behind_locals own scope.locals next.locals (locals_of_tree scope stmt) (locals_of_trees next stmts)
        (grown ∙ ap (λ k. scope.locals + k) (sym (count_is scope stmt))) locals) from_next (omega (arith, room, m)) end unended returned last in
        codes_then end (around_at program own nodes named assigned) (first.from node) (with_return (others.from from_next) returned) unended f.typed f.stays
        (subst (λ around. AreTypedCodes end around (with_return (others.from from_next) returned)) (sym f.same) rest)

    else_typed : (named assigned : Variable → Bool) (scope : Scope) → FitsAround program own nodes named assigned scope →
        length own.params ≤ scope.locals → (otherwise : ElseTree) → else_faults scope otherwise ≡ [] → IsLowElse otherwise →
        HasLocals own scope.locals (locals_of_else scope otherwise) → (node : ℕ) → node + length (code_of_else scope otherwise).places ≤ nodes →
        AreTypedCodes goes_on (around_at program own nodes named assigned) ((code_of_else scope otherwise).from node)
    else_typed named assigned scope fits enough s.no_else h low locals node room = tt
    else_typed named assigned scope fits enough (s.else_then stmts) h low locals node room =
        alone (around_at program own nodes named assigned) ((code_of_trees scope stmts).from node)
        (stmts_typed named assigned scope fits enough stmts h low locals node room goes_on tt None (λ now may after. tt))

pub statements_typed : StatementsAreTyped
statements_typed program own nodes named assigned scope fits enough stmts h low locals node room end unended returned last =
    stmts_typed program own nodes named assigned scope fits enough stmts h low locals node room end unended returned last
