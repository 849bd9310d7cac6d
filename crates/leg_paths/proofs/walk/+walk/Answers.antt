use Rattle.std.proofs.Common.{◌≡◌, ℕ, [], ◌∷◌, ◌++◌, map, length, length-drop, take, drop, get_or, List, Some, None, refl, sym, ap, ap₂, ◌∙◌, arith, subst, ◌<◌, ◌+◌, ◌-◌, ◌≤◌}
use Rattle.std.proofs.lemmas.List.{take_all}
use Rattle.program_trees.specs.Variables.{result}
use Rattle.program_trees.specs.declared.answer.Kind.TheVariants as kinds
use Rattle.program_trees.specs.Claims.{renamed_noted, renamed_steps}
use Rattle.program_trees.specs.Programs.{set, give, assert, deduce, branch, loop, call, renamed_expr}
use Rattle.lk_claims.specs.Step.{step_trees}
use Rattle.lk_programs.specs.declared.program.Code.{Code}
use Rattle.lk_programs.specs.Expr.{typed_expr}
use Rattle.lk_programs.specs.Program.{code_tree, code_trees, noted_tree}
use Rattle.lk_programs.proofs.Codes.{code_tree-Val, code_tree-Assign, code_tree-Call, code_tree-If, code_tree-While, code_tree-Assert, code_tree-Deduce, code_tree-Return}
use Rattle.std.specs.Option.{option_map}
use Rattle.leg_rules.specs.Legs.{Items, set_items, assert_items, deduce_items, call_items, test_items, loop_items, on_true_items, on_false_items, in_front, legs_of, legs_of_code, checked, own_claims}
use Rattle.leg_items.specs.Drafts.{items_of}
use Rattle.leg_items.specs.Names.{kind_of}
use Rattle.leg_orders.specs.Places.{program_of}
use Rattle.leg_count.specs.Capped.{capped}
use Rattle.call_items.specs.Frames.{claims_in}
use Rattle.leg_paths.specs.Walks.{code_in, codes_in, GoesAlong}
use Rattle.leg_paths.proofs.Walks.{at_the_end, counted_behind, goes_nowhere, goes_then, goes_true, goes_false, goes_out, goes_ended, goes_to_end, goes_front, goes_left, if_ok_map, is_plain, is_parted, legs_from, map-map, one_statement}
use Rattle.leg_paths.proofs.walk.+walk.Goals as goal

pub add_statement-returns-in_ok-add_set-in-Val : goal.add_statement-returns-in_ok-add_set-in-Val
add_statement-returns-in_ok-add_set-in-Val t c = λ tail e.
    let kind = kind_of c.args.scope in
    is_plain (program_of c.args.typed.now) c.args.scope c.args.code.now (set c.in-Val.node.0 c.in-Val.variable (typed_expr c.in-Val.value))
    (set_items c.in-Val.node.0 (kind c.in-Val.variable) (renamed_expr kind (typed_expr c.in-Val.value))) (legs_of_code (program_of c.args.typed.now) (codes_in c.args.scope c.args.rest.now) tail)
    c.args.number (items_of c.args.out.now) (items_of c.add_set.new.out)
    (ap code_tree c.in-Val.is ∙ code_tree-Val c.in-Val.node c.in-Val.variable c.in-Val.value) refl c.in_ok-add_set-in-Val.ensures

pub add_statement-returns-in_ok-add_set-in-Assign : goal.add_statement-returns-in_ok-add_set-in-Assign
add_statement-returns-in_ok-add_set-in-Assign t c = λ tail e.
    let kind = kind_of c.args.scope in
    is_plain (program_of c.args.typed.now) c.args.scope c.args.code.now (set c.in-Assign.node.0 c.in-Assign.variable (typed_expr c.in-Assign.value))
    (set_items c.in-Assign.node.0 (kind c.in-Assign.variable) (renamed_expr kind (typed_expr c.in-Assign.value))) (legs_of_code (program_of c.args.typed.now) (codes_in c.args.scope c.args.rest.now) tail)
    c.args.number (items_of c.args.out.now) (items_of c.add_set-in-Assign.new.out)
    (ap code_tree c.in-Assign.is ∙ code_tree-Assign c.in-Assign.node c.in-Assign.variable c.in-Assign.value) refl c.in_ok-add_set-in-Assign.ensures

pub add_statement-returns-in_ok-add_returned-in-Return : goal.add_statement-returns-in_ok-add_returned-in-Return
add_statement-returns-in_ok-add_returned-in-Return t c = λ tail e.
    let kind = kind_of c.args.scope in
    is_plain (program_of c.args.typed.now) c.args.scope c.args.code.now (give c.in-Return.node.0 (typed_expr c.in-Return.value))
    (set_items c.in-Return.node.0 result (renamed_expr kind (typed_expr c.in-Return.value))) (legs_of_code (program_of c.args.typed.now) (codes_in c.args.scope c.args.rest.now) tail)
    c.args.number (items_of c.args.out.now) (items_of c.add_returned.new.out)
    (ap code_tree c.in-Return.is ∙ code_tree-Return c.in-Return.node c.in-Return.value) refl c.in_ok-add_returned-in-Return.ensures

pub add_statement-returns-in_ok-add_asserted-in-Assert : goal.add_statement-returns-in_ok-add_asserted-in-Assert
add_statement-returns-in_ok-add_asserted-in-Assert t c = λ tail e.
    let kind = kind_of c.args.scope in
    is_plain (program_of c.args.typed.now) c.args.scope c.args.code.now (assert (noted_tree c.in-Assert.noted))
    (assert_items (renamed_noted kind (noted_tree c.in-Assert.noted))) (legs_of_code (program_of c.args.typed.now) (codes_in c.args.scope c.args.rest.now) tail)
    c.args.number (items_of c.args.out.now) (items_of c.add_asserted.new.out)
    (ap code_tree c.in-Assert.is ∙ code_tree-Assert c.in-Assert.noted) refl c.in_ok-add_asserted-in-Assert.ensures

pub add_statement-returns-in_ok-add_proof-in-Deduce : goal.add_statement-returns-in_ok-add_proof-in-Deduce
add_statement-returns-in_ok-add_proof-in-Deduce t c = λ tail e.
    let kind = kind_of c.args.scope in
    is_plain (program_of c.args.typed.now) c.args.scope c.args.code.now (deduce c.in-Deduce.node.0 (step_trees c.in-Deduce.steps))
    (deduce_items c.in-Deduce.node.0 (renamed_steps kind (step_trees c.in-Deduce.steps))) (legs_of_code (program_of c.args.typed.now) (codes_in c.args.scope c.args.rest.now) tail)
    c.args.number (items_of c.args.out.now) (items_of c.add_proof.new.out)
    (ap code_tree c.in-Deduce.is ∙ code_tree-Deduce c.in-Deduce.node c.in-Deduce.steps) refl
    (c.in_ok-add_proof-in-Deduce.ensures ∙ ap (λ l. items_of c.args.out.now ++ deduce_items c.in-Deduce.node.0 (renamed_steps kind (step_trees l))) c.as_slice.ensures)

pub add_statement-returns-in_ok-add_called-in-Call : goal.add_statement-returns-in_ok-add_called-in-Call
add_statement-returns-in_ok-add_called-in-Call t c = λ tail e.
    let kind = kind_of c.args.scope in
    let node = c.in-Call.node.0 in
    is_plain (program_of c.args.typed.now) c.args.scope c.args.code.now (call node c.in-Call.target c.in-Call.name.0 c.in-Call.method (map typed_expr c.in-Call.arguments))
    (call_items (program_of c.args.typed.now) node (option_map kind c.in-Call.target) c.in-Call.name.0 c.in-Call.method (map (renamed_expr kind) (map typed_expr c.in-Call.arguments)))
    (legs_of_code (program_of c.args.typed.now) (codes_in c.args.scope c.args.rest.now) tail)
    c.args.number (items_of c.args.out.now) (items_of c.add_called.new.out)
    (ap code_tree c.in-Call.is ∙ code_tree-Call c.in-Call.node c.in-Call.target c.in-Call.name c.in-Call.method c.in-Call.arguments) refl
    (c.in_ok-add_called-in-Call.ensures ∙ ap (λ l. items_of c.args.out.now ++ call_items (program_of c.args.typed.now) node (option_map kind c.in-Call.target) c.in-Call.name.0 c.in-Call.method l)
    (ap (map (λ x. renamed_expr kind (typed_expr x))) c.as_slice-in-Call.ensures ∙ sym (map-map (renamed_expr kind) typed_expr c.in-Call.arguments)))

pub add_statement-returns-in_ok-add_demanded-in-If : goal.add_statement-returns-in_ok-add_demanded-in-If
add_statement-returns-in_ok-add_demanded-in-If t c =
    let kind = kind_of c.args.scope in
    let program = program_of c.args.typed.now in
    let test = renamed_expr kind (typed_expr c.in-If.test) in
    if_ok_map c.add_branch.result _ _
    (λ next h tail e.
    let following = legs_of_code program (codes_in c.args.scope c.args.rest.now) tail in
    is_parted program c.args.scope c.args.code.now (branch c.in-If.node.0 (typed_expr c.in-If.test) (code_trees c.in-If.then) (code_trees c.in-If.otherwise))
    (test_items test)
    (in_front (on_true_items c.in-If.node.0 test) (legs_of_code program (codes_in c.args.scope c.in-If.then) following)
    ++ in_front (on_false_items c.in-If.node.0 test) (legs_of_code program (codes_in c.args.scope c.in-If.otherwise) following))
    following c.args.number (items_of c.args.out.now) (items_of c.add_demanded.new.out) (items_of c.add_branch.new.out) next
    (ap code_tree c.in-If.is ∙ code_tree-If c.in-If.node c.in-If.test c.in-If.then c.in-If.otherwise) refl c.in_ok-add_demanded-in-If.ensures
    (subst (λ l. GoesAlong (in_front (on_true_items c.in-If.node.0 test) (legs_of_code program (codes_in c.args.scope l) following)
    ++ in_front (on_false_items c.in-If.node.0 test) (legs_of_code program (codes_in c.args.scope c.in-If.otherwise) following)) following c.args.number
    (items_of c.add_demanded.new.out) (items_of c.add_branch.new.out) next) c.as_slice-in-If.ensures
    (subst (λ l. GoesAlong (in_front (on_true_items c.in-If.node.0 test) (legs_of_code program (codes_in c.args.scope c.as_slice-in-If.result.now) following)
    ++ in_front (on_false_items c.in-If.node.0 test) (legs_of_code program (codes_in c.args.scope l) following)) following c.args.number
    (items_of c.add_demanded.new.out) (items_of c.add_branch.new.out) next) c.as_slice-in-If-2.ensures
    (h following (counted_behind program c.args.scope c.args.rest.now tail c.args.following c.leg_count_behind-behind.result e c.leg_count_behind-behind.ensures)))))
    c.add_branch.ensures

pub add_branch-returns-in_ok-add_true : goal.add_branch-returns-in_ok-add_true
add_branch-returns-in_ok-add_true t c =
    let kind = kind_of c.args.scope in
    let program = program_of c.args.typed.now in
    let test = renamed_expr kind (typed_expr c.args.test.now) in
    if_ok_map c.add_statements.result _ _
    (λ next h tail e.
    goes_true (on_true_items c.args.node.0 test) (on_false_items c.args.node.0 test) (legs_of_code program (codes_in c.args.scope c.args.on_true.now) tail)
    (legs_of_code program (codes_in c.args.scope c.args.on_false.now) tail) tail c.args.number c.leg_count_behind-count.result
    (items_of c.args.out.now) (items_of c.add_true.new.out) (items_of c.add_statements.new.out) next
    (counted_behind program c.args.scope c.args.on_true.now tail c.args.following c.leg_count_behind-count.result e c.leg_count_behind-count.ensures)
    c.if-number-count.true c.in_ok-add_true.ensures (h tail e))
    c.add_statements.ensures

pub add_branch-returns-in_ok-add_false : goal.add_branch-returns-in_ok-add_false
add_branch-returns-in_ok-add_false t c =
    let kind = kind_of c.args.scope in
    let program = program_of c.args.typed.now in
    let test = renamed_expr kind (typed_expr c.args.test.now) in
    if_ok_map c.add_statements-else-number-count.result _ _
    (λ next h tail e.
    goes_false (on_true_items c.args.node.0 test) (on_false_items c.args.node.0 test) (legs_of_code program (codes_in c.args.scope c.args.on_true.now) tail)
    (legs_of_code program (codes_in c.args.scope c.args.on_false.now) tail) tail c.args.number c.leg_count_behind-count.result
    (items_of c.args.out.now) (items_of c.add_false.new.out) (items_of c.add_statements-else-number-count.new.out) next
    (counted_behind program c.args.scope c.args.on_true.now tail c.args.following c.leg_count_behind-count.result e c.leg_count_behind-count.ensures)
    (omega (arith, c.if-number-count.false)) c.in_ok-add_false.ensures (h tail e))
    c.add_statements-else-number-count.ensures

pub add_statement-returns-in_ok-add_loop_start-in-While : goal.add_statement-returns-in_ok-add_loop_start-in-While
add_statement-returns-in_ok-add_loop_start-in-While t c =
    let kind = kind_of c.args.scope in
    let program = program_of c.args.typed.now in
    let w = c.in-While in
    let test = renamed_expr kind (typed_expr w.test) in
    if_ok_map c.add_loop.result _ _
    (λ next h tail e.
    let following = legs_of_code program (codes_in c.args.scope c.args.rest.now) tail in
    is_parted program c.args.scope c.args.code.now (loop w.node.0 (typed_expr w.test) w.modifies (map noted_tree w.invariants) (code_trees w.body))
    (loop_items w.node.0 test (map kind w.modifies) (claims_in c.args.scope w.invariants))
    (in_front (on_true_items w.node.0 test) (legs_of_code program (codes_in c.args.scope w.body) (checked kinds.InvKept (own_claims (claims_in c.args.scope w.invariants)) ∷ []))
    ++ in_front (on_false_items w.node.0 test) following)
    following c.args.number (items_of c.args.out.now) (items_of c.add_loop_start.new.out) (items_of c.add_loop.new.out) next
    (ap code_tree w.is ∙ code_tree-While w.node w.test w.modifies w.invariants w.body) refl
    (c.in_ok-add_loop_start-in-While.ensures ∙ ap₂ (λ ms is. items_of c.args.out.now ++ loop_items w.node.0 test (map kind ms) (claims_in c.args.scope is)) c.as_slice-in-While.ensures c.as_slice-in-While-2.ensures)
    (subst (λ l. GoesAlong (in_front (on_true_items w.node.0 test) (legs_of_code program (codes_in c.args.scope l) (checked kinds.InvKept (own_claims (claims_in c.args.scope w.invariants)) ∷ []))
    ++ in_front (on_false_items w.node.0 test) following) following c.args.number (items_of c.add_loop_start.new.out) (items_of c.add_loop.new.out) next) c.as_slice-in-While-3.ensures
    (subst (λ l. GoesAlong (in_front (on_true_items w.node.0 test) (legs_of_code program (codes_in c.args.scope c.as_slice-in-While-3.result.now) (checked kinds.InvKept (own_claims (claims_in c.args.scope l)) ∷ []))
    ++ in_front (on_false_items w.node.0 test) following) following c.args.number (items_of c.add_loop_start.new.out) (items_of c.add_loop.new.out) next) c.as_slice-in-While-4.ensures
    (h following))))
    c.add_loop.ensures

pub add_statements-codes-init : goal.add_statements-codes-init
add_statements-codes-init t c = record {
  within = omega arith;
  there = λ tail e. goes_nowhere (legs_of_code (program_of c.args.typed.now) (codes_in c.args.scope c.args.codes.now) tail) c.args.number (items_of c.args.out.now);
}

pub add_statements-returns : goal.add_statements-returns
add_statements-returns t c = λ tail e.
    let program = program_of c.args.typed.now in
    subst (λ l. GoesAlong (legs_of_code program (codes_in c.args.scope c.args.codes.now) tail) l c.args.number (items_of c.args.out.now) (items_of c.codes.out) (Some c.codes.number))
    (at_the_end program c.args.scope c.args.codes.now c.codes.at tail (omega (arith, c.codes-test.false)))
    (c.codes.invariant.there tail e)

pub add_loop-returns-then-number-through : goal.add_loop-returns-then-number-through
add_loop-returns-then-number-through t c = λ tail.
    let program = program_of c.args.typed.now in
    let test = renamed_expr (kind_of c.args.scope) (typed_expr c.args.test.now) in
    let end : List Items = checked kinds.InvKept (own_claims (claims_in c.args.scope c.args.invariants.now)) ∷ [] in
    goes_out (on_true_items c.args.node.0 test) (on_false_items c.args.node.0 test) (legs_of_code program (codes_in c.args.scope c.args.body.now) end) tail c.args.number c.leg_count_behind-through.result
    (items_of c.args.out.now) (items_of c.add_false.new.out)
    (counted_behind program c.args.scope c.args.body.now end 1 c.leg_count_behind-through.result refl c.leg_count_behind-through.ensures)
    (omega (arith, c.if-number-through.true)) c.in_ok-add_false.ensures

pub add_loop-returns-in-None : goal.add_loop-returns-in-None
add_loop-returns-in-None t c = λ tail.
    let program = program_of c.args.typed.now in
    let test = renamed_expr (kind_of c.args.scope) (typed_expr c.args.test.now) in
    let end : List Items = checked kinds.InvKept (own_claims (claims_in c.args.scope c.args.invariants.now)) ∷ [] in
    let through = legs_of_code program (codes_in c.args.scope c.args.body.now) end in
    goes_true (on_true_items c.args.node.0 test) (on_false_items c.args.node.0 test) through tail tail c.args.number c.leg_count_behind-through.result
    (items_of c.args.out.now) (items_of c.add_true.new.out) (items_of c.add_statements.new.out) None
    (counted_behind program c.args.scope c.args.body.now end 1 c.leg_count_behind-through.result refl c.leg_count_behind-through.ensures)
    (omega (arith, c.if-number-through.false)) c.in_ok-add_true.ensures
    (goes_ended through end tail c.args.number (items_of c.add_true.new.out) (items_of c.add_statements.new.out) (subst (λ next. GoesAlong through end c.args.number (items_of c.add_true.new.out) (items_of c.add_statements.new.out) next) c.in-None.is (c.in_ok-add_statements.ensures end refl)))

pub add_loop-returns-in_ok-add_own_checked-in-Some : goal.add_loop-returns-in_ok-add_own_checked-in-Some
add_loop-returns-in_ok-add_own_checked-in-Some t c = λ tail.
    let program = program_of c.args.typed.now in
    let test = renamed_expr (kind_of c.args.scope) (typed_expr c.args.test.now) in
    let last : Items = checked kinds.InvKept (own_claims (claims_in c.args.scope c.args.invariants.now)) in
    let through = legs_of_code program (codes_in c.args.scope c.args.body.now) (last ∷ []) in
    goes_true (on_true_items c.args.node.0 test) (on_false_items c.args.node.0 test) through tail tail c.args.number c.leg_count_behind-through.result
    (items_of c.args.out.now) (items_of c.add_true.new.out) (items_of c.add_own_checked.new.out) None
    (counted_behind program c.args.scope c.args.body.now (last ∷ []) 1 c.leg_count_behind-through.result refl c.leg_count_behind-through.ensures)
    (omega (arith, c.if-number-through.false)) c.in_ok-add_true.ensures
    (goes_to_end through last tail c.args.number c.in-Some.field-0 (items_of c.add_true.new.out) (items_of c.add_statements.new.out) (items_of c.add_own_checked.new.out)
    (subst (λ next. GoesAlong through (last ∷ []) c.args.number (items_of c.add_true.new.out) (items_of c.add_statements.new.out) next) c.in-Some.is (c.in_ok-add_statements.ensures (last ∷ []) refl)) c.in_ok-add_own_checked-in-Some.ensures)

pub add_statements-returns-in-None : goal.add_statements-returns-in-None
add_statements-returns-in-None t c = λ tail e.
    let program = program_of c.args.typed.now in
    let codes = c.args.codes.now in
    let k = c.codes.at in
    let others = take (length codes - (k + 1)) (drop (k + 1) codes) in
    let all = take_all (length codes - (k + 1)) (drop (k + 1) codes) (omega (arith, length-drop (k + 1) codes)) in
    let whole = legs_of_code program (codes_in c.args.scope codes) tail in
    let rest = legs_of_code program (codes_in c.args.scope others) tail in
    goes_ended whole (legs_of_code program (codes_in c.args.scope (drop (k + 1) codes)) tail) tail c.args.number (items_of c.args.out.now) (items_of c.add_statement.new.out)
    (one_statement program c.args.scope codes others k c.index-codes-at.result tail c.args.number c.codes.number (items_of c.args.out.now) (items_of c.codes.out) (items_of c.add_statement.new.out) None
    (omega (arith, c.codes-test.true)) c.index-codes-at.is all (c.codes.invariant.there tail e)
    (subst (λ next. GoesAlong (legs_of program (code_in c.args.scope c.index-codes-at.result) rest) rest c.codes.number (items_of c.codes.out) (items_of c.add_statement.new.out) next) c.in-None.is
    (c.in_ok-add_statement.ensures tail e)))

pub add_statements-codes-preserved : goal.add_statements-codes-preserved
add_statements-codes-preserved t c = record {
  within = omega (arith, c.codes-test.true);
  there = λ tail e.
      let program = program_of c.args.typed.now in
      let codes = c.args.codes.now in
      let k = c.codes.at in
      let others = take (length codes - (k + 1)) (drop (k + 1) codes) in
      let all = take_all (length codes - (k + 1)) (drop (k + 1) codes) (omega (arith, length-drop (k + 1) codes)) in
      let rest = legs_of_code program (codes_in c.args.scope others) tail in
      one_statement program c.args.scope codes others k c.index-codes-at.result tail c.args.number c.codes.number (items_of c.args.out.now) (items_of c.codes.out) (items_of c.add_statement.new.out)
      (Some c.in-Some.next) (omega (arith, c.codes-test.true)) c.index-codes-at.is all (c.codes.invariant.there tail e)
      (subst (λ next. GoesAlong (legs_of program (code_in c.args.scope c.index-codes-at.result) rest) rest c.codes.number (items_of c.codes.out) (items_of c.add_statement.new.out) next) c.in-Some.is
      (c.in_ok-add_statement.ensures tail e));
}
