use Rattle.std.proofs.Common.{ℕ, ◌≤◌, length, refl, ap, sym, subst, ◌∙◌, List}
use Rattle.std.specs.Prelude.{Ok}
use Rattle.std.specs.Option.{option_map}
use Rattle.program_trees.specs.Programs.{CodeTree, call, renamed_code}
use Rattle.run_rules.specs.Runs.{method_at}
use Rattle.lk_programs.specs.declared.expression.Expr.{Expr}
use Rattle.expression_values.specs.Environment.{variable_in}
use Rattle.lk_programs.specs.Program.{code_tree, record_types}
use Rattle.lk_programs.proofs.Codes.{code_tree-Val, code_tree-Assign, code_tree-Call, code_tree-If}
use Rattle.lk_programs.proofs.Codes.{code_tree-While, code_tree-Assert, code_tree-Deduce, code_tree-Return}
use Rattle.run_steps.specs.Arguments.{arguments_in}
use Rattle.run_steps.specs.Steps.{program_of, CanCall, Does}
use Rattle.run_steps.proofs.Values.{arguments_count}
use Rattle.run_steps.specs.declared.ending.Next.TheVariants as n
use Rattle.run_steps.proofs.Begins.{over}
use Rattle.run_steps.proofs.statement.begin.Goals as goal

pub returns-in-Val-clause-does : goal.returns-in-Val-clause-does
returns-in-Val-clause-does c =
    over c.args.limit (program_of c.args.typed.now) c.args.env.now _ c.args.code.now _ _ (ap code_tree c.in-Val.is ∙ code_tree-Val _ _ _)
    (c.set.ensures.does c.args.limit (program_of c.args.typed.now) c.in-Val.node.0)

pub returns-in-Val-clause-begins : goal.returns-in-Val-clause-begins
returns-in-Val-clause-begins c = c.set.ensures.begins (program_of c.args.typed.now)

pub returns-in-Assign-clause-does : goal.returns-in-Assign-clause-does
returns-in-Assign-clause-does c =
    over c.args.limit (program_of c.args.typed.now) c.args.env.now _ c.args.code.now _ _ (ap code_tree c.in-Assign.is ∙ code_tree-Assign _ _ _)
    (c.set-in-Assign.ensures.does c.args.limit (program_of c.args.typed.now) c.in-Assign.node.0)

pub returns-in-Assign-clause-begins : goal.returns-in-Assign-clause-begins
returns-in-Assign-clause-begins c = c.set-in-Assign.ensures.begins (program_of c.args.typed.now)

pub returns-in-Return-clause-does : goal.returns-in-Return-clause-does
returns-in-Return-clause-does c =
    over c.args.limit (program_of c.args.typed.now) c.args.env.now _ c.args.code.now _ _ (ap code_tree c.in-Return.is ∙ code_tree-Return _ _)
    (c.give.ensures.does c.args.limit (program_of c.args.typed.now) c.in-Return.node.0)

pub returns-in-Return-clause-begins : goal.returns-in-Return-clause-begins
returns-in-Return-clause-begins c = c.give.ensures.begins (program_of c.args.typed.now)

pub returns-in-Assert-clause-does : goal.returns-in-Assert-clause-does
returns-in-Assert-clause-does c =
    over c.args.limit (program_of c.args.typed.now) c.args.env.now _ c.args.code.now _ _ (ap code_tree c.in-Assert.is ∙ code_tree-Assert _)
    (c.assert.ensures.does (program_of c.args.typed.now) (ap record_types (sym c.as_slice.ensures)))

pub returns-in-Assert-clause-begins : goal.returns-in-Assert-clause-begins
returns-in-Assert-clause-begins c = c.assert.ensures.begins (program_of c.args.typed.now)

pub returns-in-Deduce-clause-does : goal.returns-in-Deduce-clause-does
returns-in-Deduce-clause-does c =
    over c.args.limit (program_of c.args.typed.now) c.args.env.now c.args.env.now c.args.code.now _ (Ok n.Rest)
    (ap code_tree c.in-Deduce.is ∙ code_tree-Deduce c.in-Deduce.node c.in-Deduce.steps) (λ more rest. refl)

pub returns-in-If-clause-does : goal.returns-in-If-clause-does
returns-in-If-clause-does c =
    over c.args.limit (program_of c.args.typed.now) c.args.env.now _ c.args.code.now _ _ (ap code_tree c.in-If.is ∙ code_tree-If _ _ _ _)
    (c.part.ensures.does c.args.limit (program_of c.args.typed.now) c.in-If.node.0 _ _)

pub returns-in-If-clause-begins : goal.returns-in-If-clause-begins
returns-in-If-clause-begins c = c.part.ensures.begins (program_of c.args.typed.now)

pub returns-in-While-clause-does : goal.returns-in-While-clause-does
returns-in-While-clause-does c =
    over c.args.limit (program_of c.args.typed.now) c.args.env.now c.args.env.now c.args.code.now _ (Ok n.Loop)
    (ap code_tree c.in-While.is ∙ code_tree-While c.in-While.node c.in-While.test c.in-While.modifies c.in-While.invariants c.in-While.body)
    (λ more rest. refl)

pub returns-in-Call-clause-does : goal.returns-in-Call-clause-does
returns-in-Call-clause-does c =
    let env = c.args.env.now in
    let program = program_of c.args.typed.now in
    over c.args.limit program env env c.args.code.now _ c.call.result (ap code_tree c.in-Call.is ∙ code_tree-Call _ _ _ _ _)
    (subst (λ (arguments : List Expr). Does c.args.limit program
    (call c.in-Call.node.0 (option_map (variable_in env) c.in-Call.target) c.in-Call.name.0 c.in-Call.method
    (arguments_in env arguments)) env env c.call.result)
    c.as_slice-in-Call.ensures (c.call.ensures.does c.in-Call.node.0))

pub call-requires-clause-there : goal.call-requires-clause-there
call-requires-clause-there c =
    let program = program_of c.args.typed.now in
    let env = c.args.env.now in
    (subst (λ (t : CodeTree ℕ). CanCall program (renamed_code (variable_in env) t)) (ap code_tree c.in-Call.is ∙ code_tree-Call _ _ _ _ _) c.requires.calls).0

pub call-requires-clause-few : goal.call-requires-clause-few
call-requires-clause-few c =
    let program = program_of c.args.typed.now in
    let env = c.args.env.now in
    let called = subst (λ (t : CodeTree ℕ). CanCall program (renamed_code (variable_in env) t))
    (ap code_tree c.in-Call.is ∙ code_tree-Call _ _ _ _ _) c.requires.calls in
    subst (λ (n : ℕ). n ≤ length (method_at program c.in-Call.method).locals)
    (arguments_count program env c.in-Call.arguments ∙ ap (λ (exprs : List Expr). length exprs) (sym c.as_slice-in-Call.ensures)) called.1
