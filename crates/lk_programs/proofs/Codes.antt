-- The equations of `code_tree`, one for each variant.
use Rattle.std.proofs.Common.{◌≡◌, ℕ, List, map, Option, sym, ap, ◌∙◌}
use Rattle.program_trees.specs.Programs.{CodeTree, set, give, assert, deduce, branch, loop, call}
use Rattle.lk_claims.specs.Step.{step_trees}
use Rattle.lk_claims.specs.declared.step.ProofStep.{ProofStep}
use Rattle.lk_programs.specs.declared.expression.NodeNo.{NodeNo}
use Rattle.lk_programs.specs.declared.expression.Expr.{Expr}
use Rattle.lk_programs.specs.declared.program.Noted.{Noted}
use Rattle.lk_programs.specs.declared.program.Code.{Code, fold-roll-Code}
use Rattle.lk_programs.specs.declared.program.Code.TheOpen as c
use Rattle.lk_programs.specs.declared.program.Code.TheVariants as v
use Rattle.lk_programs.specs.Expr.{typed_expr}
use Rattle.lk_programs.specs.Program.{noted_tree, code_level, code_tree, code_trees}

pub code_tree-Val : (node : NodeNo) (target : ℕ) (value : Expr) →
    code_tree (v.Val node target value) ≡ set node.0 target (typed_expr value)
unfolding code_tree
code_tree-Val node target value =
    ap code_tree (sym (v.rolls-Val node target value)) ∙ fold-roll-Code (CodeTree ℕ) code_level (c.Val node target value)

pub code_tree-Assign : (node : NodeNo) (target : ℕ) (value : Expr) →
    code_tree (v.Assign node target value) ≡ set node.0 target (typed_expr value)
unfolding code_tree
code_tree-Assign node target value =
    ap code_tree (sym (v.rolls-Assign node target value)) ∙ fold-roll-Code (CodeTree ℕ) code_level (c.Assign node target value)

pub code_tree-Call : (node : NodeNo) (target : Option ℕ) (name : NodeNo) (method : ℕ) (arguments : List Expr) →
    code_tree (v.Call node target name method arguments) ≡ call node.0 target name.0 method (map typed_expr arguments)
unfolding code_tree
code_tree-Call node target name method arguments =
    ap code_tree (sym (v.rolls-Call node target name method arguments)) ∙ fold-roll-Code (CodeTree ℕ) code_level (c.Call node target name method arguments)

pub code_tree-If : (node : NodeNo) (test : Expr) (on_true on_false : List Code) →
    code_tree (v.If node test on_true on_false) ≡ branch node.0 (typed_expr test) (code_trees on_true) (code_trees on_false)
unfolding code_tree
code_tree-If node test on_true on_false =
    ap code_tree (sym (v.rolls-If node test on_true on_false)) ∙ fold-roll-Code (CodeTree ℕ) code_level (c.If node test on_true on_false)

pub code_tree-While : (node : NodeNo) (test : Expr) (modifies : List ℕ) (invariants : List Noted) (body : List Code) →
    code_tree (v.While node test modifies invariants body) ≡ loop node.0 (typed_expr test) modifies (map noted_tree invariants) (code_trees body)
unfolding code_tree
code_tree-While node test modifies invariants body =
    ap code_tree (sym (v.rolls-While node test modifies invariants body)) ∙ fold-roll-Code (CodeTree ℕ) code_level (c.While node test modifies invariants body)

pub code_tree-Assert : (noted : Noted) →
    code_tree (v.Assert noted) ≡ assert (noted_tree noted)
unfolding code_tree
code_tree-Assert noted =
    ap code_tree (sym (v.rolls-Assert noted)) ∙ fold-roll-Code (CodeTree ℕ) code_level (c.Assert noted)

pub code_tree-Deduce : (node : NodeNo) (steps : List ProofStep) →
    code_tree (v.Deduce node steps) ≡ deduce node.0 (step_trees steps)
unfolding code_tree
code_tree-Deduce node steps =
    ap code_tree (sym (v.rolls-Deduce node steps)) ∙ fold-roll-Code (CodeTree ℕ) code_level (c.Deduce node steps)

pub code_tree-Return : (node : NodeNo) (value : Expr) →
    code_tree (v.Return node value) ≡ give node.0 (typed_expr value)
unfolding code_tree
code_tree-Return node value =
    ap code_tree (sym (v.rolls-Return node value)) ∙ fold-roll-Code (CodeTree ℕ) code_level (c.Return node value)

pub ruleset code_lines = (code_tree-Val, code_tree-Assign, code_tree-Call, code_tree-If, code_tree-While, code_tree-Assert, code_tree-Deduce, code_tree-Return)
