use Rattle.std.proofs.Common.{map, refl, ap, ◌∙◌, sym}
use Rattle.slang_tree.specs.declared.expression.Name.{Name}
use Rattle.slang_tree.specs.declared.statement.Step.{Step}
use Rattle.slang_tree.specs.ExprTree.{expr_tree}
use Rattle.slang_tree.specs.StmtTree as s
use Rattle.slang_tree.specs.StmtTree.{step_tree, steps_of}
use Rattle.slang_tree.specs.StmtTree.{StepTree}
use Rattle.slang_tree.proofs.Lines.{step_tree-Let}
use Rattle.statement_parser.proofs.Reading.{ok_same}
use Rattle.std.proofs.Common.{Ok}
use Rattle.statement_parser.proofs.steps.let_of.Goals as goal

pub returns-clause-made : goal.returns-clause-made
returns-clause-made c =
    let name = c.in_ok-name.name in
    let inside = c.in_ok-name.inside in
    let tree : Name → StepTree = λ n. s.let_block c.args.label n inside.assumed (expr_tree inside.assumption) (steps_of (map step_tree inside.steps)) in (
      inside,
      c.in_ok-name.ensures.parts.1,
      step_tree-Let c.args.label name inside.assumed inside.assumption inside.steps ∙ ap tree (sym (ok_same c.args.name name (Ok c.args.name) refl c.in_ok-name.ensures.parts.0)),
    )
