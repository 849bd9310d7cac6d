use Rattle.slang_tree.specs.DeclTree.{const_tree}
use Rattle.type_rules.specs.Constants.{judged_const}
use Rattle.value_judging.proofs.declared_values.declared_constant.Goals as goal

pub returns : goal.returns
returns c = λ at fits.
    c.declared.ensures at c.args.told.now.found (judged_const at (const_tree c.args.constant.now)) fits (c.in_ok-found.ensures at fits)
