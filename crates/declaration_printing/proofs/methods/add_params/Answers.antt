use Rattle.std.proofs.lemmas.Result.{on_ok_weaker}
use Rattle.slang_tree.specs.DeclTree.{param_tree}
use Rattle.declaration_printing.proofs.Lists.{params_listed_added}
use Rattle.declaration_printing.proofs.methods.add_params.Goals as goal

pub returns-in_ok-add_with_type-in-Some : goal.returns-in_ok-add_with_type-in-Some
returns-in_ok-add_with_type-in-Some c =
    on_ok_weaker c.add_params_behind.result
    (λ h. params_listed_added param_tree c.args.params.now _ _ c.in-Some.ensures.cases.0 c.in_ok-add_with_type-in-Some.ensures h) c.add_params_behind.ensures
