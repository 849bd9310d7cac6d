use Rattle.std.proofs.Common.{◌∙◌, subst}
use Rattle.slang_tree.specs.DeclTree.{param_tree}
use Rattle.text_types.specs.Found.{IsJudged}
use Rattle.name_scopes.specs.Meanings.{declared_in}
use Rattle.signature_judging.proofs.Parameters.{alike}
use Rattle.type_names.proofs.Types.{type-alike}
use Rattle.signature_judging.proofs.header.param_type.Goals as goal

pub returns-clause-judged : goal.returns-clause-judged
returns-clause-judged c = λ names knows.
    subst (IsJudged c.args.told.now.found c.variable_type-found.new.told.found c.variable_type-found.result)
    (type-alike (declared_in c.args.outline.now.names) names (alike c.args.outline.now.names names knows) (param_tree c.args.param.now).ty)
    c.variable_type-found.ensures
