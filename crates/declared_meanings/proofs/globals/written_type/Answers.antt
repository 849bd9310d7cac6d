use Rattle.std.proofs.Common.{◌∙◌, ap}
use Rattle.slang_tree.specs.TypeTree.{type_tree}
use Rattle.type_rules.specs.Judged.{Judged}
use Rattle.name_scopes.specs.Meanings.{declared_in}
use Rattle.signature_judging.proofs.Parameters.{alike}
use Rattle.type_names.proofs.Types.{type-alike}
use Rattle.declared_meanings.proofs.globals.written_type.Goals as goal

pub returns : goal.returns
returns c = λ at value fits.
    let names = c.args.scope.now.names in
    ap (λ (j : Judged). j.type) c.variable_type.ensures.is
    ∙ ap (λ (j : Judged). j.type) (type-alike (declared_in names) at.names (alike names at.names fits.names) (type_tree c.args.ty.now))
