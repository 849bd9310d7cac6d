use Rattle.std.proofs.Common.{◌∙◌, ap, sym}
use Rattle.std.specs.Option.{option_map}
use Rattle.slang_tree.specs.DeclTree.{return_tree}
use Rattle.text_types.specs.TextType.{text_value}
use Rattle.type_faults.specs.FirstFault.{with_first}
use Rattle.type_rules.specs.Projects.{return_faults}
use Rattle.return_judging.proofs.Returns.{missing_is, returned_is}
use Rattle.return_judging.proofs.returning.judged_return.Goals as goal

pub returns-in-None-clause-told : goal.returns-in-None-clause-told
returns-in-None-clause-told c = λ at fits.
    let ty = option_map text_value c.args.ty in
    c.missing.ensures
    ∙ ap (with_first c.args.told.now.found) (missing_is at c.args.name.now c.args.has_signature ty)
    ∙ ap (λ r. with_first c.args.told.now.found (return_faults at c.args.name.now c.args.has_signature ty (option_map return_tree r))) (sym c.in-None.is)

pub returns-in_ok-found-in-Some-clause-told : goal.returns-in_ok-found-in-Some-clause-told
returns-in_ok-found-in-Some-clause-told c = λ at fits.
    let ty = option_map text_value c.args.ty in
    returned_is c.args.told.now.found c.judged.new.told.found c.returned_value.new.told.found c.in_ok-found-in-Some.found at c.args.name.now c.args.has_signature ty (return_tree c.in-Some.returned)
    (c.in_ok-found-in-Some.ensures.judged at fits) c.returned_value.ensures
    ∙ ap (λ r. with_first c.args.told.now.found (return_faults at c.args.name.now c.args.has_signature ty (option_map return_tree r))) (sym c.in-Some.is)
