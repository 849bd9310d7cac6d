use Rattle.std.proofs.Common.{◌+◌, ◌++◌, ◌∷◌, [], ap, sym, take, ◌∙◌}
use Rattle.std.proofs.lemmas.List.{take_more}
use Rattle.typed_names.specs.Variables.{number_in}
use Rattle.target_making.proofs.Named.{names_more}
use Rattle.target_making.proofs.targets.variables_meant.Goals as goal

pub loop-name-preserved : goal.loop-name-preserved
loop-name-preserved c = λ at fits.
    let i = c.loop-name.name-index in
    let names = c.args.names.now in
    c.in_ok-push.ensures.ok
    ∙ names_more (number_in c.args.numbers) at (take i names) (take (i + 1) names) c.name-item.result c.loop-name.found _
    (take_more names i c.name-item.result c.loop-name-test.true ∙ ap (λ x. take i names ++ x ∷ []) (sym c.name-item.is))
    (c.loop-name.invariant at fits) (ap (λ n. n ∷ []) (c.in_ok-number_meant.ensures at fits))
