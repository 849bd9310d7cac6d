use Rattle.std.proofs.Common.{rules, SFits}
use Rattle.std.specs.Int.{w128}
use Rattle.store_forms.proofs.Added.{one_part}
use Rattle.store_forms.proofs.Summing.{of_one}
use Rattle.store_forms.proofs.terms.part_term.Goals as goal

pub returns-then-part-eq1-clause-number : goal.returns-then-part-eq1-clause-number
returns-then-part-eq1-clause-number c =
    let f : SFits w128 c.args.part.times = search rules in
    one_part c.args.store.now c.args.part c.requires (of_one c.args.part.times f c.if-part-eq1.true)
