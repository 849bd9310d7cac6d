use Rattle.store_forms.proofs.Added.{no_constant}
use Rattle.store_forms.proofs.Summing.{of_zero}
use Rattle.store_forms.proofs.terms.term_and_constant.Goals as goal

pub returns-then-constant-eq0-clause-number : goal.returns-then-constant-eq0-clause-number
returns-then-constant-eq0-clause-number c = no_constant c.args.store.now c.args.term c.args.constant c.requires (of_zero c.args.constant c.ranges.constant c.if-constant-eq0.true)
