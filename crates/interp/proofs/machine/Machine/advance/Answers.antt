use Rattle.std.proofs.Common.{◌≡◌, sym, subst, ◌∙◌}
use Rattle.run_steps.specs.Steps.{program_of}
use Rattle.interp.specs.declared.turned.Turned.{Turned}
use Rattle.interp.specs.declared.turned.Turned.TheVariants as t
use Rattle.interp.specs.Machines.{FitsWhere}
use Rattle.interp.proofs.Begins.{advanced, stays_put, goes_there, last_there}
use Rattle.interp.proofs.machine.Machine.advance.Goals as goal

pub go_on-told-requires : goal.go_on-told-requires
go_on-told-requires c =
    let told : c.args.self.now.told ≡ t.Going = goes_there c.args.self.now.told (sym c.is_going.ensures ∙ c.if-is_going.true) in
    subst (λ (u : Turned). FitsWhere (program_of c.args.typed.now) u c.args.self.now.run) told c.requires

pub returns-then-is_going-clause-advances : goal.returns-then-is_going-clause-advances
returns-then-is_going-clause-advances c =
    advanced (program_of c.args.typed.now) c.args.self.now c.args.turns c.go_on-told.result c.go_on-told.new.run
    (goes_there c.args.self.now.told (sym c.is_going.ensures ∙ c.if-is_going.true)) c.go_on-told.ensures.goes c.go_on-told.ensures.waits

pub returns-then-is_going-clause-of : goal.returns-then-is_going-clause-of
returns-then-is_going-clause-of c = c.go_on-told.ensures.fits

pub returns-else-is_going-clause-advances : goal.returns-else-is_going-clause-advances
returns-else-is_going-clause-advances c =
    stays_put (program_of c.args.typed.now) c.args.turns c.args.self.now.run c.args.self.now.told
    (last_there c.args.self.now.told (sym c.is_going.ensures ∙ c.if-is_going.false))
