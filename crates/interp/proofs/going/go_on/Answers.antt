use Rattle.std.proofs.Common.{◌≡◌, ℕ, ◌+◌, length, sym, ap, ◌∙◌, subst, arith}
use Rattle.std.specs.Prelude.{Ok}
use Rattle.run_stops.specs.ClaimStops.{visit_limit}
use Rattle.run_steps.specs.Steps.{program_of}
use Rattle.frame_steps.specs.declared.frame.Turn.{Turn}
use Rattle.frame_steps.specs.Runs.{run_on}
use Rattle.frame_steps.specs.Turns.{Turned, Falls, work}
use Rattle.interp.specs.declared.turned.Turned.{Turned as Told}
use Rattle.interp.specs.Machines.{IsKnown, with_told, FitsWhere, WaitsWhere}
use Rattle.interp.proofs.Begins.{told_is, nothing_waits, nothing_fits}
use Rattle.interp.proofs.going.go_on.Goals as goal

pub returns-in-Err-clause-goes : goal.returns-in-Err-clause-goes
returns-in-Err-clause-goes c known n =
    let program = program_of c.args.typed.now in
    c.steps.invariant.same n
    ∙ told_is program c.in-Err.end c.step.new.run _ n (subst IsKnown c.told_of.ensures known) (c.in-Err.ensures.turned n)
    ∙ ap (λ (told : Told). with_told program told c.step.new.run n) (sym c.told_of.ensures)

pub returns-in-Err-clause-waits : goal.returns-in-Err-clause-waits
returns-in-Err-clause-waits c =
    subst (λ (told : Told). WaitsWhere (program_of c.args.typed.now) told c.step.new.run) (sym c.told_of.ensures)
    (nothing_waits (program_of c.args.typed.now) c.in-Err.end c.step.new.run)

pub returns-in-Err-clause-fits : goal.returns-in-Err-clause-fits
returns-in-Err-clause-fits c =
    subst (λ (told : Told). FitsWhere (program_of c.args.typed.now) told c.step.new.run) (sym c.told_of.ensures)
    (nothing_fits (program_of c.args.typed.now) c.in-Err.end c.step.new.run)

pub returns-in-Waits-clause-goes : goal.returns-in-Waits-clause-goes
returns-in-Waits-clause-goes c known n =
    let program = program_of c.args.typed.now in
    let turned = subst (λ (turn : Turn). Turned visit_limit program c.step.new.run (run_on visit_limit program c.steps.run) c.steps.left c.step.new.left
    (Ok turn))
    c.in-Waits.is c.in-Ok.ensures.turned in
    let none : c.step.new.left + n ≡ n = omega (arith, turned.0.none) in
    c.steps.invariant.same n ∙ turned.1 n ∙ ap (run_on visit_limit program c.step.new.run) none

pub returns-in-Waits-clause-waits : goal.returns-in-Waits-clause-waits
returns-in-Waits-clause-waits c =
    let program = program_of c.args.typed.now in
    (subst (λ (turn : Turn). Turned visit_limit program c.step.new.run (run_on visit_limit program c.steps.run) c.steps.left c.step.new.left (Ok turn))
    c.in-Waits.is c.in-Ok.ensures.turned).0.going

pub returns-in-Waits-clause-fits : goal.returns-in-Waits-clause-fits
returns-in-Waits-clause-fits c = c.in-Ok.ensures.fits

pub returns-in-Ended-clause-goes : goal.returns-in-Ended-clause-goes
returns-in-Ended-clause-goes c known n =
    let program = program_of c.args.typed.now in
    c.steps.invariant.same n
    ∙ (subst (λ (turn : Turn). Turned visit_limit program c.step.new.run (run_on visit_limit program c.steps.run) c.steps.left c.step.new.left (Ok turn))
    c.in-Ended.is c.in-Ok.ensures.turned) n

pub steps-preserved : goal.steps-preserved
steps-preserved c = record {
  fits = c.in-Ok.ensures.fits;
  same = λ n. c.steps.invariant.same n
      ∙ (subst (λ (turn : Turn). Turned visit_limit (program_of c.args.typed.now) c.step.new.run (run_on visit_limit
      (program_of c.args.typed.now) c.steps.run)
      c.steps.left c.step.new.left (Ok turn)) c.in-GoesOn.is c.in-Ok.ensures.turned) n;
}

pub steps-smaller : goal.steps-smaller
steps-smaller c = subst (λ (turn : Turn). Falls (work c.steps.left (length c.steps.run.frames)) c.step.new.left c.step.new.run
    (Ok turn)) c.in-GoesOn.is c.in-Ok.ensures.falls
