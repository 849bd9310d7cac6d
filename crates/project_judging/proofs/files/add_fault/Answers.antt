use Rattle.std.proofs.Common.{◌++◌, ◌∙◌, ap, append-nil, sym}
use Rattle.project_judging.specs.Ordered.{fault_in}
use Rattle.project_judging.proofs.files.add_fault.Goals as goal

pub returns-in-None : goal.returns-in-None
returns-in-None c =
    let faults = c.args.faults.now in
    sym (append-nil faults) ∙ ap (λ found. faults ++ fault_in c.args.name.now found) (sym c.in-None.is)
