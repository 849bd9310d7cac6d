use Rattle.global_judging.proofs.globals.judged_global.Goals as goal

pub returns : goal.returns
returns c = λ at fits.
    let declared = c.in_ok-declared_constant.ensures at fits in
    declared.told
