use Rattle.std.proofs.Common.{◌≡◌, ◌<◌, ◌∙◌, List, length, get_or, ap, arith}
use Rattle.lk_programs.specs.declared.program.Method.{Method}
use Rattle.run_steps.proofs.Methods.{method_there, methods_count, taken}
use Rattle.run_steps.proofs.calling.method_at.Goals as goal

pub bounds-methods-place : goal.bounds-methods-place
bounds-methods-place c =
    omega (arith, c.requires, methods_count c.args.typed.now, ap (λ (methods : List Method). length methods) c.as_slice-methods.ensures)

pub returns : goal.returns
returns c =
    let method = c.index-methods-place.result in
    let within : c.args.number < length c.args.typed.now.methods = omega (arith, c.requires, methods_count c.args.typed.now) in
    method_there c.args.typed.now c.args.number method
    (taken c.args.typed.now.methods c.args.number method within
    (c.index-methods-place.is ∙ ap (λ (methods : List Method). get_or methods c.args.number method) c.as_slice-methods.ensures))
