use Rattle.std.proofs.Common.{◌≡◌, ◌-◌, ◌<◌, ◌≤◌, ℕ, length, refl, ap, ◌∙◌, arith}
use Rattle.std.specs.Prelude.{slice_set}
use Rattle.expression_values.specs.declared.environment.Env.{Env}
use Rattle.run_variables.proofs.Assigned.{local_assigned, global_assigned, entry_assigned}
use Rattle.run_variables.proofs.assigning.assign.Goals as goal

pub returns-then-place-locals-clause-values : goal.returns-then-place-locals-clause-values
returns-then-place-locals-clause-values c =
    let old = c.args.env.now in
    let new : Env = record { locals = c.set.new.self; globals = old.globals; entry = old.entry; result = old.result } in
    let within : c.args.number < length old.locals = omega (arith, c.if-place-locals.true, c.len-locals.ensures) in
    local_assigned old new c.args.value c.args.number within c.set.ensures refl refl refl

pub returns-then-place-locals-2-clause-values : goal.returns-then-place-locals-2-clause-values
returns-then-place-locals-2-clause-values c =
    let old = c.args.env.now in
    let n = c.args.number in
    let new : Env = record { locals = old.locals; globals = c.set-then-place-locals-2.new.self; entry = old.entry; result = old.result } in
    let behind : length old.locals ≤ n = omega (arith, c.if-place-locals.false, c.len-locals.ensures) in
    let within : n - length old.locals < length old.globals = omega (arith, c.if-place-locals-2.true, c.len-locals.ensures, c.len-globals.ensures) in
    global_assigned old new c.args.value n behind within refl
    (c.set-then-place-locals-2.ensures ∙ ap (λ (k : ℕ). slice_set old.globals (n - k) c.args.value) c.len-locals.ensures) refl refl

pub returns-then-place-locals-3-clause-values : goal.returns-then-place-locals-3-clause-values
returns-then-place-locals-3-clause-values c =
    let old = c.args.env.now in
    let n = c.args.number in
    let new : Env = record { locals = old.locals; globals = old.globals; entry = c.set-then-place-locals-3.new.self; result = old.result } in
    let behind : length old.locals ≤ n = omega (arith, c.if-place-locals.false, c.len-locals.ensures) in
    let past : length old.globals ≤ n - length old.locals = omega (arith, c.if-place-locals-2.false, c.len-locals.ensures, c.len-globals.ensures) in
    let within : n - length old.locals - length old.globals < length old.globals = omega (arith, c.if-place-locals-3.true, c.len-locals.ensures, c.len-globals.ensures) in
    entry_assigned old new c.args.value n behind past within c.requires.entries refl refl
    (c.set-then-place-locals-3.ensures
    ∙ ap (λ (k : ℕ). slice_set old.entry (n - k - c.len-globals.result) c.args.value) c.len-locals.ensures
    ∙ ap (λ (k : ℕ). slice_set old.entry (n - length old.locals - k) c.args.value) c.len-globals.ensures) refl
