use Rattle.std.proofs.Common.{arith, ◌<◌, ap, length, map, ◌∙◌}
use Rattle.leg_orders.specs.Places.{program_of}
use Rattle.verdict_laws.specs.Rules.{unclosed, unaccepted}
use Rattle.program_answers.specs.Lines.{plain_line}
use Rattle.program_answers.proofs.Methods.{all_lines, methods_counted, next_line}
use Rattle.parallel_check.proofs.Verdicts.{begins, enough, left_behind}
use Rattle.parallel_check.proofs.lines.add_lines.Goals as goal

pub loop-number-init : goal.loop-number-init
loop-number-init c = record { lines = ap (map plain_line) c.requires.nothing; left = c.requires.answers }

pub add_line-requires : goal.add_line-requires
add_line-requires c =
    let typed = c.args.typed.now in
    let within : c.loop-number.number < length typed.methods = omega (arith, c.loop-number-test.true, c.len-number-end.ensures) in
    let inside : c.loop-number.number < length (program_of typed).methods = omega (arith, within, methods_counted typed) in
    record { method = within; answers = begins (program_of typed) c.loop-number.number c.loop-number.left.now inside c.loop-number.invariant.left }

pub loop-number-preserved : goal.loop-number-preserved
loop-number-preserved c =
    let typed = c.args.typed.now in
    let within : c.loop-number.number < length typed.methods = omega (arith, c.loop-number-test.true, c.len-number-end.ensures) in
    let inside : c.loop-number.number < length (program_of typed).methods = omega (arith, within, methods_counted typed) in
    record {
      lines = next_line unclosed unaccepted typed c.loop-number.number (map plain_line c.loop-number.lines) (map plain_line c.add_line.new.lines) within
          c.loop-number.invariant.lines c.in-Ok.ensures.lines;
      left = c.behind-left.ensures ∙ left_behind (program_of typed) c.loop-number.number c.in-Ok.used c.loop-number.left.now inside
          c.loop-number.invariant.left c.in-Ok.ensures.used;
    }

pub behind-left-requires : goal.behind-left-requires
behind-left-requires c =
    let typed = c.args.typed.now in
    let within : c.loop-number.number < length typed.methods = omega (arith, c.loop-number-test.true, c.len-number-end.ensures) in
    let inside : c.loop-number.number < length (program_of typed).methods = omega (arith, within, methods_counted typed) in
    enough (program_of typed) c.loop-number.number c.in-Ok.used c.loop-number.left.now inside c.loop-number.invariant.left c.in-Ok.ensures.used

pub returns : goal.returns
returns c =
    all_lines unclosed unaccepted c.args.typed.now c.loop-number.number (map plain_line c.loop-number.lines)
    (omega (arith, c.loop-number-test.false, c.len-number-end.ensures)) c.loop-number.invariant.lines
