use Rattle.std.proofs.Common.{refl}
use Rattle.verdict_laws.specs.Rules.{unclosed, unaccepted}
use Rattle.program_answers.proofs.Methods.{line_told, named}
use Rattle.parallel_check.proofs.lines.line_of.Goals as goal

pub returns-in-Ok : goal.returns-in-Ok
returns-in-Ok c =
    let typed = c.args.typed.now in
    let own = c.index-as_slice-number in
    line_told unclosed unaccepted typed c.args.number c.copy.result (record { method = c.in-Ok.method; verdict = c.args.verdict }) c.args.verdict
    own.result.name
    (named typed c.args.number c.as_slice.result.now own.result c.as_slice.ensures c.requires.method own.is) c.copy.ensures c.in-Ok.is refl c.requires.verdict
