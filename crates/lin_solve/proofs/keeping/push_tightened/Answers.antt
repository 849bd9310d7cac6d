use Rattle.std.proofs.lemmas.Result.{IfOk-weaker}
use Rattle.lin_solve.proofs.LineLemmas.{has_one_line, has_two_lines}
use Rattle.lin_solve.proofs.keeping.push_tightened.Goals as goal

pub returns-in-Same-clause-lines : goal.returns-in-Same-clause-lines
returns-in-Same-clause-lines c =
    has_one_line c.args.lines.now.items c.push.new.lines.items c.args.step c.args.row c.in_ok-number.number c.requires.lines_within c.requires.within c.in_ok-number.ensures.ok c.args.new c.requires.tightened c.in-Same.is

pub returns-in-By-clause-lines : goal.returns-in-By-clause-lines
returns-in-By-clause-lines c =
    IfOk-weaker c.push-in-By.result _ _
    (λ k p. has_two_lines c.args.lines.now.items c.push.new.lines.items c.push-in-By.new.lines.items c.args.step c.args.row c.in-By.tight c.in-By.by c.in_ok-number.number k c.requires.lines_within c.requires.within c.in_ok-number.ensures.ok p c.args.new c.requires.tightened c.in-By.is)
    c.push-in-By.ensures.ok
