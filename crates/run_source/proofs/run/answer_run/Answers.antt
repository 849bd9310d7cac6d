use Rattle.std.proofs.Common.{[]}
use Rattle.command_ends.proofs.EndLaws.{EndsBy-write, Answers-whole}
use Rattle.run_source.proofs.EndLaws.{AnswerIsDue-report, EndsBy-not_fit}
use Rattle.run_source.proofs.run.answer_run.Goals as goal

pub returns-in-Err : goal.returns-in-Err
returns-in-Err g c = λ folder. c.in-Err.ensures folder (g.O.Sink.state c.args.out.now)

pub returns-then-ran-eq-NO_FIT : goal.returns-then-ran-eq-NO_FIT
returns-then-ran-eq-NO_FIT g c = λ folder.
    EndsBy-not_fit _ _ _ _ _ c.in-Ok.ran.text.items c.in-Ok.ran.code (c.in-Ok.ensures folder) c.if-ran-eq-NO_FIT.true (g.O.Sink.state c.args.out.now)

pub returns-in-Err-write_pieces : goal.returns-in-Err-write_pieces
returns-in-Err-write_pieces g c = λ folder.
    rw c.from.ensures
    (EndsBy-write _ _ c.in-Ok.ran.text.items c.in-Ok.ran.code
    (AnswerIsDue-report _ _ _ _ _ c.in-Ok.ran.text.items c.in-Ok.ran.code (c.in-Ok.ensures folder) c.if-ran-eq-NO_FIT.false) [] _
    c.in-Err-write_pieces.end (rw c.deref.ensures.value at c.in-Err-write_pieces.ensures))

pub returns : goal.returns
returns g c = λ folder.
    Answers-whole _ _ c.in-Ok.ran.text.items c.in-Ok.ran.code
    (AnswerIsDue-report _ _ _ _ _ c.in-Ok.ran.text.items c.in-Ok.ran.code (c.in-Ok.ensures folder) c.if-ran-eq-NO_FIT.false) _
    (rw c.deref.ensures.value at c.in-Ok-write_pieces.ensures)
