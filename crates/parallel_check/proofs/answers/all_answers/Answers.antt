use Rattle.std.proofs.Common.{arith, subst, sym, ◌<◌, length}
use Rattle.parallel_check.specs.Answers.{IsAnswerAt, key_at}
use Rattle.parallel_check.proofs.Found.{all_told, no_leg, one_more}
use Rattle.parallel_check.proofs.answers.all_answers.Goals as goal

pub loop-place-init : goal.loop-place-init
loop-place-init c = λ legs are. c.new-answers.ensures

pub loop-place-preserved : goal.loop-place-preserved
loop-place-preserved c = λ legs are.
    let keys = c.args.keys.now in
    let inside : c.loop-place.place < length keys = omega (arith, c.loop-place-test.true) in
    let found : IsAnswerAt (key_at keys c.loop-place.place) c.found_at.result =
    subst (IsAnswerAt (key_at keys c.loop-place.place)) (sym c.found_at.ensures) (c.requires c.loop-place.place inside) in
    one_more keys legs are c.loop-place.place no_leg c.in-Some.answer c.loop-place.answers c.push.new.self inside
    (subst (IsAnswerAt (key_at keys c.loop-place.place)) c.in-Some.is found) (c.loop-place.invariant legs are) c.in-Ok.ensures.ok

pub returns : goal.returns
returns c = λ legs are.
    all_told c.args.keys.now legs are c.loop-place.place c.loop-place.answers (omega (arith, c.loop-place-test.false)) (c.loop-place.invariant legs are)
