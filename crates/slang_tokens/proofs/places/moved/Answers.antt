use Rattle.std.proofs.Common.{◌++◌, take, ap, ◌∙◌, sym, append_assoc, arith}
use Rattle.std.proofs.lemmas.List.{take_more, take_all}
use Rattle.slang_tokens.specs.Places.{place_behind}
use Rattle.slang_tokens.proofs.places.moved.Goals as goal

pub loop-byte-preserved : goal.loop-byte-preserved
loop-byte-preserved c = λ before h.
    let bytes = c.args.bytes.now in
    let i = c.loop-byte.byte-index in
    c.in_ok-here.ensures.behind (before ++ take i bytes) (c.loop-byte.invariant before h)
    ∙ ap place_behind (append_assoc before (take i bytes) _ ∙ ap (λ x. before ++ x) (sym (take_more bytes i 0 (omega arith))))

pub returns : goal.returns
returns c = λ before h.
    c.loop-byte.invariant before h
    ∙ ap (λ x. place_behind (before ++ x)) (take_all c.loop-byte.byte-index c.args.bytes.now c.loop-byte-test.false)
