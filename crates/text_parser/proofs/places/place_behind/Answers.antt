use Rattle.std.proofs.Common.{take, ap, ◌∙◌, sym, arith}
use Rattle.std.proofs.lemmas.List.{take_more, take_all}
use Rattle.slang_tokens.specs.Places.{place_behind}
use Rattle.text_parser.proofs.places.place_behind.Goals as goal

pub bytes-preserved : goal.bytes-preserved
bytes-preserved c =
    let bytes = c.args.bytes.now in
    let i = c.bytes.byte-index in
    c.in_ok-place.ensures (take i bytes) c.bytes.invariant ∙ ap place_behind (sym (take_more bytes i 0 (omega arith)))

pub returns : goal.returns
returns c = c.bytes.invariant ∙ ap place_behind (take_all c.bytes.byte-index c.args.bytes.now c.bytes-test.false)
