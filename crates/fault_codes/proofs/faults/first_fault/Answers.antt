use Rattle.std.proofs.Common.{[], Some, take, ap, ◌∙◌, sym}
use Rattle.slang_tokens.specs.Tok.{toks}
use Rattle.slang_machine.specs.States.{top}
use Rattle.fault_codes.specs.Codes.{fault_left}
use Rattle.fault_codes.proofs.Numerals.{numeral_tokens}
use Rattle.fault_codes.proofs.Stopped.{stopped, front_is}
use Rattle.fault_codes.proofs.faults.first_fault.Goals as goal

pub returns : goal.returns
returns c = λ bytes are h.
    let tokens = c.args.tokens.now in
    let rest = c.args.rest.now in
    let stop = stopped (top []) [] (toks tokens) (toks rest) c.args.due (numeral_tokens bytes (toks tokens) c.args.end are) h in
    stop.stops c.args.end
    ∙ ap (λ front. Some (fault_left front (toks rest) c.args.end c.args.due)) (sym (ap (λ n. toks (take n tokens)) c.saturating_sub.ensures ∙ front_is tokens rest stop.front stop.splits))
    ∙ ap (λ f. Some f) (sym c.left.ensures)
