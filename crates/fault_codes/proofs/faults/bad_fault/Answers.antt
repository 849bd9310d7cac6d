use Rattle.std.proofs.Common.{[], Some, ap, ◌∙◌, sym}
use Rattle.slang_tokens.specs.Tok.{toks}
use Rattle.slang_machine.specs.States.{top}
use Rattle.fault_codes.proofs.Stopped.{bad_end}
use Rattle.fault_codes.proofs.faults.bad_fault.Goals as goal

pub returns : goal.returns
returns c = λ file h. bad_end (top []) [] (toks c.args.tokens.now) file c.args.bad h ∙ ap (λ f. Some f) (sym c.told_bad.ensures)
