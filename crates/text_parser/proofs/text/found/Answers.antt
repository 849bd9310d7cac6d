use Rattle.std.proofs.Common.{sym, subst}
use Rattle.std.specs.Str.{IsValidUpTo}
use Rattle.text_parser.proofs.Whole.{weaker, bad_bytes}
use Rattle.text_parser.proofs.text.found.Goals as goal

pub returns-in-Err-clause-fault : goal.returns-in-Err-clause-fault
returns-in-Err-clause-fault c =
    let bytes = c.args.bytes.now in
    weaker c.not_utf8.result _ _ (λ fault e.
    bad_bytes bytes c.valid_up_to.result fault (subst (IsValidUpTo bytes) (sym c.valid_up_to.ensures) c.in-Err.ensures.cases.1) e) c.not_utf8.ensures
