use Rattle.print_tokens.proofs.Whole.{printed_bytes_read_back}
use Rattle.print_tokens.proofs.laws.printed_bytes_read_back.Goals as goal

pub returns : goal.returns
returns c = printed_bytes_read_back
