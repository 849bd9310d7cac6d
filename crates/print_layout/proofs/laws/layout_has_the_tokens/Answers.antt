use Rattle.print_layout.proofs.Declarations.{layout_has_the_tokens}
use Rattle.print_layout.proofs.laws.layout_has_the_tokens.Goals as goal

pub returns : goal.returns
returns c = layout_has_the_tokens
