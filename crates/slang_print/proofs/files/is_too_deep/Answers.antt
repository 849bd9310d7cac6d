use Rattle.slang_print.proofs.Deep.{tells}
use Rattle.slang_print.proofs.files.is_too_deep.Goals as goal

pub returns : goal.returns
returns c = tells c.args.text.now _ _ c.ends_deep.result c.utf8.text c.in_ok-tokens.ensures.found c.ends_deep.ensures
