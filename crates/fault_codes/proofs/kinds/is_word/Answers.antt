use Rattle.std.proofs.Common.{◌∙◌, sym}
use Rattle.fault_codes.proofs.Fronts.{mark_is_no_word, other_is_word}
use Rattle.fault_codes.proofs.kinds.is_word.Goals as goal

pub returns-then-is_mark : goal.returns-then-is_mark
returns-then-is_mark c = mark_is_no_word c.args.kind (sym c.if-is_mark.true ∙ c.is_mark.ensures)

pub returns : goal.returns
returns c = other_is_word c.args.kind c.is_operator.result (sym c.if-is_mark.false ∙ c.is_mark.ensures) c.is_operator.ensures
