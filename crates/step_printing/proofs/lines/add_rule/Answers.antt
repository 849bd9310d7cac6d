use Rattle.std.proofs.lemmas.Result.{on_ok_weaker}
use Rattle.step_printing.proofs.Forms.{rule_added}
use Rattle.step_printing.proofs.lines.add_rule.Goals as goal

pub returns : goal.returns
returns c = on_ok_weaker c.add_name.result (λ h. rule_added c.args.rule.now h) c.add_name.ensures
