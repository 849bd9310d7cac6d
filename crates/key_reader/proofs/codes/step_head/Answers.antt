use Rattle.std.proofs.Common.{refl, sym, ap, arith}
use Rattle.key_rules.specs.Codes.{step_code, step_heads}
use Rattle.claim_reader.proofs.Coded.{coded_none}
use Rattle.key_reader.specs.Heads.{step_head_coded}
use Rattle.key_reader.proofs.codes.step_head.Goals as goal

pub returns-in-0 : goal.returns-in-0
returns-in-0 c = ap step_head_coded (sym c.in-0.is)

pub returns-in-1 : goal.returns-in-1
returns-in-1 c = ap step_head_coded (sym c.in-1.is)

pub returns-in_default : goal.returns-in_default
returns-in_default c = sym (coded_none step_code 1 step_heads c.args.byte refl (omega arith))
