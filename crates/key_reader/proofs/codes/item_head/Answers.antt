use Rattle.std.proofs.Common.{refl, sym, ap, arith}
use Rattle.key_rules.specs.Codes.{item_code, item_heads}
use Rattle.claim_reader.proofs.Coded.{coded_none}
use Rattle.key_reader.specs.Heads.{item_head_coded}
use Rattle.key_reader.proofs.codes.item_head.Goals as goal

pub returns-in-0 : goal.returns-in-0
returns-in-0 c = ap item_head_coded (sym c.in-0.is)

pub returns-in-1 : goal.returns-in-1
returns-in-1 c = ap item_head_coded (sym c.in-1.is)

pub returns-in-2 : goal.returns-in-2
returns-in-2 c = ap item_head_coded (sym c.in-2.is)

pub returns-in-3 : goal.returns-in-3
returns-in-3 c = ap item_head_coded (sym c.in-3.is)

pub returns-in-4 : goal.returns-in-4
returns-in-4 c = ap item_head_coded (sym c.in-4.is)

pub returns-in_default : goal.returns-in_default
returns-in_default c = sym (coded_none item_code 4 item_heads c.args.byte refl (omega arith))
