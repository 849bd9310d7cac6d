use Rattle.std.proofs.Common.{refl, sym, ap, arith}
use Rattle.key_rules.specs.Codes.{type_code, type_heads}
use Rattle.claim_reader.proofs.Coded.{coded_none}
use Rattle.claim_reader.specs.Heads.{type_head_coded}
use Rattle.claim_reader.proofs.codes.type_head.Goals as goal

pub returns-in-0 : goal.returns-in-0
unfolding type_head_coded
returns-in-0 c = ap type_head_coded (sym c.in-0.is)

pub returns-in-1 : goal.returns-in-1
unfolding type_head_coded
returns-in-1 c = ap type_head_coded (sym c.in-1.is)

pub returns-in-2 : goal.returns-in-2
unfolding type_head_coded
returns-in-2 c = ap type_head_coded (sym c.in-2.is)

pub returns-in-3 : goal.returns-in-3
unfolding type_head_coded
returns-in-3 c = ap type_head_coded (sym c.in-3.is)

pub returns-in_default : goal.returns-in_default
unfolding type_head_coded
returns-in_default c = sym (coded_none type_code 3 type_heads c.args.byte refl (omega arith))
