use Rattle.std.proofs.Common.{refl, sym, ap, arith}
use Rattle.key_rules.specs.Codes.{flag_code, flags}
use Rattle.claim_reader.proofs.Coded.{coded_none}
use Rattle.key_reader.specs.Heads.{flag_coded}
use Rattle.key_reader.proofs.codes.flag.Goals as goal

pub returns-in-0 : goal.returns-in-0
returns-in-0 c = ap flag_coded (sym c.in-0.is)

pub returns-in-1 : goal.returns-in-1
returns-in-1 c = ap flag_coded (sym c.in-1.is)

pub returns-in_default : goal.returns-in_default
returns-in_default c = sym (coded_none flag_code 1 flags c.args.byte refl (omega arith))
