use Rattle.slang_values.proofs.Records.{holds_not_itself, default-record}
use Rattle.slang_values.proofs.Typed.{HasType-default}
use Rattle.slang_values.proofs.laws.records.Goals as goal

pub returns : goal.returns
returns c = λ records fine. record {
  holds_not_itself = holds_not_itself records fine;
  default-record = default-record records fine;
  default_has_type = HasType-default records fine;
}
