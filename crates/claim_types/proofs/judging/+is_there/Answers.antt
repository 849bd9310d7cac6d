use Rattle.std.proofs.Common.{map, sym, ap, ◌∙◌}
use Rattle.std.specs.Prelude.{nat_lt}
use Rattle.std.proofs.lemmas.List.{length-map}
use Rattle.slang_values.specs.Value.{is_known}
use Rattle.lk_claims.specs.Claim.{value_type}
use Rattle.lk_claims.proofs.Types.{value_type-Rec}
use Rattle.claim_types.specs.Views.{records_of}
use Rattle.claim_types.proofs.judging.+is_there.Goals as goal

pub returns-in-Rec : goal.returns-in-Rec
returns-in-Rec t c =
    sym (ap (is_known (records_of c.args.records.now)) (ap value_type c.in-Rec.is ∙ value_type-Rec c.in-Rec.number)
    ∙ ap (nat_lt c.in-Rec.number) (length-map c.args.records.now (map value_type)))
