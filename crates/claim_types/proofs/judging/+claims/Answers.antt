use Rattle.std.proofs.Common.{◌≡◌, length, sym, arith}
use Rattle.claim_types.specs.Views.{records_of, scope_names}
use Rattle.claim_types.proofs.Parts.{other_lengths}
use Rattle.claim_types.proofs.judging.+claims.Goals as goal

pub have_types-returns-then-parts-types : goal.have_types-returns-then-parts-types
have_types-returns-then-parts-types t c =
    let no : length c.args.parts.now ≡ length c.args.types.now → ⊥ = (λ e. omega (arith, e)) in
    sym (other_lengths (records_of c.args.records.now) (scope_names c.args.scope) c.args.parts.now c.args.types.now no)
