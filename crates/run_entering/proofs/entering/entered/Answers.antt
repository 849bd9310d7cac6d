use Rattle.std.proofs.Common.{ap, ◌∙◌, sym, length, map}
use Rattle.slang_values.specs.Value.{default}
use Rattle.lk_claims.specs.Claim.{value_type}
use Rattle.lk_programs.specs.Program.{record_types}
use Rattle.run_values.specs.Value.{plain_value}
use Rattle.run_entering.proofs.Begun.{begins, locals_count, if_ok}
use Rattle.run_entering.proofs.entering.entered.Goals as goal

pub returns-in-Ok-clause-values : goal.returns-in-Ok-clause-values
returns-in-Ok-clause-values c =
    if_ok _ _ c.begun.result
    (λ env made method locals_are result_is.
    begins (record_types c.args.records.now) c.args.arguments c.args.locals.now c.args.globals.now env method
    (ap (map plain_value) made.locals ∙ c.in-Ok.ensures) made.globals made.entry
    (made.outcome_is ∙ ap (default (record_types c.args.records.now)) (sym result_is)) locals_are)
    c.begun.ensures

pub returns-in-Ok-clause-counts : goal.returns-in-Ok-clause-counts
returns-in-Ok-clause-counts c =
    if_ok _ _ c.begun.result
    (λ env made. record {
      locals = λ few. locals_count c.args.arguments env.locals (record_types c.args.records.now) c.args.locals.now few (ap (map plain_value) made.locals ∙ c.in-Ok.ensures);
      globals = ap length made.globals;
      entry = ap length made.entry;
    })
    c.begun.ensures
