use Rattle.std.proofs.Common.{false, subst}
use Rattle.std.proofs.lemmas.Result.{on_ok_weaker}
use Rattle.text_types.specs.Found.{seen}
use Rattle.type_rules.specs.Meanings.{with_local}
use Rattle.name_scopes.specs.Fits.{Fits}
use Rattle.statement_judging.proofs.Scopes.{keeps_local}
use Rattle.header_judging.proofs.parameters.declare_param.Goals as goal

pub returns-clause-fits : goal.returns-clause-fits
returns-clause-fits c =
    on_ok_weaker c.declare.result (λ h at fits. subst (λ n. Fits c.declare.new.self (with_local at n false (seen c.args.found).type)) c.as_str.ensures (h at fits)) c.declare.ensures.fits

pub returns-clause-kept : goal.returns-clause-kept
returns-clause-kept c = on_ok_weaker c.declare.result (keeps_local c.args.scope.now c.declare.new.self) c.declare.ensures.behind
