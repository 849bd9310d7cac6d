use Rattle.std.proofs.Common.{sym, ◌∙◌}
use Rattle.std.proofs.lemmas.Bool.{false≢true}
use Rattle.logika_cli.proofs.WordsLaws.{HasStatus-check, HasStatus-refused, no_run_of_check, AreRefused-others}
use Rattle.logika_cli.proofs.top.logika_main.Goals as goal

pub returns-in-Some-clause-status : goal.returns-in-Some-clause-status
returns-in-Some-clause-status g c = HasStatus-check _ _ c.in-Some.ensures c.check_once.ensures.status

pub returns-in-Some-clause-runs : goal.returns-in-Some-clause-runs
returns-in-Some-clause-runs g c = λ asked is. absurd (no_run_of_check c.in-Some.ensures is)

pub returns-then-begin_run-clause-runs : goal.returns-then-begin_run-clause-runs
returns-then-begin_run-clause-runs g c = c.run_or_refuse.ensures.runs (g.F.Folder.state c.args.folder.now)

pub returns-else-begin_run-clause-status : goal.returns-else-begin_run-clause-status
returns-else-begin_run-clause-status g c =
    HasStatus-refused _ _ (AreRefused-others c.in-None.ensures (λ is. false≢true (sym c.if-begin_run.false ∙ c.begin_run.ensures.1 is)))
    c.conclude.ensures.code c.conclude.ensures.line

pub returns-else-begin_run-clause-refused : goal.returns-else-begin_run-clause-refused
returns-else-begin_run-clause-refused g c =
    λ _. AreRefused-others c.in-None.ensures (λ is. false≢true (sym c.if-begin_run.false ∙ c.begin_run.ensures.1 is))

pub returns-else-begin_run-clause-runs : goal.returns-else-begin_run-clause-runs
returns-else-begin_run-clause-runs g c = λ asked is.
    absurd ((AreRefused-others c.in-None.ensures (λ b. false≢true (sym c.if-begin_run.false ∙ c.begin_run.ensures.1 b))).no_run asked is)
