-- What the line of a run tells.
use Rattle.std.specs.Prelude.{◌≡◌, ℕ, List, ◌++◌, codes}
use Rattle.program_trees.specs.declared.answer.Kind.{Kind}
use Rattle.run_rules.specs.Runs.{fails}
use Rattle.stopped_runs.specs.Runs.{Stopped, reached}
use Rattle.run_texts.specs.Texts.{Names, run_text}

-- the run has failed
pub record HasFailed (run : Stopped) : Type 0 where
  pub kind : Kind
  pub node : ℕ
  pub failed : run ≡ reached (fails kind node)

-- Only the line of a run that has failed begins with this word.
abbrev pub FailuresAreTold : Type 0
FailuresAreTold = (names : Names) (run : Stopped) (rest : List ℕ) → run_text names run ≡ codes "fails " ++ rest → HasFailed run
