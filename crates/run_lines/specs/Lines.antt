-- What is told of a run.
use Rattle.std.specs.Prelude.{ℕ, List, [], get_or, map}
use Rattle.lk_programs.specs.declared.typed.Typed.{Typed}
use Rattle.lk_programs.specs.declared.program.NodePlace.{NodePlace as Kept}
use Rattle.run_rules.specs.Runs.{ended, going, fails}
use Rattle.stopped_runs.specs.Runs.{Stopped, reached, wide, out_of_visits}
use Rattle.run_texts.specs.Texts.{Names, NodePlace}

abbrev pub place_seen : Kept → NodePlace
place_seen node = record { file = node.file; place = node.place }

-- what the numbers of the program stand for
abbrev pub names_in : Typed → Names
names_in typed = record {
  files = typed.files;
  records = map (λ named. named.name) typed.records;
  nodes = map place_seen typed.nodes;
}

abbrev pub file_in : Typed → ℕ → List ℕ
file_in typed file = get_or typed.files file []

-- The code of the command: 0 where the run has ended, 1 where it fails, and 9 where it goes on or was stopped.
abbrev pub run_code : Stopped → ℕ
run_code (reached (ended values)) = 0
run_code (reached (going stack values)) = 9
run_code (reached (fails kind node)) = 1
run_code (wide node) = 9
run_code (out_of_visits node) = 9
