-- How a command comes to its status.
use Rattle.std.proofs.Common.{◌≡◌, ◌≤◌, ◌↔◌, ℕ, List, Bool, true, Result, Ok, Err, MatchResult, IfOk, None, refl, sym, ◌∙◌, arith}
use Rattle.lk_io.specs.Sink.{SinkRun}
use Rattle.text_reading.specs.Inputs.{Inputs}
use Rattle.command_ends.specs.Journal.{GetsLine}
use Rattle.command_ends.specs.Status.{Command, as_due, answer, code_of, line_of, HasStatus}
use Rattle.command_ends.specs.Stop.{AnswersOrStops, end_of, is_no_file, stops_without_file}
use Rattle.command_ends.specs.declared.stop.Stop.{Stop}
use Rattle.command_ends.specs.declared.stop.Stop.TheVariants.{WordsRefused, ReadFault, WriteFault, NoMemory, TooLarge, NoFile, DoNotFit}

-- The status of an answer or of what stopped it.
pub HasStatus-concluded : {command : Command} {inputs : Inputs} {out journal : SinkRun} (files : List (List ℕ)) (result : Result ℕ Stop) (code : ℕ)
    → AnswersOrStops files command inputs out result
    → MatchResult result (λ c. code ≡ c) (λ stop. code ≡ code_of (end_of files stop))
    → MatchResult result (λ _. GetsLine journal None) (λ stop. GetsLine journal (line_of (end_of files stop)))
    → HasStatus command inputs out journal code
HasStatus-concluded files (Ok c) code answers code_is line =
    record { end = as_due (answer answers.text c); ends = answers.ends; code_is = code_is; line = line }
HasStatus-concluded files (Err stop) code stops code_is line = record { end = end_of files stop; ends = stops; code_is = code_is; line = line }

-- The code is 10 exactly where there was no file.
stopped : (files : List (List ℕ)) (stop : Stop) → (code_of (end_of files stop) ≡ 10) ↔ (is_no_file stop ≡ true)
stopped files WordsRefused = (λ e. absurd (omega arith), λ e. cc)
stopped files ReadFault = (λ e. absurd (omega arith), λ e. cc)
stopped files WriteFault = (λ e. absurd (omega arith), λ e. cc)
stopped files NoMemory = (λ e. absurd (omega arith), λ e. cc)
stopped files (TooLarge at line) = (λ e. absurd (omega arith), λ e. cc)
stopped files (NoFile at) = (λ e. refl, λ e. refl)
stopped files DoNotFit = (λ e. absurd (omega arith), λ e. cc)

pub missed-concluded : (files : List (List ℕ)) (result : Result ℕ Stop) (code : ℕ) (missed : Bool)
    → MatchResult result (λ c. code ≡ c) (λ stop. code ≡ code_of (end_of files stop)) → IfOk result (λ c. c ≤ 2)
    → missed ≡ stops_without_file result → (code ≡ 10) ↔ (missed ≡ true)
missed-concluded files (Ok c) code missed code_is small is = (λ e. absurd (omega arith), λ e. cc)
missed-concluded files (Err stop) code missed code_is small is =
    let same = stopped files stop in
    (λ e. is ∙ same.0 (sym code_is ∙ e), λ e. code_is ∙ same.1 (sym is ∙ e))
