-- The ends of the command `run`.
use Rattle.std.proofs.Common.{◌≡◌, ◌≢◌, ℕ, List, [], refl, subst}
use Rattle.lk_io.specs.Run.{run}
use Rattle.lk_io.specs.Source.{SourceRun}
use Rattle.lk_io.specs.Folder.{FolderState}
use Rattle.lk_io.specs.Sink.{SinkState}
use Rattle.lk_io.proofs.SinkLaws.{Appends-none, IsQuiet-none}
use Rattle.text_reading.specs.Inputs.{Input, Inputs, of_source}
use Rattle.text_reading.specs.Reading.{ReadsWhole, ReadEnds}
use Rattle.text_reading.specs.Ends.{source_end}
use Rattle.text_reading.specs.declared.limits.Limits.{Limits}
use Rattle.text_reading.specs.declared.reading.ReadEnd.{ReadEnd}
use Rattle.text_reading.specs.declared.reading.ReadEnd.TheVariants.{ReadFault, TooLarge, NoMemory as unread}
use Rattle.text_reading.proofs.TextLaws.{told_files}
use Rattle.command_ends.specs.Status.{AnswerIsDue, EndsBy, as_due}
use Rattle.command_ends.specs.Refusals.{arguments_refusal}
use Rattle.command_ends.specs.Stop.{stop_of_read, StopsUnwritten}
use Rattle.command_ends.specs.declared.stop.Stop.TheVariants.{NoMemory}
use Rattle.command_ends.proofs.EndLaws.{EndsBy-refusal, EndsBy-no_memory}
use Rattle.run_command.specs.Runs.{IsRunReport}
use Rattle.run_source.specs.Run.{IsDueOfRun, run_command, source_texts, IsReportDue}

module _ (limits : Limits) (method : List ℕ) (turns : ℕ) (arguments : List (List ℕ)) where
  module _ (source : SourceRun) (folder : FolderState) where
    abbrev inputs : Inputs
    inputs = record { source = source; folder = run folder folder }

    -- The source was read, and the run over it was made.
    pub IsReportDue-read : (bytes text : List ℕ) (code : ℕ) → ReadsWhole limits source bytes
        → IsRunReport (source_texts bytes) method turns arguments text code → IsReportDue limits method turns arguments inputs text code
    IsReportDue-read bytes text code read report =
        let files = told_files folder.files in
        record {
          input = record { source = bytes; files = files.0 };
          told = record { source = read.told; files = files.1 };
          within = read.within;
          report = report;
          no_fault = record { source = read.no_fault; folder = refl };
        }

    -- Memory ran out behind the text.
    pub StopsUnwritten-no_memory : (bytes : List ℕ) → ReadsWhole limits source bytes
        → StopsUnwritten [] (run_command limits method turns arguments) inputs NoMemory
    StopsUnwritten-no_memory bytes read out =
        EndsBy-no_memory (IsDueOfRun limits method turns arguments) inputs
        (record { front = bytes; taken = read.taken; no_fault = record { source = read.no_fault; folder = refl } }) out

    -- The source was not read.
    pub StopsUnwritten-source : (end : ReadEnd) → ReadEnds limits source end
        → StopsUnwritten [] (run_command limits method turns arguments) inputs (stop_of_read (source_end end))
    StopsUnwritten-source ReadFault is out = record {
      front = is.front;
      taken = is.taken;
      text = [];
      earlier = refl;
      fault = of_source is.fault refl;
      given = Appends-none out;
      quiet = IsQuiet-none out;
    }
    StopsUnwritten-source (TooLarge line) is out =
        let files = told_files folder.files in
        let input : Input = record { source = is.text; files = files.0 } in
        EndsBy-refusal (IsDueOfRun limits method turns arguments) inputs {input = input} (record { source = is.told; files = files.1 })
        (IsDueOfRun.passes is.passes) (record { source = is.no_fault; folder = refl }) out
    StopsUnwritten-source unread is out =
        EndsBy-no_memory (IsDueOfRun limits method turns arguments) inputs
        (record { front = is.front; taken = is.taken; no_fault = record { source = is.no_fault; folder = refl } }) out

  module _ (inputs : Inputs) (text : List ℕ) (code : ℕ) (is : IsReportDue limits method turns arguments inputs text code) where
    -- The line of the run is due.
    pub AnswerIsDue-report : code ≢ 11 → AnswerIsDue (run_command limits method turns arguments) inputs text code
    AnswerIsDue-report other = record {
      is_due = record { input = is.input; told = is.told; is_due = IsDueOfRun.ran is.within is.report other };
      read = is.no_fault;
    }

    -- The arguments do not fit.
    pub EndsBy-not_fit : code ≡ 11 → (out : SinkState) → EndsBy (run_command limits method turns arguments) inputs (run out out) (as_due arguments_refusal)
    EndsBy-not_fit same out =
        EndsBy-refusal (IsDueOfRun limits method turns arguments) inputs {input = is.input} is.told
        (IsDueOfRun.does_not_fit is.within
        (subst (λ n. IsRunReport (source_texts is.input.source) method turns arguments text n) same is.report)) is.no_fault out
