-- A command whose dues are those of another, and one that is refused before anything is read.
use Rattle.std.proofs.Common.{◌≡◌, ℕ, List, Some, refl, inl, inr}
use Rattle.lk_io.specs.Source.{SourceState}
use Rattle.lk_io.specs.Folder.{FolderState}
use Rattle.lk_io.specs.Sink.{SinkState, SinkRun}
use Rattle.lk_io.specs.Run.{run}
use Rattle.lk_io.proofs.SourceLaws.{Consumes-none, Tells-front}
use Rattle.lk_io.proofs.SinkLaws.{Appends-none, IsQuiet-none}
use Rattle.text_reading.specs.Inputs.{Input, Inputs}
use Rattle.text_reading.proofs.TextLaws.{told_files}
use Rattle.command_ends.specs.Journal.{GetsLine}
use Rattle.command_ends.specs.Status.{Due, single, IsDueOf, End, as_due, read_fault, write_fault, no_memory, refusal, EndsBy, HasStatus}

-- Where what is due of one is due of the other, a status of one is a status of the other.
pub HasStatus-into : {one other : Input → Due → Type 0} → ((input : Input) (due : Due) → one input due → other input due)
    → {inputs : Inputs} {out journal : SinkRun} {code : ℕ}
    → HasStatus (single one) inputs out journal code → HasStatus (single other) inputs out journal code
HasStatus-into {one} {other} into {inputs} {out} {journal} {code} status =
    record { end = status.end; ends = ends status.end status.ends; code_is = status.code_is; line = status.line }
  where
    due : (d : Due) → IsDueOf (single one) inputs d → IsDueOf (single other) inputs d
    due d is = record { input = is.input; told = is.told; is_due = into is.input d is.is_due }

    ends : (end : End) → EndsBy (single one) inputs out end → EndsBy (single other) inputs out end
    ends (as_due d) e = record { is_due = due d e.is_due; read = e.read; given = e.given; handed = e.handed; quiet = e.quiet }
    ends read_fault e =
        record { front = e.front; taken = e.taken; text = e.text; earlier = e.earlier; fault = e.fault; given = e.given; quiet = e.quiet }
    ends write_fault e = record { due = e.due; is_due = due e.due e.is_due; writes = e.writes; read = e.read; given = e.given; fault = e.fault }
    ends no_memory e = record {
      read = e.read;
      cause = elim e.cause [
        | inl own ↦ inl (record { front = own.front; taken = own.taken; text = own.text; earlier = own.earlier; given = own.given; quiet = own.quiet })
        | inr text ↦ inr (record { due = text.due; is_due = due text.due text.is_due; writes = text.writes; given = text.given; refusal = text.refusal })
      ];
    }

-- Where a refusal is due of every input, nothing was read and nothing was given.
pub HasStatus-unread : {due : Input → Due → Type 0} (number : ℕ) (text : List ℕ) → ((input : Input) → due input (refusal number text))
    → {source : SourceState} {folder : FolderState} {out : SinkState} {journal : SinkRun} {code : ℕ} → code ≡ number → GetsLine journal (Some text)
    → HasStatus (single due) (record { source = run source source; folder = run folder folder }) (run out out) journal code
HasStatus-unread {due} number text always {source} {folder} {out} {journal} {code} code_is line =
    let input = Tells-front (Consumes-none source) in
    let files = told_files folder.files in
    record {
      end = as_due (refusal number text);
      ends = record {
        is_due = record {
          input = record { source = input.0; files = files.0 };
          told = record { source = input.1; files = files.1 };
          is_due = always (record { source = input.0; files = files.0 });
        };
        read = record { source = refl; folder = refl };
        given = Appends-none out;
        handed = λ answers. cc;
        quiet = IsQuiet-none out;
      };
      code_is = code_is;
      line = line;
    }
