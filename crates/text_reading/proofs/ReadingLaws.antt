-- The loop that reads a source.
use Rattle.std.proofs.Common.{◌≡◌, ℕ, List, [], ◌++◌, take, Ok, Err, refl, ◌∙◌, append-nil}
use Rattle.lk_io.specs.Run.{run}
use Rattle.lk_io.specs.Source.{SourceState, SourceRun, Consumes, Takes}
use Rattle.lk_io.proofs.SourceLaws.{Consumes-none, Consumes-then, Consumes-then_kept, Tells-front, Tells-whole}
use Rattle.text_reading.specs.Limits.{IsWithin, PassesIn}
use Rattle.text_reading.specs.Reading.{HasNoFault, ReadsWhole, ReadsPast, ReadsToFault, ReadsFront}
use Rattle.text_reading.specs.declared.limits.Limits.{Limits}
use Rattle.text_reading.proofs.LimitLaws.{PassesIn-append}

-- This front of the text was read, without a fault.
pub record HasRead (source : SourceRun) (text : List ℕ) : Type 0 where
  pub taken : Consumes source text
  pub no_fault : HasNoFault source

pub HasRead-none : (a : SourceState) → HasRead (run a a) []
HasRead-none a = record { taken = Consumes-none a; no_fault = refl }

pub HasRead-more : {E : Type 0} {a b c : SourceState} {text buffer : List ℕ} {n : ℕ}
    → HasRead (run a b) text → Takes {E = E} (run b c) buffer (Ok n) → HasRead (run a c) (text ++ take n buffer)
HasRead-more so_far took = record { taken = Consumes-then so_far.taken took.moves; no_fault = took.cause ∙ so_far.no_fault }

pub HasRead-front : {s : SourceRun} {text : List ℕ} → HasRead s text → ReadsFront s
HasRead-front {s} {text} so_far = record { front = text; taken = so_far.taken; no_fault = so_far.no_fault }

pub HasRead-past : {a b : SourceState} {limits : Limits} {text : List ℕ} {line : ℕ}
    → HasRead (run a b) text → PassesIn limits text line → ReadsPast limits (run a b) line
HasRead-past {a} {b} {limits} {text} {line} so_far passes =
    let told = Tells-front so_far.taken in
    record { text = text ++ told.0; told = told.1; passes = PassesIn-append limits text told.0 line passes; no_fault = so_far.no_fault }

pub HasRead-whole : {E : Type 0} {a b c : SourceState} {limits : Limits} {text buffer : List ℕ} {n : ℕ}
    → HasRead (run a b) text → Takes {E = E} (run b c) buffer (Ok n) → n ≡ 0 → IsWithin limits text → ReadsWhole limits (run a c) text
HasRead-whole {E} {a} {b} {c} {limits} {text} {buffer} {n} so_far took none within =
    let same : text ++ take n buffer ≡ text = rw (none, append-nil) refl in
    record {
      told = Tells-whole so_far.taken took none;
      taken = rw same at (Consumes-then so_far.taken took.moves);
      within = within;
      no_fault = took.cause ∙ so_far.no_fault;
    }

pub HasRead-fault : {E : Type 0} {a b c : SourceState} {text buffer : List ℕ} {e : E}
    → HasRead (run a b) text → Takes {E = E} (run b c) buffer (Err e) → ReadsToFault (run a c)
HasRead-fault {E} {a} {b} {c} {text} so_far took = record {
  front = text;
  taken = Consumes-then_kept so_far.taken took.kept;
  fault = rw so_far.no_fault at took.cause;
}
