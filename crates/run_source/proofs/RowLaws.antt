-- The rows of `run`.
use Rattle.std.proofs.Common.{◌≡◌, ◌≢◌, ◌≤◌, ◌<◌, ◌⊎◌, ℕ, List, [], Option, Some, None, inl, inr, refl, sym, arith, subst}
use Rattle.lk_io.specs.Source.{Tells}
use Rattle.lk_io.specs.Sink.{SinkRun, Appends, GivesPart, HasHandedOn, IsQuiet, IsFault, IsRefusal}
use Rattle.lk_io.specs.GiveAll.{GivesWhole}
use Rattle.text_reading.specs.Limits.{IsWithin, PassesIn}
use Rattle.text_reading.specs.Inputs.{Input, Inputs, IsTold, HaveNoFault}
use Rattle.text_reading.specs.Texts.{source_name}
use Rattle.text_reading.specs.declared.limits.Limits.{Limits}
use Rattle.text_reading.proofs.LimitLaws.{past_or_within, one_line}
use Rattle.command_ends.specs.Journal.{GetsLine, too_large_line, arguments_line, write_fault_line}
use Rattle.command_ends.specs.Status.{Due, End, as_due, read_fault, write_fault, no_memory, code_of, line_of, EndsBy, FindsNoMemory, RefusesText, HasStatus}
use Rattle.run_source.specs.Run.{IsDueOfRun, run_command, source_texts}
use Rattle.run_source.specs.Outcomes.{HasOutcome, DoesNotFit}
use Rattle.run_source.specs.Rows.{IsRead, HasOutput, OutputRefused, Rows}
use Rattle.run_source.proofs.ReportLaws.{outcome, outcome_code, not_fit}

-- what is told is one thing
told_is : {left : Option (List ℕ)} {bytes : List ℕ} (told : List ℕ) → left ≡ Some told → Tells left bytes → told ≡ bytes
told_is {left} told e tells = rw e at tells

-- codes that tell of the run are no others
below_nine : (code k : ℕ) → (code ≤ 2) ⊎ (code ≡ 9) → 2 < k → k < 9 → code ≡ k → ⊥
below_nine code k (inl small) more less is = omega (arith, small, more, is)
below_nine code k (inr nine) more less is = omega (arith, nine, less, is)

above_nine : (code k : ℕ) → (code ≤ 2) ⊎ (code ≡ 9) → 9 < k → code ≡ k → ⊥
above_nine code k (inl small) more is = omega (arith, small, more, is)
above_nine code k (inr nine) more is = omega (arith, nine, more, is)

-- a code that tells of no run
no_answer : (code k : ℕ) → code ≡ k → 2 < k → k ≢ 9 → (code ≤ 2) ⊎ (code ≡ 9) → ⊥
no_answer code k is more other (inl small) = omega (arith, small, more, is)
no_answer code k is more other (inr nine) = other (rw is at nine)

module _ (limits : Limits) (method : List ℕ) (turns : ℕ) (arguments : List (List ℕ)) (inputs : Inputs) (out journal : SinkRun) (code : ℕ) where
  abbrev The_rows : Type 0
  The_rows = Rows limits method turns arguments inputs out journal code

  is_read : {input : Input} → IsTold inputs input → IsWithin limits input.source → IsRead limits inputs input.source
  is_read {input} told within = record { input = input; told = told; bytes_are = refl; within = within }

  not_past : {input : Input} → IsTold inputs input → IsWithin limits input.source → (bytes : List ℕ) (line : ℕ) → inputs.source.before.left ≡ Some bytes
      → PassesIn limits bytes line → ⊥
  not_past {input} told within bytes line tells passes =
      past_or_within passes (subst (λ b. IsWithin limits b) (sym (told_is bytes tells told.source)) within)

  -- The output of the run was given.
  rows-answer : {input : Input} (text : List ℕ) → IsTold inputs input → IsWithin limits input.source
      → HasOutcome (source_texts input.source) method turns arguments text code → HaveNoFault inputs → Appends out text → HasHandedOn out.now
      → IsQuiet out → GetsLine journal None → The_rows
  rows-answer {input} text told within found sound given handed quiet line =
      let tells : (code ≤ 2) ⊎ (code ≡ 9) = outcome_code (source_texts input.source) method turns arguments text found in
      record {
        only = elim tells [ inl small ↦ inl small | inr nine ↦ inr (inl (omega (arith, nine), omega (arith, nine))) ];
        answered = λ at. record {
          text = text;
          output = record { bytes = input.source; read = is_read told within; outcome = found };
          written = record { given = record { adds = given; quiet = quiet }; handed = handed };
          silent = line;
        };
        read_fault = λ at. absurd (below_nine code 5 tells (omega arith) (omega arith) at);
        write_fault = λ at. absurd (below_nine code 6 tells (omega arith) (omega arith) at);
        no_memory = λ at. absurd (below_nine code 7 tells (omega arith) (omega arith) at);
        too_large = λ at. absurd (below_nine code 8 tells (omega arith) (omega arith) at);
        did_not_fit = λ at. absurd (above_nine code 11 tells (omega arith) at);
        read_faults = λ fault. absurd (fault sound);
        write_faults = λ fault. absurd (fault quiet.faults);
        within = λ bytes is small no_fault written. elim tells [ inl small ↦ inl small | inr nine ↦ inr (inl nine) ];
        past = λ bytes line_no is passes no_fault. absurd (not_past told within bytes line_no is passes);
      }

  -- The arguments do not fit.
  rows-not_fit : {input : Input} → IsTold inputs input → IsWithin limits input.source → DoesNotFit (source_texts input.source) method arguments
      → HaveNoFault inputs → Appends out [] → IsQuiet out → code ≡ 11 → GetsLine journal (Some arguments_line) → The_rows
  rows-not_fit {input} told within none sound given quiet code_is line = record {
    only = inr (inr code_is);
    answered = λ at. absurd (no_answer code 11 code_is (omega arith) (λ e. omega (arith, e)) at);
    read_fault = λ at. absurd (omega (arith, at, code_is));
    write_fault = λ at. absurd (omega (arith, at, code_is));
    no_memory = λ at. absurd (omega (arith, at, code_is));
    too_large = λ at. absurd (omega (arith, at, code_is));
    did_not_fit = λ at. record {
      bytes = input.source;
      read = is_read told within;
      does_not_fit = none;
      given = record { adds = given; quiet = quiet };
      line = line;
    };
    read_faults = λ fault. absurd (fault sound);
    write_faults = λ fault. absurd (fault quiet.faults);
    within = λ bytes is small no_fault written. inr (inr (inl code_is));
    past = λ bytes line_no is passes no_fault. absurd (not_past told within bytes line_no is passes);
  }

  -- The source is too large.
  rows-too_large : {input : Input} (line_no : ℕ) → IsTold inputs input → PassesIn limits input.source line_no
      → HaveNoFault inputs → Appends out [] → IsQuiet out → code ≡ 8 → GetsLine journal (Some (too_large_line source_name line_no)) → The_rows
  rows-too_large {input} line_no told passes sound given quiet code_is line = record {
    only = inr (inl (omega (arith, code_is), omega (arith, code_is)));
    answered = λ at. absurd (no_answer code 8 code_is (omega arith) (λ e. omega (arith, e)) at);
    read_fault = λ at. absurd (omega (arith, at, code_is));
    write_fault = λ at. absurd (omega (arith, at, code_is));
    no_memory = λ at. absurd (omega (arith, at, code_is));
    too_large = λ at. record {
      input = input;
      told = told;
      line_no = line_no;
      passes = passes;
      given = record { adds = given; quiet = quiet };
      line = line;
    };
    did_not_fit = λ at. absurd (omega (arith, at, code_is));
    read_faults = λ fault. absurd (fault sound);
    write_faults = λ fault. absurd (fault quiet.faults);
    within = λ bytes is small no_fault written.
        absurd (past_or_within passes (subst (λ b. IsWithin limits b) (told_is bytes is told.source) small));
    past = λ bytes other is passes' no_fault.
        let same : other ≡ line_no = one_line (subst (λ b. PassesIn limits b other) (told_is bytes is told.source) passes') passes in
        inl (code_is, subst (λ n. GetsLine journal (Some (too_large_line source_name n))) (sym same) line);
  }

  rows-due : {input : Input} {due : Due} → IsTold inputs input → IsDueOfRun limits method turns arguments input due → HaveNoFault inputs
      → Appends out due.text → (due.line ≡ None → HasHandedOn out.now) → IsQuiet out → code ≡ due.code → GetsLine journal due.line → The_rows
  rows-due {input} told (IsDueOfRun.ran {text} {code = c} within report other) sound given handed quiet code_is line =
      rows-answer text told within
      (subst (λ n. HasOutcome (source_texts input.source) method turns arguments text n) (sym code_is)
      (outcome (source_texts input.source) method turns arguments text c report other)) sound given (handed refl) quiet line
  rows-due {input} told (IsDueOfRun.does_not_fit {text} within report) sound given handed quiet code_is line =
      rows-not_fit told within (not_fit (source_texts input.source) method turns arguments text 11 report refl) sound given quiet code_is line
  rows-due told (IsDueOfRun.passes {line = line_no} passes) sound given handed quiet code_is line =
      rows-too_large line_no told passes sound given quiet code_is line

  -- the output of the run that is due
  has_output : {input : Input} (text : List ℕ) (c : ℕ) → IsTold inputs input → IsWithin limits input.source
      → HasOutcome (source_texts input.source) method turns arguments text c → HasOutput limits method turns arguments inputs text c
  has_output {input} text c told within found = record { bytes = input.source; read = is_read told within; outcome = found }

  rows-write : {input : Input} {due : Due} → IsTold inputs input → IsDueOfRun limits method turns arguments input due
      → (due.line ≡ None) ⊎ (due.text ≢ []) → HaveNoFault inputs → GivesPart out due.text → IsFault out → code ≡ 6
      → GetsLine journal (Some write_fault_line) → The_rows
  rows-write {input} told (IsDueOfRun.ran {text} {code = c} within report other) writes sound given fault code_is line = record {
    only = inr (inl (omega (arith, code_is), omega (arith, code_is)));
    answered = λ at. absurd (no_answer code 6 code_is (omega arith) (λ e. omega (arith, e)) at);
    read_fault = λ at. absurd (omega (arith, at, code_is));
    write_fault = λ at. record {
      given = record {
        text = text;
        code = c;
        output = has_output text c told within (outcome (source_texts input.source) method turns arguments text c report other);
        given = given;
      };
      fault = fault.faults;
      line = line;
    };
    no_memory = λ at. absurd (omega (arith, at, code_is));
    too_large = λ at. absurd (omega (arith, at, code_is));
    did_not_fit = λ at. absurd (omega (arith, at, code_is));
    read_faults = λ f. absurd (f sound);
    write_faults = λ f. code_is;
    within = λ bytes is small no_fault written. absurd (written fault.faults);
    past = λ bytes line_no is passes no_fault. absurd (not_past told within bytes line_no is passes);
  }
  rows-write told (IsDueOfRun.does_not_fit within report) (inl e) sound given fault code_is line = absurd (cc)
  rows-write told (IsDueOfRun.does_not_fit within report) (inr more) sound given fault code_is line = absurd (more refl)
  rows-write told (IsDueOfRun.passes passes) (inl e) sound given fault code_is line = absurd (cc)
  rows-write told (IsDueOfRun.passes passes) (inr more) sound given fault code_is line = absurd (more refl)

  output_refused : {input : Input} {due : Due} → IsTold inputs input → IsDueOfRun limits method turns arguments input due
      → (due.line ≡ None) ⊎ (due.text ≢ []) → GivesPart out due.text → IsRefusal out → OutputRefused limits method turns arguments inputs out
  output_refused {input} told (IsDueOfRun.ran {text} {code = c} within report other) writes given refusal = record {
    given = record {
      text = text;
      code = c;
      output = has_output text c told within (outcome (source_texts input.source) method turns arguments text c report other);
      given = given;
    };
    refusal = refusal;
  }
  output_refused told (IsDueOfRun.does_not_fit within report) (inl e) given refusal = absurd (cc)
  output_refused told (IsDueOfRun.does_not_fit within report) (inr more) given refusal = absurd (more refl)
  output_refused told (IsDueOfRun.passes passes) (inl e) given refusal = absurd (cc)
  output_refused told (IsDueOfRun.passes passes) (inr more) given refusal = absurd (more refl)

  abbrev Wants : Type 0
  Wants = FindsNoMemory (run_command limits method turns arguments) inputs out ⊎ RefusesText (run_command limits method turns arguments) inputs out

  out_of_memory : Wants → GivesWhole out [] ⊎ OutputRefused limits method turns arguments inputs out
  out_of_memory (inl own) = inl (record { adds = rw own.earlier at own.given; quiet = own.quiet })
  out_of_memory (inr due) = inr (output_refused due.is_due.told due.is_due.is_due due.writes due.given due.refusal)

  kept : Wants → out.now.faults ≡ out.before.faults
  kept (inl own) = own.quiet.faults
  kept (inr due) = due.refusal.faults

  rows : (end : End) → EndsBy (run_command limits method turns arguments) inputs out end → code ≡ code_of end → GetsLine journal (line_of end) → The_rows
  rows (as_due due) ends code_is line = rows-due ends.is_due.told ends.is_due.is_due ends.read ends.given ends.handed ends.quiet code_is line
  rows read_fault ends code_is line = record {
    only = inr (inl (omega (arith, code_is), omega (arith, code_is)));
    answered = λ at. absurd (no_answer code 5 code_is (omega arith) (λ e. omega (arith, e)) at);
    read_fault = λ at. record { fault = ends.fault; given = record { adds = rw ends.earlier at ends.given; quiet = ends.quiet }; line = line };
    write_fault = λ at. absurd (omega (arith, at, code_is));
    no_memory = λ at. absurd (omega (arith, at, code_is));
    too_large = λ at. absurd (omega (arith, at, code_is));
    did_not_fit = λ at. absurd (omega (arith, at, code_is));
    read_faults = λ fault. code_is;
    write_faults = λ fault. absurd (fault ends.quiet.faults);
    within = λ bytes is small no_fault written. absurd (no_fault ends.fault);
    past = λ bytes line_no is passes no_fault. absurd (no_fault ends.fault);
  }
  rows write_fault ends code_is line = rows-write ends.is_due.told ends.is_due.is_due ends.writes ends.read ends.given ends.fault code_is line
  rows no_memory ends code_is line = record {
    only = inr (inl (omega (arith, code_is), omega (arith, code_is)));
    answered = λ at. absurd (no_answer code 7 code_is (omega arith) (λ e. omega (arith, e)) at);
    read_fault = λ at. absurd (omega (arith, at, code_is));
    write_fault = λ at. absurd (omega (arith, at, code_is));
    no_memory = λ at. record { given = out_of_memory ends.cause; line = line };
    too_large = λ at. absurd (omega (arith, at, code_is));
    did_not_fit = λ at. absurd (omega (arith, at, code_is));
    read_faults = λ fault. absurd (fault ends.read);
    write_faults = λ fault. absurd (fault (kept ends.cause));
    within = λ bytes is small no_fault written. inr (inr (inr code_is));
    past = λ bytes line_no is passes no_fault. inr code_is;
  }

pub Rows-status : {limits : Limits} {method : List ℕ} {turns : ℕ} {arguments : List (List ℕ)} {inputs : Inputs} {out journal : SinkRun} {code : ℕ}
    → HasStatus (run_command limits method turns arguments) inputs out journal code → Rows limits method turns arguments inputs out journal code
Rows-status {limits} {method} {turns} {arguments} {inputs} {out} {journal} {code} status =
    rows limits method turns arguments inputs out journal code status.end status.ends status.code_is status.line
