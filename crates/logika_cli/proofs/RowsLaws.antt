-- The rows of `check`.
use Rattle.std.proofs.Common.{◌≡◌, ◌≢◌, ◌≤◌, ◌⊎◌, ℕ, List, [], Some, None, Result, Ok, Err, inl, inr, refl, sym, arith, subst}
use Rattle.lk_io.specs.Sink.{SinkRun, Appends, GivesPart, HasHandedOn, IsQuiet, IsFault, IsRefusal}
use Rattle.lk_io.specs.GiveAll.{GivesWhole}
use Rattle.project_reports.specs.Projects.{NamedText}
use Rattle.project_reports.specs.Reports.{IsReport}
use Rattle.project_reports.proofs.Reports.{verified_methods_are_safe}
use Rattle.text_reading.specs.Inputs.{Input, Inputs, IsTold, HaveNoFault}
use Rattle.text_reading.specs.Texts.{Refusal, no_file, too_large, TextsReadAs}
use Rattle.text_reading.specs.declared.limits.Limits.{Limits}
use Rattle.command_ends.specs.Journal.{GetsLine, write_fault_line}
use Rattle.command_ends.specs.Status.{Due, End, as_due, read_fault, write_fault, no_memory, refusal, code_of, line_of, EndsBy, FindsNoMemory, RefusesText}
use Rattle.command_ends.specs.Status.{HasStatus}
use Rattle.command_ends.specs.Refusals.{refusal_of, TellsTexts}
use Rattle.command_ends.proofs.OutcomeLaws.{told_outcome}
use Rattle.logika_cli.specs.Check.{IsDueOfCheck, check_command}
use Rattle.logika_cli.specs.Rows.{Rows, HasOutput, OutputRefused}

-- A refusal writes nothing.
writes_nothing : (why : Refusal) → ((refusal_of why).line ≡ None) ⊎ ((refusal_of why).text ≢ []) → ⊥
writes_nothing (no_file name) (inl e) = cc
writes_nothing (no_file name) (inr more) = more refl
writes_nothing (too_large name line) (inl e) = cc
writes_nothing (too_large name line) (inr more) = more refl

ok_not_err : {texts : List NamedText} {why : Refusal} → Ok texts ≡ Err why → ⊥
ok_not_err e = cc

err_not_ok : {texts : List NamedText} {why : Refusal} → Err why ≡ Ok texts → ⊥
err_not_ok e = cc

abbrev with_no_texts : Refusal → Result (List NamedText) Refusal
with_no_texts why = Err why

same_refusal : {a b : Refusal} → with_no_texts a ≡ with_no_texts b → a ≡ b
same_refusal e = cc

module _ (limits : Limits) (names : List (List ℕ)) (inputs : Inputs) (out journal : SinkRun) (code : ℕ) where
  has_output : {input : Input} {texts : List NamedText} (text : List ℕ) (c : ℕ) → IsTold inputs input → TextsReadAs limits names input (Ok texts)
      → IsReport 1 texts text c
      → HasOutput limits names inputs text c
  has_output {input} {texts} text c told read output =
      record { input = input; told = told; texts = texts; read = read; output = output; safe = verified_methods_are_safe texts }

  -- The answer that is due was given.
  rows-answer : {input : Input} {texts : List NamedText} (text : List ℕ) → IsTold inputs input → TextsReadAs limits names input (Ok texts)
      → IsReport 1 texts text code → code ≤ 2
      → HaveNoFault inputs → Appends out text → HasHandedOn out.now → IsQuiet out → GetsLine journal None → Rows limits names inputs out journal code
  rows-answer {input} {texts} text told read output small sound given handed quiet line = record {
    only = inl small;
    answered = λ at. record {
      text = text;
      output = has_output text code told read output;
      written = record { given = record { adds = given; quiet = quiet }; handed = handed };
      silent = line;
    };
    read_fault = λ at. absurd (omega arith);
    write_fault = λ at. absurd (omega arith);
    no_memory = λ at. absurd (omega arith);
    too_large = λ at. absurd (omega arith);
    no_file = λ at. absurd (omega arith);
    read_faults = λ fault. absurd (fault sound);
    write_faults = λ fault. absurd (fault quiet.faults);
    within = λ own own_texts tells reads no_fault written. inl small;
    refused = λ own why tells reads no_fault. absurd (ok_not_err (told_outcome names own told read tells reads));
  }

  module _ (why : Refusal) {input : Input} (told : IsTold inputs input) (read : TextsReadAs limits names input (Err why))
      (code_is : code ≡ (refusal_of why).code) (line : GetsLine journal (refusal_of why).line) where
    not_read : (own : Input) (texts : List NamedText) → TellsTexts names inputs own → TextsReadAs limits names own (Ok texts) → ⊥
    not_read own texts tells reads = err_not_ok (told_outcome names own told read tells reads)

    same_why : (own : Input) (other : Refusal) → TellsTexts names inputs own → TextsReadAs limits names own (Err other)
        → (code ≡ (refusal_of other).code) × GetsLine journal (refusal_of other).line
    same_why own other tells reads =
        let same : why ≡ other = same_refusal (told_outcome names own told read tells reads) in
        (subst (λ w. code ≡ (refusal_of w).code) same code_is, subst (λ w. GetsLine journal (refusal_of w).line) same line)

  -- The refusal that is due was written.
  rows-refusal : (why : Refusal) {input : Input} → IsTold inputs input → TextsReadAs limits names input (Err why) → HaveNoFault inputs
      → Appends out (refusal_of why).text → IsQuiet out
      → code ≡ (refusal_of why).code → GetsLine journal (refusal_of why).line → Rows limits names inputs out journal code
  rows-refusal (no_file name) {input} told read sound given quiet code_is line = record {
    only = inr (inr code_is);
    answered = λ at. absurd (omega arith);
    read_fault = λ at. absurd (omega arith);
    write_fault = λ at. absurd (omega arith);
    no_memory = λ at. absurd (omega arith);
    too_large = λ at. absurd (omega arith);
    no_file = λ at. record { input = input; told = told; name = name; read = read; given = record { adds = given; quiet = quiet }; line = line };
    read_faults = λ fault. absurd (fault sound);
    write_faults = λ fault. absurd (fault quiet.faults);
    within = λ own own_texts tells reads no_fault written. absurd (not_read (no_file name) told read code_is line own own_texts tells reads);
    refused = λ own other tells reads no_fault. inl (same_why (no_file name) told read code_is line own other tells reads);
  }
  rows-refusal (too_large name line_no) {input} told read sound given quiet code_is line = record {
    only = inr (inl (omega arith, omega arith));
    answered = λ at. absurd (omega arith);
    read_fault = λ at. absurd (omega arith);
    write_fault = λ at. absurd (omega arith);
    no_memory = λ at. absurd (omega arith);
    too_large = λ at. record {
      input = input;
      told = told;
      name = name;
      line_no = line_no;
      read = read;
      given = record { adds = given; quiet = quiet };
      line = line;
    };
    no_file = λ at. absurd (omega arith);
    read_faults = λ fault. absurd (fault sound);
    write_faults = λ fault. absurd (fault quiet.faults);
    within = λ own own_texts tells reads no_fault written. absurd (not_read (too_large name line_no) told read code_is line own own_texts tells reads);
    refused = λ own other tells reads no_fault. inl (same_why (too_large name line_no) told read code_is line own other tells reads);
  }

  rows-due : {input : Input} {due : Due} → IsTold inputs input → IsDueOfCheck limits names input due → HaveNoFault inputs → Appends out due.text
      → (due.line ≡ None → HasHandedOn out.now) → IsQuiet out
      → code ≡ due.code → GetsLine journal due.line → Rows limits names inputs out journal code
  rows-due told (IsDueOfCheck.checked {texts} {text} {code = c} read output small) sound given handed quiet code_is line =
      rows-answer text told read (subst (λ n. IsReport 1 texts text n) (sym code_is) output) (omega arith) sound given (handed refl) quiet line
  rows-due told (IsDueOfCheck.refused {why} read) sound given handed quiet code_is line = rows-refusal why told read sound given quiet code_is line

  rows-write : {input : Input} {due : Due} → IsTold inputs input → IsDueOfCheck limits names input due → (due.line ≡ None) ⊎ (due.text ≢ [])
      → HaveNoFault inputs
      → GivesPart out due.text → IsFault out → code ≡ 6 → GetsLine journal (Some write_fault_line) → Rows limits names inputs out journal code
  rows-write told (IsDueOfCheck.checked {texts} {text} {code = c} read output small) writes sound given fault code_is line = record {
    only = inr (inl (omega arith, omega arith));
    answered = λ at. absurd (omega arith);
    read_fault = λ at. absurd (omega arith);
    write_fault = λ at. record {
      given = record { text = text; code = c; output = has_output text c told read output; given = given };
      fault = fault.faults;
      line = line;
    };
    no_memory = λ at. absurd (omega arith);
    too_large = λ at. absurd (omega arith);
    no_file = λ at. absurd (omega arith);
    read_faults = λ f. absurd (f sound);
    write_faults = λ f. code_is;
    within = λ own own_texts tells reads no_fault written. absurd (written fault.faults);
    refused = λ own why tells reads no_fault. absurd (ok_not_err (told_outcome names own told read tells reads));
  }
  rows-write told (IsDueOfCheck.refused {why} read) writes sound given fault code_is line = absurd (writes_nothing why writes)

  output_refused : {input : Input} {due : Due} → IsTold inputs input → IsDueOfCheck limits names input due → (due.line ≡ None) ⊎ (due.text ≢ [])
      → GivesPart out due.text → IsRefusal out
      → OutputRefused limits names inputs out
  output_refused told (IsDueOfCheck.checked {texts} {text} {code = c} read output small) writes given refusal =
      record { given = record { text = text; code = c; output = has_output text c told read output; given = given }; refusal = refusal }
  output_refused told (IsDueOfCheck.refused {why} read) writes given refusal = absurd (writes_nothing why writes)

  out_of_memory : FindsNoMemory (check_command limits names) inputs out ⊎ RefusesText (check_command limits names) inputs out
      → GivesWhole out [] ⊎ OutputRefused limits names inputs out
  out_of_memory (inl own) = inl (record { adds = rw own.earlier at own.given; quiet = own.quiet })
  out_of_memory (inr due) = inr (output_refused due.is_due.told due.is_due.is_due due.writes due.given due.refusal)

  kept : FindsNoMemory (check_command limits names) inputs out ⊎ RefusesText (check_command limits names) inputs out → out.now.faults ≡ out.before.faults
  kept (inl own) = own.quiet.faults
  kept (inr due) = due.refusal.faults

  rows : (end : End) → EndsBy (check_command limits names) inputs out end → code ≡ code_of end → GetsLine journal (line_of end)
      → Rows limits names inputs out journal code
  rows (as_due due) ends code_is line = rows-due ends.is_due.told ends.is_due.is_due ends.read ends.given ends.handed ends.quiet code_is line
  rows read_fault ends code_is line = record {
    only = inr (inl (omega arith, omega arith));
    answered = λ at. absurd (omega arith);
    read_fault = λ at. record { fault = ends.fault; given = record { adds = rw ends.earlier at ends.given; quiet = ends.quiet }; line = line };
    write_fault = λ at. absurd (omega arith);
    no_memory = λ at. absurd (omega arith);
    too_large = λ at. absurd (omega arith);
    no_file = λ at. absurd (omega arith);
    read_faults = λ fault. code_is;
    write_faults = λ fault. absurd (fault ends.quiet.faults);
    within = λ own own_texts tells reads no_fault written. absurd (no_fault ends.fault);
    refused = λ own why tells reads no_fault. absurd (no_fault ends.fault);
  }
  rows write_fault ends code_is line = rows-write ends.is_due.told ends.is_due.is_due ends.writes ends.read ends.given ends.fault code_is line
  rows no_memory ends code_is line = record {
    only = inr (inl (omega arith, omega arith));
    answered = λ at. absurd (omega arith);
    read_fault = λ at. absurd (omega arith);
    write_fault = λ at. absurd (omega arith);
    no_memory = λ at. record { given = out_of_memory ends.cause; line = line };
    too_large = λ at. absurd (omega arith);
    no_file = λ at. absurd (omega arith);
    read_faults = λ fault. absurd (fault ends.read);
    write_faults = λ fault. absurd (fault (kept ends.cause));
    within = λ own own_texts tells reads no_fault written. inr code_is;
    refused = λ own why tells reads no_fault. inr code_is;
  }

pub Rows-status : {limits : Limits} {names : List (List ℕ)} {inputs : Inputs} {out journal : SinkRun} {code : ℕ}
    → HasStatus (check_command limits names) inputs out journal code → Rows limits names inputs out journal code
Rows-status {limits} {names} {inputs} {out} {journal} {code} status =
    rows limits names inputs out journal code status.end status.ends status.code_is status.line
