-- The commands that words name.
use Rattle.std.proofs.Common.{◌≡◌, ◌≢◌, ◌≤◌, ◌⊎◌, ℕ, List, [], ◌∷◌, Bool, true, false, IsTrue, Some, inl, inr, refl, sym, ◌∙◌, subst, arith}
use Rattle.std.specs.Prelude.{codes}
use Rattle.std.specs.Str.{bytes_eq}
use Rattle.std.specs.List.{IsDistinct}
use Rattle.std.proofs.lemmas.Bool.{false≢true}
use Rattle.std.proofs.lemmas.Slice.Eq.{bytes_eq-Decides}
use Rattle.lk_io.specs.Source.{SourceState}
use Rattle.lk_io.specs.Folder.{FolderState}
use Rattle.lk_io.specs.Sink.{SinkState, SinkRun}
use Rattle.lk_io.specs.Run.{run}
use Rattle.text_reading.specs.Inputs.{Input, Inputs}
use Rattle.command_ends.specs.Journal.{GetsLine, words_line, no_memory_line}
use Rattle.command_ends.specs.Status.{Due, single, no_memory, HasStatus}
use Rattle.command_ends.proofs.CommandLaws.{HasStatus-into, HasStatus-unread}
use Rattle.command_ends.proofs.EndLaws.{EndsBy-no_memory}
use Rattle.lk_io.proofs.SourceLaws.{Consumes-none}
use Rattle.run_words.specs.Run.{Run, IsRun}
use Rattle.run_source.specs.Run.{IsDueOfRun, run_command}
use Rattle.run_source.specs.Rows as run_rows
use Rattle.run_source.proofs.RowLaws.{Rows-status}
use Rattle.logika_cli.specs.Check.{IsDueOfCheck, check_command}
use Rattle.logika_cli.specs.Words.{IsFile, IsAnother, AreFiles, IsCheck, AreNoCheck, AreRefused, BeginRun, IsDueOfWords, command_of}
use Rattle.text_reading.specs.declared.limits.Limits.{Limits}

-- ---- names of files

pub AreFiles-none : AreFiles []
unfolding IsDistinct
AreFiles-none = record { files = tt; distinct = tt }

pub AreFiles-more : {name : List ℕ} {names : List (List ℕ)} → IsFile name → IsAnother name names → AreFiles names → AreFiles (name ∷ names)
unfolding IsDistinct
AreFiles-more is another are = record { files = (is, are.files); distinct = (another, are.distinct) }

pub AreFiles-first : {name : List ℕ} {names : List (List ℕ)} → AreFiles (name ∷ names) → IsFile name × IsAnother name names
unfolding IsDistinct
AreFiles-first are = (are.files.0, are.distinct.0)

pub AreFiles-rest : {name : List ℕ} {names : List (List ℕ)} → AreFiles (name ∷ names) → AreFiles names
unfolding IsDistinct
AreFiles-rest are = record { files = are.files.1; distinct = are.distinct.1 }

module _ {names left rest : List (List ℕ)} {name text : List ℕ} {new : Bool} (cut : left ≡ name ∷ rest) (same : text ≡ name) where
  -- The first that is left is no new file.
  pub ends_false : (AreFiles names → AreFiles left) → new ≡ false → (IsFile text × IsAnother text rest → IsTrue new)
      → (IsTrue false → AreFiles names) × (AreFiles names → IsTrue false)
  ends_false back is_false is_new = (
    λ no. absurd (false≢true no),
    λ are.
        let first : IsFile name × IsAnother name rest = AreFiles-first (subst (λ ns. AreFiles ns) cut (back are)) in
        subst (λ b. IsTrue b) is_false (is_new (subst (λ t. IsFile t × IsAnother t rest) (sym same) first)),
  )

  -- The first that is left is a new file.
  pub goes_on : (AreFiles left → AreFiles names) → (AreFiles names → AreFiles left) → new ≡ true → (IsTrue new → IsFile text × IsAnother text rest)
      → (AreFiles rest → AreFiles names) × (AreFiles names → AreFiles rest)
  goes_on on back is_true is_new =
      let first : IsFile name × IsAnother name rest = subst (λ t. IsFile t × IsAnother t rest) same (is_new is_true) in (
        λ are. on (subst (λ ns. AreFiles ns) (sym cut) (AreFiles-more first.0 first.1 are)),
        λ are. AreFiles-rest (subst (λ ns. AreFiles ns) cut (back are)),
      )

-- names that differ
pub differ : (a b : List ℕ) → a ≢ b → bytes_eq a b ≡ false
differ a b other = test (bytes_eq a b) refl
  where
    test : (same : Bool) → bytes_eq a b ≡ same → bytes_eq a b ≡ false
    test true e = absurd (other ((bytes_eq-Decides a b).0 e))
    test false e = e

pub same_name : (a b : List ℕ) → a ≡ b → bytes_eq a b ≡ false → ⊥
same_name a b same e = false_true (sym e ∙ (bytes_eq-Decides a b).1 same)
  where
    false_true : false ≡ true → ⊥
    false_true h = cc

-- The words are `check` with one list of files.
pub one_check : {words a b : List (List ℕ)} → IsCheck words a → IsCheck words b → a ≡ b
one_check {words} {a} {b} first second = tails (sym first.words_are ∙ second.words_are)
  where
    tails : {x : List ℕ} → x ∷ a ≡ x ∷ b → a ≡ b
    tails e = cc

module _ (limits : Limits) (words : List (List ℕ)) where
  pub HasStatus-check : {names : List (List ℕ)} {inputs : Inputs} {out journal : SinkRun} {code : ℕ} → IsCheck words names
      → HasStatus (check_command limits names) inputs out journal code → HasStatus (command_of limits words) inputs out journal code
  HasStatus-check {names} is_check status = HasStatus-into into status
    where
      into : (input : Input) (due : Due) → IsDueOfCheck limits names input due → IsDueOfWords limits words input due
      into input due is = IsDueOfWords.check is_check is

  pub HasStatus-run : {asked : Run} {inputs : Inputs} {out journal : SinkRun} {code : ℕ} → IsRun words asked
      → HasStatus (run_command limits asked.method asked.turns asked.arguments) inputs out journal code
      → HasStatus (command_of limits words) inputs out journal code
  HasStatus-run {asked} is_run status = HasStatus-into into status
    where
      into : (input : Input) (due : Due) → IsDueOfRun limits asked.method asked.turns asked.arguments input due → IsDueOfWords limits words input due
      into input due is = IsDueOfWords.run is_run is

  pub HasStatus-refused : {source : SourceState} {folder : FolderState} {out : SinkState} {journal : SinkRun} {code : ℕ} → AreRefused words → code ≡ 3
      → GetsLine journal (Some words_line)
      → HasStatus (command_of limits words) (record { source = run source source; folder = run folder folder }) (run out out) journal code
  HasStatus-refused other code_is line = HasStatus-unread 3 words_line (λ input. IsDueOfWords.unread other) code_is line

-- Memory ran out before anything was read.
pub HasStatus-no_memory : (due : Input → Due → Type 0) {source : SourceState} {folder : FolderState} {out : SinkState} {journal : SinkRun} {code : ℕ}
    → code ≡ 7 → GetsLine journal (Some no_memory_line)
    → HasStatus (single due) (record { source = run source source; folder = run folder folder }) (run out out) journal code
HasStatus-no_memory due {source} {folder} {out} code_is line = record {
  end = no_memory;
  ends = EndsBy-no_memory due (record { source = run source source; folder = run folder folder })
      (record { front = []; taken = Consumes-none source; no_fault = record { source = refl; folder = refl } }) out;
  code_is = code_is;
  line = line;
}

-- the rows of a run that was not begun, since memory ran out
pub Rows-no_memory : (limits : Limits) (asked : Run) {source : SourceState} {folder : FolderState} {out : SinkState} {journal : SinkRun} {code : ℕ}
    → code ≡ 7 → GetsLine journal (Some no_memory_line)
    → run_rows.Rows limits asked.method asked.turns asked.arguments (record { source = run source source; folder = run folder folder }) (run out out)
    journal code
Rows-no_memory limits asked code_is line =
    Rows-status (HasStatus-no_memory (IsDueOfRun limits asked.method asked.turns asked.arguments) code_is line)

-- No run has the status of a file that there is not.
pub other_status : {limits : Limits} {method : List ℕ} {turns : ℕ} {arguments : List (List ℕ)} {inputs : Inputs} {out journal : SinkRun} {code : ℕ}
    → run_rows.Rows limits method turns arguments inputs out journal code → code ≢ 10
other_status {code = code} rows is = at rows.only
  where
    at : (code ≤ 2) ⊎ ((5 ≤ code) × (code ≤ 9)) ⊎ (code ≡ 11) → ⊥
    at (inl small) = omega (arith, small, is)
    at (inr (inl middle)) = omega (arith, middle.1, is)
    at (inr (inr last)) = omega (arith, last, is)

-- nor has it that of words that are refused
pub no_refusal : {limits : Limits} {method : List ℕ} {turns : ℕ} {arguments : List (List ℕ)} {inputs : Inputs} {out journal : SinkRun} {code : ℕ}
    → run_rows.Rows limits method turns arguments inputs out journal code → code ≡ 3 → ⊥
no_refusal {code = code} rows is = at rows.only
  where
    at : (code ≤ 2) ⊎ ((5 ≤ code) × (code ≤ 9)) ⊎ (code ≡ 11) → ⊥
    at (inl small) = omega (arith, small, is)
    at (inr (inl middle)) = omega (arith, middle.0, is)
    at (inr (inr last)) = omega (arith, last, is)

-- The words of `check` are no words of `run`.
pub no_run_of_check : {words names : List (List ℕ)} {asked : Run} → IsCheck words names → IsRun words asked → ⊥
no_run_of_check check run = apart (sym check.words_are ∙ run.words_are)
  where
    apart : {x y : List (List ℕ)} → codes "check" ∷ x ≡ codes "run" ∷ y → ⊥
    apart e = cc

-- What is told of one run is told of each that the words are.
pub of_each : {words : List (List ℕ)} {one asked : Run} (P : Run → Type 0) → ((a : Run) → IsRun words a → a ≡ one) → P one → IsRun words asked → P asked
of_each P only h is = subst P (sym (only _ is)) h

-- Words that do not begin so are none of a run.
pub AreRefused-others : {words : List (List ℕ)} → AreNoCheck words → (BeginRun words → ⊥) → AreRefused words
AreRefused-others {words} no_check other = record { no_check = no_check; no_run = λ asked is. other (begin asked is) }
  where
    begin : (asked : Run) → IsRun words asked → BeginRun words
    begin asked is = record { rest = asked.method ∷ is.count ∷ asked.arguments; words_are = is.words_are }
