-- The words of the command line, without the program's name.
use Rattle.std.specs.Prelude.{◌≡◌, ◌≢◌, ℕ, List, [], ◌∷◌, ◌⊎◌, Some, false, codes}
use Rattle.std.specs.Str.{bytes_eq}
use Rattle.std.specs.List.{AllByRecursion, IsDistinct}
use Rattle.text_reading.specs.Inputs.{Input}
use Rattle.command_ends.specs.Status.{Due, Command, single}
use Rattle.lk_io.specs.Sink.{SinkRun}
use Rattle.command_ends.specs.Journal.{GetsLine, words_line, no_memory_line}
use Rattle.command_ends.specs.Refusals.{words_refusal}
use Rattle.run_words.specs.Run.{Run, IsRun}
use Rattle.run_source.specs.Run.{IsDueOfRun}
use Rattle.logika_cli.specs.Check.{IsDueOfCheck}
use Rattle.text_reading.specs.declared.limits.Limits.{Limits}

-- the byte of a minus
abbrev pub minus : ℕ
minus = 45

-- A word that names a file: it is not empty, and does not begin with a minus.
abbrev pub IsFile : List ℕ → Type 0
IsFile [] = ⊥
IsFile (first ∷ rest) = first ≢ minus

-- The name is none of the others.
abbrev pub IsAnother : List ℕ → List (List ℕ) → Type 0
IsAnother name others = AllByRecursion (λ other. bytes_eq name other ≡ false) others

-- Words that name files, none of them twice.
pub record AreFiles (names : List (List ℕ)) : Type 0 where
  pub files : AllByRecursion IsFile names
  pub distinct : IsDistinct bytes_eq names

-- The words of `check`: it, and behind it names of files.
pub record IsCheck (words names : List (List ℕ)) : Type 0 where
  pub words_are : words ≡ codes "check" ∷ names
  pub names_are : AreFiles names

-- Words that are not those of `check`.
abbrev pub AreNoCheck : List (List ℕ) → Type 0
AreNoCheck words = (names : List (List ℕ)) → ¬ IsCheck words names

-- Words that are not read: they are those of no command.
pub record AreRefused (words : List (List ℕ)) : Type 0 where
  pub no_check : AreNoCheck words
  pub no_run : (asked : Run) → ¬ IsRun words asked

-- What is due of these words and this input.
pub data IsDueOfWords (limits : Limits) (words : List (List ℕ)) (input : Input) : Due → Type 0 where
  unread : AreRefused words → IsDueOfWords limits words input words_refusal
  check : {names : List (List ℕ)} {due : Due} → IsCheck words names → IsDueOfCheck limits names input due → IsDueOfWords limits words input due
  run : {asked : Run} {due : Due} → IsRun words asked → IsDueOfRun limits asked.method asked.turns asked.arguments input due
      → IsDueOfWords limits words input due

abbrev pub command_of : Limits → List (List ℕ) → Command
command_of limits words = single (IsDueOfWords limits words)

-- The words begin with `run`.
pub record BeginRun (words : List (List ℕ)) : Type 0 where
  pub rest : List (List ℕ)
  pub words_are : words ≡ codes "run" ∷ rest

-- The journal tells that the words are refused, or that memory ran out on arguments of `run`.
abbrev pub RefusesWords : List (List ℕ) → SinkRun → ℕ → Type 0
RefusesWords words journal code =
    ((code ≡ 3) × GetsLine journal (Some words_line)) ⊎ (BeginRun words × (code ≡ 7) × GetsLine journal (Some no_memory_line))
