-- The texts that a command reads, in the order of their names, each within the limits.
use Rattle.std.specs.Prelude.{◌≡◌, ℕ, List, [], ◌∷◌, Some, None, Result, Ok, Err, codes, slice_get, unwrap_or}
use Rattle.lk_io.specs.Folder.{Files, file_of}
use Rattle.project_reports.specs.Projects.{NamedText}
use Rattle.text_reading.specs.Limits.{IsWithin, PassesIn}
use Rattle.text_reading.specs.Inputs.{Input}
use Rattle.text_reading.specs.declared.limits.Limits.{Limits}

-- Why the texts of some names are not read: there is no file of that name, or its first byte past a limit stands in that line of it.
pub data Refusal : Type 0 where
  no_file : List ℕ → Refusal
  too_large : List ℕ → ℕ → Refusal

-- What reading the files of these names comes to, in the order of the names: their texts, or why the first that is not read is not.
pub data ReadsAs (limits : Limits) (files : Files) : List (List ℕ) → Result (List NamedText) Refusal → Type 0 where
  none : ReadsAs limits files [] (Ok [])
  missing : {name : List ℕ} {names : List (List ℕ)} → file_of files name ≡ None → ReadsAs limits files (name ∷ names) (Err (no_file name))
  passes : {name bytes : List ℕ} {line : ℕ} {names : List (List ℕ)} → file_of files name ≡ Some bytes → PassesIn limits bytes line
      → ReadsAs limits files (name ∷ names) (Err (too_large name line))
  text : {name bytes : List ℕ} {names : List (List ℕ)} {texts : List NamedText} → file_of files name ≡ Some bytes → IsWithin limits bytes
      → ReadsAs limits files names (Ok texts) → ReadsAs limits files (name ∷ names) (Ok (record { name = name; bytes = bytes } ∷ texts))
  behind : {name bytes : List ℕ} {names : List (List ℕ)} {why : Refusal} → file_of files name ≡ Some bytes → IsWithin limits bytes
      → ReadsAs limits files names (Err why) → ReadsAs limits files (name ∷ names) (Err why)

-- the name that the text of the source has
abbrev pub source_name : List ℕ
source_name = codes "-"

-- the names of the texts that are read where these files are named: where none is, that of the source
abbrev pub text_names : List (List ℕ) → List (List ℕ)
text_names [] = source_name ∷ []
text_names (name ∷ names) = name ∷ names

-- where these texts stand
abbrev pub text_files : List (List ℕ) → Input → Files
text_files [] input = (source_name, input.source) ∷ []
text_files (name ∷ names) input = input.files

-- What reading the texts comes to where these files are named.
abbrev pub TextsReadAs : Limits → List (List ℕ) → Input → Result (List NamedText) Refusal → Type 0
TextsReadAs limits names input outcome = ReadsAs limits (text_files names input) (text_names names) outcome

-- the name of the text at this place
abbrev pub name_at : List (List ℕ) → ℕ → List ℕ
name_at names at = unwrap_or (slice_get names at) source_name
