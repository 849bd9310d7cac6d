-- What is due where something is not read or does not fit: a status and its line, and nothing on the output.
use Rattle.std.specs.Prelude.{◌≡◌, ℕ, List, [], ◌∷◌, Some}
use Rattle.text_reading.specs.Inputs.{Input, Inputs}
use Rattle.text_reading.specs.Texts.{Refusal, no_file, too_large}
use Rattle.command_ends.specs.Journal.{words_line, too_large_line, no_file_line, arguments_line}
use Rattle.command_ends.specs.Status.{Due, refusal}

-- The words of the command line are not read.
abbrev pub words_refusal : Due
words_refusal = refusal 3 words_line

-- A text is not read.
abbrev pub refusal_of : Refusal → Due
refusal_of (no_file name) = refusal 10 (no_file_line name)
refusal_of (too_large name line) = refusal 8 (too_large_line name line)

-- The program has no method of the name, or the words are no arguments of it.
abbrev pub arguments_refusal : Due
arguments_refusal = refusal 11 arguments_line

-- What is read is told, and is this input: the folder's files, or the bytes of the source where no file is named.
abbrev pub TellsTexts : List (List ℕ) → Inputs → Input → Type 0
TellsTexts [] inputs input = inputs.source.before.left ≡ Some input.source
TellsTexts (name ∷ names) inputs input = inputs.folder.before.files ≡ Some input.files
