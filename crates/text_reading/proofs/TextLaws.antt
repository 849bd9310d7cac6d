-- The texts of a command, of a folder or of a source.
use Rattle.std.proofs.Common.{◌≡◌, ◌≢◌, ℕ, List, [], ◌∷◌, ◌++◌, length, map, true, false, Option, Some, None, Result, Ok, Err, IfSome, refl, sym, ap, ◌∙◌}
use Rattle.std.proofs.Common.{subst, append-nil}
use Rattle.std.specs.Str.{bytes_eq}
use Rattle.std.specs.List.{IsDistinct}
use Rattle.std.proofs.lemmas.List.{length-map}
use Rattle.lk_io.specs.Run.{run}
use Rattle.lk_io.specs.Source.{SourceState, SourceRun, Tells}
use Rattle.lk_io.specs.Folder.{Files, FolderState, FolderRun}
use Rattle.lk_io.proofs.SourceLaws.{Consumes-none, Tells-front}
use Rattle.project_reports.specs.Projects as project
use Rattle.project_reading.specs.Texts.{text_seen}
use Rattle.project_reading.specs.declared.texts.NamedText.{NamedText}
use Rattle.text_reading.specs.Limits.{IsWithin, PassesIn}
use Rattle.text_reading.specs.Reading.{ReadsWhole, ReadEnds}
use Rattle.text_reading.specs.Inputs.{Input, Inputs, IsTold, HaveNoFault, HaveFault, of_source, of_folder}
use Rattle.text_reading.specs.Texts.{Refusal, no_file, too_large, ReadsAs, TextsReadAs, name_at, source_name}
use Rattle.text_reading.specs.Files.{HasFile, LacksFile, AreTexts, HasTexts, StopsAt, MissesFile, ReadsPastLimit, ReadsAll}
use Rattle.text_reading.specs.Ends.{AreRead, AreReadToFault, AreReadInPart, TextsEndAs, TextsAreRead, misses, placed, source_end}
use Rattle.text_reading.specs.declared.limits.Limits.{Limits}
use Rattle.text_reading.specs.declared.reading.ReadEnd.{ReadEnd}
use Rattle.text_reading.specs.declared.reading.ReadEnd.TheVariants as source_ends
use Rattle.text_reading.specs.declared.folder_texts.FileEnd.{FileEnd}
use Rattle.text_reading.specs.declared.folder_texts.FileEnd.TheVariants as file
use Rattle.text_reading.proofs.FolderLaws.{chosen, is_chosen, name_behind, ReadsAs-all, ReadsAs-missing, ReadsAs-past}

-- With some files named, the texts are theirs.
of_files : {limits : Limits} {outcome : Result (List project.NamedText) Refusal} (names : List (List ℕ)) (source : List ℕ) (files : Files) → names ≢ []
    → ReadsAs limits files names outcome → TextsReadAs limits names (record { source = source; files = files }) outcome
of_files [] source files some read = absurd (some refl)
of_files (name ∷ names) source files some read = read

module _ (limits : Limits) (source : SourceState) (folder : FolderRun) (names : List (List ℕ)) (some : names ≢ []) where
  -- the source is left alone
  inputs : Inputs
  inputs = record { source = run source source; folder = folder }

  told_source : (rest : List ℕ) × Tells source.left rest
  told_source = Tells-front (Consumes-none source)

  of_folder_read : {outcome : Result (List project.NamedText) Refusal} (read : List project.NamedText) (more : Files)
      → ReadsAs limits (chosen folder.before.files read more) names outcome → folder.now.faults ≡ folder.before.faults
      → AreRead limits names (record { source = run source source; folder = folder }) outcome
  of_folder_read read more is faults = record {
    input = record { source = told_source.0; files = chosen folder.before.files read more };
    told = record { source = told_source.1; files = is_chosen folder.before.files read more };
    read = of_files names told_source.0 (chosen folder.before.files read more) some is;
    no_fault = record { source = refl; folder = faults };
  }

  pub TextsAreRead-files : (read : List NamedText) → IsDistinct bytes_eq names → HasTexts limits folder names (map text_seen read) []
      → TextsAreRead limits names (record { source = run source source; folder = folder }) (Ok read)
  TextsAreRead-files read distinct has =
      let all : names ≡ has.front = has.whole ∙ append-nil has.front in (
        of_folder_read (map text_seen read) [] (ReadsAs-all folder.before.files distinct
            (subst (λ ns. AreTexts limits folder.before.files ns (map text_seen read)) (sym all) has.texts_are)) has.faults,
        record { front = []; taken = Consumes-none source; no_fault = record { source = refl; folder = has.faults } },
      )

  at_name : {Here : List ℕ → Type 0} (read : List NamedText) → (stop : StopsAt limits folder.before.files names (map text_seen read) Here)
      → name_at names (length read) ≡ stop.name
  at_name read stop =
      ap (λ ns. name_at ns (length read)) stop.whole ∙ ap (λ n. name_at (stop.front ++ stop.name ∷ stop.after) n) (sym (length-map read text_seen))
      ∙ name_behind stop.name stop.after stop.texts_are

  pub TextsEndAs-files : (T : Type 0) (read : List NamedText) (end : FileEnd) → IsDistinct bytes_eq names → ReadsAll {T = T} limits folder names read (Err end)
      → TextsEndAs limits names (record { source = run source source; folder = folder }) (placed end (length read))
  TextsEndAs-files T read file.Failed distinct is = record { front = []; taken = Consumes-none source; fault = of_folder is.fault refl }
  TextsEndAs-files T read file.Missing distinct stop =
      let apart : IsDistinct bytes_eq (stop.front ++ stop.name ∷ stop.after) = subst (λ ns. IsDistinct bytes_eq ns) stop.whole distinct in
      let is = ReadsAs-missing folder.before.files stop.name stop.after apart stop.texts_are stop.here.lacks in
      of_folder_read (map text_seen read) []
      (subst (λ name. ReadsAs limits (chosen folder.before.files (map text_seen read) []) names (Err (no_file name))) (sym (at_name read stop))
      (subst (λ ns. ReadsAs limits (chosen folder.before.files (map text_seen read) []) ns (Err (no_file stop.name))) (sym stop.whole) is))
      stop.here.reads.faults
  TextsEndAs-files T read (file.TooLarge line) distinct stop =
      let apart : IsDistinct bytes_eq (stop.front ++ stop.name ∷ stop.after) = subst (λ ns. IsDistinct bytes_eq ns) stop.whole distinct in
      let more : Files = (stop.name, stop.here.bytes) ∷ [] in
      let is = ReadsAs-past folder.before.files stop.name stop.here.bytes stop.after apart stop.texts_are stop.here.found stop.here.passes in
      of_folder_read (map text_seen read) more
      (subst (λ name. ReadsAs limits (chosen folder.before.files (map text_seen read) more) names (Err (too_large name line))) (sym (at_name read stop))
      (subst (λ ns. ReadsAs limits (chosen folder.before.files (map text_seen read) more) ns (Err (too_large stop.name line))) (sym stop.whole) is))
      stop.here.reads.faults
  TextsEndAs-files T read file.NoMemory distinct is =
      record { front = []; taken = Consumes-none source; no_fault = record { source = refl; folder = is.faults } }

-- Whether a file was missed is told.
pub misses-placed : (T : Type 0) (limits : Limits) (folder : FolderRun) (names : List (List ℕ)) (read : List NamedText) (end : FileEnd) (at : ℕ)
    → ReadsAll {T = T} limits folder names read (Err end) → folder.now.missed ≡ misses (Err (placed end at))
misses-placed T limits folder names read file.Failed at is = is.missed
misses-placed T limits folder names read file.Missing at stop = stop.here.reads.missed
misses-placed T limits folder names read (file.TooLarge line) at stop = stop.here.reads.missed
misses-placed T limits folder names read file.NoMemory at is = is.missed

-- Some files, told ones where there are.
pub told_files : (told : Option Files) → (files : Files) × IfSome told (λ own. own ≡ files)
told_files (Some files) = (files, refl)
told_files None = ([], tt)

-- ---- of a source

module _ (limits : Limits) (source : SourceRun) (folder : FolderState) where
  of_source_read : {outcome : Result (List project.NamedText) Refusal} (bytes : List ℕ) → Tells source.before.left bytes
      → ReadsAs limits ((source_name, bytes) ∷ []) (source_name ∷ []) outcome → source.now.faults ≡ source.before.faults
      → AreRead limits [] (record { source = source; folder = run folder folder }) outcome
  of_source_read bytes told is faults =
      let files = told_files folder.files in
      record {
        input = record { source = bytes; files = files.0 };
        told = record { source = told; files = files.1 };
        read = is;
        no_fault = record { source = faults; folder = refl };
      }

  pub TextsAreRead-source : (read : List NamedText) (bytes : List ℕ) → ReadsWhole limits source bytes
      → map text_seen read ≡ record { name = source_name; bytes = bytes } ∷ []
      → TextsAreRead limits [] (record { source = source; folder = run folder folder }) (Ok read)
  TextsAreRead-source read bytes whole is = (
    subst (λ texts. AreRead limits [] (record { source = source; folder = run folder folder }) (Ok texts)) (sym is)
        (of_source_read bytes whole.told (ReadsAs.text refl whole.within ReadsAs.none) whole.no_fault),
    record { front = bytes; taken = whole.taken; no_fault = record { source = whole.no_fault; folder = refl } },
  )

  pub TextsEndAs-source : (end : ReadEnd) → ReadEnds limits source end
      → TextsEndAs limits [] (record { source = source; folder = run folder folder }) (source_end end)
  TextsEndAs-source source_ends.ReadFault is = record { front = is.front; taken = is.taken; fault = of_source is.fault refl }
  TextsEndAs-source (source_ends.TooLarge line) past = of_source_read past.text past.told (ReadsAs.passes refl past.passes) past.no_fault
  TextsEndAs-source source_ends.NoMemory is = record { front = is.front; taken = is.taken; no_fault = record { source = is.no_fault; folder = refl } }

pub misses-source : (end : ReadEnd) → misses (Err (source_end end)) ≡ false
misses-source source_ends.ReadFault = refl
misses-source (source_ends.TooLarge line) = refl
misses-source source_ends.NoMemory = refl
