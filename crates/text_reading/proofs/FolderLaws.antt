-- The files of a folder that tells none: those that were read.
use Rattle.std.proofs.Common.{◌≡◌, ℕ, suc, List, [], ◌∷◌, ◌++◌, length, map, Bool, true, false, Option, Some, None, Ok, Err, IfSome, cond, refl, sym, ap, ◌∙◌}
use Rattle.std.proofs.Common.{subst, append-nil}
use Rattle.std.specs.Prelude.{slice_get}
use Rattle.std.specs.Str.{bytes_eq}
use Rattle.std.specs.List.{AllByRecursion, IsDistinct}
use Rattle.std.proofs.lemmas.Slice.Eq.{bytes_eq-Decides}
use Rattle.lk_io.specs.Folder.{Files, file_of}
use Rattle.project_reports.specs.Projects.{NamedText}
use Rattle.text_reading.specs.Limits.{IsWithin, PassesIn}
use Rattle.text_reading.specs.Texts.{Refusal, no_file, too_large, ReadsAs, name_at, source_name}
use Rattle.text_reading.specs.Files.{HasFile, LacksFile, AreTexts}
use Rattle.text_reading.specs.declared.limits.Limits.{Limits}

-- a text as a file
abbrev pub as_file : NamedText → List ℕ × List ℕ
as_file text = (text.name, text.bytes)

-- The told files, or else texts that were read and these.
abbrev pub chosen : Option Files → List NamedText → Files → Files
chosen (Some files) read more = files
chosen None read more = map as_file read ++ more

pub is_chosen : (told : Option Files) (read : List NamedText) (more : Files) → IfSome told (λ files. files ≡ chosen told read more)
is_chosen (Some files) read more = refl
is_chosen None read more = tt

found_here : (name bytes : List ℕ) (files : Files) → file_of ((name, bytes) ∷ files) name ≡ Some bytes
found_here name bytes files = ap (λ b. cond b (Some bytes) (file_of files name)) ((bytes_eq-Decides name name).1 refl)

found_later : (name bytes other : List ℕ) (files : Files) → bytes_eq name other ≡ false → file_of ((name, bytes) ∷ files) other ≡ file_of files other
found_later name bytes other files differs = ap (λ b. cond b (Some bytes) (file_of files other)) differs

-- A file of another name changes nothing.
with_another : {limits : Limits} (name bytes : List ℕ) (after : List (List ℕ)) (files : Files) {names : List (List ℕ)} {read : List NamedText}
    → AllByRecursion (λ other. bytes_eq name other ≡ false) (names ++ after)
    → AreTexts limits (Some files) names read → AreTexts limits (Some ((name, bytes) ∷ files)) names read
with_another name bytes after files others AreTexts.none = AreTexts.none
with_another name bytes after files others (AreTexts.more {name = other} found within rest) =
    AreTexts.more (found_later name bytes other files others.0 ∙ found) within (with_another name bytes after files others.1 rest)

module _ {limits : Limits} where
  -- The texts that were read are the files of their names, among them and more.
  AreTexts-own : {names : List (List ℕ)} {read : List NamedText} (after : List (List ℕ)) (more : Files) → IsDistinct bytes_eq (names ++ after)
      → AreTexts limits None names read → AreTexts limits (Some (map as_file read ++ more)) names read
  unfolding IsDistinct
  AreTexts-own after more distinct AreTexts.none = AreTexts.none
  AreTexts-own after more distinct (AreTexts.more {name} {bytes} {texts = read} found within rest) =
      AreTexts.more (found_here name bytes (map as_file read ++ more)) within
      (with_another name bytes after (map as_file read ++ more) distinct.0 (AreTexts-own after more distinct.1 rest))

  -- What stands among them of another name is what stands behind them.
  behind_own : {names : List (List ℕ)} {read : List NamedText} (name : List ℕ) (after : List (List ℕ)) (more : Files)
      → IsDistinct bytes_eq (names ++ name ∷ after)
      → AreTexts limits None names read → file_of (map as_file read ++ more) name ≡ file_of more name
  unfolding IsDistinct
  behind_own name after more distinct AreTexts.none = refl
  behind_own name after more distinct (AreTexts.more {name = first} {bytes} {names} {texts = read} found within rest) =
      found_later first bytes name (map as_file read ++ more) (among names distinct.0) ∙ behind_own name after more distinct.1 rest
    where
      among : (names : List (List ℕ)) → AllByRecursion (λ other. bytes_eq first other ≡ false) (names ++ name ∷ after) → bytes_eq first name ≡ false
      among [] all = all.0
      among (n ∷ names) all = among names all.1

  AreTexts-chosen : (told : Option Files) {names : List (List ℕ)} {read : List NamedText} (after : List (List ℕ)) (more : Files)
      → IsDistinct bytes_eq (names ++ after)
      → AreTexts limits told names read → AreTexts limits (Some (chosen told read more)) names read
  AreTexts-chosen (Some files) after more distinct is = is
  AreTexts-chosen None after more distinct is = AreTexts-own after more distinct is

  -- All were read.
  ReadsAs-texts : {files : Files} {names : List (List ℕ)} {read : List NamedText} → AreTexts limits (Some files) names read
      → ReadsAs limits files names (Ok read)
  ReadsAs-texts AreTexts.none = ReadsAs.none
  ReadsAs-texts (AreTexts.more found within rest) = ReadsAs.text found within (ReadsAs-texts rest)

  -- Those before one that was not read were.
  ReadsAs-stopped : {files : Files} {names left : List (List ℕ)} {read : List NamedText} {why : Refusal} → AreTexts limits (Some files) names read
      → ReadsAs limits files left (Err why) → ReadsAs limits files (names ++ left) (Err why)
  ReadsAs-stopped AreTexts.none stop = stop
  ReadsAs-stopped (AreTexts.more found within rest) stop = ReadsAs.behind found within (ReadsAs-stopped rest stop)

  -- The name behind those of the texts that were read.
  pub name_behind : {told : Option Files} {names : List (List ℕ)} {read : List NamedText} (name : List ℕ) (after : List (List ℕ))
      → AreTexts limits told names read
      → name_at (names ++ name ∷ after) (length read) ≡ name
  name_behind name after AreTexts.none = refl
  name_behind name after (AreTexts.more found within rest) = name_behind name after rest

  pub ReadsAs-all : (told : Option Files) {names : List (List ℕ)} {read : List NamedText} → IsDistinct bytes_eq names → AreTexts limits told names read
      → ReadsAs limits (chosen told read []) names (Ok read)
  ReadsAs-all told {names} distinct is =
      ReadsAs-texts (AreTexts-chosen told [] [] (subst (λ ns. IsDistinct bytes_eq ns) (sym (append-nil names)) distinct) is)

  pub ReadsAs-missing : (told : Option Files) {names : List (List ℕ)} {read : List NamedText} (name : List ℕ) (after : List (List ℕ))
      → IsDistinct bytes_eq (names ++ name ∷ after) → AreTexts limits told names read → LacksFile told name
      → ReadsAs limits (chosen told read []) (names ++ name ∷ after) (Err (no_file name))
  ReadsAs-missing told {names} {read} name after distinct is lacks =
      ReadsAs-stopped (AreTexts-chosen told (name ∷ after) [] distinct is) (ReadsAs.missing (none told is lacks))
    where
      none : (told : Option Files) → AreTexts limits told names read → LacksFile told name → file_of (chosen told read []) name ≡ None
      none (Some files) is lacks = lacks
      none None is lacks = behind_own name after [] distinct is

  pub ReadsAs-past : (told : Option Files) {names : List (List ℕ)} {read : List NamedText} {line : ℕ} (name bytes : List ℕ) (after : List (List ℕ))
      → IsDistinct bytes_eq (names ++ name ∷ after) → AreTexts limits told names read → HasFile told name bytes → PassesIn limits bytes line
      → ReadsAs limits (chosen told read ((name, bytes) ∷ [])) (names ++ name ∷ after) (Err (too_large name line))
  ReadsAs-past told {names} {read} name bytes after distinct is found past =
      ReadsAs-stopped (AreTexts-chosen told (name ∷ after) ((name, bytes) ∷ []) distinct is) (ReadsAs.passes (some told is found) past)
    where
      some : (told : Option Files) → AreTexts limits told names read → HasFile told name bytes
          → file_of (chosen told read ((name, bytes) ∷ [])) name ≡ Some bytes
      some (Some files) is found = found
      some None is found = behind_own name after ((name, bytes) ∷ []) distinct is ∙ found_here name bytes []
