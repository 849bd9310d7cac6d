-- One file that is read, and several one after the other.
use Rattle.std.proofs.Common.{◌≡◌, ℕ, ◌+◌, ◌≤◌, List, [], ◌∷◌, ◌++◌, length, take, drop, map, Bool, true, false, Option, Some, None, Result, Ok, Err, IfSome}
use Rattle.std.proofs.Common.{refl, sym, ap, ◌∙◌, subst, arith, append_assoc}
use Rattle.std.proofs.lemmas.List.{take_all, length-take, take-append-drop}
use Rattle.lk_io.specs.Run.{run, Rose}
use Rattle.lk_io.specs.Folder.{Files, FolderState, FolderRun, HasFound, Reads, file_of}
use Rattle.lk_io.specs.declared.folders.Found.TheVariants.{File, Missing as missing}
use Rattle.lk_io.specs.declared.folders.FolderEnd.TheVariants.{Failed as failed, NoMemory as no_memory}
use Rattle.project_reports.specs.Projects as project
use Rattle.project_reading.specs.Texts.{text_seen}
use Rattle.project_reading.specs.declared.texts.NamedText.{NamedText}
use Rattle.text_reading.specs.Limits.{IsWithin, PassesIn}
use Rattle.text_reading.specs.Files.{HasFile, LacksFile, ReadsOn, FailsRead, ReadsText, ReadsPastLimit, MissesFile, ReadsFile, IsTextWithin, AreTexts}
use Rattle.text_reading.specs.Files.{HasTexts, StopsAt, ReadsAll}
use Rattle.text_reading.specs.declared.limits.Limits.{Limits}
use Rattle.text_reading.specs.declared.folder_texts.FileEnd.{FileEnd}
use Rattle.text_reading.specs.declared.folder_texts.FileEnd.TheVariants.{Failed, Missing, TooLarge, NoMemory}
use Rattle.text_reading.proofs.LimitLaws.{PassesIn-append}

-- What is no longer than the limit is the whole file.
whole_found : {buffer : List ℕ} (found : Option (List ℕ)) (limit : ℕ) → HasFound found limit buffer File → length buffer ≤ limit → found ≡ Some buffer
whole_found {buffer} (Some bytes) limit is few =
    let sizes : length buffer ≡ length (take (limit + 1) bytes) = ap length is in
    let short : length bytes ≤ limit + 1 = omega (arith, length-take (limit + 1) bytes) in
    ap Some (sym (is ∙ take_all (limit + 1) bytes short))
whole_found None limit is few = absurd is

pub HasFile-whole : (name buffer : List ℕ) (told : Option Files) (limit : ℕ) → IfSome told (λ files. HasFound (file_of files name) limit buffer File)
    → length buffer ≤ limit → HasFile told name buffer
HasFile-whole name buffer (Some files) limit is few = whole_found (file_of files name) limit is few
HasFile-whole name buffer None limit is few = tt

lacks : (buffer : List ℕ) (found : Option (List ℕ)) (limit : ℕ) → HasFound found limit buffer missing → found ≡ None
lacks buffer (Some bytes) limit is = absurd is
lacks buffer None limit is = refl

pub LacksFile-missing : (name buffer : List ℕ) (told : Option Files) (limit : ℕ) → IfSome told (λ files. HasFound (file_of files name) limit buffer missing)
    → LacksFile told name
LacksFile-missing name buffer (Some files) limit is = lacks buffer (file_of files name) limit is
LacksFile-missing name buffer None limit is = tt

-- A front of the file that is past a limit tells that the file is.
past_found : {limits : Limits} {buffer : List ℕ} {line : ℕ} (found : Option (List ℕ)) (limit : ℕ) → HasFound found limit buffer File
    → PassesIn limits buffer line
    → (bytes : List ℕ) × (found ≡ Some bytes) × PassesIn limits bytes line
past_found {limits} {buffer} {line} (Some bytes) limit is past =
    let more : buffer ++ drop (limit + 1) bytes ≡ bytes = ap (λ front. front ++ drop (limit + 1) bytes) is ∙ take-append-drop (limit + 1) bytes in
    (bytes, refl, subst (λ whole. PassesIn limits whole line) more (PassesIn-append limits buffer (drop (limit + 1) bytes) line past))
past_found None limit is past = absurd is

past_told : (limits : Limits) (name buffer : List ℕ) (line : ℕ) (told : Option Files) (limit : ℕ)
    → IfSome told (λ files. HasFound (file_of files name) limit buffer File)
    → PassesIn limits buffer line → (bytes : List ℕ) × HasFile told name bytes × PassesIn limits bytes line
past_told limits name buffer line (Some files) limit is past = past_found (file_of files name) limit is past
past_told limits name buffer line None limit is past = (buffer, tt, past)

-- A file was found and read up to the limit.
pub ReadsFile-found : (limits : Limits) (folder : FolderRun) (name buffer : List ℕ) (result : Result NamedText FileEnd)
    → Reads folder name limits.bytes buffer (Ok File) → IsTextWithin limits name buffer result → ReadsFile limits folder name result
ReadsFile-found limits folder name buffer (Ok text) reads is =
    let found : HasFile folder.before.files name buffer = HasFile-whole name buffer folder.before.files limits.bytes reads.found is.1.bytes in
    record {
      named = ap (λ (t : project.NamedText). t.name) is.0;
      found = subst (λ bytes. HasFile folder.before.files name bytes) (sym (ap (λ (t : project.NamedText). t.bytes) is.0)) found;
      within = subst (λ bytes. IsWithin limits bytes) (sym (ap (λ (t : project.NamedText). t.bytes) is.0)) is.1;
      reads = record { files = reads.files; faults = reads.cause; missed = reads.missed };
    }
ReadsFile-found limits folder name buffer (Err Failed) reads is = absurd is
ReadsFile-found limits folder name buffer (Err Missing) reads is = absurd is
ReadsFile-found limits folder name buffer (Err (TooLarge line)) reads is =
    let past = past_told limits name buffer line folder.before.files limits.bytes reads.found is in
    record { bytes = past.0; found = past.1; passes = past.2; reads = record { files = reads.files; faults = reads.cause; missed = reads.missed } }
ReadsFile-found limits folder name buffer (Err NoMemory) reads is = record { files = reads.files; faults = reads.cause; missed = reads.missed }

-- None was found.
pub ReadsFile-missing : {folder : FolderRun} {name buffer : List ℕ} {limit : ℕ} → Reads folder name limit buffer (Ok missing) → MissesFile folder name
ReadsFile-missing {folder} {name} {buffer} {limit} reads = record {
  lacks = LacksFile-missing name buffer folder.before.files limit reads.found;
  reads = record { files = reads.files; faults = reads.cause; missed = reads.missed };
}

pub FailsRead-failed : {folder : FolderRun} {name buffer : List ℕ} {limit : ℕ} → Reads folder name limit buffer (Err failed) → FailsRead folder
FailsRead-failed reads = record { files = reads.files; fault = reads.cause; missed = reads.missed }

pub ReadsOn-refused : {folder : FolderRun} {name buffer : List ℕ} {limit : ℕ} → Reads folder name limit buffer (Err no_memory) → ReadsOn folder false
ReadsOn-refused reads = record { files = reads.files; faults = reads.cause; missed = reads.missed }

-- ---- one file after the other

-- One text more.
AreTexts-push : {limits : Limits} {told : Option Files} {names : List (List ℕ)} {read : List project.NamedText} (text : project.NamedText)
    → AreTexts limits told names read → HasFile told text.name text.bytes → IsWithin limits text.bytes
    → AreTexts limits told (names ++ text.name ∷ []) (read ++ text ∷ [])
AreTexts-push text AreTexts.none found within = AreTexts.more found within AreTexts.none
AreTexts-push text (AreTexts.more f w rest) found within = AreTexts.more f w (AreTexts-push text rest found within)

pub HasTexts-none : (limits : Limits) (state : FolderState) (names : List (List ℕ)) → HasTexts limits (run state state) names [] names
HasTexts-none limits state names = record { front = []; whole = refl; texts_are = AreTexts.none; files = refl; faults = refl; missed = λ before. before }

pub HasTexts-more : {limits : Limits} {a b c : FolderState} {names left : List (List ℕ)} {name : List ℕ} {read : List project.NamedText}
    {text : project.NamedText}
    → HasTexts limits (run a b) names read (name ∷ left) → ReadsText limits (run b c) name text → HasTexts limits (run a c) names (read ++ text ∷ []) left
HasTexts-more {limits} {a} {b} {c} {names} {left} {name} {read} {text} so_far next =
    let found : HasFile a.files text.name text.bytes = subst (λ files. HasFile files text.name text.bytes) so_far.files
    (subst (λ n. HasFile b.files n text.bytes) (sym next.named) next.found) in
    let whole : names ≡ (so_far.front ++ text.name ∷ []) ++ left =
    so_far.whole ∙ ap (λ n. so_far.front ++ n ∷ left) (sym next.named) ∙ sym (append_assoc so_far.front (text.name ∷ []) left) in
    record {
      front = so_far.front ++ text.name ∷ [];
      whole = whole;
      texts_are = AreTexts-push text so_far.texts_are found next.within;
      files = next.reads.files ∙ so_far.files;
      faults = next.reads.faults ∙ so_far.faults;
      missed = λ before. next.reads.missed;
    }

-- Memory ran out behind a text that was read.
pub ReadsOn-then : {limits : Limits} {a b c : FolderState} {names left : List (List ℕ)} {read : List project.NamedText} {missed : Bool}
    → HasTexts limits (run a b) names read left → ReadsOn (run b c) missed → ReadsOn (run a c) missed
ReadsOn-then so_far next = record { files = next.files ∙ so_far.files; faults = next.faults ∙ so_far.faults; missed = next.missed }

-- The next was not read.
pub ReadsAll-stopped : (T : Type 0) (limits : Limits) (a b c : FolderState) (names left : List (List ℕ)) (name : List ℕ) (read : List NamedText) (end : FileEnd)
    → HasTexts limits (run a b) names (map text_seen read) (name ∷ left) → ReadsFile limits (run b c) name (Err end)
    → ReadsAll {T = T} limits (run a c) names read (Err end)
ReadsAll-stopped T limits a b c names left name read Failed so_far next = record {
  files = next.files ∙ so_far.files;
  fault = subst (λ n. Rose n c.faults) so_far.faults next.fault;
  missed = next.missed;
}
ReadsAll-stopped T limits a b c names left name read Missing so_far next = record {
  front = so_far.front;
  name = name;
  after = left;
  whole = so_far.whole;
  texts_are = so_far.texts_are;
  here = record { lacks = subst (λ files. LacksFile files name) so_far.files next.lacks; reads = ReadsOn-then so_far next.reads };
}
ReadsAll-stopped T limits a b c names left name read (TooLarge line) so_far next = record {
  front = so_far.front;
  name = name;
  after = left;
  whole = so_far.whole;
  texts_are = so_far.texts_are;
  here = record {
    bytes = next.bytes;
    found = subst (λ files. HasFile files name next.bytes) so_far.files next.found;
    passes = next.passes;
    reads = ReadsOn-then so_far next.reads;
  };
}
ReadsAll-stopped T limits a b c names left name read NoMemory so_far next = ReadsOn-then so_far next
