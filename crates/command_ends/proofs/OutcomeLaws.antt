-- What reading some texts comes to is one thing.
use Rattle.std.proofs.Common.{◌≡◌, ℕ, List, [], ◌∷◌, Some, None, Option, IfSome, Result, Ok, Err, refl, sym, ap, ap₂, ◌∙◌, subst}
use Rattle.lk_io.specs.Source.{Tells}
use Rattle.lk_io.specs.Folder.{Files, file_of}
use Rattle.project_reports.specs.Projects.{NamedText}
use Rattle.text_reading.specs.Limits.{IsWithin, PassesIn}
use Rattle.text_reading.specs.Inputs.{Input, Inputs, IsTold}
use Rattle.text_reading.specs.Texts.{Refusal, too_large, ReadsAs, TextsReadAs, source_name, text_files, text_names}
use Rattle.text_reading.specs.declared.limits.Limits.{Limits}
use Rattle.text_reading.proofs.LimitLaws.{past_or_within, one_line}
use Rattle.command_ends.specs.Refusals.{TellsTexts}

-- a file has one content
one_file : (files : Files) (name : List ℕ) {a b : List ℕ} → file_of files name ≡ Some a → file_of files name ≡ Some b → a ≡ b
one_file files name {a} {b} e f = some (sym e ∙ f)
  where
    some : Some a ≡ Some b → a ≡ b
    some same = cc

not_both : (files : Files) (name : List ℕ) {a : List ℕ} → file_of files name ≡ None → file_of files name ≡ Some a → ⊥
not_both files name {a} e f = none (sym e ∙ f)
  where
    none : None ≡ Some a → ⊥
    none same = cc

not_past : (limits : Limits) (files : Files) (name : List ℕ) {a b : List ℕ} {line : ℕ} → file_of files name ≡ Some a → PassesIn limits a line
    → file_of files name ≡ Some b → IsWithin limits b → ⊥
not_past limits files name e past f within =
    past_or_within past (subst (λ bytes. IsWithin limits bytes) (one_file files name f e) within)

ok_or_err : {texts : List NamedText} {why : Refusal} → Ok texts ≡ Err why → ⊥
ok_or_err same = cc

abbrev with_no_refusal : List NamedText → Result (List NamedText) Refusal
with_no_refusal texts = Ok texts

same_texts : {a b : List NamedText} → with_no_refusal a ≡ with_no_refusal b → a ≡ b
same_texts e = cc

with_text : (name : List ℕ) {bytes bytes' : List ℕ} {texts texts' : List NamedText} → bytes ≡ bytes' → texts ≡ texts'
    → with_no_refusal (record { name = name; bytes = bytes } ∷ texts) ≡ with_no_refusal (record { name = name; bytes = bytes' } ∷ texts')
with_text name same more = ap₂ (λ b t. with_no_refusal (record { name = name; bytes = b } ∷ t)) same more

pub one_outcome : {limits : Limits} {files : Files} {names : List (List ℕ)} {a b : Result (List NamedText) Refusal}
    → ReadsAs limits files names a → ReadsAs limits files names b → a ≡ b
one_outcome ReadsAs.none ReadsAs.none = refl
one_outcome (ReadsAs.missing e) (ReadsAs.missing f) = refl
one_outcome {limits} {files} (ReadsAs.missing {name} e) (ReadsAs.passes f past) = absurd (not_both files name e f)
one_outcome {limits} {files} (ReadsAs.missing {name} e) (ReadsAs.text f within rest) = absurd (not_both files name e f)
one_outcome {limits} {files} (ReadsAs.missing {name} e) (ReadsAs.behind f within rest) = absurd (not_both files name e f)
one_outcome {limits} {files} (ReadsAs.passes {name} e past) (ReadsAs.missing f) = absurd (not_both files name f e)
one_outcome {limits} {files} (ReadsAs.passes {name} {line = line} e past) (ReadsAs.passes {line = line'} f past') =
    ap (λ l. Err (too_large name l)) (one_line past (subst (λ bytes. PassesIn limits bytes line') (one_file files name f e) past'))
one_outcome {limits} {files} (ReadsAs.passes {name} e past) (ReadsAs.text f within rest) = absurd (not_past limits files name e past f within)
one_outcome {limits} {files} (ReadsAs.passes {name} e past) (ReadsAs.behind f within rest) = absurd (not_past limits files name e past f within)
one_outcome {limits} {files} (ReadsAs.text {name} e within rest) (ReadsAs.missing f) = absurd (not_both files name f e)
one_outcome {limits} {files} (ReadsAs.text {name} e within rest) (ReadsAs.passes f past) = absurd (not_past limits files name f past e within)
one_outcome {limits} {files} (ReadsAs.text {name} {bytes} {texts} e within rest) (ReadsAs.text {bytes = bytes'} {texts = texts'} f within' rest') =
    with_text name (one_file files name e f) (same_texts (one_outcome rest rest'))
one_outcome (ReadsAs.text e within rest) (ReadsAs.behind f within' rest') = absurd (ok_or_err (one_outcome rest rest'))
one_outcome {limits} {files} (ReadsAs.behind {name} e within rest) (ReadsAs.missing f) = absurd (not_both files name f e)
one_outcome {limits} {files} (ReadsAs.behind {name} e within rest) (ReadsAs.passes f past) = absurd (not_past limits files name f past e within)
one_outcome (ReadsAs.behind e within rest) (ReadsAs.text f within' rest') = absurd (ok_or_err (sym (one_outcome rest rest')))
one_outcome (ReadsAs.behind e within rest) (ReadsAs.behind f within' rest') = one_outcome rest rest'

-- what is told is one thing
told_bytes : {left : Option (List ℕ)} {bytes told : List ℕ} → left ≡ Some told → Tells left bytes → told ≡ bytes
told_bytes {left} {bytes} e tells = rw e at tells

told_files : {left : Option Files} {files told : Files} → left ≡ Some told → IfSome left (λ own. own ≡ files) → told ≡ files
told_files {left} {files} e tells = rw e at tells

same_files : (names : List (List ℕ)) {inputs : Inputs} {input : Input} (told : Input) → IsTold inputs input → TellsTexts names inputs told
    → text_files names told ≡ text_files names input
same_files [] told is e = ap (λ bytes. (source_name, bytes) ∷ []) (told_bytes e is.source)
same_files (name ∷ names) told is e = told_files e is.files

-- Of told inputs what reading them comes to is the same.
pub told_outcome : {limits : Limits} (names : List (List ℕ)) {inputs : Inputs} {input : Input} (told : Input) {a b : Result (List NamedText) Refusal}
    → IsTold inputs input → TextsReadAs limits names input a → TellsTexts names inputs told → TextsReadAs limits names told b → a ≡ b
told_outcome {limits} names {inputs} {input} told {a} {b} is read tells read' =
    one_outcome read (subst (λ files. ReadsAs limits files (text_names names) b) (same_files names told is tells) read')
