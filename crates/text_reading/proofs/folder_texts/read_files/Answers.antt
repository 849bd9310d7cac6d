use Rattle.std.proofs.Common.{◌≡◌, List, [], ◌∷◌, ◌++◌, map, sym, ap, ◌∙◌, subst}
use Rattle.std.specs.String.{string_bytes}
use Rattle.std.proofs.lemmas.List.{map-append}
use Rattle.lk_io.specs.Run.{run}
use Rattle.project_reading.specs.Texts.{text_seen}
use Rattle.text_reading.specs.Files.{HasTexts, ReadsText}
use Rattle.text_reading.proofs.FileLaws.{HasTexts-none, HasTexts-more}
use Rattle.text_reading.proofs.folder_texts.read_files.Goals as goal

pub files-init : goal.files-init
files-init g c =
    let names = map string_bytes c.args.names.now in
    let state = g.F.Folder.state c.args.folder.now in
    subst (λ texts. HasTexts c.args.limits (run state state) names (map text_seen texts) names) (sym c.requires) (HasTexts-none c.args.limits state names)

pub files-preserved : goal.files-preserved
files-preserved g c =
    let a = g.F.Folder.state c.args.folder.now in
    let b = g.F.Folder.state c.files.folder in
    let d = g.F.Folder.state c.read_file.new.folder in
    let names = map string_bytes c.args.names.now in
    let left = map string_bytes c.in-Some.rest.now in
    let name = string_bytes c.in-Some.name.now in
    let before =
    subst (λ rest. HasTexts c.args.limits (run a b) names (map text_seen c.files.texts) rest) (ap (map string_bytes) c.in-Some.ensures.cases.0) c.files.invariant in
    let here = subst (λ n. ReadsText c.args.limits (run b d) n (text_seen c.in_ok-text.text)) c.as_str.ensures.value c.in_ok-text.ensures in
    let pushed = ap (map text_seen) c.in_ok-push.ensures.ok ∙ map-append text_seen c.files.texts (c.in_ok-text.text ∷ []) in
    subst (λ texts. HasTexts c.args.limits (run a d) names texts left) (sym pushed) (HasTexts-more before here)
