use Rattle.std.proofs.Common.{◌≡◌, ◌++◌, ◌∷◌, ◌+◌, ◌∙◌, [], map, take, ap, sym}
use Rattle.std.specs.List.{insert}
use Rattle.std.proofs.lemmas.List.{map_more}
use Rattle.type_rules.specs.Projects.{in_order}
use Rattle.project_files.specs.Files.{file_of, file_seen, place_behind}
use Rattle.project_files.proofs.Sorting.{inserted, map-insert, ordered_more, with_behind}
use Rattle.project_files.proofs.files.in_order.Goals as goal

pub loop-file-preserved : goal.loop-file-preserved
loop-file-preserved c =
    let i = c.loop-file.file-index in
    let file = file_seen c.file-item.result in
    let before = map file_seen (take i c.args.files.now) in
    let ordered = map file_of c.loop-file.ordered.items in
    let more : map file_seen (take (i + 1) c.args.files.now) ≡ before ++ file ∷ [] =
    map_more file_seen c.args.files.now i c.file-item.result c.loop-file-test.true ∙ ap (λ x. before ++ file_seen x ∷ []) (sym c.file-item.is) in
    let place : c.place_behind-at.result ≡ place_behind file ordered = c.place_behind-at.ensures.place ∙ ap (λ xs. place_behind file (map file_of xs)) c.as_slice.ensures.value in
    ap (map file_of) c.in_ok-insert.ensures.items
    ∙ map-insert file_of c.loop-file.ordered.items c.place_behind-at.result _
    ∙ ap (λ n. insert ordered n file) place
    ∙ inserted file ordered
    ∙ ap (with_behind file) c.loop-file.invariant
    ∙ sym (ordered_more before file)
    ∙ ap in_order (sym more)
