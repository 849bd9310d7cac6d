use Rattle.std.proofs.Common.{◌≡◌, ℕ, List, ◌++◌, ◌∷◌, ◌+◌, ◌∙◌, [], map, take, ap, sym}
use Rattle.std.specs.List.{insert}
use Rattle.std.proofs.lemmas.List.{map_more}
use Rattle.project_reports.specs.Projects.{NamedText, in_order}
use Rattle.project_reading.specs.Texts.{text_of, text_seen, place_behind}
use Rattle.project_reading.proofs.Sorting.{inserted, map-insert, ordered_more, with_behind}
use Rattle.project_reading.proofs.texts.in_order.Goals as goal

abbrev named : NamedText → List ℕ
named text = text.name

pub loop-text-preserved : goal.loop-text-preserved
loop-text-preserved c =
    let i = c.loop-text.text-index in
    let text = text_seen c.text-item.result in
    let before = map text_seen (take i c.args.texts.now) in
    let ordered = map text_of c.loop-text.ordered.items in
    let more : map text_seen (take (i + 1) c.args.texts.now) ≡ before ++ text ∷ [] =
    map_more text_seen c.args.texts.now i c.text-item.result c.loop-text-test.true ∙ ap (λ x. before ++ text_seen x ∷ []) (sym c.text-item.is) in
    let place : c.place_behind-at.result ≡ place_behind named text ordered = c.place_behind-at.ensures.place ∙ ap (λ xs. place_behind named text (map text_of xs)) c.as_slice.ensures.value in
    ap (map text_of) c.in_ok-insert.ensures.items
    ∙ map-insert text_of c.loop-text.ordered.items c.place_behind-at.result _
    ∙ ap (λ n. insert ordered n text) place
    ∙ inserted named text ordered
    ∙ ap (with_behind named text) c.loop-text.invariant
    ∙ sym (ordered_more named before text)
    ∙ ap in_order (sym more)
