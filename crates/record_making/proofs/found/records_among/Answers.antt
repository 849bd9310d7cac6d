use Rattle.std.proofs.Common.{◌≡◌, ◌++◌, ◌∷◌, ◌+◌, ◌∙◌, [], append-nil, map, take, ap, refl, sym}
use Rattle.std.proofs.lemmas.List.{map_more}
use Rattle.project_files.specs.Files.{decl_of}
use Rattle.record_making.specs.Records.{record_seen}
use Rattle.record_making.proofs.Making.{found_next}
use Rattle.record_making.proofs.found.records_among.Goals as goal
use Rattle.record_making.proofs.found.records_among.Goals.{in-Some+in_ok-push-in-Some, in-None}

pub loop-decl-preserved : goal.loop-decl-preserved
loop-decl-preserved c =
    let i = c.loop-decl.decl-index in
    let before = map decl_of (take i c.args.decls.now) in
    let decl = decl_of c.decl-item.result in
    let all = map decl_of (take (i + 1) c.args.decls.now) in
    let found = c.loop-decl.records.items in
    let more : all ≡ before ++ decl ∷ [] =
    map_more decl_of c.args.decls.now i c.decl-item.result c.loop-decl-test.true ∙ ap (λ x. before ++ decl_of x ∷ []) (sym c.decl-item.is) in
    elim c.match-record_of.branch [
      | in-Some+in_ok-push-in-Some w ↦
          ap (λ v. map record_seen v.items) w.records-is
          ∙ found_next found _ (w.in-Some.record ∷ []) before all decl _ more w.in-Some.ensures w.in_ok-push-in-Some.ensures.items refl c.loop-decl.invariant
      | in-None w ↦
          ap (λ v. map record_seen v.items) w.records-is
          ∙ found_next found found [] before all decl _ more w.in-None.ensures (sym (append-nil found)) refl c.loop-decl.invariant
    ]
