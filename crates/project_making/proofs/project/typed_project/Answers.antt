use Rattle.std.proofs.Common.{◌∙◌, ap, map, subst}
use Rattle.project_files.specs.Files.{file_of, file_seen}
use Rattle.project_making.specs.Projects.{ArePartsOf}
use Rattle.project_making.proofs.Whole.{typed_is, well_typed}
use Rattle.project_making.proofs.project.typed_project.Goals as goal

pub new-requires : goal.new-requires
new-requires c =
    let files = map file_seen c.args.files.now in
    well_typed c.in_ok-parts.parts files c.requires
    (subst (ArePartsOf c.in_ok-parts.parts) (ap (map file_of) c.as_slice.ensures.value ∙ c.in_ok-ordered.ensures) c.in_ok-parts.ensures)

pub returns : goal.returns
returns c =
    let files = map file_seen c.args.files.now in
    typed_is c.in_ok-parts.parts files c.new.result
    (subst (ArePartsOf c.in_ok-parts.parts) (ap (map file_of) c.as_slice.ensures.value ∙ c.in_ok-ordered.ensures) c.in_ok-parts.ensures)
    c.new.ensures.program c.new.ensures.files c.new.ensures.records c.new.ensures.globals c.new.ensures.nodes
