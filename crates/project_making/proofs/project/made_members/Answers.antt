use Rattle.std.proofs.Common.{◌∙◌, map, refl, rules}
use Rattle.project_files.specs.Files.{file_of}
use Rattle.project_making.proofs.Whole.{members_are}
use Rattle.project_making.proofs.project.made_members.Goals as goal

pub returns : goal.returns
returns c = λ all project fields.
    members_are c.args.globals _ c.add_files.new.nodes.places _ c.add_files.new.members _ all (map file_of c.args.files.now)
    c.new-places.ensures c.new-found.ensures (search rules) (c.in_ok-add_files.ensures all project fields) refl refl
    (c.from_vec.ensures ∙ c.in_ok-sort_methods.ensures)
