use Rattle.std.proofs.Common.{◌∙◌, ap, map}
use Rattle.std.proofs.lemmas.Result.{IfOk-weaker}
use Rattle.project_files.specs.Files.{decl_of}
use Rattle.project_making.proofs.project.ordered_parts.Goals as goal

pub returns : goal.returns
returns c =
    IfOk-weaker c.parts_among.result _ _ (λ parts h. h (ap (map decl_of) c.as_slice.ensures.value ∙ c.in_ok-decls.ensures)) c.parts_among.ensures
