use Rattle.std.proofs.Common.{◌≡◌, ◌∙◌, [], ap, map}
use Rattle.name_maps.specs.Names.{named}
use Rattle.project_files.specs.Files.{decl_of, numbers_with}
use Rattle.project_files.proofs.Numbering.{numbers_are, text_of}
use Rattle.project_files.proofs.numbers.method_numbers.Goals as goal

pub returns : goal.returns
returns c = λ text among.
    ap (λ numbers. named numbers text) (c.in_ok-numbers.ensures ∙ ap (λ ns. numbers_with [] 0 (map text_of ns)) c.as_slice.ensures.value)
    ∙ numbers_are (map decl_of c.args.decls.now) c.in_ok-names.names.items c.sort.new.self.items text c.in_ok-names.ensures c.in_ok-sort.ensures.permutation c.in_ok-sort.ensures.sorted among
