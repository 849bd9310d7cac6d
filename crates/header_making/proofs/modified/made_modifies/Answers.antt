use Rattle.std.proofs.Common.{◌∙◌, ap, map}
use Rattle.std.proofs.lemmas.List.{take_all}
use Rattle.slang_tree.specs.declared.expression.Name.{Name}
use Rattle.type_rules.specs.Meanings.{meaning_of}
use Rattle.typed_texts.specs.TypedProjects.{global_meant}
use Rattle.header_making.proofs.modified.made_modifies.Goals as goal

pub returns : goal.returns
returns c = λ at fits.
    c.loop-name.invariant at fits
    ∙ ap (map (λ (written : Name). global_meant (meaning_of at written.text))) (take_all c.loop-name.name-index c.args.modifies.now c.loop-name-test.false)
