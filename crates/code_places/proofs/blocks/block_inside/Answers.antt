use Rattle.std.proofs.Common.{◌∙◌, sym}
use Rattle.code_places.proofs.Parts.{block_there, block_missing}
use Rattle.code_places.proofs.blocks.block_inside.Goals as goal

pub returns-in-None : goal.returns-in-None
returns-in-None c = sym (block_missing c.args.block.now c.args.inside.statement c.args.inside.otherwise (sym c.in-None.ensures))

pub returns-in-Some : goal.returns-in-Some
returns-in-Some c =
    c.part_of.ensures ∙ sym (block_there c.args.block.now c.args.inside.statement c.in-Some.code.now c.args.inside.otherwise (sym c.in-Some.ensures))
