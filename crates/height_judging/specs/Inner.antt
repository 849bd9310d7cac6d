-- What is too high in the steps of a block.
use Rattle.std.specs.Prelude.{ℕ, zero, suc, List}
use Rattle.slang_tree.specs.declared.place.Fault.{Fault}
use Rattle.slang_tree.specs.StmtTree.{StepTrees}
use Rattle.height_rules.specs.Faults.{too_deep, steps_too_high}

-- that many blocks may stand one inside another from the block on
abbrev pub inner_too_high : ℕ → StepTrees → List Fault
inner_too_high zero steps = too_deep steps
inner_too_high (suc depth) steps = steps_too_high depth steps
