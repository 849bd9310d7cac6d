use Rattle.std.proofs.Common.{◌+◌, ◌*◌, take}
use Rattle.slang_tree.specs.declared.declaration.Const.{size-Const}
use Rattle.expression_printing.specs.Printed.{Adds}
use Rattle.constant_printing.specs.Sizes.{deepest}
use Rattle.constant_printing.specs.Printed.{consts_behind}
use Rattle.constant_printing.proofs.constants.+printing.Given as goal

abbrev pub decreases-add_const : goal.decreases-add_const
decreases-add_const l = 4 * size-Const l.constant.now

abbrev pub decreases-add_enclosed : goal.decreases-add_enclosed
decreases-add_enclosed l = 4 * deepest l.constants.now + 3

abbrev pub decreases-add_listed : goal.decreases-add_listed
decreases-add_listed l = 4 * deepest l.constants.now + 2

abbrev pub decreases-add_behind : goal.decreases-add_behind
decreases-add_behind l = 4 * deepest l.constants.now + 1

-- the constants so far were added
abbrev pub invariant-add_behind-loop-constant : goal.invariant-add_behind-loop-constant
invariant-add_behind-loop-constant l = Adds l.fn.text.items l.text.items (consts_behind (take l.constant-index l.constants))
