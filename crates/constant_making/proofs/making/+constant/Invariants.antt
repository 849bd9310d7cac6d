use Rattle.std.proofs.Common.{◌+◌, ◌*◌, take, map}
use Rattle.slang_tree.specs.declared.declaration.Const.{size-Const}
use Rattle.slang_tree.specs.DeclTree.{const_tree, consts_of}
use Rattle.type_rules.specs.Meanings.{Scope}
use Rattle.name_scopes.specs.Fits.{Fits}
use Rattle.constant_judging.specs.Sizes.{deepest}
use Rattle.lk_programs.specs.Expr.{typed_exprs}
use Rattle.typed_names.specs.Nodes.{IsMade}
use Rattle.constant_making.specs.Constants.{constants_in}
use Rattle.constant_making.proofs.making.+constant.Given as goal

abbrev pub decreases-constant_of : goal.decreases-constant_of
decreases-constant_of l = 3 * size-Const l.constant.now

abbrev pub decreases-sequence : goal.decreases-sequence
decreases-sequence l = 3 * deepest l.elements.now + 2

abbrev pub decreases-record : goal.decreases-record
decreases-record l = 3 * deepest l.fields.now + 2

abbrev pub decreases-constants_of : goal.decreases-constants_of
decreases-constants_of l = 3 * deepest l.constants.now + 1

-- the constants so far were made
abbrev pub invariant-constants_of-loop-constant : goal.invariant-constants_of-loop-constant
invariant-constants_of-loop-constant l =
    (at : Scope) → Fits l.scope at
    → IsMade l.fn.nodes l.nodes (typed_exprs l.values) (constants_in at (consts_of (map const_tree (take l.constant-index l.constants))))
