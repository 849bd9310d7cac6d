use Rattle.std.proofs.Common.{◌≡◌, map, nat_le, take, true}
use Rattle.slang_tree.specs.DeclTree.{const_tree, consts_of}
use Rattle.text_heights.specs.Heights.{greatest_const}
use Rattle.height_judging.proofs.constants.+within.Given as goal

-- none of the constants so far is higher
abbrev pub invariant-are_within-loop-constant : goal.invariant-are_within-loop-constant
invariant-are_within-loop-constant l = nat_le (greatest_const (consts_of (map const_tree (take l.constant-index l.constants)))) l.limit ≡ true
