use Rattle.std.proofs.Common.{◌≡◌, ◌+◌, ◌*◌, take, map}
use Rattle.slang_tree.specs.declared.declaration.Const.{size-Const}
use Rattle.slang_tree.specs.DeclTree.{const_tree, consts_of}
use Rattle.type_rules.specs.Meanings.{Scope}
use Rattle.type_rules.specs.Constants.{judged_consts}
use Rattle.text_types.specs.Found.{AreJudged}
use Rattle.name_scopes.specs.Fits.{Fits}
use Rattle.constant_judging.specs.Sizes.{deepest}
use Rattle.constant_judging.proofs.judged.+judged.Given as goal

abbrev pub decreases-judged_const : goal.decreases-judged_const
decreases-judged_const l = 3 * size-Const l.constant.now

abbrev pub decreases-judged_sequence : goal.decreases-judged_sequence
decreases-judged_sequence l = 3 * deepest l.parts.now + 2

abbrev pub decreases-judged_record : goal.decreases-judged_record
decreases-judged_record l = 3 * deepest l.fields.now + 2

abbrev pub decreases-judged_consts : goal.decreases-judged_consts
decreases-judged_consts l = 3 * deepest l.constants.now + 1

-- the constants so far were judged
abbrev pub invariant-judged_consts-loop-constant : goal.invariant-judged_consts-loop-constant
invariant-judged_consts-loop-constant l =
    (at : Scope) → Fits l.scope at → AreJudged l.fn.told.found l.told.found l.founds (judged_consts at (consts_of (map const_tree (take l.constant-index l.constants))))
