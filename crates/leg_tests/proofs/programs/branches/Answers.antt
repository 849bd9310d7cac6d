use Rattle.std.proofs.Common.{[], ◌∷◌, map, ap, ◌∙◌}
use Rattle.std.proofs.lemmas.List.{map-append}
use Rattle.lk_programs.specs.Program.{code_tree, code_trees, codes_of}
use Rattle.leg_tests.proofs.WellTyped.{one_more}
use Rattle.leg_tests.proofs.programs.branches.Goals as goal

pub loop-number-preserved : goal.loop-number-preserved
loop-number-preserved c =
    ap code_trees c.in_ok-push.ensures.ok
    ∙ ap codes_of (map-append code_tree c.loop-number.codes (c.empty_branch.result ∷ []))
    ∙ one_more (map code_tree c.loop-number.codes) c.loop-number.number (code_tree c.empty_branch.result) c.empty_branch.ensures c.loop-number.invariant
