use Rattle.std.proofs.Common.{◌≡◌, [], ◌∷◌, length, map, ap}
use Rattle.lk_programs.specs.Program.{method_tree}
use Rattle.owned_results.proofs.Parts.{of_part}
use Rattle.leg_tests.specs.Programs.{branching as branching_tree}
use Rattle.leg_tests.proofs.WellTyped.{program_is}
use Rattle.leg_tests.proofs.programs.branching.Goals as goal

pub new-requires-3 : goal.new-requires-3
new-requires-3 c =
    let w = c.in_ok-files in
    program_is c.args.count c.new.result c.new-2.result w.methods w.nodes w.files c.new.ensures c.new-2.ensures
    (of_part (λ ms. map method_tree ms ≡ branching_tree c.args.count ∷ []) c.methods.result w.methods c.methods.ensures w.ensures.parts.1)
    (ap (map (λ node. node.file)) (of_part (λ items. items ≡ _ ∷ []) c.one.result w.nodes c.one.ensures w.ensures.parts.2))
    (of_part (λ files. length files ≡ 1) c.files.result w.files c.files.ensures w.ensures.parts.0)
