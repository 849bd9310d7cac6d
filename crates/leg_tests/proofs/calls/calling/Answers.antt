use Rattle.std.proofs.Common.{◌≡◌, [], ◌∷◌, length, map, ap, Ok}
use Rattle.lk_programs.specs.Program.{global_tree, method_tree}
use Rattle.owned_results.proofs.Parts.{of_part}
use Rattle.leg_tests.specs.Calls.{counter, two_methods}
use Rattle.leg_tests.proofs.TwoMethods.{two_are}
use Rattle.leg_tests.proofs.calls.calling.Goals as goal

pub new-requires-2 : goal.new-requires-2
new-requires-2 c =
    let w = c.in_ok-files in
    let front = of_part (λ p. (c.files.result ≡ Ok p.0) × (c.globals.result ≡ Ok p.1)) c.both.result _ c.both.ensures.parts w.ensures.parts.0 in
    two_are c.new.result w.globals w.methods w.nodes w.files c.new.ensures
    (of_part (λ gs. map global_tree gs ≡ counter ∷ []) c.globals.result w.globals c.globals.ensures front.1)
    (of_part (λ ms. map method_tree ms ≡ two_methods.methods) c.methods.result w.methods c.methods.ensures w.ensures.parts.1)
    (ap (map (λ node. node.file)) (of_part (λ items. items ≡ _ ∷ []) c.one.result w.nodes c.one.ensures w.ensures.parts.2))
    (of_part (λ files. length files ≡ 1) c.files.result w.files c.files.ensures front.0)
