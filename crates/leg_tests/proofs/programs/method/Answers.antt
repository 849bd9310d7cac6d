use Rattle.std.proofs.Common.{◌≡◌, [], ◌∷◌, map, refl, Ok}
use Rattle.slang_values.specs.Value.{truth_type}
use Rattle.lk_claims.specs.Claim.{value_type}
use Rattle.lk_claims.proofs.Types.{value_type-Unit}
use Rattle.lk_programs.specs.Program.{code_trees, field_types, noted_tree}
use Rattle.owned_results.proofs.Parts.{of_part}
use Rattle.leg_tests.specs.Programs.{branches, ensures_b}
use Rattle.leg_tests.proofs.WellTyped.{method_is}
use Rattle.leg_tests.proofs.programs.method.Goals as goal

pub returns : goal.returns
returns c =
    let w = c.in_ok-name in
    let head = of_part (λ p. (c.from_str.result ≡ Ok p.0) × (c.params.result ≡ Ok p.1) ×
    (c.claims.result ≡ Ok p.2)) c.all_three.result _ c.all_three.ensures.parts w.ensures.parts.0 in
    let rest = of_part (λ p. (c.locals.result ≡ Ok p.0) × (c.branches.result ≡ Ok p.1)) c.both.result _ c.both.ensures.parts w.ensures.parts.1 in
    method_is _ c.args.count
    (of_part (λ t. t ≡ 109 ∷ []) c.from_str.result w.name c.from_str.ensures head.0) refl
    (of_part (λ ps. field_types ps ≡ truth_type ∷ []) c.params.result w.params c.params.ensures head.1) value_type-Unit c.new.ensures c.new-2.ensures
    (of_part (λ ns. map noted_tree ns ≡ ensures_b ∷ []) c.claims.result w.ensures_ c.claims.ensures head.2)
    (of_part (λ ts. map value_type ts ≡ truth_type ∷ []) c.locals.result w.locals c.locals.ensures rest.0)
    (of_part (λ codes. code_trees codes ≡ branches c.args.count) c.branches.result w.body c.branches.ensures rest.1)
