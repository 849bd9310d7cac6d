use Rattle.std.proofs.Common.{◌≡◌, [], ◌∷◌, map, refl, Ok}
use Rattle.slang_values.specs.Value.{number_type}
use Rattle.lk_claims.specs.Claim.{value_type}
use Rattle.lk_claims.proofs.Types.{value_type-Unit}
use Rattle.lk_programs.specs.Program.{code_trees, field_types}
use Rattle.owned_results.proofs.Parts.{of_part}
use Rattle.leg_tests.specs.Calls.{body_of, name_of}
use Rattle.leg_tests.proofs.TwoMethods.{calling_is}
use Rattle.leg_tests.proofs.calls.method.Goals as goal

pub returns : goal.returns
returns c =
    let w = c.in_ok-name in
    let head = of_part (λ p. (c.name.result ≡ Ok p.0) × (c.params.result ≡ Ok p.1)) c.both.result _ c.both.ensures.parts w.ensures.parts.0 in
    let rest = of_part (λ p. (c.locals.result ≡ Ok p.0) × (c.one.result ≡ Ok p.1) × (c.body.result ≡ Ok p.2)) c.all_three.result _ c.all_three.ensures.parts
    w.ensures.parts.1 in
    calling_is _ c.args.calls
    (of_part (λ t. t ≡ name_of c.args.calls) c.name.result w.name c.name.ensures head.0) refl
    (of_part (λ ps. field_types ps ≡ number_type ∷ []) c.params.result w.params c.params.ensures head.1) value_type-Unit c.new.ensures
    (of_part (λ gs. gs ≡ 0 ∷ []) c.one.result w.modifies c.one.ensures rest.1) c.new-2.ensures
    (of_part (λ ts. map value_type ts ≡ number_type ∷ []) c.locals.result w.locals c.locals.ensures rest.0)
    (of_part (λ codes. code_trees codes ≡ body_of c.args.calls) c.body.result w.body c.body.ensures rest.2)
