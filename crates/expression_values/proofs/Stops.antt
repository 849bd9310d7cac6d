-- The first stop of several, and what an ending tells of it.
use Rattle.std.proofs.Common.{◌≡◌, Option, Some, None, refl, ap, ◌∙◌}
use Rattle.run_stops.specs.ExpressionStops.{Stop, first_stop}
use Rattle.expression_values.specs.declared.ending.EvalEnd.{EvalEnd}
use Rattle.expression_values.specs.declared.ending.EvalEnd.TheVariants as e
use Rattle.expression_values.specs.Answers.{Tells}

pub tells_first : (end : EvalEnd) (s t : Option Stop) → Tells end s → Tells end (first_stop s t)
tells_first (e.Index node) s t h = ap (λ u. first_stop u t) h
tells_first (e.Division node) s t h = ap (λ u. first_stop u t) h
tells_first (e.Wide node) s t h = ap (λ u. first_stop u t) h
tells_first e.NoMemory s t h = tt

pub tells_next : (end : EvalEnd) (s t : Option Stop) → s ≡ None → Tells end t → Tells end (first_stop s t)
tells_next end None t none h = h
tells_next end (Some stop) t none h = absurd (cc)

pub goes_on : (s t : Option Stop) → s ≡ None → first_stop s t ≡ t
goes_on None t none = refl
goes_on (Some stop) t none = absurd (cc)

pub tells_same : (end : EvalEnd) (s t : Option Stop) → s ≡ t → Tells end t → Tells end s
tells_same (e.Index node) s t same h = same ∙ h
tells_same (e.Division node) s t same h = same ∙ h
tells_same (e.Wide node) s t same h = same ∙ h
tells_same e.NoMemory s t same h = tt

pub ruleset stop_lines = (tells_first, tells_next, goes_on)
