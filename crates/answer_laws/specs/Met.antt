-- What it means that the obligations of a leg are met.
use Rattle.std.specs.List.{AllByRecursion}
use Rattle.validity.specs.Validity.{IsValid}
use Rattle.leg_rules.specs.Sequents.{Obligation, to_show, to_accept, too_large, outermost}

-- What is to be shown is valid, and so is each outermost claim of what is to be accepted, over the facts before it. A term past a limit meets nothing.
abbrev pub IsMet : Obligation → Type 0
IsMet (to_show item kind sequent) = IsValid sequent
IsMet (to_accept item base steps) = AllByRecursion (λ claim. IsValid (record base { goal = claim })) (outermost steps)
IsMet (too_large item kind) = ⊥
