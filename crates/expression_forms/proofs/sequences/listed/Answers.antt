use Rattle.std.proofs.Common.{[], ◌∷◌, map, subst, sym}
use Rattle.type_rules.specs.Expressions.{judged_listed}
use Rattle.text_types.specs.Found.{IsJudged, seen}
use Rattle.expression_forms.specs.Forms.{front_seen}
use Rattle.expression_forms.proofs.Untyped.{front_missing}
use Rattle.expression_forms.proofs.sequences.listed.Goals as goal

pub returns-in-None : goal.returns-in-None
returns-in-None c = λ at.
    subst (λ front. IsJudged c.args.told.now.found c.args.told.now.found c.untyped.result
    (judged_listed c.args.place (front_seen at front ∷ []) (map seen c.args.elements.now)))
    (sym c.in-None.is)
    (front_missing c.args.told.now.found c.untyped.result c.args.place c.args.elements.now at c.untyped.ensures)
