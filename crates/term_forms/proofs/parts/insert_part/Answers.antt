use Rattle.std.proofs.Common.{ℤ, List, map, ◌∙◌, subst, rules, SFits}
use Rattle.std.specs.Int.{w128}
use Rattle.std.proofs.lemmas.Int.{to_z-of_z}
use Rattle.term_trees.specs.Term.{tree}
use Rattle.term_forms.specs.declared.form.Part.{Part}
use Rattle.term_forms.specs.Form.{part_of}
use Rattle.term_forms.specs.Place.{JoinsAt, StandsAt, IsJoined}
use Rattle.term_forms.proofs.Joining.{inserted_joined, inserted_standing}
use Rattle.term_forms.proofs.parts.insert_part.Goals as goal

pub returns-in-Joins : goal.returns-in-Joins
returns-in-Joins c =
    let old = c.args.parts.now.items in
    let at = c.in-Joins.at in
    let joins = subst (λ (ps : List Part). JoinsAt (map part_of ps) (tree c.args.part.atom) at) c.deref.ensures.value c.in-Joins.ensures in
    let f : SFits w128 c.times_of.result = search rules in
    let joined = subst (λ (times : ℤ). IsJoined (map part_of old) at times (map part_of c.join.new.parts.items)) (to_z-of_z w128 c.times_of.result f ∙ c.times_of.ensures) c.join.ensures in
    inserted_joined (map part_of old) (map part_of c.join.new.parts.items) (part_of c.args.part) at joins joined

pub returns-in_ok-insert-in-Stands : goal.returns-in_ok-insert-in-Stands
returns-in_ok-insert-in-Stands c =
    let at = c.in-Stands.at in
    let stands = subst (λ (ps : List Part). StandsAt (map part_of ps) (tree c.args.part.atom) at) c.deref.ensures.value c.in-Stands.ensures in
    inserted_standing c.args.parts.now.items c.insert.new.self.items c.args.part at stands c.in_ok-insert-in-Stands.ensures.items
