use Rattle.std.proofs.Common.{◌<◌, ℤ, List, map, length, subst, arith, rules, SFits}
use Rattle.std.specs.Int.{w128}
use Rattle.std.proofs.lemmas.Int.{to_z-of_z}
use Rattle.std.proofs.lemmas.List.{length-map}
use Rattle.term_store.specs.Store.{tree_at}
use Rattle.term_forms.specs.Place.{JoinsAt, StandsAt}
use Rattle.store_forms.specs.declared.form.IdPart.{IdPart}
use Rattle.store_forms.specs.Form.{part_at}
use Rattle.store_forms.specs.Place.{IsJoinedThere}
use Rattle.store_forms.proofs.Inserting.{inserted_joined, inserted_standing}
use Rattle.store_forms.proofs.parts.insert_part.Goals as goal

pub returns-in-Ok : goal.returns-in-Ok
returns-in-Ok c =
    let store = c.args.store.now in
    let old = c.args.parts.now.items in
    let at = c.in-Ok.at in
    let joins = subst (λ (ps : List IdPart). JoinsAt (map (part_at store) ps) (tree_at store c.args.part.atom) at) c.deref.ensures.value c.in-Ok.ensures in
    let l : at < length old = omega (arith, joins.there, length-map old (part_at store)) in
    let f : SFits w128 c.args.part.times = search rules in
    let joined = subst (λ (z : ℤ). IsJoinedThere old at z c.join.new.parts.items) (to_z-of_z w128 c.args.part.times f) c.join.ensures in
    inserted_joined store old c.join.new.parts.items c.args.part at c.requires.atoms joins l joined

pub returns-in_ok-insert-in-Err : goal.returns-in_ok-insert-in-Err
returns-in_ok-insert-in-Err c =
    let store = c.args.store.now in
    let old = c.args.parts.now.items in
    let at = c.in-Err.at in
    let stands = subst (λ (ps : List IdPart). StandsAt (map (part_at store) ps) (tree_at store c.args.part.atom) at) c.deref.ensures.value c.in-Err.ensures in
    inserted_standing store old c.insert.new.self.items c.args.part at c.requires.atoms c.requires.atom stands c.in_ok-insert-in-Err.ensures.items
