use Rattle.std.proofs.Common.{[], ◌∷◌, refl}
use Rattle.std.proofs.lemmas.Result.{on_ok_weaker}
use Rattle.leg_rules.specs.Legs.{ensures_at_end}
use Rattle.leg_items.specs.Drafts.{items_of}
use Rattle.legs.specs.Legs.{own_method}
use Rattle.legs.proofs.Whole.{ended, reached}
use Rattle.legs.proofs.all.add_path.Goals as goal

pub returns-in-None : goal.returns-in-None
returns-in-None c =
    let typed = c.args.typed.now in
    let m = c.args.own.now in
    ended typed m c.scope_of-scope.result c.as_slice.result.now c.args.number (items_of c.args.out.now) (items_of c.add_statements.new.out) _
    c.scope_of-scope.ensures c.as_slice.ensures c.in-None.is (c.in_ok-add_statements.ensures (ensures_at_end (own_method typed m) ∷ []) refl)

pub returns-in-Some : goal.returns-in-Some
returns-in-Some c =
    let typed = c.args.typed.now in
    let m = c.args.own.now in
    on_ok_weaker c.add_own_checked.result
    (reached typed m c.scope_of-scope.result c.as_slice.result.now c.as_slice-in-Some.result.now c.args.number c.in-Some.field-0
    (items_of c.args.out.now) (items_of c.add_statements.new.out) (items_of c.add_own_checked.new.out) _
    c.scope_of-scope.ensures c.as_slice.ensures c.as_slice-in-Some.ensures c.in-Some.is (c.in_ok-add_statements.ensures (ensures_at_end
    (own_method typed m) ∷ []) refl))
    c.add_own_checked.ensures
