use Rattle.std.proofs.Common.{ap, map, subst, sym, ◌∙◌}
use Rattle.std.proofs.lemmas.Result.{on_ok_weaker}
use Rattle.lk_programs.specs.LegData.{leg_tree}
use Rattle.legs.specs.Legs.{IsLegsEnd}
use Rattle.program_keys.specs.Keys.{AreAdded, bytes_of}
use Rattle.program_keys.proofs.Adding.{few_legs, many_legs, none_added}
use Rattle.program_keys.proofs.keys.add_method_keys.Goals as goal

pub returns-in-Ok : goal.returns-in-Ok
returns-in-Ok c =
    on_ok_weaker c.add_keys.result
    (subst (λ ls. AreAdded ls (bytes_of c.args.keys.now) (bytes_of c.add_keys.new.keys))
    (ap (map leg_tree) c.as_slice.ensures ∙ few_legs c.args.typed.now c.args.method c.in-Ok.legs c.in-Ok.ensures.legs)) c.add_keys.ensures

pub returns-in-Many : goal.returns-in-Many
returns-in-Many c =
    let many = subst (IsLegsEnd c.args.typed.now c.args.method) c.in-Many.is c.in-Err.ensures.end in
    subst (λ ls. AreAdded ls (bytes_of c.args.keys.now) (bytes_of c.args.keys.now)) (sym (many_legs c.args.typed.now c.args.method many.0))
    (none_added (bytes_of c.args.keys.now))
