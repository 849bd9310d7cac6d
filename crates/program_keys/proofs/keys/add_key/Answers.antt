use Rattle.std.proofs.Common.{ap, map, ◌∙◌}
use Rattle.std.proofs.lemmas.List.{map_push}
use Rattle.lk_programs.specs.LegData.{leg_tree}
use Rattle.program_keys.specs.Keys.{bytes_of}
use Rattle.program_keys.proofs.Adding.{one_added}
use Rattle.program_keys.proofs.keys.add_key.Goals as goal

pub returns-in_ok-push-in-Ok : goal.returns-in_ok-push-in-Ok
returns-in_ok-push-in-Ok c =
    one_added (leg_tree c.args.leg.now) c.in-Ok.key.items (bytes_of c.args.keys.now) (bytes_of c.push.new.self) c.requires c.in-Ok.ensures.fits
    c.in-Ok.ensures.written
    (ap (map (λ key. key.items)) c.in_ok-push-in-Ok.ensures.items ∙ map_push (λ key. key.items) c.args.keys.now.items c.in-Ok.key)
