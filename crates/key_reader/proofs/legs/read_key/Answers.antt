use Rattle.std.proofs.Common.{sym, ap, ◌∙◌}
use Rattle.std.specs.Option.{option_map}
use Rattle.key_rules.specs.Reading.{all_of, read_leg}
use Rattle.key_cursor.specs.Reads.{left}
use Rattle.key_depths.specs.Depths.{decode_within}
use Rattle.lk_programs.specs.LegData.{leg_tree}
use Rattle.key_reader.proofs.LegParts.{refused_leg, whole_leg}
use Rattle.key_reader.proofs.legs.read_key.Goals as goal

pub returns-in-Ok : goal.returns-in-Ok
returns-in-Ok c =
    ap (option_map leg_tree) c.whole.ensures ∙ whole_leg c.in-Ok.leg (left c.read_leg.new.cursor) c.is_at_end.result c.is_at_end.ensures
    ∙ sym (ap all_of c.in-Ok.ensures) ∙ ap (λ bytes. decode_within c.deepest-depth.result bytes) c.new-cursor.ensures ∙ ap (λ d. decode_within d c.args.key.now) c.deepest-depth.ensures

pub returns-in-Err : goal.returns-in-Err
returns-in-Err c =
    refused_leg c.deepest-depth.result (left c.new-cursor.result) (left c.read_leg.new.cursor) c.in-Err.end c.refused.result c.in-Err.ensures c.refused.ensures c.args.key.now
    c.new-cursor.ensures c.deepest-depth.ensures
