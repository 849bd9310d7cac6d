use Rattle.std.proofs.Common.{◌≡◌, ◌+◌, ◌*◌, take, map}
use Rattle.slang_values.specs.Value.{default_within}
use Rattle.lk_programs.specs.Program.{record_types, field_types}
use Rattle.run_values.specs.Value.{plain_value}
use Rattle.run_values.proofs.defaults.+default.Given as goal

abbrev pub decreases-default_record : goal.decreases-default_record
decreases-default_record l = 2 * l.depth + 1

abbrev pub decreases-default_within : goal.decreases-default_within
decreases-default_within l = 2 * l.depth

abbrev pub invariant-default_record-loop-field : goal.invariant-default_record-loop-field
invariant-default_record-loop-field l =
    map plain_value l.values ≡ map (default_within (record_types l.records) l.depth) (field_types (take l.field-index l.field-items))
