use Rattle.std.proofs.Common.{◌≡◌, drop}
use Rattle.claim_types.specs.Views.{records_of}
use Rattle.record_checks.specs.Summaries.{table_from}
use Rattle.record_checks.proofs.table.add_records.Given as goal

-- The records so far are in the table.
abbrev pub invariant-loop-types : goal.invariant-loop-types
invariant-loop-types l = table_from l.fn.table (records_of l.records) ≡ table_from l.table (records_of (drop l.types-index l.records))
