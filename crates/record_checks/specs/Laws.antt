-- What the table says of records.
use Rattle.std.specs.Prelude.{◌≡◌, nat_eq, true, List, [], length, Some}
use Rattle.std.specs.List.{AllByRecursion, flat_map, list_all, range_with_len}
use Rattle.slang_values.specs.Value.{ValueType, Records, is_value_type, AreWellFormed}
use Rattle.leg_rules.specs.Numbering.{firsts}
use Rattle.leg_forms.specs.WellFormed.{records_within}
use Rattle.record_checks.specs.declared.summary.Summary.{Summary}
use Rattle.record_checks.specs.Summaries.{table_from, all_numbers_with}

-- The records are well formed, and these types bring them in order, each after those inside it.
pub record AreNumbered (records : Records) (types : List ValueType) : Type 0 where
  pub well_formed : AreWellFormed records
  pub field_types : AllByRecursion (λ fields. list_all is_value_type fields ≡ true) records
  pub in_order : firsts nat_eq (flat_map (records_within records (length records)) types) ≡ range_with_len 0 (length records)

-- There is a table of the records, by which these types bring all of them.
pub record AreTabled (records : Records) (types : List ValueType) : Type 0 where
  pub table : List Summary
  pub made : table_from [] records ≡ Some table
  pub brought : all_numbers_with table 0 types ≡ Some (length records)

-- Each is so exactly where the other is.
abbrev pub RecordsAreTested : Type 0
RecordsAreTested = (records : Records) (types : List ValueType)
    → (AreTabled records types → AreNumbered records types) × (AreNumbered records types → AreTabled records types)
