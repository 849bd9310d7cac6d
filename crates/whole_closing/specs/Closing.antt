-- When a sequent of the whole language is closed, and else the first reason why it is not.
use Rattle.std.specs.Prelude.{ℕ, List, [], ◌∷◌, length, nat_lt, if◌then◌else◌}
use Rattle.std.specs.List.{list_all}
use Rattle.slang_values.specs.Value.{Records}
use Rattle.slang_values.specs.Tree.{Tree}
use Rattle.slang_values.specs.Typing.{NameTypes}
use Rattle.validity.specs.Validity.{SequentTree, symbol_types}
use Rattle.lin_rows.specs.Inequality.{Inequality, is_within}
use Rattle.elimination.specs.Elimination.{Ending, Closed, Open, TooManyRows, TooWide, elimination}
use Rattle.case_rules.specs.Cases.{hypotheses, cases, case_limit}
use Rattle.instance_rules.specs.Instances.{Instancing, too_many_instances, too_large_instance, instanced, instancing}
use Rattle.closing.specs.Literals.{is_narrow_outside, are_all_narrow}
use Rattle.closing.specs.Rows.{rows_of_case}
use Rattle.whole_closing.specs.Literals.{closed_by_literals}

pub data Closing : Type 0 where
  closed : Closing  -- no case can hold
  left_open : Closing  -- a case is left, whose rows have no contradiction
  too_many : Closing  -- there are more instances than the limit
  too_large : Closing  -- an instance is larger than a term may be
  too_many_cases : Closing  -- there are more cases than the limit
  too_many_rows : Closing  -- an elimination was to keep one row more than its limit
  too_wide : Closing  -- a number is beyond 2^60

-- ---- one case

abbrev pub by_ending : Ending → Closing
by_ending Closed = closed
by_ending Open = left_open
by_ending TooManyRows = too_many_rows
by_ending TooWide = too_wide

-- by the elimination of the rows, where no number of theirs is beyond 2^60
abbrev pub by_rows : List Inequality → Closing
by_rows rows = if list_all is_within rows then by_ending (elimination rows) else too_wide

-- By its literals, or else by its rows. A case that its literals do not close is Wide where a number in one of them has no form.
abbrev pub closing_of_case : Records → NameTypes ℕ → List (Tree ℕ) → Closing
closing_of_case records types literals =
    if closed_by_literals records types literals then closed else (
    if are_all_narrow literals then by_rows (rows_of_case records types literals) else too_wide)

-- ---- all cases

-- the first, unless it is closed
abbrev pub unless_closed : Closing → Closing → Closing
unless_closed closed c = c
unless_closed left_open c = left_open
unless_closed too_many c = too_many
unless_closed too_large c = too_large
unless_closed too_many_cases c = too_many_cases
unless_closed too_many_rows c = too_many_rows
unless_closed too_wide c = too_wide

-- the first case that is not closed decides
abbrev pub closing_of_cases : Records → NameTypes ℕ → List (List (Tree ℕ)) → Closing
closing_of_cases records types [] = closed
closing_of_cases records types (c ∷ cs) = unless_closed (closing_of_case records types c) (closing_of_cases records types cs)

-- ---- a sequent

-- with its instances: Wide comes first, by the hypotheses as they stand, then the count of the cases, and then the cases in order
abbrev pub closing_with_instances : SequentTree → Closing
closing_with_instances s =
    if list_all (is_narrow_outside s.records (symbol_types s)) (hypotheses s) then (
    if nat_lt case_limit (length (cases s)) then too_many_cases else closing_of_cases s.records (symbol_types s) (cases s)) else too_wide

abbrev pub by_instancing : Instancing → Closing
by_instancing too_many_instances = too_many
by_instancing too_large_instance = too_large
by_instancing (instanced s) = closing_with_instances s

-- the instances come before all else
abbrev pub closing : SequentTree → Closing
closing s = by_instancing (instancing s)
