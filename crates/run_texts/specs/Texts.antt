-- What the command `run` writes: values, and the line that tells how a run ended.
use Rattle.std.specs.Prelude.{ℕ, true, false, List, [], ◌++◌, get_or, codes}
use Rattle.std.specs.Fmt.{decimal, signed_decimal}
use Rattle.slang_values.specs.Value.{Value, unit, number, truth, sequence, record_value, Values, no_values, value_then}
use Rattle.slang_tree.specs.declared.place.Place.{Place}
use Rattle.program_trees.specs.declared.answer.Kind.{Kind}
use Rattle.program_trees.specs.declared.answer.Kind.TheVariants as kinds
use Rattle.program_trees.specs.Variables.{result}
use Rattle.run_rules.specs.Runs.{Outcome, ended, going, fails}
use Rattle.stopped_runs.specs.Runs.{Stopped, reached, wide, out_of_visits}

-- where a node stands: in the file of that number, at that place
pub record NodePlace : Type 0 where
  pub file : ℕ
  pub place : Place

-- what the numbers of a program stand for in texts
pub record Names : Type 0 where
  pub files : List (List ℕ)
  pub records : List (List ℕ)
  pub nodes : List NodePlace

module _ (names : Names) where
  abbrev mutual
    -- a number in decimal, `T` or `F`, `()`, or a sequence or a record by its parts
    pub value_text : Value → List ℕ
    value_text unit = codes "()"
    value_text (number z) = signed_decimal z
    value_text (truth true) = codes "T"
    value_text (truth false) = codes "F"
    value_text (sequence t vs) = codes "ISZ(" ++ (values_text vs ++ codes ")")
    value_text (record_value n vs) = get_or names.records n [] ++ (codes "(" ++ (values_text vs ++ codes ")"))

    -- one after the other, with a comma between two
    pub values_text : Values → List ℕ
    values_text no_values = []
    values_text (value_then v vs) = value_text v ++ more_text vs

    pub more_text : Values → List ℕ
    more_text no_values = []
    more_text (value_then v vs) = codes ", " ++ (value_text v ++ more_text vs)

  abbrev pub no_place : NodePlace
  no_place = record { file = 0; place = record { line = 1; col = 1 } }

  abbrev pub at_text : NodePlace → List ℕ
  at_text at = get_or names.files at.file [] ++ (codes ":" ++ (decimal at.place.line ++ (codes ":" ++ decimal at.place.col)))

  abbrev pub node_text : ℕ → List ℕ
  node_text node = at_text (get_or names.nodes node no_place)

  abbrev pub kind_text : Kind → List ℕ
  kind_text kinds.Assert = codes "assert"
  kind_text kinds.Requires = codes "requires"
  kind_text kinds.Ensures = codes "ensures"
  kind_text kinds.InvStart = codes "invariant-start"
  kind_text kinds.InvKept = codes "invariant-kept"
  kind_text kinds.Index = codes "index"
  kind_text kinds.Division = codes "division"
  kind_text kinds.Deduce = codes "deduce"
  kind_text kinds.Term = codes "term"

  abbrev pub failure_text : Kind → ℕ → List ℕ
  failure_text kind node = codes "fails " ++ (kind_text kind ++ (codes " " ++ (node_text node ++ codes "\n")))

  abbrev pub outcome_text : Outcome → List ℕ
  outcome_text (ended values) = codes "ended " ++ (value_text (values result) ++ codes "\n")
  outcome_text (going stack values) = codes "going\n"
  outcome_text (fails kind node) = failure_text kind node

  -- the line of a run
  abbrev pub run_text : Stopped → List ℕ
  run_text (reached outcome) = outcome_text outcome
  run_text (wide node) = codes "wide " ++ (node_text node ++ codes "\n")
  run_text (out_of_visits node) = codes "visits " ++ (node_text node ++ codes "\n")
