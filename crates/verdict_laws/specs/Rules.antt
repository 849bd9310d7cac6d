-- The verdict by the rules of closing and of deduction.
use Rattle.std.specs.Prelude.{ℕ, is_none, Bool, Option, Some, None}
use Rattle.validity.specs.Validity.{SequentTree}
use Rattle.deduction_rules.specs.Step.{StepTrees}
use Rattle.deduction_rules.specs.Deduction.{Deduction, accepted, refused, deduction}
use Rattle.whole_closing.specs.Closing.{Closing, closed, left_open, too_many, too_large, too_many_cases, too_many_rows, too_wide, closing}
use Rattle.program_trees.specs.declared.answer.Reason.{Reason}
use Rattle.program_trees.specs.declared.answer.Reason.TheVariants as reasons
use Rattle.program_trees.specs.Programs.{MethodTree, ProgramTree}
use Rattle.program_trees.specs.Variables.{Variable}
use Rattle.leg_rules.specs.Answers.{Verdict, verdict}

-- what is told where a sequent is not closed
abbrev pub told : Closing → Option Reason
told closed = None
told left_open = Some reasons.Open
told too_many = Some reasons.Instances
told too_large = Some reasons.Size
told too_many_cases = Some reasons.Cases
told too_many_rows = Some reasons.Rows
told too_wide = Some reasons.Wide

-- why the rules do not close a sequent
abbrev pub unclosed : SequentTree → Option Reason
unclosed s = told (closing s)

abbrev pub is_closed : SequentTree → Bool
is_closed s = is_none (unclosed s)

abbrev pub refused_label : Deduction → Option ℕ
refused_label (accepted claims) = None
refused_label (refused label why) = Some label

-- the label of the first step that the rules refuse, where Auto and Algebra claim what is closed
abbrev pub unaccepted : SequentTree → StepTrees → Option ℕ
unaccepted base steps = refused_label (deduction is_closed base steps)

abbrev pub verdict_by_rules : ProgramTree Variable → MethodTree Variable → Verdict
verdict_by_rules program method = verdict unclosed unaccepted program method
