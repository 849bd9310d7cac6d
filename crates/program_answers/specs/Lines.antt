-- The verdicts on the methods of a program, in the order of the methods.
use Rattle.std.specs.Prelude.{ℕ, List, map, Option}
use Rattle.validity.specs.Validity.{SequentTree}
use Rattle.deduction_rules.specs.Step.{StepTrees}
use Rattle.program_trees.specs.declared.answer.Reason.{Reason}
use Rattle.program_trees.specs.Programs.{MethodTree, ProgramTree}
use Rattle.program_trees.specs.Variables.{Variable}
use Rattle.lk_programs.specs.declared.typed.Typed.{Typed}
use Rattle.leg_rules.specs.Answers.{verdict}
use Rattle.run_texts.specs.Texts.{Names}
use Rattle.verdicts.specs.declared.report.Line.{Line}
use Rattle.verdicts.specs.declared.report.Report.{Report}
use Rattle.verdicts.specs.declared.report.Report.TheVariants as reports
use Rattle.verdicts.specs.Choice.{plain_verdict}
use Rattle.project_reports.specs.Texts as plain

-- what the numbers of the program stand for
abbrev pub names_in : Typed → Names
names_in typed = record {
  files = typed.files;
  records = map (λ named. named.name) typed.records;
  nodes = map (λ node. record { file = node.file; place = node.place }) typed.nodes;
}

-- the line as plain data
abbrev pub plain_line : Line → plain.Line
plain_line line = record { method = line.method; verdict = plain_verdict line.verdict }

-- the exit code that goes with a report: 2 where there are faults
abbrev pub report_code : Report → ℕ
report_code (reports.Faults faults) = 2
report_code (reports.Verdicts typed lines) = plain.verdicts_code (map plain_line lines)

-- `closing` tells why a sequent is not closed, where it is not. `accepting` tells the label of the first step that is refused, where one is.
module _ (closing : SequentTree → Option Reason) (accepting : SequentTree → StepTrees → Option ℕ) where
  abbrev pub line_by : ProgramTree Variable → MethodTree Variable → plain.Line
  line_by program method = record { method = method.name; verdict = verdict closing accepting program method }

  -- the verdict on each method
  abbrev pub lines_by : ProgramTree Variable → List plain.Line
  lines_by program = map (λ method. line_by program method) program.methods
