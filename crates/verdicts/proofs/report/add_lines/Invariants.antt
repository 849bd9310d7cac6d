use Rattle.std.proofs.Common.{◌≡◌, ◌++◌, take}
use Rattle.std.specs.List.{flat_map}
use Rattle.verdicts.specs.Texts.{line_text}
use Rattle.verdicts.proofs.report.add_lines.Given as goal

abbrev pub invariant-loop-line : goal.invariant-loop-line
invariant-loop-line l = l.text.items ≡ l.fn.text.items ++ flat_map (line_text l.files l.nodes) (take l.line-index l.lines)
