use Rattle.std.proofs.Common.{◌≡◌, ◌+◌, drop, map}
use Rattle.project_reports.specs.Projects.{NamedText}
use Rattle.project_reading.specs.Texts.{place_behind, text_of, text_seen}
use Rattle.project_reading.proofs.texts.place_behind.Given as goal

abbrev pub invariant-loop-at : goal.invariant-loop-at
invariant-loop-at l =
    place_behind (λ (t : NamedText). t.name) (text_seen l.text) (map text_of l.texts)
    ≡ l.at + place_behind (λ (t : NamedText). t.name) (text_seen l.text) (map text_of (drop l.at l.texts))
