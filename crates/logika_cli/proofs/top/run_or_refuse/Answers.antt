use Rattle.std.proofs.Common.{◌≡◌, List, map, None, false, subst}
use Rattle.std.specs.String.{string_bytes}
use Rattle.lk_io.specs.Run.{run}
use Rattle.lk_io.specs.Folder.{FolderState}
use Rattle.argument_fronts.specs.Only.{IsOnly}
use Rattle.text_reading.specs.Limits.{source_limits}
use Rattle.run_words.specs.Run.{Run, IsRun, run_of}
use Rattle.run_source.specs.Rows as run_rows
use Rattle.logika_cli.proofs.WordsLaws.{HasStatus-run, HasStatus-refused, other_status, no_refusal, of_each}
use Rattle.logika_cli.proofs.top.run_or_refuse.Goals as goal

-- a folder that tells nothing
no_folder : FolderState
no_folder = record { files = None; faults = 0; missed = false }

pub returns-in-Ok-None-clause-status : goal.returns-in-Ok-None-clause-status
returns-in-Ok-None-clause-status g c = λ folder.
    let none = subst (IsOnly run_of (IsRun (map string_bytes c.args.words.now))) c.in-Ok-None.field-0-is c.in-Ok-None.ensures in
    HasStatus-refused _ _ (record { no_check = c.requires.no_check; no_run = none }) c.conclude-in-Ok-None.ensures.code c.conclude-in-Ok-None.ensures.line

pub returns-in-Ok-None-clause-refused : goal.returns-in-Ok-None-clause-refused
returns-in-Ok-None-clause-refused g c = λ _.
    record { no_check = c.requires.no_check; no_run = subst (IsOnly run_of (IsRun (map string_bytes c.args.words.now))) c.in-Ok-None.field-0-is c.in-Ok-None.ensures }

pub returns-in-Ok-None-clause-runs : goal.returns-in-Ok-None-clause-runs
returns-in-Ok-None-clause-runs g c = λ folder asked is.
    let none = subst (IsOnly run_of (IsRun (map string_bytes c.args.words.now))) c.in-Ok-None.field-0-is c.in-Ok-None.ensures in
    absurd (none asked is)

pub returns-in-Ok-Some-clause-status : goal.returns-in-Ok-Some-clause-status
returns-in-Ok-Some-clause-status g c = λ folder.
    let found = subst (IsOnly run_of (IsRun (map string_bytes c.args.words.now))) c.in-Ok-Some.field-0-is c.in-Ok-Some.ensures in
    HasStatus-run _ _ found.0 (c.run_once.ensures.status folder)

pub returns-in-Ok-Some-clause-refused : goal.returns-in-Ok-Some-clause-refused
returns-in-Ok-Some-clause-refused g c = λ is. absurd (no_refusal (c.run_once.ensures.rows no_folder) is)

pub returns-in-Ok-Some-clause-line : goal.returns-in-Ok-Some-clause-line
returns-in-Ok-Some-clause-line g c = λ refused.
    let found = subst (IsOnly run_of (IsRun (map string_bytes c.args.words.now))) c.in-Ok-Some.field-0-is c.in-Ok-Some.ensures in
    absurd (refused.no_run _ found.0)

pub returns-in-Ok-Some-clause-unread : goal.returns-in-Ok-Some-clause-unread
returns-in-Ok-Some-clause-unread g c = λ refused.
    let found = subst (IsOnly run_of (IsRun (map string_bytes c.args.words.now))) c.in-Ok-Some.field-0-is c.in-Ok-Some.ensures in
    absurd (refused.no_run _ found.0)

pub returns-in-Ok-Some-clause-ungiven : goal.returns-in-Ok-Some-clause-ungiven
returns-in-Ok-Some-clause-ungiven g c = λ refused.
    let found = subst (IsOnly run_of (IsRun (map string_bytes c.args.words.now))) c.in-Ok-Some.field-0-is c.in-Ok-Some.ensures in
    absurd (refused.no_run _ found.0)

pub returns-in-Ok-Some-clause-runs : goal.returns-in-Ok-Some-clause-runs
returns-in-Ok-Some-clause-runs g c = λ folder asked is.
    let found = subst (IsOnly run_of (IsRun (map string_bytes c.args.words.now))) c.in-Ok-Some.field-0-is c.in-Ok-Some.ensures in
    of_each (λ (a : Run). run_rows.Rows source_limits a.method a.turns a.arguments
    (record { source = run (g.S.Source.state c.args.source.now) (g.S.Source.state c.run_once.new.source); folder = run folder folder })
    (run (g.O.Sink.state c.args.out.now) (g.O.Sink.state c.run_once.new.out))
    (run (g.J.Sink.state c.args.journal.now) (g.J.Sink.state c.run_once.new.journal)) c.run_once.result.code) found.1
    (c.run_once.ensures.rows folder) is

pub returns-in-Ok-Some-clause-other : goal.returns-in-Ok-Some-clause-other
returns-in-Ok-Some-clause-other g c = other_status (c.run_once.ensures.rows no_folder)
