-- What a run over texts comes to has an outcome, or does not fit.
use Rattle.std.proofs.Common.{◌≡◌, ◌≢◌, ◌≤◌, ◌⊎◌, ℕ, List, inl, inr, refl, sym, subst, arith}
use Rattle.run_rules.specs.Runs.{method_at, ended, going}
use Rattle.run_rules.specs.Runs as runs
use Rattle.stopped_runs.specs.Runs.{Stopped, reached, wide, out_of_visits, command_run}
use Rattle.run_lines.specs.Lines.{run_code}
use Rattle.project_reports.specs.Projects.{NamedText}
use Rattle.run_command.specs.Runs.{IsRunReport}
use Rattle.run_command.specs.Runs as report
use Rattle.run_source.specs.Outcomes.{program_of, RunsTo, HasOutcome, DoesNotFit}

module _ (texts : List NamedText) (method : List ℕ) (turns : ℕ) (words : List (List ℕ)) (text : List ℕ) where
  by_stopped : (stopped : Stopped) → RunsTo texts method turns words text stopped → HasOutcome texts method turns words text (run_code stopped)
  by_stopped (reached (ended values)) h = HasOutcome.ends values h
  by_stopped (reached (going stack values)) h = HasOutcome.is_going stack values h
  by_stopped (reached (runs.fails kind node)) h = HasOutcome.fails kind node h
  by_stopped (wide node) h = HasOutcome.is_wide node h
  by_stopped (out_of_visits node) h = HasOutcome.is_out_of_visits node h

  -- the codes of outcomes
  pub outcome_code : {code : ℕ} → HasOutcome texts method turns words text code → (code ≤ 2) ⊎ (code ≡ 9)
  outcome_code (HasOutcome.ends values h) = inl (omega arith)
  outcome_code (HasOutcome.fails kind node h) = inl (omega arith)
  outcome_code (HasOutcome.has_faults found has is) = inl (omega arith)
  outcome_code (HasOutcome.is_going stack values h) = inr refl
  outcome_code (HasOutcome.is_wide node h) = inr refl
  outcome_code (HasOutcome.is_out_of_visits node h) = inr refl

  module _ (code : ℕ) where
    abbrev Told : Type 0
    Told = HasOutcome texts method turns words text code ⊎ (DoesNotFit texts method words × (code ≡ 11))

    told : IsRunReport texts method turns words text code → Told
    told (report.run files project (report.ran number values named fit is)) =
        let stopped = command_run (program_of files) (method_at (program_of files) number) values turns in
        inl (subst (λ n. HasOutcome texts method turns words text n) (sym is.1) (by_stopped stopped (record {
          files = files;
          project = project;
          number = number;
          values = values;
          named = named;
          fit = fit;
          run_is = refl;
          told = is.0;
        })))
    told (report.run files project (report.no_method none is code_is)) = inr (DoesNotFit.no_method files project none, code_is)
    told (report.run files project (report.no_arguments number named none is code_is)) =
        inr (DoesNotFit.no_arguments files project number named none, code_is)
    told (report.faults found has is code_is) =
        inl (subst (λ n. HasOutcome texts method turns words text n) (sym code_is) (HasOutcome.has_faults found has is))

    pub outcome : IsRunReport texts method turns words text code → code ≢ 11 → HasOutcome texts method turns words text code
    outcome report other = from (told report)
      where
        from : Told → HasOutcome texts method turns words text code
        from (inl found) = found
        from (inr none) = absurd (other none.1)

    pub not_fit : IsRunReport texts method turns words text code → code ≡ 11 → DoesNotFit texts method words
    not_fit report is = from (told report)
      where
        low : (code ≤ 2) ⊎ (code ≡ 9) → ⊥
        low (inl small) = omega (arith, is, small)
        low (inr nine) = omega (arith, is, nine)

        from : Told → DoesNotFit texts method words
        from (inl found) = absurd (low (outcome_code found))
        from (inr none) = none.0
