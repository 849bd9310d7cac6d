use Rattle.std.proofs.Common.{◌≡◌, ◌-◌, length}
use Rattle.term_store.specs.Store.{GainsAmong}
use Rattle.sym_exec.specs.Steps.{pending, gained_ahead, IsReady, IsAhead}
use Rattle.sym_exec.proofs.exec.Exec.step.Given as goal

-- nothing that is asked for was passed over
abbrev pub invariant-items : goal.invariant-items
invariant-items l = record {
  left : pending l.fn.store l.fn.self l.leg ≡ pending l.store l.self l.leg;
  ready : IsReady l.store l.self l.leg;
  same : l.self.end ≡ l.fn.self.end;
  gains : GainsAmong l.fn.store l.store (gained_ahead l.fn.store l.fn.self l.leg);
  ahead : IsAhead l.fn.store l.fn.self l.store l.self l.leg;
}

abbrev pub decreases-items : goal.decreases-items
decreases-items l = length l.leg.items - l.self.at
