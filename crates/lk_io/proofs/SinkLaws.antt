-- Runs of a sink, one after the other.
use Rattle.std.proofs.Common.{◌≡◌, ℕ, List, [], ◌++◌, refl, sym, ◌∙◌, append-nil}
use Rattle.std.proofs.KnownBytes.{Appends-nil, Appends-trans}
use Rattle.std.proofs.lemmas.List.{append_assoc}
use Rattle.lk_io.specs.Run.{run}
use Rattle.lk_io.specs.Sink.{SinkState, SinkRun, Appends, GivesPart, IsQuiet, IsFault, IsRefusal, IsCounted}
use Rattle.lk_io.specs.declared.sinks.SinkEnd.{SinkEnd}
use Rattle.lk_io.specs.declared.sinks.SinkEnd.TheVariants.{Failed, NoMemory}

pub Appends-none : (a : SinkState) → Appends (run a a) []
Appends-none a = record { given = Appends-nil a.given }

pub Appends-kept : (a b : SinkState) → b.given ≡ a.given → Appends (run a b) []
Appends-kept a b e = record { given = rw e (Appends-nil a.given) }

pub Appends-then : {a b c : SinkState} {xs ys : List ℕ} → Appends (run a b) xs → Appends (run b c) ys → Appends (run a c) (xs ++ ys)
Appends-then {a} {b} {c} {xs} {ys} first second = record { given = Appends-trans a.given b.given c.given xs ys first.given second.given }

pub Appends-then_kept : {a b c : SinkState} {xs : List ℕ} → Appends (run a b) xs → c.given ≡ b.given → Appends (run a c) xs
Appends-then_kept {a} {b} {c} {xs} first e = record { given = rw e first.given }

pub GivesPart-whole : {r : SinkRun} {xs : List ℕ} → Appends r xs → GivesPart r xs
GivesPart-whole {r} {xs} adds = record { part = xs; rest = []; whole = simp append-nil; adds = adds }

pub GivesPart-front : {r : SinkRun} {xs : List ℕ} (ys : List ℕ) → GivesPart r xs → GivesPart r (xs ++ ys)
GivesPart-front {r} {xs} ys p = record { part = p.part; rest = p.rest ++ ys; whole = rw p.whole (append_assoc p.part p.rest ys); adds = p.adds }

pub GivesPart-then : {a b c : SinkState} {xs ys : List ℕ} → Appends (run a b) xs → GivesPart (run b c) ys → GivesPart (run a c) (xs ++ ys)
GivesPart-then {a} {b} {c} {xs} {ys} first second = record {
  part = xs ++ second.part;
  rest = second.rest;
  whole = rw second.whole (sym (append_assoc xs second.part second.rest));
  adds = Appends-then first second.adds;
}

pub IsQuiet-none : (a : SinkState) → IsQuiet (run a a)
IsQuiet-none a = record { faults = refl; refusals = refl }

pub IsQuiet-then : {a b c : SinkState} → IsQuiet (run a b) → IsQuiet (run b c) → IsQuiet (run a c)
IsQuiet-then first second = record { faults = second.faults ∙ first.faults; refusals = second.refusals ∙ first.refusals }

pub IsFault-then : {a b c : SinkState} → IsQuiet (run a b) → IsFault (run b c) → IsFault (run a c)
IsFault-then first second = record { faults = rw (← first.faults) second.faults; refusals = second.refusals ∙ first.refusals }

pub IsRefusal-then : {a b c : SinkState} → IsQuiet (run a b) → IsRefusal (run b c) → IsRefusal (run a c)
IsRefusal-then first second = record { faults = second.faults ∙ first.faults; refusals = rw (← first.refusals) second.refusals }

pub IsCounted-then : {a b : SinkState} (c : SinkState) (end : SinkEnd) → IsQuiet (run a b) → IsCounted (run b c) end → IsCounted (run a c) end
IsCounted-then c Failed first second = IsFault-then first second
IsCounted-then c NoMemory first second = IsRefusal-then first second
