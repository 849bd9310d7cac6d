-- The calls of the sources and sinks in memory.
use Rattle.std.proofs.Common.{◌≡◌, ℕ, ◌≤◌, ◌<◌, List, take, drop, length, min, Some, Ok, sym, ap, arith}
use Rattle.std.proofs.lemmas.List.{take-append-drop, nil_from_length}
use Rattle.lk_io.specs.Run.{run}
use Rattle.lk_io.specs.Source.{Takes}

-- A call that moves n bytes, as many as are left, fit the buffer and may go in one call.
pub Takes-moved : {E : Type 0} {left left_now : List ℕ} {faults faults_now : ℕ} {buffer : List ℕ} {n : ℕ} (most : ℕ)
    → n ≡ min (min (length buffer) most) (length left) → 0 < length buffer → 1 ≤ most
    → take n buffer ≡ take n left → left_now ≡ drop n left → faults_now ≡ faults
    → Takes {E = E} (run (record { left = Some left; faults = faults }) (record { left = Some left_now; faults = faults_now })) buffer (Ok n)
Takes-moved {E} {left} {left_now} {faults} {faults_now} {buffer} {n} most count has_room may_move is_moved is_left no_fault = record {
  fits = omega arith;
  moves = record { left = rw (is_moved, is_left) (sym (take-append-drop n left)) };
  end = (λ none. nil_from_length left (omega arith), λ empty. let e : length left ≡ 0 = ap length empty in omega arith);
  kept = tt;
  cause = no_fault;
}
