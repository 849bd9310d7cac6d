-- The loop of `give_all`.
use Rattle.std.proofs.Common.{ℕ, ◌+◌, ◌≤◌, List, [], ◌++◌, take, drop, length, Ok, sym, ◌∙◌, arith}
use Rattle.std.proofs.lemmas.List.{length-drop, take-append-drop}
use Rattle.std.proofs.Math.Seq.{take-add}
use Rattle.lk_io.specs.Run.{run}
use Rattle.lk_io.specs.Sink.{SinkState, SinkRun, Appends, KeepsHanded, Gives, GivesPart, IsQuiet}
use Rattle.lk_io.specs.GiveAll.{GivesWhole, GivesFront, given_before}
use Rattle.lk_io.specs.declared.giving.GiveEnd.{GiveEnd}
use Rattle.lk_io.proofs.SinkLaws.{Appends-none, Appends-then, IsQuiet-none, IsQuiet-then}

-- The first `out` bytes were given and none handed on, and no call failed or found no memory.
pub record HasGiven (r : SinkRun) (piece : List ℕ) (out : ℕ) : Type 0 where
  pub fits : out ≤ length piece
  pub adds : Appends r (take out piece)
  pub handed : KeepsHanded r
  pub quiet : IsQuiet r

pub HasGiven-more : {a b c : SinkState} {piece : List ℕ} {out : ℕ} (n : ℕ)
    → HasGiven (run a b) piece out → Gives (run b c) (drop out piece) (Ok n) → HasGiven (run a c) piece (out + n)
HasGiven-more {a} {b} {c} {piece} {out} n so_far given = record {
  fits = omega (arith, so_far.fits, given.fits, length-drop out piece);
  adds = rw (take-add out n piece) (Appends-then so_far.adds given.adds);
  handed = given.handed ∙ so_far.handed;
  quiet = IsQuiet-then so_far.quiet given.cause;
}

pub GivesWhole-none : (a : SinkState) → GivesWhole (run a a) []
GivesWhole-none a = record { adds = Appends-none a; quiet = IsQuiet-none a }

pub GivesWhole-then : {a b c : SinkState} {xs ys : List ℕ} → GivesWhole (run a b) xs → GivesWhole (run b c) ys → GivesWhole (run a c) (xs ++ ys)
GivesWhole-then first second = record { adds = Appends-then first.adds second.adds; quiet = IsQuiet-then first.quiet second.quiet }

-- A front of a piece is a part of it.
pub GivesPart-cut : {r : SinkRun} {piece : List ℕ} {end : GiveEnd} → GivesFront r piece end → GivesPart r piece
GivesPart-cut {r} {piece} {end} front = record {
  part = take (given_before end) piece;
  rest = drop (given_before end) piece;
  whole = sym (take-append-drop (given_before end) piece);
  adds = front.adds;
}
