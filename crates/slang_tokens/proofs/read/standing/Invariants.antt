use Rattle.std.proofs.Common.{◌≡◌, ◌-◌, ◌≤◌, length}
use Rattle.std.specs.Str.{IsCharBoundary}
use Rattle.slang_tokens.specs.Places.{place_at}
use Rattle.slang_tokens.specs.Tok.{toks}
use Rattle.slang_tokens.specs.Front.{front}
use Rattle.slang_tokens.proofs.Scan.{IsScanned}
use Rattle.slang_tokens.proofs.read.standing.Given as goal

abbrev pub invariant-loop-token : goal.invariant-loop-token
invariant-loop-token l = record {
  scanned : IsScanned l.text l.at (front l.front) (toks l.list.items);
  place : l.place ≡ place_at l.text l.at;
  fits : l.at ≤ length l.text;
  cut : IsCharBoundary l.text l.at;
}

abbrev pub decreases-loop-token : goal.decreases-loop-token
decreases-loop-token l = length l.text - l.at
