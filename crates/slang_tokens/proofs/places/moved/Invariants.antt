use Rattle.std.proofs.Common.{◌≡◌, ◌++◌, List, ℕ, take}
use Rattle.slang_tokens.specs.Places.{place_behind}
use Rattle.slang_tokens.proofs.places.moved.Given as goal

-- the place so far is behind the bytes so far
abbrev pub invariant-loop-byte : goal.invariant-loop-byte
invariant-loop-byte l = (before : List ℕ) → l.fn.place ≡ place_behind before → l.here ≡ place_behind (before ++ take l.byte-index l.bytes)
