use Rattle.std.proofs.Common.{◌≡◌, take}
use Rattle.slang_tokens.specs.Places.{place_behind}
use Rattle.text_parser.proofs.places.place_behind.Given as goal

-- the place so far is behind the bytes so far
abbrev pub invariant-bytes : goal.invariant-bytes
invariant-bytes l = l.place ≡ place_behind (take l.byte-index l.bytes)
