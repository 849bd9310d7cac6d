use Rattle.std.proofs.Common.{◌≡◌, ◌+◌, ◌≤◌, drop}
use Rattle.slang_tokens.specs.Tok.{toks}
use Rattle.slang_tokens.specs.Counts.{counts_of}
use Rattle.slang_tokens.specs.Weight.{light_len, no_counts}
use Rattle.slang_tokens.proofs.weight.light_len.Given as goal

-- those so far are light, and what is left decides how many more
abbrev pub invariant-loop-token : goal.invariant-loop-token
invariant-loop-token l = record {
  left : light_len l.limit no_counts (toks l.fn.tokens) ≡ light_len l.limit (counts_of l.counts) (toks (drop l.token-index l.tokens)) + l.len;
  light : l.counts.weight ≤ l.limit;
  place : l.len ≡ l.token-index;
}
