use Rattle.std.proofs.Common.{◌≡◌, ◌≤◌, Some, take}
use Rattle.slang_tokens.specs.Tok.{toks}
use Rattle.argument_forms.specs.Machine.{walk, begins}
use Rattle.argument_forms.proofs.constants.walk.Given as goal

abbrev pub invariant-loop-token : goal.invariant-loop-token
invariant-loop-token l = record {
  walked : walk begins (toks (take l.token-index l.tokens)) ≡ Some l.state;
  lists : l.state.lists ≤ l.token-index;
  squares : l.state.squares ≤ l.token-index;
}
