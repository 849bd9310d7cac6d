use Rattle.std.proofs.Common.{◌==◌, length, ap, sym}
use Rattle.std.proofs.lemmas.List.{length-map}
use Rattle.slang_tokens.specs.Tok.{tok, toks}
use Rattle.token_weights.proofs.Light.{light_where}
use Rattle.token_weights.proofs.counts.is_light.Goals as goal

pub returns : goal.returns
returns c =
    light_where (toks c.args.tokens.now) c.in_ok-len.len c.in_ok-len.ensures (c.in_ok-len.len == length c.args.tokens.now)
    (ap (λ n. c.in_ok-len.len == n) (sym (length-map c.args.tokens.now tok)))
