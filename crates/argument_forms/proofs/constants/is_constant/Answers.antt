use Rattle.std.proofs.Common.{◌≡◌, true, List, ap, sym, subst, ◌∙◌}
use Rattle.slang_tokens.specs.Tok.{Tok, toks}
use Rattle.argument_forms.specs.Machine.{is_whole, walk, begins}
use Rattle.argument_forms.proofs.Complete.{complete}
use Rattle.argument_forms.proofs.Sound.{constant_from}
use Rattle.argument_forms.proofs.constants.is_constant.Goals as goal

pub returns : goal.returns
returns c =
    let tokens = toks c.args.tokens.now in
    let told : c.is_whole.result ≡ is_whole (walk begins tokens) = c.is_whole.ensures ∙ ap is_whole c.walk.ensures in (
      λ is. constant_from tokens (sym told ∙ is),
      λ h. told ∙ subst (λ (ts : List Tok). is_whole (walk begins ts) ≡ true) h.spelled (complete h.const h.well_formed),
    )
