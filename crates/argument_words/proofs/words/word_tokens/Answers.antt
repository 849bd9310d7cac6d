use Rattle.std.proofs.Common.{rules, ◌≡◌, ◌++◌, ◌∷◌, List, [], ap, sym, subst, ◌∙◌}
use Rattle.std.proofs.lemmas.List.{append-nil}
use Rattle.slang_tokens.specs.Tok.{Tok, tok, toks}
use Rattle.slang_tokens.specs.declared.lexeme.Lexeme.{Lexeme}
use Rattle.argument_words.specs.Words.{tokens_in, AreTokensOf}
use Rattle.argument_words.proofs.Cuts.{pushed}
use Rattle.argument_words.proofs.words.word_tokens.Goals as goal

pub returns-in-Nothing : goal.returns-in-Nothing
returns-in-Nothing c = λ a h. let s = c.words.invariant.complete a h in c.in-Nothing.ensures.found s.0 s.1

pub returns-in-Over : goal.returns-in-Over
returns-in-Over c =
    let so_far = tokens_in c.words.tokens in
    let found = c.in-Over.ensures.found in (
      subst (AreTokensOf c.args.text.now) (append-nil so_far) (c.words.invariant.sound [] found.0),
      λ a h. let s = c.words.invariant.complete a h in s.2 ∙ ap (λ (ts : List Tok). so_far ++ ts) (found.1 s.0 s.1) ∙ append-nil so_far,
    )

pub words-preserved : goal.words-preserved
words-preserved c =
    let old = c.words.tokens.items in
    let word = c.in-Word.ensures.found in
    let more_is : (more : List Tok) → toks old ++ (tok c.in-Word.token ∷ more) ≡ tokens_in c.push.new.self ++ more =
    λ more. sym (pushed old c.in-Word.token more) ∙ ap (λ (ts : List Lexeme). toks ts ++ more) (sym c.in_ok-push-in-Word.ensures.items) in
    record {
      text = search rules;
      sound = λ more h. subst (AreTokensOf c.args.text.now) (more_is more) (c.words.invariant.sound (tok c.in-Word.token ∷ more) (word.joins more h));
      complete = λ all h.
          let s = c.words.invariant.complete all h in
          let w = word.splits s.0 s.1 in
          (w.0, w.1, s.2 ∙ ap (λ (ts : List Tok). toks old ++ ts) w.2 ∙ more_is w.0);
    }
