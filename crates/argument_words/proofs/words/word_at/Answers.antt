use denote.Enum.Bare.{same_true}
use Rattle.std.proofs.Common.{◌≡◌, ◌==◌, ℕ, ◌<◌, true, false, List, [], length, take, get_or, refl, sym, subst, ap, ◌∙◌, arith}
use Rattle.std.proofs.lemmas.Bool.Decides.{nat_tests}
use Rattle.std.proofs.lemmas.Bool.{both_ways}
use Rattle.std.proofs.lemmas.List.{nil_from_length}
use Rattle.slang_lexer.specs.contracts.token.TokenKind.{the_type}
use Rattle.slang_lexer.specs.declared.token.TokenKind.TheVariants as kind
use Rattle.slang_lexer.specs.Scan.{IsLongestFront}
use Rattle.slang_lexer.proofs.Fronts.{IsCharBoundary-token}
use Rattle.slang_tokens.specs.Tok.{Tok, same_kind}
use Rattle.slang_tokens.specs.Tokens.{token_of}
use Rattle.argument_rules.specs.Words.{nowhere}
use Rattle.argument_words.specs.Words.{IsWordAnd}
use Rattle.argument_words.proofs.Cuts.{none_over, only_over, slash_here, none_here, newline_here, word_here}
use Rattle.argument_words.proofs.Next.{no_minus}
use Rattle.argument_words.proofs.words.word_at.Goals as goal

empty_is : (n : ℕ) (text : List ℕ) → (length text == 0) ≡ true → text ≡ []
empty_is n text h = nil_from_length text (zero_is (length text) h)
  where
    zero_is : (k : ℕ) → (k == 0) ≡ true → k ≡ 0
    zero_is k e = grind (arith, nat_tests, e)

some_are : (n : ℕ) (text : List ℕ) → (length text == 0) ≡ false → 0 < length text
some_are n text h = grind (arith, nat_tests, h)

pub returns-then-is_empty-clause-found : goal.returns-then-is_empty-clause-found
returns-then-is_empty-clause-found c =
    let cut = c.behind_blanks-text.ensures in
    let text = c.behind_blanks-text.result.now in
    let none = empty_is 0 text (sym c.is_empty.ensures ∙ c.if-is_empty.true) in (
      none_over c.args.left.now cut.blanks text cut.are_blanks cut.spelled cut.stops none,
      only_over c.args.left.now cut.blanks text cut.are_blanks cut.spelled cut.stops none,
    )

pub returns-then-as_bytes-eq47-clause-found : goal.returns-then-as_bytes-eq47-clause-found
returns-then-as_bytes-eq47-clause-found c =
    let cut = c.behind_blanks-text.ensures in
    let text = c.behind_blanks-text.result.now in
    slash_here c.args.left.now cut.blanks text cut.are_blanks cut.spelled cut.stops (some_are 0 text (sym c.is_empty.ensures ∙ c.if-is_empty.false))
    (ap (λ (xs : List ℕ). get_or xs 0 0) (sym c.as_bytes.ensures.value) ∙ c.if-as_bytes-eq47.true)

pub range-requires-clause-end_boundary : goal.range-requires-clause-end_boundary
range-requires-clause-end_boundary c =
    IsCharBoundary-token c.behind_blanks-text.result.now c.in-Some.kind c.in-Some.len c.behind_blanks-text.utf8 c.in-Some.ensures

pub range_from-requires : goal.range_from-requires
range_from-requires c = λ some.
    IsCharBoundary-token c.behind_blanks-text.result.now c.in-Some.kind c.in-Some.len c.behind_blanks-text.utf8 c.in-Some.ensures

pub returns-in-None-clause-found : goal.returns-in-None-clause-found
returns-in-None-clause-found c =
    let cut = c.behind_blanks-text.ensures in
    let text = c.behind_blanks-text.result.now in
    none_here c.args.left.now cut.blanks text cut.are_blanks cut.spelled cut.stops (some_are 0 text (sym c.is_empty.ensures ∙ c.if-is_empty.false))
    c.in-None.ensures

pub returns-then-eq-clause-found : goal.returns-then-eq-clause-found
returns-then-eq-clause-found c =
    let cut = c.behind_blanks-text.ensures in
    let text = c.behind_blanks-text.result.now in
    newline_here c.args.left.now cut.blanks text cut.are_blanks cut.spelled cut.stops (some_are 0 text (sym c.is_empty.ensures ∙ c.if-is_empty.false))
    c.in-Some.len (subst (λ k. IsLongestFront text k c.in-Some.len)
    (same_true the_type tt c.in-Some.kind kind.Newline (sym c.eq.ensures ∙ c.if-eq.true)) c.in-Some.ensures)

pub returns-else-eq-clause-found : goal.returns-else-eq-clause-found
returns-else-eq-clause-found c =
    let cut = c.behind_blanks-text.ensures in
    let text = c.behind_blanks-text.result.now in
    let word = word_here c.args.left.now cut.blanks text cut.are_blanks cut.spelled cut.stops
    (some_are 0 text (sym c.is_empty.ensures ∙ c.if-is_empty.false)) c.in-Some.kind c.in-Some.len c.in-Some.ensures
    (λ e. both_ways _ (subst (λ k. same_kind k kind.Newline ≡ false) e (sym c.eq.ensures ∙ c.if-eq.false)) refl)
    (λ e. c.if-as_bytes-eq47.false (ap (λ (xs : List ℕ). get_or xs 0 0) c.as_bytes.ensures.value ∙ e)) in
    subst (λ (t : Tok). IsWordAnd c.args.left.now t c.range_from.result.now)
    (sym (c.word_token.ensures ∙ ap (λ (bytes : List ℕ). token_of c.in-Some.kind bytes nowhere)
    (c.range.ensures.value ∙ ap (λ i. take i text) (no_minus c.in-Some.len))))
    (subst (IsWordAnd c.args.left.now (token_of c.in-Some.kind (take c.in-Some.len text) nowhere)) (sym c.range_from.ensures.value) word)
