use Rattle.std.proofs.Common.{◌≡◌, ap, ◌∙◌, sym}
use Rattle.slang_tree.specs.TypeTree.{type_tree, sequence_name}
use Rattle.slang_tokens.specs.Tok.{tok}
use Rattle.slang_machine.specs.Open.{sequence_of}
use Rattle.slang_machine.specs.States.{want_type, type_left, have_type}
use Rattle.slang_machine.specs.Declarations.{end_type}
use Rattle.token_cursor.specs.Outcome.{outcome}
use Rattle.token_cursor.specs.Gives.{ahead}
use Rattle.token_cursor.specs.Lists.{behind}
use Rattle.token_cursor.proofs.Exits.{passed_on, built, refused_by, kept_with, kept_refused}
use Rattle.token_cursor.proofs.ReadTypes.{isz_begins, element_due, element_closes, bracket_due}
use Rattle.token_cursor.proofs.types.+types.Goals as goal

pub bracketed_type-returns-in_err-expect-clause-refused : goal.bracketed_type-returns-in_err-expect-clause-refused
bracketed_type-returns-in_err-expect-clause-refused t c =
    passed_on c.from_residual.result _ _ _ c.from_residual.ensures.1 c.in_err-expect.ensures.refused (λ due none from inner to x y. none from (want_type inner) x)

pub bracketed_type-returns-in_err-ty-clause-refused : goal.bracketed_type-returns-in_err-ty-clause-refused
bracketed_type-returns-in_err-ty-clause-refused t c =
    passed_on c.from_residual-in_err-ty.result _ _ _ c.from_residual-in_err-ty.ensures.1 c.in_err-ty.ensures.refused (λ due none from inner to x y.
    c.in_ok-expect.ensures.reads from (want_type inner) x ∙ none inner)

pub bracketed_type-returns-clause-reads : goal.bracketed_type-returns-clause-reads
bracketed_type-returns-clause-reads t c =
    kept_with c.kept.result c.in_ok-ty.ty c.expect-2.result _ _ c.kept.ensures c.expect-2.ensures.reads (λ reads from inner to x y.
    let ty = type_tree c.in_ok-ty.ty in
    c.in_ok-expect.ensures.reads from (want_type inner) x
    ∙ c.in_ok-ty.ensures.reads inner
    ∙ ap (λ s. outcome s (ahead c.type_name.new.tokens)) (y.read ty)
    ∙ reads (have_type ty inner) (to ty) (bracket_due _ ty inner to y))

pub bracketed_type-returns-clause-refused : goal.bracketed_type-returns-clause-refused
bracketed_type-returns-clause-refused t c =
    kept_refused c.kept.result c.in_ok-ty.ty c.expect-2.result _ _ c.kept.ensures c.expect-2.ensures.refused (λ due none from inner to x y.
    let ty = type_tree c.in_ok-ty.ty in
    c.in_ok-expect.ensures.reads from (want_type inner) x
    ∙ c.in_ok-ty.ensures.reads inner
    ∙ ap (λ s. outcome s (ahead c.type_name.new.tokens)) (y.read ty)
    ∙ none (have_type ty inner) (to ty) (bracket_due _ ty inner to y))

pub type_name-returns-then-is-clause-reads : goal.type_name-returns-then-is-clause-reads
type_name-returns-then-is-clause-reads t c =
    let place = c.in-Some.token.now.place in
    built c.sequence_of.result c.bracketed_type.result (λ made read. type_tree made ≡ sequence_name place (type_tree read)) _ _ c.sequence_of.ensures.made c.bracketed_type.ensures.reads
    (λ made read reads e around.
    let all = ahead c.args.tokens.now in
    isz_begins around (tok c.in-Some.token.now) (behind all) all c.in-Some.ensures (sym c.is.ensures ∙ c.if-is.true)
    ∙ ap (outcome (type_left place around)) (sym c.advance.ensures)
    ∙ reads (type_left place around) (sequence_of place around) (λ ty. end_type (sequence_name place ty) around) (element_due _ place around) (element_closes place around)
    ∙ ap (λ ty. outcome (end_type ty around) (ahead c.bracketed_type.new.tokens)) (sym e))

pub type_name-returns-then-is-clause-refused : goal.type_name-returns-then-is-clause-refused
type_name-returns-then-is-clause-refused t c =
    refused_by c.sequence_of.result c.bracketed_type.result _ _ c.sequence_of.ensures.refused c.bracketed_type.ensures.refused (λ due none around.
    let place = c.in-Some.token.now.place in
    let all = ahead c.args.tokens.now in
    isz_begins around (tok c.in-Some.token.now) (behind all) all c.in-Some.ensures (sym c.is.ensures ∙ c.if-is.true)
    ∙ ap (outcome (type_left place around)) (sym c.advance.ensures)
    ∙ none (type_left place around) (sequence_of place around) (λ ty. end_type (sequence_name place ty) around) (element_due _ place around) (element_closes place around))
