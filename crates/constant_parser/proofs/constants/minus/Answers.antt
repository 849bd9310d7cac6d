use Rattle.std.proofs.Common.{ap, ◌∙◌, sym, rules}
use mir.Syntax.{w128}
use mir.Val.{SFits}
use Rattle.std.proofs.lemmas.Int.{to_z-of_z}
use Rattle.slang_tree.specs.declared.declaration.Const.TheVariants as consts
use Rattle.slang_tree.specs.DeclTree as d
use Rattle.slang_tree.specs.DeclTree.{const_tree}
use Rattle.slang_tree.proofs.Lines.{const_tree-Minus}
use Rattle.slang_tokens.specs.Tok.{tok}
use Rattle.slang_machine.specs.Declarations.{end_const}
use Rattle.token_cursor.specs.Outcome.{outcome}
use Rattle.token_cursor.specs.Gives.{ahead}
use Rattle.token_cursor.proofs.Exits.{passed_on}
use Rattle.constant_parser.proofs.constants.minus.Goals as goal

pub returns-in_err-behind-clause-refused : goal.returns-in_err-behind-clause-refused
returns-in_err-behind-clause-refused c =
    passed_on c.from_residual.result _ _ _ c.from_residual.ensures.1 c.in_err-behind.ensures.refused (λ due none around. none c.args.place around)

pub returns-clause-reads : goal.returns-clause-reads
returns-clause-reads c = λ around.
    let place = c.args.place in
    let behind = c.in_ok-behind.behind in
    let value = c.in_ok-behind.value in
    let fits : SFits w128 value = search rules in
    c.in_ok-behind.ensures.reads place around
    ∙ ap (λ tree. outcome (end_const tree around) (ahead c.digits.new.tokens)) (sym (const_tree-Minus place behind value))
    ∙ ap (λ z. outcome (end_const (const_tree (consts.Minus place behind z)) around) (ahead c.digits.new.tokens)) (sym (to_z-of_z w128 value fits))
