use Rattle.std.proofs.Common.{◌∙◌, subst, sym}
use Rattle.std.specs.Option.{option_map}
use Rattle.std.proofs.lemmas.Result.{IfOk-at_ok}
use Rattle.slang_tree.specs.ExprTree.{expr_tree}
use Rattle.slang_tree.specs.TypeTree.{type_tree}
use Rattle.program_trees.specs.Variables.{local}
use Rattle.type_rules.specs.Meanings.{with_local}
use Rattle.text_types.specs.TextType.{text_value}
use Rattle.lk_programs.specs.Program.{code_tree}
use Rattle.name_scopes.specs.Fits.{Fits}
use Rattle.statement_judging.specs.Keeps.{Keeps}
use Rattle.statement_judging.proofs.Scopes.{keeps_local}
use Rattle.value_making.proofs.Forms.{on_ok}
use Rattle.target_making.proofs.Forms.{declaration_made}
use Rattle.target_making.proofs.declaring.declared.Goals as goal

pub returns-clause-made : goal.returns-clause-made
returns-clause-made c = λ at fits has.
    let parts = c.in_ok-code.ensures.parts in
    let found = option_map text_value c.in_ok-ty.ty in
    let fits_value = subst (λ s. Fits s at) (sym c.in_ok-ty.ensures.scope) fits in
    let fits_behind = subst (λ s. Fits s at) (sym (on_ok parts.0 c.assigned.ensures.scope)) fits_value in
    declaration_made c.args.changes c.args.numbers c.declare.new.self c.args.nodes.now c.assigned.new.nodes c.args.locals.now c.local_more.new.locals
    (code_tree c.in_ok-code.code) at c.args.place c.args.name.now (option_map type_tree c.args.ty.now) (expr_tree c.args.value.now) found
    (c.in_ok-ty.ensures.declared at fits)
    (IfOk-at_ok _ parts.0 c.assigned.ensures.made at (local at.locals) fits_value has (c.in_ok-target.ensures at fits))
    c.in_ok-local_more.ensures
    (subst (λ text. Fits c.declare.new.self (with_local at text c.args.changes found)) c.as_str.ensures (on_ok parts.1 c.declare.ensures.fits at fits_behind))

pub returns-clause-kept : goal.returns-clause-kept
returns-clause-kept c =
    let parts = c.in_ok-code.ensures.parts in
    subst (λ s. Keeps s c.declare.new.self) (on_ok parts.0 c.assigned.ensures.scope ∙ c.in_ok-ty.ensures.scope)
    (keeps_local c.assigned.new.scope c.declare.new.self (on_ok parts.1 c.declare.ensures.behind))
