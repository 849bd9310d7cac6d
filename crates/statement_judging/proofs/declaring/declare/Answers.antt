use Rattle.std.proofs.Common.{subst, sym}
use Rattle.std.specs.Option.{option_map}
use Rattle.std.proofs.lemmas.Result.{on_ok_weaker}
use Rattle.slang_tree.specs.ExprTree.{expr_tree}
use Rattle.slang_tree.specs.TypeTree.{type_tree}
use Rattle.type_rules.specs.Meanings.{with_local}
use Rattle.text_types.specs.TextType.{text_value}
use Rattle.name_scopes.specs.Fits.{Fits}
use Rattle.statement_judging.proofs.Forms.{declaration_judged}
use Rattle.statement_judging.proofs.Scopes.{keeps_local}
use Rattle.statement_judging.specs.Keeps.{Keeps}
use Rattle.statement_judging.proofs.declaring.declare.Goals as goal

pub returns-clause-judged : goal.returns-clause-judged
returns-clause-judged c =
    on_ok_weaker c.declare.result
    (λ h at fits place.
    declaration_judged c.args.changes c.declare.new.self c.args.told.now.found c.new_name.new.told.found c.declared_by.new.told.found at place
    c.args.name.now (option_map type_tree c.args.ty.now) (expr_tree c.args.value.now) c.in_ok-ty.ty
    (c.new_name.ensures at fits) (c.in_ok-ty.ensures.declared at fits)
    (subst (λ text. Fits c.declare.new.self (with_local at text c.args.changes (option_map text_value c.in_ok-ty.ty))) c.as_str.ensures
    (h at (subst (λ s. Fits s at) (sym c.in_ok-ty.ensures.scope) fits))))
    c.declare.ensures.fits

pub returns-clause-kept : goal.returns-clause-kept
returns-clause-kept c =
    on_ok_weaker c.declare.result
    (λ h. subst (λ s. Keeps s c.declare.new.self) c.in_ok-ty.ensures.scope (keeps_local c.declared_by.new.scope c.declare.new.self h))
    c.declare.ensures.behind
