use Rattle.std.proofs.Common.{◌∙◌, ap, length, map, subst, sym, take}
use Rattle.std.specs.Option.{option_map}
use Rattle.std.proofs.lemmas.Result.{on_ok_weaker}
use Rattle.slang_tree.specs.StmtTree.{stmt_tree, stmts_of}
use Rattle.slang_tree.specs.DeclTree.{method_decl_tree}
use Rattle.text_types.specs.Found.{seen}
use Rattle.type_rules.specs.Statements.{stmts_faults}
use Rattle.type_rules.specs.Projects.{return_faults}
use Rattle.name_scopes.specs.declared.scope.NameScope.{NameScope}
use Rattle.name_scopes.specs.Fits.{Fits}
use Rattle.step_judging.proofs.StepFaults.{told_two}
use Rattle.statement_judging.specs.Judged.{AreStatements}
use Rattle.method_judging.specs.Bodies.{behind_body, within_body}
use Rattle.method_judging.proofs.bodies.judged_body.Goals as goal

pub returns-clause-told : goal.returns-clause-told
returns-clause-told c =
    on_ok_weaker c.judged_return.result
    (λ h at fits.
    let decl = method_decl_tree c.args.decl.now in
    let body = within_body at decl.modifies in
    let told = c.args.told.now.found in
    let entered = subst (λ ms. Fits c.enter_body.new.scope (within_body at ms)) c.as_slice.ensures (c.in_ok-enter_body.ensures.fits at fits) in
    let inside = subst (λ stmts. AreStatements c.judged_stmts.new.scope told c.judged_stmts.new.told.found body (stmts_of (map stmt_tree stmts)))
    c.as_slice-2.ensures (c.in_ok-judged_stmts.ensures.judged body entered) in
    told_two told c.judged_stmts.new.told.found c.judged_return.new.told.found (stmts_faults body (stmts_of decl.body))
    (return_faults (behind_body at decl) decl.written c.args.has_signature (seen c.args.found).type decl.returned)
    inside.told (h (behind_body at decl) inside.fits))
    c.judged_return.ensures.told

pub returns-clause-fits : goal.returns-clause-fits
returns-clause-fits c =
    on_ok_weaker c.judged_return.result
    (λ same at fits.
    let decl = method_decl_tree c.args.decl.now in
    let body = within_body at decl.modifies in
    let entered = subst (λ ms. Fits c.enter_body.new.scope (within_body at ms)) c.as_slice.ensures (c.in_ok-enter_body.ensures.fits at fits) in
    let inside = subst (λ stmts. AreStatements c.judged_stmts.new.scope c.args.told.now.found c.judged_stmts.new.told.found body (stmts_of (map stmt_tree stmts)))
    c.as_slice-2.ensures (c.in_ok-judged_stmts.ensures.judged body entered) in
    subst (λ s. Fits s (behind_body at decl)) (sym same) inside.fits)
    c.judged_return.ensures.scope

pub returns-clause-names : goal.returns-clause-names
returns-clause-names c =
    on_ok_weaker c.judged_return.result
    (λ same.
    ap (λ (s : NameScope). take (length c.args.scope.now.names) s.names) same
    ∙ ap (λ es. take (length es) c.judged_stmts.new.scope.names) (sym c.in_ok-enter_body.ensures.names)
    ∙ c.in_ok-judged_stmts.ensures.kept.names
    ∙ c.in_ok-enter_body.ensures.names)
    c.judged_return.ensures.scope

pub returns-clause-outside : goal.returns-clause-outside
returns-clause-outside c =
    on_ok_weaker c.judged_return.result
    (λ same. ap (λ (s : NameScope). s.outside) same ∙ c.in_ok-judged_stmts.ensures.kept.outside ∙ c.in_ok-enter_body.ensures.outside)
    c.judged_return.ensures.scope
