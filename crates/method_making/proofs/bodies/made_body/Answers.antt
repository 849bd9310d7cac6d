use Rattle.std.proofs.Common.{◌∙◌, ap, length, map, subst, sym, take}
use Rattle.std.proofs.lemmas.Result.{IfOk-at_ok}
use Rattle.slang_tree.specs.StmtTree.{stmt_tree, stmts_of}
use Rattle.slang_tree.specs.DeclTree.{method_decl_tree}
use Rattle.lk_programs.specs.Program.{code_trees}
use Rattle.name_scopes.specs.declared.scope.NameScope.{NameScope}
use Rattle.name_scopes.specs.Fits.{Fits}
use Rattle.method_judging.specs.Bodies.{behind_body, within_body}
use Rattle.code_making.specs.Made.{AreCode}
use Rattle.method_making.proofs.Inside.{body_is, fields_behind, on_made}
use Rattle.method_making.proofs.bodies.made_body.Goals as goal

pub returns-clause-made : goal.returns-clause-made
returns-clause-made c =
    on_made c.made_code-codes.result c.made_return-returned.result c.whole_code.result c.body_with.result c.made_code-codes.new.locals _
    c.whole_code.ensures c.body_with.ensures
    (λ body is_locals parts at fits fields.
    let decl = method_decl_tree c.args.decl.now in
    let entered = subst (λ ms. Fits c.enter_body.new.scope (within_body at ms)) c.as_slice.ensures (c.in_ok-enter_body.ensures.fits at fits) in
    let code = subst (λ stmts. AreCode c.args.numbers c.made_code-codes.new.scope c.args.nodes.now c.made_code-codes.new.nodes c.in_ok-locals.locals
    c.made_code-codes.new.locals (code_trees parts.first) (within_body at decl.modifies) (stmts_of (map stmt_tree stmts)))
    c.as_slice-2.ensures (IfOk-at_ok _ parts.was_first c.made_code-codes.ensures.made (within_body at decl.modifies) entered fields) in
    let given = IfOk-at_ok _ parts.was_second c.made_return-returned.ensures.code _ code.fits (fields_behind c.args.records.now at decl fields) in
    body_is c.args.numbers c.made_code-codes.new.scope c.args.nodes.now c.made_code-codes.new.nodes c.made_return-returned.new.nodes _
    c.in_ok-locals.locals c.made_code-codes.new.locals at decl parts.first parts.second body c.in_ok-locals.ensures code given is_locals parts.is)

pub returns-clause-fits : goal.returns-clause-fits
returns-clause-fits c =
    on_made c.made_code-codes.result c.made_return-returned.result c.whole_code.result c.body_with.result c.made_code-codes.new.locals _
    c.whole_code.ensures c.body_with.ensures
    (λ body is_locals parts at fits fields.
    let decl = method_decl_tree c.args.decl.now in
    let entered = subst (λ ms. Fits c.enter_body.new.scope (within_body at ms)) c.as_slice.ensures (c.in_ok-enter_body.ensures.fits at fits) in
    let code = subst (λ stmts. AreCode c.args.numbers c.made_code-codes.new.scope c.args.nodes.now c.made_code-codes.new.nodes c.in_ok-locals.locals
    c.made_code-codes.new.locals (code_trees parts.first) (within_body at decl.modifies) (stmts_of (map stmt_tree stmts)))
    c.as_slice-2.ensures (IfOk-at_ok _ parts.was_first c.made_code-codes.ensures.made (within_body at decl.modifies) entered fields) in
    subst (λ s. Fits s (behind_body at decl)) (sym (IfOk-at_ok _ parts.was_second c.made_return-returned.ensures.scope)) code.fits)

pub returns-clause-names : goal.returns-clause-names
returns-clause-names c =
    on_made c.made_code-codes.result c.made_return-returned.result c.whole_code.result c.body_with.result c.made_code-codes.new.locals _
    c.whole_code.ensures c.body_with.ensures
    (λ body is_locals parts.
    let kept = IfOk-at_ok _ parts.was_first c.made_code-codes.ensures.kept in
    ap (λ (s : NameScope). take (length c.args.scope.now.names) s.names) (IfOk-at_ok _ parts.was_second c.made_return-returned.ensures.scope)
    ∙ ap (λ es. take (length es) c.made_code-codes.new.scope.names) (sym c.in_ok-enter_body.ensures.names)
    ∙ kept.names ∙ c.in_ok-enter_body.ensures.names)

pub returns-clause-outside : goal.returns-clause-outside
returns-clause-outside c =
    on_made c.made_code-codes.result c.made_return-returned.result c.whole_code.result c.body_with.result c.made_code-codes.new.locals _
    c.whole_code.ensures c.body_with.ensures
    (λ body is_locals parts.
    let kept = IfOk-at_ok _ parts.was_first c.made_code-codes.ensures.kept in
    ap (λ (s : NameScope). s.outside) (IfOk-at_ok _ parts.was_second c.made_return-returned.ensures.scope) ∙ kept.outside
    ∙ c.in_ok-enter_body.ensures.outside)
