use Rattle.std.proofs.Common.{◌+◌, ◌∙◌, ap, length, map, sym}
use Rattle.std.proofs.lemmas.List.{length-map}
use Rattle.std.proofs.lemmas.Result.{IfOk-at_ok, IfOk-weaker}
use Rattle.slang_tree.specs.declared.expression.Name.{Name}
use Rattle.slang_tree.specs.StmtTree.{stmts_of}
use Rattle.slang_tree.specs.DeclTree.{method_decl_tree, param_tree}
use Rattle.type_rules.specs.Meanings.{meaning_of}
use Rattle.type_rules.specs.Statements.{local_counts}
use Rattle.typed_texts.specs.TypedProjects.{global_meant}
use Rattle.claim_making.specs.Parts.{FromThree}
use Rattle.method_judging.specs.Bodies.{after_method}
use Rattle.method_judging.proofs.Whole.{method_left}
use Rattle.method_making.specs.Made.{IsMethodOf}
use Rattle.method_making.proofs.Whole.{method_made}
use Rattle.method_making.proofs.methods.made_method.Goals as goal

pub returns-clause-fits : goal.returns-clause-fits
returns-clause-fits c =
    IfOk-weaker c.method_with.result (FromThree c.copy.result c.made_modifies-modifies.result c.made_parts-parts.result (IsMethodOf c.in_ok-node.node)) _
    (λ made from names at knows fits fields.
    let decl = method_decl_tree c.args.decl.now in
    let old = c.args.scope.now in
    let new = c.made_parts-parts.new.scope in
    let within = IfOk-at_ok _ from.was_third c.made_parts-parts.ensures.within in
    let left = c.leave_method.ensures within.contract within.outside
    ∙ ap (λ n. after_method n c.len-covered.result old.locals within.contract new) c.len-names.ensures
    ∙ ap (λ n. after_method (length old.names) n old.locals within.contract new) c.len-covered.ensures in
    method_left old within.contract new c.leave_method.new.scope names at decl within.keeps within.names left fits
    (IfOk-at_ok _ from.was_third c.made_parts-parts.ensures.fits names at knows fits fields))
    c.method_with.ensures

pub returns-clause-method : goal.returns-clause-method
returns-clause-method c =
    IfOk-weaker c.method_with.result (FromThree c.copy.result c.made_modifies-modifies.result c.made_parts-parts.result (IsMethodOf c.in_ok-node.node)) _
    (λ made from names at knows fits fields.
    let decl = method_decl_tree c.args.decl.now in
    let old = c.args.scope.now in
    let new = c.made_parts-parts.new.scope in
    let within = IfOk-at_ok _ from.was_third c.made_parts-parts.ensures.within in
    let left = c.leave_method.ensures within.contract within.outside
    ∙ ap (λ n. after_method n c.len-covered.result old.locals within.contract new) c.len-names.ensures
    ∙ ap (λ n. after_method (length old.names) n old.locals within.contract new) c.len-covered.ensures in
    let again = method_left old within.contract new c.leave_method.new.scope names at decl within.keeps within.names left fits
    (IfOk-at_ok _ from.was_third c.made_parts-parts.ensures.fits names at knows fits fields) in
    let counted = c.in_ok-numbers.ensures.locals
    ∙ ap (λ n. n + local_counts (stmts_of decl.body)) (sym (length-map c.args.decl.now.params param_tree)) in
    method_made c.args.globals c.in_ok-numbers.numbers names at decl c.args.nodes.now c.add.new.self c.made_parts-parts.new.nodes c.in_ok-node.node
    from.first from.second from.third made counted c.in_ok-numbers.ensures.globals c.in_ok-node.ensures.number
    c.in_ok-node.ensures.added (IfOk-at_ok _ from.was_third c.made_parts-parts.ensures.parts names at knows fits fields)
    (IfOk-at_ok _ from.was_second c.made_modifies-modifies.ensures at again
    ∙ ap (map (λ (written : Name). global_meant (meaning_of at written.text))) c.as_slice.ensures)
    (IfOk-at_ok _ from.was_first c.copy.ensures) from.is)
    c.method_with.ensures

pub returns-clause-outline : goal.returns-clause-outline
returns-clause-outline c =
    IfOk-weaker c.method_with.result (FromThree c.copy.result c.made_modifies-modifies.result c.made_parts-parts.result (IsMethodOf c.in_ok-node.node)) _
    (λ made from. IfOk-at_ok _ from.was_third c.made_parts-parts.ensures.outline)
    c.method_with.ensures
