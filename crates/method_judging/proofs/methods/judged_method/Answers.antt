use Rattle.std.proofs.Common.{◌∙◌, ap, length, subst, sym}
use Rattle.slang_tree.specs.DeclTree.{method_decl_tree}
use Rattle.text_types.specs.Found.{seen}
use Rattle.type_rules.specs.Judged.{Judged}
use Rattle.type_rules.specs.Projects.{contract_scope}
use Rattle.signature_judging.specs.Knows.{Knows}
use Rattle.method_judging.specs.Bodies.{after_method}
use Rattle.method_judging.proofs.Whole.{method_left, method_told}
use Rattle.method_judging.proofs.methods.judged_method.Goals as goal

pub returns-clause-told : goal.returns-clause-told
returns-clause-told c = λ names at knows fits.
    let decl = method_decl_tree c.args.decl.now in
    let knows_same = subst (λ s. Knows s.names names) (sym c.in_ok-holds.ensures.outline) knows in
    method_told c.args.told.now.found c.judged_header.new.told.found c.judged_body.new.told.found names at decl c.in_ok-holds.holds (seen c.in_ok-found.found).type
    (c.in_ok-holds.ensures.signature names knows)
    (ap (λ (j : Judged). j.type) (c.in_ok-found.ensures.found names knows_same))
    (c.in_ok-found.ensures.told names at knows_same fits)
    (c.in_ok-judged_body.ensures.told (contract_scope names at decl) (c.in_ok-found.ensures.fits names at knows_same fits))

pub returns-clause-fits : goal.returns-clause-fits
returns-clause-fits c = λ names at knows fits.
    let decl = method_decl_tree c.args.decl.now in
    let knows_same = subst (λ s. Knows s.names names) (sym c.in_ok-holds.ensures.outline) knows in
    let old = c.args.scope.now in
    let contract = c.judged_header.new.scope in
    let new = c.judged_body.new.scope in
    let left = c.leave_method.ensures contract c.in_ok-judged_body.ensures.outside
    ∙ ap (λ n. after_method n c.len-covered.result old.locals contract new) c.len-names.ensures
    ∙ ap (λ n. after_method (length old.names) n old.locals contract new) c.len-covered.ensures in
    method_left old contract new c.leave_method.new.scope names at decl c.in_ok-found.ensures.kept c.in_ok-judged_body.ensures.names left fits
    (c.in_ok-judged_body.ensures.fits (contract_scope names at decl) (c.in_ok-found.ensures.fits names at knows_same fits))
