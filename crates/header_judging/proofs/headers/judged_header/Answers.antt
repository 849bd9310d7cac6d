use Rattle.std.proofs.Common.{ap, subst, sym}
use Rattle.slang_tree.specs.DeclTree.{method_decl_tree}
use Rattle.text_types.specs.Found.{seen}
use Rattle.type_rules.specs.Judged.{Judged}
use Rattle.type_rules.specs.Projects.{contract_scope}
use Rattle.statement_judging.specs.Keeps.{Keeps}
use Rattle.header_judging.proofs.Heading.{header_told}
use Rattle.header_judging.proofs.headers.judged_header.Goals as goal

pub returns-clause-told : goal.returns-clause-told
returns-clause-told c = λ names at knows fits.
    let decl = method_decl_tree c.args.decl.now in
    header_told c.args.told.now.found c.judged_types.new.told.found c.judged_contract.new.told.found names at decl (seen c.in_ok-found.found).type
    (ap (λ (j : Judged). j.type) (c.in_ok-found.ensures.found names knows))
    (c.in_ok-found.ensures.told names at knows fits)
    (c.in_ok-judged_contract.ensures.told (contract_scope names at decl) (c.in_ok-found.ensures.fits names at knows fits))

pub returns-clause-kept : goal.returns-clause-kept
returns-clause-kept c = subst (Keeps c.args.scope.now) (sym c.in_ok-judged_contract.ensures.scope) c.in_ok-found.ensures.kept
