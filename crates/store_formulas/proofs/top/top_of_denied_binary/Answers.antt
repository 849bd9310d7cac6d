use Rattle.std.proofs.Common.{sym, subst}
use Rattle.case_rules.specs.Cases.{inequality_alternatives, negated_binary_alternatives}
use Rattle.term_sorts.specs.Types.{types_of, record_types}
use Rattle.term_store.specs.Store.{tree_at}
use Rattle.store_formulas.specs.Top.{IsTopOf}
use Rattle.store_formulas.proofs.top.top_of_denied_binary.Goals as goal

pub returns-in-Eq : goal.returns-in-Eq
returns-in-Eq c =
    let records = record_types c.args.records.now in
    let store = c.args.store.now in
    let a = tree_at store c.args.a in
    let b = tree_at store c.args.b in
    let top = c.top_of_inequality.result in
    subst (λ op. IsTopOf records store top (negated_binary_alternatives records (types_of c.args.symbols.now) op a b)) (sym c.in-Eq.is)
    (subst (λ s. IsTopOf records store top (inequality_alternatives records s a b)) c.type_of-kind.ensures c.top_of_inequality.ensures)
