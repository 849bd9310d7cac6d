use Rattle.term_store.proofs.Stores.{Grows-tree_at, Holds-within, tree_at-Holds}
use Rattle.store_alternatives.proofs.ReadCases.{two_cases_same}
use Rattle.store_alternatives.proofs.read_cases.update_cases.Goals as goal

pub two_cases-requires-clause-condition : goal.two_cases-requires-clause-condition
two_cases-requires-clause-condition c = Holds-within c.is_updated_place.new.store c.in_ok-condition.condition _ c.in_ok-condition.ensures.number

pub returns-clause-cases : goal.returns-clause-cases
returns-clause-cases c =
    let old = c.args.store.now in
    let mid = c.is_updated_place.new.store in
    let grows = c.in_ok-condition.ensures.grows in
    two_cases_same c.two_cases.result c.two_cases.new.store _ _ _ _ _ _ _ _ (tree_at-Holds mid c.in_ok-condition.condition _ c.in_ok-condition.ensures.number) (Grows-tree_at old mid c.args.v grows c.requires.element) (Grows-tree_at old mid c.args.a grows c.requires.sequence) (Grows-tree_at old mid c.args.j grows c.requires.place) c.two_cases.ensures.cases
