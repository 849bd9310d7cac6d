use Rattle.std.proofs.Common.{◌++◌, map, length, Some, ◌≡◌, sym, ap, ap₂, ◌∙◌, subst}
use Rattle.std.proofs.lemmas.List.{length-map}
use Rattle.read_rules.specs.Reads.{element_cases, outside_cases, default_tree, default_tree_within}
use Rattle.term_sorts.specs.Types.{record_types}
use Rattle.term_trees.specs.Term.{sort_type, trees_of}
use Rattle.term_store.specs.Store.{tree_at}
use Rattle.term_store.proofs.Gains.{trees-grow}
use Rattle.term_store.proofs.Stores.{Grows-Grows, Grows-tree_at}
use Rattle.store_alternatives.specs.Defaults.{Ends}
use Rattle.store_alternatives.specs.ReadCases.{AreCasesAt}
use Rattle.store_alternatives.proofs.EndingRecords.{known_type_ends}
use Rattle.store_alternatives.proofs.Numbers.{within-grows, later_within}
use Rattle.store_alternatives.proofs.ReadCases.{list_cases_are}
use Rattle.store_alternatives.proofs.read_cases.list_cases.Goals as goal

pub default_of-requires : goal.default_of-requires
default_of-requires c =
    let records = record_types c.args.records.now in
    let t = sort_type c.args.sort.now in
    subst (λ n. Ends records n t) (length-map c.args.records.now (map sort_type)) (known_type_ends records c.requires.records t c.requires.known)

pub element_cases-requires-clause-elements : goal.element_cases-requires-clause-elements
element_cases-requires-clause-elements c = within-grows c.args.store.now c.default_of.new.store c.args.elements.now c.in_ok-default.ensures.grows c.requires.elements

pub returns-clause-cases : goal.returns-clause-cases
returns-clause-cases c =
    let records = record_types c.args.records.now in
    let t = sort_type c.args.sort.now in
    let old = c.args.store.now in
    let first = c.default_of.new.store in
    let second = c.element_cases.new.store in
    let new = c.add_outside_cases.new.store in
    let ids = c.args.elements.now in
    let default = c.in_ok-default.default in
    let before = c.in_ok-default.ensures.grows in
    let after = c.in_ok-cases.ensures.grows in
    let made = c.in_ok-add_outside_cases.ensures.cases _ c.in_ok-cases.ensures.cases in
    let trees = trees-grow old first ids before c.requires.elements in
    let place = Grows-tree_at old first c.args.j before c.requires.place in
    let place_again = Grows-tree_at old second c.args.j (Grows-Grows old first second before after) c.requires.place in
    let value = Grows-tree_at first second default after c.in_ok-default.ensures.number.within in
    let cases = c.add_outside_cases.new.cases in
    let there : Some (tree_at first default) ≡ default_tree records t = c.in_ok-default.ensures.number.tree ∙ ap (λ n. default_tree_within records n t) (sym (length-map c.args.records.now (map sort_type))) in
    list_cases_are new cases (map (tree_at old) ids) (length ids) (tree_at first default) (tree_at old c.args.j) (default_tree records t) there (sym (length-map ids (tree_at old)))
    (subst (AreCasesAt new cases) (λ i. element_cases 0 (trees_of (trees i)) (place i) ++ outside_cases (length ids) (value i) (place_again i)) made)
