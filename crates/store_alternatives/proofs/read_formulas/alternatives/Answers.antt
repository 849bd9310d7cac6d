use Rattle.std.proofs.Common.{map, ap, sym, subst, ◌∙◌, true, false, Some}
use Rattle.slang_values.specs.Value.{AreWellFormed}
use Rattle.read_rules.specs.Reads.{first_site}
use Rattle.case_rules.specs.Cases.{unless_top, top_alternatives}
use Rattle.term_sorts.specs.Types.{record_types, types_of}
use Rattle.term_store.specs.Store.{tree_at}
use Rattle.store_formulas.specs.Top.{IsTopOf, alternatives_of_top}
use Rattle.store_alternatives.specs.Numbers.{AreFoundAt}
use Rattle.store_alternatives.proofs.Numbers.{ok_weaker}
use Rattle.store_alternatives.proofs.AlternativeLists.{found_top, literal_top}
use Rattle.store_alternatives.proofs.read_formulas.alternatives.Goals as goal

pub returns-then-is_literal-clause-numbers : goal.returns-then-is_literal-clause-numbers
returns-then-is_literal-clause-numbers c =
    let store = c.args.store.now in
    let records = (record_types c.args.sequent.now.records) in
    let types = (types_of c.args.sequent.now.sorts) in
    let t = tree_at store c.args.id in
    let top : IsTopOf records store c.top_of-top.result (top_alternatives records types t) = subst (λ rs. IsTopOf (record_types rs) store c.top_of-top.result (top_alternatives (record_types rs) types t)) c.as_slice-records.ensures (subst (λ ss. IsTopOf (record_types c.as_slice-records.result.now) store c.top_of-top.result (top_alternatives (record_types c.as_slice-records.result.now) (types_of ss) t)) c.as_slice.ensures c.top_of-top.ensures) in
    let none = literal_top records store c.top_of-top.result (top_alternatives records types t) (sym c.is_literal.ensures ∙ c.if-is_literal.true) top.alternatives in
    ok_weaker c.alternatives_by_read.result _ _ (λ found h. subst (λ o. AreFoundAt c.alternatives_by_read.new.store found (unless_top o (first_site records t))) none h) c.alternatives_by_read.ensures.numbers

pub lists_of_top-requires-clause-records : goal.lists_of_top-requires-clause-records
lists_of_top-requires-clause-records c = subst (λ rs. AreWellFormed (record_types rs)) (sym c.as_slice-records.ensures) c.requires.records

pub returns-in_ok-lists_of_top-clause-numbers : goal.returns-in_ok-lists_of_top-clause-numbers
returns-in_ok-lists_of_top-clause-numbers c =
    let store = c.args.store.now in
    let new = c.lists_of_top.new.store in
    let records = record_types c.as_slice-records.result.now in
    let types = (types_of c.args.sequent.now.sorts) in
    let t = tree_at store c.args.id in
    let top : IsTopOf records store c.top_of-top.result (top_alternatives records types t) = subst (λ ss. IsTopOf records store c.top_of-top.result (top_alternatives records (types_of ss) t)) c.as_slice.ensures c.top_of-top.ensures in
    let lists = c.in_ok-lists_of_top.field-0 in
    subst (λ rs. AreFoundAt new (Some lists) (unless_top (top_alternatives (record_types rs) types t) (first_site (record_types rs) t))) c.as_slice-records.ensures
    (found_top records store new c.top_of-top.result lists (top_alternatives records types t) (first_site records t) (sym c.is_literal.ensures ∙ c.if-is_literal.false) top.alternatives c.in_ok-lists_of_top.ensures.numbers)
