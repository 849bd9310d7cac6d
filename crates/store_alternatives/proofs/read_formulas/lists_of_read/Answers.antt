use Rattle.std.proofs.Common.{map, ap, sym, subst, refl, ◌∙◌, IsSomeAnd, ◌<◌, length, arith}
use Rattle.slang_values.specs.Value.{AreWellFormed, truth_type}
use Rattle.read_rules.specs.Reads.{read_cases}
use Rattle.term_sorts.specs.Types.{record_types, types_of}
use Rattle.term_store.specs.Store.{tree_at}
use Rattle.term_store.proofs.Stores.{Grows-tree_at}
use Rattle.store_reads.proofs.Places.{AreMarked-grows}
use Rattle.store_alternatives.specs.ReadCases.{case_at, AreCasesWithin, AreCasesAt, HasKnownElements, AreListsOfCases}
use Rattle.store_alternatives.proofs.Numbers.{ok_weaker}
use Rattle.store_alternatives.proofs.ReadCases.{some_within}
use Rattle.store_alternatives.proofs.Sites.{read_of_written, read_written, elements_known, by_first_read}
use Rattle.store_alternatives.proofs.read_formulas.lists_of_read.Goals as goal

pub parts_of_read-read-requires-clause-read : goal.parts_of_read-read-requires-clause-read
parts_of_read-read-requires-clause-read c = read_of_written (tree_at c.args.store.now c.args.id) (tree_at c.args.store.now c.first_read.result) c.requires.read c.first_read.ensures.read

pub read_cases-requires-clause-records : goal.read_cases-requires-clause-records
read_cases-requires-clause-records c = subst (λ rs. AreWellFormed (record_types rs)) (sym c.as_slice.ensures) c.requires.records

pub read_cases-requires-clause-written : goal.read_cases-requires-clause-written
read_cases-requires-clause-written c =
    let store = c.args.store.now in
    let t = tree_at store c.args.id in
    let r = tree_at store c.first_read.result in
    read_written store r c.parts_of_read-read.result (read_of_written t r c.requires.read c.first_read.ensures.read) c.parts_of_read-read.ensures

pub read_cases-requires-clause-known : goal.read_cases-requires-clause-known
read_cases-requires-clause-known c =
    let store = c.args.store.now in
    let t = tree_at store c.args.id in
    let r = tree_at store c.first_read.result in
    subst (λ rs. HasKnownElements (record_types rs) (tree_at store c.parts_of_read-read.result.sequence)) (sym c.as_slice.ensures) (elements_known (record_types c.args.sequent.now.records) (types_of c.args.sequent.now.sorts) t r store c.parts_of_read-read.result c.requires.typed c.first_read.ensures.read c.parts_of_read-read.ensures)

pub lists_of_cases-requires-clause-marked : goal.lists_of_cases-requires-clause-marked
lists_of_cases-requires-clause-marked c = AreMarked-grows c.args.store.now c.read_cases.new.store c.args.marks.now c.in_ok-cases.ensures.grows c.requires.marked

pub lists_of_cases-requires-clause-cases : goal.lists_of_cases-requires-clause-cases
lists_of_cases-requires-clause-cases c = subst (AreCasesWithin c.read_cases.new.store) (sym c.as_slice-2.ensures) (some_within c.read_cases.new.store c.in_ok-cases.cases _ c.in_ok-cases.ensures.cases)

pub returns-clause-numbers : goal.returns-clause-numbers
returns-clause-numbers c =
    let old = c.args.store.now in
    let mid = c.read_cases.new.store in
    let new = c.lists_of_cases.new.store in
    let records = (record_types c.args.sequent.now.records) in
    let t = tree_at old c.args.id in
    let r = tree_at old c.first_read.result in
    let read = c.parts_of_read-read.result in
    let cases = c.in_ok-cases.cases in
    let same = Grows-tree_at old mid c.args.id c.in_ok-cases.ensures.grows (omega (arith, c.requires.within, c.requires.marked.within)) in
    let found = subst (λ rs. IsSomeAnd (read_cases (record_types rs) (tree_at old read.sequence) (tree_at old read.place)) (AreCasesAt mid cases)) c.as_slice.ensures c.in_ok-cases.ensures.cases in
    ok_weaker c.lists_of_cases.result _ _
    (λ ls h. by_first_read records old new t r ls read cases _ c.requires.read c.first_read.ensures.read c.parts_of_read-read.ensures.tree refl mid found
    (subst (λ u. AreListsOfCases new u ls (map (case_at mid) cases)) same (subst (λ cs. AreListsOfCases new (tree_at mid c.args.id) ls (map (case_at mid) cs)) c.as_slice-2.ensures h))) c.lists_of_cases.ensures.numbers
