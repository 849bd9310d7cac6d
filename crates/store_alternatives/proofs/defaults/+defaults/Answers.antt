use Rattle.std.proofs.Common.{rules, ◌+◌, ◌-◌, ◌<◌, ◌≤◌, length, map, take, get_or, IfOk, sym, ap, subst, ◌∙◌, arith}
use Rattle.std.proofs.lemmas.List.{length-map}
use Rattle.slang_values.specs.Value.{number_type, truth_type, sequence_type, record_type, fields}
use Rattle.slang_values.specs.Tree.{listed, record_of}
use Rattle.term_sorts.specs.Types.{record_types}
use Rattle.term_trees.specs.Term.{sort_type, trees_of}
use Rattle.term_trees.proofs.Sorts.{sort_type-Z, sort_type-B, sort_type-Seq}
use Rattle.term_store.specs.Store.{tree_at, Grows}
use Rattle.term_store.proofs.Stores.{Grows-Grows}
use Rattle.store_alternatives.specs.Defaults.{Ends, AllEnd, IsDefaultAt, AreDefaultsAt}
use Rattle.store_alternatives.proofs.AlternativeLists.{all_at}
use Rattle.store_alternatives.proofs.EndingRecords.{sort_at, some_depth, fields_end, default_of_record, held_default, more_defaults}
use Rattle.store_alternatives.proofs.defaults.+defaults.Goals as goal

pub default_of-returns-in-Z-clause-number : goal.default_of-returns-in-Z-clause-number
default_of-returns-in-Z-clause-number t c =
    subst (λ s. IfOk c.add_zero.result (λ k. IsDefaultAt (record_types c.args.records.now) c.args.depth c.add_zero.new.store k s)) (sym (ap sort_type c.in-Z.is ∙ sort_type-Z)) (c.add_zero.ensures.number (record_types c.args.records.now) c.args.depth)

pub default_of-returns-in-B-clause-number : goal.default_of-returns-in-B-clause-number
default_of-returns-in-B-clause-number t c =
    subst (λ s. IfOk c.add_false.result (λ k. IsDefaultAt (record_types c.args.records.now) c.args.depth c.add_false.new.store k s)) (sym (ap sort_type c.in-B.is ∙ sort_type-B)) (c.add_false.ensures.number (record_types c.args.records.now) c.args.depth)

pub default_of-returns-in-Seq-clause-number : goal.default_of-returns-in-Seq-clause-number
default_of-returns-in-Seq-clause-number t c =
    subst (λ s. IfOk c.empty_sequence.result (λ k. IsDefaultAt (record_types c.args.records.now) c.args.depth c.empty_sequence.new.store k s)) (sym (ap sort_type c.in-Seq.is ∙ sort_type-Seq _ ∙ ap (λ s. sequence_type (sort_type s)) (sym c.get.ensures))) (c.empty_sequence.ensures.number (record_types c.args.records.now) c.args.depth)

pub default_record-defaults_of-requires : goal.default_record-defaults_of-requires
default_record-defaults_of-requires t c =
    let records = (record_types c.args.records.now) in
    let some : 1 ≤ c.args.depth = some_depth records c.args.depth c.args.n c.requires in
    (search rules, subst (AllEnd records (c.args.depth - 1)) (sym c.fields_of.ensures) (fields_end records c.args.depth c.args.n c.requires))

pub default_record-returns-clause-number : goal.default_record-returns-clause-number
default_record-returns-clause-number t c =
    let records = (record_types c.args.records.now) in
    let mid = c.defaults_of.new.store in
    let ids = c.in_ok-ids.ids in
    held_default records c.add.result c.add.new.store (listed (record_of c.args.n) (trees_of (map (tree_at mid) ids))) c.args.depth (record_type c.args.n)
    (default_of_record records c.args.depth c.args.n mid ids c.requires (subst (AreDefaultsAt records (c.args.depth - 1) mid ids) c.fields_of.ensures c.in_ok-ids.ensures.numbers)) c.add.ensures.number

pub defaults_of-default_of-requires : goal.defaults_of-default_of-requires
defaults_of-default_of-requires t c =
    let records = (record_types c.args.records.now) in
    let sorts = c.args.sorts.now in
    let i = c.loop-sort.sort-index in
    let sort = c.sort-item.result in
    let within : i < length (map sort_type sorts) = omega (arith, c.loop-sort-test.true, length-map sorts sort_type) in
    (search rules, subst (Ends records c.args.depth) (sort_at sorts i sort c.sort-item.is) (all_at (Ends records c.args.depth) (map sort_type sorts) i (sort_type sort) c.requires within))

pub defaults_of-loop-sort-preserved : goal.defaults_of-loop-sort-preserved
defaults_of-loop-sort-preserved t c =
    let records = (record_types c.args.records.now) in
    let sorts = c.args.sorts.now in
    let i = c.loop-sort.sort-index in
    let sort = c.sort-item.result in
    let old = c.args.store.now in
    let mid = c.loop-sort.store in
    let new = c.default_of.new.store in
    let ids = c.loop-sort.ids in
    let id = c.in_ok-id.id in
    let grows = c.in_ok-id.ensures.grows in
    let within : i < length (map sort_type sorts) = omega (arith, c.loop-sort-test.true, length-map sorts sort_type) in (
      Grows-Grows old mid new c.loop-sort.invariant.0 grows,
      subst (λ ks. AreDefaultsAt records c.args.depth new ks (take (i + 1) (map sort_type sorts))) (sym c.in_ok-push.ensures.ok)
          (more_defaults records c.args.depth mid new ids (map sort_type sorts) i id (sort_type sort) c.loop-sort.invariant.1 grows within (subst (IsDefaultAt records c.args.depth new id) (sym (sort_at sorts i sort c.sort-item.is)) c.in_ok-id.ensures.number)),
    )
