use Rattle.std.proofs.Common.{ℕ, ◌<◌, List, length, map, sym, ap, ◌∙◌, subst, true, ◌≡◌, Err}
use Rattle.std.specs.List.{All, list_all}
use Rattle.lin_rows.specs.Inequality.{Inequality, is_within}
use Rattle.term_sorts.specs.Types.{record_types, types_of}
use Rattle.term_store.specs.Store.{tree_at}
use Rattle.store_entries.specs.declared.entry.Entry.{Entry}
use Rattle.store_entries.specs.Entries.{AreEntries}
use Rattle.store_leaves.proofs.Closings.{wide-literals, end_by_rows, end_of_wide_rows, proof_by_rows}
use Rattle.whole_closing.specs.Closing.{closing_of_case}
use Rattle.store_leaves.specs.declared.end.LeafEnd.{LeafEnd}
use Rattle.store_leaves.specs.Ends.{IsLeafEnd}
use Rattle.store_leaves.proofs.Kept.{with_forms}
use Rattle.store_leaves.proofs.leaf.close_by_rows.Goals as goal

pub are_narrow-requires-clause-entries : goal.are_narrow-requires-clause-entries
are_narrow-requires-clause-entries c = subst (λ (es : List Entry). AreEntries c.args.store.now es) (sym c.as_slice.ensures.value) c.requires.work.forms

pub are_narrow-requires-clause-formed : goal.are_narrow-requires-clause-formed
are_narrow-requires-clause-formed c = subst (λ (es : List Entry). All (λ (k : ℕ). k < length es) c.args.literals.now) (sym c.as_slice.ensures.value)
    c.requires.formed

pub returns-then-not-are_narrow-clause-end : goal.returns-then-not-are_narrow-clause-end
returns-then-not-are_narrow-clause-end c =
    wide-literals (record_types c.args.records.now) (types_of c.args.symbols.now) (map (tree_at c.args.store.now) c.args.literals.now) c.requires.left
    (sym c.are_narrow.ensures ∙ c.if-not-are_narrow.true)

pub rows_of_case-requires-clause-narrow : goal.rows_of_case-requires-clause-narrow
rows_of_case-requires-clause-narrow c = sym c.are_narrow.ensures ∙ c.if-not-are_narrow.false

pub eliminated-requires : goal.eliminated-requires
eliminated-requires c = subst (λ (rs : List Inequality). list_all is_within rs ≡ true) (sym c.as_slice-in-Ok.ensures.value) c.in-Ok.ensures.within

pub returns-in-Ok-clause-end : goal.returns-in-Ok-clause-end
returns-in-Ok-clause-end c =
    let rows = c.as_slice-in-Ok.result.now in
    end_by_rows (record_types c.args.records.now) (types_of c.args.symbols.now) (map (tree_at c.args.store.now) c.args.literals.now) rows c.requires.left
    (sym c.are_narrow.ensures ∙ c.if-not-are_narrow.false)
    c.eliminated.result (c.as_slice-in-Ok.ensures.value ∙ c.in-Ok.ensures.rows)
    (subst (λ (rs : List Inequality). list_all is_within rs ≡ true) (sym c.as_slice-in-Ok.ensures.value) c.in-Ok.ensures.within) c.eliminated.ensures.end

pub returns-in-Ok-clause-proof : goal.returns-in-Ok-clause-proof
returns-in-Ok-clause-proof c =
    proof_by_rows (record_types c.args.records.now) (types_of c.args.symbols.now) (map (tree_at c.args.store.now) c.args.literals.now)
    c.eliminated.result c.as_slice-in-Ok.result.now (c.as_slice-in-Ok.ensures.value ∙ c.in-Ok.ensures.rows) c.eliminated.ensures.proof

pub returns-in-Ok-clause-work : goal.returns-in-Ok-clause-work
returns-in-Ok-clause-work c =
    with_forms (record_types c.args.records.now) (types_of c.args.symbols.now) c.args.store.now c.rows_of_case.new.store c.args.work.now
    c.rows_of_case.new.forms c.in-Ok.ensures.grows c.requires.work c.in-Ok.ensures.entries

pub returns-in-Err-clause-end : goal.returns-in-Err-clause-end
returns-in-Err-clause-end c =
    let records = record_types c.args.records.now in
    let types = types_of c.args.symbols.now in
    let leaf = map (tree_at c.args.store.now) c.args.literals.now in
    subst (λ (e : LeafEnd). IsLeafEnd (closing_of_case records types leaf) (Err e)) (sym c.from.ensures)
    (end_of_wide_rows records types leaf c.in-Err.end c.requires.left (sym c.are_narrow.ensures ∙ c.if-not-are_narrow.false)
    (λ e. c.in-Err.ensures.wide (ap Err e)))

pub returns-in-Err-clause-work : goal.returns-in-Err-clause-work
returns-in-Err-clause-work c =
    with_forms (record_types c.args.records.now) (types_of c.args.symbols.now) c.args.store.now c.rows_of_case.new.store c.args.work.now
    c.rows_of_case.new.forms c.in-Err.ensures.grows c.requires.work c.in-Err.ensures.entries
