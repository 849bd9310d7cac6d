use Rattle.std.proofs.Common.{false, sym, ap, ◌∙◌}
use Rattle.std.specs.Option.{option_map}
use Rattle.case_rules.specs.Cases.{site_alternatives}
use Rattle.term_sorts.specs.Types.{record_types}
use Rattle.term_store.specs.Store.{tree_at}
use Rattle.store_reads.proofs.Sites.{no_site}
use Rattle.store_alternatives.proofs.read_formulas.alternatives_by_read.Goals as goal

pub returns-else-marks-id-clause-numbers : goal.returns-else-marks-id-clause-numbers
returns-else-marks-id-clause-numbers c =
    let records = record_types c.args.sequent.now.records in
    let t = tree_at c.args.store.now c.args.id in
    let mark = c.requires.marked.at c.args.id (record { stays = false; reads = false }) c.requires.within in
    sym (ap (option_map site_alternatives) (no_site records t (sym mark.reads ∙ c.if-marks-id.false)))
