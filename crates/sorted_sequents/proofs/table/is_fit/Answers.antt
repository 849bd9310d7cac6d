use Rattle.std.proofs.Common.{map, ◌&&◌, sym, ap, ◌∙◌}
use Rattle.std.specs.List.{list_all}
use Rattle.term_nodes.specs.Node.{shape_numbers}
use Rattle.term_sorts.specs.Types.{types_of, record_types}
use Rattle.term_store.specs.Store.{tree_at}
use Rattle.sorted_sequents.specs.Fitting.{is_fit}
use Rattle.sorted_sequents.proofs.Fits.{fit_stored}
use Rattle.sorted_sequents.proofs.table.is_fit.Goals as goal

pub returns-then-fits : goal.returns-then-fits
returns-then-fits c =
    let records = record_types c.args.records.now in
    let types = types_of c.args.symbols.now in
    let store = c.args.store.now in
    let parts = list_all (is_fit records types) (map (tree_at store) (shape_numbers c.shape-shape.result)) in
    c.answer_for_parts.ensures ∙ ap (λ b. b && parts) (sym c.if-fits.true ∙ c.fits.ensures)
    ∙ fit_stored records types store c.args.id c.view.result.now c.shape-shape.result c.view.ensures.placed c.shape-shape.ensures
