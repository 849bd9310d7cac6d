use Rattle.std.proofs.Common.{◌++◌, ◌<◌, map, take, length, get_or, sym, ap, ◌∙◌, arith}
use Rattle.std.specs.List.{flat_map}
use Rattle.std.proofs.lemmas.List.Elements.{All-get_or}
use Rattle.term_sorts.specs.Types.{types_of, record_types}
use Rattle.term_store.specs.Store.{tree_at}
use Rattle.closing.specs.Rows.{rows_of_literal}
use Rattle.store_atoms.proofs.Lists.{flat_map-next}
use Rattle.store_rows.specs.Said.{relation_rows}
use Rattle.store_rows.proofs.Sides.{narrow-at, below-weaker}
use Rattle.store_rows.proofs.literals.rows_of_literals.Goals as goal

pub relation_of-relation-requires-clause-within : goal.relation_of-relation-requires-clause-within
relation_of-relation-requires-clause-within c =
    let literals = c.args.literals.now in
    let k = c.id_there-literal.result in
    let l : c.loop-at.at < length literals = omega arith in
    let there : get_or literals c.loop-at.at k < length c.args.entries.now = All-get_or (λ k. k < length c.args.entries.now) literals c.loop-at.at k l
    c.requires.formed in
    omega (arith, there, c.id_there-literal.ensures, c.requires.entries.within)

pub relation_of-relation-requires-clause-narrow : goal.relation_of-relation-requires-clause-narrow
relation_of-relation-requires-clause-narrow c =
    let l : c.loop-at.at < length c.args.literals.now = omega arith in
    narrow-at c.args.store.now c.args.literals.now c.loop-at.at c.id_there-literal.result c.requires.narrow l c.id_there-literal.ensures

pub push_rows-requires-clause-relation : goal.push_rows-requires-clause-relation
push_rows-requires-clause-relation c =
    let literals = c.args.literals.now in
    let k = c.id_there-literal.result in
    let l : c.loop-at.at < length literals = omega arith in
    let there : get_or literals c.loop-at.at k < length c.args.entries.now = All-get_or (λ k. k < length c.args.entries.now) literals c.loop-at.at k l
    c.requires.formed in
    below-weaker c.args.store.now k (length c.args.entries.now) c.relation_of-relation.result (omega (arith, there, c.id_there-literal.ensures))
    c.relation_of-relation.ensures.below

pub loop-at-preserved : goal.loop-at-preserved
loop-at-preserved c =
    let store = c.args.store.now in
    let says = rows_of_literal (record_types c.args.records.now) (types_of c.args.symbols.now) in
    let before = flat_map says (map (tree_at store) (take c.loop-at.at c.args.literals.now)) in
    let relation = c.relation_of-relation.result in
    let now = c.in_ok-push_rows.ensures in
    let l : c.loop-at.at < length c.args.literals.now = omega arith in
    record {
      within = now.within;
      same =
          now.same ∙ ap (λ rs. rs ++ relation_rows store relation) c.loop-at.invariant.same
          ∙ ap (λ rs. before ++ rs) (sym c.relation_of-relation.ensures.rows)
          ∙ sym (flat_map-next says (tree_at store) c.args.literals.now c.loop-at.at c.id_there-literal.result l c.id_there-literal.ensures);
    }
