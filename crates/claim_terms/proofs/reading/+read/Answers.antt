use Rattle.std.proofs.Common.{rules, ◌+◌, ◌≤◌, map, take, length, sym, ap, ◌∙◌, subst, arith}
use Rattle.std.proofs.lemmas.List.{take_all}
use Rattle.std.proofs.lemmas.Result.{on_ok_weaker}
use Rattle.slang_values.specs.Tree.{parts}
use Rattle.term_trees.specs.Term.{sort_type}
use Rattle.term_nodes.specs.Node.{node_tree}
use Rattle.term_store.specs.Store.{stored, AreWithin, AreTreesOf, GainsAmong, subtrees}
use Rattle.term_store.proofs.Gains.{GainsAmong-itself, GainsAmong-more, GainsAmong-after, number_of_tree, AreTreesOf-more, empty_parts}
use Rattle.lk_claims.specs.Claim.{claim_tree}
use Rattle.leg_rules.specs.Store.{read_claim}
use Rattle.leg_rules.specs.Sequents.{read_term}
use Rattle.claim_reading.specs.Reading.{read_claims, read_terms}
use Rattle.claim_reading.proofs.Parts.{read-parts, read_claims-take}
use Rattle.claim_reading.proofs.Readable.{readable_part, readable_name, readable_top, name_is}
use Rattle.claim_parts.specs.Names.{claim_name}
use Rattle.leg_states.specs.State.{lists_of, state_of}
use Rattle.leg_states.proofs.States.{grown_state, grown_over}
use Rattle.claim_terms.proofs.Terms.{grows_by_node, name_state, name_term, claim_node, as_many_ids, gains_part, part_at, length-read_terms}
use Rattle.claim_terms.proofs.reading.+read.Goals as goal

-- ---- a claim that is a name

pub read_claim-read_name-requires-clause-within : goal.read_claim-read_name-requires-clause-within
read_claim-read_name-requires-clause-within t c =
    readable_name (length c.args.sorts.now) (claim_tree c.args.claim.now) (claim_name c.in-Some.name) c.requires.readable (sym c.in-Some.ensures)

pub read_claim-returns-in-Some-clause-state : goal.read_claim-returns-in-Some-clause-state
read_claim-returns-in-Some-clause-state t c =
    let claim = claim_tree c.args.claim.now in
    let types = map sort_type c.args.sorts.now in
    let old = state_of c.args.store.now c.args.state.now in
    let is = name_is claim (claim_name c.in-Some.name) (sym c.in-Some.ensures) in
    on_ok_weaker c.read_name.result (λ e. e ∙ name_state types old claim (claim_name c.in-Some.name) is) c.read_name.ensures.state

pub read_claim-returns-in-Some-clause-number : goal.read_claim-returns-in-Some-clause-number
read_claim-returns-in-Some-clause-number t c =
    let claim = claim_tree c.args.claim.now in
    let types = map sort_type c.args.sorts.now in
    let old = state_of c.args.store.now c.args.state.now in
    let is = name_is claim (claim_name c.in-Some.name) (sym c.in-Some.ensures) in
    number_of_tree c.read_name.result c.read_name.new.store _ (read_term types old claim) (name_term types old claim (claim_name c.in-Some.name) is)
    c.read_name.ensures.number

pub read_claim-returns-in-Some-clause-gains : goal.read_claim-returns-in-Some-clause-gains
read_claim-returns-in-Some-clause-gains t c =
    let claim = claim_tree c.args.claim.now in
    let types = map sort_type c.args.sorts.now in
    let old = state_of c.args.store.now c.args.state.now in
    let is = name_is claim (claim_name c.in-Some.name) (sym c.in-Some.ensures) in
    subst (λ u. GainsAmong c.args.store.now c.read_name.new.store (subtrees u)) (name_term types old claim (claim_name c.in-Some.name) is) c.read_name.ensures.gains

-- ---- a node over the parts

pub read_inner-node_over-requires : goal.read_inner-node_over-requires
read_inner-node_over-requires t c =
    let claim = claim_tree c.args.claim.now in
    record {
      count = ap length c.as_slice.ensures
          ∙ as_many_ids (map sort_type c.args.sorts.now) (state_of c.args.store.now c.args.state.now) claim c.read_parts.new.store c.in_ok-ids.ids c.in_ok-ids.ensures.trees;
      inner = c.requires.inner;
      sort = readable_top (length c.args.sorts.now) claim c.requires.readable;
    }

pub read_inner-add_node-requires : goal.read_inner-add_node-requires
read_inner-add_node-requires t c =
    subst (AreWithin c.read_parts.new.store) (sym (c.in_ok-node.ensures.numbers ∙ c.as_slice.ensures)) c.in_ok-ids.ensures.trees.within

pub read_inner-returns-clause-state : goal.read_inner-returns-clause-state
read_inner-returns-clause-state t c =
    let claim = claim_tree c.args.claim.now in
    let mid = c.read_parts.new.store in
    let state = c.read_parts.new.state in
    on_ok_weaker c.add_node.result
    (λ g. grown_state mid c.add_node.new.self (length c.args.sorts.now) state.sorts (lists_of state.versions) state.lets state.facts
    (grows_by_node c.in_ok-node.node mid c.add_node.new.self g) c.in_ok-ids.ensures.over
    ∙ c.in_ok-ids.ensures.state ∙ sym (read-parts (map sort_type c.args.sorts.now) (state_of c.args.store.now c.args.state.now) claim c.requires.inner))
    c.add_node.ensures.gains

pub read_inner-returns-clause-number : goal.read_inner-returns-clause-number
read_inner-returns-clause-number t c =
    let claim = claim_tree c.args.claim.now in
    let types = map sort_type c.args.sorts.now in
    let old = state_of c.args.store.now c.args.state.now in
    let mid = c.read_parts.new.store in
    number_of_tree c.add_node.result c.add_node.new.self (node_tree (stored mid) c.in_ok-node.node) (read_term types old claim)
    (claim_node types old claim mid c.in_ok-node.node c.in_ok-ids.ids c.requires.inner c.in_ok-node.ensures.head
    (c.in_ok-node.ensures.numbers ∙ c.as_slice.ensures) c.in_ok-ids.ensures.trees)
    c.add_node.ensures.number

pub read_inner-returns-clause-over : goal.read_inner-returns-clause-over
read_inner-returns-clause-over t c =
    let mid = c.read_parts.new.store in
    let state = c.read_parts.new.state in
    on_ok_weaker c.add_node.result
    (λ g. grown_over mid c.add_node.new.self (length c.args.sorts.now) (lists_of state.versions) state.facts
    (grows_by_node c.in_ok-node.node mid c.add_node.new.self g) c.in_ok-ids.ensures.over)
    c.add_node.ensures.gains

pub read_inner-returns-clause-gains : goal.read_inner-returns-clause-gains
read_inner-returns-clause-gains t c =
    let claim = claim_tree c.args.claim.now in
    let types = map sort_type c.args.sorts.now in
    let old = state_of c.args.store.now c.args.state.now in
    let mid = c.read_parts.new.store in
    let is = claim_node types old claim mid c.in_ok-node.node c.in_ok-ids.ids c.requires.inner c.in_ok-node.ensures.head
    (c.in_ok-node.ensures.numbers ∙ c.as_slice.ensures) c.in_ok-ids.ensures.trees in
    GainsAmong-more c.args.store.now mid c.add_node.new.self (subtrees (read_term types old claim)) c.in_ok-ids.ensures.gains
    (GainsAmong-after c.add_node.result mid c.add_node.new.self c.in_ok-node.node (read_term types old claim) is c.add_node.ensures.gains c.add_node.ensures.err)

-- ---- the parts

pub read_parts-loop-place-init : goal.read_parts-loop-place-init
read_parts-loop-place-init t c =
    let claim = claim_tree c.args.claim.now in
    let types = map sort_type c.args.sorts.now in
    let old = state_of c.args.store.now c.args.state.now in
    record {
      state = search rules;
      trees = subst (λ ids. AreTreesOf c.args.store.now ids (take 0 (read_terms types old (parts claim)))) (sym c.new-ids.ensures)
          (empty_parts c.args.store.now (read_terms types old (parts claim)));
      over = c.requires.over;
      gains = GainsAmong-itself c.args.store.now (subtrees (read_term types old claim));
    }

pub read_parts-read_claim-requires : goal.read_parts-read_claim-requires
read_parts-read_claim-requires t c =
    let smaller = c.part.ensures.smaller in (
      omega (arith, smaller),
      (
        c.loop-place.invariant.over,
        readable_part (length c.args.sorts.now) (claim_tree c.args.claim.now) (claim_tree c.part.result.now) c.loop-place.place c.requires.readable c.part.ensures.value,
      ),
    )

pub read_parts-loop-place-preserved : goal.read_parts-loop-place-preserved
read_parts-loop-place-preserved t c =
    let claim = claim_tree c.args.claim.now in
    let part = claim_tree c.part.result.now in
    let types = map sort_type c.args.sorts.now in
    let old = state_of c.args.store.now c.args.state.now in
    let before = c.loop-place.store in
    let now = state_of before c.loop-place.state in
    let after = c.read_claim.new.store in
    let i = c.loop-place.place in
    let more = c.in_ok-id.ensures in
    record {
      state = more.state ∙ ap (read_claim types part) c.loop-place.invariant.state
          ∙ sym (read_claims-take types (parts claim) old i part c.part.ensures.value);
      trees = subst (λ ids. AreTreesOf after ids (take (i + 1) (read_terms types old (parts claim)))) (sym c.in_ok-push.ensures.ok)
          (AreTreesOf-more before after c.loop-place.ids (read_terms types old (parts claim)) i c.in_ok-id.id (read_term types now part)
          c.loop-place.invariant.trees more.gains.grows (part_at types old now claim part i c.part.ensures.value c.loop-place.invariant.state) more.number);
      over = more.over;
      gains = GainsAmong-more c.args.store.now before after (subtrees (read_term types old claim)) c.loop-place.invariant.gains
          (gains_part types old now claim part i before after c.requires.inner c.part.ensures.value c.loop-place.invariant.state more.gains);
    }

pub read_parts-returns-in_err-id-clause-gains : goal.read_parts-returns-in_err-id-clause-gains
read_parts-returns-in_err-id-clause-gains t c =
    let claim = claim_tree c.args.claim.now in
    let part = claim_tree c.part.result.now in
    let types = map sort_type c.args.sorts.now in
    let old = state_of c.args.store.now c.args.state.now in
    let before = c.loop-place.store in
    let now = state_of before c.loop-place.state in
    GainsAmong-more c.args.store.now before c.read_claim.new.store (subtrees (read_term types old claim)) c.loop-place.invariant.gains
    (gains_part types old now claim part c.loop-place.place before c.read_claim.new.store c.requires.inner c.part.ensures.value c.loop-place.invariant.state
    c.in_err-id.ensures.gains)

pub read_parts-returns-in_err-push-clause-gains : goal.read_parts-returns-in_err-push-clause-gains
read_parts-returns-in_err-push-clause-gains t c =
    let claim = claim_tree c.args.claim.now in
    let part = claim_tree c.part.result.now in
    let types = map sort_type c.args.sorts.now in
    let old = state_of c.args.store.now c.args.state.now in
    let before = c.loop-place.store in
    let now = state_of before c.loop-place.state in
    GainsAmong-more c.args.store.now before c.read_claim.new.store (subtrees (read_term types old claim)) c.loop-place.invariant.gains
    (gains_part types old now claim part c.loop-place.place before c.read_claim.new.store c.requires.inner c.part.ensures.value c.loop-place.invariant.state
    c.in_ok-id.ensures.gains)

pub read_parts-returns-clause-state : goal.read_parts-returns-clause-state
read_parts-returns-clause-state t c =
    let claim = claim_tree c.args.claim.now in
    let types = map sort_type c.args.sorts.now in
    let old = state_of c.args.store.now c.args.state.now in
    let all : length (parts claim) ≤ c.loop-place.place = omega (arith, c.loop-place-test.false, c.part_count-place-end.ensures) in
    c.loop-place.invariant.state ∙ ap (λ ts. read_claims types ts old) (take_all c.loop-place.place (parts claim) all)

pub read_parts-returns-clause-trees : goal.read_parts-returns-clause-trees
read_parts-returns-clause-trees t c =
    let claim = claim_tree c.args.claim.now in
    let types = map sort_type c.args.sorts.now in
    let old = state_of c.args.store.now c.args.state.now in
    let terms = read_terms types old (parts claim) in
    let all : length terms ≤ c.loop-place.place = omega (arith, c.loop-place-test.false, c.part_count-place-end.ensures, length-read_terms types old (parts claim)) in
    subst (AreTreesOf c.loop-place.store c.loop-place.ids) (take_all c.loop-place.place terms all) c.loop-place.invariant.trees
