use Rattle.std.proofs.Common.{◌≡◌, ◌+◌, ◌*◌, map, take, length}
use Rattle.slang_values.specs.Tree.{parts}
use Rattle.term_trees.specs.Term.{sort_type}
use Rattle.term_store.specs.Store.{AreTreesOf, GainsAmong, subtrees}
use Rattle.lk_claims.specs.declared.claim.Claim.{size-Claim}
use Rattle.lk_claims.specs.Claim.{claim_tree}
use Rattle.leg_rules.specs.Sequents.{read_term}
use Rattle.claim_reading.specs.Reading.{read_claims, read_terms}
use Rattle.leg_states.specs.State.{state_of, IsOver}
use Rattle.claim_terms.proofs.reading.+read.Given as goal

abbrev pub decreases-read_claim : goal.decreases-read_claim
decreases-read_claim l = 3 * size-Claim l.claim.now + 2

abbrev pub decreases-read_inner : goal.decreases-read_inner
decreases-read_inner l = 3 * size-Claim l.claim.now + 1

abbrev pub decreases-read_parts : goal.decreases-read_parts
decreases-read_parts l = 3 * size-Claim l.claim.now

abbrev pub invariant-read_parts-loop-place : goal.invariant-read_parts-loop-place
invariant-read_parts-loop-place l = record {
  state : state_of l.store l.state ≡ read_claims (map sort_type l.sorts) (take l.place (parts (claim_tree l.claim))) (state_of l.fn.store l.fn.state);
  trees : AreTreesOf l.store l.ids (take l.place (read_terms (map sort_type l.sorts) (state_of l.fn.store l.fn.state) (parts (claim_tree l.claim))));
  over : IsOver (length l.sorts) l.store l.state;
  gains : GainsAmong l.fn.store l.store (subtrees (read_term (map sort_type l.sorts) (state_of l.fn.store l.fn.state) (claim_tree l.claim)));
}
