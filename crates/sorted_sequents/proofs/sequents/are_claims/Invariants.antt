use Rattle.std.proofs.Common.{◌≡◌, map, take, true}
use Rattle.std.specs.List.{list_all}
use Rattle.term_sorts.specs.Types.{types_of, record_types}
use Rattle.term_store.specs.Store.{tree_at}
use Rattle.sorted_sequents.specs.Claims.{is_claim}
use Rattle.sorted_sequents.proofs.sequents.are_claims.Given as goal

abbrev pub invariant-loop-place : goal.invariant-loop-place
invariant-loop-place l = list_all (is_claim (record_types l.records) (types_of l.symbols)) (map (tree_at l.store) (take l.place l.ids)) ≡ true
