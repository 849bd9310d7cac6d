-- The term of a claim over the numbers of its parts.
use Rattle.std.proofs.Common.{◌≡◌, ℕ, suc, List, [], ◌∷◌, map, take, length, slice_get, Some, None, refl, sym, ap, ◌∙◌, subst}
use Rattle.std.proofs.lemmas.List.{length-map}
use Rattle.slang_values.specs.Value.{ValueType}
use Rattle.slang_values.specs.Tree.{name, parts}
use Rattle.term_nodes.specs.declared.node.Node.{Node}
use Rattle.term_nodes.specs.Node.{node_tree, node_head, numbers}
use Rattle.term_store.specs.Store.{stored, tree_at, Grows, GainsAmong, GainsAtMost, nothing, the_node, AreTreesOf, subtrees}
use Rattle.term_store.proofs.Stores.{Grows-itself, Grows-push}
use Rattle.term_store.proofs.Gains.{node_over_tree, GainsAmong-part}
use Rattle.program_trees.specs.Claims.{ClaimName, ClaimTree}
use Rattle.leg_rules.specs.Store.{State, read_name, read_claim, term_of_name}
use Rattle.leg_rules.specs.Sequents.{read_term}
use Rattle.claim_reading.specs.Readable.{name_in}
use Rattle.claim_reading.specs.Reading.{read_claims, read_terms, claim_head}
use Rattle.claim_reading.proofs.Parts.{parts-read_term, head-read_term, read_terms-at}

-- the store with one node more, or the same
pub grows_by_node : (n : Node) (old new : List Node) → GainsAtMost n old new → Grows old new
grows_by_node n old new (nothing e) = subst (Grows old) (sym e) (Grows-itself old)
grows_by_node n old new (the_node e) = subst (Grows old) (sym e) (Grows-push old n)

module _ (types : List ValueType) where
  -- a claim that is a name
  pub name_state : (s : State) (claim : ClaimTree ℕ) (a : ClaimName ℕ) → claim ≡ name a → read_name types s a ≡ read_claim types claim s
  name_state s claim a e = ap (λ t. read_claim types t s) (sym e)

  pub name_term : (s : State) (claim : ClaimTree ℕ) (a : ClaimName ℕ) → claim ≡ name a → term_of_name (read_name types s a) a ≡ read_term types s claim
  name_term s claim a e = ap (read_term types s) (sym e)

  pub length-read_terms : (s : State) (claims : List (ClaimTree ℕ)) → length (read_terms types s claims) ≡ length claims
  length-read_terms s [] = refl
  length-read_terms s (claim ∷ claims) = ap suc (length-read_terms (read_claim types claim s) claims)

  -- the node over the parts has the claim's term
  pub claim_node : (s : State) (claim : ClaimTree ℕ) (store : List Node) (n : Node) (ids : List ℕ) → name_in claim ≡ None → node_head n ≡ claim_head claim
      → numbers n ≡ ids → AreTreesOf store ids (read_terms types s (parts claim)) → node_tree (stored store) n ≡ read_term types s claim
  claim_node s claim store n ids inner top is h =
      node_over_tree store n (read_term types s claim) (top ∙ sym (head-read_term types s claim inner))
      (ap (map (tree_at store)) is ∙ h.trees ∙ sym (parts-read_term types s claim inner))

  pub as_many_ids : (s : State) (claim : ClaimTree ℕ) (store : List Node) (ids : List ℕ) → AreTreesOf store ids (read_terms types s (parts claim))
      → length ids ≡ length (parts claim)
  as_many_ids s claim store ids h = sym (length-map ids (tree_at store)) ∙ ap length h.trees ∙ length-read_terms s (parts claim)

  -- what is gained among the subtrees of a part's term is gained among those of the claim's
  pub gains_part : (s now : State) (claim part : ClaimTree ℕ) (i : ℕ) (old new : List Node) → name_in claim ≡ None → slice_get (parts claim) i ≡ Some part
      → now ≡ read_claims types (take i (parts claim)) s → GainsAmong old new (subtrees (read_term types now part))
      → GainsAmong old new (subtrees (read_term types s claim))
  gains_part s now claim part i old new inner at is g =
      GainsAmong-part old new (read_term types s claim) (read_term types now part) i
      (ap (λ ts. slice_get ts i) (parts-read_term types s claim inner) ∙ read_terms-at types (parts claim) s i part at
      ∙ ap (λ q. Some (read_term types q part)) (sym is))
      g

  pub part_at : (s now : State) (claim part : ClaimTree ℕ) (i : ℕ) → slice_get (parts claim) i ≡ Some part
      → now ≡ read_claims types (take i (parts claim)) s → slice_get (read_terms types s (parts claim)) i ≡ Some (read_term types now part)
  part_at s now claim part i at is = read_terms-at types (parts claim) s i part at ∙ ap (λ q. Some (read_term types q part)) (sym is)
