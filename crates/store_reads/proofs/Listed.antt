-- Sizes and fields of what is listed.
use Rattle.std.proofs.Common.{◌≡◌, ℕ, zero, suc, List, [], ◌∷◌, map, length, slice_get, Option, Some, None, Bor, refl, sym, ap, ◌∙◌}
use Rattle.std.specs.Option.{option_map, unwrap_or}
use Rattle.std.proofs.lemmas.Option.{slice_get_within, get_or_from_slice_get}
use Rattle.slang_values.specs.Tree.{Tree, unary, listed, Trees, record_of}
use Rattle.slang_values.specs.declared.operators.Unary.{Unary}
use Rattle.read_rules.specs.Reduced.{trees_length, tree_at_place}
use Rattle.term_trees.specs.Term.{trees_of}
use Rattle.term_nodes.specs.declared.node.NodeShape.{NodeShape}
use Rattle.term_nodes.specs.Node.{tree_of}
use Rattle.store_reads.specs.Reducing.{IsFieldOf}

pub count-listed : (f : ℕ → Tree ℕ) (ks : List ℕ) → trees_length (trees_of (map f ks)) ≡ length ks
count-listed f [] = refl
count-listed f (k ∷ ks) = ap suc (count-listed f ks)

place-listed : (f : ℕ → Tree ℕ) (ks : List ℕ) (k : ℕ) (past : Tree ℕ) → tree_at_place (trees_of (map f ks)) k past ≡ unwrap_or (option_map f (slice_get ks k)) past
place-listed f [] k past = refl
place-listed f (a ∷ ks) zero past = refl
place-listed f (a ∷ ks) (suc k) past = place-listed f ks k past

-- a field of a record that is written out
pub field-of_record : (n : ℕ) (ks : Bor (List ℕ)) (k : ℕ) (o : Option ℕ) → slice_get ks.now k ≡ o → IsFieldOf (NodeShape.Record n ks) k o
field-of_record n ks k (Some a) e =
    ((k, slice_get_within ks.now k a e, get_or_from_slice_get ks.now k a a e), λ ts. place-listed (tree_of ts) ks.now k (unary (Unary.Field k) (listed (record_of n) (trees_of (map (tree_of ts) ks.now)))) ∙ ap (λ o. unwrap_or (option_map (tree_of ts) o) (unary (Unary.Field k) (listed (record_of n) (trees_of (map (tree_of ts) ks.now))))) e)
field-of_record n ks k None e =
    λ ts. place-listed (tree_of ts) ks.now k (unary (Unary.Field k) (listed (record_of n) (trees_of (map (tree_of ts) ks.now)))) ∙ ap (λ o. unwrap_or (option_map (tree_of ts) o) (unary (Unary.Field k) (listed (record_of n) (trees_of (map (tree_of ts) ks.now))))) e
