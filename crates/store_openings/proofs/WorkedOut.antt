-- What was worked out of a store, as it grows.
use Rattle.std.proofs.Common.{◌≡◌, ℕ, List, Result, Ok, Err, IfOk, sym, subst}
use Rattle.slang_values.specs.Tree.{Tree}
use Rattle.lk_terms.specs.Substitution as closing
use Rattle.substitution.specs.Substitution as proof
use Rattle.instance_laws.proofs.Alike.{alike}
use Rattle.term_nodes.specs.declared.node.Node.{Node}
use Rattle.term_store.specs.Store.{Holds, Grows}
use Rattle.store_substitution.proofs.Needed.{depths-grow}
use Rattle.store_substitution.proofs.Tables.{AreSubstituted-grows}
use Rattle.store_openings.specs.declared.tables.Tables.{Tables}
use Rattle.store_openings.specs.Tables.{AreTables}

pub AreTables-grows : (old new : List Node) (tables : Tables) → Grows old new → AreTables old tables → AreTables new tables
AreTables-grows old new tables g h = record {
  depths = depths-grow old new tables.depths g h.depths;
  substitutions = AreSubstituted-grows old new tables.substitutions g h.substitutions;
}

pub number_alike : {E : Type 0} (r : Result ℕ E) (store : List Node) (n : ℕ) (u t : Tree ℕ) → IfOk r (λ k. Holds store k (proof.substituted n u t)) → IfOk r (λ k. Holds store k (closing.substituted n u t))
number_alike (Ok k) store n u t h = subst (Holds store k) (sym (alike n u t)) h
number_alike (Err e) store n u t h = tt
