-- A sequent of the code is well sorted as plain data.
use Rattle.std.proofs.Common.{ℕ, map, get_or}
use Rattle.slang_values.specs.Value.{Records}
use Rattle.slang_values.specs.Tree.{Tree}
use Rattle.slang_values.specs.Typing.{NameTypes}
use Rattle.term_trees.specs.Term.{sort_type, tree}
use Rattle.lk_terms.specs.declared.sequent.Sequent.{Sequent}
use Rattle.lk_terms.specs.Validity as code
use Rattle.lk_terms.specs.Validity.{sequent_tree}
use Rattle.validity.specs.Validity.{symbol_types, IsClaim, IsWellSorted}
use Rattle.proof_closing.specs.Prover.{plain_sequent}

to_plain : (records : Records) (types : NameTypes ℕ) (t : Tree ℕ) → code.IsClaim records types t → IsClaim records types t
to_plain records types t h = record { typed = h.typed; closed = h.closed }

pub plain_sorted : (s : Sequent) → IsWellSorted (plain_sequent s)
plain_sorted s =
    let h = s.well_sorted in
    record {
      records = h.records;
      symbols = h.symbols;
      facts = λ k d l. to_plain (map (map sort_type) s.records) (symbol_types (plain_sequent s)) (get_or (map tree s.facts) k d) (h.facts k d l);
      goal = to_plain (map (map sort_type) s.records) (symbol_types (plain_sequent s)) (tree s.goal) h.goal;
    }
