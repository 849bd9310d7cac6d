-- What a sort and a term are, as a type and a tree of plain data.
use Rattle.std.specs.Prelude.{ℕ, List, [], ◌∷◌, map, true, false}
use Rattle.slang_values.specs.Value.{ValueType, number_type, truth_type, sequence_type, record_type}
use Rattle.slang_values.specs.Tree.{Tree, literal, truth_literal, name, bound, unary, binary, update, quantified, listed, Trees, no_trees, tree_then, sequence_of, record_of}
use Rattle.slang_values.specs.declared.operators.Unary.{Unary}
use Rattle.slang_values.specs.declared.operators.Binary.{Binary}
use Rattle.slang_values.specs.declared.operators.Quantifier.{Quantifier}
use Rattle.term_trees.specs.declared.term.Sort.{Sort}
use Rattle.term_trees.specs.declared.term.Sort.TheOpen.{Sort-F}
use Rattle.term_trees.specs.declared.term.Sort.TheFolds.{fold-Sort}
use Rattle.term_trees.specs.declared.term.Term.{Term}
use Rattle.term_trees.specs.declared.term.Term.TheOpen.{Term-F}
use Rattle.term_trees.specs.declared.term.Term.TheFolds.{fold-Term}

-- one level of a sort, with its element's sort already as a type
abbrev pub sort_level : Sort-F ValueType → ValueType
sort_level Sort-F.Z = number_type
sort_level Sort-F.B = truth_type
sort_level (Sort-F.Seq s) = sequence_type s
sort_level (Sort-F.Rec n) = record_type n

unfoldable pub sort_type : Sort → ValueType
sort_type = fold-Sort ValueType sort_level

abbrev pub trees_of : List (Tree ℕ) → Trees ℕ
trees_of [] = no_trees
trees_of (t ∷ ts) = tree_then t (trees_of ts)

-- one level of a term, with its parts already as trees: symbols are the names of the tree
abbrev pub term_level : Term-F (Tree ℕ) → Tree ℕ
term_level (Term-F.Lit z) = literal z
term_level Term-F.True = truth_literal true
term_level Term-F.False = truth_literal false
term_level (Term-F.Symbol n) = name n
term_level (Term-F.Bound n) = bound n
term_level (Term-F.Neg a) = unary Unary.Neg a
term_level (Term-F.Not a) = unary Unary.Not a
term_level (Term-F.Add a b) = binary Binary.Add a b
term_level (Term-F.Sub a b) = binary Binary.Sub a b
term_level (Term-F.Mul a b) = binary Binary.Mul a b
term_level (Term-F.Div a b) = binary Binary.Div a b
term_level (Term-F.Rem a b) = binary Binary.Rem a b
term_level (Term-F.And a b) = binary Binary.And a b
term_level (Term-F.Or a b) = binary Binary.Or a b
term_level (Term-F.Imply a b) = binary Binary.Imply a b
term_level (Term-F.Eq a b) = binary Binary.Eq a b
term_level (Term-F.Lt a b) = binary Binary.Lt a b
term_level (Term-F.Le a b) = binary Binary.Le a b
term_level (Term-F.Size a) = unary Unary.Size a
term_level (Term-F.Read a b) = binary Binary.Read a b
term_level (Term-F.Update a i x) = update a i x
term_level (Term-F.Append a b) = binary Binary.Append a b
term_level (Term-F.SeqLit s ts) = listed (sequence_of (sort_type s)) (trees_of ts)
term_level (Term-F.Rec n ts) = listed (record_of n) (trees_of ts)
term_level (Term-F.Field a k) = unary (Unary.Field k) a
term_level (Term-F.All low high body) = quantified Quantifier.All low high body
term_level (Term-F.Exists low high body) = quantified Quantifier.Exists low high body

unfoldable pub tree : Term → Tree ℕ
tree = fold-Term (Tree ℕ) term_level

abbrev pub trees : List Term → Trees ℕ
trees ts = trees_of (map tree ts)
