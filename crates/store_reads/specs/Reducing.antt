-- How sizes and fields of what is written out are known.
use Rattle.std.specs.Prelude.{◌≡◌, ℕ, pos, ◌<◌, List, length, Option, Some, None}
use Rattle.slang_values.specs.Tree.{Tree, literal, unary, binary}
use Rattle.slang_values.specs.declared.operators.Unary.{Unary}
use Rattle.slang_values.specs.declared.operators.Binary.{Binary}
use Rattle.read_rules.specs.Reduced.{size_tree, field_tree}
use Rattle.term_nodes.specs.declared.node.NodeShape.{NodeShape}
use Rattle.term_nodes.specs.Node.{tree_of, shape_tree, shape_numbers}
use Rattle.store_reads.specs.declared.reducing.SizedAs.{SizedAs}
use Rattle.std.specs.List.{Contains}

-- what the size of the tree of the shape is, whatever the trees of its parts are
abbrev pub IsSizedAs : NodeShape → SizedAs → Type 0
IsSizedAs shape (SizedAs.Same a) = (Contains (shape_numbers shape) a) × ((ts : List (Tree ℕ)) → size_tree (shape_tree ts shape) ≡ size_tree (tree_of ts a))
IsSizedAs shape (SizedAs.OneMore a) =
    (Contains (shape_numbers shape) a) × ((ts : List (Tree ℕ)) → size_tree (shape_tree ts shape) ≡ binary Binary.Add (size_tree (tree_of ts a)) (literal (pos 1)))
IsSizedAs shape (SizedAs.Count n) = (ts : List (Tree ℕ)) → size_tree (shape_tree ts shape) ≡ literal (pos n)
IsSizedAs shape SizedAs.Unknown = (ts : List (Tree ℕ)) → size_tree (shape_tree ts shape) ≡ unary Unary.Size (shape_tree ts shape)

-- the field that is written out, or that there is none
abbrev pub IsFieldOf : NodeShape → ℕ → Option ℕ → Type 0
IsFieldOf shape k (Some a) = (Contains (shape_numbers shape) a) × ((ts : List (Tree ℕ)) → field_tree k (shape_tree ts shape) ≡ tree_of ts a)
IsFieldOf shape k None = (ts : List (Tree ℕ)) → field_tree k (shape_tree ts shape) ≡ unary (Unary.Field k) (shape_tree ts shape)
