-- What a node is found by: its head and the numbers of its parts.
use Rattle.std.specs.Prelude.{ℕ, List}
use Rattle.std.specs.declared.cmp.Ordering.{Ordering}
use Rattle.std.specs.Ordering.{ordering_then, nat_cmp, int_cmp}
use Rattle.std.specs.Option.{option_cmp}
use Rattle.std.specs.Cmp.Lexicographic.{slice_cmp}
use Rattle.tree_forms.specs.Order.{Head}
use Rattle.term_nodes.specs.declared.node.Node.{Node}
use Rattle.term_nodes.specs.declared.key.Key.{Key}
use Rattle.term_nodes.specs.declared.key.HeadKey.{HeadKey}
use Rattle.term_nodes.specs.Node.{node_head, numbers}

pub record KeyData : Type 0 where
  pub head : Head
  pub parts : List ℕ

abbrev pub head_of_key : HeadKey → Head
head_of_key h = record { kind = h.kind; number = h.number; type_numbers = h.sort.items }

abbrev pub key_data : Key → KeyData
key_data k = record { head = head_of_key k.head; parts = k.parts.items }

abbrev pub node_data : Node → KeyData
node_data n = record { head = node_head n; parts = numbers n }

abbrev pub head_key_cmp : HeadKey → HeadKey → Ordering
head_key_cmp a b = ordering_then (nat_cmp a.kind b.kind) (ordering_then (option_cmp int_cmp a.number b.number) (slice_cmp nat_cmp a.sort.items b.sort.items))

abbrev pub key_cmp : Key → Key → Ordering
key_cmp a b = ordering_then (head_key_cmp a.head b.head) (slice_cmp nat_cmp a.parts.items b.parts.items)
