-- The nodes of a text that goes on.
use Rattle.std.specs.Prelude.{◌≡◌, ℕ, List, ◌++◌, map, length}
use Rattle.slang_tree.specs.declared.place.Place.{Place}
use Rattle.lk_programs.specs.declared.program.NodePlace.{NodePlace}
use Rattle.typed_texts.specs.Numbered.{Numbered}
use Rattle.typed_names.specs.declared.nodes.Nodes.{Nodes}

abbrev pub node_in : ℕ → Place → NodePlace
node_in file place = record { file = file; place = place }

-- with nodes at these places behind the others
abbrev pub with_nodes : Nodes → List Place → Nodes
with_nodes nodes places = record { file = nodes.file; places = nodes.places ++ map (node_in nodes.file) places }

-- A part was made: its nodes were added behind the others, and its first node has the next number.
pub record IsMade {A : Type 0} (before after : Nodes) (made : A) (part : Numbered Place A) : Type 0 where
  pub added : after ≡ with_nodes before part.places
  pub is : made ≡ part.from (length before.places)
