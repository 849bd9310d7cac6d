-- Claims with their nodes, as those of the text that they are made from.
use Rattle.std.specs.Prelude.{List, map}
use Rattle.slang_tree.specs.declared.place.Place.{Place}
use Rattle.program_trees.specs.Claims.{NotedTree, renamed_noted}
use Rattle.program_trees.specs.Variables.{Variable}
use Rattle.lk_programs.specs.declared.program.Noted.{Noted}
use Rattle.lk_programs.specs.declared.program.RecordTy.{RecordTy}
use Rattle.lk_programs.specs.Program.{noted_tree}
use Rattle.type_rules.specs.Meanings.{Scope}
use Rattle.typed_texts.specs.Numbered.{Numbered, numbered_map}
use Rattle.name_scopes.specs.declared.scope.NameScope.{NameScope}
use Rattle.name_scopes.specs.Fits.{Fits}
use Rattle.typed_names.specs.declared.nodes.Nodes.{Nodes}
use Rattle.typed_names.specs.declared.variables.Numbering.{Numbering}
use Rattle.typed_names.specs.Variables.{number_in}
use Rattle.typed_names.specs.Fields.{HasFields}
use Rattle.typed_names.specs.Nodes.{IsMade}

-- The claim is this one at each place of the text that the scope fits, and its node was added.
pub record IsNoted (records : List RecordTy) (numbers : Numbering) (known : NameScope) (before after : Nodes) (it : Scope → Numbered Place (NotedTree
    Variable)) (made : Noted) : Type 0 where
  pub is : (at : Scope) → Fits known at → HasFields records at →
      IsMade before after (noted_tree made) (numbered_map (renamed_noted (number_in numbers)) (it at))

-- the same of claims, one after another
pub record AreNoted (records : List RecordTy) (numbers : Numbering) (known : NameScope) (before after : Nodes) (it : Scope → Numbered Place (List
    (NotedTree Variable))) (made : List Noted) : Type 0 where
  pub are : (at : Scope) → Fits known at → HasFields records at →
      IsMade before after (map noted_tree made) (numbered_map (map (renamed_noted (number_in numbers))) (it at))
