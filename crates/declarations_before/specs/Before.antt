-- The names and the numbers of declarations.
use Rattle.std.specs.Prelude.{◌≡◌, ℕ, List, filter_map, length, map}
use Rattle.std.specs.Set.{is_member}
use Rattle.std.specs.Str.{bytes_eq}
use Rattle.slang_tree.specs.declared.expression.Name.{Name}
use Rattle.slang_tree.specs.DeclTree.{DeclTree}
use Rattle.name_maps.specs.Names.{is_named}
use Rattle.type_rules.specs.Projects.{method_of, name_of, record_of}
use Rattle.declarations_before.specs.declared.counting.Counts.{Counts}

abbrev pub texts_of : List Name → List (List ℕ)
texts_of names = map (λ name. name.text) names

-- The table has the names of these declarations.
abbrev pub HasNames : {X : Type 0} → List (List ℕ × X) → List DeclTree → Type 0
HasNames table decls = (text : List ℕ) → is_named table text ≡ is_member bytes_eq (texts_of (filter_map name_of decls)) text

-- So many of these declarations are records, and so many are methods.
pub record AreCounts (counts : Counts) (decls : List DeclTree) : Type 0 where
  pub records : counts.records ≡ length (filter_map record_of decls)
  pub methods : counts.methods ≡ length (filter_map method_of decls)
