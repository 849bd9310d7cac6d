-- Globals of the typed program, with numbers for the variables of their initial values, which name none.
use Rattle.std.specs.Prelude.{◌≡◌, ℕ, Bool, List}
use Rattle.program_trees.specs.Variables.{no_number}
use Rattle.slang_tree.specs.declared.place.Place.{Place}
use Rattle.slang_tree.specs.DeclTree.{GlobalDeclTree}
use Rattle.program_trees.specs.Programs.{GlobalTree, renamed_global}
use Rattle.lk_claims.specs.declared.ty.Ty.{Ty}
use Rattle.lk_programs.specs.declared.expression.Expr.{Expr}
use Rattle.lk_programs.specs.declared.program.Global.{Global}
use Rattle.type_rules.specs.Meanings.{Scope}
use Rattle.typed_texts.specs.Numbered.{Numbered, numbered_map}
use Rattle.typed_texts.specs.TypedProjects.{global_of_tree}

abbrev pub global_in : Scope → GlobalDeclTree → Numbered Place (GlobalTree ℕ)
global_in outline decl = numbered_map (renamed_global no_number) (global_of_tree outline decl)

-- It has this name, this type and this initial value.
abbrev pub IsGlobalOf : Bool → List ℕ → Ty → Expr → Global → Type 0
IsGlobalOf fixed name ty init made = made ≡ record { name = name; fixed = fixed; ty = ty; init = init }
