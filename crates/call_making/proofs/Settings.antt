-- Statements that are made of their parts.
use Rattle.std.proofs.Common.{◌≡◌, ◌∷◌, [], ℕ, List, length, Option, map, refl, ap, ◌∙◌}
use Rattle.std.specs.Option.{option_map}
use Rattle.slang_tree.specs.declared.place.Place.{Place}
use Rattle.slang_tree.specs.ExprTree.{ExprTrees}
use Rattle.program_trees.specs.Programs.{TypedExpr, CodeTree, call, set, renamed_expr}
use Rattle.program_trees.specs.Variables.{Variable}
use Rattle.type_rules.specs.Meanings.{Meaning, Scope}
use Rattle.typed_texts.specs.Numbered.{Numbered, joined, numbered_map, pair, single}
use Rattle.typed_texts.specs.Code.{arguments_of, call_of, method_meant, set_to}
use Rattle.typed_texts.specs.Values.{Value}
use Rattle.typed_names.specs.declared.nodes.Nodes.{Nodes}
use Rattle.typed_names.specs.declared.variables.Numbering.{Numbering}
use Rattle.typed_names.specs.Nodes.{IsMade, with_nodes}
use Rattle.typed_names.specs.Variables.{number_in}
use Rattle.typed_names.proofs.Made.{made_headed, made_joined, made_single}
use Rattle.value_making.specs.Values.{numbered}
use Rattle.call_making.specs.Codes.{numbered_code}

module _ (numbers : Numbering) (before mid : Nodes) (place : Place) (node : ℕ) (number : node ≡ length before.places) (added : mid ≡ with_nodes before (place ∷ [])) where
  pub made_set : (after : Nodes) (target : ℕ) (x : Variable) (v : TypedExpr ℕ) (code : CodeTree ℕ) (value : Value) →
      target ≡ number_in numbers x → IsMade mid after v (numbered numbers value) → code ≡ set node target v →
      IsMade before after code (numbered_code numbers (set_to place x value))
  made_set after target x v code value is_target made is =
      made_headed before mid after place (λ n a. set n (number_in numbers x) a) node v code (numbered numbers value) number added made
      (is ∙ ap (λ y. set node y v) is_target)

  pub made_call : (named after : Nodes) (at : Scope) (target : Option ℕ) (x : Option Variable) (name_place : Place) (called method : ℕ) (meaning : Option Meaning)
      (values : List (TypedExpr ℕ)) (code : CodeTree ℕ) (trees : ExprTrees) →
      target ≡ option_map (number_in numbers) x → called ≡ length mid.places → named ≡ with_nodes mid (name_place ∷ []) → method ≡ method_meant meaning →
      IsMade named after values (numbered_map (map (renamed_expr (number_in numbers))) (arguments_of at trees)) → code ≡ call node target called method values →
      IsMade before after code (numbered_code numbers (call_of at place x name_place meaning trees))
  made_call named after at target x name_place called method meaning values code trees is_target is_called added_name is_method made is =
      let arguments = numbered_map (map (renamed_expr (number_in numbers))) (arguments_of at trees) in
      let name : Numbered Place ℕ = single name_place (λ n. n) in
      made_headed before mid after place (λ n parts. call n (option_map (number_in numbers) x) parts.0 (method_meant meaning) parts.1) node (called, values) code
      (joined pair name arguments) number added
      (made_joined mid named after pair called values name arguments (made_single mid named name_place (λ n. n) called called is_called added_name refl) made)
      (is ∙ ap (λ y. call node y called method values) is_target ∙ ap (λ m. call node (option_map (number_in numbers) x) called m values) is_method)
