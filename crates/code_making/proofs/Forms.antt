-- Statements with blocks, which are made of their parts.
use Rattle.std.proofs.Common.{◌≡◌, ℕ, ◌∷◌, [], List, None, length, map, ap, ◌∙◌, subst}
use Rattle.slang_tree.specs.declared.place.Place.{Place}
use Rattle.slang_tree.specs.declared.expression.Name.{Name}
use Rattle.slang_tree.specs.ExprTree.{ExprTree}
use Rattle.slang_tree.specs.StmtTree.{StmtTrees, ElseTree, no_else, else_then}
use Rattle.slang_tree.specs.StmtTree as s
use Rattle.program_trees.specs.Claims.{NotedTree, renamed_noted}
use Rattle.program_trees.specs.Programs.{TypedExpr, CodeTree, CodeTrees, no_code, branch, loop}
use Rattle.lk_claims.specs.declared.ty.Ty.{Ty}
use Rattle.type_rules.specs.Meanings.{Scope, within}
use Rattle.type_rules.specs.Expressions.{in_claim}
use Rattle.type_rules.specs.Statements.{else_count, local_counts, past_locals, texts}
use Rattle.typed_texts.specs.Numbered.{joined, numbered_map, pair}
use Rattle.typed_texts.specs.Code.{all_noted, code_of_else, code_of_trees, locals_of_else, locals_of_trees, variables_meant}
use Rattle.typed_texts.specs.Values.{value_of_tree}
use Rattle.name_scopes.specs.declared.scope.NameScope.{NameScope}
use Rattle.name_scopes.specs.Fits.{Fits}
use Rattle.typed_names.specs.declared.nodes.Nodes.{Nodes}
use Rattle.typed_names.specs.declared.variables.Numbering.{Numbering}
use Rattle.typed_names.specs.Nodes.{IsMade, with_nodes}
use Rattle.typed_names.specs.Variables.{number_in}
use Rattle.typed_names.proofs.Made.{made_headed, made_joined, made_plain}
use Rattle.value_making.specs.Values.{numbered}
use Rattle.call_making.specs.Codes.{numbered_codes}
use Rattle.statement_judging.proofs.Behind.{past_two}
use Rattle.statement_judging.proofs.Forms.{else_missing}
use Rattle.target_making.specs.Made.{IsCode}
use Rattle.code_making.specs.Made.{IsBlock, IsBody, IsElse}
use Rattle.code_making.proofs.Kept.{both_more, none_more}

module _ (numbers : Numbering) (before mid : Nodes) (place : Place) (node : ℕ) (number : node ≡ length before.places) (added : mid ≡ with_nodes before (place ∷ [])) where
  pub branch_made : (tested between after : Nodes) (t0 t1 t2 : List Ty) (inner known : NameScope) (at : Scope) (test : ExprTree) (on_true : StmtTrees) (otherwise : ElseTree)
      (t : TypedExpr ℕ) (then rest : CodeTrees ℕ) (code : CodeTree ℕ) →
      IsMade mid tested t (numbered numbers (value_of_tree at test)) → IsBlock numbers inner tested between t0 t1 then at on_true →
      IsElse numbers known between after t1 t2 rest (past_locals at (local_counts on_true)) otherwise → code ≡ branch node t then rest →
      IsCode numbers known before after t0 t2 code at (s.branch place test on_true otherwise)
  branch_made tested between after t0 t1 t2 inner known at test on_true otherwise t then rest code one two three is =
      let first = numbered_codes numbers (code_of_trees at on_true) in
      let second = numbered_codes numbers (code_of_else (past_locals at (local_counts on_true)) otherwise) in
      record {
        is = made_headed before mid after place (λ n parts. branch n parts.0 parts.1.0 parts.1.1) node (t, (then, rest)) code
            (joined pair (numbered numbers (value_of_tree at test)) (joined pair first second)) number added
            (made_joined mid tested after pair t (then, rest) (numbered numbers (value_of_tree at test)) (joined pair first second) one
            (made_joined tested between after pair then rest first second two.is three.is)) is;
        types = both_more t0 t1 t2 (locals_of_trees at on_true) (locals_of_else (past_locals at (local_counts on_true)) otherwise) two.types three.types;
        fits = subst (Fits known) (past_two at (local_counts on_true) (else_count otherwise)) three.fits;
      }

  pub loop_made : (tested between after : Nodes) (t0 t1 : List Ty) (known : NameScope) (at : Scope) (test : ExprTree) (modifies : List Name) (claims : List ExprTree)
      (body : StmtTrees) (t : TypedExpr ℕ) (ns : List ℕ) (shown : List (NotedTree ℕ)) (inside : CodeTrees ℕ) (code : CodeTree ℕ) →
      ns ≡ map (number_in numbers) (variables_meant at modifies) → IsMade mid tested t (numbered numbers (value_of_tree at test)) →
      IsMade tested between shown (numbered_map (map (renamed_noted (number_in numbers))) (all_noted at in_claim claims)) →
      IsBody numbers known between after t0 t1 inside at (texts modifies) body → code ≡ loop node t ns shown inside →
      IsCode numbers known before after t0 t1 code at (s.loop place test modifies claims body)
  loop_made tested between after t0 t1 known at test modifies claims body t ns shown inside code named one two three is =
      let first = numbered_map (map (renamed_noted (number_in numbers))) (all_noted at in_claim claims) in
      let second = numbered_codes numbers (code_of_trees (within at (texts modifies)) body) in
      let changed = map (number_in numbers) (variables_meant at modifies) in
      record {
        is = made_headed before mid after place (λ n parts. loop n parts.0 changed parts.1.0 parts.1.1) node (t, (shown, inside)) code
            (joined pair (numbered numbers (value_of_tree at test)) (joined pair first second)) number added
            (made_joined mid tested after pair t (shown, inside) (numbered numbers (value_of_tree at test)) (joined pair first second) one
            (made_joined tested between after pair shown inside first second two three.is))
            (is ∙ ap (λ ms. loop node t ms shown inside) named);
        types = three.types;
        fits = three.fits;
      }

pub else_none : (numbers : Numbering) (known : NameScope) (nodes : Nodes) (types : List Ty) (at : Scope) → Fits known at →
    IsElse numbers known nodes nodes types types no_code at no_else
else_none numbers known nodes types at fits = record {
  is = made_plain nodes no_code;
  types = none_more types;
  fits = (else_missing known None at fits).fits;
}

pub else_block : (numbers : Numbering) (known : NameScope) (before after : Nodes) (t0 t1 : List Ty) (code : CodeTrees ℕ) (at : Scope) (stmts : StmtTrees) →
    IsBlock numbers known before after t0 t1 code at stmts → IsElse numbers known before after t0 t1 code at (else_then stmts)
else_block numbers known before after t0 t1 code at stmts block = record { is = block.is; types = block.types; fits = block.fits }
