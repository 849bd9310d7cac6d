-- Constants that are made of their parts.
use Rattle.std.proofs.Common.{◌≡◌, ◌∷◌, ◌++◌, [], ℕ, ℤ, List, map, refl, sym, ap, ◌∙◌, subst}
use Rattle.std.specs.Prelude.{length}
use Rattle.std.proofs.lemmas.List.{map-append}
use Rattle.slang_values.specs.declared.operators.Unary.{Unary}
use Rattle.slang_values.specs.Tree.{Listed}
use Rattle.slang_tree.specs.declared.place.Place.{Place}
use Rattle.slang_tree.specs.DeclTree.{ConstTree, ConstTrees, consts_of}
use Rattle.program_trees.specs.Programs.{TypedExpr, TypedExprs, number, unary, listed, expr_then}
use Rattle.lk_programs.specs.declared.expression.Expr.{Expr}
use Rattle.lk_programs.specs.Expr.{typed_expr, typed_exprs}
use Rattle.type_rules.specs.Meanings.{Scope}
use Rattle.typed_texts.specs.Numbered.{headed, joined, single}
use Rattle.typed_names.specs.declared.nodes.Nodes.{Nodes}
use Rattle.typed_names.specs.Nodes.{IsMade, with_nodes}
use Rattle.typed_names.proofs.Made.{made_headed}
use Rattle.value_making.proofs.Series.{exprs_more, in_turn}
use Rattle.constant_making.specs.Constants.{constant_in, constants_in}

pub constant_by : (at : Scope) {before after : Nodes} {value : TypedExpr ℕ} (tree other : ConstTree) → tree ≡ other →
    IsMade before after value (constant_in at other) → IsMade before after value (constant_in at tree)
constant_by at {before} {after} {value} tree other same made = subst (λ t. IsMade before after value (constant_in at t)) (sym same) made

as_series : (at : Scope) (trees : List ConstTree) → constants_in at (consts_of trees) ≡ in_turn (map (constant_in at) trees)
as_series at [] = refl
as_series at (tree ∷ trees) = ap (joined expr_then (constant_in at tree)) (as_series at trees)

-- one constant more
pub constants_more : (at : Scope) (before between after : Nodes) (values : List Expr) (value : Expr) (trees : List ConstTree) (tree : ConstTree)
    (more : List ConstTree) → more ≡ trees ++ tree ∷ [] →
    IsMade before between (typed_exprs values) (constants_in at (consts_of trees)) → IsMade between after (typed_expr value) (constant_in at tree) →
    IsMade before after (typed_exprs (values ++ value ∷ [])) (constants_in at (consts_of more))
constants_more at before between after values value trees tree more is made next =
    exprs_more before between after values value (map (constant_in at) trees) (constant_in at tree)
    (constants_in at (consts_of trees)) (constants_in at (consts_of more)) (as_series at trees)
    (ap (λ ts. constants_in at (consts_of ts)) is ∙ as_series at (trees ++ tree ∷ []) ∙ ap in_turn (map-append (constant_in at) trees (tree ∷ [])))
    made next

module _ (before mid : Nodes) (place : Place) (node : ℕ) (number_is : node ≡ length before.places) (added : mid ≡ with_nodes before (place ∷ [])) where
  pub made_minus : (after : Nodes) (digits : Place) (z : ℤ) (a e : TypedExpr ℕ) →
      IsMade mid after a (single digits (λ n. number n z)) → e ≡ unary node Unary.Neg a →
      IsMade before after e (headed place (λ n x. unary n Unary.Neg x) (single digits (λ n. number n z)))
  made_minus after digits z a e made is =
      made_headed before mid after place (λ n x. unary n Unary.Neg x) node a e (single digits (λ n. number n z)) number_is added made is

  pub made_listed : (at : Scope) (after : Nodes) (front : Listed) (parts : TypedExprs ℕ) (e : TypedExpr ℕ) (trees : ConstTrees) →
      IsMade mid after parts (constants_in at trees) → e ≡ listed node front parts →
      IsMade before after e (headed place (λ n ps. listed n front ps) (constants_in at trees))
  made_listed at after front parts e trees made is =
      made_headed before mid after place (λ n ps. listed n front ps) node parts e (constants_in at trees) number_is added made is
