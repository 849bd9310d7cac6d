-- Expressions one after another.
use Rattle.std.proofs.Common.{◌≡◌, ℕ, List, [], ◌∷◌, ◌++◌, map, refl, sym, ap, ◌∙◌, subst}
use Rattle.std.proofs.lemmas.List.{map-append}
use Rattle.slang_tree.specs.declared.place.Place.{Place}
use Rattle.slang_tree.specs.ExprTree.{ExprTree, exprs_of as trees_of}
use Rattle.program_trees.specs.Programs.{TypedExpr, TypedExprs, no_exprs, expr_then}
use Rattle.lk_programs.specs.declared.expression.Expr.{Expr}
use Rattle.lk_programs.specs.Expr.{exprs_of, typed_expr, typed_exprs}
use Rattle.type_rules.specs.Meanings.{Scope}
use Rattle.typed_texts.specs.Numbered.{Numbered, joined}
use Rattle.typed_names.specs.declared.nodes.Nodes.{Nodes}
use Rattle.typed_names.specs.declared.variables.Numbering.{Numbering}
use Rattle.typed_names.specs.Nodes.{IsMade}
use Rattle.typed_names.proofs.Series.{made_more, series}
use Rattle.value_making.specs.Values.{value_in, values_in}

-- with an expression behind the others
abbrev behind : TypedExprs ℕ → TypedExpr ℕ → TypedExprs ℕ
behind no_exprs last = expr_then last no_exprs
behind (expr_then expr exprs) last = expr_then expr (behind exprs last)

exprs_behind : (es : List (TypedExpr ℕ)) (e : TypedExpr ℕ) → exprs_of (es ++ e ∷ []) ≡ behind (exprs_of es) e
exprs_behind [] e = refl
exprs_behind (first ∷ es) e = ap (expr_then first) (exprs_behind es e)

-- expressions with their nodes one after another
abbrev pub in_turn : List (Numbered Place (TypedExpr ℕ)) → Numbered Place (TypedExprs ℕ)
in_turn parts = series no_exprs expr_then behind (λ a. refl) (λ a s b. refl) parts

-- one expression more
pub exprs_more : (before between after : Nodes) (values : List Expr) (value : Expr) (parts : List (Numbered Place (TypedExpr ℕ))) (part : Numbered Place (TypedExpr ℕ))
    (so_far whole : Numbered Place (TypedExprs ℕ)) → so_far ≡ in_turn parts → whole ≡ in_turn (parts ++ part ∷ []) →
    IsMade before between (typed_exprs values) so_far → IsMade between after (typed_expr value) part →
    IsMade before after (typed_exprs (values ++ value ∷ [])) whole
exprs_more before between after values value parts part so_far whole is is_whole made next =
    let series_made : IsMade before after (behind (typed_exprs values) (typed_expr value)) (in_turn (parts ++ part ∷ [])) =
    made_more no_exprs expr_then behind (λ a. refl) (λ a s b. refl) before between after (typed_exprs values) (typed_expr value) parts part
    (subst (IsMade before between (typed_exprs values)) is made) next in
    let last : typed_exprs (values ++ value ∷ []) ≡ behind (typed_exprs values) (typed_expr value) =
    ap exprs_of (map-append typed_expr values (value ∷ [])) ∙ exprs_behind (map typed_expr values) (typed_expr value) in
    subst (λ es. IsMade before after es whole) (sym last) (subst (IsMade before after (behind (typed_exprs values) (typed_expr value))) (sym is_whole) series_made)

as_series : (numbers : Numbering) (at : Scope) (trees : List ExprTree) → values_in numbers at (trees_of trees) ≡ in_turn (map (value_in numbers at) trees)
as_series numbers at [] = refl
as_series numbers at (tree ∷ trees) = ap (joined expr_then (value_in numbers at tree)) (as_series numbers at trees)

pub values_more : (numbers : Numbering) (at : Scope) (before between after : Nodes) (values : List Expr) (value : Expr) (trees : List ExprTree) (tree : ExprTree)
    (more : List ExprTree) → more ≡ trees ++ tree ∷ [] →
    IsMade before between (typed_exprs values) (values_in numbers at (trees_of trees)) → IsMade between after (typed_expr value) (value_in numbers at tree) →
    IsMade before after (typed_exprs (values ++ value ∷ [])) (values_in numbers at (trees_of more))
values_more numbers at before between after values value trees tree more is made next =
    exprs_more before between after values value (map (value_in numbers at) trees) (value_in numbers at tree)
    (values_in numbers at (trees_of trees)) (values_in numbers at (trees_of more)) (as_series numbers at trees)
    (ap (λ ts. values_in numbers at (trees_of ts)) is ∙ as_series numbers at (trees ++ tree ∷ []) ∙ ap in_turn (map-append (value_in numbers at) trees (tree ∷ [])))
    made next
