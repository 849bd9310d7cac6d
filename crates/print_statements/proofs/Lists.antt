-- Lists, names, labels and claims that are printed.
use Rattle.std.proofs.Common.{Bool, ◌≡◌, ℕ, ◌^◌, ◌<◌, nat_lt, ◌&&◌, List, [], ◌∷◌, map, length, Option, Some, None, refl, sym, ap, ◌∙◌, subst, arith, ltb-true}
use Rattle.std.specs.List.{AllByRecursion}
use Rattle.std.proofs.lemmas.List.{length-map}
use Rattle.std.proofs.lemmas.Bool.{and_parts}
use Rattle.slang_lexer.specs.Next.{value_of as number_value}
use Rattle.slang_tree.specs.declared.expression.Name.{Name}
use Rattle.slang_tree.specs.ExprTree.{ExprTree, exprs_of, expr_list}
use Rattle.slang_tree.specs.ExprTree as e
use Rattle.slang_grammar.specs.Parts.{members, HasMember, IsPlain, is_numeral, LabelText, IsLabel, label_tree, IfWritten, TypedText, IsTyped, typed_tree}
use Rattle.slang_grammar.specs.Expressions.{ExprsText, no_exprs, last_expr, expr_then, AreGrouped, expr_tree, exprs_tree, expr_trees}
use Rattle.slang_grammar.specs.Statements.{ClaimsBehind, no_claims, claims_behind, AreClaimsBehind, claims_behind_trees}
use Rattle.std.specs.Option.{option_map}
use Rattle.print_expressions.specs.Bare.{nowhere, bare_name, bare_type, bare_expr, bare_exprs}
use Rattle.print_expressions.specs.Accounts.{numeral, exprs_account}
use Rattle.print_expressions.proofs.Numerals.{numerals_read_back}
use Rattle.print_expressions.proofs.Back.{type_back, expression_lists_read_back}
use Rattle.print_statements.specs.Bare.{bare_label}
use Rattle.print_statements.specs.Accounts.{listed_of, typed_account, label_account, claims_account}

-- ---- lists

pub listed_members : {A : Type 0} (xs : List A) → members (listed_of xs) ≡ xs
listed_members [] = refl
listed_members (x ∷ []) = refl
listed_members (x ∷ y ∷ xs) = ap (λ ys. x ∷ ys) (listed_members (y ∷ xs))

pub listed_has : {A : Type 0} (xs : List A) → 0 < length xs → HasMember (listed_of xs)
listed_has xs h = subst (λ ys. 0 < length ys) (sym (listed_members xs)) h

pub listed_all : {A : Type 0} (P : A → Type 0) (xs : List A) → AllByRecursion P xs → AllByRecursion P (members (listed_of xs))
listed_all P xs h = subst (AllByRecursion P) (sym (listed_members xs)) h

pub map_all : {A B : Type 0} (P : A → Type 0) (Q : B → Type 0) (f : A → B) → ((x : A) → P x → Q (f x)) → (xs : List A) →
    AllByRecursion P xs → AllByRecursion Q (map f xs)
map_all P Q f more [] h = tt
map_all P Q f more (x ∷ xs) h = (more x h.0, map_all P Q f more xs h.1)

pub names_plain : (names : List Name) → AllByRecursion IsPlain names → AllByRecursion IsPlain (members (listed_of (map bare_name names)))
names_plain names h = listed_all IsPlain (map bare_name names) (map_all IsPlain IsPlain bare_name (λ n plain. plain) names h)

pub names_some : (names : List Name) → 0 < length names → HasMember (listed_of (map bare_name names))
names_some names h = listed_has (map bare_name names) (subst (λ n. 0 < n) (sym (length-map names bare_name)) h)

-- ---- labels

pub label_back : (text : LabelText) → IsLabel text → IsLabel (label_account (label_tree text)) × (label_tree (label_account (label_tree text)) ≡ bare_label (label_tree text))
label_back text h =
    let n = number_value text.digits in
    let p = and_parts (is_numeral text.digits) (nat_lt n (2 ^ 32)) h in
    let small = ltb-true n (2 ^ 32) p.1 in
    let q = numerals_read_back n (below n small) in (
      ap (λ b. b && nat_lt (number_value (numeral n)) (2 ^ 32)) q.0 ∙ ap (λ v. nat_lt v (2 ^ 32)) q.1 ∙ p.1,
      ap (λ v. record { place = nowhere; number = v }) q.1,
    )
  where
    below : (n : ℕ) → n < 2 ^ 32 → n < 2 ^ 127
    below n h = omega arith

-- ---- types

pub typed_back : (ty : Option TypedText) → IfWritten IsTyped ty →
    IfWritten IsTyped (option_map typed_account (option_map typed_tree ty))
    × (option_map typed_tree (option_map typed_account (option_map typed_tree ty)) ≡ option_map bare_type (option_map typed_tree ty))
typed_back None h = (tt, refl)
typed_back (Some ty) h = let p = type_back ty.ty h in (p.0, ap Some p.1)

-- ---- claims

pub trees_of_list : (texts : ExprsText) → exprs_of (expr_trees texts) ≡ exprs_tree texts
trees_of_list no_exprs = refl
trees_of_list (last_expr text) = refl
trees_of_list (expr_then text comma more) = ap (e.expr_then (expr_tree text)) (trees_of_list more)

list_of_trees : (texts : ExprsText) → expr_trees texts ≡ expr_list (exprs_tree texts)
list_of_trees no_exprs = refl
list_of_trees (last_expr text) = refl
list_of_trees (expr_then text comma more) = ap (λ ts. expr_tree text ∷ ts) (list_of_trees more)

bare_list : (claims : List ExprTree) → expr_list (bare_exprs (exprs_of claims)) ≡ map bare_expr claims
bare_list [] = refl
bare_list (claim ∷ claims) = ap (λ ts. bare_expr claim ∷ ts) (bare_list claims)

module _ (light : Bool) where
  pub expressions_back : (texts : ExprsText) → AreGrouped texts →
      AreGrouped (exprs_account light (exprs_of (expr_trees texts))) × (expr_trees (exprs_account light (exprs_of (expr_trees texts))) ≡ map bare_expr (expr_trees texts))
  expressions_back texts g =
      let p = expression_lists_read_back light texts g in
      let same = trees_of_list texts in (
        subst (λ ts. AreGrouped (exprs_account light ts)) (sym same) p.0,
        list_of_trees (exprs_account light (exprs_of (expr_trees texts)))
            ∙ ap (λ ts. expr_list (exprs_tree (exprs_account light ts))) same ∙ ap expr_list p.1 ∙ ap (λ ts. expr_list (bare_exprs ts)) (sym same)
            ∙ bare_list (expr_trees texts),
      )

  pub claims_back : (behind : ClaimsBehind) → AreClaimsBehind behind →
      AreClaimsBehind (claims_account light (claims_behind_trees behind))
      × (claims_behind_trees (claims_account light (claims_behind_trees behind)) ≡ map bare_expr (claims_behind_trees behind))
  claims_back no_claims g = (tt, refl)
  claims_back (claims_behind comma texts) g = at (expr_trees texts) (expressions_back texts g)
    where
      at : (claims : List ExprTree) → AreGrouped (exprs_account light (exprs_of claims)) × (expr_trees (exprs_account light (exprs_of claims)) ≡ map bare_expr claims) →
          AreClaimsBehind (claims_account light claims) × (claims_behind_trees (claims_account light claims) ≡ map bare_expr claims)
      at [] p = (tt, refl)
      at (claim ∷ claims) p = p
