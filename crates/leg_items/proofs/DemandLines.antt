-- Demands under conditions: how the lists of checks are put together.
use Rattle.std.proofs.Common.{◌≡◌, ℕ, List, [], ◌∷◌, ◌++◌, map, refl, ap, ap₂, sym, ◌∙◌, append_assoc, ◌<◌, suc, length, get_or, drop, drop-cons}
use Rattle.std.proofs.lemmas.List.{map-append, append-nil}
use Rattle.slang_values.specs.Tree.{Listed, binary as binary_tree, unary as unary_tree}
use Rattle.slang_values.specs.declared.operators.Unary.{Unary}
use Rattle.slang_values.specs.declared.operators.Binary.{Binary}
use Rattle.slang_tree.specs.declared.expression.Operator.{Operator}
use Rattle.program_trees.specs.Claims.{ClaimTree}
use Rattle.program_trees.specs.Operators.{Evaluated, where_true, where_false, right_evaluated}
use Rattle.program_trees.specs.Programs.{TypedExpr, unary, binary, read, update, listed, TypedExprs, claim_of}
use Rattle.lk_claims.specs.declared.claim.Claim.{Claim}
use Rattle.lk_claims.specs.Claim.{claim_tree}
use Rattle.lk_programs.specs.declared.expression.Expr.{Expr}
use Rattle.lk_programs.specs.Expr.{typed_expr, typed_exprs, exprs_of}
use Rattle.leg_rules.specs.Legs.{Items}
use Rattle.leg_rules.specs.Checks.{Demand, demands, part_demands, argument_demands, guarded, own_division, under}
use Rattle.leg_items.specs.declared.name.Scope.{Scope}
use Rattle.leg_items.specs.declared.name.Frame.TheVariants as f
use Rattle.leg_items.specs.Drafts.{framed_demand}
use Rattle.leg_items.specs.Demands.{implied_by, under_all, demanded_under, range_demand}

pub implied-last : (cs : List (ClaimTree ℕ)) (c claim : ClaimTree ℕ) → implied_by (cs ++ c ∷ []) claim ≡ implied_by cs (binary_tree Binary.Imply c claim)
implied-last [] c claim = refl
implied-last (x ∷ cs) c claim = ap (binary_tree Binary.Imply x) (implied-last cs c claim)

module _ (scope : Scope) where
  pub demanded-append : (cs : List (ClaimTree ℕ)) (xs ys : List (Demand ℕ)) → demanded_under scope cs (xs ++ ys) ≡ demanded_under scope cs xs ++ demanded_under scope cs ys
  demanded-append cs xs ys = map-append (λ d. framed_demand (f.Own scope) (under_all cs d)) xs ys

  -- one condition more at the end is a condition of each demand
  demanded-last : (cs : List (ClaimTree ℕ)) (c : ClaimTree ℕ) (ds : List (Demand ℕ)) → demanded_under scope (cs ++ c ∷ []) ds ≡ demanded_under scope cs (map (under c) ds)
  demanded-last cs c [] = refl
  demanded-last cs c (d ∷ ds) =
      ap₂ (λ claim later. framed_demand (f.Own scope) (record { kind = d.kind; claim = claim; node = d.node }) ∷ later) (implied-last cs c d.claim) (demanded-last cs c ds)

  -- as claims and conditions are held
  pub held-last : (cs : List Claim) (c : Claim) (t : ClaimTree ℕ) (ds : List (Demand ℕ)) → claim_tree c ≡ t →
      demanded_under scope (map claim_tree (cs ++ c ∷ [])) ds ≡ demanded_under scope (map claim_tree cs) (map (under t) ds)
  held-last cs c t ds e =
      ap (λ l. demanded_under scope l ds) (map-append claim_tree cs (c ∷ []) ∙ ap (λ u. map claim_tree cs ++ u ∷ []) e) ∙ demanded-last (map claim_tree cs) t ds

  pub right_under : (cs : List Claim) (c : Claim) (left : ClaimTree ℕ) (given : ClaimTree ℕ) (how evaluated : Evaluated) (ds : List (Demand ℕ)) (old new : Items) →
      ((xs : List (Demand ℕ)) → map (under given) xs ≡ guarded how left xs) → how ≡ evaluated → claim_tree c ≡ given →
      new ≡ old ++ demanded_under scope (map claim_tree (cs ++ c ∷ [])) ds → new ≡ old ++ demanded_under scope (map claim_tree cs) (guarded evaluated left ds)
  right_under cs c left given how evaluated ds old new same e g h =
      h ∙ ap (λ l. old ++ l) (held-last cs c given ds g ∙ ap (demanded_under scope (map claim_tree cs)) (same ds ∙ ap (λ u. guarded u left ds) e))

  -- two lists after another, and three
  pub two : (cs : List (ClaimTree ℕ)) (xs ys all : List (Demand ℕ)) (old first new : Items) → all ≡ xs ++ ys →
      first ≡ old ++ demanded_under scope cs xs → new ≡ first ++ demanded_under scope cs ys → new ≡ old ++ demanded_under scope cs all
  two cs xs ys all old first new e a b =
      b ∙ ap (λ l. l ++ demanded_under scope cs ys) a ∙ append_assoc old (demanded_under scope cs xs) (demanded_under scope cs ys)
      ∙ ap (λ l. old ++ l) (sym (demanded-append cs xs ys) ∙ ap (demanded_under scope cs) (sym e))

  pub three : (cs : List (ClaimTree ℕ)) (xs ys zs all : List (Demand ℕ)) (old first second new : Items) → all ≡ xs ++ (ys ++ zs) →
      first ≡ old ++ demanded_under scope cs xs → second ≡ first ++ demanded_under scope cs ys → new ≡ second ++ demanded_under scope cs zs →
      new ≡ old ++ demanded_under scope cs all
  three cs xs ys zs all old first second new e a b c =
      two cs xs (ys ++ zs) all old first new e a (two cs ys zs (ys ++ zs) first second new refl b c)

  pub four : (cs : List (ClaimTree ℕ)) (xs ys zs us all : List (Demand ℕ)) (old first second third new : Items) → all ≡ xs ++ (ys ++ (zs ++ us)) →
      first ≡ old ++ demanded_under scope cs xs → second ≡ first ++ demanded_under scope cs ys → third ≡ second ++ demanded_under scope cs zs →
      new ≡ third ++ demanded_under scope cs us → new ≡ old ++ demanded_under scope cs all
  four cs xs ys zs us all old first second third new e a b c d =
      two cs xs (ys ++ (zs ++ us)) all old first new e a (three cs ys zs us (ys ++ (zs ++ us)) first second third new refl b c d)

-- ---- the demands of an expression, by its shape

parts_of_list : (es : List Expr) → part_demands (typed_exprs es) ≡ argument_demands (map typed_expr es)
parts_of_list [] = refl
parts_of_list (e ∷ es) = ap (λ l. demands (typed_expr e) ++ l) (parts_of_list es)

pub demands_of_list : (t : TypedExpr ℕ) (node : ℕ) (front : Listed) (es : List Expr) → t ≡ listed node front (typed_exprs es) → demands t ≡ argument_demands (map typed_expr es)
demands_of_list t node front es e = ap demands e ∙ parts_of_list es

pub argument_demands-append : (xs ys : List (TypedExpr ℕ)) → argument_demands (xs ++ ys) ≡ argument_demands xs ++ argument_demands ys
argument_demands-append [] ys = refl
argument_demands-append (x ∷ xs) ys = ap (λ l. demands x ++ l) (argument_demands-append xs ys) ∙ sym (append_assoc (demands x) (argument_demands xs) (argument_demands ys))

-- ---- conditions, from the last to the first

pub implied-step : (cs : List Claim) (j : ℕ) (d : Claim) (condition later shown : ClaimTree ℕ) → j < length cs → condition ≡ claim_tree (get_or cs j d) →
    later ≡ implied_by (map claim_tree (drop (suc j) cs)) shown → binary_tree Binary.Imply condition later ≡ implied_by (map claim_tree (drop j cs)) shown
implied-step cs j d condition later shown h e k =
    ap₂ (binary_tree Binary.Imply) e k ∙ sym (ap (λ l. implied_by (map claim_tree l) shown) (drop-cons cs j d h))

pub one_more : (xs : List (TypedExpr ℕ)) (x : TypedExpr ℕ) (all : List (TypedExpr ℕ)) → all ≡ xs ++ x ∷ [] → argument_demands all ≡ argument_demands xs ++ demands x
one_more xs x all e =
    ap argument_demands e ∙ argument_demands-append xs (x ∷ []) ∙ ap (λ l. argument_demands xs ++ l) (append-nil (demands x))
