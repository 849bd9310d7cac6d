-- What each form of statement adds, as the items that are meant.
use Rattle.std.proofs.Common.{◌≡◌, ℕ, List, [], ◌∷◌, ◌++◌, map, refl, ap, ap₂, sym, ◌∙◌, append_assoc}
use Rattle.program_trees.specs.declared.answer.Kind.{Kind}
use Rattle.program_trees.specs.declared.answer.Kind.TheVariants as kinds
use Rattle.program_trees.specs.Claims.{ClaimTree, NotedTree, renamed_claim, renamed_noted}
use Rattle.program_trees.specs.Legs.{assume, check, set, fresh}
use Rattle.program_trees.specs.Programs.{TypedExpr, claim_of, renamed_expr}
use Rattle.program_trees.specs.Variables.{Variable, result}
use Rattle.lk_programs.specs.declared.program.Noted.{Noted}
use Rattle.lk_programs.specs.Program.{noted_tree}
use Rattle.leg_rules.specs.LegNames.{LegName, own}
use Rattle.leg_rules.specs.Legs.{Items, at_node, own_claim, own_claims, assumed, checked, demanded, set_items, assert_items, loop_items, test_items}
use Rattle.leg_rules.specs.Checks.{demands}
use Rattle.leg_items.specs.declared.name.Scope.{Scope}
use Rattle.leg_items.specs.declared.name.Frame.TheVariants as f
use Rattle.leg_items.specs.Names.{kind_of}
use Rattle.leg_items.specs.Drafts.{framed, framed_assumption, framed_check}
use Rattle.leg_items.proofs.AddedItems.{own_expr, own_framed}
use Rattle.call_items.specs.Frames.{claims_in}

module _ (scope : Scope) where
  pub own_checked : (kind : Kind) (claims : List Noted) →
      map (λ noted. framed_check kind (f.Own scope) (noted_tree noted)) claims ≡ checked kind (own_claims (claims_in scope claims))
  own_checked kind [] = refl
  own_checked kind (claim ∷ claims) =
      ap₂ (λ t later. at_node (noted_tree claim).node (check kind t) ∷ later) (sym (own_framed scope (noted_tree claim).claim)) (own_checked kind claims)

  pub own_assumed : (claims : List Noted) →
      map (λ noted. framed_assumption (f.Own scope) (noted_tree noted)) claims ≡ assumed (own_claims (claims_in scope claims))
  own_assumed [] = refl
  own_assumed (claim ∷ claims) =
      ap₂ (λ t later. at_node (noted_tree claim).node (assume t) ∷ later) (sym (own_framed scope (noted_tree claim).claim)) (own_assumed claims)

  pub asserted : (noted : Noted) (t : ClaimTree ℕ) → t ≡ (noted_tree noted).claim →
      at_node noted.node.0 (check kinds.Assert (framed (f.Own scope) t)) ∷ [] ≡ assert_items (renamed_noted (kind_of scope) (noted_tree noted))
  asserted noted t e = ap (λ u. at_node noted.node.0 (check kinds.Assert u) ∷ []) (ap (framed (f.Own scope)) e ∙ sym (own_framed scope (noted_tree noted).claim))

  pub returned : (node : ℕ) (e : TypedExpr ℕ) (t : ClaimTree ℕ) (old middle new : Items) →
      middle ≡ old ++ demanded (demands (renamed_expr (kind_of scope) e)) → new ≡ middle ++ at_node node (set (own result) (framed (f.Own scope) t)) ∷ [] → t ≡ claim_of e →
      new ≡ old ++ set_items node result (renamed_expr (kind_of scope) e)
  returned node e t old middle new a b h =
      let checks : Items = demanded (demands (renamed_expr (kind_of scope) e)) in
      let last : Items = at_node node (set (own result) (framed (f.Own scope) t)) ∷ [] in
      b ∙ ap (λ l. l ++ last) a ∙ append_assoc old checks last
      ∙ ap (λ u. old ++ (checks ++ at_node node (set (own result) u) ∷ [])) (ap (framed (f.Own scope)) h ∙ sym (own_expr scope e))

-- the start of a loop
pub loop_is : (node : ℕ) (test : TypedExpr Variable) (modifies : List Variable) (invariants : List (NotedTree Variable)) (names : List LegName) (x0 x1 x2 x3 x4 : Items) →
    x1 ≡ x0 ++ checked kinds.InvStart (own_claims invariants) → names ≡ map own modifies → x2 ≡ x1 ++ at_node node (fresh names) ∷ [] →
    x3 ≡ x2 ++ assumed (own_claims invariants) → x4 ≡ x3 ++ demanded (demands test) → x4 ≡ x0 ++ loop_items node test modifies invariants
loop_is node test modifies invariants names x0 x1 x2 x3 x4 e1 e e2 e3 e4 =
    let a : Items = checked kinds.InvStart (own_claims invariants) in
    let b : Items = at_node node (fresh (map own modifies)) ∷ [] in
    let c : Items = assumed (own_claims invariants) in
    let d : Items = test_items test in
    let s2 : x2 ≡ (x0 ++ a) ++ b = e2 ∙ ap₂ (λ x y. x ++ at_node node (fresh y) ∷ []) e1 e in
    let s3 : x3 ≡ ((x0 ++ a) ++ b) ++ c = e3 ∙ ap (λ x. x ++ c) s2 in
    e4 ∙ ap (λ x. x ++ d) s3 ∙ append_assoc ((x0 ++ a) ++ b) c d ∙ append_assoc (x0 ++ a) b (c ++ d) ∙ append_assoc x0 a (b ++ (c ++ d))
