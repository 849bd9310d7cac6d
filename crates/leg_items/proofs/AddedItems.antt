-- What is added, as the items that are meant.
use Rattle.std.proofs.Common.{◌≡◌, ℕ, List, [], ◌∷◌, ◌++◌, map, refl, ap, ap₂, sym, ◌∙◌, append_assoc}
use Rattle.std.proofs.lemmas.List.{map-append}
use Rattle.program_trees.specs.Claims.{ClaimTree, renamed_claim, renamed_steps, ProofStepTrees}
use Rattle.program_trees.specs.Legs.{check, set, NotedItem}
use Rattle.program_trees.specs.Programs.{TypedExpr, claim_of, renamed_expr}
use Rattle.leg_rules.specs.LegNames.{LegName, own}
use Rattle.leg_rules.specs.Legs.{Items, at_node, own_claim, demanded, set_items}
use Rattle.leg_rules.specs.Checks.{Demand, demands}
use Rattle.leg_items.specs.declared.name.Scope.{Scope}
use Rattle.leg_items.specs.declared.name.Frame.TheVariants as f
use Rattle.leg_items.specs.Names.{kind_of}
use Rattle.leg_items.specs.declared.draft.DraftItem.{DraftItem}
use Rattle.leg_items.specs.Drafts.{framed, noted_item, items_of}
use Rattle.leg_items.specs.Demands.{demanded_under}
use Rattle.leg_items.proofs.Renaming.{renamed-renamed, renamed_steps-twice, claim_of-renamed, renamed_demand, demands-renamed}

module _ (scope : Scope) where
  -- a claim over the method's variables, as it stands on the leg
  pub own_framed : (t : ClaimTree ℕ) → own_claim (renamed_claim (kind_of scope) t) ≡ framed (f.Own scope) t
  own_framed t = renamed-renamed own (kind_of scope) t

  pub own_expr : (e : TypedExpr ℕ) → own_claim (claim_of (renamed_expr (kind_of scope) e)) ≡ framed (f.Own scope) (claim_of e)
  own_expr e = ap own_claim (claim_of-renamed (kind_of scope) e) ∙ own_framed (claim_of e)

  pub own_steps : (steps : ProofStepTrees ℕ) → renamed_steps own (renamed_steps (kind_of scope) steps) ≡ renamed_steps (λ n. own (kind_of scope n)) steps
  own_steps steps = renamed_steps-twice own (kind_of scope) steps

  pub own_demands : (ds : List (Demand ℕ)) → demanded (map (renamed_demand (kind_of scope)) ds) ≡ demanded_under scope [] ds
  own_demands [] = refl
  own_demands (d ∷ ds) =
      ap₂ (λ claim later. at_node d.node (check d.kind claim) ∷ later) (own_framed d.claim) (own_demands ds)

  pub demanded_is : (e : TypedExpr ℕ) (old new : Items) → new ≡ old ++ demanded_under scope [] (demands e) → new ≡ old ++ demanded (demands (renamed_expr (kind_of scope) e))
  demanded_is e old new h = h ∙ ap (λ l. old ++ l) (sym (ap demanded (demands-renamed (kind_of scope) e) ∙ own_demands (demands e)))

  pub set_is : (node target : ℕ) (e : TypedExpr ℕ) (t : ClaimTree ℕ) (old middle new : Items) →
      middle ≡ old ++ demanded (demands (renamed_expr (kind_of scope) e)) →
      new ≡ middle ++ at_node node (set (own (kind_of scope target)) (framed (f.Own scope) t)) ∷ [] →
      t ≡ claim_of e → new ≡ old ++ set_items node (kind_of scope target) (renamed_expr (kind_of scope) e)
  set_is node target e t old middle new a b h =
      let checks : Items = demanded (demands (renamed_expr (kind_of scope) e)) in
      let last : Items = at_node node (set (own (kind_of scope target)) (framed (f.Own scope) t)) ∷ [] in
      b ∙ ap (λ l. l ++ last) a ∙ append_assoc old checks last
      ∙ ap (λ u. old ++ (checks ++ at_node node (set (own (kind_of scope target)) u) ∷ [])) (ap (framed (f.Own scope)) h ∙ sym (own_expr e))

-- an item that is pushed is added
pub pushed : (old new : List DraftItem) (item : DraftItem) (x : NotedItem LegName) → new ≡ old ++ item ∷ [] → noted_item item ≡ x → items_of new ≡ items_of old ++ x ∷ []
pushed old new item x e h = ap items_of e ∙ map-append noted_item old (item ∷ []) ∙ ap (λ y. items_of old ++ y ∷ []) h
