-- Bytes one after the other, and the bytes of lists.
use Rattle.std.proofs.Common.{◌≡◌, ℕ, suc, List, [], ◌∷◌, ◌++◌, length, map, append_assoc, refl, sym, ap, ◌∙◌}
use Rattle.std.specs.List.{flat_map}
use Rattle.std.proofs.lemmas.List.{length-map}
use Rattle.std.proofs.lemmas.List.Concat.{flat_map-cons}
use Rattle.slang_values.specs.Tree.{tree_list}
use Rattle.key_rules.specs.Writing.{number_bytes, list_bytes, type_bytes, parts_bytes, step_list, steps_bytes, item_bytes, encode}
use Rattle.lk_claims.specs.declared.claim.Claim.{Claim}
use Rattle.lk_claims.specs.declared.step.ProofStep.{ProofStep}
use Rattle.lk_claims.specs.declared.ty.Ty.{Ty}
use Rattle.lk_claims.specs.Claim.{value_type, claim_trees}
use Rattle.lk_claims.specs.Step.{step_trees}
use Rattle.lk_programs.specs.declared.leg.Item.{Item}
use Rattle.lk_programs.specs.declared.leg.Leg.{Leg}
use Rattle.lk_programs.specs.LegData.{item_tree, leg_tree}
use Rattle.leg_key.specs.Parts.{type_key, fields_key, claim_key, step_key, item_key}

-- what was added, and then more
pub then_bytes : (old middle new a b : List ℕ) → middle ≡ old ++ a → new ≡ middle ++ b → new ≡ old ++ (a ++ b)
then_bytes old middle new a b h k = k ∙ ap (λ l. l ++ b) h ∙ append_assoc old a b

-- the same bytes said otherwise
pub said : (old new a b : List ℕ) → new ≡ old ++ a → a ≡ b → new ≡ old ++ b
said old new a b h e = h ∙ ap (λ l. old ++ l) e

-- ---- lists over other members

flat_map-map : {A B : Type 0} (f : B → List ℕ) (g : A → B) (xs : List A) → flat_map f (map g xs) ≡ flat_map (λ x. f (g x)) xs
flat_map-map f g [] = refl
flat_map-map f g (x ∷ xs) =
    flat_map-cons f (g x) (map g xs) ∙ ap (λ l. f (g x) ++ l) (flat_map-map f g xs) ∙ sym (flat_map-cons (λ x. f (g x)) x xs)

list_bytes-map : {A B : Type 0} (f : B → List ℕ) (g : A → B) (xs : List A) → list_bytes f (map g xs) ≡ list_bytes (λ x. f (g x)) xs
list_bytes-map f g xs =
    ap (λ n. number_bytes n ++ flat_map f (map g xs)) (length-map xs g) ∙ ap (λ l. number_bytes (length xs) ++ l) (flat_map-map f g xs)

pub parts_count : (claims : List Claim) → length claims ≡ length (tree_list (claim_trees claims))
parts_count [] = refl
parts_count (c ∷ cs) = ap (λ n. suc n) (parts_count cs)

parts_flat : (claims : List Claim) → flat_map claim_key claims ≡ parts_bytes (claim_trees claims)
parts_flat [] = refl
parts_flat (c ∷ cs) = flat_map-cons claim_key c cs ∙ ap (λ l. claim_key c ++ l) (parts_flat cs)

-- the parts of a claim
pub parts_key : (claims : List Claim)
    → list_bytes claim_key claims ≡ number_bytes (length (tree_list (claim_trees claims))) ++ parts_bytes (claim_trees claims)
parts_key claims =
    ap (λ n. number_bytes n ++ flat_map claim_key claims) (parts_count claims)
    ∙ ap (λ l. number_bytes (length (tree_list (claim_trees claims))) ++ l) (parts_flat claims)

pub steps_count : (steps : List ProofStep) → length steps ≡ length (step_list (step_trees steps))
steps_count [] = refl
steps_count (step ∷ steps) = ap (λ n. suc n) (steps_count steps)

steps_flat : (steps : List ProofStep) → flat_map step_key steps ≡ steps_bytes (step_trees steps)
steps_flat [] = refl
steps_flat (step ∷ steps) = flat_map-cons step_key step steps ∙ ap (λ l. step_key step ++ l) (steps_flat steps)

-- the steps of a block
pub steps_key : (steps : List ProofStep) → list_bytes step_key steps ≡ number_bytes (length (step_list (step_trees steps))) ++ steps_bytes (step_trees steps)
steps_key steps =
    ap (λ n. number_bytes n ++ flat_map step_key steps) (steps_count steps)
    ∙ ap (λ l. number_bytes (length (step_list (step_trees steps))) ++ l) (steps_flat steps)

types_key : (types : List Ty) → list_bytes type_bytes (map value_type types) ≡ list_bytes type_key types
types_key types = list_bytes-map type_bytes value_type types

flat_map-same : {A : Type 0} (f g : A → List ℕ) → ((x : A) → f x ≡ g x) → (xs : List A) → flat_map f xs ≡ flat_map g xs
flat_map-same f g h [] = refl
flat_map-same f g h (x ∷ xs) =
    flat_map-cons f x xs ∙ ap (λ l. l ++ flat_map f xs) (h x) ∙ ap (λ l. g x ++ l) (flat_map-same f g h xs) ∙ sym (flat_map-cons g x xs)

records_key : (records : List (List Ty)) → list_bytes (list_bytes type_bytes) (map (map value_type) records) ≡ list_bytes fields_key records
records_key records =
    list_bytes-map (list_bytes type_bytes) (map value_type) records
    ∙ ap (λ l. number_bytes (length records) ++ l)
    (flat_map-same (λ types. list_bytes type_bytes (map value_type types)) fields_key types_key records)

-- the key, by the parts that the code adds
pub whole_key : (leg : Leg) (records : List (List Ty)) (types : List Ty) (items : List Item) → records ≡ leg.records → types ≡ leg.vars → items ≡ leg.items
    → 1 ∷ (list_bytes fields_key records ++ (list_bytes type_key types ++ list_bytes item_key items)) ≡ encode (leg_tree leg)
whole_key leg records types items e f g =
    ap (λ l. 1 ∷ (l ++ (list_bytes type_key types ++ list_bytes item_key items)))
    (ap (list_bytes fields_key) e ∙ sym (records_key leg.records))
    ∙ ap (λ l. 1 ∷ (list_bytes (list_bytes type_bytes) (map (map value_type) leg.records) ++ (l ++ list_bytes item_key items)))
    (ap (list_bytes type_key) f ∙ sym (types_key leg.vars))
    ∙ ap (λ l. 1 ∷ (list_bytes (list_bytes type_bytes) (map (map value_type) leg.records) ++ (list_bytes type_bytes (map value_type leg.vars) ++ l)))
    (ap (list_bytes item_key) g ∙ sym (list_bytes-map item_bytes item_tree leg.items))
