-- An expression of the text that has a type, as a claim has that type.
use Rattle.std.proofs.Common.{◌≡◌, ◌⊎◌, inl, inr, ℕ, Bool, true, false, cond, List, [], ◌∷◌, ◌++◌, find, bytes_eq, Some, None, unwrap_or, option_map, ⊎_elim, refl, ap}
use Rattle.slang_values.specs.Value.{ValueType, Records}
use Rattle.slang_values.specs.Typing.{NameTypes}
use Rattle.slang_tree.specs.ExprTree.{ExprTree, ExprTrees, no_exprs, expr_then}
use Rattle.slang_tree.specs.ExprTree as e
use Rattle.program_trees.specs.Claims.{ClaimName}
use Rattle.program_trees.specs.Variables.{Variable, global}
use Rattle.type_rules.specs.Meanings.{Meaning, variable, bound_variable, block_variable, record_class, Declared, declared, Scope, meaning_among, meaning_of, with_bound}
use Rattle.type_rules.specs.Judged.{are_typed, known_type}
use Rattle.type_rules.specs.Expressions.{Context, judged_new, callee, written_types, judged, judged_each}
use Rattle.typed_texts.specs.Claims.{claim_of_tree, claims_of_trees}
use Rattle.claim_typing.specs.Fits.{FitsScope, ClaimsAreTyped}
use Rattle.claim_typing.proofs.Parts.{inside, none_is_some, first_typed}
use Rattle.claim_typing.proofs.ClaimParts.{Good, Goods, at, meaning-good, result-good, entry-good, old-good, minus-good, negation-good, binary-good}
use Rattle.claim_typing.proofs.ClaimForms.{applied-good, update-good, field-good, listed-good, quantified-good, indices-good}

-- ---- names behind others

-- what is found among names with one more is found among them, or is that one
pub meant-behind : (names : List Declared) (d : Declared) (text : List ℕ) (m : Meaning) → meaning_among (names ++ d ∷ []) text ≡ Some m →
    (meaning_among names text ≡ Some m) ⊎ (d.meaning ≡ m)
meant-behind [] d text m h = last (bytes_eq d.text text) h
  where
    last : (here : Bool) → option_map (λ n. n.meaning) (cond here (Some d) None) ≡ Some m → (None ≡ Some m) ⊎ (d.meaning ≡ m)
    last true k = inr (ap (λ o. unwrap_or o m) k)
    last false k = none_is_some k
meant-behind (first ∷ names) d text m h = at (bytes_eq first.text text) h (meant-behind names d text m)
  where
    at : (here : Bool) → option_map (λ n. n.meaning) (cond here (Some first) (find (λ n. bytes_eq n.text text) (names ++ d ∷ []))) ≡ Some m →
        (meaning_among (names ++ d ∷ []) text ≡ Some m → (meaning_among names text ≡ Some m) ⊎ (d.meaning ≡ m)) →
        (option_map (λ n. n.meaning) (cond here (Some first) (find (λ n. bytes_eq n.text text) names)) ≡ Some m) ⊎ (d.meaning ≡ m)
    at true k next = inl k
    at false k next = next k

module _ (records : Records) (types : NameTypes (ClaimName Variable)) where
  -- ---- all forms

  -- a scope with the variable of a quantifier fits too
  fits-bound : (context : Context) (scope : Scope) (text : List ℕ) → FitsScope records types context scope →
      FitsScope records types context (with_bound scope text)
  fits-bound context scope text fits = record {
    variables = λ other x is_var t h. ⊎_elim (fits.variables other x is_var t)
        (λ k. absurd (let d : bound_variable scope.depth ≡ variable x is_var (Some t) = k in cc)) (behind other (variable x is_var (Some t)) h);
    entries = λ other n t h. ⊎_elim (fits.entries other n t)
        (λ k. absurd (let d : bound_variable scope.depth ≡ variable (global n) true (Some t) = k in cc)) (behind other (variable (global n) true (Some t)) h);
    olds = λ other x t h. ⊎_elim (fits.olds other x t)
        (λ k. absurd (let d : bound_variable scope.depth ≡ variable x true (Some t) = k in cc)) (behind other (variable x true (Some t)) h);
    blocks = λ other label h. ⊎_elim (fits.blocks other label)
        (λ k. absurd (let d : bound_variable scope.depth ≡ block_variable label = k in cc)) (behind other (block_variable label) h);
    classes = λ other n h. ⊎_elim (fits.classes other n)
        (λ k. absurd (let d : bound_variable scope.depth ≡ record_class n = k in cc)) (behind other (record_class n) h);
    result = fits.result;
    same_fields = fits.same_fields;
    known_fields = fits.known_fields;
  }
    where
      behind : (other : List ℕ) (m : Meaning) → meaning_of (with_bound scope text) other ≡ Some m →
          (meaning_of scope other ≡ Some m) ⊎ (bound_variable scope.depth ≡ m)
      behind other m h = meant-behind scope.names (declared text (bound_variable scope.depth)) other m h

  mutual
    pub good : (context : Context) (scope : Scope) → FitsScope records types context scope → (tree : ExprTree) → (t : ValueType) →
        (judged scope context tree).type ≡ Some t → Good records types (claim_of_tree scope context tree) t
    good context scope fits (e.number place z) t h = at records types (inside h) (record { typed = refl; known = refl; elements = refl })
    good context scope fits (e.truth place) t h = at records types (inside h) (record { typed = refl; known = refl; elements = refl })
    good context scope fits (e.falsity place) t h = at records types (inside h) (record { typed = refl; known = refl; elements = refl })
    good context scope fits (e.name text place) t h =
        meaning-good records types scope place scope.depth (meaning_of scope text) (fits.variables text) (fits.blocks text) t h
    good context scope fits (e.result place ty) t h = result-good records types context fits.result place (written_types scope ty) t h
    good context scope fits (e.entry_value place written) t h =
        entry-good records types context place written.place (meaning_of scope written.text) (fits.entries written.text) t h
    good context scope fits (e.old_value place written) t h =
        old-good records types context place written.place (meaning_of scope written.text) (fits.olds written.text) t h
    good context scope fits (e.minus place operand) t h =
        minus-good records types place (judged scope context operand) (claim_of_tree scope context operand) (good context scope fits operand) t h
    good context scope fits (e.negation place operand) t h =
        negation-good records types place (judged scope context operand) (claim_of_tree scope context operand) (good context scope fits operand) t h
    good context scope fits (e.binary place operator left right) t h =
        binary-good records types place operator (judged scope context left) (judged scope context right) (claim_of_tree scope context left)
        (claim_of_tree scope context right) (good context scope fits left) (good context scope fits right) t h
    good context scope fits (e.application place head arguments) t h =
        applied-good records types scope context place head (callee scope head) (judged scope context head) (claim_of_tree scope context head)
        (claims_of_trees scope context arguments) (judged_each scope context arguments) fits.classes fits.same_fields refl
        (good context scope fits head) (goods context scope fits arguments) t h
    good context scope fits (e.update place head index element) t h =
        update-good records types place (judged scope context head) (judged scope context index) (judged scope context element) (claim_of_tree scope context head)
        (claim_of_tree scope context index) (claim_of_tree scope context element) (good context scope fits head) (good context scope fits index)
        (good context scope fits element) t h
    good context scope fits (e.field place head written) t h =
        field-good records types scope place (judged scope context head) (claim_of_tree scope context head) written fits.same_fields fits.known_fields
        (good context scope fits head) t h
    good context scope fits (e.sequence place ty elements) t h =
        listed-good records types scope fits.classes place ty (claims_of_trees scope context elements) (judged_each scope context elements)
        (goods context scope fits elements) t h
    good context scope fits (e.quantified place quantifier low high named body) t h =
        quantified-good records types context place quantifier (judged scope context low) (judged scope context high) (judged_new scope named)
        (judged (with_bound scope named.text) context body) (claim_of_tree scope context low) (claim_of_tree scope context high)
        (claim_of_tree (with_bound scope named.text) context body) (good context scope fits low) (good context scope fits high)
        (good context (with_bound scope named.text) (fits-bound context scope named.text fits) body) t h
    good context scope fits (e.quantified_indices place quantifier head named body) t h =
        indices-good records types context place quantifier (judged scope context head) (judged_new scope named)
        (judged (with_bound scope named.text) context body) (claim_of_tree scope context head)
        (claim_of_tree (with_bound scope named.text) context body) (good context scope fits head)
        (good context (with_bound scope named.text) (fits-bound context scope named.text fits) body) t h

    pub goods : (context : Context) (scope : Scope) → FitsScope records types context scope → (trees : ExprTrees) →
        are_typed (judged_each scope context trees) ≡ true → Goods records types (claims_of_trees scope context trees) (judged_each scope context trees)
    goods context scope fits no_exprs h = tt
    goods context scope fits (expr_then tree trees) h =
        let p = first_typed (judged scope context tree) (judged_each scope context trees) h in
        (good context scope fits tree (known_type (judged scope context tree)) p.0, goods context scope fits trees p.1)

pub claims_typed : ClaimsAreTyped
claims_typed records types context scope fits tree t h = (good records types context scope fits tree t h).typed
