-- Claims that are made one after another, and forms over them.
use Rattle.std.proofs.Common.{◌≡◌, ℕ, pos, Result, Ok, List, [], ◌∷◌, ◌++◌, map, refl, sym, ap, ap₂, ◌∙◌, subst}
use Rattle.std.specs.Prelude.{IfOk, OnOk}
use Rattle.std.specs.Option.{option_map}
use Rattle.std.proofs.lemmas.List.{map-append}
use Rattle.std.proofs.lemmas.Result.{IfOk-at_ok, IfOk-weaker}
use Rattle.slang_values.specs.Value.{ValueType}
use Rattle.slang_values.specs.Tree.{literal, name, binary, unary, listed, Trees, no_trees, tree_then, sequence_of, record_of}
use Rattle.slang_values.specs.declared.operators.Unary.{Unary}
use Rattle.slang_values.specs.declared.operators.Binary.{Binary}
use Rattle.slang_tree.specs.declared.expression.Expr.{Expr}
use Rattle.slang_tree.specs.ExprTree.{ExprTree, expr_tree, exprs_of}
use Rattle.validity.specs.Bind.{bind_all}
use Rattle.program_trees.specs.Claims.{ClaimName, ClaimTree, renamed_name}
use Rattle.program_trees.specs.Variables.{Variable}
use Rattle.lk_claims.specs.declared.claim.Claim.{Claim}
use Rattle.lk_claims.specs.declared.ty.Ty.{Ty}
use Rattle.lk_claims.specs.Claim.{claim_tree, claim_trees, trees_of, value_type}
use Rattle.lk_programs.specs.declared.program.RecordTy.{RecordTy}
use Rattle.type_rules.specs.Meanings.{Scope, Signature, record_class, method}
use Rattle.type_rules.specs.Expressions.{Context, Callee, a_value, a_record, a_method, callee, callee_meant}
use Rattle.typed_texts.specs.Claims.{claim_applied, claim_of_tree, claims_of_trees, first_claim}
use Rattle.name_scopes.specs.declared.scope.NameScope.{NameScope}
use Rattle.name_scopes.specs.Fits.{Fits}
use Rattle.typed_names.specs.declared.variables.Numbering.{Numbering}
use Rattle.typed_names.specs.Variables.{number_in}
use Rattle.typed_names.specs.Fields.{HasFields}
use Rattle.typed_parts.specs.declared.heads.Head.{Head}
use Rattle.typed_parts.specs.declared.heads.Head.TheVariants as h
use Rattle.typed_parts.specs.Heads.{IsHead, head_meaning, method_in}
use Rattle.typed_parts.proofs.Callees.{callee_is, method_found}
use Rattle.claim_making.specs.Parts.{FromTwo}
use Rattle.claim_making.specs.Made.{AreClaims, IsClaim, applied_tree, first_tree, numbered}

abbrev all_numbered : Numbering → Trees (ClaimName Variable) → Trees (ClaimName ℕ)
all_numbered numbers trees = bind_all (λ a. name (renamed_name (number_in numbers) a)) trees

-- the claims of expressions, over numbers
abbrev pub made_each : Numbering → Scope → Context → List Expr → List (ClaimTree ℕ)
made_each numbers at context exprs = map (λ (e : Expr). numbered numbers (claim_of_tree at context (expr_tree e))) exprs

pub each_tree : (numbers : Numbering) (at : Scope) (context : Context) (exprs : List Expr) →
    trees_of (made_each numbers at context exprs) ≡ all_numbered numbers (claims_of_trees at context (exprs_of (map expr_tree exprs)))
each_tree numbers at context [] = refl
each_tree numbers at context (e ∷ exprs) = ap (tree_then (numbered numbers (claim_of_tree at context (expr_tree e)))) (each_tree numbers at context exprs)

each_first : (numbers : Numbering) (at : Scope) (context : Context) (exprs : List Expr) →
    first_tree (made_each numbers at context exprs) ≡ numbered numbers (first_claim (claims_of_trees at context (exprs_of (map expr_tree exprs))))
each_first numbers at context [] = refl
each_first numbers at context (e ∷ exprs) = refl

-- what is applied, by what its head names
applied_as : (numbers : Numbering) (at : Scope) (context : Context) (kind : Head) (head : ExprTree) (exprs : List Expr) → IsHead kind (head_meaning at head) →
    applied_tree kind (numbered numbers (claim_of_tree at context head)) (made_each numbers at context exprs)
    ≡ numbered numbers (claim_applied (callee at head) (claim_of_tree at context head) (claims_of_trees at context (exprs_of (map expr_tree exprs))))
applied_as numbers at context h.Value head exprs is =
    ap (binary Binary.Read (numbered numbers (claim_of_tree at context head))) (each_first numbers at context exprs)
    ∙ ap (λ c. numbered numbers (claim_applied c (claim_of_tree at context head) (claims_of_trees at context (exprs_of (map expr_tree exprs)))))
    (sym (callee_is at head ∙ is))
applied_as numbers at context (h.Record number) head exprs is =
    ap (listed (record_of number)) (each_tree numbers at context exprs)
    ∙ ap (λ c. numbered numbers (claim_applied c (claim_of_tree at context head) (claims_of_trees at context (exprs_of (map expr_tree exprs)))))
    (sym (callee_is at head ∙ is))
applied_as numbers at context (h.Method number) head exprs is =
    let known = method_found (head_meaning at head) number is in
    ap (λ c. numbered numbers (claim_applied c (claim_of_tree at context head) (claims_of_trees at context (exprs_of (map expr_tree exprs)))))
    (sym (callee_is at head ∙ ap callee_meant known.means))

abbrev pub NodeSelected : Unary → Claim → Claim → Type 0
NodeSelected op x claim = claim_tree claim ≡ unary op (claim_tree x)

abbrev pub NodeListed : Ty → List Claim → Claim → Type 0
NodeListed ty cs claim = claim_tree claim ≡ listed (sequence_of (value_type ty)) (claim_trees cs)

abbrev pub NodeApplied : Head → Claim → List Claim → Claim → Type 0
NodeApplied kind x cs claim = claim_tree claim ≡ applied_tree kind (claim_tree x) (map claim_tree cs)

module _ (records : List RecordTy) (numbers : Numbering) where
  -- one claim more
  pub one_more : (known between : NameScope) (context : Context) (before all : List Expr) (expr : Expr) (claims : List Claim) (claim : Claim) →
      between ≡ known → all ≡ before ++ expr ∷ [] → AreClaims records numbers known context before claims →
      IsClaim records numbers between (λ at. claim_of_tree at context (expr_tree expr)) claim → AreClaims records numbers known context all (claims ++
      claim ∷ [])
  one_more known between context before all expr claims claim kept more done next = record {
    are = λ at fits fields.
        let f : Expr → ClaimTree ℕ = λ e. numbered numbers (claim_of_tree at context (expr_tree e)) in
        map-append claim_tree claims (claim ∷ [])
        ∙ ap₂ (λ (xs ys : List (ClaimTree ℕ)). xs ++ ys) (done.are at fits fields)
        (ap (λ c. c ∷ []) (next.is at (subst (λ k. Fits k at) (sym kept) fits) fields))
        ∙ sym (map-append f before (expr ∷ [])) ∙ ap (map f) (sym more);
  }

  -- a sequence of elements
  pub sequence_made : {E : Type 0} (known between : NameScope) (context : Context) (exprs : List Expr) (t : Result Ty E) (elements : Result (List Claim) E)
      (front : Scope → ValueType) (made : Result Claim E) →
      IfOk t (λ ty. (at : Scope) → Fits known at → value_type ty ≡ front at) → OnOk t (between ≡ known) →
      IfOk elements (AreClaims records numbers between context exprs) →
      IfOk made (FromTwo t elements NodeListed) →
      IfOk made (IsClaim records numbers known (λ at. listed (sequence_of (front at)) (claims_of_trees at context (exprs_of (map expr_tree exprs)))))
  sequence_made known between context exprs t elements front made one kept two all =
      IfOk-weaker made (FromTwo t elements NodeListed) (IsClaim records numbers known (λ at. listed (sequence_of (front at)) (claims_of_trees at context
      (exprs_of (map expr_tree exprs)))))
      (λ claim from. record {
        is = λ at fits fields.
            let later : Fits between at = subst (λ k. Fits k at) (sym (IfOk-at_ok (λ _. between ≡ known) from.was_first kept)) fits in
            from.is
            ∙ ap₂ (λ ty cs. listed (sequence_of ty) (trees_of cs)) (IfOk-at_ok (λ ty. (at : Scope) → Fits known at → value_type ty ≡ front at) from.was_first
            one at fits)
            ((IfOk-at_ok (AreClaims records numbers between context exprs) from.was_second two).are at later fields)
            ∙ ap (listed (sequence_of (front at))) (each_tree numbers at context exprs);
      }) all

  -- what is selected from a head
  pub selection_made : {E : Type 0} (known between : NameScope) (op : Result Unary E) (a : Result Claim E) (selector : Scope → Unary) (head : Scope →
      ClaimTree Variable) (made : Result Claim E) →
      IfOk op (λ o. (at : Scope) → Fits known at → HasFields records at → o ≡ selector at) → OnOk op (between ≡ known) →
      IfOk a (IsClaim records numbers between head) →
      IfOk made (FromTwo op a NodeSelected) →
      IfOk made (IsClaim records numbers known (λ at. unary (selector at) (head at)))
  selection_made known between op a selector head made one kept two all =
      IfOk-weaker made (FromTwo op a NodeSelected) (IsClaim records numbers known (λ at. unary (selector at) (head at)))
      (λ claim from. record {
        is = λ at fits fields.
            let later : Fits between at = subst (λ k. Fits k at) (sym (IfOk-at_ok (λ _. between ≡ known) from.was_first kept)) fits in
            from.is
            ∙ ap₂ unary (IfOk-at_ok (λ o. (at : Scope) → Fits known at → HasFields records at → o ≡ selector at) from.was_first one at fits fields)
            ((IfOk-at_ok (IsClaim records numbers between head) from.was_second two).is at later fields);
      }) all

  -- a head that is applied
  pub application_made : {E : Type 0} (known between : NameScope) (context : Context) (kind : Head) (head : ExprTree) (exprs : List Expr) (a : Result Claim
      E) (arguments : Result (List Claim) E)
      (made : Result Claim E) → ((at : Scope) → Fits known at → IsHead kind (head_meaning at head)) →
      IfOk a (IsClaim records numbers known (λ at. claim_of_tree at context head)) → OnOk a (between ≡ known) →
      IfOk arguments (AreClaims records numbers between context exprs) →
      IfOk made (FromTwo a arguments (NodeApplied kind)) →
      IfOk made (IsClaim records numbers known
      (λ at. claim_applied (callee at head) (claim_of_tree at context head) (claims_of_trees at context (exprs_of (map expr_tree exprs)))))
  application_made known between context kind head exprs a arguments made names one kept two all =
      IfOk-weaker made (FromTwo a arguments (NodeApplied kind)) (IsClaim records numbers known
      (λ at. claim_applied (callee at head) (claim_of_tree at context head) (claims_of_trees at context (exprs_of (map expr_tree exprs)))))
      (λ claim from. record {
        is = λ at fits fields.
            let later : Fits between at = subst (λ k. Fits k at) (sym (IfOk-at_ok (λ _. between ≡ known) from.was_first kept)) fits in
            from.is
            ∙ ap₂ (applied_tree kind) ((IfOk-at_ok (IsClaim records numbers known (λ at. claim_of_tree at context head)) from.was_first one).is at fits fields)
            ((IfOk-at_ok (AreClaims records numbers between context exprs) from.was_second two).are at later fields)
            ∙ applied_as numbers at context kind head exprs (names at fits);
      }) all

pub none_yet : (records : List RecordTy) (numbers : Numbering) (known : NameScope) (context : Context) (claims : List Claim) → claims ≡ [] →
    AreClaims records numbers known context [] claims
none_yet records numbers known context claims none = record { are = λ at fits fields. ap (map claim_tree) none }
