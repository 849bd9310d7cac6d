-- Claims that are made from the results of their parts.
use Rattle.std.proofs.Common.{◌≡◌, ℕ, pos, Bool, true, false, cond, Result, Ok, List, map, refl, sym, ap, ap₂, ◌∙◌, subst}
use Rattle.std.specs.Prelude.{IfOk, OnOk}
use Rattle.std.proofs.lemmas.Result.{IfOk-at_ok, IfOk-weaker}
use Rattle.slang_values.specs.Tree.{literal, unary, binary, quantified}
use Rattle.slang_values.specs.declared.operators.Quantifier.{Quantifier}
use Rattle.slang_values.specs.declared.operators.Unary.{Unary}
use Rattle.slang_tree.specs.declared.expression.Operator.{Operator}
use Rattle.slang_tree.specs.ExprTree.{ExprTree}
use Rattle.program_trees.specs.Claims.{ClaimTree}
use Rattle.program_trees.specs.Operators.{connected, connective, exchanged, negated}
use Rattle.program_trees.specs.Variables.{Variable}
use Rattle.lk_claims.specs.declared.claim.Claim.{Claim}
use Rattle.lk_claims.specs.declared.claim.Claim.TheVariants.{Lit}
use Rattle.lk_claims.specs.Claim.{claim_tree}
use Rattle.lk_claims.proofs.Trees.{claim_tree-Lit}
use Rattle.lk_programs.specs.declared.program.RecordTy.{RecordTy}
use Rattle.type_rules.specs.Meanings.{Scope, with_bound}
use Rattle.type_rules.specs.Expressions.{Context}
use Rattle.typed_texts.specs.Claims.{claim_of_tree}
use Rattle.name_scopes.specs.declared.scope.NameScope.{NameScope}
use Rattle.name_scopes.specs.Fits.{Fits}
use Rattle.typed_names.specs.declared.variables.Numbering.{Numbering}
use Rattle.typed_names.specs.Fields.{HasFields}
use Rattle.claim_making.specs.Parts.{FromOne, FromTwo, FromThree}
use Rattle.claim_making.specs.Made.{IsClaim, numbered}

-- an operator says the same over numbers
pub connected-numbered : (numbers : Numbering) (operator : Operator) (a b : ClaimTree Variable) →
    connected operator (numbered numbers a) (numbered numbers b) ≡ numbered numbers (connected operator a b)
connected-numbered numbers operator a b = at (exchanged operator) (negated operator)
  where
    at : (turned other : Bool) →
        cond turned (binary (connective operator) (numbered numbers b) (numbered numbers a))
        (cond other (unary Unary.Not (binary (connective operator) (numbered numbers a) (numbered numbers b))) (binary (connective operator) (numbered
        numbers a) (numbered numbers b)))
        ≡ numbered numbers (cond turned (binary (connective operator) b a) (cond other (unary Unary.Not (binary (connective operator) a b)) (binary
        (connective operator) a b)))
    at true other = refl
    at false true = refl
    at false false = refl

-- ---- the scope is the same behind the parts

pub one_scope : {A C E : Type 0} (Is : A → C → Type 0) (known after : NameScope) (a : Result A E) (made : Result C E) →
    OnOk a (after ≡ known) → IfOk made (FromOne a Is) → OnOk made (after ≡ known)
one_scope Is known after a made same from =
    IfOk-weaker made (FromOne a Is) (λ _. after ≡ known) (λ _ parts. IfOk-at_ok (λ _. after ≡ known) parts.was_first same) from

pub two_scope : {A B C E : Type 0} (Is : A → B → C → Type 0) (known between after : NameScope) (a : Result A E) (b : Result B E) (made : Result C E) →
    OnOk a (between ≡ known) → OnOk b (after ≡ between) → IfOk made (FromTwo a b Is) → OnOk made (after ≡ known)
two_scope Is known between after a b made first second from =
    IfOk-weaker made (FromTwo a b Is) (λ _. after ≡ known)
    (λ _ parts. IfOk-at_ok (λ _. after ≡ between) parts.was_second second ∙ IfOk-at_ok (λ _. between ≡ known) parts.was_first first) from

pub three_scope : {A B D C E : Type 0} (Is : A → B → D → C → Type 0) (known between later after : NameScope) (a : Result A E) (b : Result B E) (d : Result
    D E) (made : Result C E) →
    OnOk a (between ≡ known) → OnOk b (later ≡ between) → OnOk d (after ≡ later) → IfOk made (FromThree a b d Is) → OnOk made (after ≡ known)
three_scope Is known between later after a b d made first second third from =
    IfOk-weaker made (FromThree a b d Is) (λ _. after ≡ known)
    (λ _ parts. IfOk-at_ok (λ _. after ≡ later) parts.was_third third ∙ IfOk-at_ok (λ _. later ≡ between) parts.was_second second
    ∙ IfOk-at_ok (λ _. between ≡ known) parts.was_first first) from

-- what one, two or three claims make
abbrev pub NodeOne : (ClaimTree ℕ → ClaimTree ℕ) → Claim → Claim → Type 0
NodeOne node x claim = claim_tree claim ≡ node (claim_tree x)

abbrev pub NodeTwo : (ClaimTree ℕ → ClaimTree ℕ → ClaimTree ℕ) → Claim → Claim → Claim → Type 0
NodeTwo node x y claim = claim_tree claim ≡ node (claim_tree x) (claim_tree y)

abbrev pub NodeThree : (ClaimTree ℕ → ClaimTree ℕ → ClaimTree ℕ → ClaimTree ℕ) → Claim → Claim → Claim → Claim → Type 0
NodeThree node x y z claim = claim_tree claim ≡ node (claim_tree x) (claim_tree y) (claim_tree z)

-- ---- the claim

module _ (records : List RecordTy) (numbers : Numbering) where
  -- the claim of the same tree
  pub of_tree : {E : Type 0} (known : NameScope) (context : Context) (made : Result Claim E) (given tree : ExprTree) → given ≡ tree →
      IfOk made (IsClaim records numbers known (λ at. claim_of_tree at context tree)) → IfOk made (IsClaim records numbers known (λ at. claim_of_tree at
      context given))
  of_tree known context made given tree same h = subst (λ t. IfOk made (IsClaim records numbers known (λ at. claim_of_tree at context t))) (sym same) h

  -- a claim that is told of each place
  pub plain_ok : {E : Type 0} (known : NameScope) (whole : Scope → ClaimTree Variable) (made : Result Claim E) →
      IfOk made (λ claim. (at : Scope) → Fits known at → claim_tree claim ≡ numbered numbers (whole at)) → IfOk made (IsClaim records numbers known whole)
  plain_ok known whole made h =
      IfOk-weaker made (λ claim. (at : Scope) → Fits known at → claim_tree claim ≡ numbered numbers (whole at)) (IsClaim records numbers known whole)
      (λ claim is. record { is = λ at fits fields. is at fits }) h

  pub one_made : {E : Type 0} (known : NameScope) (a : Result Claim E) (node : ClaimTree ℕ → ClaimTree ℕ) (part whole : Scope → ClaimTree Variable) (made :
      Claim) →
      ((at : Scope) → node (numbered numbers (part at)) ≡ numbered numbers (whole at)) →
      IfOk a (IsClaim records numbers known part) → FromOne a (λ x claim. claim_tree claim ≡ node (claim_tree x)) made → IsClaim records numbers known
      whole made
  one_made known a node part whole made same claim from = record {
    is = λ at fits fields.
        from.is ∙ ap node ((IfOk-at_ok (IsClaim records numbers known part) from.was_first claim).is at fits fields) ∙ same at;
  }

  pub two_made : {E : Type 0} (known between : NameScope) (a b : Result Claim E) (node : ClaimTree ℕ → ClaimTree ℕ → ClaimTree ℕ)
      (first second whole : Scope → ClaimTree Variable) (made : Claim) →
      ((at : Scope) → node (numbered numbers (first at)) (numbered numbers (second at)) ≡ numbered numbers (whole at)) →
      IfOk a (IsClaim records numbers known first) → OnOk a (between ≡ known) → IfOk b (IsClaim records numbers between second) →
      FromTwo a b (λ x y claim. claim_tree claim ≡ node (claim_tree x) (claim_tree y)) made → IsClaim records numbers known whole made
  two_made known between a b node first second whole made same one kept two from = record {
    is = λ at fits fields.
        let later : Fits between at = subst (λ k. Fits k at) (sym (IfOk-at_ok (λ _. between ≡ known) from.was_first kept)) fits in
        from.is
        ∙ ap₂ node ((IfOk-at_ok (IsClaim records numbers known first) from.was_first one).is at fits fields)
        ((IfOk-at_ok (IsClaim records numbers between second) from.was_second two).is at later fields)
        ∙ same at;
  }

  pub three_made : {E : Type 0} (known between later : NameScope) (a b d : Result Claim E) (node : ClaimTree ℕ → ClaimTree ℕ → ClaimTree ℕ → ClaimTree ℕ)
      (first second third whole : Scope → ClaimTree Variable) (made : Claim) →
      ((at : Scope) → node (numbered numbers (first at)) (numbered numbers (second at)) (numbered numbers (third at)) ≡ numbered numbers (whole at)) →
      IfOk a (IsClaim records numbers known first) → OnOk a (between ≡ known) → IfOk b (IsClaim records numbers between second) → OnOk b (later ≡ between) →
      IfOk d (IsClaim records numbers later third) →
      FromThree a b d (λ x y z claim. claim_tree claim ≡ node (claim_tree x) (claim_tree y) (claim_tree z)) made → IsClaim records numbers known whole made
  three_made known between later a b d node first second third whole made same one kept two kept_on three from = record {
    is = λ at fits fields.
        let here : Fits between at = subst (λ k. Fits k at) (sym (IfOk-at_ok (λ _. between ≡ known) from.was_first kept)) fits in
        let there : Fits later at = subst (λ k. Fits k at) (sym (IfOk-at_ok (λ _. later ≡ between) from.was_second kept_on)) here in
        let e = (IfOk-at_ok (IsClaim records numbers known first) from.was_first one).is at fits fields in
        let f = (IfOk-at_ok (IsClaim records numbers between second) from.was_second two).is at here fields in
        let g = (IfOk-at_ok (IsClaim records numbers later third) from.was_third three).is at there fields in
        from.is ∙ (λ i. node (e i) (f i) (g i)) ∙ same at;
  }

  pub one_ok : {E : Type 0} (known : NameScope) (a : Result Claim E) (node : ClaimTree ℕ → ClaimTree ℕ) (part whole : Scope → ClaimTree Variable) (made :
      Result Claim E) →
      ((at : Scope) → node (numbered numbers (part at)) ≡ numbered numbers (whole at)) →
      IfOk a (IsClaim records numbers known part) → IfOk made (FromOne a (NodeOne node)) → IfOk made (IsClaim records numbers known whole)
  one_ok known a node part whole made same claim from =
      IfOk-weaker made (FromOne a (NodeOne node)) (IsClaim records numbers known whole) (λ c parts. one_made known a node part whole c same claim parts) from

  pub two_ok : {E : Type 0} (known between : NameScope) (a b : Result Claim E) (node : ClaimTree ℕ → ClaimTree ℕ → ClaimTree ℕ)
      (first second whole : Scope → ClaimTree Variable) (made : Result Claim E) →
      ((at : Scope) → node (numbered numbers (first at)) (numbered numbers (second at)) ≡ numbered numbers (whole at)) →
      IfOk a (IsClaim records numbers known first) → OnOk a (between ≡ known) → IfOk b (IsClaim records numbers between second) →
      IfOk made (FromTwo a b (NodeTwo node)) → IfOk made (IsClaim records numbers known whole)
  two_ok known between a b node first second whole made same one kept two from =
      IfOk-weaker made (FromTwo a b (NodeTwo node)) (IsClaim records numbers known whole)
      (λ c parts. two_made known between a b node first second whole c same one kept two parts) from

  pub three_ok : {E : Type 0} (known between later : NameScope) (a b d : Result Claim E) (node : ClaimTree ℕ → ClaimTree ℕ → ClaimTree ℕ → ClaimTree ℕ)
      (first second third whole : Scope → ClaimTree Variable) (made : Result Claim E) →
      ((at : Scope) → node (numbered numbers (first at)) (numbered numbers (second at)) (numbered numbers (third at)) ≡ numbered numbers (whole at)) →
      IfOk a (IsClaim records numbers known first) → OnOk a (between ≡ known) → IfOk b (IsClaim records numbers between second) → OnOk b (later ≡ between) →
      IfOk d (IsClaim records numbers later third) → IfOk made (FromThree a b d (NodeThree node)) → IfOk made (IsClaim records numbers known whole)
  three_ok known between later a b d node first second third whole made same one kept two kept_on three from =
      IfOk-weaker made (FromThree a b d (NodeThree node)) (IsClaim records numbers known whole)
      (λ c parts. three_made known between later a b d node first second third whole c same one kept two kept_on three parts) from

  -- under a name that is bound
  pub under_made : {E : Type 0} (known inner : NameScope) (context : Context) (text : List ℕ) (body : ExprTree) (made : Result Claim E) →
      ((at : Scope) → Fits known at → Fits inner (with_bound at text)) → IfOk made (IsClaim records numbers inner (λ at. claim_of_tree at context body)) →
      IfOk made (IsClaim records numbers known (λ at. claim_of_tree (with_bound at text) context body))
  under_made known inner context text body made fit h =
      IfOk-weaker made (IsClaim records numbers inner (λ at. claim_of_tree at context body)) (IsClaim records numbers known (λ at. claim_of_tree
      (with_bound at text) context body))
      (λ claim is. record { is = λ at fits fields. is.is (with_bound at text) (fit at fits) fields }) h

  -- a quantifier over the indices of a sequence
  pub indices_made : {E : Type 0} (known between : NameScope) (q : Quantifier) (a size b : Result Claim E) (head body : Scope → ClaimTree Variable) (made :
      Result Claim E) →
      IfOk a (IsClaim records numbers known head) → OnOk a (between ≡ known) → IfOk size (FromOne a (NodeOne (unary Unary.Size))) → IfOk b (IsClaim records
      numbers between body) →
      IfOk made (FromThree {E = E} (Ok (Lit (pos 0))) size b (NodeThree (quantified q))) →
      IfOk made (IsClaim records numbers known (λ at. quantified q (literal (pos 0)) (unary Unary.Size (head at)) (body at)))
  indices_made {E} known between q a size b head body made one kept sized two from =
      IfOk-weaker made (FromThree (Ok (Lit (pos 0))) size b (NodeThree (quantified q)))
      (IsClaim records numbers known (λ at. quantified q (literal (pos 0)) (unary Unary.Size (head at)) (body at)))
      (λ claim parts. record {
        is = λ at fits fields.
            let inside = IfOk-at_ok (FromOne a (NodeOne (unary Unary.Size))) parts.was_second sized in
            let later : Fits between at = subst (λ k. Fits k at) (sym (IfOk-at_ok (λ _. between ≡ known) inside.was_first kept)) fits in
            let first : claim_tree parts.first ≡ literal (pos 0) = IfOk-at_ok {E = E} (λ c. claim_tree c ≡ literal (pos 0)) parts.was_first (claim_tree-Lit
            (pos 0)) in
            let e = inside.is ∙ ap (unary Unary.Size) ((IfOk-at_ok (IsClaim records numbers known head) inside.was_first one).is at fits fields) in
            let f = (IfOk-at_ok (IsClaim records numbers between body) parts.was_third two).is at later fields in
            parts.is ∙ (λ i. quantified q (first i) (e i) (f i));
      }) from

pub indices_scope : {E : Type 0} (q : Quantifier) (known between after : NameScope) (a size b made : Result Claim E) →
    OnOk a (between ≡ known) → IfOk size (FromOne a (NodeOne (unary Unary.Size))) → OnOk b (after ≡ between) →
    IfOk made (FromThree {E = E} (Ok (Lit (pos 0))) size b (NodeThree (quantified q))) → OnOk made (after ≡ known)
indices_scope {E} q known between after a size b made first sized second from =
    IfOk-weaker made (FromThree {E = E} (Ok (Lit (pos 0))) size b (NodeThree (quantified q))) (λ _. after ≡ known)
    (λ _ parts.
    let inside = IfOk-at_ok (FromOne a (NodeOne (unary Unary.Size))) parts.was_second sized in
    IfOk-at_ok (λ _. after ≡ between) parts.was_third second ∙ IfOk-at_ok (λ _. between ≡ known) inside.was_first first) from
