-- No bound variable of a claim is loose.
use Rattle.std.proofs.Common.{◌≡◌, ℕ, ◌+◌, Bool, true, false, cond, List, Option, Some, None, refl, subst, ⊎_elim, arith, add-one}
use Rattle.slang_values.specs.Tree.{binary, unary, Trees, no_trees, tree_then}
use Rattle.slang_values.specs.Typing.{IsClosed, AreClosed}
use Rattle.slang_values.specs.declared.operators.Unary.{Unary}
use Rattle.slang_tree.specs.declared.expression.Operator.{Operator}
use Rattle.slang_tree.specs.ExprTree.{ExprTree, ExprTrees, no_exprs, expr_then}
use Rattle.slang_tree.specs.ExprTree as e
use Rattle.program_trees.specs.Operators.{connective, connected, exchanged, negated}
use Rattle.program_trees.specs.Claims.{ClaimName, ClaimTree}
use Rattle.program_trees.specs.Variables.{Variable, global}
use Rattle.type_rules.specs.Meanings.{Meaning, variable, bound_variable, block_variable, record_class, method, declared, Scope, meaning_of, with_bound}
use Rattle.type_rules.specs.Expressions.{Context, Callee, a_value, a_record, a_method, callee}
use Rattle.typed_texts.specs.Claims.{claim_meant, entry_meant, old_meant, first_claim, claim_applied, claim_of_tree, claims_of_trees}
use Rattle.value_typing.specs.Kept.{IsInside, ClaimsAreClosed}
use Rattle.claim_typing.proofs.ClaimTypes.{meant-behind}

meant-closed : (depth : ℕ) (meaning : Option Meaning) → IsInside depth meaning → IsClosed depth (claim_meant depth meaning)
meant-closed depth (Some (variable x changes type)) h = tt
meant-closed depth (Some (bound_variable level)) h = omega (arith, h)
meant-closed depth (Some (block_variable label)) h = tt
meant-closed depth (Some (record_class n)) h = tt
meant-closed depth (Some (method n signature modifies)) h = tt
meant-closed depth None h = tt

entry-closed : (depth : ℕ) (meaning : Option Meaning) → IsClosed depth (entry_meant meaning)
entry-closed depth (Some (variable (global n) changes type)) = tt
entry-closed depth other = tt

old-closed : (depth : ℕ) (meaning : Option Meaning) → IsClosed depth (old_meant meaning)
old-closed depth (Some (variable x changes type)) = tt
old-closed depth other = tt

connected-closed : (depth : ℕ) (operator : Operator) (a b : ClaimTree Variable) → IsClosed depth a → IsClosed depth b →
    IsClosed depth (connected operator a b)
connected-closed depth operator a b h k = at (exchanged operator) (negated operator)
  where
    at : (turned other : Bool) → IsClosed depth (cond turned (binary (connective operator) b a)
        (cond other (unary Unary.Not (binary (connective operator) a b)) (binary (connective operator) a b)))
    at true other = (k, h)
    at false true = (h, k)
    at false false = (h, k)

first-closed : (depth : ℕ) (claims : Trees (ClaimName Variable)) → AreClosed depth claims → IsClosed depth (first_claim claims)
first-closed depth no_trees h = tt
first-closed depth (tree_then claim claims) h = h.0

applied-closed : (depth : ℕ) (c : Callee) (a : ClaimTree Variable) (claims : Trees (ClaimName Variable)) → IsClosed depth a →
    AreClosed depth claims → IsClosed depth (claim_applied c a claims)
applied-closed depth a_value a claims h k = (h, first-closed depth claims k)
applied-closed depth (a_record n) a claims h k = k
applied-closed depth (a_method signature modifies) a claims h k = tt

-- in a quantifier the names are those around it and its variable
inside_more : (depth : ℕ) (meaning : Option Meaning) → IsInside depth meaning → IsInside (depth + 1) meaning
inside_more depth (Some (bound_variable level)) h = omega (arith, h)
inside_more depth (Some (variable x changes type)) h = tt
inside_more depth (Some (block_variable label)) h = tt
inside_more depth (Some (record_class n)) h = tt
inside_more depth (Some (method n signature modifies)) h = tt
inside_more depth None h = tt

inside-bound : (scope : Scope) (text : List ℕ) → ((other : List ℕ) → IsInside scope.depth (meaning_of scope other)) → (other : List ℕ) →
    IsInside (scope.depth + 1) (meaning_of (with_bound scope text) other)
inside-bound scope text all other = at (meaning_of (with_bound scope text) other) refl
  where
    at : (meaning : Option Meaning) → meaning_of (with_bound scope text) other ≡ meaning → IsInside (scope.depth + 1) meaning
    at None h = tt
    at (Some m) h = ⊎_elim
        (λ k. subst (IsInside (scope.depth + 1)) k (inside_more scope.depth (meaning_of scope other) (all other)))
        (λ k. subst (λ n. IsInside (scope.depth + 1) (Some n)) k (omega arith))
        (meant-behind scope.names (declared text (bound_variable scope.depth)) other m h)

mutual
  closed : (context : Context) (scope : Scope) → ((text : List ℕ) → IsInside scope.depth (meaning_of scope text)) → (tree : ExprTree) →
      IsClosed scope.depth (claim_of_tree scope context tree)
  closed context scope all (e.number place z) = tt
  closed context scope all (e.truth place) = tt
  closed context scope all (e.falsity place) = tt
  closed context scope all (e.name text place) = meant-closed scope.depth (meaning_of scope text) (all text)
  closed context scope all (e.result place ty) = tt
  closed context scope all (e.entry_value place written) = entry-closed scope.depth (meaning_of scope written.text)
  closed context scope all (e.old_value place written) = old-closed scope.depth (meaning_of scope written.text)
  closed context scope all (e.minus place operand) = closed context scope all operand
  closed context scope all (e.negation place operand) = closed context scope all operand
  closed context scope all (e.binary place operator left right) =
      connected-closed scope.depth operator (claim_of_tree scope context left) (claim_of_tree scope context right) (closed context scope all left)
      (closed context scope all right)
  closed context scope all (e.application place head arguments) =
      applied-closed scope.depth (callee scope head) (claim_of_tree scope context head) (claims_of_trees scope context arguments)
      (closed context scope all head) (all_closed context scope all arguments)
  closed context scope all (e.update place head index element) =
      (closed context scope all head, closed context scope all index, closed context scope all element)
  closed context scope all (e.field place head written) = closed context scope all head
  closed context scope all (e.sequence place ty elements) = all_closed context scope all elements
  closed context scope all (e.quantified place quantifier low high named body) = (
    closed context scope all low,
    closed context scope all high,
    subst (λ n. IsClosed n (claim_of_tree (with_bound scope named.text) context body)) (add-one scope.depth)
        (closed context (with_bound scope named.text) (inside-bound scope named.text all) body),
  )
  closed context scope all (e.quantified_indices place quantifier head named body) = (
    tt,
    closed context scope all head,
    subst (λ n. IsClosed n (claim_of_tree (with_bound scope named.text) context body)) (add-one scope.depth)
        (closed context (with_bound scope named.text) (inside-bound scope named.text all) body),
  )

  all_closed : (context : Context) (scope : Scope) → ((text : List ℕ) → IsInside scope.depth (meaning_of scope text)) → (trees : ExprTrees) →
      AreClosed scope.depth (claims_of_trees scope context trees)
  all_closed context scope all no_exprs = tt
  all_closed context scope all (expr_then tree trees) = (closed context scope all tree, all_closed context scope all trees)

pub claims_closed : ClaimsAreClosed
claims_closed context scope all tree = closed context scope all tree
