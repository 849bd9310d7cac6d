-- Forms of expressions that are made of their parts.
use Rattle.std.proofs.Common.{◌≡◌, ◌+◌, ◌∷◌, [], ℕ, List, refl, sym, ap, ◌∙◌, subst}
use Rattle.std.specs.Prelude.{length, Result, Ok, OnOk}
use Rattle.slang_values.specs.declared.operators.Unary.{Unary}
use Rattle.slang_values.specs.Tree.{Listed}
use Rattle.slang_tree.specs.declared.place.Place.{Place}
use Rattle.slang_tree.specs.declared.expression.Operator.{Operator}
use Rattle.slang_tree.specs.ExprTree.{ExprTree, ExprTrees, application}
use Rattle.program_trees.specs.Programs.{TypedExpr, TypedExprs, no_exprs, expr_then, unary, binary, read, update, listed, renamed_expr, renamed_exprs}
use Rattle.program_trees.specs.Variables.{Variable}
use Rattle.type_rules.specs.Meanings.{Scope}
use Rattle.type_rules.specs.Expressions.{Callee, a_value, callee}
use Rattle.typed_texts.specs.Numbered.{Numbered, headed, joined, pair}
use Rattle.typed_texts.specs.Values.{Value, Values, first_value, value_applied, value_of_tree, values_of_trees}
use Rattle.typed_names.specs.declared.nodes.Nodes.{Nodes}
use Rattle.typed_names.specs.declared.variables.Numbering.{Numbering}
use Rattle.typed_names.specs.Nodes.{IsMade, with_nodes}
use Rattle.typed_names.specs.Variables.{number_in}
use Rattle.typed_names.proofs.Made.{made_headed, made_joined}
use Rattle.value_making.specs.Values.{all_numbered, first_number, numbered, value_in}

pub value_by : (numbers : Numbering) (at : Scope) {before after : Nodes} {value : TypedExpr ℕ} (tree other : ExprTree) → tree ≡ other →
    IsMade before after value (value_in numbers at other) → IsMade before after value (value_in numbers at tree)
value_by numbers at {before} {after} {value} tree other same made = subst (λ t. IsMade before after value (value_in numbers at t)) (sym same) made

-- an application, the head of which names such a thing
pub applied_by : (numbers : Numbering) (at : Scope) {before after : Nodes} {value : TypedExpr ℕ} (place : Place) (head : ExprTree) (arguments : ExprTrees)
    (named : Callee) → callee at head ≡ named →
    IsMade before after value (numbered numbers (value_applied place named (value_of_tree at head) (values_of_trees at arguments))) →
    IsMade before after value (value_in numbers at (application place head arguments))
applied_by numbers at {before} {after} {value} place head arguments named is made =
    subst (λ it. IsMade before after value (numbered numbers (value_applied place it (value_of_tree at head) (values_of_trees at arguments)))) (sym is) made

-- what holds where a result is Ok
pub on_ok : {T E X : Type 0} {r : Result T E} {x : T} → r ≡ Ok x → OnOk r X → X
on_ok {T} {E} {X} is holds = subst (λ s. OnOk s X) is holds

module _ (numbers : Numbering) (before mid : Nodes) (place : Place) (node : ℕ) (number : node ≡ length before.places) (added : mid ≡ with_nodes before (place ∷ [])) where
  pub made_prefix : (after : Nodes) (op : Unary) (a e : TypedExpr ℕ) (operand : Value) →
      IsMade mid after a (numbered numbers operand) → e ≡ unary node op a →
      IsMade before after e (numbered numbers (headed place (λ n x. unary n op x) operand))
  made_prefix after op a e operand made is =
      made_headed before mid after place (λ n x. unary n op x) node a e (numbered numbers operand) number added made is

  pub made_binary : (between after : Nodes) (operator : Operator) (a b e : TypedExpr ℕ) (left right : Value) →
      IsMade mid between a (numbered numbers left) → IsMade between after b (numbered numbers right) → e ≡ binary node operator a b →
      IsMade before after e (numbered numbers (headed place (λ n parts. binary n operator parts.0 parts.1) (joined pair left right)))
  made_binary between after operator a b e left right one two is =
      made_headed before mid after place (λ n parts. binary n operator parts.0 parts.1) node (a, b) e (joined pair (numbered numbers left) (numbered numbers right))
      number added (made_joined mid between after pair a b (numbered numbers left) (numbered numbers right) one two) is

  pub made_update : (first second after : Nodes) (a i x e : TypedExpr ℕ) (head index element : Value) →
      IsMade mid first a (numbered numbers head) → IsMade first second i (numbered numbers index) → IsMade second after x (numbered numbers element) →
      e ≡ update node a i x →
      IsMade before after e (numbered numbers (headed place (λ n parts. update n parts.0 parts.1.0 parts.1.1) (joined pair head (joined pair index element))))
  made_update first second after a i x e head index element one two three is =
      made_headed before mid after place (λ n parts. update n parts.0 parts.1.0 parts.1.1) node (a, (i, x)) e
      (joined pair (numbered numbers head) (joined pair (numbered numbers index) (numbered numbers element))) number added
      (made_joined mid first after pair a (i, x) (numbered numbers head) (joined pair (numbered numbers index) (numbered numbers element)) one
      (made_joined first second after pair i x (numbered numbers index) (numbered numbers element) two three)) is

  pub made_listed : (after : Nodes) (front : Listed) (parts : TypedExprs ℕ) (e : TypedExpr ℕ) (values : Values) →
      IsMade mid after parts (all_numbered numbers values) → e ≡ listed node front parts →
      IsMade before after e (numbered numbers (headed place (λ n ps. listed n front ps) values))
  made_listed after front parts e values made is =
      made_headed before mid after place (λ n ps. listed n front ps) node parts e (all_numbered numbers values) number added made is

  first_renamed : (n : ℕ) (exprs : TypedExprs Variable) →
      first_number n (renamed_exprs (number_in numbers) exprs) ≡ renamed_expr (number_in numbers) (first_value n exprs)
  first_renamed n no_exprs = refl
  first_renamed n (expr_then expr exprs) = refl

  pub made_read : (between after : Nodes) (a e : TypedExpr ℕ) (parts : TypedExprs ℕ) (head : Value) (arguments : Values) →
      IsMade mid between a (numbered numbers head) → IsMade between after parts (all_numbered numbers arguments) → e ≡ read node a (first_number node parts) →
      IsMade before after e (numbered numbers (value_applied place a_value head arguments))
  made_read between after a e parts head arguments one two is =
      let made = made_headed before mid after place (λ n ps. read n ps.0 (first_number n ps.1)) node (a, parts) e
      (joined pair (numbered numbers head) (all_numbered numbers arguments)) number added
      (made_joined mid between after pair a parts (numbered numbers head) (all_numbered numbers arguments) one two) is in
      let n = length before.places in
      record {
        added = made.added;
        is = made.is ∙ ap (read n (renamed_expr (number_in numbers) (head.from (n + 1))))
            (first_renamed n (arguments.from (n + 1 + length head.places)));
      }
