-- Each node of a value has a place.
use Rattle.std.proofs.Common.{ℕ, ◌+◌, ◌<◌, ◌≤◌, List, [], ◌∷◌, ◌++◌, length, Option, Some, arith, length-append}
use Rattle.std.specs.List.{AllByRecursion}
use Rattle.slang_tree.specs.declared.place.Place.{Place}
use Rattle.slang_tree.specs.ExprTree.{ExprTree, ExprTrees}
use Rattle.slang_tree.specs.ExprTree as e
use Rattle.slang_tree.specs.DeclTree.{ConstTree, const_number, const_minus, const_truth, const_falsity, const_sequence, const_record, ConstTrees, no_consts, const_then}
use Rattle.program_trees.specs.Programs.{TypedExprs, no_exprs, expr_then}
use Rattle.program_trees.specs.Variables.{Variable}
use Rattle.typed_programs.specs.Parts.{expr_nodes, parts_nodes}
use Rattle.type_rules.specs.Meanings.{Meaning, Scope, meaning_of}
use Rattle.type_rules.specs.Meanings as meanings
use Rattle.type_rules.specs.Expressions.{Callee, a_value, a_record, a_method, callee}
use Rattle.typed_texts.specs.Values.{Value, Values, value_meant, first_value, value_applied, value_of_tree, values_of_trees, constant_of_tree, constants_of_trees}
use Rattle.value_typing.specs.Nodes.{ValuesHavePlaces, ConstantsHavePlaces}

-- the nodes are below a number
abbrev pub Below : ℕ → List ℕ → Type 0
Below limit nodes = AllByRecursion (λ n. n < limit) nodes

both_below : (limit : ℕ) (ms ns : List ℕ) → Below limit ms → Below limit ns → Below limit (ms ++ ns)
both_below limit [] ns h k = k
both_below limit (m ∷ ms) ns h k = (h.0, both_below limit ms ns h.1 k)

-- the numbers for a value are below each limit that leaves room for them
abbrev Fits : Value → Type 0
Fits value = (node limit : ℕ) → node + length value.places ≤ limit → Below limit (expr_nodes (value.from node))

abbrev AllFit : Values → Type 0
AllFit values = (node limit : ℕ) → node + length values.places ≤ limit → Below limit (parts_nodes (values.from node))

meant-below : (limit node : ℕ) (meaning : Option Meaning) → node < limit → Below limit (expr_nodes (value_meant node meaning))
meant-below limit node (Some (meanings.variable x is_var type)) h = (h, tt)
meant-below limit node meaning h = (h, tt)

front_below : (limit : ℕ) (ms ns : List ℕ) → Below limit (ms ++ ns) → Below limit ms
front_below limit [] ns h = tt
front_below limit (m ∷ ms) ns h = (h.0, front_below limit ms ns h.1)

first-below : (limit node : ℕ) (exprs : TypedExprs Variable) → node < limit → Below limit (parts_nodes exprs) →
    Below limit (expr_nodes (first_value node exprs))
first-below limit node no_exprs h k = (h, tt)
first-below limit node (expr_then expr exprs) h k = front_below limit (expr_nodes expr) (parts_nodes exprs) k

applied-fits : (place : Place) (c : Callee) (head : Value) (arguments : Values) → Fits head → AllFit arguments → Fits (value_applied place c head arguments)
applied-fits place a_value head arguments h k node limit room =
    let n = length-append head.places arguments.places in (
      omega arith,
      both_below limit (expr_nodes (head.from (node + 1))) (expr_nodes (first_value node (arguments.from (node + 1 + length head.places)))) (h (node + 1) limit (omega (arith, n, room)))
          (first-below limit node (arguments.from (node + 1 + length head.places)) (omega arith)
          (k (node + 1 + length head.places) limit (omega (arith, n, room)))),
    )
applied-fits place (a_record count) head arguments h k node limit room = (omega arith, k (node + 1) limit (omega (arith, room)))
applied-fits place (a_method signature modifies) head arguments h k node limit room = (omega arith, tt)

mutual
  fits : (scope : Scope) (tree : ExprTree) → Fits (value_of_tree scope tree)
  fits scope (e.number place z) node limit room = (omega arith, tt)
  fits scope (e.truth place) node limit room = (omega arith, tt)
  fits scope (e.falsity place) node limit room = (omega arith, tt)
  fits scope (e.name text place) node limit room = meant-below limit node (meaning_of scope text) (omega arith)
  fits scope (e.minus place operand) node limit room = (omega arith, fits scope operand (node + 1) limit (omega arith))
  fits scope (e.negation place operand) node limit room = (omega arith, fits scope operand (node + 1) limit (omega arith))
  fits scope (e.binary place operator left right) node limit room =
      let l = value_of_tree scope left in
      let r = value_of_tree scope right in
      let n = length-append l.places r.places in (
        omega arith,
        both_below limit (expr_nodes (l.from (node + 1))) (expr_nodes (r.from (node + 1 + length l.places)))
            (fits scope left (node + 1) limit (omega (arith, n, room))) (fits scope right (node + 1 + length l.places) limit (omega (arith, n, room))),
      )
  fits scope (e.application place head arguments) node limit room =
      applied-fits place (callee scope head) (value_of_tree scope head) (values_of_trees scope arguments) (fits scope head) (all_fit scope arguments)
      node limit room
  fits scope (e.update place head index element) node limit room =
      let a = value_of_tree scope head in
      let i = value_of_tree scope index in
      let x = value_of_tree scope element in
      let n = length-append a.places (i.places ++ x.places) in
      let m = length-append i.places x.places in
      let from_index = node + 1 + length a.places in
      let from_element = from_index + length i.places in (
        omega arith,
        both_below limit (expr_nodes (a.from (node + 1))) (expr_nodes (i.from from_index) ++ expr_nodes (x.from from_element))
            (fits scope head (node + 1) limit (omega (arith, n, m, room)))
            (both_below limit (expr_nodes (i.from from_index)) (expr_nodes (x.from from_element))
            (fits scope index from_index limit (omega (arith, n, m, room))) (fits scope element from_element limit (omega (arith, n, m, room)))),
      )
  fits scope (e.field place head written) node limit room = (omega arith, fits scope head (node + 1) limit (omega arith))
  fits scope (e.sequence place ty elements) node limit room = (omega arith, all_fit scope elements (node + 1) limit (omega arith))
  fits scope (e.result place ty) node limit room = (omega arith, tt)
  fits scope (e.entry_value place written) node limit room = (omega arith, tt)
  fits scope (e.old_value place written) node limit room = (omega arith, tt)
  fits scope (e.quantified place quantifier low high named body) node limit room = (omega arith, tt)
  fits scope (e.quantified_indices place quantifier head named body) node limit room = (omega arith, tt)

  all_fit : (scope : Scope) (trees : ExprTrees) → AllFit (values_of_trees scope trees)
  all_fit scope e.no_exprs node limit room = tt
  all_fit scope (e.expr_then tree trees) node limit room =
      let first = value_of_tree scope tree in
      let others = values_of_trees scope trees in
      let n = length-append first.places others.places in
      both_below limit (expr_nodes (first.from node)) (parts_nodes (others.from (node + length first.places)))
      (fits scope tree node limit (omega (arith, n, room))) (all_fit scope trees (node + length first.places) limit (omega (arith, n, room)))

mutual
  const_fits : (scope : Scope) (tree : ConstTree) → Fits (constant_of_tree scope tree)
  const_fits scope (const_number place z) node limit room = (omega arith, tt)
  const_fits scope (const_minus place digits z) node limit room = (omega arith, (omega arith, tt))
  const_fits scope (const_truth place) node limit room = (omega arith, tt)
  const_fits scope (const_falsity place) node limit room = (omega arith, tt)
  const_fits scope (const_sequence place ty elements) node limit room = (omega arith, consts_fit scope elements (node + 1) limit (omega arith))
  const_fits scope (const_record written fields) node limit room = (omega arith, consts_fit scope fields (node + 1) limit (omega arith))

  consts_fit : (scope : Scope) (trees : ConstTrees) → AllFit (constants_of_trees scope trees)
  consts_fit scope no_consts node limit room = tt
  consts_fit scope (const_then tree trees) node limit room =
      let first = constant_of_tree scope tree in
      let others = constants_of_trees scope trees in
      let n = length-append first.places others.places in
      both_below limit (expr_nodes (first.from node)) (parts_nodes (others.from (node + length first.places)))
      (const_fits scope tree node limit (omega (arith, n, room))) (consts_fit scope trees (node + length first.places) limit (omega (arith, n, room)))

pub values_below : (scope : Scope) (tree : ExprTree) (node limit : ℕ) → node + length (value_of_tree scope tree).places ≤ limit →
    Below limit (expr_nodes ((value_of_tree scope tree).from node))
values_below scope tree node limit room = fits scope tree node limit room

pub values_have_places : ValuesHavePlaces
values_have_places scope tree node = fits scope tree node (node + length (value_of_tree scope tree).places) (omega arith)

pub constants_have_places : ConstantsHavePlaces
constants_have_places scope tree node = const_fits scope tree node (node + length (constant_of_tree scope tree).places) (omega arith)
