-- What is printed of small trees, byte for byte: each statement is computed.
use Rattle.std.specs.Prelude.{◌≡◌, ℕ, pos, true, false, List, [], ◌∷◌, ◌++◌, codes, Some, None}
use Rattle.slang_values.specs.declared.operators.Quantifier.TheVariants as quantifier
use Rattle.slang_tree.specs.declared.expression.Name.{Name}
use Rattle.slang_tree.specs.declared.expression.Operator.{Operator}
use Rattle.slang_tree.specs.declared.expression.Operator.TheVariants as o
use Rattle.slang_tree.specs.declared.statement.Label.{Label}
use Rattle.slang_tree.specs.TypeTree.{TypeTree, z_name, b_name, unit_name, sequence_name}
use Rattle.slang_tree.specs.ExprTree.{ExprTree, no_exprs, expr_then}
use Rattle.slang_tree.specs.ExprTree as e
use Rattle.slang_tree.specs.StmtTree as s
use Rattle.slang_tree.specs.DeclTree.{TypedName, DeclTree, global_decl, record_decl, method_decl, const_number, const_minus}
use Rattle.print_expressions.specs.Bare.{nowhere}
use Rattle.print_expressions.specs.Accounts.{expr_account}
use Rattle.print_layout.specs.Pieces.{none, bytes_of}
use Rattle.print_layout.specs.Expressions.{expr_pieces}
use Rattle.print_layout.specs.Declarations.{file_bytes}

abbrev word : List ℕ → Name
word text = record { text = text; place = nowhere }

abbrev named : List ℕ → ExprTree
named text = e.name text nowhere

abbrev number : ℕ → ExprTree
number n = e.number nowhere (pos n)

abbrev of_two : Operator → ExprTree → ExprTree → ExprTree
of_two operator left right = e.binary nowhere operator left right

abbrev typed : List ℕ → TypeTree → TypedName
typed text ty = record { written = word text; ty = ty }

abbrev label : ℕ → Label
label n = record { place = nowhere; number = n }

abbrev z : TypeTree
z = z_name nowhere

abbrev a : ExprTree
a = named (codes "a")

abbrev b : ExprTree
b = named (codes "b")

abbrev c : ExprTree
c = named (codes "c")

-- an expression alone
abbrev written : ExprTree → List ℕ
written tree = bytes_of (expr_pieces none (expr_account false tree))

-- the same, printed lightly
abbrev lightly : ExprTree → List ℕ
lightly tree = bytes_of (expr_pieces none (expr_account true tree))

-- ---- a method with a contract, and one with a loop

abbrev clamp : DeclTree
clamp = method_decl (record {
  written = word (codes "clamp");
  params = typed (codes "rate") z ∷ [];
  result = z;
  requires_ = of_two o.Ge (named (codes "rate")) (number 0) ∷ [];
  modifies = [];
  ensures_ = of_two o.Le (number 0) (e.result nowhere None) ∷ of_two o.Le (e.result nowhere None) (named (codes "most")) ∷ [];
  body = s.var nowhere (word (codes "r")) (Some z) (named (codes "rate"))
      ∷ s.branch nowhere (of_two o.Gt (named (codes "r")) (named (codes "most"))) (s.stmt_then (s.assignment (word (codes "r")) (named (codes "most"))) s.no_stmts)
      (s.else_then (s.stmt_then (s.branch nowhere (e.truth nowhere) s.no_stmts s.no_else) s.no_stmts)) ∷ [];
  returned = Some (record { place = nowhere; value = named (codes "r") });
})

abbrev fill : DeclTree
fill = method_decl (record {
  written = word (codes "fill");
  params = typed (codes "a") (sequence_name nowhere z) ∷ typed (codes "n") z ∷ [];
  result = unit_name nowhere;
  requires_ = [];
  modifies = [];
  ensures_ = [];
  body = s.loop nowhere (of_two o.Lt (named (codes "i")) (e.field nowhere a (word (codes "size")))) (word (codes "d") ∷ word (codes "i") ∷ [])
      (of_two o.Le (number 0) (named (codes "i"))
      ∷ e.quantified nowhere quantifier.All (number 0) (named (codes "i")) (word (codes "k")) (e.negation nowhere (e.application nowhere a (expr_then (named (codes "k")) no_exprs))) ∷ [])
      (s.stmt_then (s.assignment (word (codes "d")) (e.update nowhere (named (codes "d")) (named (codes "i")) (number 1)))
      (s.stmt_then (s.call (word (codes "spend")) (expr_then b (expr_then c no_exprs))) s.no_stmts)) ∷ [];
  returned = None;
})

abbrev prove : DeclTree
prove = method_decl (record {
  written = word (codes "p");
  params = [];
  result = unit_name nowhere;
  requires_ = [];
  modifies = word (codes "g") ∷ [];
  ensures_ = [];
  body = s.deduction nowhere (s.step_then (s.line (label 1) a (word (codes "Premise")) [])
      (s.step_then (s.let_block (label 2) (word (codes "k")) (label 3) b (s.step_then (s.line (label 4) c (word (codes "Subst_<")) (label 1 ∷ label 3 ∷ [])) s.no_steps))
      s.no_steps)) ∷ [];
  returned = None;
})

pub record PrintingExamples : Type 0 where
  -- brackets only where they are needed
  pub joined_to_the_left : written (of_two o.Sub (of_two o.Sub a b) c) ≡ codes "a - b - c"
  pub not_joined_to_the_right : written (of_two o.Sub a (of_two o.Sub b c)) ≡ codes "a - (b - c)"
  pub joined_to_the_right : written (of_two o.Imply a (of_two o.Imply b c)) ≡ codes "a ->: b ->: c"
  pub not_joined_to_the_left : written (of_two o.Imply (of_two o.Imply a b) c) ≡ codes "(a ->: b) ->: c"
  pub no_mixed_chain : written (of_two o.Imply (of_two o.Add a b) c) ≡ codes "(a + b) ->: c"
  pub tighter : written (of_two o.And a (of_two o.Or b c)) ≡ codes "a & (b | c)"
  pub looser : written (of_two o.Or (of_two o.And a b) c) ≡ codes "a & b | c"
  pub behind_a_prefix : written (e.minus nowhere (of_two o.Add a b)) ≡ codes "-(a + b)"
  pub prefixes : written (e.negation nowhere (e.negation nowhere a)) ≡ codes "!!a"
  pub in_front_of_a_dot : written (e.field nowhere (e.minus nowhere a) (word (codes "size"))) ≡ codes "(-a).size"
  pub arguments : written (e.application nowhere a (expr_then (of_two o.Add b c) no_exprs)) ≡ codes "a(b + c)"
  -- lightly, brackets also stand where less counts with them
  pub light_as_it_is : lightly (of_two o.Mul (of_two o.Mul a b) c) ≡ codes "a * b * c"
  pub light_in_brackets : lightly
      (of_two o.Add (of_two o.Mul (of_two o.Mul a b) c) (of_two o.Mul (of_two o.Mul a b) c)) ≡ codes "(a * b * c) + a * b * c"
  pub light_head : lightly
      (e.field nowhere (e.field nowhere (e.field nowhere a (word (codes "b"))) (word (codes "c"))) (word (codes "d"))) ≡ codes "(a.b.c).d"
  pub light_index : lightly
      (e.update nowhere a (of_two o.Mul (of_two o.Mul a b) c) (of_two o.Mul (of_two o.Mul a b) c)) ≡ codes "a((a * b * c) ~> a * b * c)"
  -- declarations
  pub globals : file_bytes false
      (global_decl (record { place = nowhere; fixed = true; written = word (codes "most"); ty = Some z; init = const_number nowhere (pos 10) })
      ∷ global_decl (record { place = nowhere; fixed = false; written = word (codes "fuel"); ty = None; init = const_minus nowhere nowhere (pos 1) })
      ∷ record_decl (record { place = nowhere; written = word (codes "Burn"); fields = typed (codes "length") z ∷ typed (codes "on") (b_name nowhere) ∷ [] }) ∷ [])
      ≡ codes "val most: Z = 10\nvar fuel = -1\n\n@datatype class Burn(length: Z, on: B)\n"
  pub contract : file_bytes false (clamp ∷ [])
      ≡ codes "def clamp(rate: Z): Z = {\n  Contract(\n    Requires(rate >= 0),\n    Ensures(0 <= Res, Res <= most)\n  )\n  var r: Z = rate\n"
      ++ codes "  if (r > most) {\n    r = most\n  } else if (T) {\n  }\n  return r\n}\n"
  pub loop : file_bytes false (fill ∷ [])
      ≡ codes "def fill(a: ISZ[Z], n: Z): Unit = {\n  while (i < a.size) {\n    Invariant(\n      Modifies(d, i),\n      0 <= i,\n"
      ++ codes "      All(0 until i)(k => !a(k))\n    )\n    d = d(i ~> 1)\n    spend(b, c)\n  }\n}\n"
  pub proof : file_bytes false (prove ∷ [])
      ≡ codes "def p(): Unit = {\n  Contract(\n    Modifies(g)\n  )\n  Deduce(\n    1 (a) by Premise,\n    2 Let((k: Z) => SubProof(\n      3 Assume(b),\n"
      ++ codes "      4 (c) by Subst_<(1, 3)\n    ))\n  )\n}\n"
