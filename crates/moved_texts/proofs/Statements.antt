-- Statements whose tokens stand at other places.
use Rattle.std.proofs.Common.{◌≡◌, Bool, true, false, List, [], ◌∷◌, ◌++◌, map, Option, refl}
use Rattle.std.specs.Option.{option_map}
use Rattle.slang_lexer.specs.declared.token.TokenKind.{TokenKind}
use Rattle.slang_lexer.specs.declared.token.TokenKind.TheVariants as kind
use Rattle.slang_tree.specs.declared.place.Place.{Place}
use Rattle.slang_tree.specs.declared.expression.Name.{Name}
use Rattle.slang_tree.specs.TypeTree.{TypeTree}
use Rattle.slang_tree.specs.ExprTree.{ExprTree}
use Rattle.slang_tree.specs.StmtTree as t
use Rattle.slang_tree.specs.StmtTree.{StmtTree, StmtTrees, ElseTree}
use Rattle.slang_tokens.specs.Tok.{sign}
use Rattle.slang_grammar.specs.Parts.{members, optional, names_tokens, typed_tokens, IsTyped, typed_tree}
use Rattle.slang_grammar.specs.Expressions.{expr_tokens, exprs_tokens, expr_tree}
use Rattle.slang_grammar.specs.Proofs.{steps_tokens}
use Rattle.slang_grammar.specs.Statements.{TestText, test_tokens, ClaimsBehind, no_claims, claims_behind, InvariantText, claims_behind_tokens, AreClaimsBehind, claims_behind_trees, invariant_tokens, IsInvariant, StmtText, value, assignment, call, branch, loop, assertion, deduction, IfText, if_then, ElseText, no_else, else_block, else_if, BlockText, block, StmtsText, no_stmts, last_stmt, stmt_then, LoopText, no_body, body, stmt_tokens, if_tokens, else_tokens, block_tokens, stmts_tokens, loop_tokens, IsStmt, IsIf, IsElse, IsBlock, AreStmts, IsLoop, value_tree, stmt_tree, if_tree, else_tree, block_tree, stmts_tree, loop_tree}
use Rattle.print_expressions.specs.Bare.{nowhere, bare_name, bare_type, bare_expr}
use Rattle.print_statements.specs.Bare.{bare_stmt, bare_stmts, bare_else}
use Rattle.moved_texts.proofs.Lists.{named_at, first, split, joined, consed, only, nothing, Moves, Same, move_optional, if_fine}
use Rattle.moved_texts.proofs.Expressions.{move_names, TypedAlike, move_typed, if_typed, ExprAlike, move_expr, move_exprs}
use Rattle.moved_texts.proofs.Steps.{move_steps}

-- ---- parts

abbrev TestAlike : TestText → TestText → Type 0
TestAlike a b = ExprAlike a.test b.test

move_test : (k : TokenKind) (t : TestText) → Moves TestText (test_tokens k) TestAlike t
move_test k t tokens h =
    let a = first h in
    let b = first a.behind in
    let s = split (expr_tokens t.test) (sign kind.RightParen t.right ∷ []) b.behind in
    let m = move_expr t.test s.left s.first in
    let z = only s.second in
    record {
      it = record { word = a.place; left = b.place; test = m.it; right = z.place };
      spelled = consed a.is (consed b.is (joined s.is m.spelled z.is));
      alike = m.alike;
    }

abbrev ClaimsBehindAlike : ClaimsBehind → ClaimsBehind → Type 0
ClaimsBehindAlike = Same ClaimsBehind (List ExprTree) AreClaimsBehind (λ c. map bare_expr (claims_behind_trees c))

move_claims_behind : (c : ClaimsBehind) → Moves ClaimsBehind claims_behind_tokens ClaimsBehindAlike c
move_claims_behind no_claims tokens h = record { it = no_claims; spelled = nothing h; alike = record { fine = λ f. f; tree = refl } }
move_claims_behind (claims_behind comma claims) tokens h =
    let a = first h in
    let m = move_exprs claims a.rest a.behind in
    record { it = claims_behind a.place m.it; spelled = consed a.is m.spelled; alike = record { fine = m.alike.fine; tree = m.alike.trees } }

record InvariantAlike (a b : InvariantText) : Type 0 where
  fine : IsInvariant a → IsInvariant b
  names : map bare_name (members b.names.names) ≡ map bare_name (members a.names.names)
  claims : map bare_expr (claims_behind_trees b.claims) ≡ map bare_expr (claims_behind_trees a.claims)

move_invariant : (i : InvariantText) → Moves InvariantText invariant_tokens InvariantAlike i
move_invariant text tokens h =
    let a = first h in
    let b = first a.behind in
    let c = first b.behind in
    let o = split (names_tokens text.names ++ claims_behind_tokens text.claims) (sign kind.RightParen text.right ∷ []) c.behind in
    let s = split (names_tokens text.names) (claims_behind_tokens text.claims) o.first in
    let n = move_names text.names s.left s.first in
    let m = move_claims_behind text.claims s.right s.second in
    let z = only o.second in
    record {
      it = record { word = a.place; left = b.place; modifies = c.place; names = n.it; claims = m.it; right = z.place };
      spelled = consed a.is (consed b.is (consed c.is (joined o.is (joined s.is n.spelled m.spelled) z.is)));
      alike = record { fine = λ f. (n.alike.fine f.0, m.alike.fine f.1); names = n.alike.tree; claims = m.alike.tree };
    }

value_alike : (fixed : Bool) (p q : Place) (n m : Name) (ty ty' : Option TypeTree) (e e' : ExprTree) → bare_name m ≡ bare_name n
    → option_map bare_type ty' ≡ option_map bare_type ty → bare_expr e' ≡ bare_expr e
    → bare_stmt (value_tree fixed p m ty' e') ≡ bare_stmt (value_tree fixed q n ty e)
value_alike true p q n m ty ty' e e' h k l = λ i. t.val nowhere (h i) (k i) (l i)
value_alike false p q n m ty ty' e e' h k l = λ i. t.var nowhere (h i) (k i) (l i)

-- ---- statements

abbrev pub StmtAlike : StmtText → StmtText → Type 0
StmtAlike = Same StmtText StmtTree IsStmt (λ s. bare_stmt (stmt_tree s))

abbrev IfTextAlike : IfText → IfText → Type 0
IfTextAlike = Same IfText StmtTree IsIf (λ s. bare_stmt (if_tree s))

abbrev ElseAlike : ElseText → ElseText → Type 0
ElseAlike = Same ElseText ElseTree IsElse (λ s. bare_else (else_tree s))

abbrev BlockAlike : BlockText → BlockText → Type 0
BlockAlike = Same BlockText StmtTrees IsBlock (λ s. bare_stmts (block_tree s))

abbrev StmtsAlike : StmtsText → StmtsText → Type 0
StmtsAlike = Same StmtsText StmtTrees AreStmts (λ s. bare_stmts (stmts_tree s))

abbrev LoopAlike : LoopText → LoopText → Type 0
LoopAlike = Same LoopText StmtTrees IsLoop (λ s. bare_stmts (loop_tree s))

mutual
  pub move_stmt : (stmt : StmtText) → Moves StmtText stmt_tokens StmtAlike stmt
  move_stmt (value fixed word n ty equals e) tokens h =
      let a = first h in
      let b = first a.behind in
      let s = split (optional typed_tokens ty) (sign kind.Equals equals ∷ expr_tokens e) b.behind in
      let y = move_optional typed_tokens TypedAlike move_typed ty s.left s.first in
      let c = first s.second in
      let m = move_expr e c.rest c.behind in
      record {
        it = value fixed a.place (named_at n b.place) y.it c.place m.it;
        spelled = consed a.is (consed b.is (joined s.is y.spelled (consed c.is m.spelled)));
        alike = record {
          fine = λ f. (f.0, if_fine IsTyped (λ x. bare_type (typed_tree x)) ty y.it y.alike f.1, m.alike.fine f.2);
          tree = value_alike fixed a.place word n (named_at n b.place) (option_map typed_tree ty) (option_map typed_tree y.it)
              (expr_tree e) (expr_tree m.it) refl
              (if_typed ty y.it y.alike) m.alike.tree;
        };
      }
  move_stmt (assignment n equals e) tokens h =
      let a = first h in
      let b = first a.behind in
      let m = move_expr e b.rest b.behind in
      record {
        it = assignment (named_at n a.place) b.place m.it;
        spelled = consed a.is (consed b.is m.spelled);
        alike = record { fine = λ f. (f.0, m.alike.fine f.1); tree = λ i. t.assignment (bare_name n) (m.alike.tree i) };
      }
  move_stmt (call n left arguments right) tokens h =
      let a = first h in
      let b = first a.behind in
      let s = split (exprs_tokens arguments) (sign kind.RightParen right ∷ []) b.behind in
      let m = move_exprs arguments s.left s.first in
      let z = only s.second in
      record {
        it = call (named_at n a.place) b.place m.it z.place;
        spelled = consed a.is (consed b.is (joined s.is m.spelled z.is));
        alike = record { fine = λ f. (f.0, m.alike.fine f.1); tree = λ i. t.call (bare_name n) (m.alike.tree i) };
      }
  move_stmt (branch text) tokens h =
      let m = move_if text tokens h in
      record { it = branch m.it; spelled = m.spelled; alike = record { fine = m.alike.fine; tree = m.alike.tree } }
  move_stmt (loop test begin invariant text end) tokens h =
      let o = split (test_tokens kind.While test ++ sign kind.LeftBrace begin ∷ invariant_tokens invariant ++ loop_tokens text)
      (sign kind.RightBrace end ∷ []) h in
      let q = split (test_tokens kind.While test ++ sign kind.LeftBrace begin ∷ invariant_tokens invariant) (loop_tokens text) o.first in
      let s = split (test_tokens kind.While test) (sign kind.LeftBrace begin ∷ invariant_tokens invariant) q.first in
      let a = move_test kind.While test s.left s.first in
      let b = first s.second in
      let v = move_invariant invariant b.rest b.behind in
      let m = move_loop text q.right q.second in
      let z = only o.second in
      record {
        it = loop a.it b.place v.it m.it z.place;
        spelled = joined o.is (joined q.is (joined s.is a.spelled (consed b.is v.spelled)) m.spelled) z.is;
        alike = record {
          fine = λ f. (a.alike.fine f.0, v.alike.fine f.1, m.alike.fine f.2);
          tree = λ i. t.loop nowhere (a.alike.tree i) (v.alike.names i) (v.alike.claims i) (m.alike.tree i);
        };
      }
  move_stmt (assertion word left claim right) tokens h =
      let a = first h in
      let b = first a.behind in
      let s = split (expr_tokens claim) (sign kind.RightParen right ∷ []) b.behind in
      let m = move_expr claim s.left s.first in
      let z = only s.second in
      record {
        it = assertion a.place b.place m.it z.place;
        spelled = consed a.is (consed b.is (joined s.is m.spelled z.is));
        alike = record { fine = m.alike.fine; tree = λ i. t.assertion nowhere (m.alike.tree i) };
      }
  move_stmt (deduction word left steps right) tokens h =
      let a = first h in
      let b = first a.behind in
      let s = split (steps_tokens steps) (sign kind.RightParen right ∷ []) b.behind in
      let m = move_steps steps s.left s.first in
      let z = only s.second in
      record {
        it = deduction a.place b.place m.it z.place;
        spelled = consed a.is (consed b.is (joined s.is m.spelled z.is));
        alike = record { fine = λ f. (m.alike.some f.0, m.alike.fine f.1); tree = λ i. t.deduction nowhere (m.alike.tree i) };
      }

  move_if : (text : IfText) → Moves IfText if_tokens IfTextAlike text
  move_if (if_then test then otherwise) tokens h =
      let o = split (test_tokens kind.If test ++ block_tokens then) (else_tokens otherwise) h in
      let s = split (test_tokens kind.If test) (block_tokens then) o.first in
      let a = move_test kind.If test s.left s.first in
      let b = move_block then s.right s.second in
      let c = move_else otherwise o.right o.second in
      record {
        it = if_then a.it b.it c.it;
        spelled = joined o.is (joined s.is a.spelled b.spelled) c.spelled;
        alike = record {
          fine = λ f. (a.alike.fine f.0, b.alike.fine f.1, c.alike.fine f.2);
          tree = λ i. t.branch nowhere (a.alike.tree i) (b.alike.tree i) (c.alike.tree i);
        };
      }

  move_else : (text : ElseText) → Moves ElseText else_tokens ElseAlike text
  move_else no_else tokens h = record { it = no_else; spelled = nothing h; alike = record { fine = λ f. f; tree = refl } }
  move_else (else_block word text) tokens h =
      let a = first h in
      let m = move_block text a.rest a.behind in
      record {
        it = else_block a.place m.it;
        spelled = consed a.is m.spelled;
        alike = record { fine = m.alike.fine; tree = λ i. t.else_then (m.alike.tree i) };
      }
  move_else (else_if word text) tokens h =
      let a = first h in
      let m = move_if text a.rest a.behind in
      record {
        it = else_if a.place m.it;
        spelled = consed a.is m.spelled;
        alike = record { fine = m.alike.fine; tree = λ i. t.else_then (t.stmt_then (m.alike.tree i) t.no_stmts) };
      }

  move_block : (text : BlockText) → Moves BlockText block_tokens BlockAlike text
  move_block (block begin stmts end) tokens h =
      let a = first h in
      let s = split (stmts_tokens stmts) (sign kind.RightBrace end ∷ []) a.behind in
      let m = move_stmts stmts s.left s.first in
      let z = only s.second in
      record {
        it = block a.place m.it z.place;
        spelled = consed a.is (joined s.is m.spelled z.is);
        alike = record { fine = m.alike.fine; tree = m.alike.tree };
      }

  move_stmts : (stmts : StmtsText) → Moves StmtsText stmts_tokens StmtsAlike stmts
  move_stmts no_stmts tokens h = record { it = no_stmts; spelled = nothing h; alike = record { fine = λ f. f; tree = refl } }
  move_stmts (last_stmt stmt) tokens h =
      let m = move_stmt stmt tokens h in
      record { it = last_stmt m.it; spelled = m.spelled; alike = record { fine = m.alike.fine; tree = λ i. t.stmt_then (m.alike.tree i) t.no_stmts } }
  move_stmts (stmt_then stmt newline more) tokens h =
      let s = split (stmt_tokens stmt) (sign kind.Newline newline ∷ stmts_tokens more) h in
      let m = move_stmt stmt s.left s.first in
      let b = first s.second in
      let r = move_stmts more b.rest b.behind in
      record {
        it = stmt_then m.it b.place r.it;
        spelled = joined s.is m.spelled (consed b.is r.spelled);
        alike = record { fine = λ f. (m.alike.fine f.0, r.alike.fine f.1); tree = λ i. t.stmt_then (m.alike.tree i) (r.alike.tree i) };
      }

  move_loop : (text : LoopText) → Moves LoopText loop_tokens LoopAlike text
  move_loop no_body tokens h = record { it = no_body; spelled = nothing h; alike = record { fine = λ f. f; tree = refl } }
  move_loop (body newline stmts) tokens h =
      let a = first h in
      let m = move_stmts stmts a.rest a.behind in
      record { it = body a.place m.it; spelled = consed a.is m.spelled; alike = record { fine = m.alike.fine; tree = m.alike.tree } }
