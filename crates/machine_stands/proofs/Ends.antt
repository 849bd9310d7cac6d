-- Statements, blocks, bodies and contracts at their ends.
use Rattle.machine_stands.proofs.Tokens.{is_sign, is_of_name, both_true, is_of_number}
use Rattle.machine_stands.proofs.Fronts.{Folded, Each, Front, Whole, one_last, separator, grow, every, WholeOf, front_is_whole, last_is_whole}
use Rattle.machine_stands.proofs.Opened.{Sign, Named, Tested, Decls, header_tokens, PartFits, part_step, BodyBegin, LastPart, ClauseFits, clause_step, ContractBegin, Then, Else, InvariantIs, LoopBegin, OpenIn, OpenTarget}
use Rattle.machine_stands.proofs.Inside.{In, EndIn, IsInner, LabelIs}
use Rattle.machine_stands.proofs.Stands.{Stands}
use Rattle.machine_stands.proofs.Gathered.{gather_stmts}
use Rattle.slang_grammar.specs.Parts.{members, listed, is_plain, is_label}
use Rattle.slang_grammar.specs.Expressions.{number, result, expr_tokens}
use Rattle.slang_grammar.specs.Statements.{block, claims_behind_trees, invariant_tokens, StmtText, branch, loop, IfText, if_then, ElseText, else_block, else_if, BlockText, LoopText, body, stmt_tokens, if_tokens, else_tokens, block_tokens, stmts_tokens, loop_tokens, IsStmt, IsIf, IsElse, IsBlock, IsLoop, stmt_tree, if_tree, else_tree, block_tree, loop_tree}
use Rattle.slang_grammar.specs.Declarations.{ClauseText, clause_tokens, IsClause, clause_order, ContractText, Ascends, PartText, contract_part, stmt_part, part_tokens, IsPart, order_behind, InOrder, MethodText, method_text, with_clause, with_clauses, with_part, with_parts}
use Rattle.slang_machine.specs.Open.{Draft, Block, body_of, then_of, else_of, loop_of, Target, in_block, behind_else, Within, with_stmt, put}
use Rattle.slang_machine.specs.States.{State}
use Rattle.slang_machine.specs.Expressions.{is, is_name, name_of, on}
use Rattle.slang_machine.specs.Statements.{with_method, end_method, after_stmt_in, after_stmt, end_block, label_of}
use Rattle.slang_tree.specs.ExprTree.{ExprTree}
use Rattle.slang_tree.specs.StmtTree.{StmtTree, StmtTrees, stmts_of}
use Rattle.slang_tree.specs.DeclTree.{MethodDeclTree}
use Rattle.slang_tree.specs.declared.place.Place.{Place}
use Rattle.slang_tree.specs.declared.expression.Name.{Name}
use Rattle.slang_tree.specs.declared.statement.Label.{Label}
use Rattle.slang_lexer.specs.declared.token.TokenKind.{TokenKind}
use Rattle.slang_tokens.specs.Tok.{Tok, sign, same_kind}
use Rattle.slang_tokens.proofs.Bare.{IsBare}
use Rattle.std.proofs.Common.{◌≡◌, ℕ, Bool, true, false, ◌&&◌, List, [], ◌∷◌, ◌++◌, refl, sym, ap, ◌∙◌, subst, append_assoc, suc}
use Rattle.slang_lexer.specs.Next.{value_of as number_value}
use Rattle.std.specs.List.{AllByRecursion}
use Rattle.std.specs.Option.{option_map, IfSome}
use Rattle.slang_tree.specs.DeclTree as d
use Rattle.slang_lexer.specs.declared.token.TokenKind.TheVariants as kind
use Rattle.slang_tree.specs.StmtTree as s

-- Behind a token of this kind.

pub at_step : (k : TokenKind) (token : Tok) (rest : List Tok) (K : List Tok → Type 0) → same_kind k kind.Name ≡ false → same_kind k kind.Number ≡ false
    → IsBare token → is k token ≡ true → K (token ∷ rest) → K (sign k token.place ∷ rest)
at_step k token rest K n m bare b h = subst (λ t. K (t ∷ rest)) (is_sign k token n m bare b) h

pub sign_step : (k : TokenKind) (token : Tok) (rest : List Tok) (K : List Tok → Type 0) → same_kind k kind.Name ≡ false → same_kind k kind.Number ≡ false
    → IsBare token → is k token ≡ true → K (token ∷ rest) → Sign k K rest
sign_step k token rest K n m bare b h = record { place = token.place; opened = at_step k token rest K n m bare b h }

pub name_step : (token : Tok) (rest : List Tok) (K : List Tok → Type 0) → is_name token ≡ true → K (token ∷ rest) → Named (name_of token) K rest
name_step token rest K b h =
    let both = both_true (is kind.Name token) (is_plain token.text) b in
    record { plain = both.1; opened = subst (λ t. K (t ∷ rest)) (is_of_name token both.0) h }

pub label_case : (token : Tok) (rest : List Tok) (K : List Tok → Type 0) (f : Label → State) (P : State → Type 0) → K (token ∷ rest)
    → ((label : Label) → LabelIs label K rest → P (f label)) → IfSome (option_map f (label_of token)) P
label_case token rest K f P h then_so = by (is kind.Number token && is_label token.text) refl where
  by : (b : Bool) → (is kind.Number token && is_label token.text) ≡ b
      → IfSome (option_map f (on b (record { place = token.place; number = number_value token.text }))) P
  by true e =
      let both = both_true (is kind.Number token) (is_label token.text) e in
      then_so (record { place = token.place; number = number_value token.text }) (record {
        text = record { digits = token.text; place = token.place };
        fits = both.1;
        same = refl;
        opened = subst (λ t. K (t ∷ rest)) (is_of_number token both.0) h;
      })
  by false e = tt

-- Statements.

pub stmt_done : (all : List Tok) (inner : Block) (stmts : List StmtTree) (text : StmtText) (rest : List Tok) → IsStmt text
    → OpenIn all inner stmts (stmt_tokens text ++ rest) → EndIn all inner (stmts ++ stmt_tree text ∷ []) rest
stmt_done all (body_of draft) stmts text rest fits h = record {
  bare = h.opened.bare;
  parts = one_last kind.Newline part_tokens PartFits part_step (0, h.opened.bare) (BodyBegin all draft.done h.opened.bare)
      (h.least, record draft.method { body = stmts }) (stmt_part text) rest (h.no_return, fits) h.opened.parts;
}
stmt_done all (then_of place test target) stmts text rest fits h = one_last _ stmt_tokens (every IsStmt) (grow stmt_tree) [] _ stmts text rest fits h
stmt_done all (else_of place test on_true target) stmts text rest fits h = one_last _ stmt_tokens (every IsStmt) (grow stmt_tree) [] _ stmts text rest fits h
stmt_done all (loop_of place test modifies claims before outer) stmts text rest fits h =
    one_last _ stmt_tokens (every IsStmt) (grow stmt_tree) [] _ stmts text rest fits h

pub stands_in : (all : List Tok) (inner : Block) (stmts : List StmtTree) (rest : List Tok) → EndIn all inner stmts rest
    → Stands all (after_stmt_in stmts inner) rest
stands_in all (body_of draft) stmts rest h = h
stands_in all (then_of place test target) stmts rest h = (tt, h)
stands_in all (else_of place test on_true target) stmts rest h = (tt, h)
stands_in all (loop_of place test modifies claims before outer) stmts rest h = (tt, h)

abbrev pub EndAt : List Tok → Within → List Tok → Type 0
EndAt all at rest = EndIn all at.block at.stmts rest

pub stands_after : (all : List Tok) (at : Within) (rest : List Tok) → EndAt all at rest → Stands all (after_stmt at) rest
stands_after all at rest h = stands_in all at.block at.stmts rest h

-- a statement with this tree is done
pub stmt_ends : (all : List Tok) (at : Within) (text : StmtText) (tree : StmtTree) (rest : List Tok) → IsStmt text → stmt_tree text ≡ tree
    → In all at (stmt_tokens text ++ rest) → EndAt all (with_stmt at tree) rest
stmt_ends all at text tree rest fits same h = subst (λ t. EndAt all (with_stmt at t) rest) same (stmt_done all at.block at.stmts text rest fits h)

-- If-statements.

regroup_if : (x b t : List Tok) (r : Tok) (rest : List Tok) → x ++ r ∷ (b ++ (t ++ rest)) ≡ (((x ++ r ∷ []) ++ b) ++ t) ++ rest
regroup_if x b t r rest = simp append_assoc

-- behind an if-statement with this tree
pub record IfIs (tree : StmtTree) (K : List Tok → Type 0) (rest : List Tok) : Type 0 where
  pub text : IfText
  pub fits : IsIf text
  pub same : if_tree text ≡ tree
  pub opened : K (if_tokens text ++ rest)

pub if_is : (place : Place) (test : ExprTree) (on_true : StmtTrees) (K : List Tok → Type 0) (otherwise : ElseText) (rest : List Tok) → IsElse otherwise
    → Then place test on_true K (else_tokens otherwise ++ rest) → IfIs (s.branch place test on_true (else_tree otherwise)) K rest
if_is place test on_true K otherwise rest fits h =
    let tested = h.opened in
    let left = tested.opened.opened.place in
    record {
      text = if_then (record { word = place; left = left; test = tested.opened.text; right = tested.place }) h.text otherwise;
      fits = (tested.opened.grouped, h.fits, fits);
      same = ap (λ t. s.branch place t (block_tree h.text) (else_tree otherwise)) tested.opened.same
          ∙ ap (λ b. s.branch place test b (else_tree otherwise)) h.same;
      opened = subst (λ x. K (sign kind.If place ∷ sign kind.LeftParen left ∷ x))
          (regroup_if (expr_tokens tested.opened.text) (block_tokens h.text) (else_tokens otherwise) (sign kind.RightParen tested.place) rest)
          tested.opened.opened.opened;
    }

-- an if-statement goes to its place
pub put_done : (all : List Tok) (target : Target) (tree : StmtTree) (rest : List Tok) → IfIs tree (OpenTarget all target) rest
    → EndAt all (put target tree) rest
put_done all (in_block stmts inner) tree rest h = stmt_ends all (record { stmts = stmts; block = inner }) (branch h.text) tree rest h.fits h.same h.opened
put_done all (behind_else place test on_true target) tree rest h =
    let outer = h.opened in
    put_done all target (s.branch place test on_true (s.else_then (s.stmt_then tree s.no_stmts))) rest
    (subst (λ t. IfIs (s.branch place test on_true (s.else_then (s.stmt_then t s.no_stmts))) (OpenTarget all target) rest) h.same
    (if_is place test on_true (OpenTarget all target) (else_if outer.place h.text) rest h.fits outer.opened))

-- behind a block with these statements
pub record BlockIs (trees : StmtTrees) (K : List Tok → Type 0) (rest : List Tok) : Type 0 where
  pub text : BlockText
  pub fits : IsBlock text
  pub same : block_tree text ≡ trees
  pub opened : K (block_tokens text ++ rest)

block_is : (K : List Tok → Type 0) (stmts : List StmtTree) (end : Place) (rest : List Tok)
    → WholeOf kind.Newline stmt_tokens IsStmt stmt_tree (Sign kind.LeftBrace K) stmts (sign kind.RightBrace end ∷ rest) → BlockIs (stmts_of stmts) K rest
block_is K stmts end rest h =
    let within = gather_stmts (Sign kind.LeftBrace K) stmts (sign kind.RightBrace end ∷ rest) h in
    let begun = within.opened in
    record {
      text = block begun.place within.text end;
      fits = within.fits;
      same = within.same;
      opened = subst (λ x. K (sign kind.LeftBrace begun.place ∷ x)) (sym (append_assoc (stmts_tokens within.text) (sign kind.RightBrace end ∷ []) rest))
          begun.opened;
    }

-- Loops.

regroup_loop : (x i l : List Tok) (r b f : Tok) (rest : List Tok) → x ++ r ∷ (b ∷ (i ++ (l ++ f ∷ rest))) ≡ ((((x ++ r ∷ []) ++ b ∷ i) ++ l) ++ f ∷ []) ++ rest
regroup_loop x i l r b f rest = simp append_assoc

pub loop_done : (all : List Tok) (place : Place) (test : ExprTree) (modifies : List Name) (claims : List ExprTree) (at : Within) (text : LoopText)
    (end : Place) (rest : List Tok) → IsLoop text
    → InvariantIs modifies claims (LoopBegin place test (In all at)) (loop_tokens text ++ sign kind.RightBrace end ∷ rest)
    → EndAt all (with_stmt at (s.loop place test modifies claims (loop_tree text))) rest
loop_done all place test modifies claims at text end rest fits h =
    let begun = h.opened in
    let tested = begun.opened in
    let left = tested.opened.opened.place in
    stmt_ends all at (loop (record { word = place; left = left; test = tested.opened.text; right = tested.place }) begun.place h.text text end)
    (s.loop place test modifies claims (loop_tree text)) rest (tested.opened.grouped, h.fits, fits)
    (ap (λ t. s.loop place t (members h.text.names.names) (claims_behind_trees h.text.claims) (loop_tree text)) tested.opened.same
    ∙ ap (λ names. s.loop place test names (claims_behind_trees h.text.claims) (loop_tree text)) h.same_names
    ∙ ap (λ c. s.loop place test modifies c (loop_tree text)) h.same_claims)
    (subst (λ x. In all at (sign kind.While place ∷ sign kind.LeftParen left ∷ x))
    (regroup_loop (expr_tokens tested.opened.text) (invariant_tokens h.text) (loop_tokens text) (sign kind.RightParen tested.place)
    (sign kind.LeftBrace begun.place) (sign kind.RightBrace end) rest) tested.opened.opened.opened)

-- Blocks at their ends.

abbrev pub InnerBegin : List Tok → Block → List Tok → Type 0
InnerBegin all (body_of draft) rest = ⊥
InnerBegin all (then_of place test target) rest = Sign kind.LeftBrace (Tested kind.If place test (OpenTarget all target)) rest
InnerBegin all (else_of place test on_true target) rest = Sign kind.LeftBrace (Else place test on_true (OpenTarget all target)) rest
InnerBegin all (loop_of place test modifies claims before outer) rest =
    Sign kind.Newline (InvariantIs modifies claims (LoopBegin place test (OpenIn all outer before))) rest

abbrev pub WholeIn : List Tok → Block → List StmtTree → List Tok → Type 0
WholeIn all inner stmts rest = WholeOf kind.Newline stmt_tokens IsStmt stmt_tree (InnerBegin all inner) stmts rest

pub whole_open : (all : List Tok) (inner : Block) (stmts : List StmtTree) (rest : List Tok) → IsInner inner → OpenIn all inner stmts rest
    → WholeIn all inner stmts rest
whole_open all (body_of draft) stmts rest i h = absurd i
whole_open all (then_of place test target) stmts rest i h = front_is_whole _ _ _ _ _ stmts rest h
whole_open all (else_of place test on_true target) stmts rest i h = front_is_whole _ _ _ _ _ stmts rest h
whole_open all (loop_of place test modifies claims before outer) stmts rest i h = front_is_whole _ _ _ _ _ stmts rest h

pub whole_end : (all : List Tok) (inner : Block) (stmts : List StmtTree) (rest : List Tok) → IsInner inner → EndIn all inner stmts rest
    → WholeIn all inner stmts rest
whole_end all (body_of draft) stmts rest i h = absurd i
whole_end all (then_of place test target) stmts rest i h = last_is_whole _ _ _ _ _ stmts rest h
whole_end all (else_of place test on_true target) stmts rest i h = last_is_whole _ _ _ _ _ stmts rest h
whole_end all (loop_of place test modifies claims before outer) stmts rest i h = last_is_whole _ _ _ _ _ stmts rest h

pub block_ends : (all : List Tok) (inner : Block) (stmts : List StmtTree) (end : Place) (rest : List Tok) → IsInner inner
    → WholeIn all inner stmts (sign kind.RightBrace end ∷ rest) → IfSome (end_block stmts inner) (λ state. Stands all state rest)
block_ends all (body_of draft) stmts end rest i h = absurd i
block_ends all (then_of place test target) stmts end rest i h =
    let b = block_is (Tested kind.If place test (OpenTarget all target)) stmts end rest h in
    record { text = b.text; fits = b.fits; same = b.same; opened = b.opened }
block_ends all (else_of place test on_true target) stmts end rest i h =
    let b = block_is (Else place test on_true (OpenTarget all target)) stmts end rest h in
    let outer = b.opened in
    let tree : StmtTree = s.branch place test on_true (s.else_then (stmts_of stmts)) in
    stands_after all (put target tree) rest (put_done all target tree rest
    (subst (λ t. IfIs (s.branch place test on_true (s.else_then t)) (OpenTarget all target) rest) b.same
    (if_is place test on_true (OpenTarget all target) (else_block outer.place b.text) rest b.fits outer.opened)))
block_ends all (loop_of place test modifies claims before outer) stmts end rest i h =
    let at : Within = record { stmts = before; block = outer } in
    let within = gather_stmts (InnerBegin all (loop_of place test modifies claims before outer)) stmts (sign kind.RightBrace end ∷ rest) h in
    let begun = within.opened in
    let tree : StmtTree = s.loop place test modifies claims (stmts_of stmts) in
    stands_after all (with_stmt at tree) rest
    (subst (λ b. EndAt all (with_stmt at (s.loop place test modifies claims b)) rest) within.same
    (loop_done all place test modifies claims at (body begun.place within.text) end rest within.fits begun.opened))

-- the next statement of a block
pub next_in : (all : List Tok) (inner : Block) (stmts : List StmtTree) (newline : Place) (rest : List Tok) → IsInner inner
    → EndIn all inner stmts (sign kind.Newline newline ∷ rest) → OpenIn all inner stmts rest
next_in all (body_of draft) stmts newline rest i h = absurd i
next_in all (then_of place test target) stmts newline rest i h = separator _ _ _ _ _ _ stmts newline rest h
next_in all (else_of place test on_true target) stmts newline rest i h = separator _ _ _ _ _ _ stmts newline rest h
next_in all (loop_of place test modifies claims before outer) stmts newline rest i h = separator _ _ _ _ _ _ stmts newline rest h

-- Bodies and contracts.

parts_in_order : (least : ℕ) (method : MethodDeclTree) (parts : List PartText) → Each PartFits part_step (least, method) parts
    → InOrder least parts × AllByRecursion IsPart parts
parts_in_order least method [] e = (tt, tt)
parts_in_order least method (part ∷ more) e =
    let behind_part = parts_in_order (order_behind part) (with_part method part) more e.1 in
    ((e.0.0, behind_part.0), (e.0.1, behind_part.1))

parts_folded : (least : ℕ) (method : MethodDeclTree) (parts : List PartText) → (Folded part_step (least, method) parts).1 ≡ with_parts method parts
parts_folded least method [] = refl
parts_folded least method (part ∷ more) = parts_folded (order_behind part) (with_part method part) more

clauses_ascend : (least : ℕ) (method : MethodDeclTree) (clauses : List ClauseText) → Each ClauseFits clause_step (least, method) clauses
    → Ascends least clauses × AllByRecursion IsClause clauses
clauses_ascend least method [] e = (tt, tt)
clauses_ascend least method (clause ∷ more) e =
    let behind_clause = clauses_ascend (suc (clause_order clause)) (with_clause method clause) more e.1 in
    ((e.0.0, behind_clause.0), (e.0.1, behind_clause.1))

clauses_folded : (least : ℕ) (method : MethodDeclTree) (clauses : List ClauseText) → (Folded clause_step (least, method) clauses).1 ≡ with_clauses method clauses
clauses_folded least method [] = refl
clauses_folded least method (clause ∷ more) = clauses_folded (suc (clause_order clause)) (with_clause method clause) more

regroup_method : (x y : List Tok) (q b f : Tok) (rest : List Tok) → x ++ q ∷ b ∷ (y ++ f ∷ rest) ≡ ((x ++ q ∷ b ∷ y) ++ f ∷ []) ++ rest
regroup_method x y q b f rest = simp append_assoc

pub method_ends : (all : List Tok) (least : ℕ) (draft : Draft) (bare : MethodDeclTree) (end : Place) (rest : List Tok)
    → Whole kind.Newline part_tokens PartFits part_step (0, bare) (BodyBegin all draft.done bare) (least, draft.method) (sign kind.RightBrace end ∷ rest)
    → Stands all (end_method draft) rest
method_ends all least draft bare end rest h =
    let begun = h.opened in
    let head = begun.opened.opened in
    let fit = parts_in_order 0 bare (members h.list) h.each in
    let text : MethodText = record {
      word = head.text.word;
      written = head.text.written;
      left = head.text.left;
      params = head.text.params;
      right = head.text.right;
      result = head.text.result;
      equals = begun.opened.place;
      begin = begun.place;
      body = h.list;
      end = end;
    } in
    record {
      before = draft.done;
      member = method_text text;
      fits = (head.fits.0, head.fits.1, head.fits.2, fit.0, fit.1);
      same = ap (λ m. draft.done ++ d.method_decl m ∷ []) (ap (λ m. with_parts m (members h.list)) head.same
          ∙ sym (parts_folded 0 bare (members h.list)) ∙ ap (λ (p : ℕ × MethodDeclTree). p.1) h.same);
      opened = subst (Decls all draft.done) (regroup_method (header_tokens head.text) (listed kind.Newline part_tokens h.list)
          (sign kind.Equals begun.opened.place) (sign kind.LeftBrace begun.place) (sign kind.RightBrace end) rest) head.opened;
    }

pub contract_ends : (all : List Tok) (least : ℕ) (draft : Draft) (bare : MethodDeclTree) (right : Place) (rest : List Tok)
    → Whole kind.Comma clause_tokens ClauseFits clause_step (0, bare) (Sign kind.LeftParen (ContractBegin all (with_method draft bare))) (least, draft.method)
    (sign kind.RightParen right ∷ rest)
    → LastPart all 1 draft rest
contract_ends all least draft bare right rest h =
    let begun = h.opened in
    let word = begun.opened in
    let fit = clauses_ascend 0 bare (members h.list) h.each in
    let text : ContractText = record { word = word.opened.place; left = begun.place; clauses = h.list; right = right } in
    record {
      bare = word.opened.opened.bare;
      parts = record {
        before = (word.least, bare);
        member = contract_part text;
        fits = (word.is_first, fit);
        same = ap (λ (m : MethodDeclTree). (1, m)) (sym (clauses_folded 0 bare (members h.list)) ∙ ap (λ (p : ℕ × MethodDeclTree). p.1) h.same);
        opened = subst (λ x. Front kind.Newline part_tokens PartFits part_step (0, word.opened.opened.bare)
            (BodyBegin all draft.done word.opened.opened.bare) (word.least, bare) (sign kind.Contract word.opened.place ∷ sign kind.LeftParen begun.place ∷ x))
            (sym (append_assoc (listed kind.Comma clause_tokens h.list) (sign kind.RightParen right ∷ []) rest)) word.opened.opened.parts;
      };
    }
