-- What the grammar accounts for as an expression, the machine reads.
use Rattle.std.proofs.Common.{◌≡◌, ◌<◌, Bool, true, false, not, List, [], ◌∷◌, ◌++◌, Option, Some, None, pos, refl, sym, ap, ◌∙◌, append_assoc, append-nil, arith, cond}
use Rattle.std.specs.Prelude.{option_and_then}
use Rattle.std.proofs.lemmas.Bool.{lt-ltb}
use Rattle.slang_lexer.specs.declared.token.TokenKind.TheVariants as kind
use Rattle.slang_lexer.specs.Next.{value_of as number_value}
use Rattle.slang_tree.specs.declared.place.Place.{Place}
use Rattle.slang_tree.specs.ExprTree as e
use Rattle.slang_tree.specs.ExprTree.{ExprTree, place_of}
use Rattle.slang_tokens.specs.Tok.{Tok, sign}
use Rattle.slang_grammar.specs.declared.operator.Side.TheVariants.{Left, Right}
use Rattle.slang_grammar.specs.Operators.{infix_of}
use Rattle.slang_grammar.specs.Parts.{name_token, number_token, type_tokens, type_tree}
use Rattle.slang_grammar.specs.Expressions.{quantifier_of, ExprText, truth, falsity, variable, number, result, entry_value, old_value, sequence, quantified, quantified_indices, bracketed, application as applied, update, field, prefixed, binary, ExprsText, no_exprs, last_expr, expr_then, expr_tokens, exprs_tokens, expr_tree, expr_trees, IsGrouped, AreGrouped, indices_token}
use Rattle.slang_machine.specs.Open.{Around, alone, inside, under, right_of, argument_of, element_at, low_of, high_of, body_over, body_over_indices, whole_type, of_result, of_elements, held, pull, Grown, grown, close, infix_tree}
use Rattle.slang_machine.specs.States.{whole, dotted, between, indices_of, entry_word, old_word, State, want, have, argument_or_end, element_or_end, field_written, want_type}
use Rattle.slang_machine.specs.Expressions.{is, next_begin, operand_tree, next_operator, next_ended, range_of, application, on}
use Rattle.slang_machine.specs.Statements.{next_whole}
use Rattle.slang_machine.specs.Machine.{run}
use Rattle.machine_expressions.specs.Laws.{ExpressionsAreRead}
use Rattle.slang_machine.proofs.Operators.{strength, strength-near, tight_strong, operand_pulls, in_table, pull-small}
use Rattle.machine_expressions.proofs.Behind.{close_held, no_bracket, ReadAs, after_operator, no_range_at, Behind, paren_behind, comma_behind, until_behind, arrow_behind, read_type, want_under, name_leaf, held_tight, want_quantifier, read_value, read_bound}
use Rattle.machine_expressions.proofs.Starts.{IsList, arguments_list, elements_list, starts_member, exprs_trees, result_ends, range_read, itself}

mutual
  pub read_expr : (text : ExprText) (around : Around) → IsGrouped text → held around < strength Left text → ReadAs around text
  read_expr (number digits place) around g b = itself around (number digits place) (λ rest h.
      ap (λ b. option_and_then (λ s. run s rest) (next_begin around (number_token digits place) (cond b (Some (e.number place (pos
      (number_value digits)))) None) None)) g)
  read_expr (truth place) around g b = itself around (truth place) (λ rest h. refl)
  read_expr (falsity place) around g b = itself around (falsity place) (λ rest h. refl)
  read_expr (variable n) around g b = itself around (variable n) (λ rest h. name_leaf n around rest g)
  read_expr (result word None) around g b = itself around (result word None) (λ rest h. result_ends word around rest h)
  read_expr (result word (Some t)) around g b = itself around (result word (Some t)) (λ rest h.
      ap (run (want_type (whole_type (of_result word around)))) (append_assoc (type_tokens t.ty) (sign kind.RightBracket t.right ∷ []) rest)
      ∙ read_type t.ty (whole_type (of_result word around)) (sign kind.RightBracket t.right ∷ rest) g)
  read_expr (entry_value word left n right) around g b =
      itself around (entry_value word left n right) (λ rest h. read_value entry_word word left n right around rest g)
  read_expr (old_value word left n right) around g b =
      itself around (old_value word left n right) (λ rest h. read_value old_word word left n right around rest g)
  read_expr (sequence word None left elements right) around g b = itself around (sequence word None left elements right) (λ rest h.
      ap (run (element_or_end word None [] around)) (append_assoc (exprs_tokens elements) (sign kind.RightParen right ∷ []) rest)
      ∙ read_exprs _ _ _ (elements_list word None around) elements [] right rest g.1
      ∙ ap (λ trees. run (have (whole (e.sequence word None trees)) around) rest) (exprs_trees elements))
  read_expr (sequence word (Some t) left elements right) around g b = itself around (sequence word (Some t) left elements right) (λ rest h.
      let close : List Tok = sign kind.RightParen right ∷ rest in
      let list : List Tok = sign kind.LeftParen left ∷ exprs_tokens elements in
      ap (run (want_type (whole_type (of_elements word around))))
      (append_assoc ((type_tokens t.ty ++ sign kind.RightBracket t.right ∷ []) ++ list) (sign kind.RightParen right ∷ []) rest
      ∙ append_assoc (type_tokens t.ty ++ sign kind.RightBracket t.right ∷ []) list close
      ∙ append_assoc (type_tokens t.ty) (sign kind.RightBracket t.right ∷ []) (list ++ close))
      ∙ read_type t.ty (whole_type (of_elements word around)) (sign kind.RightBracket t.right ∷ list ++ close) g.0
      ∙ read_exprs _ _ _ (elements_list word (Some (type_tree t.ty)) around) elements [] right rest g.1
      ∙ ap (λ trees. run (have (whole (e.sequence word (Some (type_tree t.ty)) trees)) around) rest) (exprs_trees elements))
  read_expr (quantified by word left low until high right bound body) around g b =
      itself around (quantified by word left low until high right bound body) (λ rest h.
      let q = quantifier_of by in
      let ending : List Tok = sign kind.RightParen bound.right ∷ rest in
      let behind : List Tok = sign kind.LeftParen bound.left ∷ name_token bound.variable ∷ sign kind.FatArrow bound.arrow ∷ expr_tokens body
      ++ sign kind.RightParen bound.right ∷ [] in
      let first = read_expr low (low_of q word around) g.0 (strength-near Left Right low).0 in
      let second = read_expr high (high_of q word (expr_tree low) around) g.1 (strength-near Left Right high).0 in
      let third = read_expr body (body_over q word (expr_tree low) (expr_tree high) bound.variable around) g.3 (strength-near Left Right body).0 in
      want_quantifier by word around (sign kind.LeftParen left ∷ (((expr_tokens low ++ sign kind.Until until ∷ expr_tokens high)
      ++ sign kind.RightParen right ∷ behind) ++ rest))
      ∙ ap (run (want (low_of q word around)))
      (append_assoc (expr_tokens low ++ sign kind.Until until ∷ expr_tokens high) (sign kind.RightParen right ∷ behind) rest
      ∙ append_assoc (expr_tokens low) (sign kind.Until until ∷ expr_tokens high) (sign kind.RightParen right ∷ behind ++ rest))
      ∙ first.reads (sign kind.Until until ∷ expr_tokens high ++ (sign kind.RightParen right ∷ behind ++ rest)) refl
      ∙ until_behind (low_of q word around) until first.operand first.left (expr_tree low) _ (first.closes 0 (strength-near Right Left low).0)
      ∙ second.reads (sign kind.RightParen right ∷ behind ++ rest) refl
      ∙ paren_behind (high_of q word (expr_tree low) around) (λ by place outer e. cc (e)) right second.operand second.left (expr_tree high) (behind
      ++ rest) (second.closes 0 (strength-near Right Left high).0)
      ∙ read_bound q word (between (expr_tree low) (expr_tree high)) bound around ((expr_tokens body ++ sign kind.RightParen bound.right ∷ []) ++ rest) g.2
      ∙ ap (run (want (body_over q word (expr_tree low) (expr_tree high) bound.variable around))) (append_assoc (expr_tokens body)
      (sign kind.RightParen bound.right ∷ []) rest)
      ∙ third.reads ending refl
      ∙ paren_behind (body_over q word (expr_tree low) (expr_tree high) bound.variable around) (λ by place outer e. cc
      (e)) bound.right third.operand third.left (expr_tree body) rest (third.closes 0 (strength-near Right Left body).0))
  read_expr (quantified_indices by word left head dot indices right bound body) around g b =
      itself around (quantified_indices by word left head dot indices right bound body) (λ rest h.
      let q = quantifier_of by in
      let ending : List Tok = sign kind.RightParen bound.right ∷ rest in
      let behind : List Tok = sign kind.LeftParen bound.left ∷ name_token bound.variable ∷ sign kind.FatArrow bound.arrow ∷ expr_tokens body
      ++ sign kind.RightParen bound.right ∷ [] in
      let first = read_expr head (low_of q word around) g.1 (strength-near Left Right head).0 in
      let tight = first.tight g.0 in
      let third = read_expr body (body_over_indices q word (expr_tree head) bound.variable around) g.3 (strength-near Left Right body).0 in
      want_quantifier by word around (sign kind.LeftParen left ∷ ((expr_tokens head ++ sign kind.Dot dot ∷ indices_token indices
      ∷ sign kind.RightParen right ∷ behind) ++ rest))
      ∙ ap (run (want (low_of q word around))) (append_assoc (expr_tokens head) (sign kind.Dot dot ∷ indices_token indices ∷ sign kind.RightParen right
      ∷ behind) rest)
      ∙ first.reads (sign kind.Dot dot ∷ indices_token indices ∷ sign kind.RightParen right ∷ behind ++ rest) refl
      ∙ ap (λ a. run (have first.operand a) (sign kind.Dot dot ∷ indices_token indices ∷ sign kind.RightParen right ∷ behind ++ rest)) tight.0
      ∙ ap (λ t. run (field_written t (low_of q word around)) (indices_token indices ∷ sign kind.RightParen right ∷ behind ++ rest)) tight.1
      ∙ range_read q word (expr_tree head) indices right around (behind ++ rest)
      ∙ read_bound q word (indices_of (expr_tree head)) bound around ((expr_tokens body ++ sign kind.RightParen bound.right ∷ []) ++ rest) g.2
      ∙ ap (run (want (body_over_indices q word (expr_tree head) bound.variable around))) (append_assoc (expr_tokens body)
      (sign kind.RightParen bound.right ∷ []) rest)
      ∙ third.reads ending refl
      ∙ paren_behind (body_over_indices q word (expr_tree head) bound.variable around) (λ by place outer e. cc (e)) bound.right third.operand third.left
      (expr_tree body) rest (third.closes 0 (strength-near Right Left body).0))
  read_expr (bracketed left inner right) around g b = itself around (bracketed left inner right) (λ rest h.
      let within = read_expr inner (inside around) g (strength-near Left Right inner).0 in
      ap (run (want (inside around))) (append_assoc (expr_tokens inner) (sign kind.RightParen right ∷ []) rest)
      ∙ within.reads (sign kind.RightParen right ∷ rest) refl
      ∙ paren_behind (inside around) (λ by place outer e. cc (e)) right within.operand within.left (expr_tree inner) rest (within.closes 0
      (strength-near Right Left inner).0))
  read_expr (applied head left arguments right) around g b =
      let inner = read_expr head around g.1 (held_tight around head g.1 g.0 b) in
      let tight = inner.tight g.0 in
      let list : List Tok = sign kind.LeftParen left ∷ exprs_tokens arguments in
      itself around (applied head left arguments right) (λ rest h.
      ap (run (want around)) (append_assoc (expr_tokens head ++ list) (sign kind.RightParen right
      ∷ []) rest ∙ append_assoc (expr_tokens head) list (sign kind.RightParen right ∷ rest))
      ∙ inner.reads (list ++ sign kind.RightParen right ∷ rest) refl
      ∙ ap (λ a. run (argument_or_end (operand_tree inner.operand) [] a) (exprs_tokens arguments ++ sign kind.RightParen right ∷ rest)) tight.0
      ∙ ap (λ t. run (argument_or_end t [] around) (exprs_tokens arguments ++ sign kind.RightParen right ∷ rest)) tight.1
      ∙ read_exprs _ _ _ (arguments_list (expr_tree head) around) arguments [] right rest g.2
      ∙ ap (λ trees. run (have (whole (e.application (place_of (expr_tree head)) (expr_tree head) trees)) around) rest) (exprs_trees arguments))
  read_expr (update head left index arrow element right) around g b =
      let inner = read_expr head around g.1 (held_tight around head g.1 g.0 b) in
      let tight = inner.tight g.0 in
      let first = read_expr index (argument_of (expr_tree head) [] around) g.2 (strength-near Left Right index).0 in
      let second = read_expr element (element_at (expr_tree head) (expr_tree index) around) g.3 (strength-near Left Right element).0 in
      itself around (update head left index arrow element right) (λ rest h.
      let close : List Tok = sign kind.RightParen right ∷ rest in
      let more : List Tok = sign kind.TildeArrow arrow ∷ expr_tokens element in
      let list : List Tok = sign kind.LeftParen left ∷ expr_tokens index in
      ap (run (want around)) (append_assoc ((expr_tokens head ++ list) ++ more) (sign kind.RightParen right ∷ []) rest
      ∙ append_assoc (expr_tokens head ++ list) more close ∙ append_assoc (expr_tokens head) list (more ++ close))
      ∙ inner.reads (list ++ (more ++ close)) refl
      ∙ ap (λ a. run (argument_or_end (operand_tree inner.operand) [] a) (expr_tokens index ++ (more ++ close))) tight.0
      ∙ ap (λ t. run (argument_or_end t [] around) (expr_tokens index ++ (more ++ close))) tight.1
      ∙ starts_member _ _ _ (arguments_list (expr_tree head) around) [] index (more ++ close)
      ∙ first.reads (more ++ close) refl
      ∙ arrow_behind (argument_of (expr_tree head) [] around) arrow first.operand first.left (expr_tree index) (expr_tokens element
      ++ close) (first.closes 0 (strength-near Right Left index).0)
      ∙ second.reads close refl
      ∙ paren_behind (element_at (expr_tree head) (expr_tree index) around) (λ by place outer e. cc (e)) right second.operand second.left
      (expr_tree element) rest (second.closes 0 (strength-near Right Left element).0))
  read_expr (field head dot n) around g b =
      let inner = read_expr head around g.1 (held_tight around head g.1 g.0 b) in
      let tight = inner.tight g.0 in
      record {
        operand = dotted (operand_tree inner.operand) n;
        left = inner.left;
        reads = λ rest h. ap (run (want around)) (append_assoc (expr_tokens head) (sign kind.Dot dot ∷ name_token n ∷ []) rest)
            ∙ inner.reads (sign kind.Dot dot ∷ name_token n ∷ rest) refl
            ∙ ap (λ b. option_and_then (λ s. run s rest) (on b (have (dotted (operand_tree inner.operand) n) inner.left))) g.2;
        closes = λ least h. ap (λ a. close least (e.field (place_of (operand_tree inner.operand)) (operand_tree inner.operand) n) a) tight.0
            ∙ ap (λ t. close least (e.field (place_of t) t n) around) tight.1;
        tight = λ h. (tight.0, ap (λ t. e.field (place_of t) t n) tight.1);
      }
  read_expr (prefixed by place operand) around g b =
      let inner = read_expr operand (under by place around) g.1 (tight_strong Left operand g.1 g.0) in
      record {
        operand = inner.operand;
        left = inner.left;
        reads = λ rest h. want_under by place around (expr_tokens operand ++ rest) ∙ inner.reads rest h;
        closes = λ least h. let strong = tight_strong Right operand g.1 g.0 in inner.closes least (omega (arith, h, strong));
        tight = λ h. absurd (omega (arith, h));
      }
  read_expr (binary left row place right) around g b =
      let table = in_table row g.0 in
      let on_left = operand_pulls Left row left table.small g.1 in
      let on_right = operand_pulls Right row right table.small g.2 in
      let left_near = strength-near Right Left left in
      let right_near = strength-near Left Right right in
      let first = read_expr left around g.3 (omega (arith, on_left, left_near.1, b)) in
      let second = read_expr right (right_of (expr_tree left) row around) g.4 on_right in
      let bracketless : not (is kind.LeftBracket (sign row.sign place)) ≡ true = ap not table.no_bracket in
      record {
        operand = second.operand;
        left = second.left;
        reads = λ rest h. ap (run (want around)) (append_assoc (expr_tokens left) _ rest)
            ∙ first.reads (sign row.sign place ∷ expr_tokens right ++ rest) bracketless
            ∙ after_operator row place first.operand (expr_tree left) first.left around (expr_tokens right ++ rest) g.0 b
            (first.closes (pull Left row) on_left ∙ close_held around (pull Left row) (expr_tree left) (pull-small Left row table.small).0
            (pull-small Left row table.small).1 (omega (arith, b)))
            ∙ second.reads rest h;
        closes = λ least h. second.closes least (omega (arith, on_right, right_near.1, h))
            ∙ ap (λ x. cond x (close least (infix_tree row (expr_tree left) (expr_tree right)) around) (grown (expr_tree right) (right_of
            (expr_tree left) row around))) (lt-ltb least (pull Right row) h);
        tight = λ h. absurd (let small = table.small in omega (arith, h, small));
      }

  pub read_exprs : (due over : List ExprTree → State) (member : List ExprTree → Around) → IsList due over member
      → (texts : ExprsText) (trees : List ExprTree) (place : Place) (rest : List Tok)
      → AreGrouped texts → run (due trees) (exprs_tokens texts ++ sign kind.RightParen place ∷ rest) ≡ run (over (trees ++ expr_trees texts)) rest
  read_exprs due over member list no_exprs trees place rest g =
      ap (λ o. option_and_then (λ s. run s rest) o) (list.begins trees (sign kind.RightParen place))
      ∙ ap (λ t. run (over t) rest) (sym (append-nil trees))
  read_exprs due over member list (last_expr text) trees place rest g =
      let near = strength-near Left Right text in
      let loose = list.loose trees in
      let one = read_expr text (member trees) g (omega (arith, near.0, loose)) in
      starts_member due over member list trees text (sign kind.RightParen place ∷ rest)
      ∙ one.reads (sign kind.RightParen place ∷ rest) refl
      ∙ paren_behind (member trees) (list.no_range trees) place one.operand one.left (expr_tree text) rest (one.closes 0
      (strength-near Right Left text).0 ∙ list.stays trees (expr_tree text))
      ∙ ap (λ o. option_and_then (λ s. run s rest) o) (list.ends trees (expr_tree text) place)
  read_exprs due over member list (expr_then text comma more) trees place rest g =
      let near = strength-near Left Right text in
      let loose = list.loose trees in
      let one = read_expr text (member trees) g.0 (omega (arith, near.0, loose)) in
      let behind : List Tok = exprs_tokens more ++ sign kind.RightParen place ∷ rest in
      ap (run (due trees)) (append_assoc (expr_tokens text) (sign kind.Comma comma ∷ exprs_tokens more) (sign kind.RightParen place ∷ rest))
      ∙ starts_member due over member list trees text (sign kind.Comma comma ∷ behind)
      ∙ one.reads (sign kind.Comma comma ∷ behind) refl
      ∙ comma_behind (member trees) comma one.operand one.left (expr_tree text) behind (one.closes 0 (strength-near Right Left text).0 ∙ list.stays trees
      (expr_tree text))
      ∙ ap (λ o. option_and_then (λ s. run s behind) o) (list.comma trees (expr_tree text) comma)
      ∙ read_exprs due over member list more (trees ++ expr_tree text ∷ []) place rest g.1
      ∙ ap (λ t. run (over t) rest) (append_assoc trees (expr_tree text ∷ []) (expr_trees more))

cond_none : {A : Type 0} (b : Bool) (o : Option A) → o ≡ None → cond b o None ≡ None
cond_none true o h = h
cond_none false o h = refl

pub read_whole : ExpressionsAreRead
read_whole text at token rest g ends =
    let one = read_expr text (alone at) g (strength-near Left Right text).0 in
    let closed = one.closes 0 (strength-near Right Left text).0 in
    let none = no_range_at (alone at) (λ by place outer e. cc (e)) one.operand one.left 0 (expr_tree text) closed in
    one.reads (token ∷ rest) (ap not ends.no_bracket)
    ∙ ap (λ b. option_and_then (λ s. run s rest) (cond b (Some (argument_or_end (operand_tree one.operand) [] one.left))
    (cond (is kind.Dot token) (Some (field_written (operand_tree one.operand) one.left)) (next_operator next_whole one.operand one.left token
    (infix_of token.kind))))) ends.no_paren
    ∙ ap (λ b. option_and_then (λ s. run s rest) (cond b (Some (field_written (operand_tree one.operand) one.left))
    (next_operator next_whole one.operand one.left token (infix_of token.kind)))) ends.no_dot
    ∙ ap (λ o. option_and_then (λ s. run s rest) (next_operator next_whole one.operand one.left token o)) ends.no_operator
    ∙ ap (λ o. option_and_then (λ s. run s rest) (next_ended next_whole one.operand one.left token o)) (cond_none (is kind.RightParen token)
    (range_of one.operand one.left) none)
    ∙ ap (λ (g : Grown). Behind rest g.expr g.around token) closed
