-- Operands are accounted for.
use Rattle.machine_stands.proofs.Tokens.{both_true, is_of_number, is_operator, on_case, or_case}
use Rattle.machine_stands.proofs.Fronts.{Folded, firsts, none_yet, grow, every, grown_folded, FrontOf, WholeOf}
use Rattle.machine_stands.proofs.Opened.{At, Sign, Indices, Element, Expression, Head, Expressions}
use Rattle.machine_stands.proofs.Inside.{QuantifierAt, RangeBegin, OpenAround, OpenOperand}
use Rattle.machine_stands.proofs.Stands.{value_kind, Stands}
use Rattle.machine_stands.proofs.Gathered.{gather_exprs}
use Rattle.machine_stands.proofs.Ends.{at_step, sign_step, name_step}
use Rattle.machine_steps.proofs.Expr.{operand_head, operand_grew, next_right_stands, whole_head}
use Rattle.machine_steps.proofs.Stmts.{one_more, more_exprs, all_exprs, whole_stands}
use Rattle.slang_grammar.specs.Parts.{separated, optional, name_token, is_numeral, element_tokens}
use Rattle.slang_grammar.specs.Operators.{infix_of, prefix_kind}
use Rattle.slang_grammar.specs.Expressions.{application as applied, all_word, exists_word, all_sign, exists_sign, quantifier_kind, BoundText, ExprText, number, truth, falsity, variable, sequence, quantified, quantified_indices, bracketed, update, indices_token, expr_tokens, exprs_tokens, IsGrouped, expr_tree, exprs_tree}
use Rattle.slang_machine.specs.Open.{put, Around, alone, inside, under, right_of, argument_of, element_at, element_of, low_of, high_of, body_over, body_over_indices, pull, close}
use Rattle.slang_machine.specs.States.{Operand, whole, dotted, between, indices_of, ValueWord, entry_word, old_word, State, want, have, result_or_type, sequence_or_type, element_or_end, argument_or_end, field_written, bound_left}
use Rattle.slang_machine.specs.Expressions.{application, quantifier_of, is, is_name, name_of, is_number_token, leaf_of, prefix_of, value_word_of, next_word, next_begin, next_want, operand_tree, next_index, next_behind, range_of, next_ended, next_operator, next_have, end_or_want}
use Rattle.slang_machine.specs.Statements.{next_whole}
use Rattle.slang_machine.proofs.Operators.{in_table, pull-small}
use Rattle.slang_tree.specs.TypeTree.{TypeTree}
use Rattle.slang_tree.specs.ExprTree.{ExprTree, exprs_of, place_of}
use Rattle.slang_tree.specs.declared.place.Place.{Place}
use Rattle.slang_tree.specs.declared.expression.Name.{Name}
use Rattle.slang_values.specs.declared.operators.Quantifier.{Quantifier}
use Rattle.slang_grammar.specs.declared.operator.Infix.{Infix}
use Rattle.slang_grammar.specs.declared.operator.Prefix.{Prefix}
use Rattle.slang_grammar.specs.declared.operator.Side.TheVariants.{Left}
use Rattle.slang_lexer.specs.declared.token.TokenKind.{TokenKind}
use Rattle.slang_tokens.specs.Tok.{Tok, sign}
use Rattle.slang_tokens.proofs.Bare.{IsBare}
use Rattle.std.proofs.Common.{◌≡◌, ℕ, Bool, true, false, List, [], ◌∷◌, ◌++◌, Option, Some, None, pos, refl, sym, ap, ◌∙◌, subst, append_assoc, arith, cond, map}
use Rattle.slang_lexer.specs.Next.{value_of as number_value}
use Rattle.std.specs.Prelude.{codes}
use Rattle.std.specs.Option.{IfSome}
use Rattle.std.proofs.lemmas.Slice.Eq.{bytes_eq-Decides}
use Rattle.std.specs.Str.{bytes_eq}
use Rattle.slang_tree.specs.ExprTree as e
use Rattle.slang_lexer.specs.declared.token.TokenKind.TheVariants as kind
use Rattle.slang_grammar.specs.declared.operator.Prefix.TheVariants as prefix
use Rattle.slang_values.specs.declared.operators.Quantifier.TheVariants as quantifier

-- A member of a list that has none yet.
pub front_empty : {A T : Type 0} (k : TokenKind) (tokens_of : A → List Tok) (P : A → Type 0) (tree : A → T) (K : List Tok → Type 0) (rest : List Tok)
    → FrontOf k tokens_of P tree K [] rest → K rest
front_empty k tokens_of P tree K rest h = by h.front h.same h.opened where
  by : (front : List (_ × Place)) → Folded (grow tree) [] (firsts front) ≡ [] → K (separated k tokens_of front ++ rest) → K rest
  by [] e o = o
  by (m ∷ front) e o = absurd (not_empty (sym (grown_folded tree [] (firsts (m ∷ front))) ∙ e)) where
    not_empty : tree m.0 ∷ map tree (firsts front) ≡ [] → ⊥
    not_empty e = cc (e)

-- Behind an expression.

regroup_update : (h i f : List Tok) (l a r : Tok) (rest : List Tok) → h ++ l ∷ (i ++ a ∷ (f ++ r ∷ rest)) ≡ (((h ++ l ∷ i) ++ a ∷ f) ++ r ∷ []) ++ rest
regroup_update h i f l a r rest = simp append_assoc

regroup_apply : (h x : List Tok) (l r : Tok) (rest : List Tok) → h ++ l ∷ (x ++ r ∷ rest) ≡ ((h ++ l ∷ x) ++ r ∷ []) ++ rest
regroup_apply h x l r rest = simp append_assoc

regroup_range : (low high b : List Tok) (u r p n f q : Tok) (rest : List Tok)
    → low ++ u ∷ (high ++ r ∷ p ∷ n ∷ f ∷ (b ++ q ∷ rest)) ≡ ((low ++ u ∷ high) ++ r ∷ ((p ∷ n ∷ f ∷ b) ++ q ∷ [])) ++ rest
regroup_range low high b u r p n f q rest = simp append_assoc

regroup_indices : (head b : List Tok) (dot i r p n f q : Tok) (rest : List Tok)
    → head ++ dot ∷ i ∷ r ∷ p ∷ n ∷ f ∷ (b ++ q ∷ rest) ≡ (head ++ dot ∷ i ∷ r ∷ ((p ∷ n ∷ f ∷ b) ++ q ∷ [])) ++ rest
regroup_indices head b dot i r p n f q rest = simp append_assoc

pub applied_stands : (all : List Tok) (head : ExprTree) (trees : List ExprTree) (around : Around) (right : Place) (rest : List Tok)
    → WholeOf kind.Comma expr_tokens IsGrouped expr_tree (Sign kind.LeftParen (Head head (OpenAround all around))) trees (sign kind.RightParen right ∷ rest)
    → Stands all (have (whole (application head trees)) around) rest
applied_stands all head trees around right rest h =
    let list = gather_exprs (Sign kind.LeftParen (Head head (OpenAround all around))) trees (sign kind.RightParen right ∷ rest) h in
    let begun = list.opened in
    let inner = begun.opened in
    whole_head all around (applied inner.text begun.place list.text right) (application head trees) rest (inner.tight, inner.grouped, list.fits) refl
    (ap (λ t. e.application (place_of t) t (exprs_tree list.text)) inner.same ∙ ap (e.application (place_of head) head) list.same)
    (subst (OpenAround all around) (regroup_apply (expr_tokens inner.text) (exprs_tokens list.text) (sign kind.LeftParen begun.place)
    (sign kind.RightParen right) rest) inner.opened)

regroup_sequence : (y x : List Tok) (l r : Tok) (rest : List Tok) → y ++ l ∷ (x ++ r ∷ rest) ≡ ((y ++ l ∷ x) ++ r ∷ []) ++ rest
regroup_sequence y x l r rest = simp append_assoc

pub sequence_stands : (all : List Tok) (place : Place) (ty : Option TypeTree) (trees : List ExprTree) (around : Around) (right : Place) (rest : List Tok)
    → WholeOf kind.Comma expr_tokens IsGrouped expr_tree (Sign kind.LeftParen (Element ty (At kind.TypeIsz place (OpenAround all around)))) trees
    (sign kind.RightParen right ∷ rest)
    → Stands all (have (whole (e.sequence place ty (exprs_of trees))) around) rest
sequence_stands all place ty trees around right rest h =
    let list = gather_exprs (Sign kind.LeftParen (Element ty (At kind.TypeIsz place (OpenAround all around)))) trees (sign kind.RightParen right ∷ rest) h in
    let begun = list.opened in
    let element = begun.opened in
    whole_head all around (sequence place element.text begun.place list.text right) (e.sequence place ty (exprs_of trees)) rest (element.fits, list.fits) refl
    (ap (λ t. e.sequence place t (exprs_tree list.text)) element.same ∙ ap (e.sequence place ty) list.same)
    (subst (λ x. OpenAround all around (sign kind.TypeIsz place ∷ x)) (regroup_sequence (optional element_tokens element.text) (exprs_tokens list.text)
    (sign kind.LeftParen begun.place) (sign kind.RightParen right) rest) element.opened)

behind_stands : (all : List Tok) (text : ExprText) (expr : ExprTree) (around : Around) (token : Tok) (rest : List Tok) → IsBare token → IsGrouped text
    → expr_tree text ≡ expr → OpenAround all around (expr_tokens text ++ token ∷ rest)
    → IfSome (next_behind next_whole expr around token) (λ state. Stands all state rest)
behind_stands all text expr (alone at) token rest bare g same h = whole_stands all text expr at token rest bare g same h
behind_stands all text expr (inside around) token rest bare g same h =
    on_case (is kind.RightParen token) (have (whole expr) around) (λ state. Stands all state rest)
    (λ b. whole_head all around (bracketed h.place text token.place) expr rest g refl same
    (subst (λ x. OpenAround all around (sign kind.LeftParen h.place ∷ x)) (sym (append_assoc (expr_tokens text) (sign kind.RightParen token.place ∷ []) rest))
    (at_step kind.RightParen token rest (λ r. OpenAround all around (sign kind.LeftParen h.place ∷ expr_tokens text ++ r)) refl refl bare b h.opened)))
behind_stands all text expr (under by place around) token rest bare g same h = tt
behind_stands all text expr (right_of left row around) token rest bare g same h = tt
behind_stands all text expr (argument_of head arguments around) token rest bare g same h =
    let K : List Tok → Type 0 = Sign kind.LeftParen (Head head (OpenAround all around)) in
    let one = one_more K arguments text expr (token ∷ rest) g same h in
    or_case (is kind.RightParen token) (Some (have (whole (application head (arguments ++ expr ∷ []))) around)) _ (λ state. Stands all state rest)
    (λ b. applied_stands all head (arguments ++ expr ∷ []) around token.place rest (all_exprs K (arguments ++ expr ∷ []) token rest bare b one))
    (λ b. or_case (is kind.Comma token) (Some (argument_or_end head (arguments ++ expr ∷ []) around)) _ (λ state. Stands all state rest)
    (λ b. more_exprs K (arguments ++ expr ∷ []) token rest bare b one)
    (λ b. index arguments h)) where
      index : (before : List ExprTree) → Expressions (Sign kind.LeftParen (Head head (OpenAround all around))) before (expr_tokens text ++ token ∷ rest)
          → IfSome (next_index head before expr around token) (λ state. Stands all state rest)
      index [] k =
          on_case (is kind.TildeArrow token) (want (element_at head expr around)) (λ state. Stands all state rest)
          (λ b. sign_step kind.TildeArrow token rest (Expression expr (Sign kind.LeftParen (Head head (OpenAround all around)))) refl refl bare b (record {
            text = text;
            grouped = g;
            same = same;
            opened = front_empty kind.Comma expr_tokens IsGrouped expr_tree (Sign kind.LeftParen (Head head (OpenAround all around))) (expr_tokens text ++ token
                ∷ rest) k;
          }))
      index (x ∷ before) k = tt
behind_stands all text expr (element_at head index around) token rest bare g same h =
    let i = h.opened in
    let left = i.opened in
    let inner = left.opened in
    on_case (is kind.RightParen token) (have (whole (e.update (place_of head) head index expr)) around) (λ state. Stands all state rest)
    (λ b. whole_head all around (update inner.text left.place i.text h.place text token.place) (e.update (place_of head) head index expr) rest
    (inner.tight, inner.grouped, i.grouped, g) refl
    (ap (λ t. e.update (place_of t) t (expr_tree i.text) (expr_tree text)) inner.same ∙ ap (λ t. e.update (place_of head) head t (expr_tree text)) i.same
    ∙ ap (e.update (place_of head) head index) same)
    (subst (OpenAround all around) (regroup_update (expr_tokens inner.text) (expr_tokens i.text) (expr_tokens text) (sign kind.LeftParen left.place)
    (sign kind.TildeArrow h.place) (sign kind.RightParen token.place) rest)
    (at_step kind.RightParen token rest (λ r. OpenAround all around (expr_tokens inner.text ++ sign kind.LeftParen left.place ∷ (expr_tokens i.text
    ++ sign kind.TildeArrow h.place ∷ (expr_tokens text ++ r)))) refl refl bare b inner.opened)))
behind_stands all text expr (element_of place ty elements around) token rest bare g same h =
    let K : List Tok → Type 0 = Sign kind.LeftParen (Element ty (At kind.TypeIsz place (OpenAround all around))) in
    let one = one_more K elements text expr (token ∷ rest) g same h in
    or_case (is kind.RightParen token) (Some (have (whole (e.sequence place ty (exprs_of (elements ++ expr ∷ [])))) around)) _ (λ state. Stands all state rest)
    (λ b. sequence_stands all place ty (elements ++ expr ∷ []) around token.place rest (all_exprs K (elements ++ expr ∷ []) token rest bare b one))
    (λ b. on_case (is kind.Comma token) (element_or_end place ty (elements ++ expr ∷ []) around) (λ state. Stands all state rest)
    (λ b. more_exprs K (elements ++ expr ∷ []) token rest bare b one))
behind_stands all text expr (low_of by place around) token rest bare g same h =
    on_case (is kind.Until token) (want (high_of by place expr around)) (λ state. Stands all state rest)
    (λ b. sign_step kind.Until token rest (Expression expr (RangeBegin by place (OpenAround all around))) refl refl bare b
    (record { text = text; grouped = g; same = same; opened = h }))
behind_stands all text expr (high_of by place low around) token rest bare g same h =
    on_case (is kind.RightParen token) (bound_left by place (between low expr) around) (λ state. Stands all state rest)
    (λ b. sign_step kind.RightParen token rest (Expression expr (Sign kind.Until (Expression low (RangeBegin by place (OpenAround all around))))) refl refl bare
    b (record { text = text; grouped = g; same = same; opened = h }))
behind_stands all text expr (body_over by place low high bound around) token rest bare g same h =
    let n = h.opened in
    let left = n.opened in
    let right = left.opened in
    let second = right.opened in
    let until = second.opened in
    let first = until.opened in
    let begun = first.opened in
    let q = begun.opened in
    let variable_text : BoundText = record { left = left.place; variable = bound; arrow = h.place; right = token.place } in
    on_case (is kind.RightParen token) (have (whole (e.quantified place by low high bound expr)) around) (λ state. Stands all state rest)
    (λ b. whole_head all around (quantified q.word place begun.place first.text until.place second.text right.place variable_text text)
    (e.quantified place by low high bound expr) rest (first.grouped, second.grouped, n.plain, g) refl
    (ap (λ w. e.quantified place w (expr_tree first.text) (expr_tree second.text) bound (expr_tree text)) q.same
    ∙ ap (λ t. e.quantified place by t (expr_tree second.text) bound (expr_tree text)) first.same
    ∙ ap (λ t. e.quantified place by low t bound (expr_tree text)) second.same ∙ ap (e.quantified place by low high bound) same)
    (subst (λ x. OpenAround all around (sign (quantifier_kind q.word) place ∷ sign kind.LeftParen begun.place ∷ x))
    (regroup_range (expr_tokens first.text) (expr_tokens second.text) (expr_tokens text) (sign kind.Until until.place) (sign kind.RightParen right.place)
    (sign kind.LeftParen left.place) (name_token bound) (sign kind.FatArrow h.place) (sign kind.RightParen token.place) rest)
    (at_step kind.RightParen token rest (λ r. OpenAround all around (sign (quantifier_kind q.word) place ∷ sign kind.LeftParen begun.place
    ∷ expr_tokens first.text ++ sign kind.Until until.place ∷ (expr_tokens second.text ++ sign kind.RightParen right.place ∷ sign kind.LeftParen left.place
    ∷ name_token bound ∷ sign kind.FatArrow h.place ∷ (expr_tokens text ++ r)))) refl refl bare b q.opened)))
behind_stands all text expr (body_over_indices by place head bound around) token rest bare g same h =
    let n = h.opened in
    let left = n.opened in
    let right = left.opened in
    let indices = right.opened in
    let dot = indices.opened in
    let inner = dot.opened in
    let begun = inner.opened in
    let q = begun.opened in
    let variable_text : BoundText = record { left = left.place; variable = bound; arrow = h.place; right = token.place } in
    on_case (is kind.RightParen token) (have (whole (e.quantified_indices place by head bound expr)) around) (λ state. Stands all state rest)
    (λ b. whole_head all around (quantified_indices q.word place begun.place inner.text dot.place indices.place right.place variable_text text)
    (e.quantified_indices place by head bound expr) rest (inner.tight, inner.grouped, n.plain, g) refl
    (ap (λ w. e.quantified_indices place w (expr_tree inner.text) bound (expr_tree text)) q.same
    ∙ ap (λ t. e.quantified_indices place by t bound (expr_tree text)) inner.same ∙ ap (e.quantified_indices place by head bound) same)
    (subst (λ x. OpenAround all around (sign (quantifier_kind q.word) place ∷ sign kind.LeftParen begun.place ∷ x))
    (regroup_indices (expr_tokens inner.text) (expr_tokens text) (sign kind.Dot dot.place) (indices_token indices.place) (sign kind.RightParen right.place)
    (sign kind.LeftParen left.place) (name_token bound) (sign kind.FatArrow h.place) (sign kind.RightParen token.place) rest)
    (at_step kind.RightParen token rest (λ r. OpenAround all around (sign (quantifier_kind q.word) place ∷ sign kind.LeftParen begun.place
    ∷ expr_tokens inner.text ++ sign kind.Dot dot.place ∷ indices_token indices.place ∷ sign kind.RightParen right.place ∷ sign kind.LeftParen left.place
    ∷ name_token bound ∷ sign kind.FatArrow h.place ∷ (expr_tokens text ++ r))) refl refl bare b q.opened)))

-- Behind an operand.

indices_name : (written : Name) → bytes_eq written.text (codes "indices") ≡ true → name_token written ≡ indices_token written.place
indices_name written h =
    let put : List ℕ → Tok = λ text. record { kind = kind.Name; text = text; place = written.place } in
    ap put ((bytes_eq-Decides written.text (codes "indices")).0 h)

range_stands : (all : List Tok) (operand : Operand) (around : Around) (token : Tok) (rest : List Tok) → IsBare token → is kind.RightParen token ≡ true
    → OpenOperand all operand around (token ∷ rest) → IfSome (range_of operand around) (λ state. Stands all state rest)
range_stands all (dotted head written) (low_of by place around) token rest bare b h =
    on_case (bytes_eq written.text (codes "indices")) (bound_left by place (indices_of head) around) (λ state. Stands all state rest)
    (λ i. sign_step kind.RightParen token rest (Indices (Sign kind.Dot (Head head (RangeBegin by place (OpenAround all around))))) refl refl bare b (record {
      place = written.place;
      opened = subst (λ t. Sign kind.Dot (Head head (RangeBegin by place (OpenAround all around))) (t ∷ token ∷ rest)) (indices_name written i) h.opened;
    }))
range_stands all (whole expr) around token rest bare b h = tt
range_stands all (dotted head written) (alone at) token rest bare b h = tt
range_stands all (dotted head written) (inside around) token rest bare b h = tt
range_stands all (dotted head written) (under by place around) token rest bare b h = tt
range_stands all (dotted head written) (right_of left row around) token rest bare b h = tt
range_stands all (dotted head written) (argument_of other_head arguments around) token rest bare b h = tt
range_stands all (dotted head written) (element_at other_head index around) token rest bare b h = tt
range_stands all (dotted head written) (element_of place ty elements around) token rest bare b h = tt
range_stands all (dotted head written) (high_of by place low around) token rest bare b h = tt
range_stands all (dotted head written) (body_over by place low high bound around) token rest bare b h = tt
range_stands all (dotted head written) (body_over_indices by place other_head bound around) token rest bare b h = tt

pub have_stands : (all : List Tok) (operand : Operand) (around : Around) (token : Tok) (rest : List Tok) → IsBare token
    → OpenOperand all operand around (token ∷ rest) → IfSome (next_have next_whole operand around token) (λ state. Stands all state rest)
have_stands all operand around token rest bare h =
    let K : List Tok → Type 0 = Head (operand_tree operand) (OpenAround all around) in
    let head = operand_head all operand around (token ∷ rest) h in
    or_case (is kind.LeftParen token) (Some (argument_or_end (operand_tree operand) [] around)) _ (λ state. Stands all state rest)
    (λ b. none_yet kind.Comma expr_tokens (every IsGrouped) (grow expr_tree) [] (Sign kind.LeftParen K) rest
    (sign_step kind.LeftParen token rest K refl refl bare b head))
    (λ b. or_case (is kind.Dot token) (Some (field_written (operand_tree operand) around)) _ (λ state. Stands all state rest)
    (λ b. sign_step kind.Dot token rest K refl refl bare b head)
    (λ b. operator (infix_of token.kind) refl)) where
      ended : (o : Option State) → IfSome o (λ state. Stands all state rest)
          → IfSome (next_ended next_whole operand around token o) (λ state. Stands all state rest)
      ended (Some state) k = k
      ended None k =
          let grown_to = operand_grew all 0 operand around (token ∷ rest) (omega arith) h in
          behind_stands all grown_to.text (close 0 (operand_tree operand) around).expr (close 0 (operand_tree operand) around).around token rest bare
          grown_to.grouped grown_to.same grown_to.opened

      range : (b : Bool) → is kind.RightParen token ≡ b → IfSome (cond b (range_of operand around) None) (λ state. Stands all state rest)
      range true e = range_stands all operand around token rest bare e h
      range false e = tt

      operator : (o : Option Infix) → infix_of token.kind ≡ o → IfSome (next_operator next_whole operand around token o) (λ state. Stands all state rest)
      operator (Some row) e =
          let is_op = is_operator token row bare e in
          let small = (in_table row is_op.is_row).small in
          next_right_stands all (close (pull Left row) (operand_tree operand) around) row token rest is_op
          (operand_grew all (pull Left row) operand around (token ∷ rest) (pull-small Left row small).1 h)
      operator None e = ended (cond (is kind.RightParen token) (range_of operand around) None) (range (is kind.RightParen token) refl)

-- Where an operand is due.

leaf_stands : (K : List Tok → Type 0) (token : Tok) (rest : List Tok) → IsBare token → K (token ∷ rest) → IfSome (leaf_of token) (λ leaf. Head leaf K rest)
leaf_stands K token rest bare h =
    or_case (is kind.True token) (Some (e.truth token.place)) _ (λ leaf. Head leaf K rest)
    (λ b. record { text = truth token.place; grouped = tt; tight = refl; same = refl; opened = at_step kind.True token rest K refl refl bare b h })
    (λ b. or_case (is kind.False token) (Some (e.falsity token.place)) _ (λ leaf. Head leaf K rest)
    (λ b. record { text = falsity token.place; grouped = tt; tight = refl; same = refl; opened = at_step kind.False token rest K refl refl bare b h })
    (λ b. or_case (is_name token) (Some (e.name token.text token.place)) _ (λ leaf. Head leaf K rest)
    (λ b. let n = name_step token rest K b h in record { text = variable (name_of token); grouped = n.plain; tight = refl; same = refl; opened = n.opened })
    (λ b. on_case (is_number_token token) (e.number token.place (pos (number_value token.text))) (λ leaf. Head leaf K rest)
    (λ b. let both = both_true (is kind.Number token) (is_numeral token.text) b in record {
      text = number token.text token.place;
      grouped = both.1;
      tight = refl;
      same = refl;
      opened = subst (λ t. K (t ∷ rest)) (is_of_number token both.0) h;
    }))))

prefix_stands : (K : List Tok → Type 0) (token : Tok) (rest : List Tok) → IsBare token → K (token ∷ rest)
    → IfSome (prefix_of token) (λ by. K (sign (prefix_kind by) token.place ∷ rest))
prefix_stands K token rest bare h =
    or_case (is kind.Bang token) (Some prefix.Not) _ (λ by. K (sign (prefix_kind by) token.place ∷ rest))
    (λ b. at_step kind.Bang token rest K refl refl bare b h)
    (λ b. on_case (is kind.Minus token) prefix.Minus (λ by. K (sign (prefix_kind by) token.place ∷ rest))
    (λ b. at_step kind.Minus token rest K refl refl bare b h))

quantifier_stands : (K : List Tok → Type 0) (token : Tok) (rest : List Tok) → IsBare token → K (token ∷ rest)
    → IfSome (quantifier_of token) (λ by. QuantifierAt by token.place K rest)
quantifier_stands K token rest bare h =
    or_case (is kind.All token) (Some quantifier.All) _ (λ by. QuantifierAt by token.place K rest)
    (λ b. record { word = all_word; same = refl; opened = at_step kind.All token rest K refl refl bare b h })
    (λ b. or_case (is kind.ForAllSign token) (Some quantifier.All) _ (λ by. QuantifierAt by token.place K rest)
    (λ b. record { word = all_sign; same = refl; opened = at_step kind.ForAllSign token rest K refl refl bare b h })
    (λ b. or_case (is kind.Exists token) (Some quantifier.Exists) _ (λ by. QuantifierAt by token.place K rest)
    (λ b. record { word = exists_word; same = refl; opened = at_step kind.Exists token rest K refl refl bare b h })
    (λ b. on_case (is kind.ExistsSign token) quantifier.Exists (λ by. QuantifierAt by token.place K rest)
    (λ b. record { word = exists_sign; same = refl; opened = at_step kind.ExistsSign token rest K refl refl bare b h }))))

value_stands : (K : List Tok → Type 0) (token : Tok) (rest : List Tok) → IsBare token → K (token ∷ rest)
    → IfSome (value_word_of token) (λ word. K (sign (value_kind word) token.place ∷ rest))
value_stands K token rest bare h =
    or_case (is kind.In token) (Some entry_word) _ (λ word. K (sign (value_kind word) token.place ∷ rest))
    (λ b. at_step kind.In token rest K refl refl bare b h)
    (λ b. on_case (is kind.Old token) old_word (λ word. K (sign (value_kind word) token.place ∷ rest))
    (λ b. at_step kind.Old token rest K refl refl bare b h))

pub want_stands : (all : List Tok) (around : Around) (token : Tok) (rest : List Tok) → IsBare token → OpenAround all around (token ∷ rest)
    → IfSome (next_want around token) (λ state. Stands all state rest)
want_stands all around token rest bare h =
    begin (leaf_of token) (prefix_of token) (leaf_stands (OpenAround all around) token rest bare h)
    (prefix_stands (OpenAround all around) token rest bare h) where
      word : (q : Option Quantifier) (v : Option ValueWord) → IfSome q (λ by. QuantifierAt by token.place (OpenAround all around) rest)
          → IfSome v (λ w. OpenAround all around (sign (value_kind w) token.place ∷ rest)) → IfSome (next_word around token q v) (λ state. Stands all state rest)
      word (Some by) v a b = a
      word None (Some w) a b = b
      word None None a b =
          or_case (is kind.Res token) (Some (result_or_type token.place around)) _ (λ state. Stands all state rest)
          (λ b. at_step kind.Res token rest (OpenAround all around) refl refl bare b h)
          (λ b. or_case (is kind.TypeIsz token) (Some (sequence_or_type token.place around)) _ (λ state. Stands all state rest)
          (λ b. at_step kind.TypeIsz token rest (OpenAround all around) refl refl bare b h)
          (λ b. on_case (is kind.LeftParen token) (want (inside around)) (λ state. Stands all state rest)
          (λ b. sign_step kind.LeftParen token rest (OpenAround all around) refl refl bare b h)))

      begin : (l : Option ExprTree) (p : Option Prefix) → IfSome l (λ leaf. Head leaf (OpenAround all around) rest)
          → IfSome p (λ by. OpenAround all around (sign (prefix_kind by) token.place ∷ rest))
          → IfSome (next_begin around token l p) (λ state. Stands all state rest)
      begin (Some leaf) p a b = a
      begin None (Some by) a b = b
      begin None None a b =
          word (quantifier_of token) (value_word_of token) (quantifier_stands (OpenAround all around) token rest bare h)
          (value_stands (OpenAround all around) token rest bare h)

pub end_or_want_stands : (all : List Tok) (end : State) (around : Around) (token : Tok) (rest : List Tok) → IsBare token
    → (is kind.RightParen token ≡ true → Stands all end rest) → OpenAround all around (token ∷ rest)
    → IfSome (end_or_want end around token) (λ state. Stands all state rest)
end_or_want_stands all end around token rest bare at_end h =
    or_case (is kind.RightParen token) (Some end) (next_want around token) (λ state. Stands all state rest) at_end
    (λ b. want_stands all around token rest bare h)
