-- The forms of steps, from the parts that were added one after the other.
use Rattle.std.proofs.Common.{◌≡◌, ℕ, suc, ◌+◌, ◌<◌, Bool, true, false, Option, Some, None, List, [], ◌∷◌, ◌++◌, map, codes, take, length, get_or, append_assoc, append-nil, refl, sym, ap, ◌∙◌, subst}
use Rattle.std.specs.Str.{bytes_eq}
use Rattle.std.proofs.lemmas.Bool.{cond-true, cond-false, cases_Bool}
use Rattle.std.proofs.lemmas.List.{take_more}
use Rattle.std.proofs.lemmas.Slice.Eq.{bytes_eq-Decides}
use Rattle.std.proofs.Common.{⊎_elim}
use Rattle.slang_lexer.specs.declared.token.TokenKind.TheVariants as kind
use Rattle.slang_lexer.specs.Spelling.{signs, words}
use Rattle.slang_tree.specs.declared.expression.Name.{Name}
use Rattle.slang_tree.specs.declared.expression.Expr.{Expr}
use Rattle.slang_tree.specs.declared.statement.Label.{Label}
use Rattle.slang_tree.specs.declared.statement.Step.{Step}
use Rattle.slang_tree.specs.StmtTree.{StepTree, step_tree, steps_of, block, let_block}
use Rattle.slang_tree.specs.ExprTree.{expr_tree}
use Rattle.slang_grammar.specs.Parts.{LabelText, label_token, name_token}
use Rattle.slang_grammar.specs.Proofs.{rule_token, RuleText, rule_name, subst_less, subst_greater}
use Rattle.print_expressions.specs.Bare.{nowhere, bare_name}
use Rattle.print_expressions.specs.Accounts.{expr_account}
use Rattle.print_statements.specs.Accounts.{listed_of, label_account, rule_account, cites_account, assume_account, let_account, as_behind, step_account, steps_account}
use Rattle.print_layout.specs.Pieces.{Gap, none, blank, Piece, piece, mark, gap_bytes, spelling, listed_pieces, gap_before, bytes_of}
use Rattle.print_layout.specs.Pieces as pieces
use Rattle.print_layout.specs.Expressions.{expr_pieces}
use Rattle.print_layout.specs.Statements.{cites_pieces, let_pieces, step_pieces, behind_pieces, steps_pieces}
use Rattle.expression_printing.specs.Printed.{Adds}
use Rattle.expression_printing.proofs.Adds.{adds_then, adds_token, adds_text, adds_word, adds_name}
use Rattle.expression_printing.proofs.Forms.{adds_same}
use Rattle.step_printing.specs.Printed.{label_pieces, labels_behind, rule_pieces, line_pieces, assumption_pieces, steps_behind, block_pieces}

-- ---- labels and rules

label_spelled : (label : Label) → spelling (label_token (label_account label)) ≡ (label_account label).digits
label_spelled label = refl

pub label_added : {a b c : List ℕ} (gap : Gap) (label : Label) → b ≡ a ++ gap_bytes gap → c ≡ b ++ (label_account label).digits → Adds a c (label_pieces gap label)
label_added {a} {b} {c} gap label before after =
    adds_token gap (label_token (label_account label)) (label_account label).digits (label_spelled label) (after ∙ ap (λ l. l ++ (label_account label).digits) before)

labels_listed : (before : Option LabelText) (label : Label) (labels : List Label) →
    listed_pieces kind.Comma (λ b l. piece (gap_before none blank b) (label_token l) ∷ []) before
    (listed_of (map label_account (label ∷ labels))).front (listed_of (map label_account (label ∷ labels))).last
    ≡ piece (gap_before none blank before) (label_token (label_account label)) ∷ labels_behind labels
labels_listed before label [] = refl
labels_listed before label (other ∷ labels) =
    ap (λ l. piece (gap_before none blank before) (label_token (label_account label)) ∷ mark none kind.Comma nowhere ∷ l)
    (labels_listed (Some (label_account label)) other labels)

pub cites_added : {a b c d e : List ℕ} (own : List Label) (label : Label) (labels : List Label) → own ≡ label ∷ labels → b ≡ a ++ codes "(" →
    Adds b c (label_pieces none label) → Adds c d (labels_behind labels) → e ≡ d ++ codes ")" → Adds a e (cites_pieces (cites_account own))
unfolding signs words
cites_added {a} {b} {c} {d} {e} own label labels is left first others right =
    subst (λ o. Adds a e (cites_pieces (cites_account o))) (sym is)
    (adds_same _ _ (ap (λ l. (mark none kind.LeftParen nowhere ∷ l) ++ mark none kind.RightParen nowhere ∷ []) (sym (labels_listed None label labels)))
    (adds_then (adds_then (adds_text kind.LeftParen nowhere (codes "(") refl left) (adds_then first others)) (adds_text kind.RightParen nowhere (codes ")") refl right)))

labels-append : (xs ys : List Label) → labels_behind (xs ++ ys) ≡ labels_behind xs ++ labels_behind ys
labels-append [] ys = refl
labels-append (x ∷ xs) ys = ap (λ l. mark none kind.Comma nowhere ∷ piece blank (label_token (label_account x)) ∷ l) (labels-append xs ys)

pub one_label_behind : {a b c d : List ℕ} (labels : List Label) (at : ℕ) (other : Label) → at < length labels → Adds a b (labels_behind (take at labels)) →
    c ≡ b ++ codes "," → Adds c d (label_pieces blank (get_or labels at other)) → Adds a d (labels_behind (take (at + 1) labels))
unfolding signs words
one_label_behind {a} {b} {c} {d} labels at other within before comma added =
    adds_same _ _ (sym (labels-append (take at labels) (get_or labels at other ∷ [])) ∙ ap labels_behind (sym (take_more labels at other within)))
    (adds_then before (adds_then (adds_text kind.Comma nowhere (codes ",") refl comma) added))

-- a rule is spelled as its name
rule_spelled : (rule : Name) → spelling (rule_token (rule_account rule)) ≡ rule.text
unfolding signs words
rule_spelled rule =
    ⊎_elim
    (λ (e : bytes_eq rule.text (codes "Subst_<") ≡ true).
    ap (λ r. spelling (rule_token r)) (cond-true _ (subst_less nowhere) _ e) ∙ sym ((bytes_eq-Decides rule.text (codes "Subst_<")).0 e))
    (λ (e : bytes_eq rule.text (codes "Subst_<") ≡ false). ap (λ r. spelling (rule_token r)) (cond-false _ (subst_less nowhere) _ e) ∙ ⊎_elim
    (λ (f : bytes_eq rule.text (codes "Subst_>") ≡ true).
    ap (λ r. spelling (rule_token r)) (cond-true _ (subst_greater nowhere) (rule_name (bare_name rule)) f) ∙ sym ((bytes_eq-Decides rule.text (codes "Subst_>")).0 f))
    (λ (f : bytes_eq rule.text (codes "Subst_>") ≡ false). ap (λ r. spelling (rule_token r)) (cond-false _ (subst_greater nowhere) (rule_name (bare_name rule)) f))
    (cases_Bool _))
    (cases_Bool _)

pub rule_added : {a b : List ℕ} (rule : Name) → b ≡ a ++ gap_bytes blank ++ rule.text → Adds a b (rule_pieces rule)
rule_added rule h = adds_token blank (rule_token (rule_account rule)) rule.text (rule_spelled rule) h

regroup : (l m n : List Piece) (p q : Piece) → ((l ++ m) ++ n) ++ p ∷ q ∷ [] ≡ l ++ (((m ++ n) ++ p ∷ []) ++ q ∷ [])
regroup l m n p q = simp append_assoc

pub let_added : {a b c d e f g h i : List ℕ} (name : Name) → b ≡ a ++ gap_bytes blank ++ codes "Let" → c ≡ b ++ codes "(" → d ≡ c ++ codes "(" →
    e ≡ d ++ gap_bytes none ++ name.text → f ≡ e ++ codes ":" → g ≡ f ++ gap_bytes blank ++ codes "Z" → h ≡ g ++ codes ")" →
    i ≡ h ++ gap_bytes blank ++ codes "=>" → Adds a i (let_pieces (let_account name))
unfolding signs words
let_added name word outer left name_is colon ty right arrow =
    adds_then (adds_word blank kind.Let nowhere (codes "Let") refl word)
    (adds_then (adds_text kind.LeftParen nowhere (codes "(") refl outer)
    (adds_then (adds_text kind.LeftParen nowhere (codes "(") refl left)
    (adds_then (adds_name none name name_is)
    (adds_then (adds_text kind.Colon nowhere (codes ":") refl colon)
    (adds_then (adds_word blank kind.TypeZ nowhere (codes "Z") refl ty)
    (adds_then (adds_text kind.RightParen nowhere (codes ")") refl right) (adds_word blank kind.FatArrow nowhere (codes "=>") refl arrow)))))))

module _ (light : Bool) where
  -- ---- steps

  steps_listed : (depth : ℕ) (step : Step) (steps : List Step) →
      steps_pieces depth (steps_account light (steps_of (map step_tree (step ∷ steps)))) ≡ step_pieces depth (step_account light (step_tree step)) ++ steps_behind light depth steps
  steps_listed depth step [] = sym (append-nil (step_pieces depth (step_account light (step_tree step))))
  steps_listed depth step (other ∷ steps) =
      ap (λ l. step_pieces depth (step_account light (step_tree step)) ++ (mark none kind.Comma nowhere ∷ l)) (steps_listed depth other steps)

  all_behind : (depth : ℕ) (steps : List Step) → behind_pieces depth (as_behind (steps_account light (steps_of (map step_tree steps)))) ≡ steps_behind light depth steps
  all_behind depth [] = refl
  all_behind depth (step ∷ []) = ap (λ l. mark none kind.Comma nowhere ∷ l) (steps_listed depth step [])
  all_behind depth (step ∷ other ∷ steps) = ap (λ l. mark none kind.Comma nowhere ∷ l) (steps_listed depth step (other ∷ steps))

  pub steps_added : {a b c : List ℕ} (depth : ℕ) (own : List Step) (step : Step) (steps : List Step) → own ≡ step ∷ steps →
      Adds a b (step_pieces depth (step_account light (step_tree step))) → Adds b c (steps_behind light depth steps) → Adds a c (steps_pieces depth (steps_account light (steps_of (map step_tree own))))
  steps_added {a} {b} {c} depth own step steps is h k =
      subst (λ o. Adds a c (steps_pieces depth (steps_account light (steps_of (map step_tree o))))) (sym is)
      (adds_same _ _ (sym (steps_listed depth step steps)) (adds_then h k))

  steps-append : (depth : ℕ) (xs ys : List Step) → steps_behind light depth (xs ++ ys) ≡ steps_behind light depth xs ++ steps_behind light depth ys
  steps-append depth [] ys = refl
  steps-append depth (x ∷ xs) ys =
      ap (λ l. (mark none kind.Comma nowhere ∷ step_pieces depth (step_account light (step_tree x))) ++ l) (steps-append depth xs ys)
      ∙ sym (append_assoc (mark none kind.Comma nowhere ∷ step_pieces depth (step_account light (step_tree x))) (steps_behind light depth xs) (steps_behind light depth ys))

  pub one_step_behind : {a b c d : List ℕ} (depth : ℕ) (steps : List Step) (at : ℕ) (step : Step) → at < length steps → step ≡ get_or steps at step →
      Adds a b (steps_behind light depth (take at steps)) → c ≡ b ++ codes "," → Adds c d (step_pieces depth (step_account light (step_tree step))) →
      Adds a d (steps_behind light depth (take (at + 1) steps))
  unfolding signs words
  one_step_behind {a} {b} {c} {d} depth steps at step within is before comma added =
      adds_same _ _
      (ap (λ l. steps_behind light depth (take at steps) ++ l) (sym (append-nil (mark none kind.Comma nowhere ∷ step_pieces depth (step_account light (step_tree step)))))
      ∙ sym (steps-append depth (take at steps) (step ∷ []))
      ∙ ap (steps_behind light depth) (ap (λ x. take at steps ++ x ∷ []) is ∙ sym (take_more steps at step within)))
      (adds_then before (adds_then (adds_text kind.Comma nowhere (codes ",") refl comma) added))

  -- an assumption, with the gap of its own line
  abbrev assumed_pieces : ℕ → Label → Expr → List Piece
  assumed_pieces depth assumed claim = assumption_pieces (suc depth) (assume_account light assumed (expr_tree claim))

  pub block_added : {a b c : List ℕ} (depth : ℕ) (own : Step) (label assumed : Label) (claim : Expr) (steps shown : List Step) → shown ≡ steps →
      step_tree own ≡ block label assumed (expr_tree claim) (steps_of (map step_tree steps)) → Adds a b (label_pieces (pieces.line depth) label) →
      Adds b c (block_pieces light depth assumed claim shown) → Adds a c (step_pieces depth (step_account light (step_tree own)))
  block_added {a} {b} {c} depth own label assumed claim steps shown same is h k =
      subst (λ t. Adds a c (step_pieces depth (step_account light t))) (sym is)
      (adds_same _ _
      (ap (λ l. ((piece (pieces.line depth) (label_token (label_account label)) ∷ assumed_pieces depth assumed claim) ++ l) ++ mark (pieces.line depth) kind.RightParen nowhere ∷ [])
      (sym (all_behind (suc depth) steps)))
      (adds_then h (subst (λ l. Adds b c (block_pieces light depth assumed claim l)) same k)))

  pub let_block_added : {a b c d e : List ℕ} (depth : ℕ) (own : Step) (label : Label) (name : Name) (assumed : Label) (claim : Expr) (steps shown : List Step) → shown ≡ steps →
      step_tree own ≡ let_block label name assumed (expr_tree claim) (steps_of (map step_tree steps)) → Adds a b (label_pieces (pieces.line depth) label) →
      Adds b c (let_pieces (let_account name)) → Adds c d (block_pieces light depth assumed claim shown) → e ≡ d ++ codes ")" →
      Adds a e (step_pieces depth (step_account light (step_tree own)))
  unfolding signs words
  let_block_added {a} {b} {c} {d} {e} depth own label name assumed claim steps shown same is h k m right =
      subst (λ t. Adds a e (step_pieces depth (step_account light t))) (sym is)
      (adds_same _ _
      (sym (regroup (piece (pieces.line depth) (label_token (label_account label)) ∷ let_pieces (let_account name)) (assumed_pieces depth assumed claim)
      (steps_behind light (suc depth) steps) (mark (pieces.line depth) kind.RightParen nowhere) (mark none kind.RightParen nowhere))
      ∙ ap (λ l. (((piece (pieces.line depth) (label_token (label_account label)) ∷ let_pieces (let_account name)) ++ assumed_pieces depth assumed claim) ++ l)
      ++ mark (pieces.line depth) kind.RightParen nowhere ∷ mark none kind.RightParen nowhere ∷ []) (sym (all_behind (suc depth) steps)))
      (adds_then h (adds_then k (adds_then (subst (λ l. Adds c d (block_pieces light depth assumed claim l)) same m) (adds_text kind.RightParen nowhere (codes ")") refl right)))))

  -- ---- lines

  pub line_added : {a b c d e f g h : List ℕ} (depth : ℕ) (label : Label) (claim : Expr) (rule : Name) (cites : List Label) →
      Adds a b (label_pieces (pieces.line depth) label) → c ≡ b ++ gap_bytes blank ++ codes "(" → Adds c d (expr_pieces none (expr_account light (expr_tree claim))) →
      e ≡ d ++ codes ")" → f ≡ e ++ gap_bytes blank ++ codes "by" → Adds f g (rule_pieces rule) → Adds g h (cites_pieces (cites_account cites)) →
      Adds a h (line_pieces light depth label claim rule cites)
  unfolding signs words
  line_added depth label claim rule cites label_is left claim_is right by rule_is cites_are =
      adds_then (adds_then label_is (adds_then (adds_word blank kind.LeftParen nowhere (codes "(") refl left) claim_is))
      (adds_then (adds_text kind.RightParen nowhere (codes ")") refl right)
      (adds_then (adds_word blank kind.By nowhere (codes "by") refl by) (adds_then rule_is cites_are)))

  pub assumption_added : {a b c d e f g h : List ℕ} (inner : ℕ) (label : Label) (claim : Expr) → b ≡ a ++ gap_bytes blank ++ codes "SubProof" →
      c ≡ b ++ codes "(" → Adds c d (label_pieces (pieces.line inner) label) → e ≡ d ++ gap_bytes blank ++ codes "Assume" → f ≡ e ++ codes "(" →
      Adds f g (expr_pieces none (expr_account light (expr_tree claim))) → h ≡ g ++ codes ")" →
      Adds a h (assumption_pieces inner (assume_account light label (expr_tree claim)))
  unfolding signs words
  assumption_added inner label claim word left label_is assume claim_left claim_is right =
      adds_then
      (adds_then (adds_word blank kind.SubProof nowhere (codes "SubProof") refl word)
      (adds_then (adds_text kind.LeftParen nowhere (codes "(") refl left)
      (adds_then label_is
      (adds_then (adds_word blank kind.Assume nowhere (codes "Assume") refl assume)
      (adds_then (adds_text kind.LeftParen nowhere (codes "(") refl claim_left) claim_is)))))
      (adds_text kind.RightParen nowhere (codes ")") refl right)

  -- what stands around the steps of a block
  pub around_added : {a b c d : List ℕ} (depth inner : ℕ) (assumed : Label) (claim : Expr) (steps : List Step) → inner ≡ suc depth →
      Adds a b (assumption_pieces inner (assume_account light assumed (expr_tree claim))) → Adds b c (steps_behind light inner steps) →
      d ≡ c ++ gap_bytes (pieces.line depth) ++ codes ")" → Adds a d (block_pieces light depth assumed claim steps)
  unfolding signs words
  around_added {a} {b} {c} depth inner assumed claim steps is h k right =
      adds_then
      (adds_then (subst (λ n. Adds a b (assumption_pieces n (assume_account light assumed (expr_tree claim)))) is h)
      (subst (λ n. Adds b c (steps_behind light n steps)) is k))
      (adds_word (pieces.line depth) kind.RightParen nowhere (codes ")") refl right)
