-- Steps of proofs are read.
use Rattle.machine_expressions.proofs.Behind.{no_bracket}
use Rattle.machine_expressions.proofs.Reading.{read_whole}
use Rattle.machine_complete.proofs.Lists.{IsListOf, read_from_first}
use Rattle.slang_grammar.specs.Parts.{optional, listed, LabelText, label_token, IsLabel, label_tree, IfWritten}
use Rattle.slang_grammar.specs.Operators.{operators}
use Rattle.slang_grammar.specs.Expressions.{ExprText, expr_tokens, IsGrouped, expr_tree}
use Rattle.slang_grammar.specs.Proofs.{RuleText, rule_name, subst_less, subst_greater, rule_token, IsRule, rule_tree, CitesText, one_label, cites_tokens, AreCites, cites_tree, cited, AssumeText, assume_tokens, IsAssume, let_tokens, StepText, line, block, let_block, BehindText, nothing_behind, behind, StepsText, no_steps, last_step, step_then, step_tokens, behind_tokens, steps_tokens, IsStep, AreBehind, AreSteps, step_tree, behind_tree, steps_tree, HasStep}
use Rattle.slang_machine.specs.Open.{Steps, block_of, let_of, Labelled, Purpose, step_claim, assumed_in, alone, close}
use Rattle.slang_machine.specs.States.{step_due, step_or_end, step_end, labelled, cites_or_end, cite_due, cite_end, cite_or_end, sub_left, assume_due, let_colon, let_sub, want}
use Rattle.slang_machine.specs.Expressions.{is, on}
use Rattle.slang_machine.specs.Statements.{label_of, begin_step, end_steps, next_step_end, with_line, rule_of, sub_steps, next_whole}
use Rattle.slang_machine.specs.Machine.{run}
use Rattle.slang_tree.specs.ExprTree.{ExprTree, name}
use Rattle.slang_tree.specs.StmtTree.{StepTree, steps_of}
use Rattle.slang_tree.specs.declared.place.Place.{Place}
use Rattle.slang_tree.specs.declared.expression.Name.{Name}
use Rattle.slang_tree.specs.declared.statement.Label.{Label}
use Rattle.slang_tokens.specs.Tok.{Tok, sign}
use Rattle.std.proofs.Common.{◌≡◌, false, List, [], ◌∷◌, ◌++◌, Option, Some, None, refl, sym, ap, ◌∙◌, append_assoc, append-nil, cond}
use Rattle.std.specs.Prelude.{option_and_then}
use Rattle.std.specs.Option.{option_map}
use Rattle.slang_lexer.specs.declared.token.TokenKind.TheVariants as kind
use Rattle.slang_tree.specs.StmtTree as s

-- the label of a step
pub label_read : {A : Type 0} (l : LabelText) (f : Label → A) → IsLabel l → option_map f (label_of (label_token l)) ≡ Some (f (label_tree l))
label_read l f g = ap (λ b. option_map f (on b (label_tree l))) g

rule_read : (rule : RuleText) → IsRule rule → rule_of (rule_token rule) ≡ Some (rule_tree rule)
rule_read (rule_name n) g = ap (λ b. cond b (Some n) None) g
rule_read (subst_less place) g = refl
rule_read (subst_greater place) g = refl

-- Cited labels.

cites_list : (claim : ExprTree) (rule : Name) (at : Labelled)
    → IsListOf one_label label_tree IsLabel (λ cites. cite_or_end claim rule cites at) (λ cites. cite_end claim rule cites at)
    (λ cites. step_end (with_line claim rule cites at) at.around)
cites_list claim rule at = record {
  reads = λ cites l rest g. ap (λ o. option_and_then (λ s. run s rest) o) (label_read l (λ label. cite_end claim rule (cites ++ label ∷ []) at) g);
  comma = λ cites place. refl;
  ends = λ cites place. refl;
  ends_due = λ cites place. refl;
}

read_cites : (claim : ExprTree) (rule : Name) (at : Labelled) (cites : Option CitesText) (token : Tok) (rest : List Tok) → IfWritten AreCites cites
    → is kind.LeftParen token ≡ false
    → run (cites_or_end claim rule at) (optional cites_tokens cites ++ token ∷ rest)
    ≡ run (step_end (with_line claim rule (cited cites_tree cites) at) at.around) (token ∷ rest)
read_cites claim rule at None token rest g h =
    ap (λ b. option_and_then (λ s. run s rest) (cond b (Some (cite_due claim rule at)) (next_step_end (with_line claim rule [] at) at.around token))) h
read_cites claim rule at (Some c) token rest g h =
    let behind_cites : List Tok = token ∷ rest in
    ap (run (cite_due claim rule at)) (append_assoc (listed kind.Comma one_label c.labels) (sign kind.RightParen c.right ∷ []) behind_cites)
    ∙ read_from_first one_label label_tree IsLabel (cite_due claim rule at) (λ cites. cite_or_end claim rule cites at)
    (λ cites. cite_end claim rule cites at) (λ cites. step_end (with_line claim rule cites at) at.around) (cites_list claim rule at)
    (λ l tokens g. ap (λ o. option_and_then (λ s. run s tokens) o) (label_read l (λ label. cite_end claim rule (label ∷ []) at) g))
    c.labels c.right behind_cites g.0 g.1

-- an expression in round brackets, which stands for itself
pub read_in_brackets : (at : Purpose) (text : ExprText) (right : Place) (rest : List Tok) → IsGrouped text
    → run (want (alone at)) ((expr_tokens text ++ sign kind.RightParen right ∷ []) ++ rest)
    ≡ option_and_then (λ s. run s rest) (next_whole (expr_tree text) at (sign kind.RightParen right))
unfolding operators
read_in_brackets at text right rest g =
    ap (run (want (alone at))) (append_assoc (expr_tokens text) (sign kind.RightParen right ∷ []) rest)
    ∙ read_whole text at (sign kind.RightParen right) rest g (record { no_paren = refl; no_dot = refl; no_bracket = refl; no_operator = refl })

-- `SubProof(label Assume(claim)`
read_assume : (bound : Option Name) (at : Labelled) (a : AssumeText) (rest : List Tok) → IsAssume a
    → run (sub_left bound at) (sign kind.LeftParen a.left ∷ label_token a.label ∷ sign kind.Assume a.assume ∷ sign kind.LeftParen a.claim_left
    ∷ (expr_tokens a.claim ++ sign kind.RightParen a.claim_right ∷ []) ++ rest)
    ≡ run (step_end [] (sub_steps bound (label_tree a.label) (expr_tree a.claim) at)) rest
read_assume bound at a rest g =
    ap (λ o. option_and_then (λ s. run s (sign kind.Assume a.assume ∷ sign kind.LeftParen a.claim_left ∷ (expr_tokens a.claim
    ++ sign kind.RightParen a.claim_right ∷ []) ++ rest)) o) (label_read a.label (λ label. assume_due bound label at) g.0)
    ∙ read_in_brackets (assumed_in bound (label_tree a.label) at) a.claim a.claim_right rest g.1

-- the trees of the steps of a list
abbrev pub step_trees : StepsText → List StepTree
step_trees no_steps = []
step_trees (last_step step) = step_tree step ∷ []
step_trees (step_then step comma more) = step_tree step ∷ step_trees more

pub steps_trees : (texts : StepsText) → steps_of (step_trees texts) ≡ steps_tree texts
steps_trees no_steps = refl
steps_trees (last_step step) = refl
steps_trees (step_then step comma more) = ap (s.step_then (step_tree step)) (steps_trees more)

-- a step does not begin with a `)`
starts_step : (text : StepText) (trees : List StepTree) (around : Steps) (rest : List Tok) → run (step_or_end trees around) (step_tokens text ++ rest)
    ≡ run (step_due trees around) (step_tokens text ++ rest)
starts_step (line label left claim right by rule cites) trees around rest = refl
starts_step (block label assume more right) trees around rest = refl
starts_step (let_block label l assume more right outer) trees around rest = refl

abbrev behind_trees : BehindText → List StepTree
behind_trees nothing_behind = []
behind_trees (behind comma steps) = step_trees steps

mutual
  read_step : (text : StepText) (trees : List StepTree) (around : Steps) (token : Tok) (rest : List Tok) → IsStep text
      → is kind.LeftParen token ≡ false
      → run (step_due trees around) (step_tokens text ++ token ∷ rest) ≡ run (step_end (trees ++ step_tree text ∷ []) around) (token ∷ rest)
  read_step (line label left claim right by rule cites) trees around token rest g h =
      let at : Labelled = record { label = label_tree label; steps = trees; around = around } in
      let behind_claim : List Tok = sign kind.By by ∷ rule_token rule ∷ optional cites_tokens cites in
      let tail : List Tok = token ∷ rest in
      ap (λ o. option_and_then (λ s. run s (sign kind.LeftParen left ∷ (expr_tokens claim ++ sign kind.RightParen right ∷ behind_claim) ++ tail)) o)
      (label_read label (begin_step trees around) g.0)
      ∙ ap (run (want (alone (step_claim at)))) (append_assoc (expr_tokens claim) (sign kind.RightParen right ∷ behind_claim) tail
      ∙ sym (append_assoc (expr_tokens claim) (sign kind.RightParen right ∷ []) (behind_claim ++ tail)))
      ∙ read_in_brackets (step_claim at) claim right (behind_claim ++ tail) g.1
      ∙ ap (λ o. option_and_then (λ s. run s (optional cites_tokens cites ++ tail)) (option_map (λ name. cites_or_end (expr_tree claim) name at) o))
      (rule_read rule g.2)
      ∙ read_cites (expr_tree claim) (rule_tree rule) at cites token rest g.3 h
  read_step (block label assume more right) trees around token rest g h =
      let at : Labelled = record { label = label_tree label; steps = trees; around = around } in
      let tail : List Tok = token ∷ rest in
      let close : List Tok = sign kind.RightParen right ∷ [] in
      ap (λ o. option_and_then (λ s. run s ((assume_tokens assume ++ behind_tokens more ++ close) ++ tail)) o)
      (label_read label (begin_step trees around) g.0)
      ∙ ap (run (labelled at)) (append_assoc (assume_tokens assume ++ behind_tokens more) close tail
      ∙ append_assoc (assume_tokens assume) (behind_tokens more) (close ++ tail))
      ∙ read_assume None at assume (behind_tokens more ++ (close ++ tail)) g.1
      ∙ read_behind more (block_of at.label (label_tree assume.label) (expr_tree assume.claim) trees around) right tail g.2
      ∙ ap (λ steps. run (step_end (trees ++ s.block at.label (label_tree assume.label) (expr_tree assume.claim) steps ∷ []) around) tail)
      (behind_same more)
  read_step (let_block label l assume more right outer) trees around token rest g h =
      let at : Labelled = record { label = label_tree label; steps = trees; around = around } in
      let tail : List Tok = token ∷ rest in
      let close : List Tok = sign kind.RightParen right ∷ sign kind.RightParen outer ∷ [] in
      let opened : List Tok = assume_tokens assume ++ behind_tokens more ++ close in
      ap (λ o. option_and_then (λ s. run s ((let_tokens l ++ opened) ++ tail)) o) (label_read label (begin_step trees around) g.0)
      ∙ ap (λ b. option_and_then (λ s. run s (sign kind.Colon l.colon ∷ sign kind.TypeZ l.ty ∷ sign kind.RightParen l.right ∷ sign kind.FatArrow l.arrow
      ∷ opened ++ tail)) (on b (let_colon l.variable at))) g.1
      ∙ ap (run (let_sub l.variable at)) (append_assoc (assume_tokens assume ++ behind_tokens more) close tail
      ∙ append_assoc (assume_tokens assume) (behind_tokens more) (close ++ tail))
      ∙ read_assume (Some l.variable) at assume (behind_tokens more ++ (close ++ tail)) g.2
      ∙ read_behind more (let_of at.label l.variable (label_tree assume.label) (expr_tree assume.claim) trees around) right (sign kind.RightParen outer
      ∷ tail) g.3
      ∙ ap (λ steps. run (step_end (trees ++ s.let_block at.label l.variable (label_tree assume.label) (expr_tree assume.claim) steps ∷ []) around) tail)
      (behind_same more)

  behind_same : (more : BehindText) → steps_of (behind_trees more) ≡ behind_tree more
  behind_same nothing_behind = refl
  behind_same (behind comma steps) = steps_trees steps

  read_behind : (more : BehindText) (around : Steps) (right : Place) (rest : List Tok) → AreBehind more
      → run (step_end [] around) (behind_tokens more ++ sign kind.RightParen right ∷ rest) ≡ run (end_steps (behind_trees more) around) rest
  read_behind nothing_behind around right rest g = refl
  read_behind (behind comma steps) around right rest g = read_steps steps [] around right rest g

  pub read_steps : (texts : StepsText) (trees : List StepTree) (around : Steps) (right : Place) (rest : List Tok) → AreSteps texts
      → run (step_or_end trees around) (steps_tokens texts ++ sign kind.RightParen right ∷ rest) ≡ run (end_steps (trees ++ step_trees texts) around) rest
  read_steps no_steps trees around right rest g = ap (λ t. run (end_steps t around) rest) (sym (append-nil trees))
  read_steps (last_step step) trees around right rest g =
      starts_step step trees around (sign kind.RightParen right ∷ rest) ∙ read_step step trees around (sign kind.RightParen right) rest g refl
  read_steps (step_then step comma more) trees around right rest g =
      let close : List Tok = steps_tokens more ++ sign kind.RightParen right ∷ rest in
      ap (run (step_or_end trees around)) (append_assoc (step_tokens step) (sign kind.Comma comma ∷ steps_tokens more) (sign kind.RightParen right ∷ rest))
      ∙ starts_step step trees around (sign kind.Comma comma ∷ close)
      ∙ read_step step trees around (sign kind.Comma comma) close g.0 refl
      ∙ read_steps more (trees ++ step_tree step ∷ []) around right rest g.1
      ∙ ap (λ t. run (end_steps t around) rest) (append_assoc trees (step_tree step ∷ []) (step_trees more))

-- where the first step is due, as where a step or the end is
pub steps_from_first : (texts : StepsText) (trees : List StepTree) (around : Steps) (rest : List Tok) → HasStep texts
    → run (step_due trees around) (steps_tokens texts ++ rest) ≡ run (step_or_end trees around) (steps_tokens texts ++ rest)
steps_from_first no_steps trees around rest h = absurd h
steps_from_first (last_step step) trees around rest h = sym (starts_step step trees around rest)
steps_from_first (step_then step comma more) trees around rest h =
    let same = append_assoc (step_tokens step) (sign kind.Comma comma ∷ steps_tokens more) rest in
    ap (run (step_due trees around)) same
    ∙ sym (starts_step step trees around (sign kind.Comma comma ∷ steps_tokens more ++ rest))
    ∙ sym (ap (run (step_or_end trees around)) same)
