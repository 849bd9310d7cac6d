-- Steps of proofs whose tokens stand at other places.
use Rattle.std.proofs.Common.{◌≡◌, List, [], ◌∷◌, ◌++◌, map, Option, Some, None, refl, sym, ap, ◌∙◌}
use Rattle.slang_lexer.specs.declared.token.TokenKind.TheVariants as kind
use Rattle.slang_tree.specs.declared.place.Place.{Place}
use Rattle.slang_tree.specs.declared.expression.Name.{Name}
use Rattle.slang_tree.specs.declared.statement.Label.{Label}
use Rattle.slang_tree.specs.StmtTree as t
use Rattle.slang_tree.specs.StmtTree.{StepTree, StepTrees}
use Rattle.slang_tokens.specs.Tok.{sign}
use Rattle.slang_grammar.specs.Parts.{members, listed, optional, IsPlain, LabelText, IsLabel, label_tree}
use Rattle.slang_grammar.specs.Expressions.{expr_tokens, expr_tree}
use Rattle.slang_grammar.specs.Proofs.{RuleText, rule_name, subst_less, subst_greater, rule_token, IsRule, rule_tree, CitesText, one_label, cites_tokens, AreCites, cites_tree, cited, AssumeText, assume_tokens, IsAssume, LetText, let_tokens, StepText, line, block, let_block, BehindText, nothing_behind, behind, StepsText, no_steps, last_step, step_then, step_tokens, behind_tokens, steps_tokens, IsStep, AreBehind, AreSteps, HasStep, step_tree, behind_tree, steps_tree}
use Rattle.print_expressions.specs.Bare.{bare_name, bare_expr}
use Rattle.print_statements.specs.Bare.{bare_label, bare_step, bare_steps}
use Rattle.moved_texts.proofs.Lists.{at, named_at, first, split, joined, consed, only, nothing, Moves, Same, IfAlike, move_optional, if_fine, move_listed, all_fine, all_same, some_alike}
use Rattle.moved_texts.proofs.Expressions.{move_expr}

pub map-map : {A B C : Type 0} (g : B → C) (f : A → B) (xs : List A) → map g (map f xs) ≡ map (λ x. g (f x)) xs
map-map g f [] = refl
map-map g f (x ∷ xs) = ap (λ ys. g (f x) ∷ ys) (map-map g f xs)

-- ---- labels and rules

abbrev LabelAlike : LabelText → LabelText → Type 0
LabelAlike = Same LabelText Label IsLabel (λ l. bare_label (label_tree l))

abbrev label_at : LabelText → Place → LabelText
label_at l place = record { digits = l.digits; place = place }

move_label : (l : LabelText) → Moves LabelText one_label LabelAlike l
move_label l tokens h = let a = only h in record { it = label_at l a.place; spelled = a.is; alike = record { fine = λ f. f; tree = refl } }

abbrev rule_at : RuleText → Place → RuleText
rule_at (rule_name n) place = rule_name (named_at n place)
rule_at (subst_less p) place = subst_less place
rule_at (subst_greater p) place = subst_greater place

rule_token_at : (rule : RuleText) (place : Place) → rule_token (rule_at rule place) ≡ at (rule_token rule) place
rule_token_at (rule_name n) place = refl
rule_token_at (subst_less p) place = refl
rule_token_at (subst_greater p) place = refl

rule_alike : (rule : RuleText) (place : Place) → Same RuleText Name IsRule (λ r. bare_name (rule_tree r)) rule (rule_at rule place)
rule_alike (rule_name n) place = record { fine = λ f. f; tree = refl }
rule_alike (subst_less p) place = record { fine = λ f. f; tree = refl }
rule_alike (subst_greater p) place = record { fine = λ f. f; tree = refl }

abbrev CitesAlike : CitesText → CitesText → Type 0
CitesAlike = Same CitesText (List Label) AreCites (λ c. map bare_label (cites_tree c))

move_cites : (c : CitesText) → Moves CitesText cites_tokens CitesAlike c
move_cites c tokens h =
    let a = first h in
    let s = split (listed kind.Comma one_label c.labels) (sign kind.RightParen c.right ∷ []) a.behind in
    let l = move_listed kind.Comma one_label LabelAlike move_label c.labels s.left s.first in
    let z = only s.second in
    record {
      it = record { left = a.place; labels = l.it; right = z.place };
      spelled = consed a.is (joined s.is l.spelled z.is);
      alike = record {
        fine = λ f. (
          some_alike LabelAlike (members c.labels) (members l.it) l.alike f.0,
          all_fine IsLabel (λ l. bare_label (label_tree l)) (members c.labels) (members l.it) l.alike f.1,
        );
        tree = map-map bare_label label_tree (members l.it)
            ∙ all_same IsLabel (λ l. bare_label (label_tree l)) (members c.labels) (members l.it) l.alike
            ∙ sym (map-map bare_label label_tree (members c.labels));
      };
    }

if_cites : (a b : Option CitesText) → IfAlike CitesAlike a b → map bare_label (cited cites_tree b) ≡ map bare_label (cited cites_tree a)
if_cites None None h = refl
if_cites None (Some b) h = absurd h
if_cites (Some a) None h = absurd h
if_cites (Some a) (Some b) h = h.tree

-- ---- what is assumed, and the variable of a block

record AssumeAlike (a b : AssumeText) : Type 0 where
  fine : IsAssume a → IsAssume b
  label : bare_label (label_tree b.label) ≡ bare_label (label_tree a.label)
  claim : bare_expr (expr_tree b.claim) ≡ bare_expr (expr_tree a.claim)

move_assume : (a : AssumeText) → Moves AssumeText assume_tokens AssumeAlike a
move_assume text tokens h =
    let a = first h in
    let b = first a.behind in
    let c = first b.behind in
    let d = first c.behind in
    let g = first d.behind in
    let s = split (expr_tokens text.claim) (sign kind.RightParen text.claim_right ∷ []) g.behind in
    let m = move_expr text.claim s.left s.first in
    let z = only s.second in
    record {
      it = record {
        word = a.place;
        left = b.place;
        label = label_at text.label c.place;
        assume = d.place;
        claim_left = g.place;
        claim = m.it;
        claim_right = z.place;
      };
      spelled = consed a.is (consed b.is (consed c.is (consed d.is (consed g.is (joined s.is m.spelled z.is)))));
      alike = record { fine = λ f. (f.0, m.alike.fine f.1); label = refl; claim = m.alike.tree };
    }

abbrev LetAlike : LetText → LetText → Type 0
LetAlike = Same LetText Name (λ l. IsPlain l.variable) (λ l. bare_name l.variable)

move_let : (l : LetText) → Moves LetText let_tokens LetAlike l
move_let l tokens h =
    let a = first h in
    let b = first a.behind in
    let c = first b.behind in
    let d = first c.behind in
    let g = first d.behind in
    let y = first g.behind in
    let r = first y.behind in
    let z = only r.behind in
    record {
      it = record {
        word = a.place;
        outer = b.place;
        left = c.place;
        variable = named_at l.variable d.place;
        colon = g.place;
        ty = y.place;
        right = r.place;
        arrow = z.place;
      };
      spelled = consed a.is (consed b.is (consed c.is (consed d.is (consed g.is (consed y.is (consed r.is z.is))))));
      alike = record { fine = λ f. f; tree = refl };
    }

-- ---- steps

abbrev pub StepAlike : StepText → StepText → Type 0
StepAlike = Same StepText StepTree IsStep (λ s. bare_step (step_tree s))

abbrev BehindAlike : BehindText → BehindText → Type 0
BehindAlike = Same BehindText StepTrees AreBehind (λ b. bare_steps (behind_tree b))

pub record StepsAlike (a b : StepsText) : Type 0 where
  pub some : HasStep a → HasStep b
  pub fine : AreSteps a → AreSteps b
  pub tree : bare_steps (steps_tree b) ≡ bare_steps (steps_tree a)

mutual
  move_step : (step : StepText) → Moves StepText step_tokens StepAlike step
  move_step (line label left claim right by rule cites) tokens h =
      let a = first h in
      let b = first a.behind in
      let s = split (expr_tokens claim) (sign kind.RightParen right ∷ sign kind.By by ∷ rule_token rule ∷ optional cites_tokens cites) b.behind in
      let m = move_expr claim s.left s.first in
      let c = first s.second in
      let d = first c.behind in
      let r = first d.behind in
      let q = move_optional cites_tokens CitesAlike move_cites cites r.rest r.behind in
      let rule_is = r.is ∙ ap (λ x. x ∷ r.rest) (sym (rule_token_at rule r.place)) in
      record {
        it = line (label_at label a.place) b.place m.it c.place d.place (rule_at rule r.place) q.it;
        spelled = consed a.is (consed b.is (joined s.is m.spelled (consed c.is (consed d.is (consed rule_is q.spelled)))));
        alike = record {
          fine = λ f. (
            f.0,
            m.alike.fine f.1,
            (rule_alike rule r.place).fine f.2,
            if_fine AreCites (λ x. map bare_label (cites_tree x)) cites q.it q.alike f.3,
          );
          tree = λ i. t.line (bare_label (label_tree label)) (m.alike.tree i) ((rule_alike rule r.place).tree i) (if_cites cites q.it q.alike i);
        };
      }
  move_step (block label assume more right) tokens h =
      let a = first h in
      let o = split (assume_tokens assume ++ behind_tokens more) (sign kind.RightParen right ∷ []) a.behind in
      let s = split (assume_tokens assume) (behind_tokens more) o.first in
      let m = move_assume assume s.left s.first in
      let n = move_behind more s.right s.second in
      let z = only o.second in
      record {
        it = block (label_at label a.place) m.it n.it z.place;
        spelled = consed a.is (joined o.is (joined s.is m.spelled n.spelled) z.is);
        alike = record {
          fine = λ f. (f.0, m.alike.fine f.1, n.alike.fine f.2);
          tree = λ i. t.block (bare_label (label_tree label)) (m.alike.label i) (m.alike.claim i) (n.alike.tree i);
        };
      }
  move_step (let_block label l assume more right outer) tokens h =
      let a = first h in
      let o = split (let_tokens l ++ assume_tokens assume ++ behind_tokens more) (sign kind.RightParen right ∷ sign kind.RightParen outer ∷ []) a.behind in
      let q = split (let_tokens l ++ assume_tokens assume) (behind_tokens more) o.first in
      let s = split (let_tokens l) (assume_tokens assume) q.first in
      let k = move_let l s.left s.first in
      let m = move_assume assume s.right s.second in
      let n = move_behind more q.right q.second in
      let y = first o.second in
      let z = only y.behind in
      record {
        it = let_block (label_at label a.place) k.it m.it n.it y.place z.place;
        spelled = consed a.is (joined o.is (joined q.is (joined s.is k.spelled m.spelled) n.spelled) (consed y.is z.is));
        alike = record {
          fine = λ f. (f.0, k.alike.fine f.1, m.alike.fine f.2, n.alike.fine f.3);
          tree = λ i. t.let_block (bare_label (label_tree label)) (k.alike.tree i) (m.alike.label i) (m.alike.claim i) (n.alike.tree i);
        };
      }

  move_behind : (more : BehindText) → Moves BehindText behind_tokens BehindAlike more
  move_behind nothing_behind tokens h = record { it = nothing_behind; spelled = nothing h; alike = record { fine = λ f. f; tree = refl } }
  move_behind (behind comma steps) tokens h =
      let a = first h in
      let m = move_steps steps a.rest a.behind in
      record { it = behind a.place m.it; spelled = consed a.is m.spelled; alike = record { fine = m.alike.fine; tree = m.alike.tree } }

  pub move_steps : (steps : StepsText) → Moves StepsText steps_tokens StepsAlike steps
  move_steps no_steps tokens h = record { it = no_steps; spelled = nothing h; alike = record { some = λ f. f; fine = λ f. f; tree = refl } }
  move_steps (last_step step) tokens h =
      let m = move_step step tokens h in
      record {
        it = last_step m.it;
        spelled = m.spelled;
        alike = record { some = λ f. tt; fine = m.alike.fine; tree = λ i. t.step_then (m.alike.tree i) t.no_steps };
      }
  move_steps (step_then step comma more) tokens h =
      let s = split (step_tokens step) (sign kind.Comma comma ∷ steps_tokens more) h in
      let m = move_step step s.left s.first in
      let b = first s.second in
      let r = move_steps more b.rest b.behind in
      record {
        it = step_then m.it b.place r.it;
        spelled = joined s.is m.spelled (consed b.is r.spelled);
        alike = record {
          some = λ f. tt;
          fine = λ f. (m.alike.fine f.0, r.alike.fine f.1);
          tree = λ i. t.step_then (m.alike.tree i) (r.alike.tree i);
        };
      }
