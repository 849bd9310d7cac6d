-- What is printed of a step of a proof is in the grammar, and has the same tree without places.
use Rattle.std.proofs.Common.{◌≡◌, ◌<◌, Bool, true, false, cond, List, [], ◌∷◌, map, length, Option, Some, None, codes, bytes_eq, refl, sym, ap, ap₂, ◌∙◌, subst, arith}
use Rattle.std.specs.List.{AllByRecursion}
use Rattle.std.proofs.lemmas.List.{length-map}
use Rattle.std.proofs.lemmas.Slice.Eq.{bytes_eq-Decides}
use Rattle.slang_tree.specs.declared.expression.Name.{Name}
use Rattle.slang_tree.specs.declared.statement.Label.{Label}
use Rattle.slang_tree.specs.StmtTree as t
use Rattle.slang_tree.specs.StmtTree.{StepTree, StepTrees}
use Rattle.slang_grammar.specs.Parts.{members, IsPlain, IfWritten, LabelText, IsLabel, label_tree}
use Rattle.slang_grammar.specs.Expressions.{expr_tree}
use Rattle.slang_grammar.specs.Proofs.{RuleText, rule_name, subst_less, subst_greater, IsRule, rule_tree, CitesText, AreCites, cites_tree, cited, AssumeText, IsAssume, StepText, line, block, let_block, BehindText, nothing_behind, behind, StepsText, no_steps, last_step, step_then, IsStep, AreBehind, AreSteps, step_tree, behind_tree, steps_tree, HasStep}
use Rattle.print_expressions.specs.Bare.{nowhere, bare_name, bare_expr}
use Rattle.print_expressions.specs.Accounts.{expr_account}
use Rattle.print_expressions.proofs.Back.{expressions_read_back}
use Rattle.print_statements.specs.Bare.{bare_label, bare_step, bare_steps}
use Rattle.print_statements.specs.Accounts.{label_account, rule_account, cites_account, assume_account, step_account, as_behind, steps_account}
use Rattle.print_statements.proofs.Lists.{listed_members, listed_has, listed_all, label_back}

-- ---- rules

-- a name that is no sign stays one
rule_named : (n : Name) → IsPlain n → IsRule (rule_account n) × (rule_tree (rule_account n) ≡ bare_name n)
rule_named n plain = at (bytes_eq n.text (codes "Subst_<")) (bytes_eq n.text (codes "Subst_>")) refl refl
  where
    at : (less greater : Bool) → bytes_eq n.text (codes "Subst_<") ≡ less → bytes_eq n.text (codes "Subst_>") ≡ greater →
        IsRule (cond less (subst_less nowhere) (cond greater (subst_greater nowhere) (rule_name (bare_name n))))
        × (rule_tree (cond less (subst_less nowhere) (cond greater (subst_greater nowhere) (rule_name (bare_name n)))) ≡ bare_name n)
    at true greater h k = (tt, ap (λ text. record { text = text; place = nowhere }) (sym ((bytes_eq-Decides n.text (codes "Subst_<")).0 h)))
    at false true h k = (tt, ap (λ text. record { text = text; place = nowhere }) (sym ((bytes_eq-Decides n.text (codes "Subst_>")).0 k)))
    at false false h k = (plain, refl)

rule_back : (rule : RuleText) → IsRule rule → IsRule (rule_account (rule_tree rule)) × (rule_tree (rule_account (rule_tree rule)) ≡ bare_name (rule_tree rule))
rule_back (rule_name n) h = rule_named n h
rule_back (subst_less place) h = (tt, refl)
rule_back (subst_greater place) h = (tt, refl)

-- ---- cited labels

all_back : (labels : List LabelText) → AllByRecursion IsLabel labels →
    AllByRecursion IsLabel (map label_account (map label_tree labels))
    × (map label_tree (map label_account (map label_tree labels)) ≡ map bare_label (map label_tree labels))
all_back [] h = (tt, refl)
all_back (label ∷ labels) h =
    let p = label_back label h.0 in
    let q = all_back labels h.1 in
    ((p.0, q.0), ap₂ (λ x xs. x ∷ xs) p.1 q.1)

-- the labels of a list that has some
cites_some : (labels : List Label) → 0 < length labels → AllByRecursion IsLabel (map label_account labels) →
    map label_tree (map label_account labels) ≡ map bare_label labels →
    IfWritten AreCites (cites_account labels) × (cited cites_tree (cites_account labels) ≡ map bare_label labels)
cites_some [] h all same = absurd (omega arith)
cites_some (label ∷ labels) h all same = (
  (listed_has (map label_account (label ∷ labels)) (omega arith), listed_all IsLabel (map label_account (label ∷ labels)) all),
  ap (map label_tree) (listed_members (map label_account (label ∷ labels))) ∙ same,
)

cites_back : (cites : Option CitesText) → IfWritten AreCites cites →
    IfWritten AreCites (cites_account (cited cites_tree cites))
    × (cited cites_tree (cites_account (cited cites_tree cites)) ≡ map bare_label (cited cites_tree cites))
cites_back None h = (tt, refl)
cites_back (Some cites) h =
    let p = all_back (members cites.labels) h.1 in
    cites_some (cites_tree cites) (subst (λ n. 0 < n) (sym (length-map (members cites.labels) label_tree)) h.0) p.0 p.1

module _ (light : Bool) where
  -- ---- steps

  assume_back : (assume : AssumeText) → IsAssume assume →
      IsAssume (assume_account light (label_tree assume.label) (expr_tree assume.claim))
      × ((label_tree (label_account (label_tree assume.label)) ≡ bare_label (label_tree assume.label))
      × (expr_tree (expr_account light (expr_tree assume.claim)) ≡ bare_expr (expr_tree assume.claim)))
  assume_back assume h =
      let p = label_back assume.label h.0 in
      let q = expressions_read_back light assume.claim h.1 in
      ((p.0, q.0), (p.1, q.1))

  abbrev IsBack : StepTree → Type 0
  IsBack step = IsStep (step_account light step) × (step_tree (step_account light step) ≡ bare_step step)

  abbrev AreBack : StepTrees → Type 0
  AreBack steps = AreSteps (steps_account light steps) × (steps_tree (steps_account light steps) ≡ bare_steps steps)

  abbrev IsBehind : StepTrees → Type 0
  IsBehind steps = AreBehind (as_behind (steps_account light steps)) × (behind_tree (as_behind (steps_account light steps)) ≡ bare_steps steps)

  more_back : (step : StepTree) (steps : StepTrees) → IsBack step → AreBack steps → AreBack (t.step_then step steps)
  more_back step t.no_steps h k = (h.0, ap (λ s. t.step_then s t.no_steps) h.1)
  more_back step (t.step_then next steps) h k = ((h.0, k.0), ap₂ t.step_then h.1 k.1)

  behind_stands : (steps : StepsText) → AreSteps steps → AreBehind (as_behind steps) × (behind_tree (as_behind steps) ≡ steps_tree steps)
  behind_stands no_steps h = (tt, refl)
  behind_stands (last_step step) h = (h, refl)
  behind_stands (step_then step comma more) h = (h, refl)

  behind_back : (steps : StepTrees) → AreBack steps → IsBehind steps
  behind_back steps h = let p = behind_stands (steps_account light steps) h.0 in (p.0, p.1 ∙ h.1)

  mutual
    step_back : (text : StepText) → IsStep text → IsBack (step_tree text)
    step_back (line label left claim right by rule cites) h =
        let l = label_back label h.0 in
        let c = expressions_read_back light claim h.1 in
        let r = rule_back rule h.2 in
        let s = cites_back cites h.3 in (
          (l.0, c.0, r.0, s.0),
          ap₂ (λ x y. t.line x y (rule_tree (rule_account (rule_tree rule))) (cited cites_tree (cites_account (cited cites_tree cites)))) l.1 c.1
              ∙ ap₂ (t.line (bare_label (label_tree label)) (bare_expr (expr_tree claim))) r.1 s.1,
        )
    step_back (block label assume more right) h =
        let l = label_back label h.0 in
        let a = assume_back assume h.1 in
        let m = behind_steps more h.2 in (
          (l.0, a.0, m.0),
          ap₂ (λ x y. t.block x y (expr_tree (expr_account light (expr_tree assume.claim))) (behind_tree (as_behind (steps_account light (behind_tree more))))) l.1 a.1.0
              ∙ ap₂ (t.block (bare_label (label_tree label)) (bare_label (label_tree assume.label))) a.1.1 m.1,
        )
    step_back (let_block label l assume more right outer) h =
        let p = label_back label h.0 in
        let a = assume_back assume h.2 in
        let m = behind_steps more h.3 in (
          (p.0, h.1, a.0, m.0),
          ap₂ (λ x y. t.let_block x (bare_name l.variable) y (expr_tree (expr_account light (expr_tree assume.claim))) (behind_tree (as_behind (steps_account light (behind_tree more))))) p.1 a.1.0
              ∙ ap₂ (t.let_block (bare_label (label_tree label)) (bare_name l.variable) (bare_label (label_tree assume.label))) a.1.1 m.1,
        )

    behind_steps : (more : BehindText) → AreBehind more → IsBehind (behind_tree more)
    behind_steps nothing_behind h = (tt, refl)
    behind_steps (behind comma steps) h = behind_back (steps_tree steps) (steps_back steps h)

    pub steps_back : (texts : StepsText) → AreSteps texts → AreBack (steps_tree texts)
    steps_back no_steps h = (tt, refl)
    steps_back (last_step text) h = let p = step_back text h in (p.0, ap (λ s. t.step_then s t.no_steps) p.1)
    steps_back (step_then text comma more) h = more_back (step_tree text) (steps_tree more) (step_back text h.0) (steps_back more h.1)

  some_step : (step : StepTree) (steps : StepTrees) → HasStep (steps_account light (t.step_then step steps))
  some_step step t.no_steps = tt
  some_step step (t.step_then next steps) = tt

  pub has_step : (texts : StepsText) → HasStep texts → HasStep (steps_account light (steps_tree texts))
  has_step no_steps h = absurd h
  has_step (last_step text) h = tt
  has_step (step_then text comma more) h = some_step (step_tree text) (steps_tree more)
