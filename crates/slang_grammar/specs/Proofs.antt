-- Steps of proofs in the text.
use Rattle.std.specs.Prelude.{List, [], ◌∷◌, ◌++◌, map, Option, Some, None, codes}
use Rattle.std.specs.List.{AllByRecursion}
use Rattle.slang_lexer.specs.declared.token.TokenKind.TheVariants as kind
use Rattle.slang_tree.specs.declared.place.Place.{Place}
use Rattle.slang_tree.specs.declared.expression.Name.{Name}
use Rattle.slang_tree.specs.declared.statement.Label.{Label}
use Rattle.slang_tree.specs.StmtTree as tree
use Rattle.slang_tree.specs.StmtTree.{StepTree, StepTrees}
use Rattle.slang_tokens.specs.Tok.{Tok, sign}
use Rattle.slang_grammar.specs.Parts.{Listed, members, listed, optional, HasMember, IfWritten, name_token, IsPlain, LabelText, label_token, IsLabel, label_tree}
use Rattle.slang_grammar.specs.Expressions.{ExprText, expr_tokens, IsGrouped, expr_tree}

-- a rule of deduction
pub data RuleText : Type 0 where
  rule_name : Name → RuleText
  subst_less : Place → RuleText
  subst_greater : Place → RuleText

abbrev pub rule_token : RuleText → Tok
rule_token (rule_name n) = name_token n
rule_token (subst_less place) = sign kind.SubstLess place
rule_token (subst_greater place) = sign kind.SubstGreater place

abbrev pub IsRule : RuleText → Type 0
IsRule (rule_name n) = IsPlain n
IsRule (subst_less place) = Unit {0}
IsRule (subst_greater place) = Unit {0}

abbrev pub rule_tree : RuleText → Name
rule_tree (rule_name n) = n
rule_tree (subst_less place) = record { text = codes "Subst_<"; place = place }
rule_tree (subst_greater place) = record { text = codes "Subst_>"; place = place }

-- the labels that a step cites, in round brackets
pub record CitesText : Type 0 where
  pub left : Place
  pub labels : Listed LabelText
  pub right : Place

abbrev pub one_label : LabelText → List Tok
one_label l = label_token l ∷ []

abbrev pub cites_tokens : CitesText → List Tok
cites_tokens c = sign kind.LeftParen c.left ∷ listed kind.Comma one_label c.labels ++ sign kind.RightParen c.right ∷ []

abbrev pub AreCites : CitesText → Type 0
AreCites c = HasMember c.labels × AllByRecursion IsLabel (members c.labels)

abbrev pub cites_tree : CitesText → List Label
cites_tree c = map label_tree (members c.labels)

abbrev pub cited : {A B : Type 0} → (A → List B) → Option A → List B
cited trees_of None = []
cited trees_of (Some part) = trees_of part

-- `SubProof(label Assume(claim), ..)` up to its first comma
pub record AssumeText : Type 0 where
  pub word : Place
  pub left : Place
  pub label : LabelText
  pub assume : Place
  pub claim_left : Place
  pub claim : ExprText
  pub claim_right : Place

abbrev pub assume_tokens : AssumeText → List Tok
assume_tokens a =
    sign kind.SubProof a.word ∷ sign kind.LeftParen a.left ∷ label_token a.label ∷ sign kind.Assume a.assume ∷ sign kind.LeftParen a.claim_left
    ∷ expr_tokens a.claim ++ sign kind.RightParen a.claim_right ∷ []

abbrev pub IsAssume : AssumeText → Type 0
IsAssume a = IsLabel a.label × IsGrouped a.claim

-- `Let((variable: Z) => ..)`, without what stands behind the arrow and without the last bracket
pub record LetText : Type 0 where
  pub word : Place
  pub outer : Place
  pub left : Place
  pub variable : Name
  pub colon : Place
  pub ty : Place
  pub right : Place
  pub arrow : Place

abbrev pub let_tokens : LetText → List Tok
let_tokens l =
    sign kind.Let l.word ∷ sign kind.LeftParen l.outer ∷ sign kind.LeftParen l.left ∷ name_token l.variable ∷ sign kind.Colon l.colon ∷ sign kind.TypeZ l.ty
    ∷ sign kind.RightParen l.right ∷ sign kind.FatArrow l.arrow ∷ []

mutual
  pub data StepText : Type 0 where
    -- `label (claim) by rule(cites)`
    line : LabelText → (left : Place) → ExprText → (right by : Place) → RuleText → Option CitesText → StepText
    -- `label SubProof(assumed Assume(claim), steps)`
    block : LabelText → AssumeText → BehindText → (right : Place) → StepText
    -- `label Let((variable: Z) => SubProof(assumed Assume(claim), steps))`
    let_block : LabelText → LetText → AssumeText → BehindText → (right outer : Place) → StepText

  -- what stands behind an assumption: nothing, or a comma and steps
  pub data BehindText : Type 0 where
    nothing_behind : BehindText
    behind : (comma : Place) → StepsText → BehindText

  -- steps parted by commas, where one may stand behind the last
  pub data StepsText : Type 0 where
    no_steps : StepsText
    last_step : StepText → StepsText
    step_then : StepText → (comma : Place) → StepsText → StepsText

abbrev mutual
  pub step_tokens : StepText → List Tok
  step_tokens (line label left claim right by rule cites) =
      label_token label ∷ sign kind.LeftParen left ∷ expr_tokens claim ++ sign kind.RightParen right ∷ sign kind.By by ∷ rule_token rule
      ∷ optional cites_tokens cites
  step_tokens (block label assume more right) = label_token label ∷ assume_tokens assume ++ behind_tokens more ++ sign kind.RightParen right ∷ []
  step_tokens (let_block label l assume more right outer) =
      label_token label ∷ let_tokens l ++ assume_tokens assume ++ behind_tokens more ++ sign kind.RightParen right ∷ sign kind.RightParen outer ∷ []

  pub behind_tokens : BehindText → List Tok
  behind_tokens nothing_behind = []
  behind_tokens (behind comma steps) = sign kind.Comma comma ∷ steps_tokens steps

  pub steps_tokens : StepsText → List Tok
  steps_tokens no_steps = []
  steps_tokens (last_step step) = step_tokens step
  steps_tokens (step_then step comma more) = step_tokens step ++ sign kind.Comma comma ∷ steps_tokens more

abbrev mutual
  pub IsStep : StepText → Type 0
  IsStep (line label left claim right by rule cites) = IsLabel label × IsGrouped claim × IsRule rule × IfWritten AreCites cites
  IsStep (block label assume more right) = IsLabel label × IsAssume assume × AreBehind more
  IsStep (let_block label l assume more right outer) = IsLabel label × IsPlain l.variable × IsAssume assume × AreBehind more

  pub AreBehind : BehindText → Type 0
  AreBehind nothing_behind = Unit {0}
  AreBehind (behind comma steps) = AreSteps steps

  pub AreSteps : StepsText → Type 0
  AreSteps no_steps = Unit {0}
  AreSteps (last_step step) = IsStep step
  AreSteps (step_then step comma more) = IsStep step × AreSteps more

abbrev mutual
  pub step_tree : StepText → StepTree
  step_tree (line label left claim right by rule cites) = tree.line (label_tree label) (expr_tree claim) (rule_tree rule) (cited cites_tree cites)
  step_tree (block label assume more right) = tree.block (label_tree label) (label_tree assume.label) (expr_tree assume.claim) (behind_tree more)
  step_tree (let_block label l assume more right outer) =
      tree.let_block (label_tree label) l.variable (label_tree assume.label) (expr_tree assume.claim) (behind_tree more)

  pub behind_tree : BehindText → StepTrees
  behind_tree nothing_behind = tree.no_steps
  behind_tree (behind comma steps) = steps_tree steps

  pub steps_tree : StepsText → StepTrees
  steps_tree no_steps = tree.no_steps
  steps_tree (last_step step) = tree.step_then (step_tree step) tree.no_steps
  steps_tree (step_then step comma more) = tree.step_then (step_tree step) (steps_tree more)

abbrev pub HasStep : StepsText → Type 0
HasStep no_steps = ⊥
HasStep (last_step step) = Unit {0}
HasStep (step_then step comma more) = Unit {0}
