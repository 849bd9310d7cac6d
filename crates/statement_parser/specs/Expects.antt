-- What the machine expects where labels, steps and statements are read.
use Rattle.std.specs.Prelude.{◌≡◌, Bool, true, false, List, [], ◌∷◌, Option, Some, None, ⊤}
use Rattle.std.specs.Option.{option_map}
use Rattle.slang_lexer.specs.declared.token.TokenKind.TheVariants as kind
use Rattle.slang_tree.specs.declared.place.Place.{Place}
use Rattle.slang_tree.specs.declared.expression.Name.{Name}
use Rattle.slang_tree.specs.declared.statement.Label.{Label}
use Rattle.slang_tree.specs.ExprTree.{ExprTree}
use Rattle.slang_tree.specs.StmtTree.{StepTree, StmtTree}
use Rattle.slang_tokens.specs.Tok.{Tok}
use Rattle.slang_machine.specs.Open.{Block, Within, Steps, Labelled, LoopHead}
use Rattle.slang_machine.specs.States.{State, NamesOf, first_name, name_or_end}
use Rattle.slang_machine.specs.Statements.{label_of, begin_step, end_steps, begin_stmt, end_block}
use Rattle.slang_machine.specs.Machine.{next, finish}
use Rattle.token_cursor.specs.declared.stop.Due.TheVariants as due
use Rattle.token_cursor.specs.Outcome.{due_of}
use Rattle.token_cursor.specs.Lists.{begins}

-- before these tokens a label is due and nothing else, and it leads to a state of its own
pub record ExpectsLabel (tokens : List Tok) (from : State) (to : Label → State) : Type 0 where
  pub at_end : finish from ≡ None
  pub label : due_of from ≡ due.Label
  pub step : (token : Tok) (rest : List Tok) → tokens ≡ token ∷ rest → next from token ≡ option_map to (label_of token)

-- before these tokens a statement is due and nothing else, and it goes there
pub record BeginsStmt (tokens : List Tok) (from : State) (at : Within) : Type 0 where
  pub at_end : finish from ≡ None
  pub no_other : due_of from ≡ due.Other
  pub step : (token : Tok) (rest : List Tok) → tokens ≡ token ∷ rest → next from token ≡ begin_stmt at token

abbrev pub within : List StmtTree → Block → Within
within stmts block = record { stmts = stmts; block = block }

-- a block that ends with a brace of its own, and what comes behind it
pub record ClosesBlock (block : Block) (to : List StmtTree → State) : Type 0 where
  pub closed : (stmts : List StmtTree) → end_block stmts block ≡ Some (to stmts)

-- steps so far, where another is due, or which have ended
abbrev pub StepsGoOn : Bool → List Tok → State → List StepTree → Steps → Type 0
StepsGoOn true tokens from steps around = ExpectsLabel tokens from (begin_step steps around)
StepsGoOn false tokens from steps around = from ≡ end_steps steps around

abbrev pub labelled_in : Label → List StepTree → Steps → Labelled
labelled_in label steps around = record { label = label; steps = steps; around = around }

abbrev pub head_of_loop : Place → ExprTree → List Name → List ExprTree → Within → LoopHead
head_of_loop place test modifies claims around = record { place = place; test = test; modifies = modifies; claims = claims; around = around }

-- a list so far: behind a member the end may come too, but not before these tokens
abbrev pub NoEnd : {A : Type 0} → List A → List Tok → Type 0
NoEnd [] tokens = ⊤
NoEnd (member ∷ members) tokens = begins kind.RightParen tokens ≡ false
