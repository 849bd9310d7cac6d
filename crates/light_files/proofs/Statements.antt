-- What statements add to the weights.
use Rattle.std.proofs.Common.{◌≡◌, ℕ, max, Bool, true, false, List, [], ◌∷◌, ◌++◌, Option, Some, None, refl, sym, ap, append_assoc, append-nil, arith}
use Rattle.std.specs.List.{AllByRecursion}
use Rattle.slang_lexer.specs.declared.token.TokenKind.TheVariants as kind
use Rattle.slang_tree.specs.declared.place.Place.{Place}
use Rattle.slang_tokens.specs.Tok.{Tok, sign}
use Rattle.slang_tokens.specs.Kinds.{counted_kinds}
use Rattle.slang_grammar.specs.Parts.{members, optional, name_token, NamesText, one_name, names_tokens, label_token, TypedText, typed_tokens}
use Rattle.slang_grammar.specs.Expressions.{expr_tokens}
use Rattle.slang_grammar.specs.Proofs.{RuleText, rule_name, subst_less, subst_greater, rule_token, CitesText, one_label, cites_tokens, AssumeText}
use Rattle.slang_grammar.specs.Proofs.{assume_tokens, LetText, let_tokens, StepText, line, block, let_block, BehindText, nothing_behind, behind, StepsText}
use Rattle.slang_grammar.specs.Proofs.{no_steps, last_step, step_then, step_tokens, behind_tokens, steps_tokens, IsStep, AreBehind, AreSteps}
use Rattle.slang_grammar.specs.Statements.{value_word, TestText, test_tokens, ClaimsBehind, no_claims, claims_behind, claims_behind_tokens, AreClaimsBehind}
use Rattle.slang_grammar.specs.Statements.{InvariantText, invariant_tokens, IsInvariant, StmtText, value, assignment, call, branch, loop, assertion}
use Rattle.slang_grammar.specs.Statements.{deduction, IfText, if_then, ElseText, no_else, else_block, else_if, BlockText, StmtsText, no_stmts, last_stmt}
use Rattle.slang_grammar.specs.Statements.{stmt_then, LoopText, no_body, body, stmt_tokens, if_tokens, else_tokens, block_tokens, stmts_tokens, loop_tokens}
use Rattle.slang_grammar.specs.Statements.{IsStmt, IsIf, IsElse, IsBlock, AreStmts, IsLoop}
use Rattle.slang_grammar.specs.Statements as s
use Rattle.slang_grammar.specs.Expressions.{IsGrouped}
use Rattle.print_expressions.specs.Hefts.{Heft, around, followed, heft}
use Rattle.light_files.specs.Hefts.{most, written_heft, typed_heft, cites_heft, assumed_heft, step_heft, behind_peak, steps_peak, test_heft, claims_peak}
use Rattle.light_files.specs.Hefts.{invariant_heft, stmt_heft, if_heft, else_heft, block_heft, stmts_peak, loop_peak}
use Rattle.light_files.proofs.Counts.{IsPlain, Has, Inside, inside_is, has_none, has_plain, has_one, has_then, inside_has, inside_none}
use Rattle.light_files.proofs.Expressions.{has_equal, inside_equal, has_round, has_braces, has_round_then, comma_then, newline_then, listed_inside, type_has}
use Rattle.light_files.proofs.Expressions.{expr_has, exprs_inside, regroup}

abbrev pub Any : {A : Type 0} → A → Type 0
Any x = Unit {0}

pub all_any : {A : Type 0} (xs : List A) → AllByRecursion Any xs
all_any [] = tt
all_any (x ∷ xs) = (tt, all_any xs)

abbrev none_of : {A : Type 0} → A → ℕ
none_of x = 0

most_none : {A : Type 0} (xs : List A) → most none_of xs ≡ 0
most_none [] = refl
most_none (x ∷ xs) = let h = most_none xs in omega (arith, h)

rule_plain : (rule : RuleText) → IsPlain (rule_token rule).kind
unfolding counted_kinds
rule_plain (rule_name n) = λ at. refl
rule_plain (subst_less place) = λ at. refl
rule_plain (subst_greater place) = λ at. refl

pub value_plain : (fixed : Bool) → IsPlain (value_word fixed)
unfolding counted_kinds
value_plain true = λ at. refl
value_plain false = λ at. refl

module _ (limit : ℕ) where
  -- one token that does not count
  one_inside : (token : Tok) → IsPlain token.kind → Inside limit (token ∷ []) 0
  one_inside token p = inside_has limit (has_plain limit token p (has_none limit))

  pub names_has : (n : NamesText) → Has limit (names_tokens n) (around 0)
  unfolding counted_kinds
  names_has n =
      has_round limit n.left n.right
      (inside_is limit (most_none (members n.names))
      (listed_inside limit kind.Comma one_name none_of Any (λ at. refl) (λ x h. one_inside (name_token x) (λ at. refl)) n.names.front n.names.last
      (all_any (members n.names))))

  pub typed_has : (ty : Option TypedText) → Has limit (optional typed_tokens ty) (written_heft typed_heft ty)
  unfolding counted_kinds
  typed_has None = has_none limit
  typed_has (Some t) = has_plain limit _ (λ at. refl) (type_has limit t.ty)

  -- ---- proofs

  cites_has : (cites : Option CitesText) → Has limit (optional cites_tokens cites) (written_heft cites_heft cites)
  unfolding counted_kinds
  cites_has None = has_none limit
  cites_has (Some c) =
      has_round limit c.left c.right
      (inside_is limit (most_none (members c.labels))
      (listed_inside limit kind.Comma one_label none_of Any (λ at. refl) (λ x h. one_inside (label_token x) (λ at. refl)) c.labels.front c.labels.last
      (all_any (members c.labels))))

  abbrev IsBehindInside : BehindText → Type 0
  IsBehindInside nothing_behind = Unit {0}
  IsBehindInside (behind comma steps) = Inside limit (steps_tokens steps) (steps_peak steps)

  abbrev assumption : AssumeText → List Tok
  assumption a =
      label_token a.label ∷ sign kind.Assume a.assume ∷ sign kind.LeftParen a.claim_left ∷ expr_tokens a.claim ++ sign kind.RightParen a.claim_right ∷ []

  assumption_inside : (a : AssumeText) → IsGrouped a.claim → Inside limit (assumption a) (around (heft a.claim).peak).peak
  unfolding counted_kinds
  assumption_inside a g =
      inside_has limit
      (has_plain limit _ (λ at. refl)
      (has_plain limit _ (λ at. refl) (has_round limit a.claim_left a.claim_right (inside_has limit (expr_has limit a.claim g)))))

  assumed_inside : (a : AssumeText) (more : BehindText) → IsGrouped a.claim → IsBehindInside more
      → Inside limit (assumption a ++ behind_tokens more) (max (around (heft a.claim).peak).peak (behind_peak more))
  assumed_inside a nothing_behind g h =
      inside_equal limit (sym (append-nil (assumption a))) (inside_is limit (omega arith) (assumption_inside a g))
  assumed_inside a (behind comma steps) g h = comma_then limit comma (assumption_inside a g) h

  assumed_has : (a : AssumeText) (more : BehindText) (right : Place) → IsGrouped a.claim → IsBehindInside more
      → Has limit (assume_tokens a ++ behind_tokens more ++ sign kind.RightParen right ∷ []) (assumed_heft a (behind_peak more))
  unfolding counted_kinds
  assumed_has a more right g h = has_plain limit _ (λ at. refl) (has_round limit a.left right (assumed_inside a more g h))

  let_has : (l : LetText) {tokens : List Tok} {own : Heft} (outer : Place) → Has limit tokens own
      → Has limit ((let_tokens l ++ tokens) ++ sign kind.RightParen outer ∷ []) (around (followed (around 0) own).peak)
  unfolding counted_kinds
  let_has l outer h =
      has_plain limit _ (λ at. refl)
      (has_round limit l.outer outer
      (inside_has limit (has_round_then limit l.left l.right
      (inside_has limit (has_plain limit (name_token l.variable) (λ at. refl)
      (has_plain limit _ (λ at. refl) (has_plain limit _ (λ at. refl) (has_none limit)))))
      (has_plain limit _ (λ at. refl) h))))

  mutual
    unfolding counted_kinds

    step_has : (step : StepText) → IsStep step → Has limit (step_tokens step) (step_heft step)
    step_has (line label left claim right by rule cites) g =
        has_plain limit _ (λ at. refl)
        (has_round_then limit left right (inside_has limit (expr_has limit claim g.1))
        (has_plain limit _ (λ at. refl) (has_plain limit _ (rule_plain rule) (cites_has cites))))
    step_has (block label assume more right) g = has_plain limit _ (λ at. refl) (assumed_has assume more right g.1.1 (behind_inside more g.2))
    step_has (let_block label l assume more right outer) g =
        has_plain limit _ (λ at. refl)
        (has_equal limit (ap (λ x. let_tokens l ++ x) (append_assoc (assume_tokens assume ++ behind_tokens more) (sign kind.RightParen right ∷ []) _))
        (let_has l outer (assumed_has assume more right g.2.1 (behind_inside more g.3))))

    behind_inside : (more : BehindText) → AreBehind more → IsBehindInside more
    behind_inside nothing_behind g = tt
    behind_inside (behind comma steps) g = steps_inside steps g

    steps_inside : (steps : StepsText) → AreSteps steps → Inside limit (steps_tokens steps) (steps_peak steps)
    steps_inside no_steps g = inside_none limit
    steps_inside (last_step step) g = inside_has limit (step_has step g)
    steps_inside (step_then step comma more) g = comma_then limit comma (inside_has limit (step_has step g.0)) (steps_inside more g.1)

  -- ---- statements

  test_has : (t : TestText) → IsGrouped t.test → Has limit (sign kind.LeftParen t.left ∷ expr_tokens t.test ++ sign kind.RightParen t.right ∷ []) (test_heft t)
  test_has t g = has_round limit t.left t.right (inside_has limit (expr_has limit t.test g))

  claims_inside : (n : NamesText) (claims : ClaimsBehind) → AreClaimsBehind claims
      → Inside limit (names_tokens n ++ claims_behind_tokens claims) (max (around 0).peak (claims_peak claims))
  claims_inside n no_claims g = inside_equal limit (sym (append-nil (names_tokens n))) (inside_is limit (omega arith) (inside_has limit (names_has n)))
  claims_inside n (claims_behind comma claims) g = comma_then limit comma (inside_has limit (names_has n)) (exprs_inside limit claims g)

  modified_inside : (n : NamesText) (modifies : Place) (claims : ClaimsBehind) → AreClaimsBehind claims
      → Inside limit (sign kind.Modifies modifies ∷ names_tokens n ++ claims_behind_tokens claims) (max (around 0).peak (claims_peak claims))
  unfolding counted_kinds
  modified_inside n modifies no_claims g =
      inside_equal limit (ap (λ l. sign kind.Modifies modifies ∷ l) (sym (append-nil (names_tokens n))))
      (inside_is limit (omega arith) (inside_has limit (has_plain limit (sign kind.Modifies modifies) (λ at. refl) (names_has n))))
  modified_inside n modifies (claims_behind comma claims) g =
      comma_then limit comma (inside_has limit (has_plain limit (sign kind.Modifies modifies) (λ at. refl) (names_has n))) (exprs_inside limit claims g)

  invariant_has : (i : InvariantText) → IsInvariant i → Has limit (invariant_tokens i) (invariant_heft i)
  unfolding counted_kinds
  invariant_has i g = has_plain limit _ (λ at. refl) (has_round limit i.left i.right (modified_inside i.names i.modifies i.claims g.1))

  abbrev IsLoopInside : LoopText → Type 0
  IsLoopInside no_body = Unit {0}
  IsLoopInside (body newline stmts) = Inside limit (stmts_tokens stmts) (stmts_peak stmts)

  looped_inside : (i : InvariantText) (text : LoopText) → IsInvariant i → IsLoopInside text
      → Inside limit (invariant_tokens i ++ loop_tokens text) (max (invariant_heft i).peak (loop_peak text))
  looped_inside i no_body g h =
      inside_equal limit (sym (append-nil (invariant_tokens i))) (inside_is limit (omega arith) (inside_has limit (invariant_has i g)))
  looped_inside i (body newline stmts) g h = newline_then limit newline (inside_has limit (invariant_has i g)) h

  mutual
    unfolding counted_kinds

    pub stmt_has : (stmt : StmtText) → IsStmt stmt → Has limit (stmt_tokens stmt) (stmt_heft stmt)
    stmt_has (value fixed word n ty equals e) g =
        has_plain limit _ (value_plain fixed)
        (has_plain limit _ (λ at. refl) (has_then limit (typed_has ty) (has_plain limit _ (λ at. refl) (expr_has limit e g.2))))
    stmt_has (assignment n equals e) g = has_plain limit _ (λ at. refl) (has_plain limit _ (λ at. refl) (expr_has limit e g.1))
    stmt_has (call n left arguments right) g = has_plain limit _ (λ at. refl) (has_round limit left right (exprs_inside limit arguments g.1))
    stmt_has (branch text) g = if_has text g
    stmt_has (loop test begin invariant text end) g =
        has_equal limit (regroup (test_tokens kind.While test) (sign kind.LeftBrace begin ∷ invariant_tokens invariant) (loop_tokens text) _)
        (has_then limit (has_plain limit (sign kind.While test.word) (λ at. refl) (test_has test g.0))
        (has_braces limit begin end (looped_inside invariant text g.1 (loop_inside text g.2))))
    stmt_has (assertion word left claim right) g = has_plain limit _ (λ at. refl) (has_round limit left right (inside_has limit (expr_has limit claim g)))
    stmt_has (deduction word left steps right) g = has_plain limit _ (λ at. refl) (has_round limit left right (steps_inside steps g.1))

    if_has : (text : IfText) → IsIf text → Has limit (if_tokens text) (if_heft text)
    if_has (if_then test then otherwise) g =
        has_then limit (has_then limit (has_plain limit (sign kind.If test.word) (λ at. refl) (test_has test g.0)) (block_has then g.1))
        (else_has otherwise g.2)

    else_has : (otherwise : ElseText) → IsElse otherwise → Has limit (else_tokens otherwise) (else_heft otherwise)
    else_has no_else g = has_none limit
    else_has (else_block word text) g = has_one limit (sign kind.Else word) (λ at. refl) (block_has text g)
    else_has (else_if word text) g = has_one limit (sign kind.Else word) (λ at. refl) (if_has text g)

    block_has : (text : BlockText) → IsBlock text → Has limit (block_tokens text) (block_heft text)
    block_has (s.block begin stmts end) g = has_braces limit begin end (stmts_inside stmts g)

    stmts_inside : (stmts : StmtsText) → AreStmts stmts → Inside limit (stmts_tokens stmts) (stmts_peak stmts)
    stmts_inside no_stmts g = inside_none limit
    stmts_inside (last_stmt stmt) g = inside_has limit (stmt_has stmt g)
    stmts_inside (stmt_then stmt newline more) g = newline_then limit newline (inside_has limit (stmt_has stmt g.0)) (stmts_inside more g.1)

    loop_inside : (text : LoopText) → IsLoop text → IsLoopInside text
    loop_inside no_body g = tt
    loop_inside (body newline stmts) g = stmts_inside stmts g
