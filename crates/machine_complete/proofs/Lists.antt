-- Lists in round brackets are read: names, claims, arguments.
use Rattle.machine_expressions.proofs.Starts.{IsList, starts_member, exprs_trees}
use Rattle.machine_expressions.proofs.Reading.{read_exprs}
use Rattle.slang_grammar.specs.Parts.{Listed, members, separated, optional, listed, HasMember, IsPlain, NamesText, one_name, names_tokens}
use Rattle.slang_grammar.specs.Expressions.{ExprsText, no_exprs, last_expr, expr_then, expr_tokens, exprs_tokens, AreGrouped, exprs_tree, ClaimsText, claims_tokens, HasExpr, AreClaims, expr_trees}
use Rattle.slang_grammar.specs.Statements.{AreNames, ClaimsBehind, no_claims, claims_behind, claims_behind_tokens, AreClaimsBehind, claims_behind_trees}
use Rattle.slang_machine.specs.Open.{Draft, Within, with_stmt, ClaimWord, LoopHead, argument_of_call, clause_claim, loop_claim, Around, alone, close}
use Rattle.slang_machine.specs.States.{NamesOf, State, claims_due, claim_or_end, names_due, first_name, name_end, name_or_end, call_or_end, loop_claim_end, loop_claim_or_end, invariant_end, want}
use Rattle.slang_machine.specs.Expressions.{is, on}
use Rattle.slang_machine.specs.Statements.{after_stmt, end_claims, end_names}
use Rattle.slang_machine.specs.Machine.{next, run}
use Rattle.slang_tree.specs.ExprTree.{ExprTree, exprs_of}
use Rattle.slang_tree.specs.declared.place.Place.{Place}
use Rattle.slang_tree.specs.declared.expression.Name.{Name}
use Rattle.slang_tokens.specs.Tok.{Tok, sign}
use Rattle.std.proofs.Common.{◌≡◌, ◌<◌, List, [], ◌∷◌, ◌++◌, Option, Some, None, refl, sym, ap, ◌∙◌, append_assoc, append-nil, arith, length, map}
use Rattle.std.specs.Prelude.{option_and_then, option_to_list}
use Rattle.std.specs.List.{AllByRecursion}
use Rattle.std.proofs.lemmas.List.{map-id}
use Rattle.slang_lexer.specs.declared.token.TokenKind.TheVariants as kind
use Rattle.slang_tree.specs.StmtTree as s

-- Lists whose members are parted by commas: the states where a member or the end is due, behind a member, and behind the end.
pub record IsListOf {A T : Type 0} (tokens_of : A → List Tok) (tree : A → T) (P : A → Type 0) (due member over : List T → State) : Type 0 where
  pub reads : (trees : List T) (a : A) (rest : List Tok) → P a → run (due trees) (tokens_of a ++ rest) ≡ run (member (trees ++ tree a ∷ [])) rest
  pub comma : (trees : List T) (place : Place) → next (member trees) (sign kind.Comma place) ≡ Some (due trees)
  pub ends : (trees : List T) (place : Place) → next (member trees) (sign kind.RightParen place) ≡ Some (over trees)
  pub ends_due : (trees : List T) (place : Place) → next (due trees) (sign kind.RightParen place) ≡ Some (over trees)

-- what is due behind a step of the machine
pub stepped : (state state' : State) (token : Tok) (rest : List Tok) → next state token ≡ Some state' → run state (token ∷ rest) ≡ run state' rest
stepped state state' token rest h = ap (λ o. option_and_then (λ s. run s rest) o) h

-- a list whose members are accounted for is read
pub read_listed : {A T : Type 0} (tokens_of : A → List Tok) (tree : A → T) (P : A → Type 0) (due member over : List T → State)
    → IsListOf tokens_of tree P due member over → (front : List (A × Place)) (last : Option A) (trees : List T) (place : Place) (rest : List Tok)
    → AllByRecursion P (map (λ m. m.0) front ++ option_to_list last)
    → run (due trees) ((separated kind.Comma tokens_of front ++ optional tokens_of last) ++ sign kind.RightParen place ∷ rest)
    ≡ run (over (trees ++ map tree (map (λ m. m.0) front ++ option_to_list last))) rest
read_listed tokens_of tree P due member over list [] None trees place rest g =
    stepped (due trees) (over trees) (sign kind.RightParen place) rest (list.ends_due trees place) ∙ ap (λ t. run (over t) rest) (sym (append-nil trees))
read_listed tokens_of tree P due member over list [] (Some a) trees place rest g =
    list.reads trees a (sign kind.RightParen place ∷ rest) g.0
    ∙ stepped (member (trees ++ tree a ∷ [])) (over (trees ++ tree a ∷ [])) (sign kind.RightParen place) rest (list.ends (trees ++ tree a ∷ []) place)
read_listed tokens_of tree P due member over list (first ∷ front) last trees place rest g =
    let close : List Tok = sign kind.RightParen place ∷ rest in
    let others : List Tok = separated kind.Comma tokens_of front in
    let with_comma : List Tok = sign kind.Comma first.1 ∷ others in
    ap (run (due trees)) (append_assoc (tokens_of first.0 ++ with_comma) (optional tokens_of last) close
    ∙ append_assoc (tokens_of first.0) with_comma (optional tokens_of last ++ close)
    ∙ ap (λ x. tokens_of first.0 ++ sign kind.Comma first.1 ∷ x) (sym (append_assoc others (optional tokens_of last) close)))
    ∙ list.reads trees first.0 (sign kind.Comma first.1 ∷ (others ++ optional tokens_of last) ++ close) g.0
    ∙ stepped (member (trees ++ tree first.0 ∷ [])) (due (trees ++ tree first.0 ∷ [])) (sign kind.Comma first.1)
    ((others ++ optional tokens_of last) ++ close) (list.comma (trees ++ tree first.0 ∷ []) first.1)
    ∙ read_listed tokens_of tree P due member over list front last (trees ++ tree first.0 ∷ []) place rest g.1
    ∙ ap (λ t. run (over t) rest) (append_assoc trees (tree first.0 ∷ []) (map tree (map (λ m. m.0) front ++ option_to_list last)))

-- The same of a list with a member, whose first one is read from a state of its own.
pub read_from_first : {A T : Type 0} (tokens_of : A → List Tok) (tree : A → T) (P : A → Type 0) (first : State) (due member over : List T → State)
    → IsListOf tokens_of tree P due member over
    → ((a : A) (rest : List Tok) → P a → run first (tokens_of a ++ rest) ≡ run (member (tree a ∷ [])) rest)
    → (list : Listed A) (place : Place) (rest : List Tok) → HasMember list → AllByRecursion P (members list)
    → run first (listed kind.Comma tokens_of list ++ sign kind.RightParen place ∷ rest) ≡ run (over (map tree (members list))) rest
read_from_first tokens_of tree P first due member over is reads list place rest has g = by list.front list.last has g where
  by : (front : List (_ × Place)) (last : Option _) → 0 < length (map (λ m. m.0) front ++ option_to_list last)
      → AllByRecursion P (map (λ m. m.0) front ++ option_to_list last)
      → run first ((separated kind.Comma tokens_of front ++ optional tokens_of last) ++ sign kind.RightParen place ∷ rest)
      ≡ run (over (map tree (map (λ m. m.0) front ++ option_to_list last))) rest
  by [] None h g = absurd (omega (arith, h))
  by [] (Some a) h g =
      reads a (sign kind.RightParen place ∷ rest) g.0
      ∙ stepped (member (tree a ∷ [])) (over (tree a ∷ [])) (sign kind.RightParen place) rest (is.ends (tree a ∷ []) place)
  by (one ∷ front) last h g =
      let close : List Tok = sign kind.RightParen place ∷ rest in
      let others : List Tok = separated kind.Comma tokens_of front in
      let with_comma : List Tok = sign kind.Comma one.1 ∷ others in
      ap (run first) (append_assoc (tokens_of one.0 ++ with_comma) (optional tokens_of last) close
      ∙ append_assoc (tokens_of one.0) with_comma (optional tokens_of last ++ close)
      ∙ ap (λ x. tokens_of one.0 ++ sign kind.Comma one.1 ∷ x) (sym (append_assoc others (optional tokens_of last) close)))
      ∙ reads one.0 (sign kind.Comma one.1 ∷ (others ++ optional tokens_of last) ++ close) g.0
      ∙ stepped (member (tree one.0 ∷ [])) (due (tree one.0 ∷ [])) (sign kind.Comma one.1) ((others ++ optional tokens_of last)
      ++ close) (is.comma (tree one.0 ∷ []) one.1)
      ∙ read_listed tokens_of tree P due member over is front last (tree one.0 ∷ []) place rest g.1

-- Names in round brackets.

names_list : (of : NamesOf) → IsListOf one_name (λ (n : Name). n) IsPlain (λ names. name_or_end names of) (λ names. name_end names of) (λ names. end_names names of)
names_list of = record {
  reads = λ names n rest g. ap (λ b. option_and_then (λ s. run s rest) (on b (name_end (names ++ n ∷ []) of))) g;
  comma = λ names place. refl;
  ends = λ names place. refl;
  ends_due = λ names place. refl;
}

pub read_names : (of : NamesOf) (n : NamesText) (rest : List Tok) → AreNames n → run (names_due of) (names_tokens n ++ rest) ≡ run (end_names (members n.names) of) rest
read_names of n rest g =
    ap (run (first_name of)) (append_assoc (listed kind.Comma one_name n.names) (sign kind.RightParen n.right ∷ []) rest)
    ∙ read_from_first one_name (λ (n : Name). n) IsPlain (first_name of) (λ names. name_or_end names of) (λ names. name_end names of)
    (λ names. end_names names of) (names_list of)
    (λ n rest h. ap (λ b. option_and_then (λ s. run s rest) (on b (name_end (n ∷ []) of))) h) n.names n.right rest g.0 g.1
    ∙ ap (λ names. run (end_names names of) rest) (map-id (members n.names))

-- Expressions in round brackets.

-- where a first member is due, as where a member or the end is
pub from_first : (due over : List ExprTree → State) (member : List ExprTree → Around) → IsList due over member
    → (texts : ExprsText) (trees : List ExprTree) (rest : List Tok) → HasExpr texts
    → run (want (member trees)) (exprs_tokens texts ++ rest) ≡ run (due trees) (exprs_tokens texts ++ rest)
from_first due over member list no_exprs trees rest h = absurd h
from_first due over member list (last_expr text) trees rest h = sym (starts_member due over member list trees text rest)
from_first due over member list (expr_then text comma more) trees rest h =
    let same = append_assoc (expr_tokens text) (sign kind.Comma comma ∷ exprs_tokens more) rest in
    ap (run (want (member trees))) same
    ∙ sym (starts_member due over member list trees text (sign kind.Comma comma ∷ exprs_tokens more ++ rest))
    ∙ sym (ap (run (due trees)) same)

claims_list : (word : ClaimWord) (draft : Draft)
    → IsList (λ claims. claim_or_end word claims draft) (λ claims. end_claims word claims draft) (λ claims. alone (clause_claim word claims draft))
claims_list word draft = record {
  begins = λ trees token. refl;
  comma = λ trees expr place. refl;
  ends = λ trees expr place. refl;
  stays = λ trees expr. refl;
  loose = λ trees. refl;
  no_range = λ trees by place outer e. cc (e);
}

pub read_claims : (word : ClaimWord) (draft : Draft) (c : ClaimsText) (rest : List Tok) → AreClaims c
    → run (claims_due word draft) (claims_tokens c ++ rest) ≡ run (end_claims word (expr_trees c.claims) draft) rest
read_claims word draft c rest g =
    ap (run (want (alone (clause_claim word [] draft)))) (append_assoc (exprs_tokens c.claims) (sign kind.RightParen c.right ∷ []) rest)
    ∙ from_first _ _ _ (claims_list word draft) c.claims [] (sign kind.RightParen c.right ∷ rest) g.0
    ∙ read_exprs _ _ _ (claims_list word draft) c.claims [] c.right rest g.1

calls_list : (written : Name) (at : Within)
    → IsList (λ arguments. call_or_end written arguments at) (λ arguments. after_stmt (with_stmt at (s.call written (exprs_of arguments))))
    (λ arguments. alone (argument_of_call written arguments at))
calls_list written at = record {
  begins = λ trees token. refl;
  comma = λ trees expr place. refl;
  ends = λ trees expr place. refl;
  stays = λ trees expr. refl;
  loose = λ trees. refl;
  no_range = λ trees by place outer e. cc (e);
}

-- the arguments of a call that stands alone
pub read_call : (written : Name) (at : Within) (arguments : ExprsText) (right : Place) (rest : List Tok) → AreGrouped arguments
    → run (call_or_end written [] at) ((exprs_tokens arguments ++ sign kind.RightParen right ∷ []) ++ rest)
    ≡ run (after_stmt (with_stmt at (s.call written (exprs_tree arguments)))) rest
read_call written at arguments right rest g =
    ap (run (call_or_end written [] at)) (append_assoc (exprs_tokens arguments) (sign kind.RightParen right ∷ []) rest)
    ∙ read_exprs _ _ _ (calls_list written at) arguments [] right rest g
    ∙ ap (λ trees. run (after_stmt (with_stmt at (s.call written trees))) rest) (exprs_trees arguments)

-- a loop with these claims
abbrev claiming : LoopHead → List ExprTree → LoopHead
claiming head claims = record head { claims = claims }

loop_claims_list : (head : LoopHead)
    → IsList (λ claims. loop_claim_or_end (claiming head claims)) (λ claims. invariant_end (claiming head claims))
    (λ claims. alone (loop_claim (claiming head claims)))
loop_claims_list head = record {
  begins = λ trees token. refl;
  comma = λ trees expr place. refl;
  ends = λ trees expr place. refl;
  stays = λ trees expr. refl;
  loose = λ trees. refl;
  no_range = λ trees by place outer e. cc (e);
}

-- the claims of a loop that has none yet
pub read_loop_claims : (head : LoopHead) (claims : ClaimsBehind) (right : Place) (rest : List Tok) → head.claims ≡ [] → AreClaimsBehind claims
    → run (loop_claim_end head) (claims_behind_tokens claims ++ sign kind.RightParen right ∷ rest)
    ≡ run (invariant_end (record head { claims = claims_behind_trees claims })) rest
read_loop_claims head no_claims right rest none g = ap (λ claims. run (invariant_end (record head { claims = claims })) rest) none
read_loop_claims head (claims_behind comma claims) right rest none g =
    ap (λ before. run (loop_claim_or_end (record head { claims = before })) (exprs_tokens claims ++ sign kind.RightParen right ∷ rest)) none
    ∙ read_exprs _ _ _ (loop_claims_list head) claims [] right rest g
