-- Where the tokens get stuck the machine stops, with the fault that is told by what may come there.
use Rattle.std.proofs.Common.{◌+◌, ◌≡◌, ◌||◌, ◌&&◌, not, ℕ, ◌-◌, Bool, true, false, cond, List, [], ◌∷◌, ◌++◌, Option, Some, None, length, take, refl, sym, ap, ◌∙◌, subst, append_assoc, append-nil, length-append, arith}
use Rattle.std.specs.Prelude.{option_and_then, nat_le, codes}
use Rattle.std.specs.List.{AllByRecursion}
use Rattle.std.proofs.lemmas.List.{take-map, length-map}
use Rattle.std.proofs.Math.Seq.{take-append_seam}
use Rattle.slang_lexer.specs.Statement.{is_left_out}
use Rattle.slang_lexer.specs.declared.token.TokenKind.TheVariants as kind
use Rattle.slang_tree.specs.declared.place.Fault.{Fault}
use Rattle.slang_tree.specs.DeclTree.{DeclTree}
use Rattle.slang_tokens.specs.declared.lexeme.Lexeme.{Lexeme}
use Rattle.slang_tokens.specs.declared.read.TokensEnd.{TokensEnd}
use Rattle.slang_tokens.specs.declared.read.TokensEnd.TheVariants as tokens_end
use Rattle.slang_tokens.specs.Tok.{Tok, sign, tok, toks}
use Rattle.slang_grammar.specs.Parts.{number_token, is_numeral}
use Rattle.slang_grammar.specs.Faults.{is_word, ends_with_at, last_place, open_braces, told_bad}
use Rattle.slang_machine.specs.States.{State}
use Rattle.slang_machine.specs.Expressions.{is, is_number_token}
use Rattle.slang_machine.specs.Machine.{next, finish, run}
use Rattle.token_cursor.specs.declared.stop.Due.{Due}
use Rattle.token_cursor.specs.declared.stop.Due.TheVariants as due
use Rattle.token_cursor.specs.Outcome.{outcome, read, stuck, ended, stepped, due_of}
use Rattle.first_faults.specs.Stops.{has_some, takes, is_large_label, code_at, fault_at, fault_at_end, step_or_stop, stop}
use Rattle.fault_codes.specs.Codes.{same_due, code_where, fault_where, fault_left}
use Rattle.fault_codes.proofs.Numerals.{IsNumeral}
use Rattle.fault_codes.proofs.Probes.{takes_number, answers}

true_false : true ≡ false → ⊥
true_false h = cc (h)

read_stuck : (file : List DeclTree) (rest : List Tok) (may : Due) → read file ≡ stuck rest may → ⊥
read_stuck file rest may h = cc (h)

stuck_tokens : (a b : List Tok) (x y : Due) → stuck a x ≡ stuck b y → a ≡ b
stuck_tokens a b x y h = cc (h)

stuck_due : (a b : List Tok) (x y : Due) → stuck a x ≡ stuck b y → x ≡ y
stuck_due a b x y h = cc (h)

read_file : (a b : List DeclTree) → read a ≡ read b → a ≡ b
read_file a b h = cc (h)

-- Codes.

-- a number that may not come here is refused as a label exactly where a label is due
abbrev SameLabel : State → Tok → Type 0
SameLabel state token = is_large_label state token ≡ (is kind.Number token && same_due (due_of state) due.Label)

same_label : (state : State) (token : Tok) → next state token ≡ None → IsNumeral token → SameLabel state token
same_label state token h numeral = by (is kind.Number token) refl where
  not_taken : is kind.Number token ≡ true → (b : Bool) → takes_number state ≡ b → b ≡ false
  not_taken n false t = refl
  not_taken n true t =
      let number : is_number_token token ≡ true = ap (λ b. b && is_numeral token.text) n ∙ numeral.numeral n in
      absurd (true_false (sym ((answers state token.place).number token number t) ∙ ap has_some h))

  or_false : (a b : Bool) → b ≡ false → (a || b) ≡ a
  or_false true b e = refl
  or_false false b e = e

  by : (b : Bool) → is kind.Number token ≡ b → (b && takes state (number_token (codes "0") token.place)) ≡ (b && same_due (due_of state) due.Label)
  by false n = refl
  by true n =
      (answers state token.place).zero
      ∙ or_false (same_due (due_of state) due.Label) (takes_number state) (not_taken n (takes_number state) refl)

code_same : (state : State) (front : List Tok) (token : Tok) → SameLabel state token → code_at state front token ≡ code_where (due_of state) front token.kind
code_same state front token label =
    let a = answers state token.place in
    let others : Bool → Bool → Bool = λ operand braces.
    is_left_out token.kind || (is kind.Class token || (ends_with_at front || ((is kind.If token && operand) || (is kind.Return token && braces)))) in
    let braces : Bool = nat_le 2 (open_braces front) in
    let bang : Bool = takes state (sign kind.Bang token.place) in
    ap (λ b. cond b 3 (cond (takes state (sign kind.Invariant token.place)) 13 (cond (others bang braces) 14 4))) label
    ∙ ap (λ b. cond (is kind.Number token && same_due (due_of state) due.Label) 3 (cond b 13 (cond (others bang braces) 14 4))) a.invariant
    ∙ ap (λ b. cond (is kind.Number token && same_due (due_of state) due.Label) 3 (cond (same_due (due_of state) due.Invariant) 13 (cond (others b braces) 14 4))) a.bang

fault_same : (state : State) (front : List Tok) (token : Tok) → SameLabel state token
    → fault_at state front token ≡ fault_where (due_of state) front token.kind token.place
fault_same state front token label =
    ap (λ c. cond (ends_with_at front && not (is_word token.kind)) (record { code = 4; place = last_place front token.place }) (record {
      code = c;
      place = token.place;
    })) (code_same state front token label)

-- Where they get stuck.

pub record Stopped (state : State) (before tokens rest : List Tok) (may : Due) : Type 0 where
  pub front : List Tok
  pub splits : tokens ≡ front ++ rest
  pub stops : (end : TokensEnd) → stop state before tokens end ≡ Some (fault_left (before ++ front) rest end may)

at_end : (state : State) (before : List Tok) (end : TokensEnd) → finish state ≡ None
    → fault_at_end state before end ≡ Some (fault_left (before ++ []) [] end (due_of state))
at_end state before (tokens_end.End place) h =
    ap (λ o. cond (has_some o) None (Some (fault_at state before (sign kind.End place)))) h
    ∙ ap (λ f. Some f) (fault_same state before (sign kind.End place) refl)
    ∙ ap (λ front. Some (fault_where (due_of state) front kind.End place)) (sym (append-nil before))
at_end state before (tokens_end.Fault bad) h = ap (λ front. Some (told_bad front bad)) (sym (append-nil before))

none_left : (state : State) (before : List Tok) → finish state ≡ None → Stopped state before [] [] (due_of state)
none_left state before h = record { front = []; splits = refl; stops = λ end. at_end state before end h }

refused : (state : State) (before : List Tok) (token : Tok) (tokens : List Tok) → next state token ≡ None → IsNumeral token
    → Stopped state before (token ∷ tokens) (token ∷ tokens) (due_of state)
refused state before token tokens h numeral = record {
  front = [];
  splits = refl;
  stops = λ end.
      ap (step_or_stop state before token (λ s. stop s (before ++ token ∷ []) tokens end)) h
      ∙ ap (λ f. Some f) (fault_same state before token (same_label state token h numeral))
      ∙ ap (λ front. Some (fault_where (due_of state) front token.kind token.place)) (sym (append-nil before));
}

moved : (state state' : State) (before : List Tok) (token : Tok) (tokens rest : List Tok) (may : Due) → next state token ≡ Some state'
    → Stopped state' (before ++ token ∷ []) tokens rest may → Stopped state before (token ∷ tokens) rest may
moved state state' before token tokens rest may h more = record {
  front = token ∷ more.front;
  splits = ap (λ ts. token ∷ ts) more.splits;
  stops = λ end.
      ap (step_or_stop state before token (λ s. stop s (before ++ token ∷ []) tokens end)) h
      ∙ more.stops end
      ∙ ap (λ front. Some (fault_left front rest end may)) (append_assoc before (token ∷ []) more.front);
}

pub stopped : (state : State) (before tokens rest : List Tok) (may : Due) → AllByRecursion IsNumeral tokens → outcome state tokens ≡ stuck rest may
    → Stopped state before tokens rest may
stopped state before [] rest may all h = by (finish state) refl h where
  by : (o : Option (List DeclTree)) → finish state ≡ o → ended state o ≡ stuck rest may → Stopped state before [] rest may
  by (Some file) same k = absurd (read_stuck file rest may k)
  by None same k =
      subst (λ r. Stopped state before [] r may) (stuck_tokens [] rest (due_of state) may k)
      (subst (λ m. Stopped state before [] [] m) (stuck_due [] rest (due_of state) may k) (none_left state before same))
stopped state before (token ∷ tokens) rest may all h =
    by (next state token) refl h (λ s same k. moved state s before token tokens rest may same (stopped s (before ++ token ∷ []) tokens rest may all.1 k)) where
      by : (o : Option State) → next state token ≡ o → stepped (λ s. outcome s tokens) (stuck (token ∷ tokens) (due_of state)) o ≡ stuck rest may
          → ((s : State) → next state token ≡ Some s → outcome s tokens ≡ stuck rest may → Stopped state before (token ∷ tokens) rest may)
          → Stopped state before (token ∷ tokens) rest may
      by (Some s) same k more = more s same k
      by None same k more =
          subst (λ r. Stopped state before (token ∷ tokens) r may) (stuck_tokens (token ∷ tokens) rest (due_of state) may k)
          (subst (λ m. Stopped state before (token ∷ tokens) (token ∷ tokens) m) (stuck_due (token ∷ tokens) rest (due_of state) may k)
          (refused state before token tokens same all.0))

-- the tokens before those that are left
pub front_is : (all rest : List Lexeme) (front : List Tok) → toks all ≡ front ++ toks rest → toks (take (length all - length rest) all) ≡ front
front_is all rest front h =
    let n : ℕ = length all - length rest in
    let all_len : length (toks all) ≡ length all = length-map all tok in
    let rest_len : length (toks rest) ≡ length rest = length-map rest tok in
    let whole_len : length (toks all) ≡ length front + length (toks rest) = ap length h ∙ length-append front (toks rest) in
    sym (take-map tok n all)
    ∙ ap (take n) h
    ∙ ap (λ m. take m (front ++ toks rest)) (omega (arith, all_len, rest_len, whole_len))
    ∙ take-append_seam front (toks rest)

-- Where they are read.

pub run_read : (state : State) (tokens : List Tok) (file : List DeclTree) → outcome state tokens ≡ read file → run state tokens ≡ Some file
run_read state [] file h = by (finish state) h where
  by : (o : Option (List DeclTree)) → ended state o ≡ read file → o ≡ Some file
  by (Some it) k = ap (λ f. Some f) (read_file it file k)
  by None k = absurd (read_stuck file [] (due_of state) (sym k))
run_read state (token ∷ tokens) file h = by (next state token) h (λ s k. run_read s tokens file k) where
  by : (o : Option State) → stepped (λ s. outcome s tokens) (stuck (token ∷ tokens) (due_of state)) o ≡ read file
      → ((s : State) → outcome s tokens ≡ read file → run s tokens ≡ Some file) → option_and_then (λ s. run s tokens) o ≡ Some file
  by (Some s) k more = more s k
  by None k more = absurd (read_stuck file (token ∷ tokens) (due_of state) (sym k))

pub bad_end : (state : State) (before tokens : List Tok) (file : List DeclTree) (bad : Fault) → outcome state tokens ≡ read file
    → stop state before tokens (tokens_end.Fault bad) ≡ Some (told_bad (before ++ tokens) bad)
bad_end state before [] file bad h = ap (λ front. Some (told_bad front bad)) (sym (append-nil before))
bad_end state before (token ∷ tokens) file bad h =
    by (next state token) h (λ s k. bad_end s (before ++ token ∷ []) tokens file bad k
    ∙ ap (λ front. Some (told_bad front bad)) (append_assoc before (token ∷ []) tokens)) where
      by : (o : Option State) → stepped (λ s. outcome s tokens) (stuck (token ∷ tokens) (due_of state)) o ≡ read file
          → ((s : State) → outcome s tokens ≡ read file
          → stop s (before ++ token ∷ []) tokens (tokens_end.Fault bad) ≡ Some (told_bad (before ++ token ∷ tokens) bad))
          → step_or_stop state before token (λ s. stop s (before ++ token ∷ []) tokens (tokens_end.Fault bad)) o ≡ Some (told_bad (before ++ token ∷ tokens) bad)
      by (Some s) k more = more s k
      by None k more = absurd (read_stuck file (token ∷ tokens) (due_of state) (sym k))
