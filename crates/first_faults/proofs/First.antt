-- The first token that the machine does not take is the first fault.
use Rattle.machine_stands.proofs.Tokens.{both_true}
use Rattle.machine_stands.proofs.Stands.{Stands}
use Rattle.machine_sound.proofs.Sound.{moved_stands, begins, sound_tokens}
use Rattle.first_faults.proofs.Closing.{true_false}
use Rattle.first_faults.proofs.States.{can_end}
use Rattle.slang_grammar.specs.Parts.{number_token}
use Rattle.slang_machine.specs.States.{State, top}
use Rattle.slang_machine.specs.Expressions.{is}
use Rattle.slang_machine.specs.Machine.{next, finish, moved, run}
use Rattle.slang_tree.specs.DeclTree.{DeclTree}
use Rattle.slang_tree.specs.declared.place.Place.{Place}
use Rattle.slang_tree.specs.declared.place.Fault.{Fault}
use Rattle.slang_lexer.specs.declared.token.TokenKind.{TokenKind}
use Rattle.slang_lexer.specs.Spelling.{is_number}
use Rattle.slang_tokens.specs.Tok.{Tok, sign, same_kind}
use Rattle.slang_tokens.proofs.Bare.{IsBare, bare_tokens}
use Rattle.slang_tokens.specs.declared.read.TokensEnd.{TokensEnd}
use Rattle.std.proofs.Common.{◌≡◌, Bool, true, false, not, ◌&&◌, ◌||◌, List, [], ◌∷◌, ◌++◌, Option, Some, None, refl, sym, ap, ◌∙◌, subst, append_assoc, append-nil, cond, leb}
use Rattle.std.specs.Prelude.{option_and_then, codes}
use Rattle.std.specs.List.{AllByRecursion}
use Rattle.std.specs.Option.{IfSome}
use Rattle.std.proofs.lemmas.Bool.{leb-true, le-leb}
use Rattle.slang_lexer.specs.declared.token.TokenKind.TheVariants as kind
use Rattle.slang_tokens.specs.declared.read.TokensEnd.TheVariants as tokens_end
use denote.Enum.Bare.{same_true}
use Rattle.slang_lexer.specs.contracts.token.TokenKind.{the_type}
use Rattle.slang_lexer.specs.Statement.{is_left_out}
use Rattle.machine_complete.proofs.Declarations.{complete}
use Rattle.slang_grammar.proofs.Fronts.{first_one, no_first}
use Rattle.slang_grammar.specs.Faults.{IsText, IsViable, Takes, is_word, ends_with_at, last_place, open_braces, IsLargeLabel, IsLeftOut, word, class, annotation, if_expression, early_return, HasCode, large_label, no_invariant, left_out, unexpected, IsToldAt, at_token, at_sign, told_bad, IsFirstFault, within, at_end, at_bad}
use Rattle.first_faults.specs.Stops.{has_some, takes, is_large_label, is_invariant_due, is_left_out_at, code_at, fault_at, fault_at_end, step_or_stop, stop}
use Rattle.first_faults.specs.Laws.{IsRead, FrontsGoOn, StopsAtFault, TextHasNoStop}

none_some : {A : Type 0} (a : A) → None ≡ Some a → ⊥
none_some a h = cc (h)

some_same : {A : Type 0} {x y : A} → Some x ≡ Some y → x ≡ y
some_same h = cc (h)

bare_append : (xs ys : List Tok) → AllByRecursion IsBare xs → AllByRecursion IsBare ys → AllByRecursion IsBare (xs ++ ys)
bare_append [] ys h k = k
bare_append (x ∷ xs) ys h k = (h.0, bare_append xs ys h.1 k)

bare_front : (xs ys : List Tok) → AllByRecursion IsBare (xs ++ ys) → AllByRecursion IsBare xs
bare_front [] ys h = tt
bare_front (x ∷ xs) ys h = (h.0, bare_front xs ys h.1)

-- Fronts.

moved_more : (state : State) (xs ys : List Tok) → moved state (xs ++ ys) ≡ option_and_then (λ s. moved s ys) (moved state xs)
moved_more state [] ys = refl
moved_more state (token ∷ xs) ys = by (next state token) (λ s. moved_more s xs ys) where
  by : (o : Option State) → ((s : State) → moved s (xs ++ ys) ≡ option_and_then (λ t. moved t ys) (moved s xs))
      → option_and_then (λ s. moved s (xs ++ ys)) o ≡ option_and_then (λ t. moved t ys) (option_and_then (λ s. moved s xs) o)
  by None f = refl
  by (Some s) f = f s

run_moved : (state : State) (xs ys : List Tok) → run state (xs ++ ys) ≡ option_and_then (λ s. run s ys) (moved state xs)
run_moved state [] ys = refl
run_moved state (token ∷ xs) ys = by (next state token) (λ s. run_moved s xs ys) where
  by : (o : Option State) → ((s : State) → run s (xs ++ ys) ≡ option_and_then (λ t. run t ys) (moved s xs))
      → option_and_then (λ s. run s (xs ++ ys)) o ≡ option_and_then (λ t. run t ys) (option_and_then (λ s. moved s xs) o)
  by None f = refl
  by (Some s) f = f s

-- what some text goes on from the machine reads
viable_read : (front : List Tok) → IsViable front → IsRead front
viable_read front h = by (moved (top []) front) refl where
  by : (o : Option State) → moved (top []) front ≡ o → IsRead front
  by (Some s) same = record { state = s; reads = same }
  by None same =
      absurd (none_some h.text.file (sym (run_moved (top []) front h.more ∙ ap (option_and_then (λ s. run s h.more)) same)
      ∙ complete (front ++ h.more) h.text.file h.text.in_grammar))

-- and what the machine reads some text goes on from
read_viable : (front : List Tok) → AllByRecursion IsBare front → IsRead front → IsViable front
read_viable front bare h =
    let all : List Tok = front ++ [] in
    let stands : Stands all h.state [] =
    subst (λ o. IfSome o (λ s. Stands all s [])) h.reads (moved_stands all front [] (top []) bare (begins all)) in
    let end = can_end all h.state [] stands in
    record {
      more = end.more;
      text = record {
        file = end.file;
        in_grammar = sound_tokens (front ++ end.more) end.file (bare_append front end.more bare end.bare)
            (run_moved (top []) front end.more ∙ ap (option_and_then (λ s. run s end.more)) h.reads ∙ end.reads);
      };
    }

-- Which tokens may come.

-- the machine reads a front, up to a state
record ReadTo (front : List Tok) (state : State) : Type 0 where
  bare : AllByRecursion IsBare front
  reads : moved (top []) front ≡ Some state

moved_one : (front : List Tok) (state : State) (token : Tok) → moved (top []) front ≡ Some state
    → moved (top []) (front ++ token ∷ []) ≡ option_and_then (λ (s : State). Some s) (next state token)
moved_one front state token h = moved_more (top []) front (token ∷ []) ∙ ap (option_and_then (λ s. moved s (token ∷ []))) h

at_next : (front : List Tok) (state state' : State) (token : Tok) → ReadTo front state → IsBare token → next state token ≡ Some state' → ReadTo (front ++ token ∷ []) state'
at_next front state state' token at bare h = record {
  bare = bare_append front (token ∷ []) at.bare (bare, tt);
  reads = moved_one front state token at.reads ∙ ap (option_and_then (λ (s : State). Some s)) h;
}

at_viable : (front : List Tok) (state : State) → ReadTo front state → IsViable front
at_viable front state at = read_viable front at.bare (record { state = state; reads = at.reads })

not_taken : (front : List Tok) (state : State) (token : Tok) → ReadTo front state → next state token ≡ None → Takes front token → ⊥
not_taken front state token at h k =
    let read = viable_read (front ++ token ∷ []) k in
    none_some read.state (sym (moved_one front state token at.reads ∙ ap (option_and_then (λ (s : State). Some s)) h) ∙ read.reads)

taken : (front : List Tok) (state : State) (token : Tok) → ReadTo front state → IsBare token
    → (takes state token ≡ true → Takes front token) × (Takes front token → takes state token ≡ true)
taken front state token at bare = by (next state token) refl where
  by : (o : Option State) → next state token ≡ o → (has_some o ≡ true → Takes front token) × (Takes front token → has_some o ≡ true)
  by (Some s) same = (λ h. at_viable (front ++ token ∷ []) s (at_next front state s token at bare same), λ h. refl)
  by None same = (λ h. absurd (true_false (sym h)), λ h. absurd (not_taken front state token at same h))

-- Codes.

is_of_kind : (k : TokenKind) (token : Tok) → is k token ≡ true → token.kind ≡ k
is_of_kind k token h = same_true the_type tt token.kind k h

and_both : (a b : Bool) → a ≡ true → b ≡ true → (a && b) ≡ true
and_both a b h k = ap (λ x. x && b) h ∙ k

or_cases : {P : Type 0} (a b : Bool) → (a || b) ≡ true → (a ≡ true → P) → (b ≡ true → P) → P
or_cases true b h f g = f refl
or_cases false b h f g = g h

or_left : (a b : Bool) → a ≡ true → (a || b) ≡ true
or_left a b h = ap (λ x. x || b) h

or_right : (a b : Bool) → b ≡ true → (a || b) ≡ true
or_right true b h = refl
or_right false b h = h

zero_bare : (place : Place) → IsBare (number_token (codes "0") place)
zero_bare place = record { bare = λ a b. absurd (true_false b) }

large_told : (front : List Tok) (state : State) (token : Tok) → ReadTo front state
    → (is_large_label state token ≡ true → IsLargeLabel front token) × (IsLargeLabel front token → is_large_label state token ≡ true)
large_told front state token at =
    let zero_token : Tok = number_token (codes "0") token.place in
    let zero_taken = taken front state zero_token at (zero_bare token.place) in (
      λ h. (let both = both_true (is kind.Number token) (takes state zero_token) h in
          record { is_number = is_of_kind kind.Number token both.0; smaller = zero_taken.0 both.1 }),
      λ h. and_both (is kind.Number token) (takes state zero_token) (ap (λ k. same_kind k kind.Number) h.is_number) (zero_taken.1 h.smaller),
    )

left_out_told : (front : List Tok) (state : State) (token : Tok) → ReadTo front state
    → (is_left_out_at state front token ≡ true → IsLeftOut front token) × (IsLeftOut front token → is_left_out_at state front token ≡ true)
left_out_told front state token at = (so, back) where
  bang_taken : (takes state (sign kind.Bang token.place) ≡ true → Takes front (sign kind.Bang token.place))
      × (Takes front (sign kind.Bang token.place) → takes state (sign kind.Bang token.place) ≡ true)
  bang_taken = taken front state (sign kind.Bang token.place) at (record { bare = λ a b. refl })

  so : is_left_out_at state front token ≡ true → IsLeftOut front token
  so h =
      or_cases (is_left_out token.kind) _ h (λ a. word a) (λ h.
      or_cases (is kind.Class token) _ h (λ a. class (is_of_kind kind.Class token a)) (λ h.
      or_cases (ends_with_at front) _ h (λ a. annotation a) (λ h.
      or_cases (is kind.If token && takes state (sign kind.Bang token.place)) (is kind.Return token && leb 2 (open_braces front)) h (λ a.
      let both = both_true (is kind.If token) (takes state (sign kind.Bang token.place)) a in
      if_expression (is_of_kind kind.If token both.0) (bang_taken.0 both.1)) (λ a.
      let both = both_true (is kind.Return token) (leb 2 (open_braces front)) a in
      early_return (is_of_kind kind.Return token both.0) (leb-true 2 (open_braces front) both.1)))))

  back : IsLeftOut front token → is_left_out_at state front token ≡ true
  back (word a) = or_left (is_left_out token.kind) _ a
  back (class a) =
      or_right (is_left_out token.kind) _ (or_left (is kind.Class token) _ (ap (λ k. same_kind k kind.Class) a))
  back (annotation a) = or_right (is_left_out token.kind) _ (or_right (is kind.Class token) _ (or_left (ends_with_at front) _ a))
  back (if_expression a b) =
      or_right (is_left_out token.kind) _ (or_right (is kind.Class token) _ (or_right (ends_with_at front) _
      (or_left (is kind.If token && takes state (sign kind.Bang token.place)) _
      (and_both (is kind.If token) (takes state (sign kind.Bang token.place)) (ap (λ k. same_kind k kind.If) a) (bang_taken.1 b)))))
  back (early_return a b) =
      or_right (is_left_out token.kind) _ (or_right (is kind.Class token) _ (or_right (ends_with_at front) _
      (or_right (is kind.If token && takes state (sign kind.Bang token.place)) (is kind.Return token && leb 2 (open_braces front))
      (and_both (is kind.Return token) (leb 2 (open_braces front)) (ap (λ k. same_kind k kind.Return) a) (le-leb 2 (open_braces front) b)))))

refused : {P : Type 0} (b : Bool) → (P → b ≡ true) → b ≡ false → P → ⊥
refused b f h p = true_false (sym (f p) ∙ h)

code_told : (front : List Tok) (state : State) (token : Tok) → ReadTo front state → HasCode front token (code_at state front token)
code_told front state token at =
    by (is_large_label state token) (is_invariant_due state token) (is_left_out_at state front token) refl refl refl where
      by : (a b c : Bool) → is_large_label state token ≡ a → is_invariant_due state token ≡ b → is_left_out_at state front token ≡ c
          → HasCode front token (cond a 3 (cond b 13 (cond c 14 4)))
      by true b c h k l = large_label refl ((large_told front state token at).0 h)
      by false true c h k l =
          no_invariant refl (refused (is_large_label state token) (large_told front state token at).1 h)
          ((taken front state (sign kind.Invariant token.place) at (record { bare = λ a b. refl })).0 k)
      by false false true h k l =
          left_out refl (refused (is_large_label state token) (large_told front state token at).1 h)
          (refused (is_invariant_due state token) (taken front state (sign kind.Invariant token.place) at (record { bare = λ a b. refl })).1 k)
          ((left_out_told front state token at).0 l)
      by false false false h k l =
          unexpected refl (refused (is_large_label state token) (large_told front state token at).1 h)
          (refused (is_invariant_due state token) (taken front state (sign kind.Invariant token.place) at (record { bare = λ a b. refl })).1 k)
          (refused (is_left_out_at state front token) (left_out_told front state token at).1 l)

fault_told : (front : List Tok) (state : State) (token : Tok) → ReadTo front state → IsToldAt front token (fault_at state front token)
fault_told front state token at = by (ends_with_at front) (is_word token.kind) refl refl where
  by : (a w : Bool) → ends_with_at front ≡ a → is_word token.kind ≡ w
      → IsToldAt front token (cond (a && not w) (record { code = 4; place = last_place front token.place }) (record {
        code = code_at state front token;
        place = token.place;
      }))
  by true true h k = at_token (ap (λ x. not x || is_word token.kind) h ∙ k) refl (code_told front state token at)
  by true false h k = at_sign (ap (λ x. x && not (is_word token.kind)) h ∙ ap not k) refl
  by false w h k = at_token (ap (λ x. not x || is_word token.kind) h) refl (code_told front state token at)

-- Where the machine stops.

run_to : (front : List Tok) (state : State) → ReadTo front state → run (top []) front ≡ finish state
run_to front state at =
    ap (run (top [])) (sym (append-nil front)) ∙ run_moved (top []) front [] ∙ ap (option_and_then (λ s. run s [])) at.reads

text_ends : (front : List Tok) (state : State) → ReadTo front state → IsText front → has_some (finish state) ≡ true
text_ends front state at text = ap has_some (sym (run_to front state at) ∙ complete front text.file text.in_grammar)

ends_text : (front : List Tok) (state : State) → ReadTo front state → has_some (finish state) ≡ true → IsText front
ends_text front state at h = by (finish state) refl h where
  by : (o : Option (List DeclTree)) → finish state ≡ o → has_some o ≡ true → IsText front
  by (Some file) same k = record { file = file; in_grammar = sound_tokens front file at.bare (run_to front state at ∙ same) }
  by None same k = absurd (true_false (sym k))

-- at the end of the tokens
end_stops : (front : List Tok) (state : State) (end : TokensEnd) (fault : Fault) → ReadTo front state → fault_at_end state front end ≡ Some fault
    → IsFirstFault front end fault
end_stops front state (tokens_end.End place) fault at h = by (has_some (finish state)) refl h where
  by : (b : Bool) → has_some (finish state) ≡ b → cond b None (Some (fault_at state front (sign kind.End place))) ≡ Some fault
      → IsFirstFault front (tokens_end.End place) fault
  by true same k = absurd (none_some fault k)
  by false same k =
      at_end place refl (at_viable front state at) (λ text. true_false (sym (text_ends front state at text) ∙ same))
      (subst (IsToldAt front (sign kind.End place)) (some_same k) (fault_told front state (sign kind.End place) at))
end_stops front state (tokens_end.Fault bad) fault at h = at_bad bad refl (at_viable front state at) (sym (some_same h))

stops : (front rest : List Tok) (state : State) (end : TokensEnd) (fault : Fault) → ReadTo front state → AllByRecursion IsBare rest
    → stop state front rest end ≡ Some fault → IsFirstFault (front ++ rest) end fault
stops front [] state end fault at bare h = subst (λ t. IsFirstFault t end fault) (sym (append-nil front)) (end_stops front state end fault at h)
stops front (token ∷ rest) state end fault at bare h =
    by (next state token) refl h (λ s same k. subst (λ t. IsFirstFault t end fault) (append_assoc front (token ∷ []) rest)
    (stops (front ++ token ∷ []) rest s end fault (at_next front state s token at bare.0 same) bare.1 k)) where
      by : (o : Option State) → next state token ≡ o
          → step_or_stop state front token (λ s. stop s (front ++ token ∷ []) rest end) o ≡ Some fault
          → ((s : State) → next state token ≡ Some s → stop s (front ++ token ∷ []) rest end ≡ Some fault → IsFirstFault (front ++ token ∷ rest) end fault)
          → IsFirstFault (front ++ token ∷ rest) end fault
      by (Some s) same k more = more s same k
      by None same k more =
          within front token rest refl (at_viable front state at) (not_taken front state token at same)
          (subst (IsToldAt front token) (some_same k) (fault_told front state token at))

-- the tokens end where the text does
pub record Ended (tokens : List Tok) (end : TokensEnd) : Type 0 where
  pub place : Place
  pub is_end : end ≡ tokens_end.End place
  pub text : IsText tokens

no_end_stop : (front : List Tok) (state : State) (end : TokensEnd) → ReadTo front state → fault_at_end state front end ≡ None → Ended front end
no_end_stop front state (tokens_end.End place) at h = by (has_some (finish state)) refl h where
  by : (b : Bool) → has_some (finish state) ≡ b → cond b None (Some (fault_at state front (sign kind.End place))) ≡ None
      → Ended front (tokens_end.End place)
  by true same k = record { place = place; is_end = refl; text = ends_text front state at same }
  by false same k = absurd (none_some (fault_at state front (sign kind.End place)) (sym k))
no_end_stop front state (tokens_end.Fault bad) at h = absurd (none_some (told_bad front bad) (sym h))

no_stop : (front rest : List Tok) (state : State) (end : TokensEnd) → ReadTo front state → AllByRecursion IsBare rest → stop state front rest end ≡ None
    → Ended (front ++ rest) end
no_stop front [] state end at bare h = subst (λ t. Ended t end) (sym (append-nil front)) (no_end_stop front state end at h)
no_stop front (token ∷ rest) state end at bare h =
    by (next state token) refl h (λ s same k. subst (λ t. Ended t end) (append_assoc front (token ∷ []) rest)
    (no_stop (front ++ token ∷ []) rest s end (at_next front state s token at bare.0 same) bare.1 k)) where
      by : (o : Option State) → next state token ≡ o → step_or_stop state front token (λ s. stop s (front ++ token ∷ []) rest end) o ≡ None
          → ((s : State) → next state token ≡ Some s → stop s (front ++ token ∷ []) rest end ≡ None → Ended (front ++ token ∷ rest) end)
          → Ended (front ++ token ∷ rest) end
      by (Some s) same k more = more s same k
      by None same k more = absurd (none_some (fault_at state front token) (sym k))

at_begin : ReadTo [] (top [])
at_begin = record { bare = tt; reads = refl }

-- The laws.

pub fronts_go_on : FrontsGoOn
fronts_go_on bytes tokens end front rest are same =
    let bare = bare_front front rest (subst (AllByRecursion IsBare) same (bare_tokens bytes tokens end are)) in
    (viable_read front, read_viable front bare)

pub stops_at_fault : StopsAtFault
stops_at_fault bytes tokens end fault are = (told, stops [] tokens (top []) end fault at_begin bare) where
  bare : AllByRecursion IsBare tokens
  bare = bare_tokens bytes tokens end are

  told : IsFirstFault tokens end fault → stop (top []) [] tokens end ≡ Some fault
  told h = by (stop (top []) [] tokens end) refl where
    by : (o : Option Fault) → stop (top []) [] tokens end ≡ o → o ≡ Some fault
    by (Some f) same = ap Some (first_one tokens end f fault (stops [] tokens (top []) end f at_begin bare same) h)
    by None same =
        let ended_here = no_stop [] tokens (top []) end at_begin bare same in
        absurd (no_first tokens ended_here.place fault ended_here.text (subst (λ x. IsFirstFault tokens x fault) ended_here.is_end h))

pub text_has_no_stop : TextHasNoStop
text_has_no_stop bytes tokens end are h = (no_stop [] tokens (top []) end at_begin (bare_tokens bytes tokens end are) h).text
