-- Lists that are read member by member.
use Rattle.slang_grammar.specs.Parts.{Listed, members, separated, listed}
use Rattle.slang_tree.specs.declared.place.Place.{Place}
use Rattle.slang_lexer.specs.declared.token.TokenKind.{TokenKind}
use Rattle.slang_tokens.specs.Tok.{Tok, sign}
use Rattle.std.proofs.Common.{◌≡◌, ◌<◌, List, [], ◌∷◌, ◌++◌, Some, None, refl, sym, ap, ◌∙◌, subst, append_assoc, append-nil, arith, length, map}
use Rattle.std.specs.List.{AllByRecursion}
use Rattle.std.proofs.lemmas.List.{map-append}

-- What a list of members makes of a state, each member a step.
abbrev pub Folded : {A S : Type 0} → (S → A → S) → S → List A → S
Folded step start [] = start
Folded step start (a ∷ more) = Folded step (step start a) more

-- each member fits the state that it meets
abbrev pub Each : {A S : Type 0} → (S → A → Type 0) → (S → A → S) → S → List A → Type 0
Each P step start [] = Unit {0}
Each P step start (a ∷ more) = P start a × Each P step (step start a) more

folded_more : {A S : Type 0} (step : S → A → S) (start : S) (xs : List A) (a : A) → Folded step start (xs ++ a ∷ []) ≡ step (Folded step start xs) a
folded_more step start [] a = refl
folded_more step start (x ∷ xs) a = folded_more step (step start x) xs a

each_more : {A S : Type 0} (P : S → A → Type 0) (step : S → A → S) (start : S) (xs : List A) (a : A) → Each P step start xs → P (Folded step start xs) a
    → Each P step start (xs ++ a ∷ [])
each_more P step start [] a e p = (p, tt)
each_more P step start (x ∷ xs) a e p = (e.0, each_more P step (step start x) xs a e.1 p)

-- the members of a list that is not at its end
abbrev pub firsts : {A : Type 0} → List (A × Place) → List A
firsts front = map (λ m. m.0) front

separated_more : {A : Type 0} (k : TokenKind) (tokens_of : A → List Tok) (front : List (A × Place)) (a : A) (place : Place) (rest : List Tok)
    → separated k tokens_of front ++ (tokens_of a ++ sign k place ∷ rest) ≡ separated k tokens_of (front ++ (a, place) ∷ []) ++ rest
separated_more k tokens_of [] a place rest = sym (append_assoc (tokens_of a) (sign k place ∷ []) rest)
separated_more k tokens_of (m ∷ front) a place rest =
    append_assoc (tokens_of m.0) (sign k m.1 ∷ separated k tokens_of front) (tokens_of a ++ sign k place ∷ rest)
    ∙ ap (λ x. tokens_of m.0 ++ sign k m.1 ∷ x) (separated_more k tokens_of front a place rest)
    ∙ sym (append_assoc (tokens_of m.0) (sign k m.1 ∷ separated k tokens_of (front ++ (a, place) ∷ [])) rest)

-- Members were read, each with a separator behind it, up to this state; before them stands what is given.
pub record Front {A S : Type 0} (k : TokenKind) (tokens_of : A → List Tok) (P : S → A → Type 0) (step : S → A → S) (start : S)
    (K : List Tok → Type 0) (state : S) (rest : List Tok) : Type 0 where
  pub front : List (A × Place)
  pub each : Each P step start (firsts front)
  pub same : Folded step start (firsts front) ≡ state
  pub opened : K (separated k tokens_of front ++ rest)

-- The same, and then one more member without a separator.
pub record Last {A S : Type 0} (k : TokenKind) (tokens_of : A → List Tok) (P : S → A → Type 0) (step : S → A → S) (start : S)
    (K : List Tok → Type 0) (state : S) (rest : List Tok) : Type 0 where
  pub before : S
  pub member : A
  pub fits : P before member
  pub same : step before member ≡ state
  pub opened : Front k tokens_of P step start K before (tokens_of member ++ rest)

-- A whole list.
pub record Whole {A S : Type 0} (k : TokenKind) (tokens_of : A → List Tok) (P : S → A → Type 0) (step : S → A → S) (start : S)
    (K : List Tok → Type 0) (state : S) (rest : List Tok) : Type 0 where
  pub list : Listed A
  pub each : Each P step start (members list)
  pub same : Folded step start (members list) ≡ state
  pub opened : K (listed k tokens_of list ++ rest)

pub none_yet : {A S : Type 0} (k : TokenKind) (tokens_of : A → List Tok) (P : S → A → Type 0) (step : S → A → S) (start : S)
    (K : List Tok → Type 0) (rest : List Tok) → K rest → Front k tokens_of P step start K start rest
none_yet k tokens_of P step start K rest h = record { front = []; each = tt; same = refl; opened = h }

pub one_last : {A S : Type 0} (k : TokenKind) (tokens_of : A → List Tok) (P : S → A → Type 0) (step : S → A → S) (start : S)
    (K : List Tok → Type 0) (state : S) (a : A) (rest : List Tok) → P state a → Front k tokens_of P step start K state (tokens_of a ++ rest)
    → Last k tokens_of P step start K (step state a) rest
one_last k tokens_of P step start K state a rest p h = record { before = state; member = a; fits = p; same = refl; opened = h }

pub separator : {A S : Type 0} (k : TokenKind) (tokens_of : A → List Tok) (P : S → A → Type 0) (step : S → A → S) (start : S)
    (K : List Tok → Type 0) (state : S) (place : Place) (rest : List Tok) → Last k tokens_of P step start K state (sign k place ∷ rest)
    → Front k tokens_of P step start K state rest
separator k tokens_of P step start K state place rest h =
    let f = h.opened in
    let more : List _ = firsts f.front ++ h.member ∷ [] in
    let grown_list : firsts (f.front ++ (h.member, place) ∷ []) ≡ more = map-append (λ m. m.0) f.front ((h.member, place) ∷ []) in
    record {
      front = f.front ++ (h.member, place) ∷ [];
      each = subst (Each P step start) (sym grown_list) (each_more P step start (firsts f.front) h.member f.each (subst (λ s. P s h.member) (sym f.same) h.fits));
      same = ap (Folded step start) grown_list ∙ folded_more step start (firsts f.front) h.member ∙ ap (λ s. step s h.member) f.same ∙ h.same;
      opened = subst K (separated_more k tokens_of f.front h.member place rest) f.opened;
    }

pub whole_front : {A S : Type 0} (k : TokenKind) (tokens_of : A → List Tok) (P : S → A → Type 0) (step : S → A → S) (start : S)
    (K : List Tok → Type 0) (state : S) (rest : List Tok) → Front k tokens_of P step start K state rest → Whole k tokens_of P step start K state rest
whole_front k tokens_of P step start K state rest h =
    let same_list : firsts h.front ++ [] ≡ firsts h.front = append-nil (firsts h.front) in
    record {
      list = record { front = h.front; last = None };
      each = subst (Each P step start) (sym same_list) h.each;
      same = ap (Folded step start) same_list ∙ h.same;
      opened = subst (λ x. K (x ++ rest)) (sym (append-nil (separated k tokens_of h.front))) h.opened;
    }

pub whole_last : {A S : Type 0} (k : TokenKind) (tokens_of : A → List Tok) (P : S → A → Type 0) (step : S → A → S) (start : S)
    (K : List Tok → Type 0) (state : S) (rest : List Tok) → Last k tokens_of P step start K state rest → Whole k tokens_of P step start K state rest
whole_last k tokens_of P step start K state rest h =
    let f = h.opened in
    record {
      list = record { front = f.front; last = Some h.member };
      each = each_more P step start (firsts f.front) h.member f.each (subst (λ s. P s h.member) (sym f.same) h.fits);
      same = folded_more step start (firsts f.front) h.member ∙ ap (λ s. step s h.member) f.same ∙ h.same;
      opened = subst K (sym (append_assoc (separated k tokens_of f.front) (tokens_of h.member) rest)) f.opened;
    }

-- Lists whose state is the list of the members' trees.

abbrev pub grow : {A T : Type 0} → (A → T) → List T → A → List T
grow tree trees a = trees ++ tree a ∷ []

abbrev pub every : {A S : Type 0} → (A → Type 0) → S → A → Type 0
every P state a = P a

pub grown_folded : {A T : Type 0} (tree : A → T) (start : List T) (xs : List A) → Folded (grow tree) start xs ≡ start ++ map tree xs
grown_folded tree start [] = sym (append-nil start)
grown_folded tree start (x ∷ xs) = grown_folded tree (start ++ tree x ∷ []) xs ∙ append_assoc start (tree x ∷ []) (map tree xs)

pub every_each : {A S : Type 0} (P : A → Type 0) (step : S → A → S) (start : S) (xs : List A) → Each (every P) step start xs → AllByRecursion P xs
every_each P step start [] e = tt
every_each P step start (x ∷ xs) e = (e.0, every_each P step (step start x) xs e.1)

-- the members of a list whose trees are these
abbrev pub FrontOf : {A T : Type 0} → TokenKind → (A → List Tok) → (A → Type 0) → (A → T) → (List Tok → Type 0) → List T → List Tok → Type 0
FrontOf k tokens_of P tree K trees rest = Front k tokens_of (every P) (grow tree) [] K trees rest

abbrev pub LastOf : {A T : Type 0} → TokenKind → (A → List Tok) → (A → Type 0) → (A → T) → (List Tok → Type 0) → List T → List Tok → Type 0
LastOf k tokens_of P tree K trees rest = Last k tokens_of (every P) (grow tree) [] K trees rest

pub record WholeOf {A T : Type 0} (k : TokenKind) (tokens_of : A → List Tok) (P : A → Type 0) (tree : A → T) (K : List Tok → Type 0)
    (trees : List T) (rest : List Tok) : Type 0 where
  pub list : Listed A
  pub each : AllByRecursion P (members list)
  pub same : map tree (members list) ≡ trees
  pub opened : K (listed k tokens_of list ++ rest)

whole_of : {A T : Type 0} (k : TokenKind) (tokens_of : A → List Tok) (P : A → Type 0) (tree : A → T) (K : List Tok → Type 0) (trees : List T) (rest : List Tok)
    → Whole k tokens_of (every P) (grow tree) [] K trees rest → WholeOf k tokens_of P tree K trees rest
whole_of k tokens_of P tree K trees rest h = record {
  list = h.list;
  each = every_each P (grow tree) [] (members h.list) h.each;
  same = sym (grown_folded tree [] (members h.list)) ∙ h.same;
  opened = h.opened;
}

pub front_is_whole : {A T : Type 0} (k : TokenKind) (tokens_of : A → List Tok) (P : A → Type 0) (tree : A → T) (K : List Tok → Type 0) (trees : List T) (rest : List Tok)
    → FrontOf k tokens_of P tree K trees rest → WholeOf k tokens_of P tree K trees rest
front_is_whole k tokens_of P tree K trees rest h = whole_of k tokens_of P tree K trees rest (whole_front k tokens_of (every P) (grow tree) [] K trees rest h)

pub last_is_whole : {A T : Type 0} (k : TokenKind) (tokens_of : A → List Tok) (P : A → Type 0) (tree : A → T) (K : List Tok → Type 0) (trees : List T) (rest : List Tok)
    → LastOf k tokens_of P tree K trees rest → WholeOf k tokens_of P tree K trees rest
last_is_whole k tokens_of P tree K trees rest h = whole_of k tokens_of P tree K trees rest (whole_last k tokens_of (every P) (grow tree) [] K trees rest h)

-- Lists with a member.

abbrev pub HasAny : {A : Type 0} → List A → Type 0
HasAny [] = ⊥
HasAny (x ∷ xs) = Unit {0}

pub any_more : {A : Type 0} (xs : List A) (x : A) → HasAny (xs ++ x ∷ [])
any_more [] x = tt
any_more (y ∷ xs) x = tt

pub any_length : {A : Type 0} (xs : List A) → HasAny xs → 0 < length xs
any_length [] h = absurd h
any_length (x ∷ xs) h = omega arith

pub any_mapped : {A B : Type 0} (f : A → B) (xs : List A) → HasAny (map f xs) → HasAny xs
any_mapped f [] h = h
any_mapped f (x ∷ xs) h = tt

-- the list before its last one has a member behind
pub last_has_any : {A T : Type 0} (k : TokenKind) (tokens_of : A → List Tok) (P : A → Type 0) (tree : A → T) (K : List Tok → Type 0) (trees : List T) (rest : List Tok)
    → LastOf k tokens_of P tree K trees rest → HasAny trees
last_has_any k tokens_of P tree K trees rest h = subst HasAny h.same (any_more h.before (tree h.member))
