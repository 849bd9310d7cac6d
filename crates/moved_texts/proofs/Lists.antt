-- Tokens that are alike but for their places, taken apart; lists of members whose tokens are so.
use Rattle.std.proofs.Common.{◌≡◌, ◌<◌, List, [], ◌∷◌, ◌++◌, map, length, Option, Some, None, refl, sym, ap, ap₂, ◌∙◌, arith}
use Rattle.std.specs.Prelude.{option_to_list}
use Rattle.std.specs.List.{AllByRecursion}
use Rattle.slang_tree.specs.declared.place.Place.{Place}
use Rattle.slang_tree.specs.declared.expression.Name.{Name}
use Rattle.slang_lexer.specs.declared.token.TokenKind.{TokenKind}
use Rattle.slang_tokens.specs.Tok.{Tok, sign}
use Rattle.slang_grammar.specs.Parts.{Listed, members, separated, optional, listed, IfWritten}
use Rattle.moved_texts.specs.Moved.{Alike, none, both}

-- ---- tokens

-- the token at another place
abbrev pub at : Tok → Place → Tok
at token place = record { kind = token.kind; text = token.text; place = place }

-- the name at another place
abbrev pub named_at : Name → Place → Name
named_at name place = record { text = name.text; place = place }

-- tokens that begin with one like this
pub record First (token : Tok) (more tokens : List Tok) : Type 0 where
  pub place : Place
  pub rest : List Tok
  pub is : tokens ≡ at token place ∷ rest
  pub behind : Alike more rest

pub first : {token : Tok} {more tokens : List Tok} → Alike (token ∷ more) tokens → First token more tokens
first (both {y = y} {ys = ys} k t h) = record {
  place = y.place;
  rest = ys;
  is = λ i. record { kind = k i; text = t i; place = y.place } ∷ ys;
  behind = h;
}

pub nothing : {tokens : List Tok} → Alike [] tokens → [] ≡ tokens
nothing none = refl

-- tokens that are alike to two lists, one behind the other
pub record Split (front back tokens : List Tok) : Type 0 where
  pub left : List Tok
  pub right : List Tok
  pub is : tokens ≡ left ++ right
  pub first : Alike front left
  pub second : Alike back right

pub split : (front back : List Tok) {tokens : List Tok} → Alike (front ++ back) tokens → Split front back tokens
split [] back {tokens} h = record { left = []; right = tokens; is = refl; first = none; second = h }
split (x ∷ front) back (both {y = y} k t h) =
    let s = split front back h in
    record { left = y ∷ s.left; right = s.right; is = ap (λ r. y ∷ r) s.is; first = both k t s.first; second = s.second }

pub joined : {xs ys left right tokens : List Tok} → tokens ≡ left ++ right → xs ≡ left → ys ≡ right → xs ++ ys ≡ tokens
joined e p q = ap₂ (λ a b. a ++ b) p q ∙ sym e

pub consed : {x : Tok} {xs rest tokens : List Tok} → tokens ≡ x ∷ rest → xs ≡ rest → x ∷ xs ≡ tokens
consed {x = x} e q = ap (λ a. x ∷ a) q ∙ sym e

-- a token alone
pub record Only (token : Tok) (tokens : List Tok) : Type 0 where
  pub place : Place
  pub is : at token place ∷ [] ≡ tokens

pub only : {token : Tok} {tokens : List Tok} → Alike (token ∷ []) tokens → Only token tokens
only h = let a = first h in record { place = a.place; is = consed a.is (nothing a.behind) }

-- ---- parts

-- the part of which these are the tokens
pub record Found (A : Type 0) (tokens_of : A → List Tok) (Q : A → Type 0) (tokens : List Tok) : Type 0 where
  pub it : A
  pub spelled : tokens_of it ≡ tokens
  pub alike : Q it

abbrev pub Moves : (A : Type 0) → (A → List Tok) → (A → A → Type 0) → A → Type 0
Moves A tokens_of Q part = (tokens : List Tok) → Alike (tokens_of part) tokens → Found A tokens_of (Q part) tokens

-- two parts of which one stands in the grammar with the other, and which give the same
pub record Same (A B : Type 0) (P : A → Type 0) (f : A → B) (a b : A) : Type 0 where
  pub fine : P a → P b
  pub tree : f b ≡ f a

-- ---- parts that may be left out

abbrev pub IfAlike : {A : Type 0} → (A → A → Type 0) → Option A → Option A → Type 0
IfAlike Q None None = Unit {0}
IfAlike Q None (Some b) = ⊥
IfAlike Q (Some a) None = ⊥
IfAlike Q (Some a) (Some b) = Q a b

pub move_optional : {A : Type 0} (tokens_of : A → List Tok) (Q : A → A → Type 0) → ((a : A) → Moves A tokens_of Q a) → (part : Option A)
    → Moves (Option A) (optional tokens_of) (IfAlike Q) part
move_optional tokens_of Q move None tokens h = record { it = None; spelled = nothing h; alike = tt }
move_optional tokens_of Q move (Some a) tokens h = let m = move a tokens h in record { it = Some m.it; spelled = m.spelled; alike = m.alike }

pub if_fine : {A B : Type 0} (P : A → Type 0) (f : A → B) (a b : Option A) → IfAlike (Same A B P f) a b → IfWritten P a → IfWritten P b
if_fine P f None None h p = tt
if_fine P f None (Some b) h p = absurd h
if_fine P f (Some a) None h p = absurd h
if_fine P f (Some a) (Some b) h p = h.fine p

-- ---- lists

abbrev pub AllAlike : {A : Type 0} → (A → A → Type 0) → List A → List A → Type 0
AllAlike Q [] [] = Unit {0}
AllAlike Q [] (b ∷ bs) = ⊥
AllAlike Q (a ∷ as') [] = ⊥
AllAlike Q (a ∷ as') (b ∷ bs) = Q a b × AllAlike Q as' bs

AllAlike-append : {A : Type 0} (Q : A → A → Type 0) (as' bs cs ds : List A) → AllAlike Q as' bs → AllAlike Q cs ds → AllAlike Q (as' ++ cs) (bs ++ ds)
AllAlike-append Q [] [] cs ds h k = k
AllAlike-append Q [] (b ∷ bs) cs ds h k = absurd h
AllAlike-append Q (a ∷ as') [] cs ds h k = absurd h
AllAlike-append Q (a ∷ as') (b ∷ bs) cs ds h k = (h.0, AllAlike-append Q as' bs cs ds h.1 k)

AllAlike-optional : {A : Type 0} (Q : A → A → Type 0) (a b : Option A) → IfAlike Q a b → AllAlike Q (option_to_list a) (option_to_list b)
AllAlike-optional Q None None h = tt
AllAlike-optional Q None (Some b) h = absurd h
AllAlike-optional Q (Some a) None h = absurd h
AllAlike-optional Q (Some a) (Some b) h = (h, tt)

abbrev fronts : {A : Type 0} → List (A × Place) → List A
fronts members = map (λ member. member.0) members

module _ {A : Type 0} (separator : TokenKind) (tokens_of : A → List Tok) (Q : A → A → Type 0) (move : (a : A) → Moves A tokens_of Q a) where
  move_separated : (front : List (A × Place)) (tokens : List Tok) → Alike (separated separator tokens_of front) tokens
      → Found (List (A × Place)) (separated separator tokens_of) (λ found. AllAlike Q (fronts front) (fronts found)) tokens
  move_separated [] tokens h = record { it = []; spelled = nothing h; alike = tt }
  move_separated (member ∷ more) tokens h =
      let s = split (tokens_of member.0) (sign separator member.1 ∷ separated separator tokens_of more) h in
      let m = move member.0 s.left s.first in
      let a = first s.second in
      let r = move_separated more a.rest a.behind in
      record { it = (m.it, a.place) ∷ r.it; spelled = joined s.is m.spelled (consed a.is r.spelled); alike = (m.alike, r.alike) }

  pub move_listed : (list : Listed A) → Moves (Listed A) (listed separator tokens_of) (λ a b. AllAlike Q (members a) (members b)) list
  move_listed list tokens h =
      let s = split (separated separator tokens_of list.front) (optional tokens_of list.last) h in
      let f = move_separated list.front s.left s.first in
      let l = move_optional tokens_of Q move list.last s.right s.second in
      record {
        it = record { front = f.it; last = l.it };
        spelled = joined s.is f.spelled l.spelled;
        alike = AllAlike-append Q (fronts list.front) (fronts f.it) (option_to_list list.last) (option_to_list l.it) f.alike
            (AllAlike-optional Q list.last l.it l.alike);
      }

pub all_fine : {A B : Type 0} (P : A → Type 0) (f : A → B) (as' bs : List A) → AllAlike (Same A B P f) as' bs → AllByRecursion P as' → AllByRecursion P bs
all_fine P f [] [] h p = tt
all_fine P f [] (b ∷ bs) h p = absurd h
all_fine P f (a ∷ as') [] h p = absurd h
all_fine P f (a ∷ as') (b ∷ bs) h p = (h.0.fine p.0, all_fine P f as' bs h.1 p.1)

pub all_same : {A B : Type 0} (P : A → Type 0) (f : A → B) (as' bs : List A) → AllAlike (Same A B P f) as' bs → map f bs ≡ map f as'
all_same P f [] [] h = refl
all_same P f [] (b ∷ bs) h = absurd h
all_same P f (a ∷ as') [] h = absurd h
all_same P f (a ∷ as') (b ∷ bs) h = ap₂ (λ x xs. x ∷ xs) h.0.tree (all_same P f as' bs h.1)

pub some_alike : {A : Type 0} (Q : A → A → Type 0) (as' bs : List A) → AllAlike Q as' bs → 0 < length as' → 0 < length bs
some_alike Q [] [] h l = l
some_alike Q [] (b ∷ bs) h l = absurd h
some_alike Q (a ∷ as') [] h l = absurd h
some_alike Q (a ∷ as') (b ∷ bs) h l = omega arith
