-- Behind the tokens of a constant stands what may stand behind a constant.
use Rattle.std.proofs.Common.{◌≡◌, ℕ, suc, Bool, true, false, List, [], ◌∷◌, ◌++◌, append_assoc, append-nil, Option, Some, None, refl, sym, ap, ◌∙◌}
use Rattle.std.specs.Prelude.{if◌then◌else◌}
use Rattle.slang_lexer.specs.declared.token.TokenKind.TheVariants as kind
use Rattle.slang_tree.specs.declared.place.Place.{Place}
use Rattle.slang_tokens.specs.Tok.{Tok, sign}
use Rattle.slang_grammar.specs.Parts.{TypeText, ElementText, type_tokens, element_tokens, optional, IsType, name_token, number_token}
use Rattle.slang_grammar.specs.Parts as written
use Rattle.slang_grammar.specs.Declarations.{ConstText, const_number, const_minus, const_truth, const_falsity, const_sequence, const_record}
use Rattle.slang_grammar.specs.Declarations.{ConstsText, no_consts, last_const, const_then, const_tokens, consts_tokens, HasConst}
use Rattle.argument_rules.specs.Arguments.{IsConst, AreConsts}
use Rattle.argument_forms.specs.declared.states.Due.TheVariants as due
use Rattle.argument_forms.specs.declared.states.State.{State}
use Rattle.argument_forms.specs.Machine.{is_name, is_digits, is_digits_below_zero, at, in_type, walk, begins, is_whole}
use Rattle.argument_forms.proofs.Walks.{walk_append}

if_true : (test : Bool) (x y : Option State) → test ≡ true → (if test then x else y) ≡ x
if_true true x y h = refl
if_true false x y h = absurd (cc)

-- the walk goes on behind what was walked
goes_on : (state middle : Option State) (front rest : List Tok) → walk state front ≡ middle → walk state (front ++ rest) ≡ walk middle rest
goes_on state middle front rest h = walk_append state front rest ∙ ap (λ (s : Option State). walk s rest) h

type_walked : (ty : TypeText) → IsType ty → (lists squares : ℕ)
    → walk (Some (in_type due.Written lists squares)) (type_tokens ty) ≡ Some (in_type due.BehindType lists squares)
type_walked (written.z_type place) formed lists squares = refl
type_walked (written.b_type place) formed lists squares = refl
type_walked (written.unit_type place) formed lists squares = refl
type_walked (written.sequence_type word left element right) formed lists squares =
    goes_on (Some (in_type due.Written lists (suc squares))) (Some (in_type due.BehindType lists (suc squares))) (type_tokens element)
    (sign kind.RightBracket right ∷ []) (type_walked element formed lists (suc squares))
type_walked (written.record_type name) formed lists squares =
    if_true (is_name (name_token name)) (Some (in_type due.BehindType lists squares)) None formed

-- a constant may stand where a member is due
as_member : (c : ConstText) (n : ℕ) (rest : List Tok)
    → walk (Some (at due.Member (suc n))) (const_tokens c ++ rest) ≡ walk (Some (at due.Constant (suc n))) (const_tokens c ++ rest)
as_member (const_number digits place) n rest = refl
as_member (const_minus minus digits place) n rest = refl
as_member (const_truth place) n rest = refl
as_member (const_falsity place) n rest = refl
as_member (const_sequence word ty left elements right) n rest = refl
as_member (const_record name left fields right) n rest = refl

consts_as_members : (cs : ConstsText) → HasConst cs → (n : ℕ) (rest : List Tok)
    → walk (Some (at due.Constant (suc n))) (consts_tokens cs ++ rest) ≡ walk (Some (at due.Member (suc n))) (consts_tokens cs ++ rest)
consts_as_members no_consts has n rest = absurd has
consts_as_members (last_const c) has n rest = sym (as_member c n rest)
consts_as_members (const_then c comma more) has n rest =
    ap (walk (Some (at due.Constant (suc n)))) (append_assoc (const_tokens c) (sign kind.Comma comma ∷ consts_tokens more) rest)
    ∙ sym (as_member c n ((sign kind.Comma comma ∷ consts_tokens more) ++ rest))
    ∙ ap (walk (Some (at due.Member (suc n)))) (sym (append_assoc (const_tokens c) (sign kind.Comma comma ∷ consts_tokens more) rest))

mutual
  const_walked : (c : ConstText) → IsConst c → (lists : ℕ) (rest : List Tok)
      → walk (Some (at due.Constant lists)) (const_tokens c ++ rest) ≡ walk (Some (at due.Behind lists)) rest
  const_walked (const_number digits place) formed lists rest =
      ap (λ (s : Option State). walk s rest) (if_true (is_digits (number_token digits place)) (Some (at due.Behind lists)) _ formed)
  const_walked (const_minus minus digits place) formed lists rest =
      ap (λ (s : Option State). walk s rest) (if_true (is_digits_below_zero (number_token digits place)) (Some (at due.Behind lists)) None formed)
  const_walked (const_truth place) formed lists rest = refl
  const_walked (const_falsity place) formed lists rest = refl
  const_walked (const_sequence word None left elements right) formed lists rest =
      ap (walk (Some (at due.Constant (suc lists)))) (append_assoc (consts_tokens elements) (sign kind.RightParen right ∷ []) rest)
      ∙ consts_as_members elements formed.0 lists (sign kind.RightParen right ∷ rest) ∙ members_walked elements formed.1 lists right rest
  const_walked (const_sequence word (Some ty) left elements right) formed lists rest =
      let behind_type = sign kind.RightBracket ty.right ∷ sign kind.LeftParen left ∷ (consts_tokens elements ++ sign kind.RightParen right ∷ rest) in
      let list = sign kind.LeftParen left ∷ consts_tokens elements in
      let closing = sign kind.RightBracket ty.right ∷ [] in
      ap (walk (Some (at due.Written lists)))
      (append_assoc ((type_tokens ty.ty ++ closing) ++ list) (sign kind.RightParen right ∷ []) rest
      ∙ append_assoc (type_tokens ty.ty ++ closing) list (sign kind.RightParen right ∷ rest)
      ∙ append_assoc (type_tokens ty.ty) closing (list ++ sign kind.RightParen right ∷ rest))
      ∙ goes_on (Some (at due.Written lists)) (Some (in_type due.BehindType lists 0)) (type_tokens ty.ty) behind_type (type_walked ty.ty formed.0 lists 0)
      ∙ members_walked elements formed.1 lists right rest
  const_walked (const_record name left fields right) formed lists rest =
      ap (λ (s : Option State). walk s (sign kind.LeftParen left ∷ ((consts_tokens fields ++ sign kind.RightParen right ∷ []) ++ rest)))
      (if_true (is_name (name_token name)) (Some (at due.Fields lists)) None formed.0)
      ∙ ap (walk (Some (at due.Constant (suc lists)))) (append_assoc (consts_tokens fields) (sign kind.RightParen right ∷ []) rest)
      ∙ consts_as_members fields formed.1 lists (sign kind.RightParen right ∷ rest) ∙ members_walked fields formed.2 lists right rest

  members_walked : (cs : ConstsText) → AreConsts cs → (n : ℕ) (right : Place) (rest : List Tok)
      → walk (Some (at due.Member (suc n))) (consts_tokens cs ++ sign kind.RightParen right ∷ rest) ≡ walk (Some (at due.Behind n)) rest
  members_walked no_consts formed n right rest = refl
  members_walked (last_const c) formed n right rest =
      as_member c n (sign kind.RightParen right ∷ rest) ∙ const_walked c formed (suc n) (sign kind.RightParen right ∷ rest)
  members_walked (const_then c comma more) formed n right rest =
      ap (walk (Some (at due.Member (suc n)))) (append_assoc (const_tokens c) (sign kind.Comma comma ∷ consts_tokens more) (sign kind.RightParen right ∷ rest))
      ∙ as_member c n (sign kind.Comma comma ∷ (consts_tokens more ++ sign kind.RightParen right ∷ rest))
      ∙ const_walked c formed.0 (suc n) (sign kind.Comma comma ∷ (consts_tokens more ++ sign kind.RightParen right ∷ rest))
      ∙ members_walked more formed.1 n right rest

-- the walk over a constant ends behind it
pub complete : (c : ConstText) → IsConst c → is_whole (walk begins (const_tokens c)) ≡ true
complete c formed =
    ap (λ (ts : List Tok). is_whole (walk begins ts)) (sym (append-nil (const_tokens c))) ∙ ap is_whole (const_walked c formed 0 [])
