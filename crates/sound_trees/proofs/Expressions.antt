-- Types and expressions of a text whose names are read have sound trees.
use Rattle.std.proofs.Common.{ℕ, ◌<◌, ◌^◌, nat_lt, List, [], ◌∷◌, ◌++◌, Option, Some, None, IsTrue, refl, ltb-true}
use Rattle.std.specs.Prelude.{option_to_list, map}
use Rattle.std.specs.Option.{option_map}
use Rattle.std.specs.List.{AllByRecursion}
use Rattle.std.proofs.lemmas.Bool.{and_parts}
use Rattle.slang_lexer.specs.declared.token.TokenKind.{TokenKind}
use Rattle.slang_lexer.specs.declared.token.TokenKind.TheVariants as kind
use Rattle.slang_lexer.specs.Spelling.{is_number}
use Rattle.slang_lexer.specs.Next.{value_of}
use Rattle.slang_tree.specs.declared.place.Place.{Place}
use Rattle.slang_tree.specs.declared.expression.Name.{Name}
use Rattle.slang_tokens.specs.Tok.{Tok, sign}
use Rattle.slang_grammar.specs.declared.operator.Prefix.{Prefix}
use Rattle.slang_grammar.specs.declared.operator.Prefix.TheVariants as prefix
use Rattle.slang_grammar.specs.Parts.{Listed, members, separated, listed, optional, one_name, NamesText, names_tokens, is_numeral, TypeText, z_type, b_type, unit_type, sequence_type, record_type, type_tokens, type_tree, TypedText, typed_tokens, typed_tree, ElementText, element_tokens, element_tree}
use Rattle.slang_grammar.specs.Expressions.{bound_tokens, indices_token, ExprText, number, truth, falsity, variable, result, entry_value, old_value, sequence, quantified, quantified_indices, bracketed, application, update, field, prefixed, binary, ExprsText, no_exprs, last_expr, expr_then, expr_tokens, exprs_tokens, IsGrouped, AreGrouped, prefix_tree, expr_tree, exprs_tree, ClaimsText, claims_tokens, AreClaims, expr_trees}
use Rattle.slang_tree.specs.ExprTree.{ExprTree}
use Rattle.sound_trees.specs.Sound.{IsNamed, SoundType, IfSound, SoundExpr, SoundExprs}
use Rattle.sound_trees.specs.Laws.{AreRead}

-- the tokens of two parts, one behind the other
pub halves : (xs ys : List Tok) → AreRead (xs ++ ys) → AreRead xs × AreRead ys
halves [] ys h = (tt, h)
halves (x ∷ xs) ys h = let s = halves xs ys h.1 in ((h.0, s.0), s.1)

all_append : {A : Type 0} (P : A → Type 0) (xs ys : List A) → AllByRecursion P xs → AllByRecursion P ys → AllByRecursion P (xs ++ ys)
all_append P [] ys h k = k
all_append P (x ∷ xs) ys h k = (h.0, all_append P xs ys h.1 k)

-- ---- lists

module _ {A : Type 0} (separator : TokenKind) (tokens_of : A → List Tok) (P : A → Type 0) (sound : (a : A) → AreRead (tokens_of a) → P a) where
  sound_front : (front : List (A × Place)) → AreRead (separated separator tokens_of front) → AllByRecursion P (map (λ member. member.0) front)
  sound_front [] h = tt
  sound_front (member ∷ more) h =
      let s = halves (tokens_of member.0) (sign separator member.1 ∷ separated separator tokens_of more) h in
      (sound member.0 s.0, sound_front more s.1.1)

  sound_last : (last : Option A) → AreRead (optional tokens_of last) → AllByRecursion P (option_to_list last)
  sound_last None h = tt
  sound_last (Some a) h = (sound a h, tt)

  pub sound_listed : (list : Listed A) → AreRead (listed separator tokens_of list) → AllByRecursion P (members list)
  sound_listed list h =
      let s = halves (separated separator tokens_of list.front) (optional tokens_of list.last) h in
      all_append P (map (λ member. member.0) list.front) (option_to_list list.last) (sound_front list.front s.0) (sound_last list.last s.1)

pub sound_name : (n : Name) → AreRead (one_name n) → IsNamed n
sound_name n h = h.0 refl

pub sound_names : (n : NamesText) → AreRead (names_tokens n) → AllByRecursion IsNamed (members n.names)
sound_names n h =
    let s = halves (listed kind.Comma one_name n.names) (sign kind.RightParen n.right ∷ []) h.1 in
    sound_listed kind.Comma one_name IsNamed sound_name n.names s.0

-- ---- types

pub sound_type : (t : TypeText) → AreRead (type_tokens t) → SoundType (type_tree t)
sound_type (z_type place) h = tt
sound_type (b_type place) h = tt
sound_type (unit_type place) h = tt
sound_type (sequence_type word left element right) h = sound_type element (halves (type_tokens element) (sign kind.RightBracket right ∷ []) h.1.1).0
sound_type (record_type written) h = h.0 refl

pub sound_typed : (t : TypedText) → AreRead (typed_tokens t) → SoundType (typed_tree t)
sound_typed t h = sound_type t.ty h.1

pub sound_element : (t : ElementText) → AreRead (element_tokens t) → SoundType (element_tree t)
sound_element t h = sound_type t.ty (halves (type_tokens t.ty) (sign kind.RightBracket t.right ∷ []) h.1).0

pub if_typed : (t : Option TypedText) → AreRead (optional typed_tokens t) → IfSound (option_map typed_tree t)
if_typed None h = tt
if_typed (Some t) h = sound_typed t h

pub if_element : (t : Option ElementText) → AreRead (optional element_tokens t) → IfSound (option_map element_tree t)
if_element None h = tt
if_element (Some t) h = sound_element t h

-- ---- expressions

pub small : (digits : List ℕ) → IsTrue (is_numeral digits) → value_of digits < 2 ^ 127
small digits h = ltb-true (value_of digits) (2 ^ 127) (and_parts (is_number digits) (nat_lt (value_of digits) (2 ^ 127)) h).1

sound_prefix : (by : Prefix) (place : Place) (tree : ExprTree) → SoundExpr tree → SoundExpr (prefix_tree by place tree)
sound_prefix prefix.Not place tree h = h
sound_prefix prefix.Minus place tree h = h

mutual
  pub sound_expr : (text : ExprText) → IsGrouped text → AreRead (expr_tokens text) → SoundExpr (expr_tree text)
  sound_expr (number digits place) g h = small digits g
  sound_expr (truth place) g h = tt
  sound_expr (falsity place) g h = tt
  sound_expr (variable n) g h = h.0 refl
  sound_expr (result word ty) g h = if_element ty h.1
  sound_expr (entry_value word left n right) g h = h.1.1.0 refl
  sound_expr (old_value word left n right) g h = h.1.1.0 refl
  sound_expr (sequence word ty left elements right) g h =
      let o = halves (optional element_tokens ty ++ sign kind.LeftParen left ∷ exprs_tokens elements) (sign kind.RightParen right ∷ []) h.1 in
      let s = halves (optional element_tokens ty) (sign kind.LeftParen left ∷ exprs_tokens elements) o.0 in
      (if_element ty s.0, sound_exprs elements g.1 s.1.1)
  sound_expr (quantified by word left low until high right bound body) g h =
      let o = halves (expr_tokens low ++ sign kind.Until until ∷ expr_tokens high) (sign kind.RightParen right ∷ bound_tokens bound (expr_tokens body)) h.1.1 in
      let s = halves (expr_tokens low) (sign kind.Until until ∷ expr_tokens high) o.0 in
      let b = halves (expr_tokens body) (sign kind.RightParen bound.right ∷ []) o.1.1.1.1.1 in
      (sound_expr low g.0 s.0, sound_expr high g.1 s.1.1, o.1.1.1.0 refl, sound_expr body g.3 b.0)
  sound_expr (quantified_indices by word left head dot indices right bound body) g h =
      let s = halves (expr_tokens head)
      (sign kind.Dot dot ∷ indices_token indices ∷ sign kind.RightParen right ∷ bound_tokens bound (expr_tokens body)) h.1.1 in
      let b = halves (expr_tokens body) (sign kind.RightParen bound.right ∷ []) s.1.1.1.1.1.1.1 in
      (sound_expr head g.1 s.0, s.1.1.1.1.1.0 refl, sound_expr body g.3 b.0)
  sound_expr (bracketed left inner right) g h = sound_expr inner g (halves (expr_tokens inner) (sign kind.RightParen right ∷ []) h.1).0
  sound_expr (application head left arguments right) g h =
      let o = halves (expr_tokens head ++ sign kind.LeftParen left ∷ exprs_tokens arguments) (sign kind.RightParen right ∷ []) h in
      let s = halves (expr_tokens head) (sign kind.LeftParen left ∷ exprs_tokens arguments) o.0 in
      (sound_expr head g.1 s.0, sound_exprs arguments g.2 s.1.1)
  sound_expr (update head left index arrow element right) g h =
      let o = halves (expr_tokens head ++ sign kind.LeftParen left ∷ expr_tokens index ++ sign kind.TildeArrow arrow ∷ expr_tokens element)
      (sign kind.RightParen right ∷ []) h in
      let q = halves (expr_tokens head ++ sign kind.LeftParen left ∷ expr_tokens index) (sign kind.TildeArrow arrow ∷ expr_tokens element) o.0 in
      let s = halves (expr_tokens head) (sign kind.LeftParen left ∷ expr_tokens index) q.0 in
      (sound_expr head g.1 s.0, sound_expr index g.2 s.1.1, sound_expr element g.3 q.1.1)
  sound_expr (field head dot n) g h =
      let s = halves (expr_tokens head) (sign kind.Dot dot ∷ one_name n) h in
      (sound_expr head g.1 s.0, s.1.1.0 refl)
  sound_expr (prefixed by place operand) g h = sound_prefix by place (expr_tree operand) (sound_expr operand g.1 h.1)
  sound_expr (binary left row place right) g h =
      let s = halves (expr_tokens left) (sign row.sign place ∷ expr_tokens right) h in
      (sound_expr left g.3 s.0, sound_expr right g.4 s.1.1)

  pub sound_exprs : (texts : ExprsText) → AreGrouped texts → AreRead (exprs_tokens texts) → SoundExprs (exprs_tree texts)
  sound_exprs no_exprs g h = tt
  sound_exprs (last_expr text) g h = (sound_expr text g h, tt)
  sound_exprs (expr_then text comma more) g h =
      let s = halves (expr_tokens text) (sign kind.Comma comma ∷ exprs_tokens more) h in
      (sound_expr text g.0 s.0, sound_exprs more g.1 s.1.1)

pub sound_list : (texts : ExprsText) → AreGrouped texts → AreRead (exprs_tokens texts) → AllByRecursion SoundExpr (expr_trees texts)
sound_list no_exprs g h = tt
sound_list (last_expr text) g h = (sound_expr text g h, tt)
sound_list (expr_then text comma more) g h =
    let s = halves (expr_tokens text) (sign kind.Comma comma ∷ exprs_tokens more) h in
    (sound_expr text g.0 s.0, sound_list more g.1 s.1.1)

pub sound_claims : (c : ClaimsText) → AreClaims c → AreRead (claims_tokens c) → AllByRecursion SoundExpr (expr_trees c.claims)
sound_claims c g h = sound_list c.claims g.1 (halves (exprs_tokens c.claims) (sign kind.RightParen c.right ∷ []) h.1).0
