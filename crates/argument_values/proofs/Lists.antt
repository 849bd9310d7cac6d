-- Lists of constants, member by member.
use Rattle.std.proofs.Common.{◌≡◌, ℕ, true, List, [], ◌∷◌, ◌++◌, append_assoc, Option, Some, None, refl, sym, ap, ap₂, ◌∙◌}
use Rattle.slang_lexer.specs.declared.token.TokenKind.{TokenKind}
use Rattle.slang_lexer.specs.declared.token.TokenKind.TheVariants as kind
use Rattle.slang_tree.specs.declared.place.Place.{Place}
use Rattle.slang_values.specs.Value.{ValueType, Records, Values, no_values, value_then}
use Rattle.slang_values.specs.Value as plain
use Rattle.slang_tokens.specs.Tok.{Tok, sign}
use Rattle.slang_grammar.specs.Declarations.{ConstText, const_number, const_minus, const_truth, const_falsity, const_sequence, const_record}
use Rattle.slang_grammar.specs.Declarations.{ConstsText, no_consts, last_const, const_then, const_tokens, consts_tokens}
use Rattle.run_values.specs.declared.value.Value.{Value}
use Rattle.run_values.specs.Value.{plain_value, plain_values}
use Rattle.argument_rules.specs.Arguments.{AreConsts}
use Rattle.argument_rules.specs.Values.{both_values, const_value}
use Rattle.argument_lists.specs.Parts.{PartTypes, same, each, can_end, NextTypes, next_types, part_values}
use Rattle.argument_values.specs.Consts.{ValuesFront, ArePartsFront}
use Rattle.argument_scalars.specs.Fronts.{IsValueFront}

-- ---- values in front of values

pub joined : List Value → Values → Values
joined [] vs = vs
joined (v ∷ more) vs = value_then (plain_value v) (joined more vs)

pub joined_none : (vs : Values) → joined [] vs ≡ vs
unfolding joined
joined_none vs = refl

pub joined_push : (xs : List Value) (v : Value) (vs : Values) → joined (xs ++ v ∷ []) vs ≡ joined xs (value_then (plain_value v) vs)
unfolding joined
joined_push [] v vs = refl
joined_push (x ∷ xs) v vs = ap (value_then (plain_value x)) (joined_push xs v vs)

pub joined_more : (xs ys : List Value) → joined xs (plain_values ys) ≡ plain_values (xs ++ ys)
unfolding joined
joined_more [] ys = refl
joined_more (x ∷ xs) ys = ap (value_then (plain_value x)) (joined_more xs ys)

-- ---- tokens

head_kind : List Tok → TokenKind
head_kind [] = kind.End
head_kind (token ∷ tokens) = token.kind

tail_of : List Tok → List Tok
tail_of [] = []
tail_of (token ∷ tokens) = tokens

const_kind : ConstText → TokenKind
const_kind (const_number digits place) = kind.Number
const_kind (const_minus minus digits place) = kind.Minus
const_kind (const_truth place) = kind.True
const_kind (const_falsity place) = kind.False
const_kind (const_sequence word ty left elements right) = kind.TypeIsz
const_kind (const_record name left parts right) = kind.Name

const_head : (c : ConstText) (x : List Tok) → head_kind (const_tokens c ++ x) ≡ const_kind c
unfolding head_kind const_kind
const_head (const_number digits place) x = refl
const_head (const_minus minus digits place) x = refl
const_head (const_truth place) x = refl
const_head (const_falsity place) x = refl
const_head (const_sequence word ty left elements right) x = refl
const_head (const_record name left parts right) x = refl

no_bracket : (c : ConstText) → const_kind c ≡ kind.RightParen → ⊥
unfolding const_kind
no_bracket (const_number digits place) h = cc
no_bracket (const_minus minus digits place) h = cc
no_bracket (const_truth place) h = cc
no_bracket (const_falsity place) h = cc
no_bracket (const_sequence word ty left elements right) h = cc
no_bracket (const_record name left parts right) h = cc

-- a constant begins with no bracket that closes
begins_differently : (c : ConstText) (place : Place) (x y : List Tok) → const_tokens c ++ x ≡ sign kind.RightParen place ∷ y → ⊥
unfolding head_kind
begins_differently c place x y h = no_bracket c (sym (const_head c x) ∙ ap head_kind h)

some_inj : {A : Type 0} {x y : A} → Some x ≡ Some y → x ≡ y
some_inj e = cc

-- ---- members

both_some : (v : Option plain.Value) (vs : Option Values) (all : Values) → both_values v vs ≡ Some all
    → (w : plain.Value) × (ws : Values) × (v ≡ Some w) × (vs ≡ Some ws) × (all ≡ value_then w ws)
both_some None vs all h = absurd (cc)
both_some (Some w) None all h = absurd (cc)
both_some (Some w) (Some ws) all h = (w, ws, refl, refl, sym (some_inj h))

module _ (names : List (List ℕ)) (records : Records) where
  Fronts : PartTypes → List Tok → ValuesFront → Type 0
  Fronts parts before front = ArePartsFront names records parts before front

  abbrev front_with : Values → List Tok → ValuesFront
  front_with vs rest = record { values = vs; rest = rest }

  nothing_left : (parts : PartTypes) → can_end parts ≡ true → part_values names records no_consts parts ≡ Some no_values
  nothing_left (same t) h = refl
  nothing_left (each []) h = refl
  nothing_left (each (t ∷ ts)) h = absurd (cc)

  none_left : (parts : PartTypes) (vs : Values) → part_values names records no_consts parts ≡ Some vs → (can_end parts ≡ true) × (vs ≡ no_values)
  none_left (same t) vs h = (refl, sym (some_inj h))
  none_left (each []) vs h = (refl, sym (some_inj h))
  none_left (each (t ∷ ts)) vs h = absurd (cc)

  -- the list is over
  pub over_here : (parts : PartTypes) (before after : List Tok) (place : Place) → before ≡ sign kind.RightParen place ∷ after → can_end parts ≡ true
      → ArePartsFront names records parts before (front_with no_values after)
  over_here parts before after place is ends = record {
    consts = no_consts;
    right = place;
    well_formed = tt;
    spelled = is;
    have_values = nothing_left parts ends;
  }

  pub over_only : (parts : PartTypes) (before after : List Tok) (place : Place) (front : ValuesFront) → before ≡ sign kind.RightParen place ∷ after
      → ArePartsFront names records parts before front → (can_end parts ≡ true) × (front ≡ front_with no_values after)
  unfolding tail_of
  over_only parts before after place front is h = at h.consts h.spelled h.have_values
    where
      at : (consts : ConstsText) → before ≡ consts_tokens consts ++ sign kind.RightParen h.right ∷ front.rest
          → part_values names records consts parts ≡ Some front.values → (can_end parts ≡ true) × (front ≡ front_with no_values after)
      at no_consts spelled values =
          let left = none_left parts front.values values in
          (left.0, ap₂ front_with left.1 (ap tail_of (sym spelled ∙ is)))
      at (last_const c) spelled values = absurd (begins_differently c place (sign kind.RightParen h.right ∷ front.rest) after (sym spelled ∙ is))
      at (const_then c comma more) spelled values =
          absurd (begins_differently c place (sign kind.Comma comma ∷ consts_tokens more ++ sign kind.RightParen h.right ∷ front.rest) after
          (sym (append_assoc (const_tokens c) (sign kind.Comma comma ∷ consts_tokens more) (sign kind.RightParen h.right ∷ front.rest)) ∙ sym spelled ∙ is))

  module _ (parts : PartTypes) (next : NextTypes) (there : next_types parts ≡ Some next) where
    then_values : (c : ConstText) (comma : Place) (more : ConstsText) → part_values names records (const_then c comma more) parts
        ≡ both_values (const_value names records c next.type) (part_values names records more next.others)
    then_values c comma more = at parts there
      where
        at : (p : PartTypes) → next_types p ≡ Some next → part_values names records (const_then c comma more) p
            ≡ both_values (const_value names records c next.type) (part_values names records more next.others)
        at (same t) h = ap (λ (n : NextTypes). both_values (const_value names records c n.type) (part_values names records more n.others)) (some_inj h)
        at (each []) h = absurd (cc)
        at (each (t ∷ ts)) h = ap (λ (n : NextTypes). both_values (const_value names records c n.type) (part_values names records more n.others)) (some_inj h)

    last_values : (c : ConstText) → part_values names records (last_const c) parts
        ≡ both_values (const_value names records c next.type) (part_values names records no_consts next.others)
    last_values c = at parts there
      where
        at : (p : PartTypes) → next_types p ≡ Some next → part_values names records (last_const c) p
            ≡ both_values (const_value names records c next.type) (part_values names records no_consts next.others)
        at (same t) h = ap (λ (n : NextTypes). both_values (const_value names records c n.type) (part_values names records no_consts n.others)) (some_inj h)
        at (each []) h = absurd (cc)
        at (each (t ∷ [])) h =
            ap (λ (n : NextTypes). both_values (const_value names records c n.type) (part_values names records no_consts n.others)) (some_inj h)
        at (each (t ∷ s ∷ ts)) h =
            nothing (const_value names records c t)
            ∙ ap (λ (n : NextTypes). both_values (const_value names records c n.type) (part_values names records no_consts n.others)) (some_inj h)
          where
            nothing : (v : Option plain.Value) → None ≡ both_values v None
            nothing None = refl
            nothing (Some v) = refl

    -- one member, and the list goes on
    pub goes_on : (before middle rest : List Tok) (v : plain.Value) (comma : Place) (front : ValuesFront)
        → IsValueFront names records next.type before (record { value = v; rest = middle }) → middle ≡ sign kind.Comma comma ∷ rest
        → ArePartsFront names records next.others rest front → ArePartsFront names records parts before (front_with (value_then v front.values) front.rest)
    goes_on before middle rest v comma front one is others = record {
      consts = const_then one.const comma others.consts;
      right = others.right;
      well_formed = (one.well_formed, others.well_formed);
      spelled = one.spelled ∙ ap (λ ts. const_tokens one.const ++ ts) (is ∙ ap (λ ts. sign kind.Comma comma ∷ ts) others.spelled)
          ∙ sym (append_assoc (const_tokens one.const) (sign kind.Comma comma ∷ consts_tokens others.consts) (sign kind.RightParen others.right ∷ front.rest));
      have_values = then_values one.const comma others.consts ∙ ap₂ both_values one.has_value others.have_values;
    }

    -- one member, and the list is over
    pub ends_with : (before middle rest : List Tok) (v : plain.Value) (right : Place)
        → IsValueFront names records next.type before (record { value = v; rest = middle }) → middle ≡ sign kind.RightParen right ∷ rest
        → can_end next.others ≡ true → ArePartsFront names records parts before (front_with (value_then v no_values) rest)
    ends_with before middle rest v right one is ends = record {
      consts = last_const one.const;
      right = right;
      well_formed = one.well_formed;
      spelled = one.spelled ∙ ap (λ ts. const_tokens one.const ++ ts) is;
      have_values = last_values one.const ∙ ap₂ both_values one.has_value (nothing_left next.others ends);
    }

  -- what stands behind the first member
  pub data IsBehindFirst (next : NextTypes) (front : ValuesFront) (v : plain.Value) (middle : List Tok) : Type 0 where
    more : (comma : Place) (rest : List Tok) (others : ValuesFront) → middle ≡ sign kind.Comma comma ∷ rest
        → ArePartsFront names records next.others rest others → front ≡ front_with (value_then v others.values) others.rest → IsBehindFirst next front v middle
    over : (right : Place) → middle ≡ sign kind.RightParen right ∷ front.rest → can_end next.others ≡ true → front.values ≡ value_then v no_values
        → IsBehindFirst next front v middle

  pub record HasFirst (next : NextTypes) (before : List Tok) (front : ValuesFront) : Type 0 where
    pub value : plain.Value
    pub middle : List Tok
    pub is : IsValueFront names records next.type before (record { value = value; rest = middle })
    pub behind : IsBehindFirst next front value middle

  -- Where the list is not over, it has a first member.
  pub first_member : (parts : PartTypes) (next : NextTypes) (before : List Tok) (front : ValuesFront) → next_types parts ≡ Some next
      → ((place : Place) (after : List Tok) → before ≡ sign kind.RightParen place ∷ after → ⊥) → ArePartsFront names records parts before front
      → HasFirst next before front
  first_member parts next before front there not_over h = at h.consts h.well_formed h.spelled h.have_values
    where
      at : (consts : ConstsText) → AreConsts consts → before ≡ consts_tokens consts ++ sign kind.RightParen h.right ∷ front.rest
          → part_values names records consts parts ≡ Some front.values → HasFirst next before front
      at no_consts formed spelled values = absurd (not_over h.right front.rest spelled)
      at (last_const c) formed spelled values =
          let found = both_some (const_value names records c next.type) (part_values names records no_consts next.others) front.values
          (sym (last_values parts next there c) ∙ values) in
          let left = none_left next.others found.1 found.3 in
          record {
            value = found.0;
            middle = sign kind.RightParen h.right ∷ front.rest;
            is = record { const = c; well_formed = formed; spelled = spelled; has_value = found.2 };
            behind = over h.right refl left.0 (found.4 ∙ ap (value_then found.0) left.1);
          }
      at (const_then c comma others) formed spelled values =
          let found = both_some (const_value names records c next.type) (part_values names records others next.others) front.values
          (sym (then_values parts next there c comma others) ∙ values) in
          let tokens = consts_tokens others ++ sign kind.RightParen h.right ∷ front.rest in
          record {
            value = found.0;
            middle = sign kind.Comma comma ∷ tokens;
            is = record {
              const = c;
              well_formed = formed.0;
              spelled = spelled ∙ append_assoc (const_tokens c) (sign kind.Comma comma ∷ consts_tokens others) (sign kind.RightParen h.right ∷ front.rest);
              has_value = found.2;
            };
            behind = more comma tokens (front_with found.1 front.rest) refl
                (record { consts = others; right = h.right; well_formed = formed.1; spelled = refl; have_values = found.3 })
                (ap₂ front_with found.4 refl);
          }

  -- Where no member may come, the list is over.
  pub no_member : (parts : PartTypes) (before : List Tok) (front : ValuesFront) → next_types parts ≡ None
      → ((place : Place) (after : List Tok) → before ≡ sign kind.RightParen place ∷ after → ⊥) → ArePartsFront names records parts before front → ⊥
  no_member parts before front none not_over h = at parts none h.consts h.spelled h.have_values
    where
      at : (p : PartTypes) → next_types p ≡ None → (consts : ConstsText) → before ≡ consts_tokens consts ++ sign kind.RightParen h.right ∷ front.rest
          → part_values names records consts p ≡ Some front.values → ⊥
      at (same t) none consts spelled values = cc
      at (each (t ∷ ts)) none consts spelled values = cc
      at (each []) none no_consts spelled values = not_over h.right front.rest spelled
      at (each []) none (last_const c) spelled values = cc
      at (each []) none (const_then c comma others) spelled values = cc
