-- What is found at a member of a list.
use Rattle.std.proofs.Common.{◌≡◌, ℕ, Bool, true, false, List, [], ◌∷◌, ◌++◌, if◌then◌else◌, Some, sym, ap, ap₂, ◌∙◌, subst}
use Rattle.std.proofs.lemmas.List.{append-nil}
use Rattle.slang_lexer.specs.declared.token.TokenKind.{TokenKind}
use Rattle.slang_lexer.specs.declared.token.TokenKind.TheVariants as kind
use Rattle.slang_tree.specs.declared.place.Place.{Place}
use Rattle.slang_values.specs.Value.{Records, Values, no_values, value_then}
use Rattle.slang_tokens.specs.Tok.{Tok, sign, toks}
use Rattle.run_values.specs.declared.value.Value.{Value}
use Rattle.run_values.specs.Value.{plain_value, plain_values}
use Rattle.argument_fronts.specs.Cursor.{StandBehindSign}
use Rattle.argument_fronts.specs.Heads.{MarkedFront, IsEndOfMember}
use Rattle.argument_lists.specs.Parts.{PartTypes, parts_of, can_end, NextTypes, next_types}
use Rattle.argument_values.specs.declared.constants.ListPlace.{ListPlace}
use Rattle.argument_values.specs.declared.constants.Found.TheVariants as f
use Rattle.argument_values.specs.Consts.{ValuesFront, ArePartsFront}
use Rattle.argument_scalars.specs.Fronts.{ValueFront, IsValueFront}
use Rattle.argument_values.specs.Members.{front_and, IsOverWith, GoesOnWith, IsMember}
use Rattle.argument_values.proofs.Lists.{joined, joined_push, joined_more, over_here, over_only, goes_on, ends_with, IsBehindFirst, more, over, HasFirst}
use Rattle.argument_values.proofs.Lists.{first_member}

true_false : {A : Type 0} (b : Bool) → b ≡ true → b ≡ false → A
true_false b h k = absurd (cc)

head_kind : List Tok → TokenKind
head_kind [] = kind.End
head_kind (token ∷ tokens) = token.kind

tail_of : List Tok → List Tok
tail_of [] = []
tail_of (token ∷ tokens) = tokens

two_kinds : (a b : TokenKind) (m n : Place) (x y : List Tok) → sign a m ∷ x ≡ sign b n ∷ y → a ≡ b
unfolding head_kind
two_kinds a b m n x y h = ap head_kind h

tails_same : (a b : Tok) (x y : List Tok) → a ∷ x ≡ b ∷ y → x ≡ y
unfolding tail_of
tails_same a b x y h = ap tail_of h

pub no_bracket : (before : List Tok) → ((x : List Tok) → StandBehindSign kind.RightParen before x → ⊥)
    → (place : Place) (after : List Tok) → before ≡ sign kind.RightParen place ∷ after → ⊥
no_bracket before none place after is = none after (place, is)

module _ (names : List (List ℕ)) (records : Records) where
  -- a bracket in front, where the list may be over or not
  pub bracket_found : (at behind : ListPlace) (old : List Value) (ends : Bool) → can_end (parts_of at.parts) ≡ ends
      → StandBehindSign kind.RightParen (toks at.rest.now) (toks behind.rest.now)
      → IsMember names records at old behind old (if ends then f.Over else f.Nothing)
  bracket_found at behind old true ends there = record {
    added = [];
    are_added = sym (append-nil old);
    found = over_here names records (parts_of at.parts) (toks at.rest.now) (toks behind.rest.now) there.0 there.1 ends;
    only = λ a h. (over_only names records (parts_of at.parts) (toks at.rest.now) (toks behind.rest.now) there.0 a there.1 h).1;
  }
  bracket_found at behind old false ends there = λ a h.
      true_false (can_end (parts_of at.parts))
      (over_only names records (parts_of at.parts) (toks at.rest.now) (toks behind.rest.now) there.0 a there.1 h).0 ends

  -- no bracket is in front, and there is a type for a member
  module _ (parts : PartTypes) (next : NextTypes) (before : List Tok) (there : next_types parts ≡ Some next)
      (none : (x : List Tok) → StandBehindSign kind.RightParen before x → ⊥) where
    first : (a : ValuesFront) → ArePartsFront names records parts before a → HasFirst names records next before a
    first a h = first_member names records parts next before a there (no_bracket before none) h

    pub no_value_found : ((a : ValueFront) → IsValueFront names records next.type before a → ⊥)
        → (a : ValuesFront) → ArePartsFront names records parts before a → ⊥
    no_value_found no_value a h = let x = first a h in no_value (record { value = x.value; rest = x.middle }) x.is

    module _ (v : Value) (middle : List Tok)
        (read : IsValueFront names records next.type before (record { value = plain_value v; rest = middle })
        × ((a : ValueFront) → IsValueFront names records next.type before a → a ≡ record { value = plain_value v; rest = middle })) where
      behind : (a : ValuesFront) → ArePartsFront names records parts before a → IsBehindFirst names records next a (plain_value v) middle
      behind a h =
          let x = first a h in
          let same = read.1 (record { value = x.value; rest = x.middle }) x.is in
          subst (λ (y : ValueFront). IsBehindFirst names records next a y.value y.rest) same x.behind

      pub no_end_found : ((a : MarkedFront) → IsEndOfMember middle a → ⊥) → (a : ValuesFront) → ArePartsFront names records parts before a → ⊥
      no_end_found no_end a h = on (behind a h)
        where
          on : IsBehindFirst names records next a (plain_value v) middle → ⊥
          on (more comma rest others is more_are same) = no_end (record { mark = false; rest = rest }) (comma, is)
          on (over right is ends same) = no_end (record { mark = true; rest = a.rest }) (right, is)

      -- behind the member stands a comma
      pub comma_found : (old new : List Value) (rest : List Tok) (place : Place) → middle ≡ sign kind.Comma place ∷ rest → new ≡ old ++ v ∷ []
          → GoesOnWith names records parts before old new next.others rest
      comma_found old new rest place is added = record {
        value = v;
        is_added = added;
        joins = λ a h. goes_on names records parts next there before middle rest (plain_value v) place a read.0 is h;
        splits = λ b h. on b (behind b h);
      }
        where
          on : (b : ValuesFront) → IsBehindFirst names records next b (plain_value v) middle
              → (a : ValuesFront) × ArePartsFront names records next.others rest a × (b ≡ front_and v a)
          on b (more comma others_at others at_comma are same) =
              let rest_is = tails_same (sign kind.Comma comma) (sign kind.Comma place) others_at rest (sym at_comma ∙ is) in
              (others, subst (λ ts. ArePartsFront names records next.others ts others) rest_is are, same)
          on b (over right at_right ends same) =
              let differs = two_kinds kind.RightParen kind.Comma right place b.rest rest (sym at_right ∙ is) in absurd (cc)

      -- behind the member stands the bracket, and the list may be over
      pub end_found : (old new : List Value) (rest : List Tok) (place : Place) → middle ≡ sign kind.RightParen place ∷ rest → new ≡ old ++ v ∷ []
          → can_end next.others ≡ true → IsOverWith names records parts before old new rest
      end_found old new rest place is added ends = record {
        added = v ∷ [];
        are_added = added;
        found = ends_with names records parts next there before middle rest (plain_value v) place read.0 is ends;
        only = λ a h. on a (behind a h);
      }
        where
          on : (a : ValuesFront) → IsBehindFirst names records next a (plain_value v) middle
              → a ≡ record { values = value_then (plain_value v) no_values; rest = rest }
          on a (more comma others_at others at_comma are same) =
              let differs = two_kinds kind.Comma kind.RightParen comma place others_at rest (sym at_comma ∙ is) in absurd (cc)
          on a (over right at_right ends same) =
              ap₂ (λ (vs : Values) (ts : List Tok). record { values = vs; rest = ts }) same
              (tails_same (sign kind.RightParen right) (sign kind.RightParen place) a.rest rest (sym at_right ∙ is))

      -- and may not be
      pub no_end_yet : (rest : List Tok) (place : Place) → middle ≡ sign kind.RightParen place ∷ rest → can_end next.others ≡ false
          → (a : ValuesFront) → ArePartsFront names records parts before a → ⊥
      no_end_yet rest place is goes a h = on (behind a h)
        where
          on : IsBehindFirst names records next a (plain_value v) middle → ⊥
          on (more comma others_at others at_comma are same) =
              let differs = two_kinds kind.Comma kind.RightParen comma place others_at rest (sym at_comma ∙ is) in cc
          on (over right at_right ends same) = true_false (can_end next.others) ends goes

  -- a member and what stands behind it
  pub member_found : (at behind : ListPlace) (next : NextTypes) (v : Value) (middle : List Tok) (old new : List Value) (is_over ends : Bool)
      → next_types (parts_of at.parts) ≡ Some next → next.others ≡ parts_of behind.parts → can_end (parts_of behind.parts) ≡ ends
      → ((x : List Tok) → StandBehindSign kind.RightParen (toks at.rest.now) x → ⊥)
      → (IsValueFront names records next.type (toks at.rest.now) (record { value = plain_value v; rest = middle })
      × ((a : ValueFront) → IsValueFront names records next.type (toks at.rest.now) a → a ≡ record { value = plain_value v; rest = middle }))
      → IsEndOfMember middle (record { mark = is_over; rest = toks behind.rest.now }) → new ≡ old ++ v ∷ []
      → IsMember names records at old behind new (if is_over then (if ends then f.Over else f.Nothing) else f.More)
  member_found at behind next v middle old new false ends there others can none read end added =
      subst (λ (parts : PartTypes). GoesOnWith names records (parts_of at.parts) (toks at.rest.now) old new parts (toks behind.rest.now)) others
      (comma_found (parts_of at.parts) next (toks at.rest.now) there none v middle read old new (toks behind.rest.now) end.0 end.1 added)
  member_found at behind next v middle old new true true there others can none read end added =
      end_found (parts_of at.parts) next (toks at.rest.now) there none v middle read old new (toks behind.rest.now) end.0 end.1 added
      (ap can_end others ∙ can)
  member_found at behind next v middle old new true false there others can none read end added =
      no_end_yet (parts_of at.parts) next (toks at.rest.now) there none v middle read (toks behind.rest.now) end.0 end.1 (ap can_end others ∙ can)

-- ---- the members so far, in front of the rest of the list

module _ (names : List (List ℕ)) (records : Records) (parts : PartTypes) (before : List Tok) (so_far : List Value) (left : PartTypes) (at : List Tok) where
  abbrev front : Values → List Tok → ValuesFront
  front vs rest = record { values = vs; rest = rest }

  abbrev pub AreSound : Type 0
  AreSound = (a : ValuesFront) → ArePartsFront names records left at a → ArePartsFront names records parts before (front (joined so_far a.values) a.rest)

  abbrev pub AreComplete : Type 0
  AreComplete = (b : ValuesFront) → ArePartsFront names records parts before b
      → (a : ValuesFront) × ArePartsFront names records left at a × (b ≡ front (joined so_far a.values) a.rest)

  module _ (sound : AreSound) (complete : AreComplete) (new : List Value) where
    pub over_all : (rest : List Tok) → IsOverWith names records left at so_far new rest
        → ArePartsFront names records parts before (front (plain_values new) rest)
        × ((a : ValuesFront) → ArePartsFront names records parts before a → a ≡ front (plain_values new) rest)
    over_all rest h =
        let all : joined so_far (plain_values h.added) ≡ plain_values new = joined_more so_far h.added ∙ ap plain_values (sym h.are_added) in
        let same = ap (λ (vs : Values). front vs rest) all in (
          subst (ArePartsFront names records parts before) same (sound (front (plain_values h.added) rest) h.found),
          λ a k. let s = complete a k in s.2 ∙ ap (λ (x : ValuesFront). front (joined so_far x.values) x.rest) (h.only s.0 s.1) ∙ same,
        )

    module _ (others : PartTypes) (rest : List Tok) (h : GoesOnWith names records left at so_far new others rest) where
      pushed : (a : ValuesFront) → front (joined so_far (value_then (plain_value h.value) a.values)) a.rest ≡ front (joined new a.values) a.rest
      pushed a = ap (λ (vs : Values). front vs a.rest)
          (sym (joined_push so_far h.value a.values) ∙ ap (λ (xs : List Value). joined xs a.values) (sym h.is_added))

      pub sound_on : (a : ValuesFront) → ArePartsFront names records others rest a
          → ArePartsFront names records parts before (front (joined new a.values) a.rest)
      sound_on a k = subst (ArePartsFront names records parts before) (pushed a) (sound (front_and h.value a) (h.joins a k))

      pub complete_on : (b : ValuesFront) → ArePartsFront names records parts before b
          → (a : ValuesFront) × ArePartsFront names records others rest a × (b ≡ front (joined new a.values) a.rest)
      complete_on b k =
          let s = complete b k in
          let p = h.splits s.0 s.1 in (p.0, p.1, s.2 ∙ ap (λ (x : ValuesFront). front (joined so_far x.values) x.rest) p.2 ∙ pushed p.0)
