-- Numbers and truth values as constants of their types.
use Rattle.std.proofs.Common.{◌≡◌, ℕ, ℤ, pos, neg_ℤ, Bool, true, false, List, [], ◌∷◌, ◌++◌, if◌then◌else◌, Some, refl, sym, ap, ap₂, ◌∙◌, subst}
use Rattle.slang_lexer.specs.declared.token.TokenKind.{TokenKind}
use Rattle.slang_lexer.specs.declared.token.TokenKind.TheVariants as kind
use Rattle.slang_lexer.specs.Next.{value_of as number_value}
use Rattle.slang_tree.specs.declared.place.Place.{Place}
use Rattle.slang_values.specs.Value.{number_type, truth_type, Records, number, truth}
use Rattle.slang_values.specs.Value as plain
use Rattle.slang_tokens.specs.Tok.{Tok, sign}
use Rattle.slang_grammar.specs.Declarations.{ConstText, const_number, const_minus, const_truth, const_falsity, const_sequence, const_record, const_tokens}
use Rattle.argument_rules.specs.Arguments.{IsConst}
use Rattle.argument_rules.specs.Values.{const_value}
use Rattle.argument_fronts.specs.Cursor.{StandBehindSign}
use Rattle.argument_fronts.specs.Numbers.{NumberFront, IsNumberFront, digits, below_zero}
use Rattle.run_values.specs.Value.{plain_value}
use Rattle.run_values.specs.declared.value.Value.TheVariants as v
use Rattle.run_values.proofs.Values.{plain_value-Z, plain_value-B}
use Rattle.argument_scalars.specs.Fronts.{ValueFront, IsValueFront}

head_kind : List Tok → TokenKind
head_kind [] = kind.End
head_kind (token ∷ tokens) = token.kind

some_inj : {A : Type 0} {x y : A} → Some x ≡ Some y → x ≡ y
some_inj e = cc

-- a sign in front is of one kind
two_kinds : (a b : TokenKind) (m n : Place) (x y : List Tok) → sign a m ∷ x ≡ sign b n ∷ y → a ≡ b
unfolding head_kind
two_kinds a b m n x y h = ap head_kind h

module _ (names : List (List ℕ)) (records : Records) (before : List Tok) where
  -- a constant of type `Z` is a number
  pub number_split : (a : ValueFront) → IsValueFront names records number_type before a
      → (front : NumberFront) × IsNumberFront before front × (a.rest ≡ front.rest) × (a.value ≡ number front.number)
  number_split a h = at h.const h.well_formed h.spelled h.has_value
    where
      at : (c : ConstText) → IsConst c → before ≡ const_tokens c ++ a.rest → const_value names records c number_type ≡ Some a.value
          → (front : NumberFront) × IsNumberFront before front × (a.rest ≡ front.rest) × (a.value ≡ number front.number)
      at (const_number text place) formed spelled value =
          (record { number = pos (number_value text); rest = a.rest }, digits text place formed spelled refl, refl, sym (some_inj value))
      at (const_minus minus text place) formed spelled value = (
        record { number = neg_ℤ (pos (number_value text)); rest = a.rest },
        below_zero minus _ spelled (record { text = text; place = place; well_formed = formed; spelled = refl; is = refl }),
        refl,
        sym (some_inj value),
      )
      at (const_truth place) formed spelled value = absurd (cc)
      at (const_falsity place) formed spelled value = absurd (cc)
      at (const_sequence word ty left elements right) formed spelled value = absurd (cc)
      at (const_record name left parts right) formed spelled value = absurd (cc)

  pub number_there : (front : NumberFront) → IsNumberFront before front
      → IsValueFront names records number_type before (record { value = number front.number; rest = front.rest })
  number_there front (digits text place formed spelled is) = record {
    const = const_number text place;
    well_formed = formed;
    spelled = spelled;
    has_value = ap (λ z. Some (number z)) (sym is);
  }
  number_there front (below_zero minus after spelled h) = record {
    const = const_minus minus h.text h.place;
    well_formed = h.well_formed;
    spelled = spelled ∙ ap (λ ts. sign kind.Minus minus ∷ ts) h.spelled;
    has_value = ap (λ z. Some (number z)) (sym h.is);
  }

  abbrev pub truth_kind : Bool → TokenKind
  truth_kind b = if b then kind.True else kind.False

  pub truth_split : (a : ValueFront) → IsValueFront names records truth_type before a
      → (b : Bool) × StandBehindSign (truth_kind b) before a.rest × (a.value ≡ truth b)
  truth_split a h = at h.const h.well_formed h.spelled h.has_value
    where
      at : (c : ConstText) → IsConst c → before ≡ const_tokens c ++ a.rest → const_value names records c truth_type ≡ Some a.value
          → (b : Bool) × StandBehindSign (truth_kind b) before a.rest × (a.value ≡ truth b)
      at (const_number text place) formed spelled value = absurd (cc)
      at (const_minus minus text place) formed spelled value = absurd (cc)
      at (const_truth place) formed spelled value = (true, (place, spelled), sym (some_inj value))
      at (const_falsity place) formed spelled value = (false, (place, spelled), sym (some_inj value))
      at (const_sequence word ty left elements right) formed spelled value = absurd (cc)
      at (const_record name left parts right) formed spelled value = absurd (cc)

  pub truth_there : (b : Bool) (rest : List Tok) → StandBehindSign (truth_kind b) before rest
      → IsValueFront names records truth_type before (record { value = truth b; rest = rest })
  truth_there true rest h = record { const = const_truth h.0; well_formed = tt; spelled = h.1; has_value = refl }
  truth_there false rest h = record { const = const_falsity h.0; well_formed = tt; spelled = h.1; has_value = refl }

  pub neither : ((x : List Tok) → StandBehindSign kind.True before x → ⊥) → ((x : List Tok) → StandBehindSign kind.False before x → ⊥)
      → (a : ValueFront) → IsValueFront names records truth_type before a → ⊥
  neither no_truth no_falsity a h = let s = truth_split a h in at s.0 s.1
    where
      at : (b : Bool) → StandBehindSign (truth_kind b) before a.rest → ⊥
      at true there = no_truth a.rest there
      at false there = no_falsity a.rest there

  abbrev front : plain.Value → List Tok → ValueFront
  front value rest = record { value = value; rest = rest }

  -- the only constants, as the values of a run
  pub number_only : (there : NumberFront) (z : ℤ) → z ≡ there.number
      → IsNumberFront before there × ((a : NumberFront) → IsNumberFront before a → a ≡ there)
      → IsValueFront names records number_type before (front (plain_value (v.Z z)) there.rest)
      × ((a : ValueFront) → IsValueFront names records number_type before a → a ≡ front (plain_value (v.Z z)) there.rest)
  number_only there z is found =
      let same : number there.number ≡ plain_value (v.Z z) = ap number (sym is) ∙ sym (plain_value-Z z) in (
        subst (λ (w : plain.Value). IsValueFront names records number_type before (front w there.rest)) same (number_there there found.0),
        λ a h. let s = number_split a h in
            let only = found.1 s.0 s.1 in
            ap₂ front (s.3 ∙ ap (λ (n : NumberFront). number n.number) only ∙ same) (s.2 ∙ ap (λ (n : NumberFront). n.rest) only),
      )

  truth_value_only : (b : Bool) (rest : List Tok) → StandBehindSign (truth_kind b) before rest
      → ((a : ValueFront) → IsValueFront names records truth_type before a → (a.value ≡ truth b) × (a.rest ≡ rest))
      → IsValueFront names records truth_type before (front (plain_value (v.B b)) rest)
      × ((a : ValueFront) → IsValueFront names records truth_type before a → a ≡ front (plain_value (v.B b)) rest)
  truth_value_only b rest there only = (
    subst (λ (w : plain.Value). IsValueFront names records truth_type before (front w rest)) (sym (plain_value-B b)) (truth_there b rest there),
    λ a h. let s = only a h in ap₂ front (s.0 ∙ sym (plain_value-B b)) s.1,
  )

  pub truth_only : (rest : List Tok) → StandBehindSign kind.True before rest × ((x : List Tok) → StandBehindSign kind.True before x → x ≡ rest)
      → IsValueFront names records truth_type before (front (plain_value (v.B true)) rest)
      × ((a : ValueFront) → IsValueFront names records truth_type before a → a ≡ front (plain_value (v.B true)) rest)
  truth_only rest found = truth_value_only true rest found.0 (λ a h. let s = truth_split a h in at a s.0 s.1 s.2)
    where
      at : (a : ValueFront) (b : Bool) → StandBehindSign (truth_kind b) before a.rest → a.value ≡ truth b → (a.value ≡ truth true) × (a.rest ≡ rest)
      at a true there is = (is, found.1 a.rest there)
      at a false there is =
          let differs = two_kinds kind.True kind.False found.0.0 there.0 rest a.rest (sym found.0.1 ∙ there.1) in absurd (cc)

  pub falsity_only : (rest : List Tok) → ((x : List Tok) → StandBehindSign kind.True before x → ⊥)
      → StandBehindSign kind.False before rest × ((x : List Tok) → StandBehindSign kind.False before x → x ≡ rest)
      → IsValueFront names records truth_type before (front (plain_value (v.B false)) rest)
      × ((a : ValueFront) → IsValueFront names records truth_type before a → a ≡ front (plain_value (v.B false)) rest)
  falsity_only rest none found = truth_value_only false rest found.0 (λ a h. let s = truth_split a h in at a s.0 s.1 s.2)
    where
      at : (a : ValueFront) (b : Bool) → StandBehindSign (truth_kind b) before a.rest → a.value ≡ truth b → (a.value ≡ truth false) × (a.rest ≡ rest)
      at a true there is = absurd (none a.rest there)
      at a false there is = (is, found.1 a.rest there)
