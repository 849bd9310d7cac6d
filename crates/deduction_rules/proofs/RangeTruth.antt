-- The rules of quantifiers keep truth.
use Rattle.std.proofs.Common.{◌≡◌, ℕ, ℤ, ◌≤ℤ◌, ◌<ℤ◌, int_le, int_lt, List, [], ◌∷◌, Bool, true, false, ◌&&◌, Some, cond, refl, sym, ap, ◌∙◌, subst, arith, ⊎_elim, ◌⊎◌}
use Rattle.std.specs.List.{AllByRecursion}
use Rattle.std.proofs.lemmas.Bool.{false≢true, and_parts, and_from, eq-eqb}
use Rattle.std.proofs.lemmas.Int.{ints}
use Rattle.slang_values.specs.Value.{number_type, truth_type, Records, AreWellFormed, Value, unit, number, truth, sequence, record_value, number_of, truth_of, HasType}
use Rattle.slang_values.specs.Tree.{Tree, name, quantified, inside, value}
use Rattle.slang_values.specs.Typing.{NameTypes, IsTyped, FitNames, IsClosed}
use Rattle.slang_values.specs.declared.operators.Binary.{Binary}
use Rattle.slang_values.specs.declared.operators.Quantifier.{Quantifier}
use Rattle.slang_values.proofs.Numbers.{all_of_range, any_of_range}
use Rattle.slang_values.proofs.Typed.{HasType-value}
use Rattle.validity.specs.Validity.{IsClaim, IsTrueUnder, no_bounds}
use Rattle.substitution.proofs.Substitutions.{IsInstance-closed}
use Rattle.deduction_rules.specs.Step.{Cited, claimed, concluded}
use Rattle.deduction_rules.specs.Replacement.{same_tree}
use Rattle.deduction_rules.specs.Rules.{is_joined, is_in_range, instance, all_i, all_e, exists_i, exists_e}
use Rattle.deduction_rules.proofs.Forms.{same_tree-true, joined, for_all, for_some, range, in_range}
use Rattle.deduction_rules.proofs.SymbolValues.{IsFresh, or_none, with_value, value_fresh}
use Rattle.deduction_rules.proofs.RuleTruth.{Shows, to_same, from_same}

number_has_type : (records : Records) (v : Value) → HasType records v number_type → v ≡ number (number_of v)
number_has_type records unit h = absurd (cc)
number_has_type records (number z) h = refl
number_has_type records (truth b) h = absurd (cc)
number_has_type records (sequence t vs) h = absurd (let e = h.0 in cc)
number_has_type records (record_value n vs) h = absurd (let e = h.0 in cc)

-- ---- ranges

le_there : (a b : ℤ) → int_le a b ≡ true → a ≤ℤ b
le_there a b h = omega (arith, ints, h)

lt_there : (a b : ℤ) → int_lt a b ≡ true → a <ℤ b
lt_there a b h = omega (arith, ints, h)

le_from : (a b : ℤ) → a ≤ℤ b → int_le a b ≡ true
le_from a b h = by_order (int_le a b) refl
  where
    by_order : (c : Bool) → int_le a b ≡ c → c ≡ true
    by_order true e = refl
    by_order false e = absurd (omega (arith, ints, e))

lt_from : (a b : ℤ) → a <ℤ b → int_lt a b ≡ true
lt_from a b h = by_order (int_lt a b) refl
  where
    by_order : (c : Bool) → int_lt a b ≡ c → c ≡ true
    by_order true e = refl
    by_order false e = absurd (omega (arith, ints, e))

module _ (records : Records) (names : ℕ → Value) (low high t : Tree ℕ) where
  abbrev number_here : Tree ℕ → ℤ
  number_here u = number_of (value records names no_bounds u)

  above_low : IsTrueUnder records names (range low high t) → number_here low ≤ℤ number_here t
  above_low h = le_there (number_here low) (number_here t) ((and_parts _ _ h).0)

  below_high : IsTrueUnder records names (range low high t) → number_here t <ℤ number_here high
  below_high h = lt_there (number_here t) (number_here high) ((and_parts _ _ h).1)

  range_true : (lo z hi : ℤ) → number_here low ≡ lo → number_here t ≡ z → number_here high ≡ hi → lo ≤ℤ z → z <ℤ hi → IsTrueUnder records names (range low high t)
  range_true lo z hi e f g above below =
      let first : int_le (number_here low) (number_here t) ≡ true = rw (e, f) (le_from lo z above) in
      let second : int_lt (number_here t) (number_here high) ≡ true = rw (f, g) (lt_from z hi below) in
      and_from _ _ first second

-- ---- typed claims

-- what is cited is a claim, and of a block the claims are
abbrev pub AreClaims : Records → NameTypes ℕ → List Cited → Type 0
AreClaims records types [] = Unit {0}
AreClaims records types (claimed t ∷ cs) = IsClaim records types t × AreClaims records types cs
AreClaims records types (concluded k a c ∷ cs) = AreClaims records types cs

module _ (records : Records) (types : NameTypes ℕ) where
  -- the parts of a claim about a quantifier
  body_closed : (q : Quantifier) (low high body t : Tree ℕ) → t ≡ quantified q low high body → IsClaim records types t → IsClosed 1 body
  body_closed q low high body t is claim = (subst (IsClosed 0) is claim.closed).2

  at_closed : (low high at t : Tree ℕ) → t ≡ range low high at → IsClaim records types t → IsClosed 0 at
  at_closed low high at t is claim = ((subst (IsClosed 0) is claim.closed).0).1

  at_typed : (low high at t : Tree ℕ) → t ≡ range low high at → IsClaim records types t → IsTyped records types at number_type
  at_typed low high at t is claim = ((subst (λ u. IsTyped records types u truth_type) is claim.typed).1).2

-- ---- the rules

module _ (records : Records) (fine : AreWellFormed records) (types : NameTypes ℕ) (names : ℕ → Value) (fit : FitNames records types names) where
  abbrev True : Tree ℕ → Type 0
  True t = IsTrueUnder records names t

  abbrev truth_at : Tree ℕ → ℤ → Bool
  truth_at body k = truth_of (value records names (inside k no_bounds) body)

  abbrev number_in : Tree ℕ → ℤ
  number_in u = number_of (value records names no_bounds u)

  -- an instance is true where the body is at that number
  instance_is : (low high at body t : Tree ℕ) → t ≡ range low high at → IsClaim records types t → IsClosed 1 body →
      value records names no_bounds (instance body at) ≡ value records names (inside (number_in at) no_bounds) body
  instance_is low high at body t is claim closed =
      IsInstance-closed at body (at_closed records types low high at t is claim) records names no_bounds (number_in at) closed
      (number_has_type records (value records names no_bounds at) (HasType-value records fine types names fit at number_type no_bounds (at_typed records types low high at t is claim)))

  pub valid_all_e : (cs : List Cited) (c : Tree ℕ) → all_e cs c ≡ true → AreClaims records types cs → AllByRecursion (Shows records names) cs → True c
  valid_all_e (claimed all ∷ claimed rg ∷ []) c h claims s =
      let q = for_all (λ low high body. is_in_range low high (λ t. same_tree (instance body t) c) rg) all h in
      let r = in_range q.low q.high (λ t. same_tree (instance q.body t) c) rg q.holds in
      let closed = body_closed records types Quantifier.All q.low q.high q.body all q.is claims.0 in
      let within : True (range q.low q.high r.at) = subst True r.is s.1.0 in
      let every : True (quantified Quantifier.All q.low q.high q.body) = subst True q.is s.0 in
      let there : truth_at q.body (number_in r.at) ≡ true =
      (all_of_range (truth_at q.body) (number_in q.low) (number_in q.high)).0 every (number_in r.at)
      (above_low records names q.low q.high r.at within) (below_high records names q.low q.high r.at within) in
      to_same records names (instance q.body r.at) c r.holds
      (ap truth_of (instance_is q.low q.high r.at q.body rg r.is claims.1.0 closed) ∙ there)
  valid_all_e _ c h claims s = absurd (false≢true h)

  pub valid_exists_i : (cs : List Cited) (c : Tree ℕ) → exists_i cs c ≡ true → AreClaims records types cs → IsClaim records types c → AllByRecursion (Shows records names) cs → True c
  valid_exists_i (claimed rg ∷ claimed p ∷ []) c h claims claim s =
      let q = for_some (λ low high body. is_in_range low high (λ t. same_tree (instance body t) p) rg) c h in
      let r = in_range q.low q.high (λ t. same_tree (instance q.body t) p) rg q.holds in
      let closed = body_closed records types Quantifier.Exists q.low q.high q.body c q.is claim in
      let within : True (range q.low q.high r.at) = subst True r.is s.0 in
      let there : truth_at q.body (number_in r.at) ≡ true =
      ap truth_of (sym (instance_is q.low q.high r.at q.body rg r.is claims.0 closed)) ∙ from_same records names (instance q.body r.at) p r.holds s.1.0 in
      let some : True (quantified Quantifier.Exists q.low q.high q.body) =
      (any_of_range (truth_at q.body) (number_in q.low) (number_in q.high)).1
      (number_in r.at, above_low records names q.low q.high r.at within, below_high records names q.low q.high r.at within, there) in
      subst True (sym q.is) some
  valid_exists_i _ c h claims claim s = absurd (false≢true h)

  -- ---- with a symbol of a Let

  module _ (k : ℕ) (z : ℤ) where
    abbrev with_k : ℕ → Value
    with_k = with_value k (number z) names

    value_of_k : value records with_k no_bounds (name k) ≡ number z
    value_of_k = ap (λ b. cond b (number z) (names k)) (eq-eqb k k refl)

    -- an instance at the symbol is true where the body, without the symbol, is at its number
    instance_at_k : (body : Tree ℕ) → IsClosed 1 body → IsFresh k body →
        value records with_k no_bounds (instance body (name k)) ≡ value records names (inside z no_bounds) body
    instance_at_k body closed fresh =
        IsInstance-closed (name k) body tt records with_k no_bounds z closed value_of_k ∙ value_fresh records k (number z) names body (inside z no_bounds) fresh

    range_at_k : (low high at t : Tree ℕ) → t ≡ range low high at → same_tree (name k) at ≡ true → IsFresh k low → IsFresh k high →
        number_in low ≤ℤ z → z <ℤ number_in high → IsTrueUnder records with_k t
    range_at_k low high at t is same fresh_low fresh_high above below =
        subst (IsTrueUnder records with_k) (sym is)
        (range_true records with_k low high at (number_in low) z (number_in high)
        (ap number_of (value_fresh records k (number z) names low no_bounds fresh_low))
        (ap number_of (ap (value records with_k no_bounds) (sym (same_tree-true (name k) at same)) ∙ value_of_k))
        (ap number_of (value_fresh records k (number z) names high no_bounds fresh_high)) above below)

  -- A Let's symbol that stands in its block's assumption stands not in the claim, nor in what else is cited.
  abbrev pub IsOutside : List Cited → Tree ℕ → Type 0
  IsOutside (concluded (Some k) a x ∷ []) c = IsFresh k a ⊎ IsFresh k c
  IsOutside (claimed t ∷ concluded (Some k) a x ∷ []) c = IsFresh k a ⊎ (IsFresh k t × IsFresh k c)
  IsOutside _ c = Unit {0}

  not_fresh : (k : ℕ) (low high at t : Tree ℕ) → t ≡ range low high at → same_tree (name k) at ≡ true → IsFresh k t → ⊥
  not_fresh k low high at t is same fresh =
      let whole : IsFresh k (range low high at) = subst (IsFresh k) is fresh in
      let here : IsFresh k (name k) = subst (IsFresh k) (sym (same_tree-true (name k) at same)) ((or_none _ _ ((or_none _ _ whole).0)).1) in
      false≢true (sym here ∙ eq-eqb k k refl)

  pub valid_all_i : (cs : List Cited) (c : Tree ℕ) → all_i cs c ≡ true → IsClaim records types c → IsOutside cs c → AllByRecursion (Shows records names) cs → True c
  valid_all_i (concluded (Some k) a (Some p) ∷ []) c h claim outside s =
      let q = for_all (λ low high body. is_in_range low high (same_tree (name k)) a && same_tree (instance body (name k)) p) c h in
      let e = and_parts _ _ q.holds in
      let r = in_range q.low q.high (same_tree (name k)) a e.0 in
      let outside_claim : IsFresh k c = ⊎_elim (λ fresh. absurd (not_fresh k q.low q.high r.at a r.is r.holds fresh)) (λ o. o) outside in
      let fresh : IsFresh k (quantified Quantifier.All q.low q.high q.body) = subst (IsFresh k) q.is outside_claim in
      let f = or_none _ _ fresh in
      let g = or_none _ _ f.0 in
      let closed = body_closed records types Quantifier.All q.low q.high q.body c q.is claim in
      let each : (z : ℤ) → number_in q.low ≤ℤ z → z <ℤ number_in q.high → truth_at q.body z ≡ true =
      λ z above below.
      let assumed : IsTrueUnder records (with_value k (number z) names) a = range_at_k k z q.low q.high r.at a r.is r.holds g.0 g.1 above below in
      ap truth_of (sym (instance_at_k k z q.body closed f.1)) ∙ from_same records (with_value k (number z) names) (instance q.body (name k)) p e.1 (s.0 z assumed) in
      let every : True (quantified Quantifier.All q.low q.high q.body) = (all_of_range (truth_at q.body) (number_in q.low) (number_in q.high)).1 each in
      subst True (sym q.is) every
  valid_all_i _ c h claim outside s = absurd (false≢true h)

  pub valid_exists_e : (cs : List Cited) (c : Tree ℕ) → exists_e cs c ≡ true → AreClaims records types cs → IsOutside cs c → AllByRecursion (Shows records names) cs → True c
  valid_exists_e (claimed some ∷ concluded (Some k) a (Some x) ∷ []) c h claims outside s =
      let parts = and_parts _ _ h in
      let q = for_some (λ low high body. is_joined Binary.And (λ rg p. is_in_range low high (same_tree (name k)) rg && same_tree (instance body (name k)) p) a) some parts.0 in
      let j = joined Binary.And (λ rg p. is_in_range q.low q.high (same_tree (name k)) rg && same_tree (instance q.body (name k)) p) a q.holds in
      let e = and_parts _ _ j.holds in
      let r = in_range q.low q.high (same_tree (name k)) j.left e.0 in
      let outer : IsFresh k some × IsFresh k c =
      ⊎_elim (λ fresh. absurd (not_fresh k q.low q.high r.at j.left r.is r.holds ((or_none _ _ (subst (IsFresh k) j.is fresh)).0))) (λ o. o) outside in
      let fresh : IsFresh k (quantified Quantifier.Exists q.low q.high q.body) = subst (IsFresh k) q.is outer.0 in
      let f = or_none _ _ fresh in
      let g = or_none _ _ f.0 in
      let closed = body_closed records types Quantifier.Exists q.low q.high q.body some q.is claims.0 in
      let true_some : True (quantified Quantifier.Exists q.low q.high q.body) = subst True q.is s.0 in
      let w = (any_of_range (truth_at q.body) (number_in q.low) (number_in q.high)).0 true_some in
      let ranged : IsTrueUnder records (with_value k (number w.0) names) j.left = range_at_k k w.0 q.low q.high r.at j.left r.is r.holds g.0 g.1 w.1 w.2 in
      let held : IsTrueUnder records (with_value k (number w.0) names) j.right =
      to_same records (with_value k (number w.0) names) (instance q.body (name k)) j.right e.1
      (ap truth_of (instance_at_k k w.0 q.body closed f.1) ∙ w.3) in
      let assumed : IsTrueUnder records (with_value k (number w.0) names) a =
      subst (IsTrueUnder records (with_value k (number w.0) names)) (sym j.is) (and_from _ _ ranged held) in
      let shown : IsTrueUnder records (with_value k (number w.0) names) c =
      to_same records (with_value k (number w.0) names) x c parts.1 (s.1.0 w.0 assumed) in
      ap truth_of (sym (value_fresh records k (number w.0) names c no_bounds outer.1)) ∙ shown
  valid_exists_e _ c h claims outside s = absurd (false≢true h)
