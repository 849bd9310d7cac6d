-- What an accepted proof claims follows from the facts.
use Rattle.std.proofs.Common.{◌≡◌, ◌⊎◌, ℕ, List, [], ◌∷◌, ◌++◌, Bool, true, false, not, eqb, cond, Option, Some, None, inl, inr, refl, sym, ap, ◌∙◌, subst, slice_get}
use Rattle.std.specs.List.{AllByRecursion, All, list_any}
use Rattle.std.specs.Option.{option_map_or}
use Rattle.std.proofs.lemmas.Bool.{false≢true, not-false, or_right, eqb-true}
use Rattle.std.proofs.lemmas.List.Elements.{recursion_from_All, All-from_recursion}
use Rattle.slang_values.specs.Value.{ValueType, number_type, Value, number, truth_of, HasType}
use Rattle.slang_values.specs.Tree.{Tree}
use Rattle.slang_values.specs.Typing.{NameTypes, FitNames}
use Rattle.validity.specs.Validity.{SequentTree, symbol_types, IsClaim, IsWellSorted, IsTrueUnder, IsValid, no_bounds}
use Rattle.deduction_rules.specs.Step.{IsNumberSymbol, StepTree, line, block, StepTrees, no_steps, step_then, IsSortedStep, AreSortedSteps, Cited, claimed, concluded, claim_of, last_claim, conclusion}
use Rattle.deduction_rules.specs.Replacement.{has_symbol}
use Rattle.deduction_rules.specs.Rules.{Rule, Premise, AndI, AndE1, AndE2, OrI1, OrI2, OrE, ImplyI, ImplyE, NegI, NegE, BottomE, PbC, AllI, AllE, ExistsI, ExistsE, Algebra, Auto, SubstLeft, SubstRight, rules, fits, fits_number}
use Rattle.deduction_rules.specs.Deduction.{Labelled, Before, start, with_claim, is_symbol, with_let, with_block, look_up, Citing, missing, found, add_cited, citing, Refusal, Shape, Symbol, NotClosed, claims_of, visible_claims, sequent_of, is_closed_by, line_refusal, is_used, Progress, passed, refused_at, unless_refused, and_then, after_step, after_steps, accepted, deduction_of, deduction}
use Rattle.deduction_rules.specs.Laws.{ClosesValid}
use Rattle.deduction_rules.proofs.SymbolValues.{IsFresh, or_none, fresh_by_test, with_value, value_fresh, value_fresh_under}
use Rattle.deduction_rules.proofs.RuleTruth as plain
use Rattle.deduction_rules.proofs.RuleTruth.{Shows, AreClosedClaims}
use Rattle.deduction_rules.proofs.RangeTruth as range
use Rattle.deduction_rules.proofs.RangeTruth.{AreClaims, IsOutside}
use Rattle.deduction_rules.proofs.Kept.{all_kept, all_joined, IsCovered, HasEnded, symbol_itself, FineClaim, IsFineShown, IsFine, AreFine, Later, later_of_later, later-claim, later-let, later-block}

-- ---- what a passed step tells

passed_both : (p : Progress) (next : Before → Progress) (after : Before) → and_then p next ≡ passed after →
    (mid : Before) × (p ≡ passed mid) × (next mid ≡ passed after)
passed_both (passed mid) next after h = (mid, refl, h)
passed_both (refused_at label why) next after h = absurd (cc)

no_refusal : (label : ℕ) (why : Option Refusal) (next after : Before) → unless_refused label why next ≡ passed after → (why ≡ None) × (next ≡ after)
no_refusal label None next after h = (refl, cc)
no_refusal label (Some why) next after h = absurd (cc)

not_refused : (b : Bool) (label : ℕ) (why : Refusal) (next : Progress) (after : Before) → cond b (refused_at label why) next ≡ passed after →
    (b ≡ false) × (next ≡ passed after)
not_refused true label why next after h = absurd (cc)
not_refused false label why next after h = (refl, h)

not_refused_line : (b : Bool) (why : Refusal) (next : Option Refusal) → cond b (Some why) next ≡ None → (b ≡ false) × (next ≡ None)
not_refused_line true why next h = absurd (cc)
not_refused_line false why next h = (refl, h)

-- ---- what is cited is visible

abbrev IsAll : (Cited → Type 0) → Option Cited → Type 0
IsAll P None = Unit {0}
IsAll P (Some c) = P c

look_up_all : (P : Cited → Type 0) (visible : List Labelled) (label : ℕ) → AllByRecursion (λ e. P e.cited) visible → IsAll P (look_up visible label)
look_up_all P [] label h = tt
look_up_all P (e ∷ es) label h = either (eqb e.label label) (Some e.cited) (look_up es label) h.0 (look_up_all P es label h.1)
  where
    either : (b : Bool) (x y : Option Cited) → IsAll P x → IsAll P y → IsAll P (cond b x y)
    either true x y p q = p
    either false x y p q = q

added : (P : Cited → Type 0) (label : ℕ) (o : Option Cited) (rest : Citing) (cs : List Cited) → IsAll P o →
    ((ds : List Cited) → rest ≡ found ds → AllByRecursion P ds) → add_cited label o rest ≡ found cs → AllByRecursion P cs
added P label None rest cs h more e = absurd (cc)
added P label (Some c) (missing l) cs h more e = absurd (cc)
added P label (Some c) (found ds) cs h more e =
    let is : c ∷ ds ≡ cs = cc in subst (AllByRecursion P) is (h, more ds refl)

cited_all : (P : Cited → Type 0) (visible : List Labelled) (labels : List ℕ) (cs : List Cited) → AllByRecursion (λ e. P e.cited) visible →
    citing visible labels ≡ found cs → AllByRecursion P cs
cited_all P visible [] cs h e = let is : [] ≡ cs = cc in subst (AllByRecursion P) is tt
cited_all P visible (l ∷ ls) cs h e =
    added P l (look_up visible l) (citing visible ls) cs (look_up_all P visible l h) (λ ds d. cited_all P visible ls ds h d) e

-- the claim is one of the visible ones
abbrev IsAmong : Tree ℕ → List Labelled → Type 0
IsAmong t [] = ⊥
IsAmong t (e ∷ es) = (e.cited ≡ claimed t) ⊎ IsAmong t es

abbrev IsShown : Option (Tree ℕ) → List Labelled → Type 0
IsShown None visible = Unit {0}
IsShown (Some t) visible = IsAmong t visible

among : (P : Cited → Type 0) (t : Tree ℕ) (visible : List Labelled) → AllByRecursion (λ e. P e.cited) visible → IsAmong t visible → P (claimed t)
among P t [] h w = absurd w
among P t (e ∷ es) h (inl is) = subst P is h.0
among P t (e ∷ es) h (inr later) = among P t es h.1 later

among_last : (t : Tree ℕ) (label : ℕ) (visible : List Labelled) → IsAmong t (visible ++ record { label = label; cited = claimed t } ∷ [])
among_last t label [] = inl refl
among_last t label (e ∷ es) = inr (among_last t label es)

-- ---- claims of a list

claims_all : (P : Tree ℕ → Type 0) (Q : Cited → Type 0) → ((t : Tree ℕ) → Q (claimed t) → P t) → (cs : List Cited) → AllByRecursion Q cs → AllByRecursion P (claims_of cs)
claims_all P Q f [] h = tt
claims_all P Q f (claimed t ∷ cs) h = (f t h.0, claims_all P Q f cs h.1)
claims_all P Q f (concluded k a x ∷ cs) h = claims_all P Q f cs h.1

visible_all : (P : Tree ℕ → Type 0) (Q : Cited → Type 0) → ((t : Tree ℕ) → Q (claimed t) → P t) → (visible : List Labelled) → AllByRecursion (λ e. Q e.cited) visible → AllByRecursion P (visible_claims visible)
visible_all P Q f [] h = tt
visible_all P Q f (e ∷ es) h = all_joined P (claims_of (e.cited ∷ [])) (visible_claims es) (claims_all P Q f (e.cited ∷ []) (h.0, tt)) (visible_all P Q f es h.1)

module _ (closes : SequentTree → Bool) (yes_is_valid : ClosesValid closes) (base : SequentTree) (sorted : IsWellSorted base) where
  abbrev types : NameTypes ℕ
  types = symbol_types base

  abbrev Fine : Before → Cited → Type 0
  Fine before c = IsFine base.records types before c

  abbrev Fits : (ℕ → Value) → Type 0
  Fits names = FitNames base.records types names

  abbrev IsTrue : (ℕ → Value) → Tree ℕ → Type 0
  IsTrue names t = IsTrueUnder base.records names t

  abbrev AreTrue : (ℕ → Value) → Type 0
  AreTrue names = AllByRecursion (IsTrue names) base.facts

  abbrev AreKnown : Before → (ℕ → Value) → Type 0
  AreKnown before names = AllByRecursion (λ e. Shows base.records names e.cited) before.visible

  abbrev AreCovered : Before → Type 0
  AreCovered before = AllByRecursion (IsCovered before) base.facts

  -- ---- one line

  closed_claims : (before : Before) (names : ℕ → Value) (cs : List Cited) → AllByRecursion (Fine before) cs → AreClosedClaims base.records names cs
  closed_claims before names [] h = tt
  closed_claims before names (claimed t ∷ []) h = tt
  closed_claims before names (claimed t ∷ claimed a ∷ []) h = h.0.claim.closed
  closed_claims before names (claimed t ∷ claimed a ∷ x ∷ cs) h = tt
  closed_claims before names (claimed t ∷ concluded k a x ∷ cs) h = tt
  closed_claims before names (concluded k a x ∷ cs) h = tt

  are_claims : (before : Before) (cs : List Cited) → AllByRecursion (Fine before) cs → AreClaims base.records types cs
  are_claims before [] h = tt
  are_claims before (claimed t ∷ cs) h = (h.0.claim, are_claims before cs h.1)
  are_claims before (concluded k a x ∷ cs) h = are_claims before cs h.1

  module _ (names : ℕ → Value) (fit : Fits names) where
    outside : (before : Before) (c : Tree ℕ) → has_symbol before.ended c ≡ false → (cs : List Cited) → AllByRecursion (Fine before) cs →
        IsOutside base.records sorted.records types names fit cs c
    outside before c h [] fine = tt
    outside before c h (concluded (Some k) a x ∷ []) fine = leaves fine.0.0.ended
      where
        leaves : HasEnded before (Some k) a → IsFresh k a ⊎ IsFresh k c
        leaves (inl fresh) = inl fresh
        leaves (inr over) = inr (fresh_by_test before.ended k c over h)
    outside before c h (concluded None a x ∷ []) fine = tt
    outside before c h (concluded None a x ∷ y ∷ cs) fine = tt
    outside before c h (concluded (Some k) a x ∷ y ∷ cs) fine = tt
    outside before c h (claimed t ∷ []) fine = tt
    outside before c h (claimed t ∷ claimed u ∷ cs) fine = tt
    outside before c h (claimed t ∷ concluded None a x ∷ cs) fine = tt
    outside before c h (claimed t ∷ concluded (Some k) a x ∷ []) fine = leaves fine.1.0.0.ended
      where
        leaves : HasEnded before (Some k) a → IsFresh k a ⊎ (IsFresh k t × IsFresh k c)
        leaves (inl fresh) = inl fresh
        leaves (inr over) = inr (fine.0.inside k over, fresh_by_test before.ended k c over h)
    outside before c h (claimed t ∷ concluded (Some k) a x ∷ y ∷ cs) fine = tt

    -- a sequent of claims that is closed is valid
    by_closing : (facts : List (Tree ℕ)) (c : Tree ℕ) → closes (sequent_of base facts c) ≡ true → AllByRecursion (IsClaim base.records types) facts →
        IsClaim base.records types c → AllByRecursion (IsTrue names) facts → IsTrue names c
    by_closing facts c closed claims claim true_facts =
        yes_is_valid (sequent_of base facts c)
        (record { records = sorted.records; symbols = sorted.symbols; facts = All-from_recursion (IsClaim base.records types) facts claims; goal = claim })
        closed names fit (All-from_recursion (IsTrue names) facts true_facts)

    by_rule : (before : Before) (c : Tree ℕ) (cs : List Cited) (rule : Option Rule) → option_map_or (λ r. fits base.facts r cs c) rule false ≡ true →
        has_symbol before.ended c ≡ false → is_closed_by closes base before.visible rule cs c ≡ true → IsClaim base.records types c →
        AllByRecursion (Fine before) cs → AllByRecursion (Shows base.records names) cs →
        AreFine base.records types before before.visible → AreTrue names → AreKnown before names → IsTrue names c
    by_rule before c cs None h inside closed claim fine shows seen facts known = absurd (false≢true h)
    by_rule before c cs (Some Premise) h inside closed claim fine shows seen facts known = plain.valid_premise base.records names base.facts cs c h facts
    by_rule before c cs (Some AndI) h inside closed claim fine shows seen facts known = plain.valid_and_i base.records names cs c h shows
    by_rule before c cs (Some AndE1) h inside closed claim fine shows seen facts known = plain.valid_and_e1 base.records names cs c h shows
    by_rule before c cs (Some AndE2) h inside closed claim fine shows seen facts known = plain.valid_and_e2 base.records names cs c h shows
    by_rule before c cs (Some OrI1) h inside closed claim fine shows seen facts known = plain.valid_or_i1 base.records names cs c h shows
    by_rule before c cs (Some OrI2) h inside closed claim fine shows seen facts known = plain.valid_or_i2 base.records names cs c h shows
    by_rule before c cs (Some OrE) h inside closed claim fine shows seen facts known = plain.valid_or_e base.records names cs c h shows
    by_rule before c cs (Some ImplyI) h inside closed claim fine shows seen facts known = plain.valid_imply_i base.records names cs c h shows
    by_rule before c cs (Some ImplyE) h inside closed claim fine shows seen facts known = plain.valid_imply_e base.records names cs c h shows
    by_rule before c cs (Some NegI) h inside closed claim fine shows seen facts known = plain.valid_neg_i base.records names cs c h shows
    by_rule before c cs (Some NegE) h inside closed claim fine shows seen facts known = plain.valid_neg_e base.records names cs c h shows
    by_rule before c cs (Some BottomE) h inside closed claim fine shows seen facts known = plain.valid_bottom_e base.records names cs c h shows
    by_rule before c cs (Some PbC) h inside closed claim fine shows seen facts known = plain.valid_pbc base.records names cs c h shows
    by_rule before c cs (Some AllI) h inside closed claim fine shows seen facts known =
        range.valid_all_i base.records sorted.records types names fit cs c h claim (outside before c inside cs fine) shows
    by_rule before c cs (Some AllE) h inside closed claim fine shows seen facts known =
        range.valid_all_e base.records sorted.records types names fit cs c h (are_claims before cs fine) shows
    by_rule before c cs (Some ExistsI) h inside closed claim fine shows seen facts known =
        range.valid_exists_i base.records sorted.records types names fit cs c h (are_claims before cs fine) claim shows
    by_rule before c cs (Some ExistsE) h inside closed claim fine shows seen facts known =
        range.valid_exists_e base.records sorted.records types names fit cs c h (are_claims before cs fine) (outside before c inside cs fine) shows
    by_rule before c cs (Some Algebra) h inside closed claim fine shows seen facts known =
        by_closing (claims_of cs) c closed (claims_all (IsClaim base.records types) (Fine before) (λ t f. f.claim) cs fine) claim
        (claims_all (IsTrue names) (Shows base.records names) (λ t s. s) cs shows)
    by_rule before c cs (Some Auto) h inside closed claim fine shows seen facts known =
        by_closing (base.facts ++ visible_claims before.visible) c closed
        (all_joined (IsClaim base.records types) base.facts (visible_claims before.visible)
        (recursion_from_All (IsClaim base.records types) base.facts sorted.facts)
        (visible_all (IsClaim base.records types) (Fine before) (λ t f. f.claim) before.visible seen)) claim
        (all_joined (IsTrue names) base.facts (visible_claims before.visible) facts
        (visible_all (IsTrue names) (Shows base.records names) (λ t s. s) before.visible known))
    by_rule before c cs (Some SubstLeft) h inside closed claim fine shows seen facts known =
        plain.valid_subst_left base.records names cs c h (closed_claims before names cs fine) shows
    by_rule before c cs (Some SubstRight) h inside closed claim fine shows seen facts known =
        plain.valid_subst_right base.records names cs c h (closed_claims before names cs fine) shows

  record LinePasses (before : Before) (c : Tree ℕ) (rule : ℕ) (cite : Citing) : Type 0 where
    cited : List Cited
    is : cite ≡ found cited
    fit : fits_number base.facts rule cited c ≡ true
    inside : has_symbol before.ended c ≡ false
    closed : is_closed_by closes base before.visible (slice_get rules rule) cited c ≡ true

  line_passes : (before : Before) (c : Tree ℕ) (rule : ℕ) (cite : Citing) → line_refusal closes base before c rule cite ≡ None → LinePasses before c rule cite
  line_passes before c rule (missing label) h = absurd (cc)
  line_passes before c rule (found cs) h =
      let first = not_refused_line (not (fits_number base.facts rule cs c)) Shape _ h in
      let second = not_refused_line (has_symbol before.ended c) Symbol _ first.1 in
      let third = not_refused_line (not (is_closed_by closes base before.visible (slice_get rules rule) cs c)) NotClosed _ second.1 in
      record { cited = cs; is = refl; fit = not-false _ first.0; inside = second.0; closed = not-false _ third.0 }

  -- ---- steps

  record Sound (before after : Before) : Type 0 where
    later : Later base.records types before after
    fine : AreCovered before → AreFine base.records types before before.visible → AreFine base.records types after after.visible
    known : AreCovered before → AreFine base.records types before before.visible →
        (names : ℕ → Value) → Fits names → AreTrue names → AreKnown before names → AreKnown after names

  sound_nothing : (before : Before) → Sound before before
  sound_nothing before = record {
    later = record { used = λ n h. h; fine = λ c h. h };
    fine = λ covered h. h;
    known = λ covered h names fit facts k. k;
  }

  still_covered : (before after : Before) → Later base.records types before after → AreCovered before → AreCovered after
  still_covered before after later h = all_kept (IsCovered before) (IsCovered after) (λ t covered n e. covered n (later.used n e)) base.facts h

  still_fine : (before after : Before) → Later base.records types before after → (visible : List Labelled) → AreFine base.records types before visible → AreFine base.records types after visible
  still_fine before after later visible h = all_kept (λ e. Fine before e.cited) (λ e. Fine after e.cited) (λ e f. later.fine e.cited f) visible h

  sound_then : (a b c : Before) → Sound a b → Sound b c → Sound a c
  sound_then a b c p q = record {
    later = later_of_later base.records types a b c p.later q.later;
    fine = λ covered h. q.fine (still_covered a b p.later covered) (p.fine covered h);
    known = λ covered h names fit facts k.
        q.known (still_covered a b p.later covered) (p.fine covered h) names fit facts (p.known covered h names fit facts k);
  }

  claim_fine : (label : ℕ) (t : Tree ℕ) (before : Before) → IsClaim base.records types t → has_symbol before.ended t ≡ false →
      FineClaim base.records types (with_claim label t before) t
  claim_fine label t before claim inside = record {
    claim = claim;
    covered = λ n h. (or_none _ _ h).1;
    inside = λ k over. fresh_by_test before.ended k t over inside;
  }

  with_claim_fine : (label : ℕ) (t : Tree ℕ) (before : Before) → IsClaim base.records types t → has_symbol before.ended t ≡ false →
      AreFine base.records types before before.visible → AreFine base.records types (with_claim label t before) (with_claim label t before).visible
  with_claim_fine label t before claim inside h =
      let after = with_claim label t before in
      all_joined (λ e. Fine after e.cited) before.visible (record { label = label; cited = claimed t } ∷ [])
      (still_fine before after (later-claim base.records types label t before) before.visible h) (claim_fine label t before claim inside, tt)

  sound_line : (before : Before) (label : ℕ) (c : Tree ℕ) (rule : ℕ) (cites : List ℕ) → IsClaim base.records types c →
      LinePasses before c rule (citing before.visible cites) → Sound before (with_claim label c before)
  sound_line before label c rule cites claim passes =
      let after = with_claim label c before in
      record {
        later = later-claim base.records types label c before;
        fine = λ covered h. with_claim_fine label c before claim passes.inside h;
        known = λ covered h names fit facts k.
            all_joined (λ e. Shows base.records names e.cited) before.visible (record { label = label; cited = claimed c } ∷ []) k (
              by_rule names fit before c passes.cited (slice_get rules rule) passes.fit passes.inside passes.closed claim
                  (cited_all (Fine before) before.visible cites passes.cited h passes.is)
                  (cited_all (Shows base.records names) before.visible cites passes.cited k passes.is) h facts k,
              tt,
            );
      }

  -- ---- a block

  -- what is known does not depend on a symbol that is not used
  shows_moved : (before : Before) (names : ℕ → Value) (k : ℕ) (v : Value) → before.used k ≡ false → (c : Cited) → Fine before c →
      Shows base.records names c → Shows base.records (with_value k v names) c
  shows_moved before names k v unused (claimed t) fine h =
      ap truth_of (value_fresh base.records k v names t no_bounds (fine.covered k unused)) ∙ h
  shows_moved before names k v unused (concluded None a None) fine h = tt
  shows_moved before names k v unused (concluded None a (Some c)) fine h = λ given.
      ap truth_of (value_fresh base.records k v names c no_bounds (fine.1.1 k unused)) ∙
      h (ap truth_of (sym (value_fresh base.records k v names a no_bounds (fine.0.covered k unused))) ∙ given)
  shows_moved before names k v unused (concluded (Some j) a None) fine h = tt
  shows_moved before names k v unused (concluded (Some j) a (Some c)) fine h = λ z given.
      ap truth_of (value_fresh_under base.records k v j (number z) names c no_bounds (fine.1.1 k unused)) ∙
      h z (ap truth_of (sym (value_fresh_under base.records k v j (number z) names a no_bounds (fine.0.covered k unused))) ∙ given)

  known_moved : (before : Before) (names : ℕ → Value) (k : ℕ) (v : Value) → before.used k ≡ false → (visible : List Labelled) →
      AreFine base.records types before visible → AllByRecursion (λ e. Shows base.records names e.cited) visible →
      AllByRecursion (λ e. Shows base.records (with_value k v names) e.cited) visible
  known_moved before names k v unused [] fine h = tt
  known_moved before names k v unused (e ∷ es) fine h =
      (shows_moved before names k v unused e.cited fine.0 h.0, known_moved before names k v unused es fine.1 h.1)

  true_moved : (before : Before) (names : ℕ → Value) (k : ℕ) (v : Value) → before.used k ≡ false → (facts : List (Tree ℕ)) →
      AllByRecursion (IsCovered before) facts → AllByRecursion (IsTrue names) facts → AllByRecursion (IsTrue (with_value k v names)) facts
  true_moved before names k v unused [] covered h = tt
  true_moved before names k v unused (f ∷ fs) covered h =
      (ap truth_of (value_fresh base.records k v names f no_bounds (covered.0 k unused)) ∙ h.0, true_moved before names k v unused fs covered.1 h.1)

  number_inj : (s t : ValueType) → Some s ≡ Some t → s ≡ t
  number_inj s t e = cc

  fits_moved : (names : ℕ → Value) (k : ℕ) (z : _) → types k ≡ Some number_type → Fits names → Fits (with_value k (number z) names)
  fits_moved names k z typed fit n t h = at_symbol (eqb n k) refl
    where
      at_symbol : (b : Bool) → eqb n k ≡ b → HasType base.records (cond b (number z) (names n)) t
      at_symbol true e = number_inj t number_type (sym h ∙ ap types (eqb-true n k e) ∙ typed)
      at_symbol false e = fit n t h

  module _ (before : Before) (label : ℕ) (symbol : Option ℕ) (assumed : ℕ) (given : Tree ℕ) (shown : Option (Tree ℕ)) (at_end : Before) where
    abbrev begun : Before
    begun = with_claim assumed given (with_let symbol before)

    abbrev after : Before
    after = with_block label symbol given shown before at_end

    module _ (number_symbol : IsNumberSymbol types symbol) (claim : IsClaim base.records types given) (unused : is_used symbol before ≡ false)
        (inside : has_symbol (with_let symbol before).ended given ≡ false) (body : Sound begun at_end) (last : IsShown shown at_end.visible) where
      let_later : Later base.records types before (with_let symbol before)
      let_later = later-let base.records types symbol before unused

      begun_later : Later base.records types before begun
      begun_later =
          later_of_later base.records types before (with_let symbol before) begun let_later (later-claim base.records types assumed given (with_let symbol before))

      end_later : Later base.records types before at_end
      end_later = later_of_later base.records types before begun at_end begun_later body.later

      begun_fine : AreFine base.records types before before.visible → AreFine base.records types begun begun.visible
      begun_fine h = with_claim_fine assumed given (with_let symbol before) claim inside (still_fine before (with_let symbol before) let_later before.visible h)

      end_fine : AreCovered before → AreFine base.records types before before.visible → AreFine base.records types at_end at_end.visible
      end_fine covered h = body.fine (still_covered before begun begun_later covered) (begun_fine h)

      shown_fine : (s : Option (Tree ℕ)) → IsShown s at_end.visible → AreFine base.records types at_end at_end.visible → IsFineShown base.records types after s
      shown_fine None w h = tt
      shown_fine (Some t) w h = let f = among (Fine at_end) t at_end.visible h w in (f.claim, f.covered)

      block_ended : (s : Option ℕ) → symbol ≡ s → HasEnded after s given
      block_ended None e = tt
      block_ended (Some k) e = inr (or_right _ _ (subst (λ s. is_symbol s k ≡ true) (sym e) (symbol_itself k)))

      block_fine : AreCovered before → AreFine base.records types before before.visible → Fine after (concluded symbol given shown)
      block_fine covered h = (
        record { number = number_symbol; claim = claim; covered = λ n e. (or_none _ _ (body.later.used n e)).1; ended = block_ended symbol refl },
        shown_fine shown last (end_fine covered h),
      )

      -- what is known at the end, from the assumption
      at_the_end : (names : ℕ → Value) → Fits names → AreTrue names → AreCovered before → AreFine base.records types before before.visible →
          AreKnown before names → IsTrue names given → AreKnown at_end names
      at_the_end names fit facts covered h known there =
          body.known (still_covered before begun begun_later covered) (begun_fine h) names fit facts
          (all_joined (λ e. Shows base.records names e.cited) before.visible (record { label = assumed; cited = claimed given } ∷ []) known (there, tt))

      block_shows : (s : Option ℕ) (o : Option (Tree ℕ)) → symbol ≡ s → IsShown o at_end.visible → (names : ℕ → Value) → Fits names → AreTrue names →
          AreCovered before → AreFine base.records types before before.visible → AreKnown before names → Shows base.records names (concluded s given o)
      block_shows None None e w names fit facts covered h known = tt
      block_shows None (Some t) e w names fit facts covered h known = λ there.
          among (Shows base.records names) t at_end.visible (at_the_end names fit facts covered h known there) w
      block_shows (Some k) None e w names fit facts covered h known = tt
      block_shows (Some k) (Some t) e w names fit facts covered h known = λ z there.
          let free : before.used k ≡ false = subst (λ s. is_used s before ≡ false) e unused in
          let typed : types k ≡ Some number_type = subst (IsNumberSymbol types) e number_symbol in
          let others = with_value k (number z) names in
          among (Shows base.records others) t at_end.visible
          (at_the_end others (fits_moved names k z typed fit) (true_moved before names k (number z) free base.facts covered facts) covered h
          (known_moved before names k (number z) free before.visible h known) there) w

      sound_block : Sound before after
      sound_block =
          let later = later-block base.records types symbol before unused label given shown at_end end_later in
          record {
            later = later;
            fine = λ covered h.
                all_joined (λ e. Fine after e.cited) before.visible (record { label = label; cited = concluded symbol given shown } ∷ [])
                (still_fine before after later before.visible h) (block_fine covered h, tt);
            known = λ covered h names fit facts known.
                all_joined (λ e. Shows base.records names e.cited) before.visible (record { label = label; cited = concluded symbol given shown } ∷ []) known
                (block_shows symbol shown refl last names fit facts covered h known, tt);
          }

  -- ---- all steps

  record BlockPasses (before : Before) (symbol : Option ℕ) (assumed : ℕ) (given : Tree ℕ) (steps : StepTrees) (label : ℕ) (after : Before) : Type 0 where
    unused : is_used symbol before ≡ false
    inside : has_symbol (with_let symbol before).ended given ≡ false
    at_end : Before
    body : after_steps closes base (with_claim assumed given (with_let symbol before)) steps ≡ passed at_end
    is : with_block label symbol given (conclusion given steps) before at_end ≡ after

  passed_inj : (a b : Before) → passed a ≡ passed b → a ≡ b
  passed_inj a b e = cc

  block_passes : (before : Before) (label : ℕ) (symbol : Option ℕ) (assumed : ℕ) (given : Tree ℕ) (steps : StepTrees) (after : Before) →
      after_step closes base before (block label symbol assumed given steps) ≡ passed after → BlockPasses before symbol assumed given steps label after
  block_passes before label symbol assumed given steps after h =
      let first = not_refused (is_used symbol before) label Symbol _ after h in
      let second = not_refused (has_symbol (with_let symbol before).ended given) assumed Symbol _ after first.1 in
      let third = passed_both (after_steps closes base (with_claim assumed given (with_let symbol before)) steps)
      (λ at_end. passed (with_block label symbol given (conclusion given steps) before at_end)) after second.1 in
      record { unused = first.0; inside = second.0; at_end = third.0; body = third.1; is = passed_inj _ _ third.2 }

  shown_by_step : (before : Before) (s : StepTree) (after : Before) → after_step closes base before s ≡ passed after → IsShown (claim_of s) after.visible
  shown_by_step before (line label claim rule cites) after h =
      let p = no_refusal label (line_refusal closes base before claim rule (citing before.visible cites)) (with_claim label claim before) after h in
      subst (λ a. IsAmong claim a.visible) p.1 (among_last claim label before.visible)
  shown_by_step before (block label symbol assumed given steps) _ h = tt

  shown_by_steps : (before : Before) (steps : StepTrees) (after : Before) (c : Option (Tree ℕ)) → IsShown c before.visible →
      after_steps closes base before steps ≡ passed after → IsShown (last_claim c steps) after.visible
  shown_by_steps before no_steps after c w h = subst (λ a. IsShown c a.visible) (passed_inj before after h) w
  shown_by_steps before (step_then s ss) after c w h =
      let p = passed_both (after_step closes base before s) (λ next. after_steps closes base next ss) after h in
      shown_by_steps p.0 ss after (claim_of s) (shown_by_step before s p.0 p.1) p.2

  mutual
    sound_step : (before : Before) (s : StepTree) (after : Before) → IsSortedStep base.records types s → after_step closes base before s ≡ passed after → Sound before after
    sound_step before (line label claim rule cites) after typed h =
        let p = no_refusal label (line_refusal closes base before claim rule (citing before.visible cites)) (with_claim label claim before) after h in
        subst (Sound before) p.1 (sound_line before label claim rule cites typed (line_passes before claim rule (citing before.visible cites) p.0))
    sound_step before (block label symbol assumed given steps) after typed h =
        let p = block_passes before label symbol assumed given steps after h in
        let begin = with_claim assumed given (with_let symbol before) in
        subst (Sound before) p.is
        (sound_block before label symbol assumed given (conclusion given steps) p.at_end typed.0 typed.1 p.unused p.inside
        (sound_steps begin steps p.at_end typed.2 p.body)
        (shown_by_steps begin steps p.at_end (Some given) (among_last given assumed before.visible) p.body))

    sound_steps : (before : Before) (steps : StepTrees) (after : Before) → AreSortedSteps base.records types steps →
        after_steps closes base before steps ≡ passed after → Sound before after
    sound_steps before no_steps after typed h = subst (Sound before) (passed_inj before after h) (sound_nothing before)
    sound_steps before (step_then s ss) after typed h =
        let p = passed_both (after_step closes base before s) (λ next. after_steps closes base next ss) after h in
        sound_then before p.0 after (sound_step before s p.0 typed.0 p.1) (sound_steps p.0 ss after typed.1 p.2)

  -- ---- the law

  covered_at_start : (facts : List (Tree ℕ)) (used : ℕ → Bool) → ((n : ℕ) → used n ≡ false → list_any (has_symbol (λ m. eqb m n)) facts ≡ false) →
      AllByRecursion (λ t. (n : ℕ) → used n ≡ false → IsFresh n t) facts
  covered_at_start [] used h = tt
  covered_at_start (f ∷ fs) used h = (λ n e. (or_none _ _ (h n e)).0, covered_at_start fs used (λ n e. (or_none _ _ (h n e)).1))

  -- from what is true under all values, each
  each_valid : (claims : List (Tree ℕ)) → ((names : ℕ → Value) → Fits names → AreTrue names → AllByRecursion (IsTrue names) claims) →
      AllByRecursion (λ t. IsValid (record base { goal = t })) claims
  each_valid [] h = tt
  each_valid (t ∷ ts) h = (
    λ names fit facts. (h names fit (recursion_from_All (IsTrue names) base.facts facts)).0,
    each_valid ts (λ names fit facts. (h names fit facts).1),
  )

  accepted_after : (p : Progress) (claims : List (Tree ℕ)) → deduction_of p ≡ accepted claims → (after : Before) × (p ≡ passed after) × (visible_claims after.visible ≡ claims)
  accepted_after (passed after) claims h = (after, refl, cc)
  accepted_after (refused_at label why) claims h = absurd (cc)

  pub accepted_is_valid : (steps : StepTrees) → AreSortedSteps base.records types steps → (claims : List (Tree ℕ)) →
      deduction closes base steps ≡ accepted claims → All (λ t. IsValid (record base { goal = t })) claims
  accepted_is_valid steps typed claims h =
      let p = accepted_after (after_steps closes base (start base.facts) steps) claims h in
      let s = sound_steps (start base.facts) steps p.0 typed p.1 in
      let covered = covered_at_start base.facts (start base.facts).used (λ n e. e) in
      let shown : (names : ℕ → Value) → Fits names → AreTrue names → AllByRecursion (IsTrue names) (visible_claims p.0.visible) =
      λ names fit facts. visible_all (IsTrue names) (Shows base.records names) (λ t x. x) p.0.visible (s.known covered tt names fit facts tt) in
      let all = each_valid (visible_claims p.0.visible) shown in
      subst (All (λ t. IsValid (record base { goal = t }))) p.2 (All-from_recursion (λ t. IsValid (record base { goal = t })) (visible_claims p.0.visible) all)
