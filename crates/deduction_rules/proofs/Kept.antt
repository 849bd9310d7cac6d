-- What is known of all that a step may cite, and that it stays known as steps are passed.
use Rattle.std.proofs.Common.{◌≡◌, ◌⊎◌, ℕ, List, [], ◌∷◌, ◌++◌, Bool, true, false, not, Option, Some, None, inl, inr, refl, ap, subst, ⊎_elim}
use Rattle.std.specs.List.{AllByRecursion}
use Rattle.std.proofs.lemmas.Bool.{false≢true, and_parts, and_from, or_cases, or_left, eqb-true, eq-eqb}
use Rattle.slang_values.specs.Value.{Records}
use Rattle.slang_values.specs.Tree.{Tree}
use Rattle.slang_values.specs.Typing.{NameTypes}
use Rattle.validity.specs.Validity.{IsClaim}
use Rattle.deduction_rules.specs.Step.{IsNumberSymbol, Cited, claimed, concluded}
use Rattle.deduction_rules.specs.Deduction.{Labelled, Before, with_claim, is_symbol, with_let, with_block, is_used}
use Rattle.deduction_rules.proofs.SymbolValues.{IsFresh, or_none}

-- ---- lists

pub all_kept : {X : Type 0} (P Q : X → Type 0) → ((x : X) → P x → Q x) → (xs : List X) → AllByRecursion P xs → AllByRecursion Q xs
all_kept P Q f [] h = tt
all_kept P Q f (x ∷ xs) h = (f x h.0, all_kept P Q f xs h.1)

pub all_joined : {X : Type 0} (P : X → Type 0) (xs ys : List X) → AllByRecursion P xs → AllByRecursion P ys → AllByRecursion P (xs ++ ys)
all_joined P [] ys h k = k
all_joined P (x ∷ xs) ys h k = (h.0, all_joined P xs ys h.1 k)

-- ---- symbols

-- each symbol of the tree is among those used
abbrev pub IsCovered : Before → Tree ℕ → Type 0
IsCovered before t = (n : ℕ) → before.used n ≡ false → IsFresh n t

-- the block of that symbol, if it stands in the assumption, has ended
abbrev pub HasEnded : Before → Option ℕ → Tree ℕ → Type 0
HasEnded before None a = Unit {0}
HasEnded before (Some k) a = IsFresh k a ⊎ (before.ended k ≡ true)

not_used : (before : Before) (symbol : Option ℕ) (n : ℕ) → is_used symbol before ≡ false → is_symbol symbol n ≡ true → before.used n ≡ false
not_used before None n h e = absurd (false≢true e)
not_used before (Some k) n h e = subst (λ m. before.used m ≡ false) (eqb-true k n e) h

pub symbol_itself : (k : ℕ) → is_symbol (Some k) k ≡ true
symbol_itself k = eq-eqb k k refl

module _ (records : Records) (types : NameTypes ℕ) where
  pub record FineClaim (before : Before) (t : Tree ℕ) : Type 0 where
    pub claim : IsClaim records types t
    pub covered : IsCovered before t
    -- no symbol of an ended block stands in it
    pub inside : (k : ℕ) → before.ended k ≡ true → IsFresh k t

  pub record FineBlock (before : Before) (symbol : Option ℕ) (a : Tree ℕ) : Type 0 where
    pub number : IsNumberSymbol types symbol
    pub claim : IsClaim records types a
    pub covered : IsCovered before a
    pub ended : HasEnded before symbol a

  abbrev pub IsFineShown : Before → Option (Tree ℕ) → Type 0
  IsFineShown before None = Unit {0}
  IsFineShown before (Some t) = IsClaim records types t × IsCovered before t

  abbrev pub IsFine : Before → Cited → Type 0
  IsFine before (claimed t) = FineClaim before t
  IsFine before (concluded symbol a shown) = FineBlock before symbol a × IsFineShown before shown

  abbrev pub AreFine : Before → List Labelled → Type 0
  AreFine before visible = AllByRecursion (λ e. IsFine before e.cited) visible

  -- ---- as steps are passed

  pub record Later (before after : Before) : Type 0 where
    pub used : (n : ℕ) → after.used n ≡ false → before.used n ≡ false
    pub fine : (c : Cited) → IsFine before c → IsFine after c

  pub later_of_later : (a b c : Before) → Later a b → Later b c → Later a c
  later_of_later a b c p q = record { used = λ n h. p.used n (q.used n h); fine = λ x h. q.fine x (p.fine x h) }

  -- what is shown stays so where no more symbols are unused
  shown_kept : (before after : Before) → ((n : ℕ) → after.used n ≡ false → before.used n ≡ false) → (shown : Option (Tree ℕ)) → IsFineShown before shown → IsFineShown after shown
  shown_kept before after more None h = tt
  shown_kept before after more (Some t) h = (h.0, λ n e. h.1 n (more n e))

  pub later-claim : (label : ℕ) (t : Tree ℕ) (before : Before) → Later before (with_claim label t before)
  later-claim label t before = record { used = more; fine = fine }
    where
      more : (n : ℕ) → (with_claim label t before).used n ≡ false → before.used n ≡ false
      more n h = (or_none _ _ h).0

      ended : (symbol : Option ℕ) (a : Tree ℕ) → HasEnded before symbol a → HasEnded (with_claim label t before) symbol a
      ended None a h = h
      ended (Some k) a h = h

      fine : (c : Cited) → IsFine before c → IsFine (with_claim label t before) c
      fine (claimed u) h = record { claim = h.claim; covered = λ n e. h.covered n (more n e); inside = h.inside }
      fine (concluded symbol a shown) h = (
        record { number = h.0.number; claim = h.0.claim; covered = λ n e. h.0.covered n (more n e); ended = ended symbol a h.0.ended },
        shown_kept before (with_claim label t before) more shown h.1,
      )

  module _ (symbol : Option ℕ) (before : Before) (unused : is_used symbol before ≡ false) where
    ended-let : (s : Option ℕ) (a : Tree ℕ) → IsCovered before a → HasEnded before s a → HasEnded (with_let symbol before) s a
    ended-let None a covered h = tt
    ended-let (Some k) a covered (inl fresh) = inl fresh
    ended-let (Some k) a covered (inr over) = again (is_symbol symbol k) refl
      where
        again : (b : Bool) → is_symbol symbol k ≡ b → HasEnded (with_let symbol before) (Some k) a
        again true e = inl (covered k (not_used before symbol k unused e))
        again false e = inr (and_from _ _ over (ap not e))

    pub later-let : Later before (with_let symbol before)
    later-let = record { used = λ n h. h; fine = fine }
      where
        fine : (c : Cited) → IsFine before c → IsFine (with_let symbol before) c
        fine (claimed u) h = record { claim = h.claim; covered = h.covered; inside = λ k e. h.inside k ((and_parts _ _ e).0) }
        fine (concluded s a shown) h = (
          record { number = h.0.number; claim = h.0.claim; covered = h.0.covered; ended = ended-let s a h.0.covered h.0.ended },
          shown_kept before (with_let symbol before) (λ n e. e) shown h.1,
        )

    module _ (label : ℕ) (given : Tree ℕ) (shown : Option (Tree ℕ)) (at_end : Before) (later : Later before at_end) where
      abbrev after : Before
      after = with_block label symbol given shown before at_end

      ended-block : (s : Option ℕ) (a : Tree ℕ) → HasEnded at_end s a → HasEnded after s a
      ended-block None a h = tt
      ended-block (Some k) a (inl fresh) = inl fresh
      ended-block (Some k) a (inr over) = inr (or_left _ _ over)

      pub later-block : Later before after
      later-block = record { used = later.used; fine = fine }
        where
          outside : (u : Tree ℕ) → FineClaim before u → FineClaim at_end u → (k : ℕ) → after.ended k ≡ true → IsFresh k u
          outside u old new k e = ⊎_elim (λ over. new.inside k over) (λ it. old.covered k (not_used before symbol k unused it)) (or_cases _ _ e)

          fine : (c : Cited) → IsFine before c → IsFine after c
          fine (claimed u) h =
              let new = later.fine (claimed u) h in
              record { claim = new.claim; covered = new.covered; inside = outside u h new }
          fine (concluded s a x) h =
              let new = later.fine (concluded s a x) h in (
                record { number = new.0.number; claim = new.0.claim; covered = new.0.covered; ended = ended-block s a new.0.ended },
                shown_kept at_end after (λ n e. e) x new.1,
              )
