-- A branch has the cases of the branches that it is taken apart into.
use Rattle.std.proofs.Common.{◌≡◌, ℕ, List, [], ◌∷◌, ◌++◌, map, Option, Some, None, refl, sym, ap, ap₂, ◌∙◌, append_assoc}
use Rattle.std.specs.List.{AllByRecursion, flat_map}
use Rattle.std.proofs.lemmas.List.{append-nil, map-append, map-id}
use Rattle.std.proofs.lemmas.List.Elements.{recursion_from_All}
use Rattle.slang_values.specs.Value.{truth_type, Records, AreWellFormed}
use Rattle.slang_values.specs.Tree.{Tree}
use Rattle.slang_values.specs.Typing.{NameTypes, IsTyped}
use Rattle.validity.specs.Validity.{SequentTree, symbol_types, IsClaim, IsWellSorted}
use Rattle.read_rules.specs.Reduced.{reduced}
use Rattle.read_rules.specs.Reads.{negation}
use Rattle.read_rules.proofs.Some.{all_append}
use Rattle.case_rules.specs.Cases.{Alternatives, alternatives, both, all_of, taken_apart, cases_of, hypotheses, cases}
use Rattle.case_steps.specs.Laws.{IsLightClaim}
use Rattle.case_steps.proofs.Steps.{steps_are_lighter, all_weaker}
use Rattle.case_steps.proofs.Enough.{cases_unfold}
use Rattle.case_branches.specs.Branches.{Branch, cases_of_branch, cases_of_branches, branches_of, AreClaims}
use Rattle.case_branches.specs.Laws.{AreTakenApart, BranchLaws}

abbrev Cases : Type 0
Cases = List (List (Tree ℕ))

-- ---- lists of cases

map-map : {X Y Z : Type 0} (g : Y → Z) (f : X → Y) (xs : List X) → map g (map f xs) ≡ map (λ x. g (f x)) xs
map-map g f [] = refl
map-map g f (x ∷ xs) = ap (λ ys. g (f x) ∷ ys) (map-map g f xs)

map-flat : {X Y Z : Type 0} (g : Y → Z) (f : X → List Y) (xs : List X) → map g (flat_map f xs) ≡ flat_map (λ x. map g (f x)) xs
map-flat g f [] = refl
map-flat g f (x ∷ xs) = map-append g (f x) (flat_map f xs) ∙ ap (λ ys. map g (f x) ++ ys) (map-flat g f xs)

flat-append : {X Y : Type 0} (f : X → List Y) (xs ys : List X) → flat_map f (xs ++ ys) ≡ flat_map f xs ++ flat_map f ys
flat-append f [] ys = refl
flat-append f (x ∷ xs) ys = ap (λ zs. f x ++ zs) (flat-append f xs ys) ∙ sym (append_assoc (f x) (flat_map f xs) (flat_map f ys))

flat-flat : {X Y Z : Type 0} (g : Y → List Z) (f : X → List Y) (xs : List X) → flat_map g (flat_map f xs) ≡ flat_map (λ x. flat_map g (f x)) xs
flat-flat g f [] = refl
flat-flat g f (x ∷ xs) = flat-append g (f x) (flat_map f xs) ∙ ap (λ ys. flat_map g (f x) ++ ys) (flat-flat g f xs)

flat-map : {X Y Z : Type 0} (g : Y → List Z) (f : X → Y) (xs : List X) → flat_map g (map f xs) ≡ flat_map (λ x. g (f x)) xs
flat-map g f [] = refl
flat-map g f (x ∷ xs) = ap (λ ys. g (f x) ++ ys) (flat-map g f xs)

same-flat : {X Y : Type 0} (f g : X → List Y) (xs : List X) → ((x : X) → f x ≡ g x) → flat_map f xs ≡ flat_map g xs
same-flat f g [] h = refl
same-flat f g (x ∷ xs) h = ap₂ (λ a b. a ++ b) (h x) (same-flat f g xs h)

same-map : {X Y : Type 0} (f g : X → Y) (xs : List X) → ((x : X) → f x ≡ g x) → map f xs ≡ map g xs
same-map f g [] h = refl
same-map f g (x ∷ xs) h = ap₂ (λ a b. a ∷ b) (h x) (same-map f g xs h)

-- ---- each with each

both-nil : (ds : Cases) → both ([] ∷ []) ds ≡ ds
both-nil ds = append-nil (map (λ d. [] ++ d) ds) ∙ map-id ds

both-one : (t : Tree ℕ) (ds : Cases) → both ((t ∷ []) ∷ []) ds ≡ map (λ d. t ∷ d) ds
both-one t ds = append-nil (map (λ d. (t ∷ []) ++ d) ds)

both-both : (cs ds es : Cases) → both (both cs ds) es ≡ both cs (both ds es)
both-both cs ds es =
    flat-flat (λ c. map (λ e. c ++ e) es) (λ c. map (λ d. c ++ d) ds) cs ∙
    same-flat (λ c. flat_map (λ x. map (λ e. x ++ e) es) (map (λ d. c ++ d) ds)) (λ c. map (λ x. c ++ x) (both ds es)) cs
    (λ c. flat-map (λ x. map (λ e. x ++ e) es) (λ d. c ++ d) ds ∙
    same-flat (λ d. map (λ e. (c ++ d) ++ e) es) (λ d. map (λ x. c ++ x) (map (λ e. d ++ e) es)) ds
    (λ d. same-map (λ e. (c ++ d) ++ e) (λ e. c ++ (d ++ e)) es (λ e. append_assoc c d e) ∙ sym (map-map (λ x. c ++ x) (λ e. d ++ e) es)) ∙
    sym (map-flat (λ x. c ++ x) (λ d. map (λ e. d ++ e) es) ds))

flat-both : {X : Type 0} (f : X → Cases) (xs : List X) (es : Cases) → both (flat_map f xs) es ≡ flat_map (λ x. both (f x) es) xs
flat-both f xs es = flat-flat (λ c. map (λ e. c ++ e) es) f xs

module _ (f : Tree ℕ → Cases) where
  all-append : (ts us : List (Tree ℕ)) → both (all_of f ts) (all_of f us) ≡ all_of f (ts ++ us)
  all-append [] us = both-nil (all_of f us)
  all-append (t ∷ ts) us = both-both (f t) (all_of f ts) (all_of f us) ∙ ap (both (f t)) (all-append ts us)

  -- the alternatives of the first formula, each in front of the others
  all-apart : (t : Tree ℕ) (us : List (Tree ℕ)) (as' : Alternatives) → f t ≡ flat_map (all_of f) as' → all_of f (t ∷ us) ≡ flat_map (λ ts. all_of f (ts ++ us)) as'
  all-apart t us as' e =
      ap (λ cs. both cs (all_of f us)) e ∙ flat-both (all_of f) as' (all_of f us) ∙
      same-flat (λ ts. both (all_of f ts) (all_of f us)) (λ ts. all_of f (ts ++ us)) as' (λ ts. all-append ts us)

-- ---- branches

module _ (records : Records) (fine : AreWellFormed records) (types : NameTypes ℕ) where
  unfolded : (t : Tree ℕ) (o : Option Alternatives) → IsTyped records types t truth_type → alternatives records types (reduced t) ≡ o → cases_of records types t ≡ taken_apart (cases_of records types) (reduced t) o
  unfolded t o h e = cases_unfold records fine types t h ∙ ap (taken_apart (cases_of records types) (reduced t)) e

  literal : (ls ts : List (Tree ℕ)) (t : Tree ℕ) → IsTyped records types t truth_type → alternatives records types (reduced t) ≡ None →
      cases_of_branch records types (record { literals = ls; formulas = t ∷ ts }) ≡ cases_of_branch records types (record { literals = ls ++ reduced t ∷ []; formulas = ts })
  literal ls ts t h e =
      let rest = all_of (cases_of records types) ts in
      ap (λ cs. map (λ c. ls ++ c) (both cs rest)) (unfolded t None h e) ∙
      ap (map (λ c. ls ++ c)) (both-one (reduced t) rest) ∙
      map-map (λ c. ls ++ c) (λ d. reduced t ∷ d) rest ∙
      same-map (λ d. ls ++ (reduced t ∷ d)) (λ d. (ls ++ reduced t ∷ []) ++ d) rest (λ d. sym (append_assoc ls (reduced t ∷ []) d))

  split : (ls ts : List (Tree ℕ)) (t : Tree ℕ) (as' : Alternatives) → IsTyped records types t truth_type → alternatives records types (reduced t) ≡ Some as' →
      cases_of_branch records types (record { literals = ls; formulas = t ∷ ts }) ≡ cases_of_branches records types (branches_of ls ts as')
  split ls ts t as' h e =
      ap (map (λ c. ls ++ c)) (all-apart (cases_of records types) t ts as' (unfolded t (Some as') h e)) ∙
      map-flat (λ c. ls ++ c) (λ us. all_of (cases_of records types) (us ++ ts)) as' ∙
      sym (flat-map (cases_of_branch records types) (λ us. record { literals = ls; formulas = us ++ ts }) as')

  claims : (t : Tree ℕ) (as' : Alternatives) → IsTyped records types t truth_type → alternatives records types (reduced t) ≡ Some as' → AllByRecursion (AreClaims records types) as'
  claims t as' h e =
      all_weaker (AllByRecursion (IsLightClaim records types _)) (AreClaims records types)
      (λ ts k. all_weaker (IsLightClaim records types _) (λ u. IsTyped records types u truth_type) (λ u c. c.typed) ts k) as' (steps_are_lighter records fine types t as' h e)

  pub taken_apart_laws : AreTakenApart records types
  taken_apart_laws = record { literal = literal; split = split; claims = claims }

hypotheses_claims : (s : SequentTree) → IsWellSorted s → AreClaims s.records (symbol_types s) (hypotheses s)
hypotheses_claims s h =
    all_append (λ t. IsTyped s.records (symbol_types s) t truth_type) s.facts (negation s.goal ∷ [])
    (all_weaker (IsClaim s.records (symbol_types s)) (λ t. IsTyped s.records (symbol_types s) t truth_type) (λ t c. c.typed) s.facts (recursion_from_All (IsClaim s.records (symbol_types s)) s.facts h.facts))
    ((refl, h.goal.typed), tt)

pub branch_laws : BranchLaws
branch_laws = record {
  apart = λ records fine types. taken_apart_laws records fine types;
  leaf = λ records types ls. ap (λ c. c ∷ []) (append-nil ls);
  whole = λ s. map-id (cases s);
  hypotheses_are_claims = hypotheses_claims;
}
