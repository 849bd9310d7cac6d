-- Turns that are given in parts.
use Rattle.std.proofs.Common.{◌≡◌, ℕ, ◌+◌, List, [], ◌∷◌, refl, sym, ap, ◌∙◌, subst, arith}
use Rattle.std.specs.List.{sum}
use Rattle.std.proofs.lemmas.List.Sums.{sum_by-cons}
use Rattle.program_trees.specs.Programs.{ProgramTree}
use Rattle.program_trees.specs.Variables.{Variable}
use Rattle.interp.specs.declared.turned.Turned.{Turned}
use Rattle.interp.specs.declared.turned.Turned.TheVariants as t
use Rattle.interp.specs.declared.machine.Machine.{Machine}
use Rattle.interp.specs.Machines.{IsKnown, run_of, value_of}
use Rattle.interp.specs.Advances.{IsTold, IsLast, Advances}
use Rattle.interp.specs.Laws.{AdvancesByParts, AdvancesInParts}

-- all is known, or memory was wanting
known_or : {P : Type 0} (told : Turned) → (IsKnown told → P) → (told ≡ t.NoMemory → P) → P
known_or t.Ended f g = f tt
known_or t.Going f g = f tt
known_or (t.Fails kind node) f g = f tt
known_or (t.Wide node) f g = f tt
known_or (t.Visits node) f g = f tt
known_or t.NoMemory f g = g refl

module _ (program : ProgramTree Variable) (a b : ℕ) (first second third : Machine) (early late : Turned)
    (h : Advances program a first second early) (k : Advances program b second third late) where
  -- want of memory stays
  same : early ≡ t.NoMemory → late ≡ t.NoMemory
  same none =
      sym k.told ∙ ap (λ (m : Machine). m.told) (k.stays (subst IsLast (sym (h.told ∙ none)) tt)) ∙ h.told ∙ none

  both_tell : IsTold late (value_of third) (run_of program first (a + b))
  both_tell =
      known_or early
      (λ known. subst (IsTold late (value_of third)) (sym (h.goes_on known b)) k.tells)
      (λ none. subst (λ (told : Turned). IsTold told (value_of third) (run_of program first (a + b))) (sym (same none)) tt)

  both_go_on : IsKnown late → (n : ℕ) → run_of program first (a + b + n) ≡ run_of program third n
  both_go_on last n =
      let sum_is : a + b + n ≡ a + (b + n) = omega arith in
      known_or early
      (λ known. ap (run_of program first) sum_is ∙ h.goes_on known (b + n) ∙ k.goes_on last n)
      (λ none. absurd (subst IsKnown (same none) last))

  pub both_advance : Advances program (a + b) first third late
  both_advance = record {
    tells = both_tell;
    goes_on = both_go_on;
    told = k.told;
    stays = λ last. k.stays (subst (λ (m : Machine). IsLast m.told) (sym (h.stays last)) last) ∙ h.stays last;
  }

pub advances_in_parts : AdvancesInParts
advances_in_parts program first [] old new answer h =
    let sum_is : first ≡ sum (first ∷ []) = omega (arith, sum_by-cons (λ (x : ℕ). x) first []) in
    subst (λ (n : ℕ). Advances program n old new answer) sum_is h
advances_in_parts program first (second ∷ parts) old new answer h =
    subst (λ (n : ℕ). Advances program n old new answer) (sym (sum_by-cons (λ (x : ℕ). x) first (second ∷ parts)))
    (both_advance program first (sum (second ∷ parts)) old h.0 new h.1 answer h.2 (advances_in_parts program second parts h.0 new answer h.3))
