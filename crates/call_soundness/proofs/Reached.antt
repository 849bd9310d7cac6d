-- The methods that calls lead to: what they call is led to as well.
use Rattle.std.proofs.Common.{◌≡◌, ℕ, true, List, [], ◌∷◌, ◌++◌, sym, subst}
use Rattle.std.specs.Prelude.{nat_eq}
use Rattle.std.specs.List.{AllByRecursion}
use Rattle.std.specs.Set.{is_member}
use Rattle.std.proofs.lemmas.Bool.{and_parts, and_from, or_left, or_right}
use Rattle.std.proofs.lemmas.Bool.Decides.{Decides-eqb}
use Rattle.std.proofs.lemmas.Cmp.{nat_eq_equiv}
use Rattle.slang_values.specs.Value.{AreWellFormed}
use Rattle.program_trees.specs.Programs.{ProgramTree}
use Rattle.program_trees.specs.Variables.{Variable}
use Rattle.run_rules.specs.Runs.{method_at, IsSafe}
use Rattle.run_rules.specs.Reach.{calls_of_all, leads, Reaches}
use Rattle.leg_soundness.specs.Passing.{ReachedLegsPass}
use Rattle.leg_soundness.specs.Scopes.{IsInOrderMethod, AreConstants}
use Rattle.call_soundness.proofs.Safety.{method_safe}

module _ (program : ProgramTree Variable) where
  abbrev Calls : ℕ → ℕ → Type 0
  Calls number called = is_member nat_eq (calls_of_all (method_at program number).body) called ≡ true

  leads_on : (number : ℕ) (path : List ℕ) (to called : ℕ) → leads program number path to ≡ true → Calls to called
      → leads program number (path ++ called ∷ []) called ≡ true
  leads_on number [] to called h calls =
      and_from (is_member nat_eq (calls_of_all (method_at program number).body) called) (nat_eq called called)
      (subst (λ n. Calls n called) (sym ((Decides-eqb number to).0 h)) calls) (nat_eq_equiv.refl called)
  leads_on number (next ∷ path) to called h calls =
      let first = is_member nat_eq (calls_of_all (method_at program number).body) next in
      let parts = and_parts first (leads program next path to) h in
      and_from first (leads program next (path ++ called ∷ []) called) parts.0 (leads_on next path to called parts.1 calls)

  reaches_on : (from to called : ℕ) → Reaches program from to → Calls to called → Reaches program from called
  reaches_on from to called reach calls = (reach.0 ++ called ∷ [], leads_on from reach.0 to called reach.1 calls)

  reached_calls : (from to : ℕ) → Reaches program from to → (called : List ℕ) → ((n : ℕ) → is_member nat_eq called n ≡ true → Calls to n)
      → AllByRecursion (Reaches program from) called
  reached_calls from to reach [] each = tt
  reached_calls from to reach (n ∷ called) each = (
    reaches_on from to n reach (each n (or_left (nat_eq n n) (is_member nat_eq called n) (nat_eq_equiv.refl n))),
    reached_calls from to reach called (λ m is. each m (or_right (nat_eq m n) (is_member nat_eq called m) is)),
  )

  -- no run of a method fails where the legs of all methods pass that it reaches
  pub reached_safe : (from : ℕ) → AreWellFormed program.records → AreConstants program
      → ((number : ℕ) → Reaches program from number → IsInOrderMethod program (method_at program number)) → ReachedLegsPass program from
      → IsSafe program (method_at program from)
  reached_safe from formed constant order pass =
      method_safe program formed constant (Reaches program from)
      (λ number reach. record {
        order = order number reach;
        pass = pass number reach;
        called = reached_calls from number reach (calls_of_all (method_at program number).body) (λ n is. is);
      })
      from ([], nat_eq_equiv.refl from)
