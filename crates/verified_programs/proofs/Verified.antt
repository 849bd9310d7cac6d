-- The legs of a verified method of a typed program pass.
use Rattle.std.proofs.Common.{◌≡◌, ℕ, suc, Bool, true, false, cond, List, [], ◌∷◌, ◌++◌, length, refl, sym, subst, ⊎_elim}
use Rattle.std.specs.Prelude.{◌&&◌}
use Rattle.std.specs.List.{flat_map, range_with_len}
use Rattle.std.proofs.lemmas.Bool.{cases_lt}
use Rattle.std.proofs.lemmas.List.{get_or_past}
use Rattle.program_trees.specs.Programs.{claim_of, GlobalTree, ProgramTree}
use Rattle.program_trees.specs.Variables.{Variable, global, entry, same_variable}
use Rattle.program_trees.specs.Legs.{set}
use Rattle.run_rules.specs.Runs.{no_method, method_at}
use Rattle.leg_rules.specs.LegNames.{own}
use Rattle.leg_rules.specs.Legs.{Items, at_node, own_claim, entries_named, entry_items, fixed_items}
use Rattle.leg_rules.specs.Mentions.{some_mention}
use Rattle.leg_rules.specs.Answers.{verified}
use Rattle.leg_soundness.specs.Passing.{begins, Passes, leg_types, AtEnd, LegsPass}
use Rattle.typed_programs.specs.WellTyped.{IsTypedProgram}
use Rattle.typed_soundness.proofs.Methods.{typed_safe}
use Rattle.method_legs.proofs.Legs.{legs_typed}
use Rattle.answer_laws.proofs.Verdicts.{verified_passes}
use Rattle.verdict_laws.specs.Rules.{unclosed, unaccepted, verdict_by_rules}
use Rattle.verdict_laws.proofs.Rules.{closes_only_valid, accepts_only_valid}
use Rattle.verified_programs.specs.Laws.{VerifiedProgramsAreSafe}

module _ (program : ProgramTree Variable) where
  -- Nothing is mentioned where there are no items.
  nothing_first : (b : Bool) (item rest : Items) → rest ≡ [] → cond (b && false) item [] ++ rest ≡ []
  nothing_first true item rest h = h
  nothing_first false item rest h = h

  nothing_fixed : (number : ℕ) (globals : List (GlobalTree Variable)) → fixed_items program no_method [] number globals ≡ []
  nothing_fixed number [] = refl
  nothing_fixed number (g ∷ globals) =
      nothing_first g.fixed (at_node no_method.node (set (own (global number)) (own_claim (claim_of g.initial))) ∷ [])
      (fixed_items program no_method [] (suc number) globals) (nothing_fixed (suc number) globals)

  no_entries : (gs : List ℕ) → flat_map (λ g. cond (some_mention (same_variable (entry g)) []) (g ∷ []) []) gs ≡ []
  no_entries [] = refl
  no_entries (g ∷ gs) = no_entries gs

  -- the items in front of a body whose Ensures name these entry values, where there are no contracts
  abbrev front : List ℕ → Items
  front gs = entry_items no_method.node (λ g. own (entry g)) gs ++ [] ++ []

  nil_append : (items : Items) → items ≡ [] → items ++ [] ≡ []
  nil_append items e = subst (λ xs. xs ++ [] ≡ []) (sym e) refl

  no_items : (gs : List ℕ) → gs ≡ [] → fixed_items program no_method (front gs) 0 program.globals ++ front gs ≡ []
  no_items gs e =
      subst (λ xs. fixed_items program no_method (front xs) 0 program.globals ++ front xs ≡ []) (sym e)
      (nil_append (fixed_items program no_method [] 0 program.globals) (nothing_fixed 0 program.globals))

  -- What stands for a method that is not there has one leg, without items.
  no_method_passes : LegsPass program no_method
  no_method_passes names fit =
      let empty = no_items (entries_named program []) (no_entries (range_with_len 0 (length program.globals))) in
      (subst (λ items. Passes program.records (leg_types program no_method) items AtEnd (begins names)) (sym empty) tt, tt)

  pub reached_pass : (node_files : List ℕ) (files : ℕ) → IsTypedProgram program node_files files → (number : ℕ)
      → verdict_by_rules program (method_at program number) ≡ verified → LegsPass program (method_at program number)
  reached_pass node_files files typed number is_verified = ⊎_elim
      (λ there. verified_passes unclosed unaccepted closes_only_valid accepts_only_valid program (method_at program number) typed.records
      (legs_typed program node_files files typed number there) is_verified)
      (λ past. subst (LegsPass program) (sym (get_or_past program.methods number no_method past)) no_method_passes)
      (cases_lt number (length program.methods))

-- No run of a method fails where all methods that it reaches are verified.
pub verified_safe : VerifiedProgramsAreSafe
verified_safe program node_files files from typed reached =
    typed_safe program node_files files from typed (λ number leads. reached_pass program node_files files typed number (reached number leads))
