-- Keys that are added one after the other.
use Rattle.std.proofs.Common.{◌≡◌, ℕ, ◌+◌, ◌<◌, ◌≤◌, Bool, true, false, cond, List, [], ◌∷◌, ◌++◌, map, take, length, get_or}
use Rattle.std.proofs.Common.{sym, ap, ◌∙◌, subst, arith, append_assoc, append-nil}
use Rattle.std.specs.Prelude.{nat_lt}
use Rattle.std.specs.List.{AllByRecursion, flat_map}
use Rattle.std.proofs.lemmas.Grind.{flat_map-append}
use Rattle.std.proofs.lemmas.List.{map-append, map_more, take_all, take_more, length-map}
use Rattle.std.proofs.lemmas.List.Elements.{All-from_recursion}
use Rattle.program_trees.specs.Programs.{MethodTree, ProgramTree, renamed_method}
use Rattle.program_trees.specs.Variables.{Variable, variable_of}
use Rattle.program_trees.specs.Legs.{LegTree}
use Rattle.run_rules.specs.Runs.{no_method}
use Rattle.leg_rules.specs.Legs.{leg_count, legs}
use Rattle.leg_rules.specs.Answers.{leg_limit}
use Rattle.leg_rules.specs.Numbering.{leg_tree as numbered_leg}
use Rattle.leg_rules.proofs.Counts.{legs_counted}
use Rattle.leg_forms.specs.WellFormed.{IsWellFormedLeg}
use Rattle.key_rules.specs.Fits.{FitsLeg}
use Rattle.key_rules.specs.Writing.{encode}
use Rattle.lk_programs.specs.declared.leg.Legs.{Legs as LegsData}
use Rattle.lk_programs.specs.declared.leg.Leg.{Leg}
use Rattle.lk_programs.specs.declared.typed.Typed.{Typed}
use Rattle.lk_programs.specs.LegData.{leg_tree}
use Rattle.lk_programs.specs.Program.{method_tree}
use Rattle.lk_programs.specs.Typed.{program_tree}
use Rattle.leg_orders.specs.Places.{program_of, method_of}
use Rattle.legs.specs.Legs.{AreLegs, legs_at}
use Rattle.program_keys.specs.Keys.{method_legs, program_legs, HasKey, AreAdded, AreKeysOf}

all_append : {A : Type 0} (P : A → Type 0) (xs ys : List A) → AllByRecursion P xs → AllByRecursion P ys → AllByRecursion P (xs ++ ys)
all_append P [] ys h k = k
all_append P (x ∷ xs) ys h k = (h.0, all_append P xs ys h.1 k)

-- ---- adding

pub none_added : (keys : List (List ℕ)) → AreAdded [] keys keys
none_added keys = record { written = sym (append-nil keys); have_keys = tt }

pub one_added : (leg : LegTree) (key : List ℕ) (old new : List (List ℕ)) → IsWellFormedLeg leg → FitsLeg leg → key ≡ encode leg → new ≡ old ++ key ∷ []
    → AreAdded (leg ∷ []) old new
one_added leg key old new formed fits is more = record { written = more ∙ ap (λ k. old ++ k ∷ []) is; have_keys = ((formed, fits), tt) }

pub then_added : (first then : List LegTree) (old middle new : List (List ℕ)) → AreAdded first old middle → AreAdded then middle new
    → AreAdded (first ++ then) old new
then_added first then old middle new h k = record {
  written = k.written ∙ ap (λ keys. keys ++ map encode then) h.written ∙ append_assoc old (map encode first) (map encode then)
      ∙ ap (λ keys. old ++ keys) (sym (map-append encode first then));
  have_keys = all_append HasKey first then h.have_keys k.have_keys;
}

pub keys_of : (legs : List LegTree) (keys : List (List ℕ)) → AreAdded legs [] keys → AreKeysOf legs keys
keys_of legs keys h = record { written = h.written; have_keys = h.have_keys }

-- the leg at a place is well formed
pub formed_at : (legs : List Leg) (i : ℕ) (leg : Leg) → AllByRecursion (λ l. IsWellFormedLeg (leg_tree l)) legs → i < length legs → leg ≡ get_or legs i leg
    → IsWellFormedLeg (leg_tree leg)
formed_at legs i leg h inside is =
    subst (λ l. IsWellFormedLeg (leg_tree l)) (sym is) (All-from_recursion (λ l. IsWellFormedLeg (leg_tree l)) legs h i leg inside)

-- one leg more
pub leg_added : (all : List Leg) (i : ℕ) (leg : Leg) (old middle new : List (List ℕ)) → i < length all → leg ≡ get_or all i leg
    → AreAdded (map leg_tree (take i all)) old middle → AreAdded (leg_tree leg ∷ []) middle new → AreAdded (map leg_tree (take (i + 1) all)) old new
leg_added all i leg old middle new inside is h k =
    subst (λ ls. AreAdded ls old new)
    (ap (λ l. map leg_tree (take i all) ++ leg_tree l ∷ []) is ∙ sym (map_more leg_tree all i leg inside))
    (then_added (map leg_tree (take i all)) (leg_tree leg ∷ []) old middle new h k)

pub legs_added : (all : List Leg) (i : ℕ) (old new : List (List ℕ)) → length all ≤ i → AreAdded (map leg_tree (take i all)) old new
    → AreAdded (map leg_tree all) old new
legs_added all i old new h k = subst (λ ls. AreAdded (map leg_tree ls) old new) (take_all i all h) k

-- ---- the legs of a method

not_past : (m n : ℕ) → n ≤ m → nat_lt m n ≡ false
not_past m n h = grind (arith, h)

past : (m n : ℕ) → m < n → nat_lt m n ≡ true
past m n h = grind (arith, h)

module _ (typed : Typed) (number : ℕ) where
  abbrev numbered : List LegTree
  numbered = map (numbered_leg (program_of typed) (method_of typed number)) (legs_at typed number)

  by_count : (b : Bool) → nat_lt leg_limit (leg_count (method_of typed number)) ≡ b
      → method_legs (program_of typed) (method_of typed number) ≡ cond b [] numbered
  by_count b e = ap (λ c. cond c [] numbered) e

  counted : length (legs_at typed number) ≡ leg_count (method_of typed number)
  counted = legs_counted (program_of typed) (method_of typed number)

  pub many_legs : 256 < length (legs_at typed number) → method_legs (program_of typed) (method_of typed number) ≡ []
  many_legs h = by_count true (past 256 (leg_count (method_of typed number)) (omega (arith, h, counted)))

  pub few_legs : (told : LegsData) → AreLegs typed number told → map leg_tree told.legs ≡ method_legs (program_of typed) (method_of typed number)
  few_legs told are =
      are.all.numbered_legs ∙ sym (by_count false (not_past 256 (leg_count (method_of typed number)) (omega (arith, are.few, counted))))

-- ---- the methods of a program

pub methods_counted : (typed : Typed) → length (program_of typed).methods ≡ length typed.methods
methods_counted typed =
    length-map (map method_tree typed.methods) (λ t. renamed_method (variable_of (length t.locals) (length (program_tree typed).globals)) t)
    ∙ length-map typed.methods method_tree

module _ (program : ProgramTree Variable) where
  pub method_added : (number : ℕ) (method : MethodTree Variable) (old middle new : List (List ℕ)) → number < length program.methods
      → method ≡ get_or program.methods number no_method → AreAdded (flat_map (method_legs program) (take number program.methods)) old middle
      → AreAdded (method_legs program method) middle new → AreAdded (flat_map (method_legs program) (take (number + 1) program.methods)) old new
  method_added number method old middle new inside is h k =
      let ms = program.methods in
      subst (λ ls. AreAdded ls old new)
      (ap (λ m. flat_map (method_legs program) (take number ms) ++ method_legs program m) is
      ∙ ap (λ l. flat_map (method_legs program) (take number ms) ++ l) (sym (append-nil (method_legs program (get_or ms number no_method))))
      ∙ sym (flat_map-append (method_legs program) (take number ms) (get_or ms number no_method ∷ []))
      ∙ ap (flat_map (method_legs program)) (sym (take_more ms number no_method inside)))
      (then_added (flat_map (method_legs program) (take number ms)) (method_legs program method) old middle new h k)

  pub methods_added : (number : ℕ) (old new : List (List ℕ)) → length program.methods ≤ number
      → AreAdded (flat_map (method_legs program) (take number program.methods)) old new → AreAdded (program_legs program) old new
  methods_added number old new h k = subst (λ ms. AreAdded (flat_map (method_legs program) ms) old new) (take_all number program.methods h) k
