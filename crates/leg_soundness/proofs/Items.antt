-- What is left of legs behind their first items.
use Rattle.std.proofs.Common.{List, [], ◌∷◌, ◌++◌}
use Rattle.std.specs.List.{AllByRecursion}
use Rattle.slang_values.specs.Value.{Records}
use Rattle.slang_values.specs.Typing.{NameTypes}
use Rattle.program_trees.specs.declared.answer.Kind.{Kind}
use Rattle.program_trees.specs.Claims.{NotedTree}
use Rattle.program_trees.specs.Programs.{CodeTree, set as set_code, give, assert, deduce, branch, loop, call, CodeTrees, no_code, code_then, MethodTree, ProgramTree}
use Rattle.program_trees.specs.Variables.{Variable, result}
use Rattle.program_trees.specs.Legs.{ItemTree, assume, check, set, fresh, proof}
use Rattle.leg_rules.specs.LegNames.{LegName}
use Rattle.leg_rules.specs.Checks.{Demand}
use Rattle.leg_rules.specs.Legs.{Items, assumed, checked, own_claim, demanded, set_items, assert_items, deduce_items, test_items, on_true_items, loop_items, call_items, in_front, legs_of, legs_of_code}
use Rattle.leg_soundness.specs.Passing.{LegValues, IsTrueAt, PassesItem, Passes, leg_types, AtEnd, AllPass}

module _ (records : Records) (types : NameTypes LegName) where
  item_map : (P Q : LegValues → Type 0) → ((s : LegValues) → P s → Q s) → (item : ItemTree LegName) (s : LegValues) → PassesItem records types item P s
      → PassesItem records types item Q s
  item_map P Q f (assume claim) s h = λ holds. f s (h holds)
  item_map P Q f (check kind claim) s h = (h.0, f s h.1)
  item_map P Q f (set x claim) s h = f _ h
  item_map P Q f (fresh xs) s h = λ new fit. f _ (h new fit)
  item_map P Q f (proof steps) s h = (h.0, f s h.1)

  pub passes_map : (P Q : LegValues → Type 0) → ((s : LegValues) → P s → Q s) → (items : Items) (s : LegValues) → Passes records types items P s
      → Passes records types items Q s
  passes_map P Q f [] s h = f s h
  passes_map P Q f (noted ∷ items) s h =
      item_map (Passes records types items P) (Passes records types items Q) (λ t. passes_map P Q f items t) noted.item s h

  pub passes_append : (items more : Items) (End : LegValues → Type 0) (s : LegValues) → Passes records types (items ++ more) End s
      → Passes records types items (Passes records types more End) s
  passes_append [] more End s h = h
  passes_append (noted ∷ items) more End s h =
      item_map (Passes records types (items ++ more) End) (Passes records types items (Passes records types more End))
      (λ t. passes_append items more End t) noted.item s h

  item_both : (P Q : LegValues → Type 0) (item : ItemTree LegName) (s : LegValues) → PassesItem records types item P s → PassesItem records types item Q s
      → PassesItem records types item (λ t. P t × Q t) s
  item_both P Q (assume claim) s h k = λ holds. (h holds, k holds)
  item_both P Q (check kind claim) s h k = (h.0, (h.1, k.1))
  item_both P Q (set x claim) s h k = (h, k)
  item_both P Q (fresh xs) s h k = λ new fit. (h new fit, k new fit)
  item_both P Q (proof steps) s h k = (h.0, (h.1, k.1))

  pub passes_both : (P Q : LegValues → Type 0) (items : Items) (s : LegValues) → Passes records types items P s → Passes records types items Q s
      → Passes records types items (λ t. P t × Q t) s
  passes_both P Q [] s h k = (h, k)
  passes_both P Q (noted ∷ items) s h k =
      item_map (λ t. Passes records types items P t × Passes records types items Q t) (Passes records types items (λ t. P t × Q t))
      (λ t both. passes_both P Q items t both.0 both.1) noted.item s
      (item_both (Passes records types items P) (Passes records types items Q) noted.item s h k)

  pub after_demanded : (ds : List (Demand Variable)) (End : LegValues → Type 0) (s : LegValues) → Passes records types (demanded ds) End s
      → AllByRecursion (λ d. IsTrueAt records s (own_claim d.claim)) ds × End s
  after_demanded [] End s h = (tt, h)
  after_demanded (d ∷ ds) End s h =
      let rest = after_demanded ds End s h.1 in
      ((h.0, rest.0), rest.1)

  pub after_checked : (kind : Kind) (claims : List (NotedTree LegName)) (End : LegValues → Type 0) (s : LegValues) → Passes records types
      (checked kind claims) End s
      → AllByRecursion (λ noted. IsTrueAt records s noted.claim) claims × End s
  after_checked kind [] End s h = (tt, h)
  after_checked kind (noted ∷ claims) End s h =
      let rest = after_checked kind claims End s h.1 in
      ((h.0, rest.0), rest.1)

  pub after_assumed : (claims : List (NotedTree LegName)) (End : LegValues → Type 0) (s : LegValues) → Passes records types (assumed claims) End s
      → AllByRecursion (λ noted. IsTrueAt records s noted.claim) claims → End s
  after_assumed [] End s h hold = h
  after_assumed (noted ∷ claims) End s h hold = after_assumed claims End s (h hold.0) hold.1

-- ---- there is a leg, and so all that stands in front of legs is checked

abbrev pub IsSome : List Items → Type 0
IsSome [] = ⊥
IsSome (leg ∷ all) = Unit {0}

some_in_front : (items : Items) (all : List Items) → IsSome all → IsSome (in_front items all)
some_in_front items [] some = some
some_in_front items (leg ∷ all) some = tt

pub some_append : (a b : List Items) → IsSome a → IsSome (a ++ b)
some_append [] b some = absurd some
some_append (leg ∷ a) b some = tt

module _ (program : ProgramTree Variable) where
  mutual
    some_of : (statement : CodeTree Variable) (following : List Items) → IsSome following → IsSome (legs_of program statement following)
    some_of (set_code node x value) following some = some_in_front (set_items node x value) following some
    some_of (give node value) following some = some_in_front (set_items node result value) following some
    some_of (assert noted) following some = some_in_front (assert_items noted) following some
    some_of (deduce node steps) following some = some_in_front (deduce_items node steps) following some
    some_of (branch node test on_true on_false) following some =
        some_in_front (test_items test) _ (some_append _ _ (some_in_front (on_true_items node test) _ (some_of_code on_true following some)))
    some_of (loop node test modifies invariants body) following some =
        some_in_front (loop_items node test modifies invariants) _ (some_append _ _ (some_in_front (on_true_items node test) _ (some_of_code body _ tt)))
    some_of (call node target name_node number arguments) following some = some_in_front
        (call_items program node target name_node number arguments) following some

    pub some_of_code : (code : CodeTrees Variable) (following : List Items) → IsSome following → IsSome (legs_of_code program code following)
    some_of_code no_code following some = some
    some_of_code (code_then statement code) following some = some_of statement (legs_of_code program code following) (some_of_code code following some)

  module _ (method : MethodTree Variable) where
    through_leg : (items leg : Items) (all : List Items) (s : LegValues) → AllPass program method (in_front items (leg ∷ all)) s
        → Passes program.records (leg_types program method) items (AllPass program method (leg ∷ all)) s
    through_leg items leg [] s h =
        passes_map program.records (leg_types program method) (Passes program.records (leg_types program method) leg AtEnd) (AllPass program method (leg
        ∷ [])) (λ t p. (p, tt)) items s
        (passes_append program.records (leg_types program method) items leg AtEnd s h.0)
    through_leg items leg (next ∷ all) s h =
        passes_both program.records (leg_types program method) (Passes program.records (leg_types program method) leg AtEnd) (AllPass program method (next
        ∷ all)) items s
        (passes_append program.records (leg_types program method) items leg AtEnd s h.0) (through_leg items next all s h.1)

    -- where legs with these items in front pass, the items pass, and then the legs
    pub through : (items : Items) (all : List Items) (s : LegValues) → IsSome all → AllPass program method (in_front items all) s
        → Passes program.records (leg_types program method) items (AllPass program method all) s
    through items [] s some h = absurd some
    through items (leg ∷ all) s some h = through_leg items leg all s h
