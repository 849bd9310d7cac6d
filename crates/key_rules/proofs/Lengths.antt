-- A key is at least as long as its leg is deep, since each part has a byte of its own.
use Rattle.std.proofs.Common.{◌≡◌, ℕ, ◌+◌, ◌≤◌, List, [], ◌∷◌, ◌++◌, length, length-append, ap, ◌∙◌, arith}
use Rattle.std.specs.List.{AllByRecursion, flat_map}
use Rattle.std.proofs.lemmas.List.Concat.{flat_map-cons}
use Rattle.slang_values.specs.Value.{ValueType, unit_type, number_type, truth_type, sequence_type, record_type}
use Rattle.slang_values.specs.Tree.{literal, truth_literal, name, bound, unary, binary, update, quantified, listed, sequence_of, record_of, Trees, no_trees, tree_then, tree_list}
use Rattle.slang_values.specs.declared.operators.Unary.{Unary}
use Rattle.program_trees.specs.Claims.{ClaimName, ClaimTree, ProofStepTree, line, block, ProofStepTrees, no_steps, step_then}
use Rattle.program_trees.specs.Legs.{ItemTree, assume, check, set, fresh, proof, LegTree}
use Rattle.key_rules.specs.Codes
use Rattle.key_rules.specs.Writing.{number_bytes, list_bytes, type_bytes, claim_bytes, parts_bytes, step_list, step_bytes, steps_bytes, item_bytes, encode}
use Rattle.key_rules.specs.Fits.{FitsList, FitsType, FitsClaim, FitParts, FitsStep, FitSteps, FitsItem, FitsLeg}
use Rattle.key_rules.specs.Depths.{type_depth, claim_depth, parts_depth, step_depth, steps_depth, item_depth, IsWithin}
use Rattle.key_rules.proofs.Claims.{claim_long}

type_lengths : (t : ValueType) → FitsType t → type_depth t ≤ length (type_bytes t)
type_lengths unit_type h = absurd h
type_lengths number_type h = omega arith
type_lengths truth_type h = omega arith
type_lengths (sequence_type t) h = let inner = type_lengths t h in omega (arith, inner)
type_lengths (record_type n) h = omega arith

mutual
  claim_lengths : (c : ClaimTree ℕ) → FitsClaim c → claim_depth c ≤ length (claim_bytes c)
  claim_lengths (literal z) h = claim_long (literal z)
  claim_lengths (truth_literal b) h = claim_long (truth_literal b)
  claim_lengths (name a) h = claim_long (name a)
  claim_lengths (bound n) h = claim_long (bound n)
  claim_lengths (unary Unary.Neg a) h =
      let one = claim_lengths a h.1 in let both = length-append (claim_bytes a) [] in omega (arith, one, both)
  claim_lengths (unary Unary.Not a) h =
      let one = claim_lengths a h.1 in let both = length-append (claim_bytes a) [] in omega (arith, one, both)
  claim_lengths (unary Unary.Size a) h =
      let one = claim_lengths a h.1 in let both = length-append (claim_bytes a) [] in omega (arith, one, both)
  claim_lengths (unary (Unary.Field k) a) h =
      let one = claim_lengths a h.1 in let both = length-append (claim_bytes a) (number_bytes k) in omega (arith, one, both)
  claim_lengths (binary op a b) h =
      let one = claim_lengths a h.0 in
      let two = claim_lengths b h.1 in
      let both = length-append (claim_bytes a) (claim_bytes b) in
      omega (arith, one, two, both)
  claim_lengths (update a i x) h =
      let one = claim_lengths a h.0 in
      let two = claim_lengths i h.1 in
      let three = claim_lengths x h.2 in
      let inner = length-append (claim_bytes i) (claim_bytes x) in
      let outer = length-append (claim_bytes a) (claim_bytes i ++ claim_bytes x) in
      omega (arith, one, two, three, inner, outer)
  claim_lengths (quantified q low high body) h =
      let one = claim_lengths low h.0 in
      let two = claim_lengths high h.1 in
      let three = claim_lengths body h.2 in
      let inner = length-append (claim_bytes high) (claim_bytes body) in
      let outer = length-append (claim_bytes low) (claim_bytes high ++ claim_bytes body) in
      omega (arith, one, two, three, inner, outer)
  claim_lengths (listed (sequence_of t) ts) h =
      let one = type_lengths t h.0 in
      let two = parts_lengths ts h.2 in
      let tail = number_bytes (length (tree_list ts)) ++ parts_bytes ts in
      let inner = length-append (number_bytes (length (tree_list ts))) (parts_bytes ts) in
      let outer = length-append (type_bytes t) tail in
      omega (arith, one, two, inner, outer)
  claim_lengths (listed (record_of n) ts) h =
      let two = parts_lengths ts h.2 in
      let tail = number_bytes (length (tree_list ts)) ++ parts_bytes ts in
      let inner = length-append (number_bytes (length (tree_list ts))) (parts_bytes ts) in
      let outer = length-append (number_bytes n) tail in
      omega (arith, two, inner, outer)

  parts_lengths : (ts : Trees (ClaimName ℕ)) → FitParts ts → parts_depth ts ≤ length (parts_bytes ts)
  parts_lengths no_trees h = omega arith
  parts_lengths (tree_then t ts) h =
      let one = claim_lengths t h.0 in
      let two = parts_lengths ts h.1 in
      let both = length-append (claim_bytes t) (parts_bytes ts) in
      omega (arith, one, two, both)

mutual
  step_lengths : (step : ProofStepTree ℕ) → FitsStep step → step_depth step ≤ length (step_bytes step)
  step_lengths (line label c rule cites) h =
      let last = list_bytes number_bytes cites in
      let one = claim_lengths c h.1 in
      let inner = length-append (claim_bytes c) (rule ∷ last) in
      let outer = length-append (number_bytes label) (claim_bytes c ++ (rule ∷ last)) in
      omega (arith, one, inner, outer)
  step_lengths (block label flag assumed c steps) h =
      let last = number_bytes (length (step_list steps)) ++ steps_bytes steps in
      let end = claim_bytes c ++ last in
      let most = number_bytes assumed ++ end in
      let one = claim_lengths c h.2 in
      let two = steps_lengths steps h.4 in
      let first = length-append (number_bytes (length (step_list steps))) (steps_bytes steps) in
      let second = length-append (claim_bytes c) last in
      let third = length-append (number_bytes assumed) end in
      let fourth = length-append (number_bytes label) (Codes.flag_code flag ∷ most) in
      omega (arith, one, two, first, second, third, fourth)

  steps_lengths : (steps : ProofStepTrees ℕ) → FitSteps steps → steps_depth steps ≤ length (steps_bytes steps)
  steps_lengths no_steps h = omega arith
  steps_lengths (step_then step steps) h =
      let one = step_lengths step h.0 in
      let two = steps_lengths steps h.1 in
      let both = length-append (step_bytes step) (steps_bytes steps) in
      omega (arith, one, two, both)

item_lengths : (item : ItemTree ℕ) → FitsItem item → item_depth item ≤ length (item_bytes item)
item_lengths (assume c) h = let one = claim_lengths c h in omega (arith, one)
item_lengths (check kind c) h = let one = claim_lengths c h.1 in omega (arith, one)
item_lengths (set x c) h =
    let one = claim_lengths c h.1 in let both = length-append (number_bytes x) (claim_bytes c) in omega (arith, one, both)
item_lengths (fresh xs) h = omega arith
item_lengths (proof steps) h =
    let one = steps_lengths steps h.1 in
    let both = length-append (number_bytes (length (step_list steps))) (steps_bytes steps) in
    omega (arith, one, both)

-- ---- lists

-- what holds of each member that fits and is no longer than that
members : {A : Type 0} (write : A → List ℕ) (fits low : A → Type 0) (depth : ℕ) → ((a : A) → fits a → length (write a) ≤ depth → low a)
    → (xs : List A) → AllByRecursion fits xs → length (flat_map write xs) ≤ depth → AllByRecursion low xs
members write fits low depth each [] h short = tt
members write fits low depth each (x ∷ xs) h short =
    let split : length (flat_map write (x ∷ xs)) ≡ length (write x) + length (flat_map write xs) =
    ap length (flat_map-cons write x xs) ∙ length-append (write x) (flat_map write xs) in
    (each x h.0 (omega (arith, split, short)), members write fits low depth each xs h.1 (omega (arith, split, short)))

of_list : {A : Type 0} (write : A → List ℕ) (fits low : A → Type 0) (depth : ℕ) → ((a : A) → fits a → length (write a) ≤ depth → low a)
    → (xs : List A) → FitsList fits xs → length (list_bytes write xs) ≤ depth → AllByRecursion low xs
of_list write fits low depth each xs h short =
    let both = length-append (number_bytes (length xs)) (flat_map write xs) in
    members write fits low depth each xs h.1 (omega (arith, both, short))

pub keys_are_long : (leg : LegTree) → FitsLeg leg → IsWithin (length (encode leg)) leg
keys_are_long leg h =
    let depth = length (encode leg) in
    let a = list_bytes (list_bytes type_bytes) leg.records in
    let b = list_bytes type_bytes leg.variables in
    let c = list_bytes item_bytes leg.items in
    let outer = length-append a (b ++ c) in
    let inner = length-append b c in
    let type_low : (t : ValueType) → FitsType t → length (type_bytes t) ≤ depth → type_depth t ≤ depth =
    λ t fit short. (let one = type_lengths t fit in omega (arith, one, short)) in
    let item_low : (item : ItemTree ℕ) → FitsItem item → length (item_bytes item) ≤ depth → item_depth item ≤ depth =
    λ item fit short. (let one = item_lengths item fit in omega (arith, one, short)) in
    record {
      records = of_list (list_bytes type_bytes) (FitsList FitsType) (AllByRecursion (λ t. type_depth t ≤ depth)) depth
          (λ types fit short. of_list type_bytes FitsType (λ t. type_depth t ≤ depth) depth type_low types fit short) leg.records h.records
          (omega (arith, outer, inner));
      variables = of_list type_bytes FitsType (λ t. type_depth t ≤ depth) depth type_low leg.variables h.variables (omega (arith, outer, inner));
      items = of_list item_bytes FitsItem (λ item. item_depth item ≤ depth) depth item_low leg.items h.items (omega (arith, outer, inner));
    }
