-- What is written is read, and only that: of steps of proofs, and items.
use Rattle.std.proofs.Common.{◌≡◌, ℕ, zero, suc, ◌≤◌, Bool, true, false, List, [], ◌∷◌, ◌++◌, length, append_assoc, Some, refl, sym, ap, ◌∙◌, subst, arith}
use Rattle.std.specs.List.{AllByRecursion, flat_map}
use Rattle.std.proofs.lemmas.List.Concat.{flat_map-cons}
use Rattle.program_trees.specs.declared.answer.Kind.{Kind}
use Rattle.program_trees.specs.declared.answer.Kind.TheVariants as kinds
use Rattle.program_trees.specs.Claims.{ClaimTree, ProofStepTree, line, block, ProofStepTrees, no_steps, step_then}
use Rattle.program_trees.specs.Legs.{ItemTree, assume, check, set, fresh, proof}
use Rattle.leg_forms.specs.WellFormed.{is_checked}
use Rattle.key_rules.specs.Codes
use Rattle.key_rules.specs.Codes.{coded}
use Rattle.key_rules.specs.Writing.{number_bytes, list_bytes, claim_bytes, step_list, step_bytes, steps_bytes, item_bytes}
use Rattle.key_rules.specs.Fits.{FitsNumber, FitsList, FitsClaim, FitsStep, FitSteps, FitsItem}
use Rattle.key_rules.specs.Depths.{claim_depth, step_depth, steps_depth, item_depth}
use Rattle.key_rules.specs.Readers.{AreBytes, Reader, given, ◌>>=◌, read_byte, read_number, read_coded, read_list}
use Rattle.key_rules.specs.Reading.{read_claim, steps_of, step_behind, read_step, item_behind, read_item}
use Rattle.key_rules.proofs.Readers.{bind, unbind, none_some, Takes, TakesOnly, ReadsBack, given_back, byte_takes, number_back, number_takes, coded_back, coded_takes, list_back, list_takes}
use Rattle.key_rules.proofs.Claims.{Below, Behind, headed, claim_back, claim_takes}

pub number_long : (n : ℕ) → FitsNumber n → 1 ≤ length (number_bytes n)
number_long n h = omega arith

numbers_back : ReadsBack (list_bytes number_bytes) (FitsList FitsNumber) (read_list read_number)
numbers_back = list_back number_bytes FitsNumber read_number number_back number_long

numbers_take : TakesOnly (list_bytes number_bytes) (FitsList FitsNumber) (read_list read_number)
numbers_take = list_takes number_bytes FitsNumber read_number number_takes

-- ---- lists of steps

steps_same : {A : Type 0} (steps : ProofStepTrees A) → steps_of (step_list steps) ≡ steps
steps_same no_steps = refl
steps_same (step_then step steps) = ap (step_then step) (steps_same steps)

list_same : {A : Type 0} (steps : List (ProofStepTree A)) → step_list (steps_of steps) ≡ steps
list_same [] = refl
list_same (step ∷ steps) = ap (λ l. step ∷ l) (list_same steps)

steps_flat : (steps : ProofStepTrees ℕ) → steps_bytes steps ≡ flat_map step_bytes (step_list steps)
steps_flat no_steps = refl
steps_flat (step_then step steps) = ap (λ l. step_bytes step ++ l) (steps_flat steps) ∙ sym (flat_map-cons step_bytes step (step_list steps))

-- how many steps, and the steps
abbrev counted : ProofStepTrees ℕ → List ℕ
counted steps = number_bytes (length (step_list steps)) ++ steps_bytes steps

steps_written : (steps : ProofStepTrees ℕ) → list_bytes step_bytes (step_list steps) ≡ counted steps
steps_written steps = ap (λ l. number_bytes (length (step_list steps)) ++ l) (sym (steps_flat steps))

steps_below : (depth : ℕ) (steps : ProofStepTrees ℕ) → FitSteps steps → steps_depth steps ≤ depth
    → AllByRecursion (Below step_depth FitsStep depth) (step_list steps)
steps_below depth no_steps h low = tt
steps_below depth (step_then step steps) h low =
    (record { fit = h.0; low = omega (arith, low) }, steps_below depth steps h.1 (omega (arith, low)))

steps_fit : (steps : List (ProofStepTree ℕ)) → AllByRecursion FitsStep steps → FitSteps (steps_of steps)
steps_fit [] h = tt
steps_fit (step ∷ steps) h = (h.0, steps_fit steps h.1)

step_long : (step : ProofStepTree ℕ) → 1 ≤ length (step_bytes step)
step_long (line label claim rule cites) = omega arith
step_long (block label has_symbol assumed c steps) = omega arith

flag_found : (b : Bool) → coded Codes.flag_code Codes.flags (Codes.flag_code b) ≡ Some b
flag_found true = refl
flag_found false = refl

-- the steps of a list, which are all that is left to read of what is made of them
module _ {A : Type 0} (depth : ℕ) (make : ProofStepTrees ℕ → A) where
  steps_back : ReadsBack step_bytes (Below step_depth FitsStep depth) (read_step depth) → (steps : ProofStepTrees ℕ) (rest : List ℕ)
      → FitsNumber (length (step_list steps)) → FitSteps steps → steps_depth steps ≤ depth
      → (read_list (read_step depth) >>= λ steps. given (make (steps_of steps))) (counted steps ++ rest) ≡ Some (make steps, rest)
  steps_back inner steps rest few fits low =
      let next = λ (steps : List (ProofStepTree ℕ)). given (make (steps_of steps)) in
      ap (λ l. (read_list (read_step depth) >>= next) (l ++ rest)) (sym (steps_written steps))
      ∙ bind (read_list (read_step depth)) next (list_bytes step_bytes (step_list steps) ++ rest) (step_list steps) rest _
      (list_back step_bytes (Below step_depth FitsStep depth) (read_step depth) inner (λ step h. step_long step) (step_list steps) rest
      (few, steps_below depth steps fits low))
      (ap (λ steps. Some (make steps, rest)) (steps_same steps))

  -- the steps that were read
  record AreRead (bytes : List ℕ) (a : A) (rest : List ℕ) : Type 0 where
    steps : ProofStepTrees ℕ
    few : FitsNumber (length (step_list steps))
    fits : FitSteps steps
    same : bytes ≡ counted steps ++ rest
    made : make steps ≡ a
    left : AreBytes rest

  steps_take : TakesOnly step_bytes FitsStep (read_step depth) → (bytes : List ℕ) (a : A) (rest : List ℕ) → AreBytes bytes
      → (read_list (read_step depth) >>= λ steps. given (make (steps_of steps))) bytes ≡ Some (a, rest) → AreRead bytes a rest
  steps_take inner bytes a rest are h =
      let u = unbind (read_list (read_step depth)) (λ steps. given (make (steps_of steps))) bytes a rest h in
      let p = list_takes step_bytes FitsStep (read_step depth) inner bytes u.value u.middle are u.first in
      let steps : ProofStepTrees ℕ = steps_of u.value in
      let same_list : step_list steps ≡ u.value = list_same u.value in
      let written : list_bytes step_bytes u.value ≡ counted steps = ap (list_bytes step_bytes) (sym same_list) ∙ steps_written steps in
      let end : (make steps, u.middle) ≡ (a, rest) = cc (u.second) in
      record {
        steps = steps;
        few = subst (λ xs. FitsNumber (length xs)) (sym same_list) p.fit.0;
        fits = steps_fit u.value p.fit.1;
        same = p.same ∙ ap (λ l. l ++ u.middle) written ∙ ap (λ (q : A × List ℕ). counted steps ++ q.1) end;
        made = ap (λ (q : A × List ℕ). q.0) end;
        left = subst (λ (q : A × List ℕ). AreBytes q.1) end p.left;
      }

-- ---- steps

module _ (depth : ℕ) where
  abbrev claim : Reader (ClaimTree ℕ)
  claim = read_claim depth

  abbrev after_rule : ℕ → ClaimTree ℕ → ℕ → Reader (ProofStepTree ℕ)
  after_rule label c rule = read_list read_number >>= λ cites. given (line label c rule cites)

  abbrev after_claim : ℕ → ClaimTree ℕ → Reader (ProofStepTree ℕ)
  after_claim label c = read_byte >>= λ rule. after_rule label c rule

  abbrev after_label : ℕ → Reader (ProofStepTree ℕ)
  after_label label = claim >>= λ c. after_claim label c

  line_back : (label : ℕ) (c : ClaimTree ℕ) (rule : ℕ) (cites rest : List ℕ) → FitsStep (line label c rule cites)
      → claim_depth c ≤ depth → read_step (suc depth) (step_bytes (line label c rule cites) ++ rest)
      ≡ Some (line label c rule cites, rest)
  line_back label c rule cites rest h low =
      let last = list_bytes number_bytes cites in
      let apart : (number_bytes label ++ (claim_bytes c ++ (rule ∷ last))) ++ rest ≡ number_bytes label ++ (claim_bytes c ++ (rule ∷ (last ++ rest))) =
      append_assoc (number_bytes label) (claim_bytes c ++ (rule ∷ last)) rest
      ∙ ap (λ l. number_bytes label ++ l) (append_assoc (claim_bytes c) (rule ∷ last) rest) in
      coded_back Codes.step_code Codes.step_heads Codes.of_line (step_behind claim (read_step depth))
      ((number_bytes label ++ (claim_bytes c ++ (rule ∷ last))) ++ rest) _ refl
      (ap (read_number >>= after_label) apart
      ∙ bind read_number after_label (number_bytes label ++ (claim_bytes c ++ (rule ∷ (last ++ rest)))) label (claim_bytes c ++ (rule ∷ (last ++ rest))) _
      (number_back label (claim_bytes c ++ (rule ∷ (last ++ rest))) h.0)
      (bind claim (after_claim label) (claim_bytes c ++ (rule ∷ (last ++ rest))) c (rule ∷ (last ++ rest)) _
      (claim_back depth c (rule ∷ (last ++ rest)) (record { fit = h.1; low = low }))
      (bind read_byte (after_rule label c) (rule ∷ (last ++ rest)) rule (last ++ rest) _ refl
      (bind (read_list read_number) (λ cites. given (line label c rule cites)) (last ++ rest) cites rest _ (numbers_back cites rest h.3) refl))))

  abbrev after_assumption : ℕ → Bool → ℕ → ClaimTree ℕ → Reader (ProofStepTree ℕ)
  after_assumption label flag assumed c = read_list (read_step depth) >>= λ steps. given (block label flag assumed c (steps_of steps))

  abbrev after_assumed : ℕ → Bool → ℕ → Reader (ProofStepTree ℕ)
  after_assumed label flag assumed = claim >>= λ c. after_assumption label flag assumed c

  abbrev after_flag : ℕ → Bool → Reader (ProofStepTree ℕ)
  after_flag label flag = read_number >>= λ assumed. after_assumed label flag assumed

  abbrev after_block : ℕ → Reader (ProofStepTree ℕ)
  after_block label = read_coded Codes.flag_code Codes.flags >>= λ flag. after_flag label flag

  block_back : ReadsBack step_bytes (Below step_depth FitsStep depth) (read_step depth)
      → (label : ℕ) (flag : Bool) (assumed : ℕ) (c : ClaimTree ℕ) (steps : ProofStepTrees ℕ) (rest : List ℕ) → FitsStep (block label flag assumed c steps)
      → claim_depth c ≤ depth → steps_depth steps ≤ depth
      → read_step (suc depth) (step_bytes (block label flag assumed c steps) ++ rest) ≡ Some (block label flag assumed c steps, rest)
  block_back inner label flag assumed c steps rest h low low_steps =
      let last = counted steps in
      let end = claim_bytes c ++ last in
      let most = number_bytes assumed ++ end in
      let end_apart : end ++ rest ≡ claim_bytes c ++ (last ++ rest) = append_assoc (claim_bytes c) last rest in
      let most_apart : most ++ rest ≡ number_bytes assumed ++ (claim_bytes c ++ (last ++ rest)) =
      append_assoc (number_bytes assumed) end rest ∙ ap (λ l. number_bytes assumed ++ l) end_apart in
      let apart : (number_bytes label ++ (Codes.flag_code flag ∷ most)) ++ rest
      ≡ number_bytes label ++ (Codes.flag_code flag ∷ (number_bytes assumed ++ (claim_bytes c ++ (last ++ rest)))) =
      append_assoc (number_bytes label) (Codes.flag_code flag ∷ most) rest ∙ ap (λ l. number_bytes label ++ (Codes.flag_code flag ∷ l)) most_apart in
      let behind_claim = last ++ rest in
      let behind_assumed = claim_bytes c ++ behind_claim in
      let behind_flag = number_bytes assumed ++ behind_assumed in
      let behind_label = Codes.flag_code flag ∷ behind_flag in
      coded_back Codes.step_code Codes.step_heads Codes.of_block (step_behind claim (read_step depth))
      ((number_bytes label ++ (Codes.flag_code flag ∷ most)) ++ rest) _ refl
      (ap (read_number >>= after_block) apart
      ∙ bind read_number after_block (number_bytes label ++ behind_label) label behind_label _ (number_back label behind_label h.0)
      (coded_back Codes.flag_code Codes.flags flag (after_flag label) behind_flag _ (flag_found flag)
      (bind read_number (after_assumed label flag) behind_flag assumed behind_assumed _ (number_back assumed behind_assumed h.1)
      (bind claim (after_assumption label flag assumed) behind_assumed c behind_claim _
      (claim_back depth c behind_claim (record { fit = h.2; low = low }))
      (steps_back depth (block label flag assumed c) inner steps rest h.3 h.4 low_steps)))))

  step_more : ReadsBack step_bytes (Below step_depth FitsStep depth) (read_step depth)
      → ReadsBack step_bytes (Below step_depth FitsStep (suc depth)) (read_step (suc depth))
  step_more inner (line label c rule cites) rest h = (let low = h.low in line_back label c rule cites rest h.fit (omega (arith, low)))
  step_more inner (block label flag assumed c steps) rest h =
      (let low = h.low in block_back inner label flag assumed c steps rest h.fit (omega (arith, low)) (omega (arith, low)))

  abbrev From : List ℕ → ProofStepTree ℕ → List ℕ → Type 0
  From bytes step rest = Takes step_bytes FitsStep bytes step rest

  each : TakesOnly step_bytes FitsStep (read_step depth) → (head : Codes.StepHead)
      → Behind step_bytes FitsStep Codes.step_code (step_behind claim (read_step depth)) head
  each inner Codes.of_line bytes step rest are h =
      let u = unbind read_number after_label bytes step rest h in
      let p = number_takes bytes u.value u.middle are u.first in
      let v = unbind claim (after_claim u.value) u.middle step rest u.second in
      let q = claim_takes depth u.middle v.value v.middle p.left v.first in
      let w = unbind read_byte (after_rule u.value v.value) v.middle step rest v.second in
      let r = byte_takes v.middle w.value w.middle q.left w.first in
      let x = unbind (read_list read_number) (λ cites. given (line u.value v.value w.value cites)) w.middle step rest w.second in
      let s = numbers_take w.middle x.value x.middle r.left x.first in
      let last = list_bytes number_bytes x.value in
      given_back step_bytes FitsStep (0 ∷ bytes) (line u.value v.value w.value x.value) step x.middle rest x.second
      (record {
        same = ap (λ l. 0 ∷ l) (p.same
            ∙ ap (λ l. number_bytes u.value ++ l) (q.same ∙ ap (λ l. claim_bytes v.value ++ l) (r.same ∙ ap (λ l. w.value ∷ l) s.same)
            ∙ sym (append_assoc (claim_bytes v.value) (w.value ∷ last) x.middle))
            ∙ sym (append_assoc (number_bytes u.value) (claim_bytes v.value ++ (w.value ∷ last)) x.middle));
        fit = (p.fit, q.fit, r.fit, s.fit);
        left = s.left;
      })
  each inner Codes.of_block bytes step rest are h =
      let u = unbind read_number after_block bytes step rest h in
      let p = number_takes bytes u.value u.middle are u.first in
      let v = unbind (read_coded Codes.flag_code Codes.flags) (after_flag u.value) u.middle step rest u.second in
      let q = coded_takes Codes.flag_code Codes.flags u.middle v.value v.middle p.left v.first in
      let w = unbind read_number (after_assumed u.value v.value) v.middle step rest v.second in
      let r = number_takes v.middle w.value w.middle q.left w.first in
      let x = unbind claim (after_assumption u.value v.value w.value) w.middle step rest w.second in
      let s = claim_takes depth w.middle x.value x.middle r.left x.first in
      let y = steps_take depth (block u.value v.value w.value x.value) inner x.middle step rest s.left x.second in
      let last = counted y.steps in
      let end = claim_bytes x.value ++ last in
      let most = number_bytes w.value ++ end in
      subst (λ made. From (1 ∷ bytes) made rest) y.made
      (record {
        same = ap (λ l. 1 ∷ l) (p.same
            ∙ ap (λ l. number_bytes u.value ++ l) (q.same
            ∙ ap (λ l. Codes.flag_code v.value ∷ l) (r.same
            ∙ ap (λ l. number_bytes w.value ++ l) (s.same ∙ ap (λ l. claim_bytes x.value ++ l) y.same ∙ sym (append_assoc (claim_bytes x.value) last rest))
            ∙ sym (append_assoc (number_bytes w.value) end rest)))
            ∙ sym (append_assoc (number_bytes u.value) (Codes.flag_code v.value ∷ most) rest));
        fit = (p.fit, r.fit, s.fit, y.few, y.fits);
        left = y.left;
      })

step_deep : (step : ProofStepTree ℕ) → 1 ≤ step_depth step
step_deep (line label claim rule cites) = omega arith
step_deep (block label has_symbol assumed c steps) = omega arith

pub step_back : (depth : ℕ) → ReadsBack step_bytes (Below step_depth FitsStep depth) (read_step depth)
step_back zero step rest h = let one = step_deep step in let low = h.low in absurd (omega (arith, one, low))
step_back (suc depth) step rest h = step_more depth (step_back depth) step rest h

pub step_takes : (depth : ℕ) → TakesOnly step_bytes FitsStep (read_step depth)
step_takes zero bytes step rest are h = absurd (none_some (step, rest) h)
step_takes (suc depth) bytes step rest are h =
    headed step_bytes FitsStep Codes.step_code Codes.step_heads (step_behind (read_claim depth) (read_step depth)) (each depth (step_takes depth))
    bytes step rest are h

-- ---- items

pub item_long : (item : ItemTree ℕ) → 1 ≤ length (item_bytes item)
item_long (assume c) = omega arith
item_long (check kind c) = omega arith
item_long (set x c) = omega arith
item_long (fresh xs) = omega arith
item_long (proof steps) = omega arith

kind_found : (kind : Kind) → is_checked kind ≡ true → coded Codes.kind_code Codes.checked_kinds (Codes.kind_code kind) ≡ Some kind
kind_found kinds.Assert h = refl
kind_found kinds.Requires h = refl
kind_found kinds.Ensures h = refl
kind_found kinds.InvStart h = refl
kind_found kinds.InvKept h = refl
kind_found kinds.Index h = refl
kind_found kinds.Division h = refl
kind_found kinds.Deduce h = cc (h)
kind_found kinds.Term h = cc (h)

-- what is found among the kinds of checks is one of them
kind_checked : (kind : Kind) → coded Codes.kind_code Codes.checked_kinds (Codes.kind_code kind) ≡ Some kind → is_checked kind ≡ true
kind_checked kinds.Assert h = refl
kind_checked kinds.Requires h = refl
kind_checked kinds.Ensures h = refl
kind_checked kinds.InvStart h = refl
kind_checked kinds.InvKept h = refl
kind_checked kinds.Index h = refl
kind_checked kinds.Division h = refl
kind_checked kinds.Deduce h = absurd (none_some kinds.Deduce h)
kind_checked kinds.Term h = absurd (none_some kinds.Term h)

module _ (depth : ℕ) where
  abbrev behind : Codes.ItemHead → Reader (ItemTree ℕ)
  behind = item_behind (read_claim depth) (read_step depth)

  claim_item_back : (make : ClaimTree ℕ → ItemTree ℕ) (c : ClaimTree ℕ) (rest : List ℕ) → FitsClaim c → claim_depth c ≤ depth
      → (read_claim depth >>= λ c. given (make c)) (claim_bytes c ++ rest) ≡ Some (make c, rest)
  claim_item_back make c rest fit low =
      bind (read_claim depth) (λ c. given (make c)) (claim_bytes c ++ rest) c rest _ (claim_back depth c rest (record { fit = fit; low = low })) refl

  pub item_back : ReadsBack item_bytes (Below item_depth FitsItem depth) (read_item depth)
  item_back (assume c) rest h =
      coded_back Codes.item_code Codes.item_heads Codes.of_assume behind (claim_bytes c ++ rest) _ refl
      (claim_item_back (λ c. assume c) c rest h.fit h.low)
  item_back (check kind c) rest h =
      let next = λ (kind : Kind). read_claim depth >>= λ c. given (check kind c) in
      coded_back Codes.item_code Codes.item_heads Codes.of_check behind (Codes.kind_code kind ∷ (claim_bytes c ++ rest)) _ refl
      (coded_back Codes.kind_code Codes.checked_kinds kind next (claim_bytes c ++ rest) _ (kind_found kind h.fit.0)
      (claim_item_back (λ c. check kind c) c rest h.fit.1 h.low))
  item_back (set x c) rest h =
      let next = λ (x : ℕ). read_claim depth >>= λ c. given (set x c) in
      coded_back Codes.item_code Codes.item_heads Codes.of_set behind ((number_bytes x ++ claim_bytes c) ++ rest) _ refl
      (ap (read_number >>= next) (append_assoc (number_bytes x) (claim_bytes c) rest)
      ∙ bind read_number next (number_bytes x ++ (claim_bytes c ++ rest)) x (claim_bytes c ++ rest) _ (number_back x (claim_bytes c ++ rest) h.fit.0)
      (claim_item_back (λ c. set x c) c rest h.fit.1 h.low))
  item_back (fresh xs) rest h =
      coded_back Codes.item_code Codes.item_heads Codes.of_fresh behind (list_bytes number_bytes xs ++ rest) _ refl
      (bind (read_list read_number) (λ xs. given (fresh xs)) (list_bytes number_bytes xs ++ rest) xs rest _ (numbers_back xs rest h.fit) refl)
  item_back (proof steps) rest h =
      coded_back Codes.item_code Codes.item_heads Codes.of_proof behind (counted steps ++ rest) _ refl
      (steps_back depth (λ steps. proof steps) (step_back depth) steps rest h.fit.0 h.fit.1 h.low)

  item_each : (head : Codes.ItemHead) → Behind item_bytes FitsItem Codes.item_code behind head
  item_each Codes.of_assume bytes item rest are h =
      let u = unbind (read_claim depth) (λ c. given (assume c)) bytes item rest h in
      let p = claim_takes depth bytes u.value u.middle are u.first in
      given_back item_bytes FitsItem (0 ∷ bytes) (assume u.value) item u.middle rest u.second
      (record { same = ap (λ l. 0 ∷ l) p.same; fit = p.fit; left = p.left })
  item_each Codes.of_check bytes item rest are h =
      let u = unbind (read_coded Codes.kind_code Codes.checked_kinds) (λ kind. read_claim depth >>= λ c. given (check kind c)) bytes item rest h in
      let p = coded_takes Codes.kind_code Codes.checked_kinds bytes u.value u.middle are u.first in
      let v = unbind (read_claim depth) (λ c. given (check u.value c)) u.middle item rest u.second in
      let q = claim_takes depth u.middle v.value v.middle p.left v.first in
      given_back item_bytes FitsItem (1 ∷ bytes) (check u.value v.value) item v.middle rest v.second
      (record {
        same = ap (λ l. 1 ∷ l) (p.same ∙ ap (λ l. Codes.kind_code u.value ∷ l) q.same);
        fit = (kind_checked u.value p.fit, q.fit);
        left = q.left;
      })
  item_each Codes.of_set bytes item rest are h =
      let u = unbind read_number (λ x. read_claim depth >>= λ c. given (set x c)) bytes item rest h in
      let p = number_takes bytes u.value u.middle are u.first in
      let v = unbind (read_claim depth) (λ c. given (set u.value c)) u.middle item rest u.second in
      let q = claim_takes depth u.middle v.value v.middle p.left v.first in
      given_back item_bytes FitsItem (2 ∷ bytes) (set u.value v.value) item v.middle rest v.second
      (record {
        same = ap (λ l. 2 ∷ l) (p.same ∙ ap (λ l. number_bytes u.value ++ l) q.same
            ∙ sym (append_assoc (number_bytes u.value) (claim_bytes v.value) v.middle));
        fit = (p.fit, q.fit);
        left = q.left;
      })
  item_each Codes.of_fresh bytes item rest are h =
      let u = unbind (read_list read_number) (λ xs. given (fresh xs)) bytes item rest h in
      let p = numbers_take bytes u.value u.middle are u.first in
      given_back item_bytes FitsItem (3 ∷ bytes) (fresh u.value) item u.middle rest u.second
      (record { same = ap (λ l. 3 ∷ l) p.same; fit = p.fit; left = p.left })
  item_each Codes.of_proof bytes item rest are h =
      let y = steps_take depth (λ steps. proof steps) (step_takes depth) bytes item rest are h in
      subst (λ made. Takes item_bytes FitsItem (4 ∷ bytes) made rest) y.made
      (record { same = ap (λ l. 4 ∷ l) y.same; fit = (y.few, y.fits); left = y.left })

  pub item_takes : TakesOnly item_bytes FitsItem (read_item depth)
  item_takes = headed item_bytes FitsItem Codes.item_code Codes.item_heads behind item_each
