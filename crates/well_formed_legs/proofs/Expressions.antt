-- How high the claims of expressions are, and the sequences in them.
use Rattle.std.proofs.Common.{◌≡◌, ℕ, ◌+◌, ◌*◌, ◌≤◌, max, Bool, true, false, cond, List, [], ◌∷◌, ◌++◌, map, refl, sym, ◌∙◌, arith}
use Rattle.std.specs.List.{AllByRecursion, list_all}
use Rattle.std.proofs.lemmas.Bool.{and_parts, and_from}
use Rattle.std.proofs.lemmas.List.Folds.{list_all-append}
use Rattle.slang_values.specs.Value.{ValueType, is_element_type}
use Rattle.slang_values.specs.Tree.{Tree, unary as unary_tree, binary as binary_tree}
use Rattle.slang_values.specs.Measure.{height, greatest_height as greatest_claim}
use Rattle.slang_values.specs.declared.operators.Unary.{Unary}
use Rattle.slang_tree.specs.declared.expression.Operator.{Operator}
use Rattle.program_trees.specs.declared.answer.Kind.TheVariants as kinds
use Rattle.program_trees.specs.Operators.{Evaluated, always, where_true, where_false, right_evaluated, divides, connective, exchanged, negated, connected}
use Rattle.program_trees.specs.Claims.{ClaimTree}
use Rattle.program_trees.specs.Programs.{TypedExpr, number, truth, variable, unary, binary, read, update, listed, TypedExprs, no_exprs, expr_then, claim_of, claims_of}
use Rattle.leg_forms.specs.WellFormed.{is_checked}
use Rattle.leg_rules.specs.Checks.{Demand, demands, part_demands, under, guarded, own_division, in_range, is_not_zero}
use Rattle.typed_programs.specs.Parts.{expr_height, greatest_height, element_types, all_element_types, front_elements}

-- ---- heights

connected_low : {A : Type 0} (operator : Operator) (left right : Tree A) → height (connected operator left right) ≤ max (height left) (height right) + 2
connected_low operator left right = by (exchanged operator) (negated operator)
  where
    by : (b c : Bool) → height (cond b (binary_tree (connective operator) right left)
        (cond c (unary_tree Unary.Not (binary_tree (connective operator) left right)) (binary_tree (connective operator) left right)))
        ≤ max (height left) (height right) + 2
    by true c = omega arith
    by false true = omega arith
    by false false = omega arith

module _ {A : Type 0} where
  mutual
    pub claim_low : (e : TypedExpr A) → height (claim_of e) + 1 ≤ 2 * expr_height e
    claim_low (number node z) = omega arith
    claim_low (truth node b) = omega arith
    claim_low (variable node x) = omega arith
    claim_low (unary node op operand) = omega (arith, claim_low operand)
    claim_low (binary node operator left right) =
        omega (arith, connected_low operator (claim_of left) (claim_of right), claim_low left, claim_low right)
    claim_low (read node head index) = omega (arith, claim_low head, claim_low index)
    claim_low (update node head index element) = omega (arith, claim_low head, claim_low index, claim_low element)
    claim_low (listed node front parts) = omega (arith, claims_low parts)

    claims_low : (es : TypedExprs A) → greatest_claim (claims_of es) ≤ 2 * greatest_height es
    claims_low no_exprs = omega arith
    claims_low (expr_then e es) = omega (arith, claim_low e, claims_low es)

-- ---- sequences that are written out

abbrev pub HaveElements : List ValueType → Type 0
HaveElements ts = list_all is_element_type ts ≡ true

pub parted : (xs ys : List ValueType) → HaveElements (xs ++ ys) → HaveElements xs × HaveElements ys
parted xs ys h = and_parts (list_all is_element_type xs) (list_all is_element_type ys) (sym (list_all-append is_element_type xs ys) ∙ h)

pub joined : (xs ys : List ValueType) → HaveElements xs → HaveElements ys → HaveElements (xs ++ ys)
joined xs ys h k = list_all-append is_element_type xs ys ∙ and_from (list_all is_element_type xs) (list_all is_element_type ys) h k

-- ---- what expressions demand

-- a check of a claim that is no higher than this
pub record IsFitDemand {A : Type 0} (bound : ℕ) (d : Demand A) : Type 0 where
  pub checked : is_checked d.kind ≡ true
  pub elements : HaveElements (element_types d.claim)
  pub low : height d.claim ≤ bound

module _ {A : Type 0} where
  abbrev pub AreFitDemands : ℕ → List (Demand A) → Type 0
  AreFitDemands bound ds = AllByRecursion (IsFitDemand bound) ds

  pub demands_append : (bound : ℕ) (xs ys : List (Demand A)) → AreFitDemands bound xs → AreFitDemands bound ys → AreFitDemands bound (xs ++ ys)
  demands_append bound [] ys h k = k
  demands_append bound (x ∷ xs) ys h k = (h.0, demands_append bound xs ys h.1 k)

  pub wider : (m n : ℕ) → m ≤ n → (ds : List (Demand A)) → AreFitDemands m ds → AreFitDemands n ds
  wider m n l [] h = tt
  wider m n l (d ∷ ds) h = (record { checked = h.0.checked; elements = h.0.elements; low = omega (arith, h.0.low, l) }, wider m n l ds h.1)

  under_fit : (m n : ℕ) (condition : ClaimTree A) → height condition + 1 ≤ n → m + 1 ≤ n → HaveElements (element_types condition) → (ds : List (Demand A)) →
      AreFitDemands m ds → AreFitDemands n (map (under condition) ds)
  under_fit m n condition k l elements [] h = tt
  under_fit m n condition k l elements (d ∷ ds) h = (
    record {
      checked = h.0.checked;
      elements = joined (element_types condition) (element_types d.claim) elements h.0.elements;
      low = omega (arith, h.0.low, k, l);
    },
    under_fit m n condition k l elements ds h.1,
  )

  guarded_fit : (evaluated : Evaluated) (m n : ℕ) (left : ClaimTree A) → height left + 2 ≤ n → m + 1 ≤ n → HaveElements (element_types left) →
      (ds : List (Demand A)) →
      AreFitDemands m ds → AreFitDemands n (guarded evaluated left ds)
  guarded_fit always m n left k l elements ds h = wider m n (omega (arith, l)) ds h
  guarded_fit where_true m n left k l elements ds h = under_fit m n left (omega (arith, k)) l elements ds h
  guarded_fit where_false m n left k l elements ds h = under_fit m n (unary_tree Unary.Not left) (omega (arith, k)) l elements ds h

  division_fit : (node n : ℕ) (operator : Operator) (divisor : ClaimTree A) → height divisor + 2 ≤ n → 3 ≤ n → HaveElements (element_types divisor) →
      AreFitDemands n (own_division node operator divisor)
  division_fit node n operator divisor k l elements = by (divides operator)
    where
      by : (b : Bool) → AreFitDemands n (cond b (record { kind = kinds.Division; claim = is_not_zero divisor; node = node } ∷ []) [])
      by true = (record { checked = refl; elements = joined (element_types divisor) [] elements refl; low = omega (arith, k, l) }, tt)
      by false = tt

  index_fit : (node n : ℕ) (head index : ClaimTree A) → height head + 3 ≤ n → height index + 3 ≤ n → HaveElements (element_types head) →
      HaveElements (element_types index) →
      AreFitDemands n (record { kind = kinds.Index; claim = in_range head index; node = node } ∷ [])
  index_fit node n head index k l a b = (
    record {
      checked = refl;
      elements = joined (element_types index) (element_types index ++ element_types head) b (joined (element_types index) (element_types head) b a);
      low = omega (arith, k, l);
    },
    tt,
  )

  -- the elements in the operands of an operator
  operands : (operator : Operator) (left right : ClaimTree A) → HaveElements (element_types (connected operator left right)) →
      HaveElements (element_types left) × HaveElements (element_types right)
  operands operator left right = by (exchanged operator) (negated operator)
    where
      by : (b c : Bool) → HaveElements (element_types (cond b (binary_tree (connective operator) right left)
          (cond c (unary_tree Unary.Not (binary_tree (connective operator) left right)) (binary_tree (connective operator) left right)))) →
          HaveElements (element_types left) × HaveElements (element_types right)
      by true c h = let p = parted (element_types right) (element_types left) h in (p.1, p.0)
      by false true h = parted (element_types left) (element_types right) h
      by false false h = parted (element_types left) (element_types right) h

  one_high : (e : TypedExpr A) → 1 ≤ expr_height e
  one_high e = omega (arith, claim_low e)

  mutual
    -- what an expression demands is no higher than twice the expression
    pub demands_fit : (e : TypedExpr A) → HaveElements (element_types (claim_of e)) → AreFitDemands (2 * expr_height e) (demands e)
    demands_fit (number node z) h = tt
    demands_fit (truth node b) h = tt
    demands_fit (variable node x) h = tt
    demands_fit (unary node op operand) h = wider (2 * expr_height operand) _ (omega arith) (demands operand) (demands_fit operand h)
    demands_fit (binary node operator left right) h =
        let p = operands operator (claim_of left) (claim_of right) h in
        let n : ℕ = 2 * (max (expr_height left) (expr_height right) + 1) in
        demands_append n (demands left) _ (wider (2 * expr_height left) n (omega arith) (demands left) (demands_fit left p.0))
        (demands_append n (guarded (right_evaluated operator) (claim_of left) (demands right)) _
        (guarded_fit (right_evaluated operator) (2 * expr_height right) n (claim_of left) (omega (arith, claim_low left)) (omega arith) p.0
        (demands right) (demands_fit right p.1))
        (division_fit node n operator (claim_of right) (omega (arith, claim_low right)) (omega (arith, one_high right)) p.1))
    demands_fit (read node head index) h =
        let p = parted (element_types (claim_of head)) (element_types (claim_of index)) h in
        let n : ℕ = 2 * (max (expr_height head) (expr_height index) + 1) in
        demands_append n (demands head) _ (wider (2 * expr_height head) n (omega arith) (demands head) (demands_fit head p.0))
        (demands_append n (demands index) _ (wider (2 * expr_height index) n (omega arith) (demands index) (demands_fit index p.1))
        (index_fit node n (claim_of head) (claim_of index) (omega (arith, claim_low head)) (omega (arith, claim_low index)) p.0 p.1))
    demands_fit (update node head index element) h =
        let p = parted (element_types (claim_of head)) (element_types (claim_of index) ++ element_types (claim_of element)) h in
        let q = parted (element_types (claim_of index)) (element_types (claim_of element)) p.1 in
        let n : ℕ = 2 * (max (max (expr_height head) (expr_height index)) (expr_height element) + 1) in
        demands_append n (demands head) _ (wider (2 * expr_height head) n (omega arith) (demands head) (demands_fit head p.0))
        (demands_append n (demands index) _ (wider (2 * expr_height index) n (omega arith) (demands index) (demands_fit index q.0))
        (demands_append n (demands element) _ (wider (2 * expr_height element) n (omega arith) (demands element) (demands_fit element q.1))
        (index_fit node n (claim_of head) (claim_of index) (omega (arith, claim_low head)) (omega (arith, claim_low index)) p.0 q.0)))
    demands_fit (listed node front parts) h =
        wider (2 * greatest_height parts) _ (omega arith) (part_demands parts)
        (parts_fit parts (parted (front_elements front) (all_element_types (claims_of parts)) h).1)

    parts_fit : (es : TypedExprs A) → HaveElements (all_element_types (claims_of es)) → AreFitDemands (2 * greatest_height es) (part_demands es)
    parts_fit no_exprs h = tt
    parts_fit (expr_then e es) h =
        let p = parted (element_types (claim_of e)) (all_element_types (claims_of es)) h in
        let n : ℕ = 2 * max (expr_height e) (greatest_height es) in
        demands_append n (demands e) _ (wider (2 * expr_height e) n (omega arith) (demands e) (demands_fit e p.0))
        (wider (2 * greatest_height es) n (omega arith) (part_demands es) (parts_fit es p.1))
