-- The parts of well-typed expressions, and what they demand.
use Rattle.std.proofs.Common.{ℕ, Bool, true, false, cond, List, [], ◌∷◌, refl, sym, subst}
use Rattle.std.specs.List.{AllByRecursion}
use Rattle.numbering_laws.proofs.Places.{all_append}
use Rattle.slang_values.specs.Value.{ValueType, number_type, truth_type, sequence_type, Records, fields, element_type}
use Rattle.slang_values.specs.Tree.{Tree, unary as unary_tree, binary as binary_tree, sequence_of, record_of}
use Rattle.slang_values.specs.Typing.{NameTypes, type_of, IsTyped, EachIsTyped, AreTyped, IsClosed, AreClosed}
use Rattle.slang_values.specs.declared.operators.Unary.{Unary}
use Rattle.slang_values.specs.declared.operators.Binary.{Binary}
use Rattle.slang_tree.specs.declared.expression.Operator.{Operator}
use Rattle.slang_tree.specs.declared.expression.Operator.TheVariants as o
use Rattle.validity.proofs.TypeOf.{type_of_typed}
use Rattle.program_trees.specs.declared.answer.Kind.TheVariants as kinds
use Rattle.program_trees.specs.Operators.{Evaluated, always, where_true, where_false, right_evaluated, divides, exchanged, negated, connective, connected}
use Rattle.program_trees.specs.Claims.{ClaimName, ClaimTree}
use Rattle.program_trees.specs.Programs as e
use Rattle.program_trees.specs.Programs.{TypedExpr, TypedExprs, claim_of, claims_of}
use Rattle.program_trees.specs.Variables.{Variable}
use Rattle.leg_rules.specs.Checks.{Demand, in_range, is_not_zero, guarded, demands, part_demands}

-- ---- no bound variable stands in an expression

connected_closed : {A : Type 0} (exchange negate : Bool) (op : Binary) (a b : Tree A) (n : ℕ) → IsClosed n a → IsClosed n b
    → IsClosed n (cond exchange (binary_tree op b a) (cond negate (unary_tree Unary.Not (binary_tree op a b)) (binary_tree op a b)))
connected_closed true negate op a b n h k = (k, h)
connected_closed false true op a b n h k = (h, k)
connected_closed false false op a b n h k = (h, k)

mutual
  pub expr_closed : (expr : TypedExpr Variable) (n : ℕ) → IsClosed n (claim_of expr)
  expr_closed (e.number node z) n = tt
  expr_closed (e.truth node b) n = tt
  expr_closed (e.variable node x) n = tt
  expr_closed (e.unary node op operand) n = expr_closed operand n
  expr_closed (e.binary node operator left right) n =
      connected_closed (exchanged operator) (negated operator) (connective operator) (claim_of left) (claim_of right) n (expr_closed left n) (expr_closed right n)
  expr_closed (e.read node head index) n = (expr_closed head n, expr_closed index n)
  expr_closed (e.update node head index element) n = (expr_closed head n, expr_closed index n, expr_closed element n)
  expr_closed (e.listed node front parts) n = exprs_closed parts n

  exprs_closed : (exprs : TypedExprs Variable) (n : ℕ) → AreClosed n (claims_of exprs)
  exprs_closed e.no_exprs n = tt
  exprs_closed (e.expr_then expr exprs) n = (expr_closed expr n, exprs_closed exprs n)

-- ---- the types of the parts

module _ (records : Records) (names : NameTypes (ClaimName Variable)) where
  abbrev HasSome : ClaimTree Variable → Type 0
  HasSome c = (t : ValueType) × IsTyped records names c t

  unary_part : (op : Unary) (c : ClaimTree Variable) (t : ValueType) → IsTyped records names (unary_tree op c) t → HasSome c
  unary_part Unary.Neg c t h = (number_type, h.1)
  unary_part Unary.Not c t h = (truth_type, h.1)
  unary_part Unary.Size c t h = (sequence_type (element_type (type_of records names c)), h.1)
  unary_part (Unary.Field k) c t h = (type_of records names c, h.1)

  abbrev IsGuard : Evaluated → ClaimTree Variable → Type 0
  IsGuard always c = Unit {0}
  IsGuard where_true c = IsTyped records names c truth_type
  IsGuard where_false c = IsTyped records names c truth_type

  abbrev IsDivisor : Bool → ClaimTree Variable → Type 0
  IsDivisor true c = IsTyped records names c number_type
  IsDivisor false c = Unit {0}

  binary_parts : (operator : Operator) (a b : ClaimTree Variable) (t : ValueType) → IsTyped records names (connected operator a b) t
      → HasSome a × HasSome b × IsGuard (right_evaluated operator) a × IsDivisor (divides operator) b
  binary_parts o.LooseImply a b t h = ((truth_type, h.1), (truth_type, h.2), tt, tt)
  binary_parts o.LooseCondImply a b t h = ((truth_type, h.1), (truth_type, h.2), h.1, tt)
  binary_parts o.Or a b t h = ((truth_type, h.1), (truth_type, h.2), tt, tt)
  binary_parts o.CondOr a b t h = ((truth_type, h.1), (truth_type, h.2), h.1, tt)
  binary_parts o.And a b t h = ((truth_type, h.1), (truth_type, h.2), tt, tt)
  binary_parts o.CondAnd a b t h = ((truth_type, h.1), (truth_type, h.2), h.1, tt)
  binary_parts o.Eq a b t h = ((type_of records names a, h.1), (type_of records names a, h.2), tt, tt)
  binary_parts o.Ne a b t h = ((type_of records names a, h.1.1), (type_of records names a, h.1.2), tt, tt)
  binary_parts o.Lt a b t h = ((number_type, h.1), (number_type, h.2), tt, tt)
  binary_parts o.Le a b t h = ((number_type, h.1), (number_type, h.2), tt, tt)
  binary_parts o.Gt a b t h = ((number_type, h.2), (number_type, h.1), tt, tt)
  binary_parts o.Ge a b t h = ((number_type, h.2), (number_type, h.1), tt, tt)
  binary_parts o.Append a b t h = ((t, h.1), (type_of records names b, h.2), tt, tt)
  binary_parts o.Imply a b t h = ((truth_type, h.1), (truth_type, h.2), tt, tt)
  binary_parts o.CondImply a b t h = ((truth_type, h.1), (truth_type, h.2), h.1, tt)
  binary_parts o.Add a b t h = ((number_type, h.1), (number_type, h.2), tt, tt)
  binary_parts o.Sub a b t h = ((number_type, h.1), (number_type, h.2), tt, tt)
  binary_parts o.Mul a b t h = ((number_type, h.1), (number_type, h.2), tt, tt)
  binary_parts o.Div a b t h = ((number_type, h.1), (number_type, h.2), tt, h.2)
  binary_parts o.Rem a b t h = ((number_type, h.1), (number_type, h.2), tt, h.2)

  -- ---- demands

  -- A demanded claim is a truth value, and no bound variable of it is loose.
  abbrev pub IsDemand : Demand Variable → Type 0
  IsDemand d = IsTyped records names d.claim truth_type × IsClosed 0 d.claim

  abbrev Demanded : List (Demand Variable) → Type 0
  Demanded ds = AllByRecursion IsDemand ds

  index_demand : (head index : TypedExpr Variable) (t : ValueType) → IsTyped records names (claim_of head) (sequence_type t)
      → IsTyped records names (claim_of index) number_type
      → IsTyped records names (in_range (claim_of head) (claim_of index)) truth_type × IsClosed 0 (in_range (claim_of head) (claim_of index))
  index_demand head index t h k =
      let is = type_of_typed records names (claim_of head) (sequence_type t) h in (
        (
          refl,
          (refl, refl, k),
          (
            refl,
            k,
            (refl, subst (λ s. IsTyped records names (claim_of head) (sequence_type (element_type s))) (sym is) h),
          ),
        ),
        ((tt, expr_closed index 0), (expr_closed index 0, expr_closed head 0)),
      )

  guarded_demands : (ev : Evaluated) (c : ClaimTree Variable) (ds : List (Demand Variable)) → IsClosed 0 c → IsGuard ev c → Demanded ds
      → Demanded (guarded ev c ds)
  guarded_demands always c ds closed guard h = h
  guarded_demands where_true c [] closed guard h = tt
  guarded_demands where_true c (d ∷ ds) closed guard h = (((refl, guard, h.0.0), (closed, h.0.1)), guarded_demands where_true c ds closed guard h.1)
  guarded_demands where_false c [] closed guard h = tt
  guarded_demands where_false c (d ∷ ds) closed guard h =
      (((refl, (refl, guard), h.0.0), (closed, h.0.1)), guarded_demands where_false c ds closed guard h.1)

  division_demand : (b : Bool) (node : ℕ) (c : ClaimTree Variable) → IsClosed 0 c → IsDivisor b c
      → Demanded (cond b (record { kind = kinds.Division; claim = is_not_zero c; node = node } ∷ []) [])
  division_demand true node c closed h =
      let is = type_of_typed records names c number_type h in
      (((refl, (refl, subst (λ s. IsTyped records names c s) (sym is) h, is)), (closed, tt)), tt)
  division_demand false node c closed h = tt

  mutual
    pub demands_typed : (expr : TypedExpr Variable) (t : ValueType) → IsTyped records names (claim_of expr) t → Demanded (demands expr)
    demands_typed (e.number node z) t h = tt
    demands_typed (e.truth node b) t h = tt
    demands_typed (e.variable node x) t h = tt
    demands_typed (e.unary node op operand) t h =
        let part = unary_part op (claim_of operand) t h in demands_typed operand part.0 part.1
    demands_typed (e.binary node operator left right) t h =
        let parts = binary_parts operator (claim_of left) (claim_of right) t h in
        all_append IsDemand (demands left) _ (demands_typed left parts.0.0 parts.0.1)
        (all_append IsDemand (guarded (right_evaluated operator) (claim_of left) (demands right)) _
        (guarded_demands (right_evaluated operator) (claim_of left) (demands right) (expr_closed left 0) parts.2
        (demands_typed right parts.1.0 parts.1.1))
        (division_demand (divides operator) node (claim_of right) (expr_closed right 0) parts.3))
    demands_typed (e.read node head index) t h =
        all_append IsDemand (demands head) _ (demands_typed head (sequence_type t) h.0)
        (all_append IsDemand (demands index) _ (demands_typed index number_type h.1) (index_demand head index t h.0 h.1, tt))
    demands_typed (e.update node head index element) t h =
        let r = type_of records names (claim_of element) in
        all_append IsDemand (demands head) _ (demands_typed head t h.1)
        (all_append IsDemand (demands index) _ (demands_typed index number_type h.2)
        (all_append IsDemand (demands element) _ (demands_typed element r h.3)
        (index_demand head index r (subst (λ s. IsTyped records names (claim_of head) s) h.0 h.1) h.2, tt)))
    demands_typed (e.listed node (sequence_of s) parts) t h = each_demands parts s h.2
    demands_typed (e.listed node (record_of n) parts) t h = parts_demands parts (fields records n) h.2

    each_demands : (exprs : TypedExprs Variable) (t : ValueType) → EachIsTyped records names (claims_of exprs) t → Demanded (part_demands exprs)
    each_demands e.no_exprs t h = tt
    each_demands (e.expr_then expr exprs) t h = all_append IsDemand (demands expr) _ (demands_typed expr t h.0) (each_demands exprs t h.1)

    parts_demands : (exprs : TypedExprs Variable) (ts : List ValueType) → AreTyped records names (claims_of exprs) ts → Demanded (part_demands exprs)
    parts_demands e.no_exprs ts h = tt
    parts_demands (e.expr_then expr exprs) [] h = absurd h
    parts_demands (e.expr_then expr exprs) (t ∷ ts) h = all_append IsDemand (demands expr) _ (demands_typed expr t h.0) (parts_demands exprs ts h.1)
