-- An expression does not fail where its demands hold.
use Rattle.std.proofs.Common.{◌≡◌, ℕ, pos, Bool, true, false, not, cond, List, [], ◌∷◌, ◌++◌, Option, None, refl, sym, ap, ◌∙◌, subst}
use Rattle.std.specs.Prelude.{◌&&◌, ◌||◌}
use Rattle.std.specs.Ordering.{int_eq}
use Rattle.std.specs.List.{AllByRecursion}
use Rattle.std.proofs.lemmas.Bool.{false≢true}
use Rattle.slang_values.specs.Value.{ValueType, number_type, truth_type, sequence_type, element_type, Records, fields, AreWellFormed, Value, unit, number, truth, sequence, record_value, number_of, same_value, HasType}
use Rattle.slang_values.specs.Typing.{NameTypes, type_of, IsTyped, EachIsTyped, AreTyped, FitNames}
use Rattle.slang_values.specs.Tree.{Tree, Listed, sequence_of, record_of, unary, binary, listed}
use Rattle.slang_values.specs.declared.operators.Unary.{Unary}
use Rattle.slang_values.specs.declared.operators.Binary.{Binary}
use Rattle.slang_values.proofs.Typed.{HasType-value}
use Rattle.validity.specs.Validity.{no_bounds}
use Rattle.validity.specs.Bind.{EachName, EachNameOfAll}
use Rattle.program_trees.specs.declared.answer.Kind.{Kind}
use Rattle.program_trees.specs.declared.answer.Kind.TheVariants as kinds
use Rattle.slang_tree.specs.declared.expression.Operator.{Operator}
use Rattle.slang_tree.specs.declared.expression.Operator.TheVariants as o
use Rattle.program_trees.specs.Operators.{Evaluated, always, where_true, where_false, right_evaluated, divides, exchanged, negated, connected}
use Rattle.program_trees.specs.Claims.{ClaimName, variable, old_variable, let_symbol, ClaimTree}
use Rattle.program_trees.specs.Programs as e
use Rattle.program_trees.specs.Programs.{TypedExpr, TypedExprs, claim_of, claims_of, MethodTree, ProgramTree}
use Rattle.program_trees.specs.Variables.{Variable, variable_types}
use Rattle.run_rules.specs.Values.{Values, name_value, claim_value, is_true}
use Rattle.run_rules.specs.Evaluation.{Failure, first_of, fails_where, is_evaluated, is_in_range, failing, failing_part}
use Rattle.leg_rules.specs.Checks.{Demand, guarded, own_division, is_not_zero, in_range, demands, part_demands}
use Rattle.leg_soundness.specs.Scopes.{Scope, scope_types, claim_types, IsOf}
use Rattle.leg_soundness.proofs.Names.{shown_type}

pub all_left : {A : Type 0} (P : A → Type 0) (xs ys : List A) → AllByRecursion P (xs ++ ys) → AllByRecursion P xs
all_left P [] ys h = tt
all_left P (x ∷ xs) ys h = (h.0, all_left P xs ys h.1)

pub all_right : {A : Type 0} (P : A → Type 0) (xs ys : List A) → AllByRecursion P (xs ++ ys) → AllByRecursion P ys
all_right P [] ys h = h
all_right P (x ∷ xs) ys h = all_right P xs ys h.1

pub all_both : {A : Type 0} (P : A → Type 0) (xs ys : List A) → AllByRecursion P xs → AllByRecursion P ys → AllByRecursion P (xs ++ ys)
all_both P [] ys h k = k
all_both P (x ∷ xs) ys h k = (h.0, all_both P xs ys h.1 k)

-- ---- the demands name only what the expression does

module _ (P : ClaimName Variable → Type 0) where
  connected_parts : (exchange negate : Bool) (op : Binary) (a b : ClaimTree Variable)
      → EachName P (cond exchange (binary op b a) (cond negate (unary Unary.Not (binary op a b)) (binary op a b))) → EachName P a × EachName P b
  connected_parts true n op a b h = (h.1, h.0)
  connected_parts false true op a b h = h
  connected_parts false false op a b h = h

  abbrev pub Named : Demand Variable → Type 0
  Named d = EachName P d.claim

  guarded_named : (ev : Evaluated) (c : ClaimTree Variable) (ds : List (Demand Variable)) → EachName P c → AllByRecursion Named ds → AllByRecursion Named
      (guarded ev c ds)
  guarded_named always c ds h k = k
  guarded_named where_true c [] h k = tt
  guarded_named where_true c (d ∷ ds) h k = ((h, k.0), guarded_named where_true c ds h k.1)
  guarded_named where_false c [] h k = tt
  guarded_named where_false c (d ∷ ds) h k = ((h, k.0), guarded_named where_false c ds h k.1)

  division_named : (b : Bool) (node : ℕ) (c : ClaimTree Variable) → EachName P c
      → AllByRecursion Named (cond b (record { kind = kinds.Division; claim = is_not_zero c; node = node } ∷ []) [])
  division_named true node c h = ((h, tt), tt)
  division_named false node c h = tt

  mutual
    pub demands_named : (expr : TypedExpr Variable) → EachName P (claim_of expr) → AllByRecursion Named (demands expr)
    demands_named (e.number node z) h = tt
    demands_named (e.truth node b) h = tt
    demands_named (e.variable node x) h = tt
    demands_named (e.unary node op operand) h = demands_named operand h
    demands_named (e.binary node operator left right) h =
        let both = connected_parts (exchanged operator) (negated operator) _ (claim_of left) (claim_of right) h in
        all_both Named (demands left) _ (demands_named left both.0)
        (all_both Named (guarded (right_evaluated operator) (claim_of left) (demands right)) _
        (guarded_named (right_evaluated operator) (claim_of left) (demands right) both.0 (demands_named right both.1))
        (division_named (divides operator) node (claim_of right) both.1))
    demands_named (e.read node head index) h =
        all_both Named (demands head) _ (demands_named head h.0) (all_both Named (demands index) _ (demands_named index h.1) (((tt, h.1), (h.1, h.0)), tt))
    demands_named (e.update node head index element) h =
        all_both Named (demands head) _ (demands_named head h.0)
        (all_both Named (demands index) _ (demands_named index h.1) (all_both Named (demands element) _ (demands_named element h.2) (
          (
            (tt, h.1),
            (h.1, h.0),
          ),
          tt,
        )))
    demands_named (e.listed node front parts) h = part_demands_named parts h

    part_demands_named : (exprs : TypedExprs Variable) → EachNameOfAll P (claims_of exprs) → AllByRecursion Named (part_demands exprs)
    part_demands_named e.no_exprs h = tt
    part_demands_named (e.expr_then expr exprs) h = all_both Named (demands expr) _ (demands_named expr h.0) (part_demands_named exprs h.1)

-- ---- the parts of a typed expression

module _ {A : Type 0} (records : Records) (types : NameTypes A) where
  -- the operands of an operator are typed, and a divisor is a number
  abbrev pub AreOperands : Bool → Tree A → Tree A → Type 0
  AreOperands division a b =
      (t : ValueType) × (u : ValueType) × IsTyped records types a t × IsTyped records types b u × (division ≡ true → u ≡ number_type)

  undivided : (a b : Tree A) (t u : ValueType) → IsTyped records types a t → IsTyped records types b u → AreOperands false a b
  undivided a b t u h k = (t, u, h, k, λ division. absurd (false≢true division))

  pub operands_typed : (operator : Operator) (a b : Tree A) (t : ValueType) → IsTyped records types (connected operator a b) t
      → AreOperands (divides operator) a b
  operands_typed o.LooseImply a b t h = undivided a b truth_type truth_type h.1 h.2
  operands_typed o.LooseCondImply a b t h = undivided a b truth_type truth_type h.1 h.2
  operands_typed o.Or a b t h = undivided a b truth_type truth_type h.1 h.2
  operands_typed o.CondOr a b t h = undivided a b truth_type truth_type h.1 h.2
  operands_typed o.And a b t h = undivided a b truth_type truth_type h.1 h.2
  operands_typed o.CondAnd a b t h = undivided a b truth_type truth_type h.1 h.2
  operands_typed o.Eq a b t h = undivided a b (type_of records types a) (type_of records types a) h.1 h.2
  operands_typed o.Ne a b t h = undivided a b (type_of records types a) (type_of records types a) h.1.1 h.1.2
  operands_typed o.Lt a b t h = undivided a b number_type number_type h.1 h.2
  operands_typed o.Le a b t h = undivided a b number_type number_type h.1 h.2
  operands_typed o.Gt a b t h = undivided a b number_type number_type h.2 h.1
  operands_typed o.Ge a b t h = undivided a b number_type number_type h.2 h.1
  operands_typed o.Append a b t h = undivided a b t (type_of records types b) h.1 h.2
  operands_typed o.Imply a b t h = undivided a b truth_type truth_type h.1 h.2
  operands_typed o.CondImply a b t h = undivided a b truth_type truth_type h.1 h.2
  operands_typed o.Add a b t h = undivided a b number_type number_type h.1 h.2
  operands_typed o.Sub a b t h = undivided a b number_type number_type h.1 h.2
  operands_typed o.Mul a b t h = undivided a b number_type number_type h.1 h.2
  operands_typed o.Div a b t h = (number_type, number_type, h.1, h.2, λ division. refl)
  operands_typed o.Rem a b t h = (number_type, number_type, h.1, h.2, λ division. refl)

  abbrev pub HasSomeType : Tree A → Type 0
  HasSomeType a = (t : ValueType) × IsTyped records types a t

  pub operand_typed : (op : Unary) (a : Tree A) (t : ValueType) → IsTyped records types (unary op a) t → HasSomeType a
  operand_typed Unary.Neg a t h = (number_type, h.1)
  operand_typed Unary.Not a t h = (truth_type, h.1)
  operand_typed Unary.Size a t h = (sequence_type (element_type (type_of records types a)), h.1)
  operand_typed (Unary.Field k) a t h = (type_of records types a, h.1)

module _ (records : Records) (types : NameTypes (ClaimName Variable)) where
  -- each part has a type
  abbrev pub HaveSomeTypes : TypedExprs Variable → Type 0
  HaveSomeTypes e.no_exprs = Unit {0}
  HaveSomeTypes (e.expr_then expr exprs) = HasSomeType records types (claim_of expr) × HaveSomeTypes exprs

  elements_typed : (exprs : TypedExprs Variable) (t : ValueType) → EachIsTyped records types (claims_of exprs) t → HaveSomeTypes exprs
  elements_typed e.no_exprs t h = tt
  elements_typed (e.expr_then expr exprs) t h = ((t, h.0), elements_typed exprs t h.1)

  fields_typed : (exprs : TypedExprs Variable) (ts : List ValueType) → AreTyped records types (claims_of exprs) ts → HaveSomeTypes exprs
  fields_typed e.no_exprs ts h = tt
  fields_typed (e.expr_then expr exprs) [] h = absurd h
  fields_typed (e.expr_then expr exprs) (t ∷ ts) h = ((t, h.0), fields_typed exprs ts h.1)

  pub parts_typed : (front : Listed) (exprs : TypedExprs Variable) (t : ValueType) → IsTyped records types (listed front (claims_of exprs)) t
      → HaveSomeTypes exprs
  parts_typed (sequence_of s) exprs t h = elements_typed exprs s h.2
  parts_typed (record_of n) exprs t h = fields_typed exprs (fields records n) h.2

-- ---- no failure

pub first_none : (a b : Option Failure) → a ≡ None → b ≡ None → first_of a b ≡ None
first_none a b h k = ap (λ o. first_of o b) h ∙ k

where_evaluated : (b : Bool) (o : Option Failure) → (b ≡ true → o ≡ None) → cond b o None ≡ None
where_evaluated true o h = h refl
where_evaluated false o h = refl

imply_holds : (b d : Bool) → (not b || d) ≡ true → b ≡ true → d ≡ true
imply_holds true d h k = h
imply_holds false d h k = absurd (false≢true k)

not_fails : (b : Bool) (kind : Kind) (node : ℕ) → b ≡ true → fails_where (not b) kind node ≡ None
not_fails true kind node h = refl
not_fails false kind node h = absurd (false≢true h)

no_division : (b : Bool) (kind : Kind) (node : ℕ) → b ≡ false → fails_where b kind node ≡ None
no_division true kind node h = absurd (false≢true (sym h))
no_division false kind node h = refl

not_true : (b : Bool) → not b ≡ true → b ≡ false
not_true true h = absurd (false≢true h)
not_true false h = refl

-- a number is 0 where it equals the number 0
zero_of : (records : Records) (v : Value) → HasType records v number_type → same_value v (number (pos 0)) ≡ false → int_eq (number_of v) (pos 0) ≡ false
zero_of records unit t h = absurd (cc)
zero_of records (number z) t h = h
zero_of records (truth b) t h = absurd (cc)
zero_of records (sequence s vs) t h = absurd (let q = t.0 in cc)
zero_of records (record_value n vs) t h = absurd (let q = t.0 in cc)

module _ (program : ProgramTree Variable) (method : MethodTree Variable) (formed : AreWellFormed program.records) (scope : Scope) (values : Values)
    (fit : FitNames program.records (variable_types program method) values) where
  abbrev pub Holds : Demand Variable → Type 0
  Holds d = is_true program.records values d.claim ≡ true

  pub fit_claims : FitNames program.records (claim_types (scope_types program method scope)) (name_value values)
  fit_claims (variable x) t h = fit x t (shown_type (scope x) t (variable_types program method x) h)
  fit_claims (old_variable x) t h = absurd (cc)
  fit_claims (let_symbol label) t h = absurd (cc)

  -- the value of a claim has its type
  pub typed_value : (claim : ClaimTree Variable) (t : ValueType) → IsOf program method scope t claim → HasType program.records
      (claim_value program.records values claim) t
  typed_value claim t h =
      HasType-value program.records formed (claim_types (scope_types program method scope)) (name_value values) fit_claims claim t no_bounds h

  guarded_holds : (ev : Evaluated) (c : ClaimTree Variable) (ds : List (Demand Variable)) → AllByRecursion Holds (guarded ev c ds)
      → is_evaluated ev (is_true program.records values c) ≡ true → AllByRecursion Holds ds
  guarded_holds always c ds h k = h
  guarded_holds where_true c [] h k = tt
  guarded_holds where_true c (d ∷ ds) h k = (imply_holds _ _ h.0 k, guarded_holds where_true c ds h.1 k)
  guarded_holds where_false c [] h k = tt
  guarded_holds where_false c (d ∷ ds) h k = (imply_holds _ _ h.0 k, guarded_holds where_false c ds h.1 k)

  not_by_zero : (b : Bool) (node : ℕ) (c : ClaimTree Variable) → (b ≡ true → IsOf program method scope number_type c)
      → AllByRecursion Holds (cond b (record { kind = kinds.Division; claim = is_not_zero c; node = node } ∷ []) [])
      → (b && int_eq (number_of (claim_value program.records values c)) (pos 0)) ≡ false
  not_by_zero true node c t h = zero_of program.records (claim_value program.records values c) (typed_value c number_type (t refl)) (not_true _ h.0)
  not_by_zero false node c t h = refl

  abbrev types : NameTypes (ClaimName Variable)
  types = claim_types (scope_types program method scope)

  mutual
    pub never_fails : (expr : TypedExpr Variable) (t : ValueType) → IsOf program method scope t (claim_of expr) → AllByRecursion Holds (demands expr)
        → failing program.records values expr ≡ None
    never_fails (e.number node z) t typed h = refl
    never_fails (e.truth node b) t typed h = refl
    never_fails (e.variable node x) t typed h = refl
    never_fails (e.unary node op operand) t typed h =
        let part = operand_typed program.records types op (claim_of operand) t typed in
        never_fails operand part.0 part.1 h
    never_fails (e.binary node operator left right) t typed h =
        let parts = operands_typed program.records types operator (claim_of left) (claim_of right) t typed in
        let guards = guarded (right_evaluated operator) (claim_of left) (demands right) in
        let own = own_division node operator (claim_of right) in
        let rest = all_right Holds (demands left) (guards ++ own) h in
        first_none _ _ (never_fails left parts.0 parts.2 (all_left Holds (demands left) (guards ++ own) h))
        (first_none _ _
        (where_evaluated (is_evaluated (right_evaluated operator) (is_true program.records values (claim_of left))) (failing program.records values right)
        (λ evaluated. never_fails right parts.1 parts.3 (guarded_holds (right_evaluated operator) (claim_of left) (demands right)
        (all_left Holds guards own rest) evaluated)))
        (no_division _ kinds.Division node (not_by_zero (divides operator) node (claim_of right)
        (λ division. subst (λ u. IsOf program method scope u (claim_of right)) (parts.4 division) parts.3) (all_right Holds guards own rest))))
    never_fails (e.read node head index) t typed h =
        let own = record { kind = kinds.Index; claim = in_range (claim_of head) (claim_of index); node = node } ∷ [] in
        let rest = all_right Holds (demands head) (demands index ++ own) h in
        first_none _ _ (never_fails head (sequence_type t) typed.0 (all_left Holds (demands head) (demands index ++ own) h))
        (first_none _ _ (never_fails index number_type typed.1 (all_left Holds (demands index) own rest))
        (not_fails (is_in_range program.records values head index) kinds.Index node (all_right Holds (demands index) own rest).0))
    never_fails (e.update node head index element) t typed h =
        let own = record { kind = kinds.Index; claim = in_range (claim_of head) (claim_of index); node = node } ∷ [] in
        let rest = all_right Holds (demands head) (demands index ++ (demands element ++ own)) h in
        let last = all_right Holds (demands index) (demands element ++ own) rest in
        first_none _ _ (never_fails head t typed.1 (all_left Holds (demands head) (demands index ++ (demands element ++ own)) h))
        (first_none _ _ (never_fails index number_type typed.2 (all_left Holds (demands index) (demands element ++ own) rest))
        (first_none _ _
        (never_fails element (type_of program.records types (claim_of element)) typed.3 (all_left Holds (demands element) own last))
        (not_fails (is_in_range program.records values head index) kinds.Index node (all_right Holds (demands element) own last).0)))
    never_fails (e.listed node front parts) t typed h = never_fails_part parts (parts_typed program.records types front parts t typed) h

    never_fails_part : (exprs : TypedExprs Variable) → HaveSomeTypes program.records types exprs → AllByRecursion Holds (part_demands exprs)
        → failing_part program.records values exprs ≡ None
    never_fails_part e.no_exprs typed h = refl
    never_fails_part (e.expr_then expr exprs) typed h =
        first_none _ _ (never_fails expr typed.0.0 typed.0.1 (all_left Holds (demands expr) (part_demands exprs) h)) (never_fails_part exprs typed.1
        (all_right Holds (demands expr) (part_demands exprs) h))
