-- The rules of typing, tried on small projects: each statement is computed.
use Rattle.std.specs.Prelude.{◌≡◌, ℕ, pos, List, [], ◌∷◌, codes, None}
use Rattle.slang_values.specs.declared.operators.Quantifier.{Quantifier}
use Rattle.slang_tree.specs.declared.expression.Operator.TheVariants as o
use Rattle.slang_tree.specs.TypeTree.{z_name, sequence_name, record_name}
use Rattle.slang_tree.specs.ExprTree.{ExprTree}
use Rattle.slang_tree.specs.ExprTree as e
use Rattle.slang_tree.specs.declared.place.Place.{Place}
use Rattle.slang_tree.specs.declared.statement.Label.{Label}
use Rattle.slang_tree.specs.StmtTree.{line, no_steps, step_then, StmtTree, val, assignment, call, branch, assertion, deduction, stmts_of, else_then}
use Rattle.slang_tree.specs.DeclTree.{const_truth, const_number, const_record, consts_of, DeclTree}
use Rattle.type_rules.specs.Projects.{first_faults}
use Rattle.typing_examples.specs.Written.{at, word, f, g, x, y, one, applied, val_x, f_with, g_modifies, global_z, var_z, class_with, class_of_many, file_named, alone, told, only}

-- `x = 2`
abbrev pub assigned_x : StmtTree
assigned_x = assignment (word x (at 3 3)) (one (at 3 7))

-- `assert(claim)` in the second line
abbrev pub asserted : ExprTree → StmtTree
asserted claim = assertion (at 2 3) claim

-- `T + y == 1`, where `T` is no number
abbrev pub sum_of_y : ExprTree
sum_of_y = e.binary (at 2 10) o.Eq (e.binary (at 2 10) o.Add (e.truth (at 2 10)) (e.name y (at 2 14))) (one (at 2 19))

-- `All(0 until 1)(x => T)`
abbrev pub all_true : ExprTree
all_true = e.quantified (at 2 14) Quantifier.All (one (at 2 18)) (one (at 2 26)) (word x (at 2 30)) (e.truth (at 2 35))

abbrev pub val_y : ExprTree → StmtTree
val_y value = val (at 2 3) (word y (at 2 7)) None value

-- `if (T) { val x: Z = 1 } else { val x = T }`
abbrev pub siblings : StmtTree
siblings =
    branch (at 2 3) (e.truth (at 2 7)) (stmts_of (val_x (at 3 5) (one (at 3 14)) ∷ []))
    (else_then (stmts_of (val (at 5 5) (word x (at 5 9)) None (e.truth (at 5 13)) ∷ [])))

-- `@datatype class f(x: ISZ[g])` and `@datatype class g(x: f)`
abbrev pub around : List DeclTree
around =
    class_with f (at 1 17) (sequence_name (at 1 22) (record_name (word g (at 1 26))))
    ∷ class_with g (at 2 17) (record_name (word f (at 2 22))) ∷ []

abbrev pub label : ℕ → Place → Label
label number place = record { number = number; place = place }

-- a proof of one step, `1 (T) by rule` with labels cited
abbrev pub proved_by : List ℕ → List Label → StmtTree
proved_by rule cites = deduction (at 2 3) (step_then (line (label 1 (at 2 10)) (e.truth (at 2 13)) (word rule (at 2 19)) cites) no_steps)

abbrev pub repeated : StmtTree
repeated =
    deduction (at 2 3)
    (step_then (line (label 1 (at 2 10)) (e.truth (at 2 13)) (word (codes "Auto") (at 2 19)) [])
    (step_then (line (label 1 (at 2 25)) (e.truth (at 2 28)) (word (codes "Auto") (at 2 34)) []) no_steps))

-- a record of 100 numbers, and one of so many such records
abbrev pub hundreds : ℕ → List DeclTree
hundreds count =
    class_of_many f (at 1 17) 100 (λ place. z_name place)
    ∷ class_of_many g (at 1 17) count (λ place. record_name (word f place)) ∷ []

pub record TypingExamples : Type 0 where
  pub nothing : first_faults (alone []) ≡ []
  pub well_typed : first_faults (alone (var_z g ∷ f_with (val_x (at 2 3) (one (at 2 14)) ∷ asserted (e.truth (at 2 10)) ∷ []) ∷ [])) ≡ []
  -- a fault of each code
  pub unknown : first_faults (alone (f_with (asserted (e.name y (at 2 10)) ∷ []) ∷ [])) ≡ only 6 2 10
  pub duplicate : first_faults (alone (f_with (val_x (at 2 3) (one (at 2 14)) ∷ val_x (at 3 3) (one (at 3 14)) ∷ []) ∷ [])) ≡ only 7 3 7
  pub other_type : first_faults (alone (global_z x (const_truth (at 9 12)) ∷ [])) ≡ only 8 9 12
  pub other_count : first_faults (alone (f_with (call (word f (at 2 3)) (e.expr_then (one (at 2 5)) e.no_exprs) ∷ []) ∷ [])) ≡ only 9 2 3
  pub constant : first_faults (alone (f_with (val_x (at 2 3) (one (at 2 14)) ∷ assigned_x ∷ []) ∷ [])) ≡ only 10 3 3
  pub not_modified : first_faults (alone (var_z x ∷ f_with (assigned_x ∷ []) ∷ [])) ≡ only 11 3 3
  pub nested_call : first_faults (alone (f_with (asserted (applied f (at 2 10) []) ∷ []) ∷ [])) ≡ only 12 2 10
  pub quantifier : first_faults (alone (f_with (val_y all_true ∷ []) ∷ [])) ≡ only 15 2 14
  -- At one place the least code counts: a call that is nested has a wrong count of arguments, or changes what its caller does not.
  pub count_first : first_faults (alone (f_with (asserted (applied f (at 2 10) (one (at 2 12) ∷ [])) ∷ []) ∷ [])) ≡ only 9 2 10
  pub change_first : first_faults (alone (var_z x ∷ g_modifies (word x (at 1 20) ∷ [])
      ∷ f_with (val_y (e.minus (at 2 11) (applied g (at 2 12) [])) ∷ []) ∷ [])) ≡ only 11 2 12
  -- what holds a fault tells of none of its own, also where that would come first
  pub parts_first : first_faults (alone (f_with (asserted sum_of_y ∷ []) ∷ [])) ≡ only 6 2 14
  -- a call of a method of type `Unit` gives no value
  pub no_value : first_faults (alone (f_with (val_y (applied f (at 2 11) []) ∷ []) ∷ [])) ≡ only 8 2 11
  -- names
  pub shadowed : first_faults (alone (var_z x ∷ f_with (val_x (at 2 3) (one (at 2 14)) ∷ []) ∷ [])) ≡ only 7 2 7
  pub siblings_share : first_faults (alone (f_with (siblings ∷ []) ∷ [])) ≡ []
  pub method_as_value : first_faults (alone (f_with (val_y (e.name f (at 2 11)) ∷ []) ∷ [])) ≡ only 8 2 11
  -- records
  pub around_itself : first_faults (alone around) ≡ only 8 1 22
  pub no_class : first_faults (alone (f_with [] ∷ global_z x (const_record (word f (at 9 12)) (consts_of [])) ∷ [])) ≡ only 12 9 12
  -- each of the fields brings 101 parts
  pub nine_hundreds : first_faults (alone (hundreds 9)) ≡ []
  pub eleven_hundreds : first_faults (alone (hundreds 11)) ≡ only 8 1 9
  -- what a method modifies
  pub modified_twice : first_faults (alone (var_z x ∷ g_modifies (word x (at 1 20) ∷ word x (at 1 23) ∷ []) ∷ [])) ≡ only 7 1 23
  pub modified_constant : first_faults (alone (global_z x (const_number (at 9 12) (pos 0)) ∷ g_modifies (word x (at 1 20) ∷ []) ∷ [])) ≡ only 10 1 20
  -- words of claims
  pub result_in_body : first_faults (alone (f_with (asserted (e.result (at 2 10) None) ∷ []) ∷ [])) ≡ only 15 2 10
  pub entry_in_body : first_faults (alone (var_z x ∷ f_with (asserted (e.entry_value (at 2 10) (word x (at 2 13))) ∷ []) ∷ [])) ≡ only 15 2 10
  pub old_in_body : first_faults (alone (var_z x ∷ f_with (asserted (e.old_value (at 2 10) (word x (at 2 14))) ∷ []) ∷ [])) ≡ only 15 2 10
  -- steps of proofs
  pub proved : first_faults (alone (f_with (proved_by (codes "Auto") [] ∷ []) ∷ [])) ≡ []
  pub no_rule : first_faults (alone (f_with (proved_by x [] ∷ []) ∷ [])) ≡ only 6 2 19
  pub one_cited : first_faults (alone (f_with (proved_by (codes "AndI") (label 2 (at 2 24) ∷ []) ∷ []) ∷ [])) ≡ only 9 2 19
  pub label_twice : first_faults (alone (f_with (repeated ∷ []) ∷ [])) ≡ only 7 2 25
  -- several files, in the order of their names, one fault for each
  pub files : first_faults (file_named (codes "b.sc") (global_z x (const_truth (at 9 12)) ∷ [])
      ∷ file_named (codes "a.sc") (var_z x ∷ f_with (asserted (e.name y (at 2 10)) ∷ []) ∷ []) ∷ [])
      ≡ told (codes "a.sc") 6 2 10 ∷ told (codes "b.sc") 7 9 5 ∷ []
