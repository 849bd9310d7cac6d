-- The program is well typed, and so it is made.
use Rattle.std.proofs.Common.{◌≡◌, nat_eq, ℕ, zero, suc, ◌+◌, List, [], ◌∷◌, ◌++◌, map, refl, arith, length, ap, ap₂, sym, ◌∙◌, subst}
use Rattle.std.proofs.lemmas.Cmp.{nat_eq_equiv}
use Rattle.std.proofs.lemmas.Map.Made.{IsDistinct-from_count}
use Rattle.std.specs.List.{IsDistinct}
use Rattle.slang_values.specs.Value.{AreWellFormed, unit_type, truth_type}
use Rattle.program_trees.specs.Programs.{CodeTree, code_then, renamed_codes, renamed_method}
use Rattle.program_trees.specs.Variables.{variable_of, with_kinds}
use Rattle.lk_claims.specs.Claim.{value_type}
use Rattle.lk_programs.specs.declared.program.Global.{Global}
use Rattle.lk_programs.specs.declared.program.Method.{Method}
use Rattle.lk_programs.specs.declared.program.NodePlace.{NodePlace}
use Rattle.lk_programs.specs.declared.program.RecordTy.{RecordTy}
use Rattle.lk_programs.specs.Program.{code_trees, codes_of, field_types, global_tree, method_tree, noted_tree, record_types, program_over, IsTypedOver}
use Rattle.typed_programs.specs.WellTyped.{goes_on, AreTypedCodes, around_body, IsTypedMethod, IsTypedProgram}
use Rattle.leg_tests.specs.Programs.{if_b, branches, ensures_b, branching, program}

no_records : AreWellFormed []
no_records = record { known = λ n h. absurd (omega (arith, h)); finite = λ n h. absurd (omega (arith, h)); small = λ n h. absurd (omega (arith, h)) }

none_twice : IsDistinct nat_eq []
none_twice = IsDistinct-from_count nat_eq_equiv [] refl

-- the body, up to that statement
body_typed : (n k : ℕ) →
    AreTypedCodes goes_on (around_body (with_kinds (program n)) 1 (renamed_method (variable_of 1 0) (branching n))) (renamed_codes (variable_of 1 0)
    (branches k))
body_typed n zero = tt
body_typed n (suc k) = (
  (omega arith, record { typed = refl; elements = refl; low = omega arith; nodes = (omega arith, tt) }, tt, tt),
  body_typed n k,
)

method_typed : (n : ℕ) → IsTypedMethod (with_kinds (program n)) 1 (renamed_method (variable_of 1 0) (branching n))
method_typed n = record {
  node = omega arith;
  params = refl;
  locals = refl;
  result_type = refl;
  modifies = refl;
  once = none_twice;
  requires_ = tt;
  ensures_ = (record { claim = record { typed = refl; closed = tt; elements = refl; low = omega arith }; node = omega arith }, tt);
  body = body_typed n n;
}

pub program_typed : (n : ℕ) → IsTypedProgram (with_kinds (program n)) (0 ∷ []) 1
program_typed n = record {
  records = no_records;
  fields = tt;
  globals = tt;
  methods = (method_typed n, tt);
  sorted = tt;
  node_files_there = (omega arith, tt);
}

-- ---- one statement more

all_alike : (codes : List (CodeTree ℕ)) (k : ℕ) → codes_of codes ≡ branches k → codes_of (codes ++ if_b ∷ []) ≡ branches (suc k)
all_alike [] zero e = refl
all_alike [] (suc k) e = cc
all_alike (code ∷ codes) zero e = cc
all_alike (code ∷ codes) (suc k) e =
    let first : code ≡ if_b = cc in
    let rest : codes_of codes ≡ branches k = cc in
    ap₂ code_then first (all_alike codes k rest)

pub one_more : (codes : List (CodeTree ℕ)) (k : ℕ) (code : CodeTree ℕ) → code ≡ if_b → codes_of codes ≡ branches k →
    codes_of (codes ++ code ∷ []) ≡ branches (k + 1)
one_more codes k code e h =
    let next : suc k ≡ k + 1 = omega arith in
    ap (λ c. codes_of (codes ++ c ∷ [])) e ∙ all_alike codes k h ∙ ap branches next

-- ---- what is made

pub method_is : (m : Method) (n : ℕ) → m.name ≡ 109 ∷ [] → m.node.0 ≡ 0 → field_types m.params ≡ truth_type ∷ [] → value_type m.result ≡ unit_type →
    m.requires_ ≡ [] →
    m.modifies ≡ [] → map noted_tree m.ensures_ ≡ ensures_b ∷ [] → map value_type m.locals ≡ truth_type ∷ [] → code_trees m.body ≡ branches n →
    method_tree m ≡ branching n
method_is m n name node params result requires_ modifies ensures_ locals body = λ i. record {
  name = name i;
  node = node i;
  params = params i;
  result = result i;
  requires_ = map noted_tree (requires_ i);
  modifies = modifies i;
  ensures_ = ensures_ i;
  locals = locals i;
  body = body i;
}

pub program_is : (n : ℕ) (records : List RecordTy) (globals : List Global) (methods : List Method) (nodes : List NodePlace) (files : List (List ℕ)) →
    records ≡ [] → globals ≡ [] →
    map method_tree methods ≡ branching n ∷ [] → map (λ node. node.file) nodes ≡ 0 ∷ [] → length files ≡ 1 →
    IsTypedOver (program_over records globals methods) nodes files
program_is n records globals methods nodes files a b c d e =
    let whole : program_over records globals methods ≡ program n = λ i. record {
      records = record_types (a i);
      globals = map global_tree
          (b i);
      methods = c i;
    } in
    subst (λ p. IsTypedProgram (with_kinds p) (map (λ node. node.file) nodes) (length files)) (sym whole)
    (subst (λ ns. IsTypedProgram (with_kinds (program n)) ns (length files)) (sym d)
    (subst (λ k. IsTypedProgram (with_kinds (program n)) (0 ∷ []) k) (sym e) (program_typed n)))
