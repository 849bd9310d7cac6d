-- The program with a call is well typed, and so it is made.
use Rattle.std.proofs.Common.{◌≡◌, ℕ, Bool, List, [], ◌∷◌, map, length, sym, subst}
use Rattle.slang_values.specs.Value.{unit_type, number_type}
use Rattle.program_trees.specs.Programs.{ProgramTree}
use Rattle.program_trees.specs.Variables.{with_kinds}
use Rattle.lk_claims.specs.Claim.{value_type}
use Rattle.lk_programs.specs.declared.program.Global.{Global}
use Rattle.lk_programs.specs.declared.program.Method.{Method}
use Rattle.lk_programs.specs.declared.program.NodePlace.{NodePlace}
use Rattle.lk_programs.specs.declared.program.Noted.{Noted}
use Rattle.lk_programs.specs.declared.program.RecordTy.{RecordTy}
use Rattle.lk_programs.specs.Program.{code_trees, field_types, global_tree, method_tree, noted_tree, record_types, program_over, IsTypedOver}
use Rattle.typed_programs.specs.WellTyped.{IsTypedProgram}
use Rattle.typed_programs.proofs.Examples.{program_examples}
use Rattle.leg_tests.specs.Calls.{counter, body_of, name_of, method_of, two_methods}

two_typed : IsTypedProgram (with_kinds two_methods) (0 ∷ []) 1
two_typed = program_examples.counts_is

pub calling_is : (m : Method) (calls : Bool) → m.name ≡ name_of calls → m.node.0 ≡ 0 → field_types m.params ≡ number_type ∷ [] →
    value_type m.result ≡ unit_type → m.requires_ ≡ [] → m.modifies ≡ 0 ∷ [] → m.ensures_ ≡ [] → map value_type m.locals ≡ number_type ∷ [] →
    code_trees m.body ≡ body_of calls → method_tree m ≡ method_of calls
calling_is m calls name node params result requires_ modifies ensures_ locals body = λ i. record {
  name = name i;
  node = node i;
  params = params i;
  result = result i;
  requires_ = map noted_tree (requires_ i);
  modifies = modifies i;
  ensures_ = map noted_tree (ensures_ i);
  locals = locals i;
  body = body i;
}

pub two_are : (records : List RecordTy) (globals : List Global) (methods : List Method) (nodes : List NodePlace) (files : List (List ℕ)) → records ≡ [] →
    map global_tree globals ≡ counter ∷ [] → map method_tree methods ≡ two_methods.methods → map (λ node. node.file) nodes ≡ 0 ∷ [] → length files ≡ 1 →
    IsTypedOver (program_over records globals methods) nodes files
two_are records globals methods nodes files a b c d e =
    let whole : program_over records globals methods ≡ two_methods = λ i. record { records = record_types (a i); globals = b i; methods = c i } in
    subst (λ p. IsTypedProgram (with_kinds p) (map (λ node. node.file) nodes) (length files)) (sym whole)
    (subst (λ ns. IsTypedProgram (with_kinds two_methods) ns (length files)) (sym d)
    (subst (λ k. IsTypedProgram (with_kinds two_methods) (0 ∷ []) k) (sym e) two_typed))
