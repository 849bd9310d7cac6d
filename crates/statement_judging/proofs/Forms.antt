-- Each form of a statement, from what is wrong with its parts.
use Rattle.std.proofs.Common.{◌≡◌, ℕ, ◌+◌, Bool, true, false, Option, List, [], ◌++◌, sym, ap, subst, arith}
use Rattle.std.specs.Prelude.{Result, Ok, Err, OnOk}
use Rattle.std.specs.Option.{option_map}
use Rattle.slang_values.specs.Value.{truth_type}
use Rattle.slang_tree.specs.declared.place.Place.{Place}
use Rattle.slang_tree.specs.declared.place.Fault.{Fault}
use Rattle.slang_tree.specs.declared.expression.Name.{Name}
use Rattle.slang_tree.specs.TypeTree.{TypeTree}
use Rattle.slang_tree.specs.ExprTree.{ExprTree}
use Rattle.slang_tree.specs.StmtTree.{StmtTree, StmtTrees, ElseTree, no_else, else_then, branch, loop}
use Rattle.type_rules.specs.Meanings.{Scope, is_var, with_local, within}
use Rattle.type_rules.specs.Judged.{faults_against}
use Rattle.type_rules.specs.Expressions.{in_claim, in_program, judged, judged_right}
use Rattle.type_rules.specs.Steps.{new_name_faults}
use Rattle.type_rules.specs.Statements.{behind, claims_faults, else_count, else_faults, local_counts, modifies_faults, past_locals, stmt_faults, stmts_faults, texts, value_faults}
use Rattle.type_faults.specs.FirstFault.{with_first}
use Rattle.text_types.specs.declared.text_type.TextType.{TextType}
use Rattle.text_types.specs.TextType.{text_value}
use Rattle.text_types.proofs.Parts.{with_none}
use Rattle.name_scopes.specs.declared.scope.NameScope.{NameScope}
use Rattle.name_scopes.specs.Fits.{Fits}
use Rattle.step_judging.proofs.StepFaults.{told_two}
use Rattle.value_judging.specs.IsDeclared.{IsDeclared}
use Rattle.statement_judging.specs.Declaration.{declaration}
use Rattle.statement_judging.specs.Judged.{IsBlock, IsElse, IsStatement}
use Rattle.statement_judging.proofs.Behind.{past_two}

-- two facts of one result
pub on_ok_both : {T E P Q R : Type 0} (result : Result T E) → (P → Q → R) → OnOk result P → OnOk result Q → OnOk result R
on_ok_both (Ok value) f p q = f p q
on_ok_both (Err error) f p q = tt

-- ---- statements that declare nothing

-- behind which the scope is the one before them
pub same_scope : (old new : NameScope) (a c : Option Fault) (at : Scope) (stmt : StmtTree) →
    at ≡ behind at stmt → Fits old at → new ≡ old → c ≡ with_first a (stmt_faults at stmt) → IsStatement new a c at stmt
same_scope old new a c at stmt is fits same told = record {
  told = told;
  fits = subst (λ s. Fits s (behind at stmt)) (sym same) (subst (Fits old) is fits);
}

-- ---- declarations

pub declaration_judged : (changes : Bool) (new : NameScope) (a b c : Option Fault) (at : Scope) (place : Place) (written : Name) (ty : Option TypeTree) (value : ExprTree)
    (type : Option TextType) →
    b ≡ with_first a (new_name_faults at written) → IsDeclared b c type at ty (judged_right at value) →
    Fits new (with_local at written.text changes (option_map text_value type)) → IsStatement new a c at (declaration changes place written ty value)
declaration_judged true new a b c at place written ty value type name declared fits = record {
  told = told_two a b c (new_name_faults at written) (value_faults at ty (judged_right at value)) name declared.told;
  fits = subst (λ t. Fits new (with_local at written.text true t)) declared.is fits;
}
declaration_judged false new a b c at place written ty value type name declared fits = record {
  told = told_two a b c (new_name_faults at written) (value_faults at ty (judged_right at value)) name declared.told;
  fits = subst (λ t. Fits new (with_local at written.text false t)) declared.is fits;
}

-- ---- statements with blocks

no_locals : (n : ℕ) → n ≡ n + 0
no_locals n = omega arith

pub else_missing : (known : NameScope) (told : Option Fault) (at : Scope) → Fits known at → IsElse known told told at no_else
else_missing known told at fits = record {
  told = sym (with_none told);
  fits = subst (Fits known) (ap (λ (n : ℕ). record at { locals = n }) (no_locals at.locals)) fits;
}

pub else_block : (known : NameScope) (a c : Option Fault) (at : Scope) (stmts : StmtTrees) → IsBlock known a c at stmts → IsElse known a c at (else_then stmts)
else_block known a c at stmts block = record { told = block.told; fits = block.fits }

pub branch_judged : (a b c d : Option Fault) (inner new : NameScope) (at : Scope) (place : Place) (test : ExprTree) (on_true : StmtTrees) (otherwise : ElseTree) →
    b ≡ with_first a (faults_against truth_type (judged at in_program test)) → IsBlock inner b c at on_true →
    IsElse new c d (past_locals at (local_counts on_true)) otherwise → IsStatement new a d at (branch place test on_true otherwise)
branch_judged a b c d inner new at place test on_true otherwise first block rest =
    let own = faults_against truth_type (judged at in_program test) in
    let then = stmts_faults at on_true in
    record {
      told = told_two a c d (own ++ then) (else_faults (past_locals at (local_counts on_true)) otherwise) (told_two a b c own then first block.told) rest.told;
      fits = subst (Fits new) (past_two at (local_counts on_true) (else_count otherwise)) rest.fits;
    }

pub loop_judged : (a b c d e : Option Fault) (new : NameScope) (at : Scope) (place : Place) (test : ExprTree) (modifies : List Name) (claims : List ExprTree) (body : StmtTrees) →
    b ≡ with_first a (faults_against truth_type (judged at in_program test)) →
    c ≡ with_first b (modifies_faults is_var at [] modifies) →
    d ≡ with_first c (claims_faults at in_claim claims) →
    e ≡ with_first d (stmts_faults (within at (texts modifies)) body) →
    Fits new (past_locals at (local_counts body)) → IsStatement new a e at (loop place test modifies claims body)
loop_judged a b c d e new at place test modifies claims body first second third fourth fits =
    let own = faults_against truth_type (judged at in_program test) in
    let named = modifies_faults is_var at [] modifies in
    let shown = claims_faults at in_claim claims in
    record {
      told = told_two a d e (own ++ named ++ shown) (stmts_faults (within at (texts modifies)) body)
          (told_two a c d (own ++ named) shown (told_two a b c own named first second) third) fourth;
      fits = fits;
    }
