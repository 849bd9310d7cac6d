-- What stays behind statements.
use Rattle.std.proofs.Common.{◌≡◌, ℕ, List, [], ◌∷◌, ◌++◌, map, Result, Ok, Err, sym, ap, ◌∙◌, subst, append-nil, append_assoc}
use Rattle.std.specs.Prelude.{IfOk, OnOk}
use Rattle.slang_values.specs.Value.{ValueType}
use Rattle.slang_tree.specs.StmtTree.{StmtTree, StmtTrees, stmts_of}
use Rattle.program_trees.specs.Programs.{CodeTree}
use Rattle.lk_claims.specs.declared.ty.Ty.{Ty}
use Rattle.lk_claims.specs.Claim.{value_type}
use Rattle.lk_programs.specs.declared.program.RecordTy.{RecordTy}
use Rattle.type_rules.specs.Meanings.{Field, Scope}
use Rattle.type_rules.specs.Statements.{behind, behind_all}
use Rattle.typed_texts.specs.Code.{code_of_tree, locals_of_tree, locals_of_trees}
use Rattle.name_scopes.specs.declared.scope.NameScope.{NameScope}
use Rattle.name_scopes.specs.Fits.{Fits}
use Rattle.typed_names.specs.declared.nodes.Nodes.{Nodes}
use Rattle.typed_names.specs.declared.variables.Numbering.{Numbering}
use Rattle.typed_names.specs.Fields.{HasFields}
use Rattle.typed_names.specs.Nodes.{IsMade}
use Rattle.call_making.specs.Codes.{numbered_code}
use Rattle.statement_judging.proofs.Behind.{behind_all-fields}
use Rattle.target_making.specs.Made.{IsCode}

-- two facts of one result
pub if_ok_on : {T E : Type 0} (result : Result T E) {P R : T → Type 0} {Q : Type 0} → ((value : T) → P value → Q → R value) →
    IfOk result P → OnOk result Q → IfOk result R
if_ok_on (Ok value) f p q = f value p q
if_ok_on (Err error) f p q = tt

-- the records have the fields of the scope behind statements
pub fields_behind : (records : List RecordTy) (at : Scope) (stmts : StmtTrees) → HasFields records at → HasFields records (behind_all at stmts)
fields_behind records at stmts has =
    has ∙ ap (λ (all : List (List Field)). map (λ (fields : List Field). map (λ (f : Field). f.text) fields) all) (sym (behind_all-fields at stmts))

-- no type more
pub none_more : (types : List Ty) → map value_type types ≡ map value_type types ++ []
none_more types = sym (append-nil (map value_type types))

-- those of one part, and then those of another
pub both_more : (t0 t1 t2 : List Ty) (first second : List ValueType) → map value_type t1 ≡ map value_type t0 ++ first →
    map value_type t2 ≡ map value_type t1 ++ second → map value_type t2 ≡ map value_type t0 ++ (first ++ second)
both_more t0 t1 t2 first second one two = two ∙ ap (λ ts. ts ++ second) one ∙ append_assoc (map value_type t0) first second

-- statements that declare nothing
pub same_scope : (numbers : Numbering) (old new : NameScope) (before after : Nodes) (types : List Ty) (code : CodeTree ℕ) (at : Scope) (stmt : StmtTree) →
    at ≡ behind at stmt → [] ≡ locals_of_tree at stmt → Fits old at → new ≡ old → IsMade before after code (numbered_code numbers (code_of_tree at stmt)) →
    IsCode numbers new before after types types code at stmt
same_scope numbers old new before after types code at stmt is none fits same made = record {
  is = made;
  types = none_more types ∙ ap (λ ls. map value_type types ++ ls) none;
  fits = subst (λ s. Fits s (behind at stmt)) (sym same) (subst (Fits old) is fits);
}

pub code_by : (numbers : Numbering) {known : NameScope} {before after : Nodes} {t0 t1 : List Ty} {code : CodeTree ℕ} (at : Scope) (stmt other : StmtTree) → stmt ≡ other →
    IsCode numbers known before after t0 t1 code at other → IsCode numbers known before after t0 t1 code at stmt
code_by numbers {known} {before} {after} {t0} {t1} {code} at stmt other same made = subst (IsCode numbers known before after t0 t1 code at) (sym same) made

-- the locals of one statement more
pub locals_more : (at : Scope) (trees : List StmtTree) (tree : StmtTree) →
    locals_of_trees at (stmts_of (trees ++ tree ∷ [])) ≡ locals_of_trees at (stmts_of trees) ++ locals_of_tree (behind_all at (stmts_of trees)) tree
locals_more at [] tree = append-nil (locals_of_tree at tree)
locals_more at (first ∷ trees) tree =
    ap (λ ls. locals_of_tree at first ++ ls) (locals_more (behind at first) trees tree)
    ∙ sym (append_assoc (locals_of_tree at first) (locals_of_trees (behind at first) (stmts_of trees))
    (locals_of_tree (behind_all (behind at first) (stmts_of trees)) tree))
