-- The code of statements one after another.
use Rattle.std.proofs.Common.{◌≡◌, ℕ, List, [], ◌∷◌, ◌++◌, map, refl, sym, ap, ◌∙◌, subst}
use Rattle.std.proofs.lemmas.List.{map-append}
use Rattle.slang_tree.specs.declared.place.Place.{Place}
use Rattle.slang_tree.specs.StmtTree.{StmtTree, stmts_of}
use Rattle.program_trees.specs.Programs.{CodeTree, CodeTrees, no_code, code_then}
use Rattle.lk_claims.specs.declared.ty.Ty.{Ty}
use Rattle.lk_claims.specs.Claim.{value_type}
use Rattle.lk_programs.specs.declared.program.Code.{Code}
use Rattle.lk_programs.specs.Program.{codes_of, code_tree, code_trees}
use Rattle.type_rules.specs.Meanings.{Scope}
use Rattle.type_rules.specs.Statements.{behind, behind_all}
use Rattle.typed_texts.specs.Numbered.{Numbered, joined}
use Rattle.typed_texts.specs.Code.{code_of_tree, code_of_trees, locals_of_tree, locals_of_trees}
use Rattle.name_scopes.specs.declared.scope.NameScope.{NameScope}
use Rattle.typed_names.specs.declared.nodes.Nodes.{Nodes}
use Rattle.typed_names.specs.declared.variables.Numbering.{Numbering}
use Rattle.typed_names.specs.Nodes.{IsMade}
use Rattle.typed_names.proofs.Series.{made_more, series}
use Rattle.call_making.specs.Codes.{numbered_code, numbered_codes}
use Rattle.statement_judging.proofs.Faults.{fits_more}
use Rattle.target_making.specs.Made.{IsCode}
use Rattle.code_making.specs.Made.{AreCode}
use Rattle.code_making.proofs.Kept.{both_more, locals_more}

-- with a statement behind the others
abbrev last_behind : CodeTrees ℕ → CodeTree ℕ → CodeTrees ℕ
last_behind no_code last = code_then last no_code
last_behind (code_then code codes) last = code_then code (last_behind codes last)

codes_behind : (codes : List (CodeTree ℕ)) (code : CodeTree ℕ) → codes_of (codes ++ code ∷ []) ≡ last_behind (codes_of codes) code
codes_behind [] code = refl
codes_behind (first ∷ codes) code = ap (code_then first) (codes_behind codes code)

-- statements with their nodes one after another
abbrev in_turn : List (Numbered Place (CodeTree ℕ)) → Numbered Place (CodeTrees ℕ)
in_turn parts = series no_code code_then last_behind (λ a. refl) (λ a s b. refl) parts

-- each in the scope behind those before it
abbrev parts_of : Numbering → Scope → List StmtTree → List (Numbered Place (CodeTree ℕ))
parts_of numbers at [] = []
parts_of numbers at (tree ∷ trees) = numbered_code numbers (code_of_tree at tree) ∷ parts_of numbers (behind at tree) trees

as_series : (numbers : Numbering) (at : Scope) (trees : List StmtTree) → numbered_codes numbers (code_of_trees at (stmts_of trees)) ≡ in_turn (parts_of numbers at trees)
as_series numbers at [] = refl
as_series numbers at (tree ∷ trees) = ap (joined code_then (numbered_code numbers (code_of_tree at tree))) (as_series numbers (behind at tree) trees)

parts_more : (numbers : Numbering) (at : Scope) (trees : List StmtTree) (tree : StmtTree) →
    parts_of numbers at (trees ++ tree ∷ []) ≡ parts_of numbers at trees ++ numbered_code numbers (code_of_tree (behind_all at (stmts_of trees)) tree) ∷ []
parts_more numbers at [] tree = refl
parts_more numbers at (first ∷ trees) tree =
    ap (λ ps. numbered_code numbers (code_of_tree at first) ∷ ps) (parts_more numbers (behind at first) trees tree)

-- one statement more
codes_more : (numbers : Numbering) (at : Scope) (before between after : Nodes) (codes : List Code) (code : Code) (trees : List StmtTree) (tree : StmtTree) →
    IsMade before between (code_trees codes) (numbered_codes numbers (code_of_trees at (stmts_of trees))) →
    IsMade between after (code_tree code) (numbered_code numbers (code_of_tree (behind_all at (stmts_of trees)) tree)) →
    IsMade before after (code_trees (codes ++ code ∷ [])) (numbered_codes numbers (code_of_trees at (stmts_of (trees ++ tree ∷ []))))
codes_more numbers at before between after codes code trees tree made next =
    let part = numbered_code numbers (code_of_tree (behind_all at (stmts_of trees)) tree) in
    let parts = parts_of numbers at trees in
    let all : IsMade before after (last_behind (code_trees codes) (code_tree code)) (in_turn (parts ++ part ∷ [])) =
    made_more no_code code_then last_behind (λ a. refl) (λ a s b. refl) before between after (code_trees codes) (code_tree code) parts part
    (subst (IsMade before between (code_trees codes)) (as_series numbers at trees) made) next in
    let last : code_trees (codes ++ code ∷ []) ≡ last_behind (code_trees codes) (code_tree code) =
    ap codes_of (map-append code_tree codes (code ∷ [])) ∙ codes_behind (map code_tree codes) (code_tree code) in
    let whole : numbered_codes numbers (code_of_trees at (stmts_of (trees ++ tree ∷ []))) ≡ in_turn (parts ++ part ∷ []) =
    as_series numbers at (trees ++ tree ∷ []) ∙ ap in_turn (parts_more numbers at trees tree) in
    subst (λ cs. IsMade before after cs (numbered_codes numbers (code_of_trees at (stmts_of (trees ++ tree ∷ []))))) (sym last)
    (subst (IsMade before after (last_behind (code_trees codes) (code_tree code))) (sym whole) all)

pub code_more : (numbers : Numbering) (between_known known : NameScope) (before between after : Nodes) (t0 t1 t2 : List Ty) (codes : List Code) (code : Code) (at : Scope)
    (trees all : List StmtTree) (tree : StmtTree) → all ≡ trees ++ tree ∷ [] →
    AreCode numbers between_known before between t0 t1 (code_trees codes) at (stmts_of trees) →
    IsCode numbers known between after t1 t2 (code_tree code) (behind_all at (stmts_of trees)) tree →
    AreCode numbers known before after t0 t2 (code_trees (codes ++ code ∷ [])) at (stmts_of all)
code_more numbers between_known known before between after t0 t1 t2 codes code at trees all tree more made next = record {
  is = subst (λ ts. IsMade before after (code_trees (codes ++ code ∷ [])) (numbered_codes numbers (code_of_trees at (stmts_of ts)))) (sym more)
      (codes_more numbers at before between after codes code trees tree made.is next.is);
  types = both_more t0 t1 t2 (locals_of_trees at (stmts_of trees)) (locals_of_tree (behind_all at (stmts_of trees)) tree) made.types next.types
      ∙ ap (λ ls. map value_type t0 ++ ls) (sym (locals_more at trees tree))
      ∙ ap (λ ts. map value_type t0 ++ locals_of_trees at (stmts_of ts)) (sym more);
  fits = fits_more known at trees all tree more next.fits;
}
