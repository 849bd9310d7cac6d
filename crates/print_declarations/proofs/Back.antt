-- The tokens that are printed of a file are in the grammar, with the same tree without places.
use Rattle.std.proofs.Common.{Bool, ◌≡◌, ◌<◌, List, [], ◌∷◌, map, refl, sym, ap, ap₂, ◌∙◌, subst}
use Rattle.std.specs.List.{AllByRecursion}
use Rattle.std.proofs.lemmas.List.{length-map}
use Rattle.slang_tree.specs.declared.expression.Name.{Name}
use Rattle.slang_tree.specs.DeclTree as t
use Rattle.slang_tree.specs.DeclTree.{DeclTree}
use Rattle.slang_grammar.specs.Parts.{members}
use Rattle.slang_grammar.specs.Declarations.{IsField, field_tree, path_name, DeclText, import_text, global_text, record_text, method_text, IsDecl, decl_tree}
use Rattle.slang_grammar.specs.Texts.{FileText, IsFile, file_tree}
use Rattle.print_expressions.specs.Bare.{nowhere, bare_name}
use Rattle.print_statements.proofs.Lists.{listed_members, listed_has, listed_all, typed_back}
use Rattle.print_declarations.specs.Bare.{bare_decl}
use Rattle.print_declarations.specs.Accounts.{field_account, path_account, decl_account, file_account}
use Rattle.print_declarations.specs.Laws.{FilesReadBack}
use Rattle.print_declarations.proofs.Parts.{const_back, fields_back, fields_are, fields_same}
use Rattle.print_declarations.proofs.Methods.{method_back}

paths_same : (names : List Name) → map path_name (map path_account names) ≡ map bare_name names
paths_same [] = refl
paths_same (name ∷ names) = ap (λ ns. bare_name name ∷ ns) (paths_same names)

module _ (light : Bool) where
  abbrev IsBack : DeclTree → Type 0
  IsBack decl = IsDecl (decl_account light decl) × (decl_tree (decl_account light decl) ≡ bare_decl decl)

  decl_back : (text : DeclText) → IsDecl text → IsBack (decl_tree text)
  decl_back (import_text word first path) h = (tt, ap (λ ns. t.import_decl nowhere (bare_name first ∷ ns)) (paths_same (map path_name path)))
  decl_back (global_text fixed word n ty equals init) h =
      let p = typed_back ty h.1 in
      let q = const_back init h.2 in (
        (h.0, p.0, q.0),
        ap₂ (λ a b. t.global_decl (record { place = nowhere; fixed = fixed; written = bare_name n; ty = a; init = b })) p.1 q.1,
      )
  decl_back (record_text at datatype word n left fields right) h =
      let named = map field_tree (members fields) in
      let back = fields_back (members fields) h.2 in (
        (
          h.0,
          listed_has (map field_account named)
              (subst (λ k. 0 < k) (sym (length-map named field_account)) (subst (λ k. 0 < k) (sym (length-map (members fields) field_tree)) h.1)),
          listed_all IsField (map field_account named) (fields_are named back),
        ),
        ap (λ fs. t.record_decl (record { place = nowhere; written = bare_name n; fields = map field_tree fs })) (listed_members (map field_account named))
            ∙ ap (λ fs. t.record_decl (record { place = nowhere; written = bare_name n; fields = fs })) (fields_same named back),
      )
  decl_back (method_text m) h = let p = method_back light m h in (p.0, ap t.method_decl p.1)

  decls_are : (texts : List DeclText) → AllByRecursion IsDecl texts → AllByRecursion IsDecl (map (decl_account light) (map decl_tree texts))
  decls_are [] h = tt
  decls_are (text ∷ texts) h = ((decl_back text h.0).0, decls_are texts h.1)

  decls_same : (texts : List DeclText) → AllByRecursion IsDecl texts →
      map decl_tree (map (decl_account light) (map decl_tree texts)) ≡ map bare_decl (map decl_tree texts)
  decls_same [] h = refl
  decls_same (text ∷ texts) h = ap₂ (λ d ds. d ∷ ds) (decl_back text h.0).1 (decls_same texts h.1)

  file_members : (decls : List DeclTree) → members (file_account light decls) ≡ map (decl_account light) decls
  file_members [] = refl
  file_members (decl ∷ decls) = ap (λ ds. decl_account light decl ∷ ds) (file_members decls)

-- what is printed is well formed
pub account_is_file : (light : Bool) (file : FileText) → IsFile file → IsFile (file_account light (file_tree file))
account_is_file light file h = subst (AllByRecursion IsDecl) (sym (file_members light (file_tree file))) (decls_are light (members file) h)

pub files_read_back : FilesReadBack
files_read_back light file h = record {
  text = file_account light (file_tree file);
  well_formed = account_is_file light file h;
  spelled = refl;
  shaped = ap (map decl_tree) (file_members light (file_tree file)) ∙ decls_same light (members file) h;
}
