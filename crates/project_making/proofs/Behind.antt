-- Members of declarations and of files, the ones behind the others.
use Rattle.std.proofs.Common.{◌≡◌, ℕ, ◌+◌, List, [], ◌∷◌, ◌++◌, length, refl, sym, ap, ◌∙◌, append-nil, append_assoc, add_assoc, add-zero, length-append, arith}
use Rattle.std.proofs.lemmas.List.{length-map, map-append}
use Rattle.slang_tree.specs.declared.place.Place.{Place}
use Rattle.slang_tree.specs.DeclTree.{DeclTree, import_decl, global_decl, record_decl, method_decl}
use Rattle.program_trees.specs.Programs.{GlobalTree, MethodTree}
use Rattle.program_trees.specs.Variables.{Variable}
use Rattle.type_rules.specs.Projects.{FileTree, outline_names, outline_of, scope_of}
use Rattle.typed_texts.specs.Numbered.{Numbered, joined, placed, plain}
use Rattle.typed_texts.specs.TypedProjects.{Members, NodeAt, in_file, members_behind, members_from, members_of, no_members}
use Rattle.typed_texts.specs.TypedProjects.{global_of_tree, method_of_tree, with_global, with_method}

-- ---- members

none_after : (m : Members) → members_behind m no_members ≡ m
none_after m i = record { globals = append-nil m.globals i; methods = append-nil m.methods i }

behind_assoc : (a b c : Members) → members_behind a (members_behind b c) ≡ members_behind (members_behind a b) c
behind_assoc a b c =
    let globals = sym (append_assoc a.globals b.globals c.globals) in
    let methods = sym (append_assoc a.methods b.methods c.methods) in
    λ i. record { globals = globals i; methods = methods i }

-- ---- numbered parts

abbrev pub both : {P : Type 0} → Numbered P Members → Numbered P Members → Numbered P Members
both first second = joined members_behind first second

module _ {P : Type 0} where
  none_first : (part : Numbered P Members) → part ≡ both (plain no_members) part
  none_first part =
      let same : (n : ℕ) → part.from n ≡ part.from (n + 0) = λ n. ap part.from (sym (add-zero n)) in
      λ i. record { places = part.places; from = λ n. same n i }

  none_last : (part : Numbered P Members) → both part (plain no_members) ≡ part
  none_last part i = record { places = append-nil part.places i; from = λ n. none_after (part.from n) i }

  later : (n : ℕ) (xs ys : List P) → n + length xs + length ys ≡ n + length (xs ++ ys)
  later n xs ys = add_assoc n (length xs) (length ys) ∙ ap (λ k. n + k) (sym (length-append xs ys))

  both_assoc : (a b c : Numbered P Members) → both a (both b c) ≡ both (both a b) c
  both_assoc a b c =
      let places = sym (append_assoc a.places b.places c.places) in
      let from : (n : ℕ) → (both a (both b c)).from n ≡ (both (both a b) c).from n =
      λ n. behind_assoc (a.from n) (b.from (n + length a.places)) (c.from (n + length a.places + length b.places))
      ∙ ap (λ k. members_behind (members_behind (a.from n) (b.from (n + length a.places))) (c.from k)) (later n a.places b.places) in
      λ i. record { places = places i; from = λ n. from n i }

  headed_by : {A : Type 0} (ahead : A → Members → Members) (first : Numbered P A) (b c : Numbered P Members) →
      ((x : A) (m k : Members) → ahead x (members_behind m k) ≡ members_behind (ahead x m) k) →
      joined ahead first (both b c) ≡ both (joined ahead first b) c
  headed_by ahead first b c same =
      let places = sym (append_assoc first.places b.places c.places) in
      let from : (n : ℕ) → (joined ahead first (both b c)).from n ≡ (both (joined ahead first b) c).from n =
      λ n. same (first.from n) (b.from (n + length first.places)) (c.from (n + length first.places + length b.places))
      ∙ ap (λ k. members_behind (ahead (first.from n) (b.from (n + length first.places))) (c.from k)) (later n first.places b.places) in
      λ i. record { places = places i; from = λ n. from n i }

placed_both : {P Q : Type 0} (f : P → Q) (a b : Numbered P Members) → placed f (both a b) ≡ both (placed f a) (placed f b)
placed_both f a b =
    let places = map-append f a.places b.places in
    let from : (n : ℕ) → (placed f (both a b)).from n ≡ (both (placed f a) (placed f b)).from n =
    λ n. ap (λ k. members_behind (a.from n) (b.from (n + k))) (sym (length-map a.places f)) in
    λ i. record { places = places i; from = λ n. from n i }

-- ---- declarations

decls_both : (decls xs ys : List DeclTree) → members_of decls (xs ++ ys) ≡ both (members_of decls xs) (members_of decls ys)
decls_both decls [] ys = none_first (members_of decls ys)
decls_both decls (import_decl place path ∷ xs) ys = decls_both decls xs ys
decls_both decls (record_decl decl ∷ xs) ys = decls_both decls xs ys
decls_both decls (global_decl decl ∷ xs) ys =
    let first : Numbered Place (GlobalTree Variable) = global_of_tree (outline_of decls) decl in
    ap (joined with_global first) (decls_both decls xs ys) ∙ headed_by with_global first (members_of decls xs) (members_of decls ys) (λ x m k. refl)
decls_both decls (method_decl decl ∷ xs) ys =
    let first : Numbered Place (MethodTree Variable) = method_of_tree (outline_names decls) (scope_of decls) decl in
    ap (joined with_method first) (decls_both decls xs ys) ∙ headed_by with_method first (members_of decls xs) (members_of decls ys) (λ x m k. refl)

-- one declaration more, in a file
pub decls_more : (file : ℕ) (decls xs : List DeclTree) (decl : DeclTree) →
    placed (in_file file) (members_of decls (xs ++ decl ∷ []))
    ≡ both (placed (in_file file) (members_of decls xs)) (placed (in_file file) (members_of decls (decl ∷ [])))
decls_more file decls xs decl =
    ap (placed (in_file file)) (decls_both decls xs (decl ∷ []))
    ∙ placed_both (in_file file) (members_of decls xs) (members_of decls (decl ∷ []))

-- ---- files

-- one file more
pub files_more : (decls : List DeclTree) (k n : ℕ) (files : List FileTree) (file : FileTree) → n ≡ k + length files →
    members_from decls k (files ++ file ∷ []) ≡ both (members_from decls k files) (placed (in_file n) (members_of decls file.decls))
files_more decls k n [] file e =
    let same : k ≡ n = omega (arith, e) in
    none_last (placed (in_file k) (members_of decls file.decls)) ∙ none_first (placed (in_file k) (members_of decls file.decls))
    ∙ ap (λ m. both (plain no_members) (placed (in_file m) (members_of decls file.decls))) same
files_more decls k n (first ∷ files) file e =
    let next : n ≡ k + 1 + length files = omega (arith, e) in
    let own : Numbered NodeAt Members = placed (in_file k) (members_of decls first.decls) in
    ap (both own) (files_more decls (k + 1) n files file next)
    ∙ both_assoc own (members_from decls (k + 1) files) (placed (in_file n) (members_of decls file.decls))
