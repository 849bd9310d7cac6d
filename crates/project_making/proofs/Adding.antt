-- What was made behind what was made before.
use Rattle.std.proofs.Common.{◌≡◌, ℕ, ◌+◌, List, [], ◌∷◌, ◌++◌, map, filter_map, length, refl, sym, ap, ap₂, ◌∙◌, subst}
use Rattle.std.proofs.Common.{append-nil, append_assoc, length-append, arith}
use Rattle.std.proofs.lemmas.List.{length-map, map-append}
use Rattle.std.proofs.lemmas.List.Elements.{filter_map-append}
use Rattle.std.proofs.lemmas.Grind.{flat_map-append}
use Rattle.program_trees.specs.Variables.{no_number, numbered_method}
use Rattle.slang_tree.specs.declared.place.Place.{Place}
use Rattle.slang_tree.specs.declared.expression.Name.{Name}
use Rattle.slang_tree.specs.DeclTree.{GlobalDeclTree, RecordDeclTree, DeclTree, import_decl, record_decl}
use Rattle.program_trees.specs.Programs.{GlobalTree, MethodTree, renamed_global}
use Rattle.lk_programs.specs.declared.program.NodePlace.{NodePlace}
use Rattle.lk_programs.specs.Program.{global_tree, method_tree}
use Rattle.type_rules.specs.Projects.{FileTree, global_of}
use Rattle.typed_texts.specs.Numbered.{Numbered, placed, plain}
use Rattle.typed_texts.specs.TypedProjects.{Members as MembersTree, NodeAt, in_file, members_from, members_of, no_members}
use Rattle.typed_names.specs.declared.nodes.Nodes.{Nodes}
use Rattle.project_making.specs.declared.members.Members.{Members}
use Rattle.project_making.specs.Members.{AreAdded, AreFilesAdded, AreMade, IsAdded, decls_in, global_name, names_declared, node_seen}
use Rattle.project_making.proofs.Behind.{both, decls_more, files_more}

-- nothing
pub made_none : (globals : ℕ) (nodes : List NodePlace) (old : Members) → AreMade globals nodes nodes old old (plain no_members)
made_none globals nodes old = record {
  added = sym (append-nil (map node_seen nodes));
  globals_are = sym (append-nil (map global_tree old.globals));
  methods_are = sym (append-nil (map method_tree old.methods.items));
}

-- two in turn
pub made_both : (globals : ℕ) (before between after : List NodePlace) (old mid new : Members) (a b : Numbered NodeAt MembersTree) →
    AreMade globals before between old mid a → AreMade globals between after mid new b → AreMade globals before after old new (both a b)
made_both globals before between after old mid new a b one two =
    let n = length before in
    let number : length between ≡ n + length a.places =
    sym (length-map between node_seen) ∙ ap length one.added ∙ length-append (map node_seen before) a.places
    ∙ ap (λ k. k + length a.places) (length-map before node_seen) in
    let g : List (GlobalTree _) → List (GlobalTree ℕ) = map (renamed_global no_number) in
    let m : List (MethodTree _) → List (MethodTree ℕ) = map (numbered_method globals) in record {
      added = two.added ∙ ap (λ ps. ps ++ b.places) one.added ∙ append_assoc (map node_seen before) a.places b.places;
      globals_are = two.globals_are ∙ ap₂ (λ gs k. gs ++ g (b.from k).globals) one.globals_are number
          ∙ append_assoc (map global_tree old.globals) (g (a.from n).globals) (g (b.from (n + length a.places)).globals)
          ∙ ap (λ gs. map global_tree old.globals ++ gs)
          (sym (map-append (renamed_global no_number) (a.from n).globals (b.from (n + length a.places)).globals));
      methods_are = two.methods_are ∙ ap₂ (λ ms k. ms ++ m (b.from k).methods) one.methods_are number
          ∙ append_assoc (map method_tree old.methods.items) (m (a.from n).methods) (m (b.from (n + length a.places)).methods)
          ∙ ap (λ ms. map method_tree old.methods.items ++ ms)
          (sym (map-append (numbered_method globals) (a.from n).methods (b.from (n + length a.places)).methods));
    }

names_more : (xs ys : List DeclTree) → names_declared (xs ++ ys) ≡ names_declared xs ++ names_declared ys
names_more xs ys =
    ap (map (λ (decl : GlobalDeclTree). decl.written.text)) (filter_map-append global_of xs ys)
    ∙ map-append (λ (decl : GlobalDeclTree). decl.written.text) (filter_map global_of xs) (filter_map global_of ys)

module _ (globals : ℕ) (decls : List DeclTree) where
  pub added_none : (nodes : Nodes) (old : Members) → AreAdded globals nodes nodes old old decls []
  added_none nodes old = record {
    file = refl;
    made = made_none globals nodes.places old;
    names = sym (append-nil (map global_name old.globals));
  }

  -- one declaration more
  pub added_more : (before between after : Nodes) (old mid new : Members) (xs all : List DeclTree) (decl : DeclTree) → all ≡ xs ++ decl ∷ [] →
      AreAdded globals before between old mid decls xs → IsAdded globals between after mid new decls decl → AreAdded globals before after old new decls all
  added_more before between after old mid new xs all decl more one two =
      let next = subst (λ f. AreMade globals between.places after.places mid new (placed (in_file f) (members_of decls (decl ∷ [])))) one.file two.made in
      subst (AreAdded globals before after old new decls) (sym more) (record {
        file = two.file ∙ one.file;
        made = subst (AreMade globals before.places after.places old new) (sym (decls_more before.file decls xs decl))
            (made_both globals before.places between.places after.places old mid new (placed (in_file before.file) (members_of decls xs))
            (placed (in_file before.file) (members_of decls (decl ∷ []))) one.made next);
        names = two.names ∙ ap (λ ns. ns ++ names_declared (decl ∷ [])) one.names
            ∙ append_assoc (map global_name old.globals) (names_declared xs) (names_declared (decl ∷ []))
            ∙ ap (λ ns. map global_name old.globals ++ ns) (sym (names_more xs (decl ∷ [])));
      })

  pub files_none : (nodes : List NodePlace) (old : Members) → AreFilesAdded globals nodes nodes old old decls []
  files_none nodes old = record { made = made_none globals nodes old; names = sym (append-nil (map global_name old.globals)) }

  -- one file more
  pub files_added : (before : List NodePlace) (between after : Nodes) (old mid new : Members) (files all : List FileTree) (file : FileTree) →
      all ≡ files ++ file ∷ [] → between.file ≡ length files →
      AreFilesAdded globals before between.places old mid decls files → AreAdded globals between after mid new decls file.decls →
      AreFilesAdded globals before after.places old new decls all
  files_added before between after old mid new files all file more number one two =
      let count : between.file ≡ 0 + length files = omega (arith, number) in
      subst (AreFilesAdded globals before after.places old new decls) (sym more) (record {
        made = subst (AreMade globals before after.places old new) (sym (files_more decls 0 between.file files file count))
            (made_both globals before between.places after.places old mid new (members_from decls 0 files)
            (placed (in_file between.file) (members_of decls file.decls)) one.made two.made);
        names = two.names ∙ ap (λ ns. ns ++ names_declared file.decls) one.names
            ∙ append_assoc (map global_name old.globals) (names_declared (decls_in files)) (names_declared file.decls)
            ∙ ap (λ ns. map global_name old.globals ++ ns) (sym (names_more (decls_in files) file.decls))
            ∙ ap (λ ds. map global_name old.globals ++ names_declared ds)
            (ap (λ ds. decls_in files ++ ds) (sym (append-nil file.decls)) ∙ sym (flat_map-append (λ (f : FileTree). f.decls) files (file ∷ [])));
      })

-- ---- what has no members

pub import_added : (globals : ℕ) (nodes : Nodes) (old : Members) (decls : List DeclTree) (place : Place) (path : List Name) →
    IsAdded globals nodes nodes old old decls (import_decl place path)
import_added globals nodes old decls place path = record {
  file = refl;
  made = made_none globals nodes.places old;
  names = sym (append-nil (map global_name old.globals));
}

pub record_added : (globals : ℕ) (nodes : Nodes) (old : Members) (decls : List DeclTree) (decl : RecordDeclTree) →
    IsAdded globals nodes nodes old old decls (record_decl decl)
record_added globals nodes old decls decl = record {
  file = refl;
  made = made_none globals nodes.places old;
  names = sym (append-nil (map global_name old.globals));
}
