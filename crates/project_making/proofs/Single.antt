-- One global or one method, behind others.
use Rattle.std.proofs.Common.{◌≡◌, ℕ, ◌+◌, List, [], ◌∷◌, ◌++◌, map, filter_map, length, refl, sym, ap, ap₂, ◌∙◌, append-nil, length-append}
use Rattle.std.proofs.lemmas.List.{map-append}
use Rattle.std.proofs.lemmas.List.Elements.{filter_map-append}
use Rattle.slang_tree.specs.declared.place.Place.{Place}
use Rattle.slang_tree.specs.DeclTree.{GlobalDeclTree, MethodDeclTree, DeclTree, import_decl, global_decl, record_decl, method_decl}
use Rattle.lk_programs.specs.declared.program.Global.{Global}
use Rattle.lk_programs.specs.declared.program.Method.{Method}
use Rattle.lk_programs.specs.Program.{global_tree, method_tree}
use Rattle.type_rules.specs.Projects.{global_of, outline_names, outline_of, scope_of}
use Rattle.typed_texts.specs.Numbered.{Numbered}
use Rattle.typed_texts.specs.TypedProjects.{in_file}
use Rattle.typed_names.specs.declared.nodes.Nodes.{Nodes}
use Rattle.typed_names.specs.Nodes.{IsMade, node_in}
use Rattle.global_making.specs.Globals.{global_in}
use Rattle.method_making.specs.Methods.{method_in}
use Rattle.project_making.specs.declared.members.Members.{Members}
use Rattle.project_making.specs.Members.{IsAdded, global_name, globals_in, node_seen}

seen_nodes : (file : ℕ) (places : List Place) → map node_seen (map (node_in file) places) ≡ map (in_file file) places
seen_nodes file [] = refl
seen_nodes file (place ∷ places) = ap (λ ns. in_file file place ∷ ns) (seen_nodes file places)

-- the nodes of a part
nodes_added : {A : Type 0} (before after : Nodes) (made : A) (part : Numbered Place A) → IsMade before after made part →
    map node_seen after.places ≡ map node_seen before.places ++ map (in_file before.file) (part.places ++ [])
nodes_added before after made part is =
    ap (λ (nodes : Nodes). map node_seen nodes.places) is.added
    ∙ map-append node_seen before.places (map (node_in before.file) part.places)
    ∙ ap (λ ns. map node_seen before.places ++ ns) (seen_nodes before.file part.places ∙ ap (map (in_file before.file)) (sym (append-nil part.places)))

pub global_added : (globals : ℕ) (before after : Nodes) (old new : Members) (decls : List DeclTree) (decl : GlobalDeclTree) (made : Global) →
    IsMade before after (global_tree made) (global_in (outline_of decls) decl) → made.name ≡ decl.written.text →
    new.globals ≡ old.globals ++ made ∷ [] → new.methods.items ≡ old.methods.items → IsAdded globals before after old new decls (global_decl decl)
global_added globals before after old new decls decl made is named added same = record {
  file = ap (λ (nodes : Nodes). nodes.file) is.added;
  made = record {
    added = nodes_added before after (global_tree made) (global_in (outline_of decls) decl) is;
    globals_are = ap (map global_tree) added ∙ map-append global_tree old.globals (made ∷ [])
        ∙ ap (λ g. map global_tree old.globals ++ g ∷ []) is.is;
    methods_are = ap (map method_tree) same ∙ sym (append-nil (map method_tree old.methods.items));
  };
  names = ap (map global_name) added ∙ map-append global_name old.globals (made ∷ []) ∙ ap (λ n. map global_name old.globals ++ n ∷ []) named;
}

pub method_added : (globals : ℕ) (before after : Nodes) (old new : Members) (decls : List DeclTree) (decl : MethodDeclTree) (made : Method) →
    IsMade before after (method_tree made) (method_in globals (outline_names decls) (scope_of decls) decl) →
    new.methods.items ≡ old.methods.items ++ made ∷ [] → new.globals ≡ old.globals → IsAdded globals before after old new decls (method_decl decl)
method_added globals before after old new decls decl made is added same = record {
  file = ap (λ (nodes : Nodes). nodes.file) is.added;
  made = record {
    added = nodes_added before after (method_tree made) (method_in globals (outline_names decls) (scope_of decls) decl) is;
    globals_are = ap (map global_tree) same ∙ sym (append-nil (map global_tree old.globals));
    methods_are = ap (map method_tree) added ∙ map-append method_tree old.methods.items (made ∷ [])
        ∙ ap (λ m. map method_tree old.methods.items ++ m ∷ []) is.is;
  };
  names = ap (map global_name) same ∙ sym (append-nil (map global_name old.globals));
}

-- ---- counting

single : (decl : DeclTree) → globals_in decl ≡ length (filter_map global_of (decl ∷ []))
single (import_decl place path) = refl
single (global_decl decl) = refl
single (record_decl decl) = refl
single (method_decl decl) = refl

pub counted_more : (xs all : List DeclTree) (decl : DeclTree) (count one new : ℕ) → all ≡ xs ++ decl ∷ [] → count ≡ length (filter_map global_of xs) →
    one ≡ globals_in decl → new ≡ count + one → new ≡ length (filter_map global_of all)
counted_more xs all decl count one new more so_far is sum =
    sum ∙ ap₂ (λ (a b : ℕ). a + b) so_far (is ∙ single decl)
    ∙ sym (length-append (filter_map global_of xs) (filter_map global_of (decl ∷ [])))
    ∙ ap length (sym (filter_map-append global_of xs (decl ∷ []))) ∙ ap (λ ds. length (filter_map global_of ds)) (sym more)
