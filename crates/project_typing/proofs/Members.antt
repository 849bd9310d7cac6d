-- The members of a program are those of its declarations, with their nodes.
use Rattle.std.proofs.Common.{◌≡◌, inl, inr, ℕ, ◌+◌, ◌<◌, ◌≤◌, List, [], ◌∷◌, ◌++◌, map, length, filter_map, refl, sym, subst, arith, length-append}
use Rattle.std.specs.List.{AllByRecursion, flat_map}
use Rattle.std.proofs.lemmas.List.{length-map}
use Rattle.std.proofs.lemmas.List.Elements.{filter_map-append}
use Rattle.slang_tree.specs.declared.place.Place.{Place}
use Rattle.slang_tree.specs.DeclTree.{GlobalDeclTree, MethodDeclTree, DeclTree, import_decl, global_decl, record_decl, method_decl}
use Rattle.program_trees.specs.Programs.{MethodTree, GlobalTree}
use Rattle.program_trees.specs.Variables.{Variable}
use Rattle.type_rules.specs.Projects.{FileTree, global_of, method_of, outline_names, outline_of, scope_of}
use Rattle.typed_texts.specs.Numbered.{Numbered, placed}
use Rattle.typed_texts.specs.TypedProjects.{method_of_tree, global_of_tree, Members, members_of, NodeAt, in_file, members_from}
use Rattle.statement_typing.specs.Around.{Among}

-- what the part is where its first node has some number, and all its nodes are below the count
pub record IsPartOf {A : Type 0} (part : Numbered Place A) (nodes : ℕ) (a : A) : Type 0 where
  pub start : ℕ
  pub room : start + length part.places ≤ nodes
  pub same : a ≡ part.from start

abbrev pub AllTwo : {A B : Type 0} → (A → B → Type 0) → List A → List B → Type 0
AllTwo R [] [] = Unit {0}
AllTwo R [] (b ∷ bs) = ⊥
AllTwo R (a ∷ as') [] = ⊥
AllTwo R (a ∷ as') (b ∷ bs) = R a b × AllTwo R as' bs

pub two_append : {A B : Type 0} (R : A → B → Type 0) (as' more : List A) (bs others : List B) → AllTwo R as' bs → AllTwo R more others →
    AllTwo R (as' ++ more) (bs ++ others)
two_append R [] more [] others h k = k
two_append R [] more (b ∷ bs) others h k = absurd h
two_append R (a ∷ as') more [] others h k = absurd h
two_append R (a ∷ as') more (b ∷ bs) others h k = (h.0, two_append R as' more bs others h.1 k)

-- the second list has one for each of the first
pub two_found : {A B : Type 0} (R : A → B → Type 0) (as' : List A) (bs : List B) (a : A) → AllTwo R as' bs → Among a as' →
    (b : B) × Among b bs × R a b
two_found R [] bs a h k = absurd k
two_found R (c ∷ as') [] a h k = absurd h
two_found R (c ∷ as') (b ∷ bs) a h (inl e) = (b, inl refl, subst (λ d. R d b) e h.0)
two_found R (c ∷ as') (b ∷ bs) a h (inr k) = let f = two_found R as' bs a h.1 k in (f.0, inr f.1, f.2)

pub two_each : {A B : Type 0} (R : A → B → Type 0) (P : A → Type 0) (Q : B → Type 0) → ((a : A) (b : B) → P a → R a b → Q b) → (as' : List A) (bs : List B) →
    AllByRecursion P as' → AllTwo R as' bs → AllByRecursion Q bs
two_each R P Q f [] [] p h = tt
two_each R P Q f [] (b ∷ bs) p h = absurd h
two_each R P Q f (a ∷ as') [] p h = absurd h
two_each R P Q f (a ∷ as') (b ∷ bs) p h = (f a b p.0 h.0, two_each R P Q f as' bs p.1 h.1)

module _ (decls : List DeclTree) (nodes : ℕ) where
  abbrev pub IsGlobalOf : GlobalDeclTree → GlobalTree Variable → Type 0
  IsGlobalOf decl g = IsPartOf (global_of_tree (outline_of decls) decl) nodes g

  abbrev pub IsMethodOf : MethodDeclTree → MethodTree Variable → Type 0
  IsMethodOf decl m = IsPartOf (method_of_tree (outline_names decls) (scope_of decls) decl) nodes m

  pub record AreMembers (ds : List DeclTree) (members : Members) : Type 0 where
    pub globals : AllTwo IsGlobalOf (filter_map global_of ds) members.globals
    pub methods : AllTwo IsMethodOf (filter_map method_of ds) members.methods

  pub members_in : (ds : List DeclTree) (start : ℕ) → start + length (members_of decls ds).places ≤ nodes → AreMembers ds ((members_of decls ds).from start)
  members_in [] start room = record { globals = tt; methods = tt }
  members_in (import_decl place path ∷ ds) start room =
      let rest = members_in ds start room in record { globals = rest.globals; methods = rest.methods }
  members_in (record_decl decl ∷ ds) start room =
      let rest = members_in ds start room in record { globals = rest.globals; methods = rest.methods }
  members_in (global_decl decl ∷ ds) start room =
      let first = global_of_tree (outline_of decls) decl in
      let n = length-append first.places (members_of decls ds).places in
      let rest = members_in ds (start + length first.places) (omega (arith, room, n)) in
      record {
        globals = (record { start = start; room = omega (arith, room, n); same = refl }, rest.globals);
        methods = rest.methods;
      }
  members_in (method_decl decl ∷ ds) start room =
      let first = method_of_tree (outline_names decls) (scope_of decls) decl in
      let n = length-append first.places (members_of decls ds).places in
      let rest = members_in ds (start + length first.places) (omega (arith, room, n)) in
      record {
        globals = rest.globals;
        methods = (record { start = start; room = omega (arith, room, n); same = refl }, rest.methods);
      }

  pub members_in_files : (files : List FileTree) (number start : ℕ) → start + length (members_from decls number files).places ≤ nodes →
      AreMembers (flat_map (λ file. file.decls) files) ((members_from decls number files).from start)
  members_in_files [] number start room = record { globals = tt; methods = tt }
  members_in_files (file ∷ files) number start room =
      let first = members_of decls file.decls in
      let placed_first = placed (in_file number) first in
      let others = members_from decls (number + 1) files in
      let n = length-append placed_first.places others.places in
      let m = length-map first.places (in_file number) in
      let here = members_in file.decls start (omega (arith, room, n, m)) in
      let next = start + length placed_first.places in
      let rest = members_in_files files (number + 1) next (omega (arith, room, n)) in
      record {
        globals = subst (λ ds. AllTwo IsGlobalOf ds ((first.from start).globals ++ (others.from next).globals))
            (sym (filter_map-append global_of file.decls (flat_map (λ f. f.decls) files)))
            (two_append IsGlobalOf (filter_map global_of file.decls) (filter_map global_of (flat_map (λ f. f.decls) files)) (first.from start).globals
            (others.from next).globals here.globals rest.globals);
        methods = subst (λ ds. AllTwo IsMethodOf ds ((first.from start).methods ++ (others.from next).methods))
            (sym (filter_map-append method_of file.decls (flat_map (λ f. f.decls) files)))
            (two_append IsMethodOf (filter_map method_of file.decls) (filter_map method_of (flat_map (λ f. f.decls) files)) (first.from start).methods
            (others.from next).methods here.methods rest.methods);
      }

  -- ---- the files of nodes

  in_one : (number limit : ℕ) (places : List Place) → number < limit → AllByRecursion (λ file. file < limit) (map (λ node. node.file) (map (in_file number) places))
  in_one number limit [] h = tt
  in_one number limit (place ∷ places) h = (h, in_one number limit places h)

  both_in : (limit : ℕ) (first others : List NodeAt) → AllByRecursion (λ file. file < limit) (map (λ node. node.file) first) →
      AllByRecursion (λ file. file < limit) (map (λ node. node.file) others) → AllByRecursion (λ file. file < limit) (map (λ node. node.file) (first ++ others))
  both_in limit [] others h k = k
  both_in limit (node ∷ first) others h k = (h.0, both_in limit first others h.1 k)

  pub files_there : (files : List FileTree) (number limit : ℕ) → number + length files ≤ limit →
      AllByRecursion (λ file. file < limit) (map (λ node. node.file) (members_from decls number files).places)
  files_there [] number limit h = tt
  files_there (file ∷ files) number limit h =
      both_in limit (map (in_file number) (members_of decls file.decls).places) (members_from decls (number + 1) files).places
      (in_one number limit (members_of decls file.decls).places (omega (arith, h))) (files_there files (number + 1) limit (omega (arith, h)))
