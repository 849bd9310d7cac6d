-- Declarations, one after the other.
use Rattle.std.proofs.Common.{◌≡◌, ℕ, zero, suc, ◌+◌, ◌<◌, ◌≤◌, Bool, true, false, Option, Some, None, List, [], ◌∷◌, ◌++◌, length, take, drop, get_or, map, refl, sym, subst, ap, ◌∙◌, append_assoc, append-nil, arith}
use Rattle.std.specs.Borrow.{Bor}
use Rattle.std.specs.Option.{is_some, option_map}
use Rattle.std.specs.List.{Contains}
use Rattle.std.proofs.Math.Seq.{drop-cons}
use Rattle.slang_tree.specs.declared.declaration.Decl.{Decl}
use Rattle.slang_tree.specs.DeclTree.{DeclTree, MethodDeclTree, import_decl, global_decl, record_decl, method_decl}
use Rattle.name_scopes.specs.declared.meaning.Meaning.{Meaning as CodeMeaning}
use Rattle.name_scopes.specs.Meanings.{meant}
use Rattle.name_maps.specs.Names.{named}
use Rattle.type_rules.specs.Meanings.{Declared, Meaning, Scope, declared}
use Rattle.type_rules.specs.Projects.{count_if, global_of, meaning_declared, meanings_declared, record_of}
use Rattle.project_files.specs.Files.{decl_of, method_names}
use Rattle.signature_judging.specs.Knows.{Knows}
use Rattle.declared_meanings.specs.Declares.{DeclaresSoFar, IsNumbered, NumbersMethods}

-- ---- methods have numbers

contains_cons : (x : List ℕ) (xs : List (List ℕ)) (text : List ℕ) → Contains xs text → Contains (x ∷ xs) text
contains_cons x xs text h = (suc h.0, omega (arith, h.1), h.2)

contains_first : (x : List ℕ) (xs : List (List ℕ)) → Contains (x ∷ xs) x
contains_first x xs = (0, omega arith, refl)

contains_name : (decls : List DeclTree) (i : ℕ) (method : MethodDeclTree) → i < length decls → method_decl method ≡ get_or decls i (method_decl method) →
    Contains (method_names decls) method.written.text
contains_name [] i method within is = absurd (omega (arith, within))
contains_name (decl ∷ decls) zero method within is =
    subst (λ d. Contains (method_names (d ∷ decls)) method.written.text) is (contains_first method.written.text (method_names decls))
contains_name (import_decl place path ∷ decls) (suc i) method within is = contains_name decls i method (omega (arith, within)) is
contains_name (global_decl global ∷ decls) (suc i) method within is = contains_name decls i method (omega (arith, within)) is
contains_name (record_decl known ∷ decls) (suc i) method within is = contains_name decls i method (omega (arith, within)) is
contains_name (method_decl other ∷ decls) (suc i) method within is =
    contains_cons other.written.text (method_names decls) method.written.text (contains_name decls i method (omega (arith, within)) is)

numbered_tree : (numbers : List (List ℕ × ℕ)) (decls : List DeclTree) (i : ℕ) (decl : DeclTree) → i < length decls → decl ≡ get_or decls i decl →
    NumbersMethods numbers decls → IsNumbered numbers decls decl
numbered_tree numbers decls i (import_decl place path) within is h = tt
numbered_tree numbers decls i (global_decl global) within is h = tt
numbered_tree numbers decls i (record_decl known) within is h = tt
numbered_tree numbers decls i (method_decl method) within is h = h method.written.text (contains_name decls i method within is)

get_decl : (decls : List (Bor Decl)) (i : ℕ) (decl : Bor Decl) → i < length decls → decl ≡ get_or decls i decl →
    (i < length (map decl_of decls)) × (decl_of decl ≡ get_or (map decl_of decls) i (decl_of decl))
get_decl [] i decl within is = absurd (omega (arith, within))
get_decl (first ∷ decls) zero decl within is = (omega arith, ap decl_of is)
get_decl (first ∷ decls) (suc i) decl within is =
    let rest = get_decl decls i decl (omega (arith, within)) is in
    (omega (arith, rest.0), rest.1)

pub numbered : (numbers : List (List ℕ × ℕ)) (decls : List (Bor Decl)) (i : ℕ) (decl : Bor Decl) → i < length decls → decl ≡ get_or decls i decl →
    NumbersMethods numbers (map decl_of decls) → IsNumbered numbers (map decl_of decls) (decl_of decl)
numbered numbers decls i decl within is h =
    let at = get_decl decls i decl within is in
    numbered_tree numbers (map decl_of decls) i (decl_of decl) at.0 at.1 h

-- ---- one declaration more

from : {X : Type 0} (xs : List X) (i : ℕ) (x : X) → i < length xs → x ≡ get_or xs i x → drop i xs ≡ x ∷ drop (i + 1) xs
from xs i x within is =
    let next : suc i ≡ i + 1 = omega arith in
    drop-cons xs i x within ∙ ap (λ n. get_or xs i x ∷ drop n xs) next ∙ ap (λ y. y ∷ drop (i + 1) xs) (sym is)

pub declares_next : (table new : List (List ℕ × CodeMeaning)) (scope : Scope) (all : List DeclTree) (decls : List (Bor Decl)) (i : ℕ) (decl : Bor Decl)
    (globals records more_globals more_records : ℕ) →
    i < length decls → decl ≡ get_or decls i decl →
    more_globals ≡ globals + count_if (is_some (global_of (decl_of decl))) → more_records ≡ records + count_if (is_some (record_of (decl_of decl))) →
    ((done : List Declared) → Knows table done → Knows new (done ++ meaning_declared scope all globals records (decl_of decl))) →
    DeclaresSoFar table scope all globals records (map decl_of (drop i decls)) →
    DeclaresSoFar new scope all more_globals more_records (map decl_of (drop (i + 1) decls))
declares_next table new scope all decls i decl globals records more_globals more_records within at g r step before =
    let own = meaning_declared scope all globals records (decl_of decl) in
    let rest = map decl_of (drop (i + 1) decls) in
    record {
      done = before.done ++ own;
      is = append_assoc before.done own (meanings_declared scope all more_globals more_records rest)
          ∙ ap (λ m. before.done ++ (own ++ meanings_declared scope all m more_records rest)) g
          ∙ ap (λ m. before.done ++ (own ++ meanings_declared scope all (globals + count_if (is_some (global_of (decl_of decl)))) m rest)) r
          ∙ ap (λ ds. before.done ++ meanings_declared scope all globals records (map decl_of ds)) (sym (from decls i decl within at))
          ∙ before.is;
      knows = step before.done before.knows;
    }

pub declares_none : (table : List (List ℕ × CodeMeaning)) (scope : Scope) (decls : List DeclTree) → table ≡ [] → DeclaresSoFar table scope decls 0 0 decls
declares_none table scope decls none = record { done = []; is = refl; knows = λ text. ap (λ es. option_map meant (named es text)) none }

pub declares_all : (table : List (List ℕ × CodeMeaning)) (scope : Scope) (decls : List DeclTree) (globals records : ℕ) →
    DeclaresSoFar table scope decls globals records [] → Knows table (meanings_declared scope decls 0 0 decls)
declares_all table scope decls globals records h = subst (Knows table) (sym (append-nil h.done) ∙ h.is) h.knows

pub drop_all : {X : Type 0} (xs : List X) (n : ℕ) → length xs ≤ n → drop n xs ≡ []
drop_all [] zero h = refl
drop_all [] (suc n) h = refl
drop_all (x ∷ xs) zero h = absurd (omega (arith, h))
drop_all (x ∷ xs) (suc n) h = drop_all xs n (omega (arith, h))
