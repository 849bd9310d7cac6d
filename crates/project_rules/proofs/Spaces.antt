-- The names of declarations are distinct, and there are not too many methods, exactly where no fault tells of that.
use Rattle.std.proofs.Common.{◌≡◌, ℕ, ◌+◌, ◌≤◌, ◌==◌, Bool, true, false, cond, not, ◌||◌, bytes_eq, List, [], ◌∷◌, ◌++◌, map, length, filter_map, Some, None, is_some, refl, sym, ap, ◌∙◌, arith}
use Rattle.std.specs.List.{IsDistinct, cons_option}
use Rattle.std.proofs.lemmas.Bool.{false≢true}
use Rattle.std.specs.Set.{is_member}
use Rattle.std.proofs.lemmas.Bool.Decides.{nat_tests}
use Rattle.slang_tree.specs.declared.expression.Name.{Name}
use Rattle.slang_tree.specs.DeclTree.{DeclTree, import_decl, global_decl, record_decl, method_decl}
use Rattle.type_rules.specs.Faults.{unless, duplicate_name, too_many_methods}
use Rattle.type_rules.specs.Projects.{method_of, name_of, space_faults, count_faults}
use Rattle.statement_typing.proofs.Lists.{AreNew, new_distinct, bytes_flip, unless_not}
use Rattle.declaration_typing.proofs.Each.{AtEach, count_more}
use Rattle.statement_rules.proofs.Sides.{distinct_new, none_before}
use Rattle.project_typing.proofs.Faultless.{names_more}

-- ---- names

-- these texts are those of the names before
abbrev SameNames : List (List ℕ) → List DeclTree → Type 0
SameNames texts before = (q : List ℕ) → is_member bytes_eq texts q ≡ is_member bytes_eq (map (λ name. name.text) (filter_map name_of before)) q

or_none : (b : Bool) → b ≡ (b || false)
or_none true = refl
or_none false = refl

or_turned : (a b : Bool) → (a || b) ≡ (b || (a || false))
or_turned true true = refl
or_turned true false = refl
or_turned false true = refl
or_turned false false = refl

same_import : (texts : List (List ℕ)) (before : List DeclTree) (decl : DeclTree) → name_of decl ≡ None → SameNames texts before →
    SameNames texts (before ++ decl ∷ [])
same_import texts before decl none same q =
    same q ∙ or_none (is_member bytes_eq (map (λ name. name.text) (filter_map name_of before)) q)
    ∙ ap (λ o. is_member bytes_eq (map (λ name. name.text) (filter_map name_of before)) q || is_member bytes_eq (map (λ (name : Name). name.text) (cons_option o [])) q) (sym none)
    ∙ sym (names_more before decl q)

same_named : (texts : List (List ℕ)) (before : List DeclTree) (decl : DeclTree) (written : Name) → name_of decl ≡ Some written → SameNames texts before →
    SameNames (written.text ∷ texts) (before ++ decl ∷ [])
same_named texts before decl written some same q =
    ap (λ b. bytes_eq q written.text || b) (same q)
    ∙ or_turned (bytes_eq q written.text) (is_member bytes_eq (map (λ name. name.text) (filter_map name_of before)) q)
    ∙ ap (λ o. is_member bytes_eq (map (λ name. name.text) (filter_map name_of before)) q || is_member bytes_eq (map (λ (name : Name). name.text) (cons_option o [])) q) (sym some)
    ∙ sym (names_more before decl q)

abbrev pub HasSpace : List DeclTree → DeclTree → Type 0
HasSpace before decl = space_faults before (name_of decl) ≡ []

abbrev Names : List DeclTree → List (List ℕ)
Names rest = map (λ name. name.text) (filter_map name_of rest)

new_at : (texts : List (List ℕ)) (before : List DeclTree) (written : Name) → SameNames texts before → space_faults before (Some written) ≡ [] →
    is_member bytes_eq texts written.text ≡ false
new_at texts before written same h =
    same written.text ∙ unless_not (is_member bytes_eq (map (λ name. name.text) (filter_map name_of before)) written.text) (duplicate_name written.place) h

space_at : (texts : List (List ℕ)) (before : List DeclTree) (written : Name) → SameNames texts before → is_member bytes_eq texts written.text ≡ false →
    space_faults before (Some written) ≡ []
space_at texts before written same h = ap (λ b. unless (not b) (duplicate_name written.place)) (sym (same written.text) ∙ h)

spaces_new : (texts : List (List ℕ)) (before rest : List DeclTree) → SameNames texts before → AtEach HasSpace before rest → AreNew bytes_eq texts (Names rest)
spaces_new texts before [] same h = tt
spaces_new texts before (import_decl place path ∷ others) same h =
    spaces_new texts (before ++ import_decl place path ∷ []) others (same_import texts before (import_decl place path) refl same) h.1
spaces_new texts before (global_decl decl ∷ others) same h = (
  new_at texts before decl.written same h.0,
  spaces_new (decl.written.text ∷ texts) (before ++ global_decl decl ∷ []) others (same_named texts before (global_decl decl) decl.written refl same) h.1,
)
spaces_new texts before (record_decl decl ∷ others) same h = (
  new_at texts before decl.written same h.0,
  spaces_new (decl.written.text ∷ texts) (before ++ record_decl decl ∷ []) others (same_named texts before (record_decl decl) decl.written refl same) h.1,
)
spaces_new texts before (method_decl decl ∷ others) same h = (
  new_at texts before decl.written same h.0,
  spaces_new (decl.written.text ∷ texts) (before ++ method_decl decl ∷ []) others (same_named texts before (method_decl decl) decl.written refl same) h.1,
)

new_spaces : (texts : List (List ℕ)) (before rest : List DeclTree) → SameNames texts before → AreNew bytes_eq texts (Names rest) → AtEach HasSpace before rest
new_spaces texts before [] same h = tt
new_spaces texts before (import_decl place path ∷ others) same h =
    (refl, new_spaces texts (before ++ import_decl place path ∷ []) others (same_import texts before (import_decl place path) refl same) h)
new_spaces texts before (global_decl decl ∷ others) same h = (
  space_at texts before decl.written same h.0,
  new_spaces (decl.written.text ∷ texts) (before ++ global_decl decl ∷ []) others (same_named texts before (global_decl decl) decl.written refl same) h.1,
)
new_spaces texts before (record_decl decl ∷ others) same h = (
  space_at texts before decl.written same h.0,
  new_spaces (decl.written.text ∷ texts) (before ++ record_decl decl ∷ []) others (same_named texts before (record_decl decl) decl.written refl same) h.1,
)
new_spaces texts before (method_decl decl ∷ others) same h = (
  space_at texts before decl.written same h.0,
  new_spaces (decl.written.text ∷ texts) (before ++ method_decl decl ∷ []) others (same_named texts before (method_decl decl) decl.written refl same) h.1,
)

pub names_to : (decls : List DeclTree) → AtEach (λ before decl. space_faults before (name_of decl) ≡ []) [] decls →
    IsDistinct bytes_eq (map (λ name. name.text) (filter_map name_of decls))
names_to decls h = new_distinct bytes_eq bytes_flip [] (Names decls) (spaces_new [] [] decls (λ q. refl) h)

pub names_from : (decls : List DeclTree) → IsDistinct bytes_eq (map (λ name. name.text) (filter_map name_of decls)) →
    AtEach (λ before decl. space_faults before (name_of decl) ≡ []) [] decls
names_from decls h =
    new_spaces [] [] decls (λ q. refl) (distinct_new bytes_eq bytes_flip [] (Names decls) (none_before bytes_eq (Names decls)) h)

-- ---- the count of methods

one_more : (n m : ℕ) → (n == m) ≡ false → n ≤ m → n + 1 ≤ m
one_more n m h k = grind (arith, nat_tests)

not_last : (n k m : ℕ) → n + (k + 1) ≤ m → (n == m) ≡ false
not_last n k m h = grind (arith, nat_tests)

abbrev methods_in : List DeclTree → ℕ
methods_in decls = length (filter_map method_of decls)

same_count : (before : List DeclTree) (decl : DeclTree) → is_some (method_of decl) ≡ false → methods_in (before ++ decl ∷ []) ≡ methods_in before
same_count before decl h =
    count_more method_of before decl ∙ ap (λ b. methods_in before + cond b 1 0) h ∙ (let e : methods_in before + 0 ≡ methods_in before = omega arith in e)

pub count_to : (limit : ℕ) (before rest : List DeclTree) → AtEach (λ front decl. (is_some (method_of decl) ≡ true → (length (filter_map method_of front) == limit) ≡ false)) before rest →
    length (filter_map method_of before) ≤ limit → length (filter_map method_of before) + length (filter_map method_of rest) ≤ limit
count_to limit before [] h low = omega (arith, low)
count_to limit before (import_decl place path ∷ others) h low =
    let e = same_count before (import_decl place path) refl in
    let r = count_to limit (before ++ import_decl place path ∷ []) others h.1 (omega (arith, low, e)) in omega (arith, r, e)
count_to limit before (global_decl decl ∷ others) h low =
    let e = same_count before (global_decl decl) refl in
    let r = count_to limit (before ++ global_decl decl ∷ []) others h.1 (omega (arith, low, e)) in omega (arith, r, e)
count_to limit before (record_decl decl ∷ others) h low =
    let e = same_count before (record_decl decl) refl in
    let r = count_to limit (before ++ record_decl decl ∷ []) others h.1 (omega (arith, low, e)) in omega (arith, r, e)
count_to limit before (method_decl decl ∷ others) h low =
    let e = count_more method_of before (method_decl decl) in
    let k = one_more (methods_in before) limit (h.0 refl) low in
    let r = count_to limit (before ++ method_decl decl ∷ []) others h.1 (omega (arith, k, e)) in omega (arith, r, e)

pub count_from : (limit : ℕ) (before rest : List DeclTree) → length (filter_map method_of before) + length (filter_map method_of rest) ≤ limit →
    AtEach (λ front decl. (is_some (method_of decl) ≡ true → (length (filter_map method_of front) == limit) ≡ false)) before rest
count_from limit before [] low = tt
count_from limit before (import_decl place path ∷ others) low =
    let e = same_count before (import_decl place path) refl in
    ((λ h. absurd (false≢true h)), count_from limit (before ++ import_decl place path ∷ []) others (omega (arith, low, e)))
count_from limit before (global_decl decl ∷ others) low =
    let e = same_count before (global_decl decl) refl in
    ((λ h. absurd (false≢true h)), count_from limit (before ++ global_decl decl ∷ []) others (omega (arith, low, e)))
count_from limit before (record_decl decl ∷ others) low =
    let e = same_count before (record_decl decl) refl in
    ((λ h. absurd (false≢true h)), count_from limit (before ++ record_decl decl ∷ []) others (omega (arith, low, e)))
count_from limit before (method_decl decl ∷ others) low =
    let e = count_more method_of before (method_decl decl) in (
      (λ h. not_last (methods_in before) (methods_in others) limit (omega (arith, low))),
      count_from limit (before ++ method_decl decl ∷ []) others (omega (arith, low, e)),
    )

pub one_to : (before : List DeclTree) (decl : DeclTree) → count_faults before decl ≡ [] → is_some (method_of decl) ≡ true →
    (length (filter_map method_of before) == 10000) ≡ false
one_to before (method_decl decl) h some = unless_not (length (filter_map method_of before) == 10000) (too_many_methods decl.written.place) h
one_to before (import_decl place path) h some = absurd (false≢true some)
one_to before (global_decl decl) h some = absurd (false≢true some)
one_to before (record_decl decl) h some = absurd (false≢true some)

pub one_from : (before : List DeclTree) (decl : DeclTree) → (is_some (method_of decl) ≡ true → (length (filter_map method_of before) == 10000) ≡ false) →
    count_faults before decl ≡ []
one_from before (method_decl decl) h = ap (λ b. unless (not b) (too_many_methods decl.written.place)) (h refl)
one_from before (import_decl place path) h = refl
one_from before (global_decl decl) h = refl
one_from before (record_decl decl) h = refl
