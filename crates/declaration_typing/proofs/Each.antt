-- What holds of each declaration of a project without faults, and what a name of the project is the name of.
use Rattle.std.proofs.Common.{◌≡◌, ◌⊎◌, inl, inr, ℕ, ◌+◌, ◌<◌, Bool, true, false, cond, not, bytes_eq, List, [], ◌∷◌, ◌++◌, length, find, filter_map, Option, Some, None, is_some, unwrap_or, option_map, refl, ap, ◌∙◌, arith, length-append}
use Rattle.std.specs.List.{cons_option}
use Rattle.std.proofs.lemmas.List.Elements.{filter_map-append}
use Rattle.slang_tree.specs.DeclTree.{DeclTree, import_decl, global_decl, record_decl, method_decl}
use Rattle.program_trees.specs.Variables.{global}
use Rattle.type_rules.specs.Meanings.{Meaning, variable, record_class, method, Declared, declared, Scope, meaning_among}
use Rattle.type_rules.specs.Constants.{judged_const}
use Rattle.type_rules.specs.Statements.{declared_type, texts}
use Rattle.type_rules.specs.Projects.{global_of, record_of, name_of, signature_of, method_number, count_if, meanings_declared, space_faults, inner_faults, count_faults, decl_faults, decls_faults}
use Rattle.claim_typing.proofs.Parts.{both_nil, none_is_some}
use Rattle.statement_typing.proofs.Lists.{same_bytes}

-- ---- each declaration, behind others

-- The property holds of each declaration with the declarations before it.
abbrev pub AtEach : (List DeclTree → DeclTree → Type 0) → List DeclTree → List DeclTree → Type 0
AtEach P before [] = Unit {0}
AtEach P before (decl ∷ others) = P before decl × AtEach P (before ++ decl ∷ []) others

pub at_each_weaker : (P Q : List DeclTree → DeclTree → Type 0) → ((before : List DeclTree) (decl : DeclTree) → P before decl → Q before decl) →
    (before rest : List DeclTree) → AtEach P before rest → AtEach Q before rest
at_each_weaker P Q f before [] h = tt
at_each_weaker P Q f before (decl ∷ others) h = (f before decl h.0, at_each_weaker P Q f (before ++ decl ∷ []) others h.1)

pub faultless_each : (decls before rest : List DeclTree) → decls_faults decls before rest ≡ [] →
    AtEach (λ front decl. decl_faults decls front decl ≡ []) before rest
faultless_each decls before [] h = tt
faultless_each decls before (decl ∷ others) h =
    let p = both_nil (decl_faults decls before decl) (decls_faults decls (before ++ decl ∷ []) others) h in
    (p.0, faultless_each decls (before ++ decl ∷ []) others p.1)

pub inner_of : (decls before : List DeclTree) (decl : DeclTree) → decl_faults decls before decl ≡ [] →
    inner_faults decls (length (filter_map record_of before)) decl ≡ []
inner_of decls before decl h =
    (both_nil (space_faults before (name_of decl) ++ count_faults before decl) (inner_faults decls (length (filter_map record_of before)) decl) h).1

-- how many are counted behind one more
pub count_more : {A : Type 0} (h : DeclTree → Option A) (before : List DeclTree) (decl : DeclTree) →
    length (filter_map h (before ++ decl ∷ [])) ≡ length (filter_map h before) + count_if (is_some (h decl))
count_more h before decl =
    ap length (filter_map-append h before (decl ∷ [])) ∙ length-append (filter_map h before) (filter_map h (decl ∷ []))
    ∙ ap (λ n. length (filter_map h before) + n) (one (h decl))
  where
    one : {A : Type 0} (o : Option A) → length (cons_option o []) ≡ count_if (is_some o)
    one None = refl
    one (Some a) = refl

-- ---- names

-- the declaration has that name, which means that behind so many globals and records
abbrev pub IsNameOf : Scope → List DeclTree → ℕ → ℕ → DeclTree → List ℕ → Meaning → Type 0
IsNameOf outline decls globals records (import_decl place path) text m = ⊥
IsNameOf outline decls globals records (global_decl decl) text m =
    (decl.written.text ≡ text) × (variable (global globals) (not decl.fixed) (declared_type outline decl.ty (judged_const outline decl.init)) ≡ m)
IsNameOf outline decls globals records (record_decl decl) text m = (decl.written.text ≡ text) × (record_class records ≡ m)
IsNameOf outline decls globals records (method_decl decl) text m =
    (decl.written.text ≡ text)
    × (method (method_number decls decl.written.text) (signature_of outline.names decl) (texts decl.modifies) ≡ m)

-- one of the declarations has
abbrev pub IsFound : Scope → List DeclTree → ℕ → ℕ → List DeclTree → List ℕ → Meaning → Type 0
IsFound outline decls globals records [] text m = ⊥
IsFound outline decls globals records (decl ∷ others) text m =
    IsNameOf outline decls globals records decl text m
    ⊎ IsFound outline decls (globals + count_if (is_some (global_of decl))) (records + count_if (is_some (record_of decl))) others text m

found_first : {A : Type 0} (d : Declared) (names : List Declared) (text : List ℕ) (m : Meaning) → meaning_among (d ∷ names) text ≡ Some m →
    (d.text ≡ text → d.meaning ≡ m → A) → (meaning_among names text ≡ Some m → A) → A
found_first {A} d names text m h here later = at (bytes_eq d.text text) refl h
  where
    at : (b : Bool) → bytes_eq d.text text ≡ b → option_map (λ n. n.meaning) (cond b (Some d) (find (λ n. bytes_eq n.text text) names)) ≡ Some m → A
    at true e k = here (same_bytes d.text text e) (ap (λ o. unwrap_or o m) k)
    at false e k = later k

pub found_among : (outline : Scope) (decls : List DeclTree) (globals records : ℕ) (rest : List DeclTree) (text : List ℕ) (m : Meaning) →
    meaning_among (meanings_declared outline decls globals records rest) text ≡ Some m → IsFound outline decls globals records rest text m
found_among outline decls globals records [] text m h = none_is_some h
found_among outline decls globals records (import_decl place path ∷ others) text m h =
    inr (found_among outline decls (globals + 0) (records + 0) others text m h)
found_among outline decls globals records (global_decl decl ∷ others) text m h =
    found_first (declared decl.written.text (variable (global globals) (not decl.fixed) (declared_type outline decl.ty (judged_const outline decl.init))))
    (meanings_declared outline decls (globals + 1) (records + 0) others) text m h
    (λ e k. inl (e, k)) (λ k. inr (found_among outline decls (globals + 1) (records + 0) others text m k))
found_among outline decls globals records (record_decl decl ∷ others) text m h =
    found_first (declared decl.written.text (record_class records)) (meanings_declared outline decls (globals + 0) (records + 1) others) text m h
    (λ e k. inl (e, k)) (λ k. inr (found_among outline decls (globals + 0) (records + 1) others text m k))
found_among outline decls globals records (method_decl decl ∷ others) text m h =
    found_first
    (declared decl.written.text (method (method_number decls decl.written.text) (signature_of outline.names decl) (texts decl.modifies)))
    (meanings_declared outline decls (globals + 0) (records + 0) others) text m h
    (λ e k. inl (e, k)) (λ k. inr (found_among outline decls (globals + 0) (records + 0) others text m k))

-- ---- records

abbrev record_number : Meaning → ℕ
record_number (record_class n) = n
record_number other = 0

-- a record's number is below the count of the records
pub class_below : (outline : Scope) (decls : List DeclTree) (globals records : ℕ) (rest : List DeclTree) (text : List ℕ) (n : ℕ) →
    IsFound outline decls globals records rest text (record_class n) → n < records + length (filter_map record_of rest)
class_below outline decls globals records [] text n h = absurd h
class_below outline decls globals records (import_decl place path ∷ others) text n (inl h) = absurd h
class_below outline decls globals records (import_decl place path ∷ others) text n (inr h) =
    omega (arith, class_below outline decls (globals + 0) (records + 0) others text n h)
class_below outline decls globals records (global_decl decl ∷ others) text n (inl h) =
    absurd (let k : variable (global globals) (not decl.fixed) (declared_type outline decl.ty (judged_const outline decl.init)) ≡ record_class n = h.1 in cc)
class_below outline decls globals records (global_decl decl ∷ others) text n (inr h) =
    omega (arith, class_below outline decls (globals + 1) (records + 0) others text n h)
class_below outline decls globals records (record_decl decl ∷ others) text n (inl h) =
    let e : records ≡ n = ap record_number h.1 in omega (arith, e)
class_below outline decls globals records (record_decl decl ∷ others) text n (inr h) =
    omega (arith, class_below outline decls (globals + 0) (records + 1) others text n h)
class_below outline decls globals records (method_decl decl ∷ others) text n (inl h) =
    absurd (let k : method (method_number decls decl.written.text) (signature_of outline.names decl) (texts decl.modifies) ≡ record_class n = h.1 in cc)
class_below outline decls globals records (method_decl decl ∷ others) text n (inr h) =
    omega (arith, class_below outline decls (globals + 0) (records + 0) others text n h)
