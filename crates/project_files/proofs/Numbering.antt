-- Names in order are numbered by how many come before each.
use Rattle.std.proofs.Common.{◌≡◌, ℕ, zero, suc, ◌+◌, ◌<◌, ◌≤◌, Bool, true, false, cond, Option, Some, None, List, [], ◌∷◌, ◌++◌, length, take, drop, map, get_or, refl, sym, ap, ◌∙◌, subst, true≢false, arith, ◌⊎◌, inl, inr, filter_map}
use Rattle.std.specs.Option.{is_some}
use Rattle.std.specs.Str.{bytes_eq}
use Rattle.std.specs.List.{AllByRecursion, Contains, cons_option, count_by}
use Rattle.std.proofs.lemmas.List.{map-append}
use Rattle.std.specs.List.Sorted.{IsPermutation, IsSortedBy}
use Rattle.std.specs.Borrow.{Bor}
use Rattle.std.proofs.lemmas.List.Sorted.{Contains-permutation, IsPermutation-map, sum_by-IsPermutation}
use Rattle.std.proofs.lemmas.List.Sums.{sum_by-cons}
use Rattle.std.proofs.lemmas.Slice.Eq.{bytes_eq-Decides}
use Rattle.name_maps.specs.Names.{is_named, named, with_name}
use Rattle.name_maps.proofs.Named.{named-with}
use Rattle.slang_tree.specs.DeclTree.{MethodDeclTree, DeclTree, import_decl, global_decl, record_decl, method_decl}
use Rattle.type_rules.specs.Faults.{precedes}
use Rattle.type_rules.specs.Projects.{method_number, method_of}
use Rattle.project_files.specs.Files.{method_names, numbers_with}
use Rattle.project_files.proofs.Order.{first, irrefl, none-trans}

-- each name has no name behind it that comes before it
abbrev pub AreInOrder : List (List ℕ) → Type 0
AreInOrder [] = Unit {0}
AreInOrder (text ∷ texts) = AllByRecursion (λ other. precedes other text ≡ false) texts × AreInOrder texts

-- how many come before a name
abbrev pub count_before : List (List ℕ) → List ℕ → ℕ
count_before texts text = count_by (λ other. precedes other text) texts

none_before : (texts : List (List ℕ)) (text : List ℕ) → AllByRecursion (λ other. precedes other text ≡ false) texts → count_before texts text ≡ 0
none_before [] text h = refl
none_before (other ∷ texts) text h =
    let first : cond (precedes other text) 1 0 ≡ 0 = ap (λ b. cond b 1 0) h.0 in
    let rest : count_before texts text ≡ 0 = none_before texts text h.1 in
    sum_by-cons (λ x. cond (precedes x text) 1 0) other texts ∙ ap (λ n. n + count_before texts text) first ∙ ap (λ n. 0 + n) rest

-- what is named already keeps its number
kept : (entries : List (List ℕ × ℕ)) (n : ℕ) (texts : List (List ℕ)) (text : List ℕ) (m : ℕ) → named entries text ≡ Some m → named (numbers_with entries n texts) text ≡ Some m
kept entries n [] text m h = h
kept entries n (other ∷ texts) text m h =
    kept (with_name entries other n) (n + 1) texts text m
    (named-with entries other n text ∙ ap (λ o. cond (is_some o) o (cond (bytes_eq other text) (Some n) None)) h)

among_at : (x : List ℕ) (xs : List (List ℕ)) (text : List ℕ) (k : ℕ) → k < length (x ∷ xs) → get_or (x ∷ xs) k text ≡ text → (x ≡ text) ⊎ Contains xs text
among_at x xs text zero within is = inl is
among_at x xs text (suc k) within is = inr (k, omega (arith, within), is)

among_cases : (x : List ℕ) (xs : List (List ℕ)) (text : List ℕ) → Contains (x ∷ xs) text → (x ≡ text) ⊎ Contains xs text
among_cases x xs text h = among_at x xs text h.0 h.1 h.2

-- a name is not the first
later : (x : List ℕ) (xs : List (List ℕ)) (text : List ℕ) → bytes_eq x text ≡ false → (x ≡ text) ⊎ Contains xs text → Contains xs text
later x xs text differ (inl e) = absurd (true≢false (sym ((bytes_eq-Decides x text).1 e) ∙ differ))
later x xs text differ (inr h) = h

all_at : (P : List ℕ → Type 0) (xs : List (List ℕ)) (text : List ℕ) (k : ℕ) → AllByRecursion P xs → k < length xs → get_or xs k text ≡ text → P text
all_at P [] text k all within is = absurd (omega (arith, within))
all_at P (x ∷ xs) text zero all within is = subst P is all.0
all_at P (x ∷ xs) text (suc k) all within is = all_at P xs text k all.1 (omega (arith, within)) is

none_named : (entries : List (List ℕ × ℕ)) (n : ℕ) (x text : List ℕ) → named entries text ≡ None → named (with_name entries x n) text ≡ cond (bytes_eq x text) (Some n) None
none_named entries n x text h = named-with entries x n text ∙ ap (λ o. cond (is_some o) o (cond (bytes_eq x text) (Some n) None)) h

numbered_first : (entries : List (List ℕ × ℕ)) (n : ℕ) (x : List ℕ) (xs : List (List ℕ)) (text : List ℕ) → AreInOrder (x ∷ xs) → named entries text ≡ None →
    bytes_eq x text ≡ true → named (numbers_with (with_name entries x n) (n + 1) xs) text ≡ Some (n + count_before (x ∷ xs) text)
numbered_first entries n x xs text sorted missing same =
    let is : x ≡ text = (bytes_eq-Decides x text).0 same in
    let none : AllByRecursion (λ other. precedes other text ≡ false) (x ∷ xs) =
    subst (λ t. AllByRecursion (λ other. precedes other t ≡ false) (x ∷ xs)) is (irrefl x, sorted.0) in
    let zero_before : count_before (x ∷ xs) text ≡ 0 = none_before (x ∷ xs) text none in
    let count : n ≡ n + count_before (x ∷ xs) text = omega (arith, zero_before) in
    kept (with_name entries x n) (n + 1) xs text n (none_named entries n x text missing ∙ ap (λ b. cond b (Some n) None) same) ∙ ap Some count

count_later : (n : ℕ) (x : List ℕ) (xs : List (List ℕ)) (text : List ℕ) → AreInOrder (x ∷ xs) → Contains xs text → bytes_eq x text ≡ false →
    n + 1 + count_before xs text ≡ n + count_before (x ∷ xs) text
count_later n x xs text sorted behind differ =
    let first_is : precedes x text ≡ true = first x text (all_at (λ other. precedes other x ≡ false) xs text behind.0 sorted.0 behind.1 behind.2) differ in
    let more : count_before (x ∷ xs) text ≡ 1 + count_before xs text =
    sum_by-cons (λ y. cond (precedes y text) 1 0) x xs ∙ ap (λ b. cond b 1 0 + count_before xs text) first_is in
    omega (arith, more)

numbered_by : (b : Bool) (entries : List (List ℕ × ℕ)) (n : ℕ) (x : List ℕ) (xs : List (List ℕ)) (text : List ℕ) → bytes_eq x text ≡ b →
    AreInOrder (x ∷ xs) → named entries text ≡ None → Contains (x ∷ xs) text →
    (named (with_name entries x n) text ≡ None → Contains xs text → named (numbers_with (with_name entries x n) (n + 1) xs) text ≡ Some (n + 1 + count_before xs text)) →
    named (numbers_with (with_name entries x n) (n + 1) xs) text ≡ Some (n + count_before (x ∷ xs) text)
numbered_by true entries n x xs text same sorted missing among more = numbered_first entries n x xs text sorted missing same
numbered_by false entries n x xs text differ sorted missing among more =
    let behind : Contains xs text = later x xs text differ (among_cases x xs text among) in
    more (none_named entries n x text missing ∙ ap (λ b. cond b (Some n) None) differ) behind ∙ ap Some (count_later n x xs text sorted behind differ)

pub numbered_at : (entries : List (List ℕ × ℕ)) (n : ℕ) (texts : List (List ℕ)) (text : List ℕ) → AreInOrder texts → named entries text ≡ None → Contains texts text →
    named (numbers_with entries n texts) text ≡ Some (n + count_before texts text)
numbered_at entries n [] text sorted missing among = absurd (omega (arith, among.1))
numbered_at entries n (x ∷ xs) text sorted missing among =
    numbered_by (bytes_eq x text) entries n x xs text refl sorted missing among
    (λ none behind. numbered_at (with_name entries x n) (n + 1) xs text sorted.1 none behind)

-- ---- names that were sorted

abbrev pub text_of : Bor (List ℕ) → List ℕ
text_of name = name.now

abbrev comes_first : Bor (List ℕ) → Bor (List ℕ) → Bool
comes_first x y = precedes x.now y.now

sorted_tail : (x : Bor (List ℕ)) (xs : List (Bor (List ℕ))) → IsSortedBy comes_first (x ∷ xs) → IsSortedBy comes_first xs
sorted_tail x xs up = λ k d low high.
    let next : suc k + 1 ≡ suc (k + 1) = omega arith in
    let within : suc k + 1 < length (x ∷ xs) = omega (arith, high) in
    subst (λ n. comes_first (get_or (x ∷ xs) n d) (get_or (x ∷ xs) (suc k) d) ≡ false) next (up (suc k) d (omega arith) within)

all_behind : (x y : List ℕ) (zs : List (List ℕ)) → precedes y x ≡ false → AllByRecursion (λ other. precedes other y ≡ false) zs →
    AllByRecursion (λ other. precedes other x ≡ false) zs
all_behind x y [] h all = tt
all_behind x y (z ∷ zs) h all = (none-trans z y x all.0 h, all_behind x y zs h all.1)

in_order_with : (x : Bor (List ℕ)) (xs : List (Bor (List ℕ))) → IsSortedBy comes_first (x ∷ xs) → AreInOrder (map text_of xs) →
    AllByRecursion (λ other. precedes other x.now ≡ false) (map text_of xs)
in_order_with x [] up rest = tt
in_order_with x (y ∷ ys) up rest =
    let next : precedes y.now x.now ≡ false = up 0 x (omega arith) (omega arith) in
    (next, all_behind x.now y.now (map text_of ys) next rest.0)

in_order_from : (xs : List (Bor (List ℕ))) → IsSortedBy comes_first xs → AreInOrder (map text_of xs)
in_order_from [] up = tt
in_order_from (x ∷ xs) up =
    let rest = in_order_from xs (sorted_tail x xs up) in
    (in_order_with x xs up rest, rest)

-- ---- the names of methods

pub names_more : (decls : List DeclTree) (decl : DeclTree) → method_names (decls ++ decl ∷ []) ≡ method_names decls ++ method_names (decl ∷ [])
names_more [] decl = refl
names_more (import_decl place path ∷ decls) decl = names_more decls decl
names_more (global_decl global ∷ decls) decl = names_more decls decl
names_more (record_decl known ∷ decls) decl = names_more decls decl
names_more (method_decl method ∷ decls) decl = ap (λ ns. method.written.text ∷ ns) (names_more decls decl)

pub count_named : (methods : List MethodDeclTree) (text : List ℕ) →
    count_by (λ (m : MethodDeclTree). precedes m.written.text text) methods ≡ count_before (map (λ (m : MethodDeclTree). m.written.text) methods) text
count_named [] text = refl
count_named (method ∷ methods) text =
    sum_by-cons (λ (m : MethodDeclTree). cond (precedes m.written.text text) 1 0) method methods
    ∙ ap (λ n. cond (precedes method.written.text text) 1 0 + n) (count_named methods text)
    ∙ sym (sum_by-cons (λ other. cond (precedes other text) 1 0) method.written.text (map (λ (m : MethodDeclTree). m.written.text) methods))

pub numbers_are : (decls : List DeclTree) (before sorted : List (Bor (List ℕ))) (text : List ℕ) →
    map text_of before ≡ method_names decls → IsPermutation before sorted → IsSortedBy comes_first sorted → Contains (method_names decls) text →
    named (numbers_with [] 0 (map text_of sorted)) text ≡ Some (method_number decls text)
numbers_are decls before sorted text names moved up among =
    let same : IsPermutation (map text_of before) (map text_of sorted) = IsPermutation-map text_of before sorted moved in
    let there : Contains (map text_of sorted) text =
    Contains-permutation (map text_of before) (map text_of sorted) text same (subst (λ ns. Contains ns text) (sym names) among) in
    let counted : count_before (map text_of sorted) text ≡ method_number decls text =
    sum_by-IsPermutation (λ other. cond (precedes other text) 1 0) (map text_of before) (map text_of sorted) same
    ∙ ap (λ ns. count_before ns text) names ∙ sym (count_named (filter_map method_of decls) text) in
    let start : 0 + count_before (map text_of sorted) text ≡ count_before (map text_of sorted) text = omega arith in
    numbered_at [] 0 (map text_of sorted) text (in_order_from sorted up) refl there ∙ ap Some (start ∙ counted)

-- the names that one declaration has
abbrev pub names_in : Option MethodDeclTree → List (List ℕ)
names_in found = map (λ (m : MethodDeclTree). m.written.text) (cons_option found [])

pub one_more : (new items : List (Bor (List ℕ))) (x : Bor (List ℕ)) (before : List DeclTree) (decl : DeclTree) (text : List ℕ) (found : Option MethodDeclTree) →
    new ≡ items ++ x ∷ [] → map text_of items ≡ method_names before → x.now ≡ text → found ≡ method_of decl → names_in found ≡ text ∷ [] →
    map text_of new ≡ method_names before ++ method_names (decl ∷ [])
one_more new items x before decl text found more names is method has =
    ap (map text_of) more
    ∙ map-append text_of items (x ∷ [])
    ∙ ap (λ t. map text_of items ++ t ∷ []) is
    ∙ ap (λ ns. ns ++ text ∷ []) names
    ∙ ap (λ ns. method_names before ++ ns) (sym has)
    ∙ ap (λ it. method_names before ++ names_in it) method
