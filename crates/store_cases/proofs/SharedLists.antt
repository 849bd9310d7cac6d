-- Lists that share what stands behind, and lists from their ends.
use Rattle.std.proofs.Common.{◌≡◌, ℕ, zero, suc, ◌+◌, ◌-◌, ◌<◌, ◌≤◌, List, [], ◌∷◌, ◌++◌, map, reverse, drop, length, get_or, ◌⊎◌, inl, inr, refl, sym, ap, ap₂, ◌∙◌, subst, arith, append_assoc, length-append}
use Rattle.std.specs.List.{AllByRecursion}
use Rattle.std.proofs.Math.Seq.{drop-cons}
use Rattle.std.proofs.lemmas.Bool.{cases_lt}
use Rattle.std.proofs.lemmas.List.{get_or_append_left, get_or_push, length_push, append-nil, map-append, reverse-append, reverse-reverse}
use Rattle.store_cases.specs.declared.lists.Cell.{Cell}
use Rattle.store_cases.specs.Lists.{lists_over, lists_of, ReachBack, Extends, list_at, IsListAt, IsCellOf}

-- ---- the lists of cells

pub lists_of-push : (cs : List Cell) (c : Cell) → lists_of (cs ++ c ∷ []) ≡ lists_of cs ++ (c.first ∷ list_at (lists_of cs) c.rest) ∷ []
lists_of-push cs c = over_push ([] ∷ []) cs
  where
    over_push : (ls : List (List ℕ)) (cs : List Cell) → lists_over ls (cs ++ c ∷ []) ≡ lists_over ls cs ++ (c.first ∷ list_at (lists_over ls cs) c.rest) ∷ []
    over_push ls [] = refl
    over_push ls (e ∷ es) = over_push (ls ++ (e.first ∷ get_or ls e.rest []) ∷ []) es

length-over : (ls : List (List ℕ)) (cs : List Cell) → length (lists_over ls cs) ≡ length ls + length cs
length-over ls [] = omega arith
length-over ls (c ∷ cs) = omega (arith, length-over (ls ++ (c.first ∷ get_or ls c.rest []) ∷ []) cs, length_push ls (c.first ∷ get_or ls c.rest []))

pub length-lists_of : (cs : List Cell) → length (lists_of cs) ≡ length cs + 1
length-lists_of cs = omega (arith, length-over ([] ∷ []) cs)

begins : (ls : List (List ℕ)) (cs : List Cell) (k : ℕ) → k < length ls → list_at (lists_over ls cs) k ≡ list_at ls k
begins ls [] k h = refl
begins ls (c ∷ cs) k h =
    let x = c.first ∷ get_or ls c.rest [] in
    begins (ls ++ x ∷ []) cs k (omega (arith, length_push ls x)) ∙ get_or_append_left ls (x ∷ []) [] k h

pub first_list : (cs : List Cell) → list_at (lists_of cs) 0 ≡ []
first_list cs = begins ([] ∷ []) cs 0 (omega arith)

over_cell : (ls : List (List ℕ)) (cs : List Cell) (k : ℕ) (d : Cell) → ((j : ℕ) → j < length cs → (get_or cs j d).rest < length ls + j) → k < length cs →
    list_at (lists_over ls cs) (length ls + k) ≡ (get_or cs k d).first ∷ list_at (lists_over ls cs) (get_or cs k d).rest
over_cell ls [] k d reach h = absurd (omega arith)
over_cell ls (c ∷ cs) zero d reach h =
    let x = c.first ∷ get_or ls c.rest [] in
    let behind : c.rest < length ls = (let r = reach zero (omega arith) in omega arith) in
    let e : length ls + 0 ≡ length ls = omega arith in
    ap (list_at (lists_over (ls ++ x ∷ []) cs)) e ∙ begins (ls ++ x ∷ []) cs (length ls) (omega (arith, length_push ls x)) ∙ get_or_push ls x [] (length ls) refl ∙
    ap (λ xs. c.first ∷ xs) (sym (begins (ls ++ x ∷ []) cs c.rest (omega (arith, length_push ls x)) ∙ get_or_append_left ls (x ∷ []) [] c.rest behind))
over_cell ls (c ∷ cs) (suc k) d reach h =
    let x = c.first ∷ get_or ls c.rest [] in
    let more = length_push ls x in
    let e : length ls + suc k ≡ length (ls ++ x ∷ []) + k = omega arith in
    ap (list_at (lists_over (ls ++ x ∷ []) cs)) e ∙
    over_cell (ls ++ x ∷ []) cs k d (λ j l. (let r = reach (suc j) (omega arith) in omega arith)) (omega arith)

pub cell_of : (cs : List Cell) (place : ℕ) (d : Cell) → ReachBack cs → 1 ≤ place → place < length (lists_of cs) → IsCellOf (lists_of cs) place (get_or cs (place - 1) d)
cell_of cs place d reach l h =
    let k = place - 1 in
    let within : k < length cs = omega (arith, length-lists_of cs) in
    let e : 1 + k ≡ place = omega arith in
    let back = reach k d within in
    record {
      is = ap (list_at (lists_of cs)) (sym e) ∙ over_cell ([] ∷ []) cs k d (λ j m. (let r = reach j d m in omega arith)) within;
      before = omega arith;
    }

pub reach-push : (cs : List Cell) (c : Cell) → ReachBack cs → c.rest ≤ length cs → ReachBack (cs ++ c ∷ [])
reach-push cs c reach l k d h = by_place (cases_lt k (length cs))
  where
    by_place : (k < length cs) ⊎ (length cs ≤ k) → (get_or (cs ++ c ∷ []) k d).rest ≤ k
    by_place (inl m) = let same = get_or_append_left cs (c ∷ []) d k m in let r = reach k d m in subst (λ (e : Cell). e.rest ≤ k) (sym same) r
    by_place (inr m) =
        let is : length cs ≡ k = omega (arith, length_push cs c) in
        let same = get_or_push cs c d k is in
        subst (λ (e : Cell). e.rest ≤ k) (sym same) (omega arith)

-- ---- lists that are extended

pub extends_itself : (ls : List (List ℕ)) → Extends ls ls
extends_itself ls = record { more = []; is = sym (append-nil ls) }

pub extends_further : (a b c : List (List ℕ)) → Extends a b → Extends b c → Extends a c
extends_further a b c g h = record { more = g.more ++ h.more; is = h.is ∙ ap (λ ls. ls ++ h.more) g.is ∙ append_assoc a g.more h.more }

pub extends_push : (ls ms : List (List ℕ)) (ks : List ℕ) → ms ≡ ls ++ ks ∷ [] → Extends ls ms
extends_push ls ms ks e = record { more = ks ∷ []; is = e }

pub extends_length : (a b : List (List ℕ)) → Extends a b → length a ≤ length b
extends_length a b g = omega (arith, ap length g.is, length-append a g.more)

pub list-extends : (a b : List (List ℕ)) (k : ℕ) → Extends a b → k < length a → list_at b k ≡ list_at a k
list-extends a b k g h = ap (λ ls. list_at ls k) g.is ∙ get_or_append_left a g.more [] k h

pub list-push : (ls ms : List (List ℕ)) (ks : List ℕ) → ms ≡ ls ++ ks ∷ [] → IsListAt ms (length ls) ks
list-push ls ms ks e = record { within = omega (arith, ap length e, length_push ls ks); is = ap (λ xs. list_at xs (length ls)) e ∙ get_or_push ls ks [] (length ls) refl }

-- ---- lists that are added from their ends

drop_length : {X : Type 0} (xs : List X) → drop (length xs) xs ≡ []
drop_length [] = refl
drop_length (x ∷ xs) = drop_length xs

pub drop_all : {X : Type 0} (xs : List X) (n : ℕ) → n ≡ length xs → drop n xs ≡ []
drop_all xs n e = ap (λ m. drop m xs) e ∙ drop_length xs

-- one more at the front
pub drop_back : {X : Type 0} (xs : List X) (count : ℕ) (d : X) → count < length xs → drop (length xs - (count + 1)) xs ≡ get_or xs (length xs - 1 - count) d ∷ drop (length xs - count) xs
drop_back xs count d l =
    let at : ℕ = length xs - 1 - count in
    let here : length xs - (count + 1) ≡ at = omega arith in
    let behind : suc at ≡ length xs - count = omega arith in
    ap (λ n. drop n xs) here ∙ drop-cons xs at d (omega arith) ∙ ap (λ n. get_or xs at d ∷ drop n xs) behind

pub add_begins : (ls : List (List ℕ)) (ids : List ℕ) (rest n : ℕ) → n ≡ length ids → rest < length ls → IsListAt ls rest (drop n ids ++ list_at ls rest) × Extends ls ls
add_begins ls ids rest n e l = (record { within = l; is = ap (λ ks. ks ++ list_at ls rest) (sym (drop_all ids n e)) }, extends_itself ls)

pub add_more : (old mid new : List (List ℕ)) (ids : List ℕ) (rest count place k d : ℕ) → IsListAt mid place (drop (length ids - count) ids ++ list_at old rest) → Extends old mid → count < length ids → k ≡ length mid →
    new ≡ mid ++ (get_or ids (length ids - 1 - count) d ∷ list_at mid place) ∷ [] → IsListAt new k (drop (length ids - (count + 1)) ids ++ list_at old rest) × Extends old new
add_more old mid new ids rest count place k d h g l is e =
    let x = get_or ids (length ids - 1 - count) d in
    let put = list-push mid new (x ∷ list_at mid place) e in (
      record {
        within = subst (λ j. j < length new) (sym is) put.within;
        is = ap (list_at new) is ∙ put.is ∙ ap (λ ks. x ∷ ks) h.is ∙ ap (λ ks. ks ++ list_at old rest) (sym (drop_back ids count d l));
      },
      extends_further old mid new g (extends_push mid new (x ∷ list_at mid place) e),
    )

pub add_done : (ls : List (List ℕ)) (ids ks : List ℕ) (place n : ℕ) → n ≡ 0 → IsListAt ls place (drop n ids ++ ks) → IsListAt ls place (ids ++ ks)
add_done ls ids ks place n e h = subst (λ m. IsListAt ls place (drop m ids ++ ks)) e h

pub cell_more : (ls : List (List ℕ)) (ids : List ℕ) (at place : ℕ) (c : Cell) → at < length ls → ids ++ list_at ls at ≡ list_at ls place → IsCellOf ls at c → (c.rest < length ls) × ((ids ++ c.first ∷ []) ++ list_at ls c.rest ≡ list_at ls place)
cell_more ls ids at place c l e h =
    let before = h.before in (omega arith, append_assoc ids (c.first ∷ []) (list_at ls c.rest) ∙ ap (λ ks. ids ++ ks) (sym h.is) ∙ e)

pub ruleset shared_lines = (lists_of-push, length-lists_of, reach-push, first_list, cell_of)

-- ---- from the end

pub reverse-cons : {X : Type 0} (x : X) (xs : List X) → reverse (x ∷ xs) ≡ reverse xs ++ x ∷ []
reverse-cons x xs = reverse-append (x ∷ []) xs

pub reverse-push : {X : Type 0} (xs : List X) (x : X) → reverse (xs ++ x ∷ []) ≡ x ∷ reverse xs
reverse-push xs x = reverse-append xs (x ∷ [])

pub map-reverse : {X Y : Type 0} (f : X → Y) (xs : List X) → map f (reverse xs) ≡ reverse (map f xs)
map-reverse f [] = refl
map-reverse f (x ∷ xs) =
    ap (map f) (reverse-cons x xs) ∙ map-append f (reverse xs) (x ∷ []) ∙ ap (λ ys. ys ++ f x ∷ []) (map-reverse f xs) ∙ sym (reverse-cons (f x) (map f xs))

pub all_append : {X : Type 0} (P : X → Type 0) (xs ys : List X) → AllByRecursion P xs → AllByRecursion P ys → AllByRecursion P (xs ++ ys)
all_append P [] ys h g = g
all_append P (x ∷ xs) ys h g = (h.0, all_append P xs ys h.1 g)

pub all_reverse : {X : Type 0} (P : X → Type 0) (xs : List X) → AllByRecursion P xs → AllByRecursion P (reverse xs)
all_reverse P [] h = tt
all_reverse P (x ∷ xs) h = subst (AllByRecursion P) (sym (reverse-cons x xs)) (all_append P (reverse xs) (x ∷ []) (all_reverse P xs h.1) (h.0, tt))

pub all_from_reverse : {X : Type 0} (P : X → Type 0) (xs : List X) → AllByRecursion P (reverse xs) → AllByRecursion P xs
all_from_reverse P xs h = subst (AllByRecursion P) (reverse-reverse xs) (all_reverse P (reverse xs) h)

pub all_from_map : {X Y : Type 0} (P : Y → Type 0) (f : X → Y) (xs : List X) → AllByRecursion P (map f xs) → AllByRecursion (λ x. P (f x)) xs
all_from_map P f [] h = tt
all_from_map P f (x ∷ xs) h = (h.0, all_from_map P f xs h.1)

pub all_map : {X Y : Type 0} (P : Y → Type 0) (f : X → Y) (xs : List X) → AllByRecursion (λ x. P (f x)) xs → AllByRecursion P (map f xs)
all_map P f [] h = tt
all_map P f (x ∷ xs) h = (h.0, all_map P f xs h.1)

pub all_weaker : {X : Type 0} (P Q : X → Type 0) → ((x : X) → P x → Q x) → (xs : List X) → AllByRecursion P xs → AllByRecursion Q xs
all_weaker P Q f [] h = tt
all_weaker P Q f (x ∷ xs) h = (f x h.0, all_weaker P Q f xs h.1)

pub all_both : {X : Type 0} (P Q : X → Type 0) (xs : List X) → AllByRecursion P xs → AllByRecursion Q xs → AllByRecursion (λ x. P x × Q x) xs
all_both P Q [] h g = tt
all_both P Q (x ∷ xs) h g = ((h.0, g.0), all_both P Q xs h.1 g.1)

pub same_map : {X Y : Type 0} (f g : X → Y) (xs : List X) → AllByRecursion (λ x. f x ≡ g x) xs → map f xs ≡ map g xs
same_map f g [] h = refl
same_map f g (x ∷ xs) h = ap₂ (λ a b. a ∷ b) h.0 (same_map f g xs h.1)

pub map_map : {X Y Z : Type 0} (g : Y → Z) (f : X → Y) (xs : List X) → map g (map f xs) ≡ map (λ x. g (f x)) xs
map_map g f [] = refl
map_map g f (x ∷ xs) = ap (λ ys. g (f x) ∷ ys) (map_map g f xs)
