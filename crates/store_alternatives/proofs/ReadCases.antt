-- The cases of a read of what is written out.
use Rattle.std.proofs.Common.{◌≡◌, ℕ, zero, suc, ◌+◌, ◌<◌, pos, List, [], ◌∷◌, ◌++◌, map, take, length, get_or, true, false, Bool, Option, Some, None, Result, Ok, Err, IfOk, IsSomeAnd, refl, sym, ap, ap₂, ◌∙◌, subst, arith, append_assoc}
use Rattle.std.specs.List.{AllByRecursion}
use Rattle.std.proofs.lemmas.List.{map_push, take_more, length-map, length-take-le}
use Rattle.slang_values.specs.Value.{ValueType, Records}
use Rattle.slang_values.specs.Tree.{Tree, literal, binary, update, listed, Trees, no_trees, tree_then, sequence_of}
use Rattle.slang_values.specs.declared.operators.Binary.{Binary}
use Rattle.read_rules.specs.Reduced.{trees_length}
use Rattle.read_rules.specs.Reads.{ReadCase, are_equal, element_cases, outside_cases, list_cases, read_cases, default_tree, negation, read_tree}
use Rattle.term_trees.specs.Term.{trees_of}
use Rattle.term_nodes.specs.declared.node.Node.{Node}
use Rattle.term_store.specs.Store.{tree_at, Holds, AreWithin, Grows}
use Rattle.term_store.proofs.Stores.{Grows-itself, Grows-tree_at, Grows-length, Holds-within, tree_at-Holds}
use Rattle.store_alternatives.specs.declared.read_cases.IdReadCase.{IdReadCase}
use Rattle.store_alternatives.specs.ReadCases.{case_at, IsCaseWithin, AreCasesWithin, AreCasesAt}
use Rattle.store_alternatives.proofs.Numbers.{all_push, all_weaker, later_within}
use Rattle.store_alternatives.proofs.AlternativeLists.{all_at}

-- ---- growing stores

pub cases_within-grows : (old new : List Node) (cs : List IdReadCase) → Grows old new → AreCasesWithin old cs → AreCasesWithin new cs
cases_within-grows old new cs g h =
    all_weaker (IsCaseWithin old) (IsCaseWithin new) (λ c w. record { condition = later_within old new c.condition g w.condition; instead = later_within old new c.instead g w.instead }) cs h

case-grows : (old new : List Node) (c : IdReadCase) → Grows old new → IsCaseWithin old c → case_at new c ≡ case_at old c
case-grows old new c g h =
    let condition = Grows-tree_at old new c.condition g h.condition in
    let instead = Grows-tree_at old new c.instead g h.instead in
    ap₂ (λ t u. record { conditions = t ∷ []; instead = u }) condition instead

pub cases-grow : (old new : List Node) (cs : List IdReadCase) → Grows old new → AreCasesWithin old cs → map (case_at new) cs ≡ map (case_at old) cs
cases-grow old new [] g h = refl
cases-grow old new (c ∷ cs) g h = ap₂ (λ x xs. x ∷ xs) (case-grows old new c g h.0) (cases-grow old new cs g h.1)

-- ---- one case more

pub case_of : (store : List Node) (condition instead : ℕ) (t u : Tree ℕ) → Holds store condition t → Holds store instead u → case_at store (record { condition = condition; instead = instead }) ≡ record { conditions = t ∷ []; instead = u }
case_of store condition instead t u h g = ap₂ (λ x y. record { conditions = x ∷ []; instead = y }) (tree_at-Holds store condition t h) (tree_at-Holds store instead u g)

pub cases_push : (mid new : List Node) (cs : List IdReadCase) (ds : List ReadCase) (condition instead : ℕ) (t u : Tree ℕ) → AreCasesAt mid cs ds → Grows mid new → Holds new condition t → Holds new instead u →
    AreCasesAt new (cs ++ record { condition = condition; instead = instead } ∷ []) (ds ++ record { conditions = t ∷ []; instead = u } ∷ [])
cases_push mid new cs ds condition instead t u h g held put = record {
  within = all_push (IsCaseWithin new) cs (record { condition = condition; instead = instead }) (cases_within-grows mid new cs g h.within) (record { condition = Holds-within new condition t held; instead = Holds-within new instead u put });
  cases = map_push (case_at new) cs (record { condition = condition; instead = instead }) ∙ ap₂ (λ xs x. xs ++ x ∷ []) (cases-grow mid new cs g h.within ∙ h.cases) (case_of new condition instead t u held put);
}

pub two_cases_at : (store : List Node) (c d e f : ℕ) (t u v w : Tree ℕ) → Holds store c t → Holds store d u → Holds store e v → Holds store f w →
    AreCasesAt store (record { condition = c; instead = d } ∷ record { condition = e; instead = f } ∷ []) (record { conditions = t ∷ []; instead = u } ∷ record { conditions = v ∷ []; instead = w } ∷ [])
two_cases_at store c d e f t u v w g h i j = record {
  within = (record { condition = Holds-within store c t g; instead = Holds-within store d u h }, (record { condition = Holds-within store e v i; instead = Holds-within store f w j }, tt));
  cases = ap₂ (λ x y. x ∷ y ∷ []) (case_of store c d t u g h) (case_of store e f v w i j);
}

-- ---- elements

pub one_element_more : (k : ℕ) (ts : List (Tree ℕ)) (t j : Tree ℕ) → element_cases k (trees_of (ts ++ t ∷ [])) j ≡ element_cases k (trees_of ts) j ++ record { conditions = are_equal j (literal (pos (k + length ts))) ∷ []; instead = t } ∷ []
one_element_more k [] t j = ap (λ i. record { conditions = are_equal j (literal (pos i)) ∷ []; instead = t } ∷ []) (let e : k ≡ k + 0 = omega arith in e)
one_element_more k (u ∷ ts) t j =
    ap (λ cs. record { conditions = are_equal j (literal (pos k)) ∷ []; instead = u } ∷ cs)
    (one_element_more (suc k) ts t j ∙ ap (λ i. element_cases (suc k) (trees_of ts) j ++ record { conditions = are_equal j (literal (pos i)) ∷ []; instead = t } ∷ []) (let e : suc k + length ts ≡ k + suc (length ts) = omega arith in e))

pub elements_more : (old mid new : List Node) (cs : List IdReadCase) (ks : List ℕ) (i condition d : ℕ) (j : Tree ℕ) → AreCasesAt mid cs (element_cases 0 (trees_of (map (tree_at old) (take i ks))) j) → Grows old mid → Grows mid new → AreWithin old ks → i < length ks →
    Holds new condition (are_equal j (literal (pos i))) → Holds new (get_or ks i d) (tree_at old (get_or ks i d)) →
    AreCasesAt new (cs ++ record { condition = condition; instead = get_or ks i d } ∷ []) (element_cases 0 (trees_of (map (tree_at old) (take (i + 1) ks))) j)
elements_more old mid new cs ks i condition d j h before after within l held put =
    let x = get_or ks i d in
    let count : 0 + length (map (tree_at old) (take i ks)) ≡ i = omega (arith, length-map (take i ks) (tree_at old), length-take-le i ks (omega arith)) in
    let more : element_cases 0 (trees_of (map (tree_at old) (take (i + 1) ks))) j ≡ element_cases 0 (trees_of (map (tree_at old) (take i ks))) j ++ record { conditions = are_equal j (literal (pos i)) ∷ []; instead = tree_at old x } ∷ [] =
    ap (λ js. element_cases 0 (trees_of (map (tree_at old) js)) j) (take_more ks i d l) ∙ ap (λ ts. element_cases 0 (trees_of ts) j) (map_push (tree_at old) (take i ks) x) ∙ one_element_more 0 (map (tree_at old) (take i ks)) (tree_at old x) j ∙
    ap (λ m. element_cases 0 (trees_of (map (tree_at old) (take i ks))) j ++ record { conditions = are_equal j (literal (pos m)) ∷ []; instead = tree_at old x } ∷ []) count in
    subst (AreCasesAt new (cs ++ record { condition = condition; instead = x } ∷ [])) (sym more)
    (cases_push mid new cs (element_cases 0 (trees_of (map (tree_at old) (take i ks))) j) condition x (are_equal j (literal (pos i))) (tree_at old x) h after held put)

-- ---- a list of elements

pub list_cases_are : (new : List Node) (cs : List IdReadCase) (ts : List (Tree ℕ)) (n : ℕ) (default j : Tree ℕ) (o : Option (Tree ℕ)) → Some default ≡ o → n ≡ length ts → AreCasesAt new cs (element_cases 0 (trees_of ts) j ++ outside_cases n default j) →
    IsSomeAnd (list_cases (trees_of ts) o j) (AreCasesAt new cs)
list_cases_are new cs ts n default j o e l h =
    subst (λ p. IsSomeAnd (list_cases (trees_of ts) p j) (AreCasesAt new cs)) e
    (subst (λ m. AreCasesAt new cs (element_cases 0 (trees_of ts) j ++ outside_cases m default j)) (l ∙ sym (trees_length-list ts)) h)
  where
    trees_length-list : (us : List (Tree ℕ)) → trees_length (trees_of us) ≡ length us
    trees_length-list [] = refl
    trees_length-list (u ∷ us) = ap suc (trees_length-list us)

-- the cases below the first element, and behind the last
pub outside_at : (old new : List Node) (cs : List IdReadCase) (ds : List ReadCase) (below behind default n : ℕ) (j d : Tree ℕ) → AreCasesAt old cs ds → Grows old new → Holds new below (binary Binary.Lt j (literal (pos 0))) → Holds new behind (binary Binary.Le (literal (pos n)) j) →
    Holds new default d → AreCasesAt new ((cs ++ record { condition = below; instead = default } ∷ []) ++ record { condition = behind; instead = default } ∷ []) (ds ++ outside_cases n d j)
outside_at old new cs ds below behind default n j d h g first second put =
    let lower : ReadCase = record { conditions = binary Binary.Lt j (literal (pos 0)) ∷ []; instead = d } in
    let upper : ReadCase = record { conditions = binary Binary.Le (literal (pos n)) j ∷ []; instead = d } in
    subst (AreCasesAt new ((cs ++ record { condition = below; instead = default } ∷ []) ++ record { condition = behind; instead = default } ∷ [])) (append_assoc ds (lower ∷ []) (upper ∷ []))
    (cases_push new new (cs ++ record { condition = below; instead = default } ∷ []) (ds ++ lower ∷ []) behind default _ d (cases_push old new cs ds below default _ d h g first put) (Grows-itself new) second put)

-- two cases, over equal trees
pub two_cases_same : {E : Type 0} (r : Result (List IdReadCase) E) (new : List Node) (t u a i t' u' a' i' : Tree ℕ) → t ≡ t' → u ≡ u' → a ≡ a' → i ≡ i' →
    IfOk r (λ cs. AreCasesAt new cs (record { conditions = t ∷ []; instead = u } ∷ record { conditions = negation t ∷ []; instead = read_tree a i } ∷ [])) →
    IfOk r (λ cs. AreCasesAt new cs (record { conditions = t' ∷ []; instead = u' } ∷ record { conditions = negation t' ∷ []; instead = read_tree a' i' } ∷ []))
two_cases_same r new t u a i t' u' a' i' e f g h it =
    let both : List ReadCase → Type 0 = λ ds. IfOk r (λ cs. AreCasesAt new cs ds) in
    subst both (λ k. record { conditions = e k ∷ []; instead = f k } ∷ record { conditions = negation (e k) ∷ []; instead = read_tree (g k) (h k) } ∷ []) it

pub some_within : (store : List Node) (cs : List IdReadCase) (o : Option (List ReadCase)) → IsSomeAnd o (AreCasesAt store cs) → AreCasesWithin store cs
some_within store cs None h = absurd h
some_within store cs (Some ds) h = h.within
