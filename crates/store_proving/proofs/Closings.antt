-- The ends of a sequent over a store, of its cases and of its leaves, by the ends of the calls.
use Rattle.std.proofs.Common.{◌≡◌, ℕ, zero, suc, ◌+◌, ◌<◌, ◌≤◌, List, [], ◌∷◌, ◌++◌, map, length, get_or, take, drop, nat_lt, Bool, true, false, ◌&&◌, cond}
use Rattle.std.proofs.Common.{refl, sym, ap, ap₂, ◌∙◌, subst, le-ltb, lt-ltb, add-one, Option, Some, None, Result, Ok, Err, OnOk, IfErr, arith}
use Rattle.std.specs.List.{list_all, AllByRecursion}
use Rattle.std.proofs.Math.Bool.{and-true}
use Rattle.std.proofs.lemmas.List.Folds.{list_all-append}
use Rattle.slang_values.specs.Value.{Records}
use Rattle.slang_values.specs.Tree.{Tree, unary}
use Rattle.slang_values.specs.Typing.{NameTypes}
use Rattle.validity.specs.Validity.{SequentTree, symbol_types, IsWellSorted, IsValid}
use Rattle.slang_values.specs.declared.operators.Unary.{Unary}
use Rattle.case_rules.specs.Cases.{hypotheses, cases, case_limit}
use Rattle.closing.specs.Literals.{is_narrow_outside}
use Rattle.instance_rules.specs.Instances.{Instancing, too_many_instances, too_large_instance, instancing, instanced}
use Rattle.whole_closing.proofs.Soundness.{closed_is_valid}
use Rattle.whole_closing.specs.Closing.{Closing, closed, left_open, too_many, too_large, too_many_cases, too_many_rows, too_wide, closing_of_case}
use Rattle.whole_closing.specs.Closing.{unless_closed, closing_of_cases, closing_with_instances, by_instancing, closing}
use Rattle.store_instancing.specs.declared.end.InstEnd.{InstEnd}
use Rattle.store_instancing.specs.declared.end.InstEnd.TheVariants as inst_ends
use Rattle.store_instancing.specs.Instanced.{IsEndOf}
use Rattle.store_cases.specs.declared.end.SplitEnd.{SplitEnd}
use Rattle.store_cases.specs.declared.end.SplitEnd.TheVariants as split_ends
use Rattle.store_cases.specs.Search.{IsSplitEnd, AreLeavesOf, trees_of_leaves}
use Rattle.term_nodes.specs.declared.node.Node.{Node}
use Rattle.term_store.specs.Store.{tree_at, AreWithin, Grows}
use Rattle.term_store.proofs.Gains.{trees-grow}
use Rattle.store_leaves.specs.declared.proof.LeafProof.{LeafProof}
use Rattle.store_leaves.specs.declared.end.LeafEnd.{LeafEnd}
use Rattle.store_leaves.specs.declared.end.LeafEnd.TheVariants as leaf_ends
use Rattle.store_leaves.specs.Ends.{IsLeafEnd}
use Rattle.store_leaves.specs.Closes.{ClosesLeaf}
use Rattle.store_proving.specs.declared.ending.ProveEnd.{ProveEnd}
use Rattle.store_proving.specs.declared.ending.ProveEnd.TheVariants as ends
use Rattle.store_proving.specs.Ends.{IsProveEnd, stop_of_prove, IsStopAt, LeavesTold, end_of_instances, end_of_split, end_of_leaf}
use Rattle.store_proving.specs.Proofs.{AreProofsOf, IsProofAdded, HasProofs, ProvesInstanced}
use Rattle.term_trees.specs.declared.term.Sort.{Sort}
use Rattle.term_sorts.specs.Types.{record_types, types_of}

-- ---- the same end

pub end-of : (e : ProveEnd) (c d : Closing) → c ≡ d → IsProveEnd e c → IsProveEnd e d
end-of e c d f h = subst (IsProveEnd e) f h

pub first-closed : (c d : Closing) → c ≡ closed → unless_closed c d ≡ d
first-closed c d h = ap (λ c. unless_closed c d) h

pub first-end : (e : ProveEnd) (c d : Closing) → IsProveEnd e c → IsProveEnd e (unless_closed c d)
first-end ends.Open c d h = ap (λ c. unless_closed c d) h
first-end ends.Cases c d h = ap (λ c. unless_closed c d) h
first-end ends.Rows c d h = ap (λ c. unless_closed c d) h
first-end ends.Wide c d h = ap (λ c. unless_closed c d) h
first-end ends.Size c d h = ap (λ c. unless_closed c d) h
first-end ends.Instances c d h = ap (λ c. unless_closed c d) h
first-end (ends.Stopped told) c d h = tt
first-end ends.NoMemory c d h = tt

-- ---- one more leaf, by the trees of the leaves

module _ (records : Records) (types : NameTypes ℕ) where
  rest : (f : List ℕ → List (Tree ℕ)) (leaves : List (List ℕ)) (i : ℕ) → i < length leaves →
      closing_of_cases records types (map f (drop i leaves)) ≡ unless_closed (closing_of_case records types (f (get_or leaves i [])))
      (closing_of_cases records types (map f (drop (suc i) leaves)))
  rest f [] i l = absurd (omega arith)
  rest f (leaf ∷ leaves) zero l = refl
  rest f (leaf ∷ leaves) (suc i) l = rest f leaves i (omega arith)

  pub next-closed : (f : List ℕ → List (Tree ℕ)) (leaves : List (List ℕ)) (i : ℕ) → i < length leaves → closing_of_case records types
      (f (get_or leaves i [])) ≡ closed →
      closing_of_cases records types (map f (drop (i + 1) leaves)) ≡ closing_of_cases records types (map f (drop i leaves))
  next-closed f leaves i l h =
      rw (add-one) (sym (rest f leaves i l ∙ first-closed (closing_of_case records types (f (get_or leaves i [])))
      (closing_of_cases records types (map f (drop (suc i) leaves))) h))

  pub next-end : (f : List ℕ → List (Tree ℕ)) (leaves : List (List ℕ)) (i : ℕ) (e : ProveEnd) → i < length leaves → closing_of_cases records types
      (map f (drop i leaves)) ≡ closing_of_cases records types (map f leaves) →
      IsProveEnd e (closing_of_case records types (f (get_or leaves i []))) → IsProveEnd e (closing_of_cases records types (map f leaves))
  next-end f leaves i e l k h =
      end-of e _ _ (sym (rest f leaves i l) ∙ k)
      (first-end e (closing_of_case records types (f (get_or leaves i []))) (closing_of_cases records types (map f (drop (suc i) leaves))) h)

  more_proofs : (leaves : List (List (Tree ℕ))) (ps : List LeafProof) (leaf : List (Tree ℕ)) (p : LeafProof) → AreProofsOf records types leaves ps →
      ClosesLeaf records types leaf p →
      AreProofsOf records types (leaves ++ leaf ∷ []) (ps ++ p ∷ [])
  more_proofs [] [] leaf p h g = (g, tt)
  more_proofs [] (q ∷ ps) leaf p h g = absurd h
  more_proofs (first ∷ leaves) [] leaf p h g = absurd h
  more_proofs (first ∷ leaves) (q ∷ ps) leaf p h g = (h.0, more_proofs leaves ps leaf p h.1 g)

  next_taken : (f : List ℕ → List (Tree ℕ)) (leaves : List (List ℕ)) (i : ℕ) → i < length leaves → map f (take (suc i) leaves) ≡ map f (take i leaves) ++ f
      (get_or leaves i []) ∷ []
  next_taken f [] i l = absurd (omega arith)
  next_taken f (leaf ∷ leaves) zero l = refl
  next_taken f (leaf ∷ leaves) (suc i) l = ap (λ ls. f leaf ∷ ls) (next_taken f leaves i (omega arith))

  pub next-proofs : (f : List ℕ → List (Tree ℕ)) (leaves : List (List ℕ)) (i : ℕ) (ps : List LeafProof) (p : LeafProof) → i < length leaves →
      AreProofsOf records types (map f (take i leaves)) ps →
      ClosesLeaf records types (f (get_or leaves i [])) p → AreProofsOf records types (map f (take (i + 1) leaves)) (ps ++ p ∷ [])
  next-proofs f leaves i ps p l h g =
      rw (add-one) (subst (λ ls. AreProofsOf records types ls (ps ++ p ∷ [])) (sym (next_taken f leaves i l))
      (more_proofs (map f (take i leaves)) ps (f (get_or leaves i [])) p h g))

-- ---- a sequent with its instances

module _ (s : SequentTree) where
  abbrev AreNarrow : Bool → Type 0
  AreNarrow b = list_all (is_narrow_outside s.records (symbol_types s)) (hypotheses s) ≡ b

  pub wide-sequent : AreNarrow false → closing_with_instances s ≡ too_wide
  wide-sequent h = ap (λ b. cond b (cond (nat_lt case_limit (length (cases s))) too_many_cases (closing_of_cases s.records (symbol_types s) (cases s)))
      too_wide) h

  pub closing-at : (b : Bool) → AreNarrow true → nat_lt case_limit (length (cases s)) ≡ b →
      closing_with_instances s ≡ cond b too_many_cases (closing_of_cases s.records (symbol_types s) (cases s))
  closing-at b h k =
      ap (λ b. cond b (cond (nat_lt case_limit (length (cases s))) too_many_cases (closing_of_cases s.records (symbol_types s) (cases s))) too_wide) h
      ∙ ap (λ b. cond b too_many_cases (closing_of_cases s.records (symbol_types s) (cases s))) k

  pub many-cases : AreNarrow true → case_limit < length (cases s) → closing_with_instances s ≡ too_many_cases
  many-cases h k = closing-at true h (lt-ltb case_limit (length (cases s)) k)

-- ---- a sequent

pub with-instances : (s made : SequentTree) → instancing s ≡ instanced made → closing s ≡ closing_with_instances made
with-instances s made e = ap by_instancing e

pub many-instances : (s : SequentTree) → instancing s ≡ too_many_instances → closing s ≡ too_many
many-instances s e = ap by_instancing e

pub large-instance : (s : SequentTree) → instancing s ≡ too_large_instance → closing s ≡ too_large
large-instance s e = ap by_instancing e

-- ---- the ends of the calls

pub leaf-end : (e : LeafEnd) (c : Closing) → IsLeafEnd c (Err e) → IsProveEnd (end_of_leaf e) c
leaf-end leaf_ends.Open c h = h
leaf-end leaf_ends.Rows c h = h
leaf-end leaf_ends.Wide c h = h
leaf-end leaf_ends.NoMemory c h = tt

pub leaf-runs : (e : LeafEnd) → stop_of_prove (end_of_leaf e) ≡ None
leaf-runs leaf_ends.Open = refl
leaf-runs leaf_ends.Rows = refl
leaf-runs leaf_ends.Wide = refl
leaf-runs leaf_ends.NoMemory = refl

pub split-end : (s : SequentTree) (e : SplitEnd) → AreNarrow s true → IsSplitEnd e (cases s) → IsProveEnd (end_of_split e) (closing_with_instances s)
split-end s split_ends.Cases h k = many-cases s h k
split-end s split_ends.NoMemory h k = tt

pub split-runs : (e : SplitEnd) → stop_of_prove (end_of_split e) ≡ None
split-runs split_ends.Cases = refl
split-runs split_ends.NoMemory = refl

pub instances-end : (s : SequentTree) (e : InstEnd) → IsEndOf e (instancing s) → IsProveEnd (end_of_instances e) (closing s)
instances-end s inst_ends.Instances h = many-instances s h
instances-end s inst_ends.Size h = large-instance s h
instances-end s inst_ends.NoMemory h = tt

pub instances-run : (e : InstEnd) → stop_of_prove (end_of_instances e) ≡ None
instances-run inst_ends.Instances = refl
instances-run inst_ends.Size = refl
instances-run inst_ends.NoMemory = refl

-- ---- what is told of later work

pub not_stopped : (mine told : ℕ) (stop : Option ℕ) → told ≤ mine → stop ≡ None → LeavesTold mine told told stop
not_stopped mine told stop h e = record { rises = omega arith; stopped = subst (IsStopAt mine told) (sym e) h }

-- one call after another that was not stopped
pub stopped-after : (mine a b c : ℕ) (stop : Option ℕ) → LeavesTold mine a b None → LeavesTold mine b c stop → LeavesTold mine a c stop
stopped-after mine a b c stop first next = record { rises = omega (arith, first.rises, next.rises); stopped = next.stopped }

pub stopped-as : (mine a b : ℕ) (stop other : Option ℕ) → stop ≡ other → LeavesTold mine a b other → LeavesTold mine a b stop
stopped-as mine a b stop other e h = subst (LeavesTold mine a b) (sym e) h

-- ---- what was found

pub by-cases : (s : SequentTree) (store : List Node) (leaves given : List (List ℕ)) → AreNarrow s true → AreLeavesOf store leaves (cases s) → given ≡ leaves →
    closing_of_cases s.records (symbol_types s) (trees_of_leaves store given) ≡ closing_with_instances s
by-cases s store leaves given h k e =
    ap (λ ls. closing_of_cases s.records (symbol_types s) (trees_of_leaves store ls)) e ∙ ap (closing_of_cases s.records (symbol_types s)) k.trees
    ∙ sym (closing-at s false h
    (le-ltb case_limit (length (cases s)) (subst (λ n. n ≤ case_limit) (sym (length-trees store leaves) ∙ ap length k.trees) k.few)))
  where
    length-trees : (store : List Node) (ls : List (List ℕ)) → length (trees_of_leaves store ls) ≡ length ls
    length-trees store [] = refl
    length-trees store (l ∷ ls) = ap suc (length-trees store ls)

pub ok-along : {X E : Type 0} (r : Result X E) (c d : Closing) → c ≡ d → OnOk r (c ≡ closed) → OnOk r (d ≡ closed)
ok-along (Ok x) c d e h = sym e ∙ h
ok-along (Err f) c d e h = tt

pub end-along : {X : Type 0} (r : Result X ProveEnd) (c d : Closing) → c ≡ d → IfErr r (λ end. IsProveEnd end c) → IfErr r (λ end. IsProveEnd end d)
end-along (Ok x) c d e h = tt
end-along (Err f) c d e h = end-of f c d e h

-- ---- slices of the sorts and of the records

pub at_slices : (P : Records → NameTypes ℕ → Type 0) (ss ts : List Sort) (rs us : List (List Sort)) → ss ≡ ts → rs ≡ us → P (record_types us) (types_of ts) →
    P (record_types rs) (types_of ss)
at_slices P ss ts rs us e f h = subst (λ xs. P (record_types rs) (types_of xs)) (sym e) (subst (λ xs. P (record_types xs) (types_of ts)) (sym f) h)

pub from_slices : (P : Records → NameTypes ℕ → Type 0) (ss ts : List Sort) (rs us : List (List Sort)) → ss ≡ ts → rs ≡ us →
    P (record_types rs) (types_of ss) → P (record_types us) (types_of ts)
from_slices P ss ts rs us e f h = subst (λ xs. P (record_types us) (types_of xs)) e (subst (λ xs. P (record_types xs) (types_of ss)) f h)

-- ---- tests of all facts

and_first : (a b : Bool) → (a && b) ≡ true → a ≡ true
and_first true b h = refl
and_first false b h = h

and_second : (a b : Bool) → (a && b) ≡ true → b ≡ true
and_second true b h = h
and_second false b h = absurd (cc)

and_false : (a : Bool) → (a && false) ≡ false
and_false true = refl
and_false false = refl

module _ (test : Tree ℕ → Bool) (f : ℕ → Tree ℕ) where
  all_next : (ks : List ℕ) (i : ℕ) → i < length ks → list_all test (map f (take i ks)) ≡ true → test (f (get_or ks i 0)) ≡ true →
      list_all test (map f (take (suc i) ks)) ≡ true
  all_next [] i l h e = absurd (omega arith)
  all_next (k ∷ ks) zero l h e = ap (λ b. b && true) e
  all_next (k ∷ ks) (suc i) l h e =
      ap₂ (λ a b. a && b) (and_first (test (f k)) (list_all test (map f (take i ks))) h)
      (all_next ks i (omega arith) (and_second (test (f k)) (list_all test (map f (take i ks))) h) e)

  pub all_more : (ks : List ℕ) (i : ℕ) → i < length ks → list_all test (map f (take i ks)) ≡ true → test (f (get_or ks i 0)) ≡ true →
      list_all test (map f (take (i + 1) ks)) ≡ true
  all_more ks i l h e = rw (add-one) (all_next ks i l h e)

  pub one_false : (ks : List ℕ) (i : ℕ) → i < length ks → test (f (get_or ks i 0)) ≡ false → list_all test (map f ks) ≡ false
  one_false [] i l e = absurd (omega arith)
  one_false (k ∷ ks) zero l e = ap (λ b. b && list_all test (map f ks)) e
  one_false (k ∷ ks) (suc i) l e = ap (λ b. test (f k) && b) (one_false ks i (omega arith) e) ∙ and_false (test (f k))

-- the goal stands negated among the hypotheses, which no test of numbers sees
pub narrow_hypotheses : (s : SequentTree) → list_all (is_narrow_outside s.records (symbol_types s)) (hypotheses s) ≡
    (list_all (is_narrow_outside s.records (symbol_types s)) s.facts && is_narrow_outside s.records (symbol_types s) s.goal)
narrow_hypotheses s =
    list_all-append (is_narrow_outside s.records (symbol_types s)) s.facts (unary Unary.Not s.goal ∷ [])
    ∙ ap (λ b. list_all (is_narrow_outside s.records (symbol_types s)) s.facts && b) (and-true (is_narrow_outside s.records (symbol_types s) s.goal))

-- ---- leaves of a store that has grown

at_leaf : (P : List ℕ → Type 0) (ls : List (List ℕ)) (i : ℕ) → AllByRecursion P ls → i < length ls → P (get_or ls i [])
at_leaf P [] i h l = absurd (omega arith)
at_leaf P (k ∷ ks) zero h l = h.0
at_leaf P (k ∷ ks) (suc i) h l = at_leaf P ks i h.1 (omega arith)

same_place : (ls : List (List ℕ)) (i : ℕ) (d : List ℕ) → i < length ls → get_or ls i d ≡ get_or ls i []
same_place [] i d l = absurd (omega arith)
same_place (k ∷ ks) zero d l = refl
same_place (k ∷ ks) (suc i) d l = same_place ks i d (omega arith)

pub leaf_trees : (old new : List Node) (leaves : List (List ℕ)) (i : ℕ) (leaf slice : List ℕ) → Grows old new → AllByRecursion (AreWithin old) leaves →
    i < length leaves → leaf ≡ get_or leaves i leaf → slice ≡ leaf →
    map (tree_at new) slice ≡ map (tree_at old) (get_or leaves i [])
leaf_trees old new leaves i leaf slice g h l e f =
    ap (map (tree_at new)) (f ∙ e ∙ same_place leaves i leaf l) ∙ trees-grow old new (get_or leaves i []) g (at_leaf (AreWithin old) leaves i h l)

-- ---- what is closed is valid

pub valid-by_instances : {X E : Type 0} (r : Result X E) (s made : SequentTree) → IsWellSorted s → instancing s ≡ instanced made →
    OnOk r (closing_with_instances made ≡ closed) → OnOk r (IsValid s)
valid-by_instances (Ok x) s made sorted e h = closed_is_valid s sorted (ap by_instancing e ∙ h)
valid-by_instances (Err f) s made sorted e h = tt

pub proofs-along : {X E : Type 0} (r : Result X E) (s : SequentTree) (store : List Node) (leaves given : List (List ℕ)) (ps : List LeafProof) →
    AreLeavesOf store leaves (cases s) → given ≡ leaves →
    OnOk r (AreProofsOf s.records (symbol_types s) (trees_of_leaves store given) ps) → OnOk r (ProvesInstanced s ps)
proofs-along (Ok x) s store leaves given ps k e h = subst (λ (ls : List (List (Tree ℕ))). AreProofsOf s.records (symbol_types s) ls ps)
    (ap (trees_of_leaves store) e ∙ k.trees) h
proofs-along (Err f) s store leaves given ps k e h = tt
