-- Numbers that are made of others, in a store that grows.
use Rattle.std.proofs.Common.{◌≡◌, ℕ, ◌<◌, ◌≤◌, List, [], ◌∷◌, ◌++◌, map, length, true, false, Bool, Some, Result, Ok, Err, IfOk, OnOk, refl, sym, ap, ap₂, ◌∙◌, subst, arith}
use Rattle.std.specs.List.{AllByRecursion}
use Rattle.std.proofs.lemmas.List.{map_push}
use Rattle.slang_values.specs.Tree.{Tree, unary, binary}
use Rattle.slang_values.specs.declared.operators.Unary.{Unary}
use Rattle.slang_values.specs.declared.operators.Binary.{Binary}
use Rattle.read_rules.specs.Reads.{negation}
use Rattle.term_nodes.specs.declared.node.Node.{Node}
use Rattle.term_store.specs.Store.{tree_at, Holds, AreWithin, AreTreesOf, Grows}
use Rattle.term_store.proofs.Gains.{number_of_tree, trees-grow}
use Rattle.term_store.proofs.Stores.{Grows-Holds, Grows-length, Grows-tree_at, Holds-tree_at, Holds-within, tree_at-Holds}
use Rattle.store_formulas.specs.declared.top.Signed.{Signed}
use Rattle.store_formulas.specs.Top.{signed, signed_tree}

-- ---- results

pub ok_weaker : {X E : Type 0} (r : Result X E) (P Q : X → Type 0) → ((x : X) → P x → Q x) → IfOk r P → IfOk r Q
ok_weaker (Ok x) P Q f h = f x h
ok_weaker (Err e) P Q f h = tt

pub ok_same : {X E : Type 0} (r : Result X E) (x : X) (P : X → Type 0) → IfOk r (λ y. y ≡ x) → P x → IfOk r P
ok_same (Ok y) x P e h = subst P (sym e) h
ok_same (Err e) x P f h = tt

pub on_weaker : {X E : Type 0} (r : Result X E) (P Q : Type 0) → (P → Q) → OnOk r P → OnOk r Q
on_weaker (Ok x) P Q f h = f h
on_weaker (Err e) P Q f h = tt

-- ---- lists

pub all_push : {X : Type 0} (P : X → Type 0) (xs : List X) (x : X) → AllByRecursion P xs → P x → AllByRecursion P (xs ++ x ∷ [])
all_push P [] x h p = (p, tt)
all_push P (y ∷ ys) x h p = (h.0, all_push P ys x h.1 p)

pub all_weaker : {X : Type 0} (P Q : X → Type 0) → ((x : X) → P x → Q x) → (xs : List X) → AllByRecursion P xs → AllByRecursion Q xs
all_weaker P Q f [] h = tt
all_weaker P Q f (x ∷ xs) h = (f x h.0, all_weaker P Q f xs h.1)

pub within-grows : (old new : List Node) (ks : List ℕ) → Grows old new → AreWithin old ks → AreWithin new ks
within-grows old new ks g h = all_weaker (λ k. k < length old) (λ k. k < length new) (λ k l. (let m = Grows-length old new g in omega arith)) ks h

-- ---- numbers

pub kept : (old new : List Node) (k : ℕ) → Grows old new → k < length old → Holds new k (tree_at old k)
kept old new k g l = Grows-Holds old new k (tree_at old k) g (Holds-tree_at old k l)

pub later_within : (old new : List Node) (k : ℕ) → Grows old new → k < length old → k < length new
later_within old new k g l = let m = Grows-length old new g in omega arith

pub unary_held : {E : Type 0} (r : Result ℕ E) (mid new : List Node) (op : Unary) (a : ℕ) (x : Tree ℕ) → Holds mid a x → IfOk r (λ k. Holds new k (unary op (tree_at mid a))) → IfOk r (λ k. Holds new k (unary op x))
unary_held r mid new op a x h g = number_of_tree r new (unary op (tree_at mid a)) (unary op x) (ap (unary op) (tree_at-Holds mid a x h)) g

pub binary_held : {E : Type 0} (r : Result ℕ E) (mid new : List Node) (op : Binary) (a b : ℕ) (x y : Tree ℕ) → Holds mid a x → Holds mid b y → IfOk r (λ k. Holds new k (binary op (tree_at mid a) (tree_at mid b))) →
    IfOk r (λ k. Holds new k (binary op x y))
binary_held r mid new op a b x y h i g =
    number_of_tree r new (binary op (tree_at mid a) (tree_at mid b)) (binary op x y) (ap₂ (binary op) (tree_at-Holds mid a x h) (tree_at-Holds mid b y i)) g

-- the same for a number that is there
pub binary_holds : (mid new : List Node) (op : Binary) (k a b : ℕ) (x y : Tree ℕ) → Holds mid a x → Holds mid b y → Holds new k (binary op (tree_at mid a) (tree_at mid b)) → Holds new k (binary op x y)
binary_holds mid new op k a b x y h i g = subst (Holds new k) (ap₂ (binary op) (tree_at-Holds mid a x h) (tree_at-Holds mid b y i)) g

pub unary_holds : (mid new : List Node) (op : Unary) (k a : ℕ) (x : Tree ℕ) → Holds mid a x → Holds new k (unary op (tree_at mid a)) → Holds new k (unary op x)
unary_holds mid new op k a x h g = subst (Holds new k) (ap (unary op) (tree_at-Holds mid a x h)) g

-- ---- terms and their negations

pub signed_sure : (store : List Node) (s : Signed) → s.holds ≡ true → tree_at store s.id ≡ signed_tree store s
signed_sure store s e = ap (λ b. signed b (tree_at store s.id)) (sym e)

pub signed_denied : (store : List Node) (s : Signed) → s.holds ≡ false → negation (tree_at store s.id) ≡ signed_tree store s
signed_denied store s e = ap (λ b. signed b (tree_at store s.id)) (sym e)

pub signed_kept : (old new : List Node) (s : Signed) → Grows old new → s.id < length old → signed_tree new s ≡ signed_tree old s
signed_kept old new s g l = ap (signed s.holds) (Grows-tree_at old new s.id g l)

-- ---- one number more

pub trees_push : (mid new : List Node) (ks : List ℕ) (ts : List (Tree ℕ)) (k : ℕ) (t : Tree ℕ) → AreTreesOf mid ks ts → Grows mid new → Holds new k t → AreTreesOf new (ks ++ k ∷ []) (ts ++ t ∷ [])
trees_push mid new ks ts k t h g held = record {
  within = all_push (λ j. j < length new) ks k (within-grows mid new ks g h.within) (Holds-within new k t held);
  trees = map_push (tree_at new) ks k ∙ ap₂ (λ xs x. xs ++ x ∷ []) (trees-grow mid new ks g h.within ∙ h.trees) (tree_at-Holds new k t held);
}
