-- The order of trees is total.
use Rattle.std.proofs.Common.{◌≡◌, ℕ, refl, sym, ap, ap₂, ◌∙◌, subst, Ordering, Less, Equal, Greater, ℤ, ◌<◌, ◌<ℤ◌, List, [], ◌∷◌, Option, Some, None}
use Rattle.std.specs.Ordering.{ordering_then, ordering_reverse, nat_cmp, int_cmp, MatchOrdering}
use Rattle.std.specs.Option.{option_cmp}
use Rattle.std.specs.Cmp.{IsTotalOrder}
use Rattle.std.specs.Cmp.Lexicographic.{slice_cmp, options_total}
use Rattle.std.proofs.lemmas.Cmp.{nat_cmp_total, int_cmp_total, on_total, then_total, lists_total, ranked, int_ranked}
use Rattle.tree_forms.specs.Order.{Head, head_cmp, Node, node, Nodes, no_nodes, node_then, node_length, node_cmp, nodes_cmp, node_of, tree_cmp}

pub head_cmp_total : IsTotalOrder head_cmp
head_cmp_total = then_total (on_total (λ h. h.kind) nat_cmp_total) (then_total (on_total (λ h. h.number) (options_total int_cmp_total)) (on_total (λ h. h.type_numbers) (lists_total nat_cmp_total)))

-- ---- one answer after another

reverse_then : (o p : Ordering) → ordering_reverse (ordering_then o p) ≡ ordering_then (ordering_reverse o) (ordering_reverse p)
reverse_then Less p = refl
reverse_then Equal p = refl
reverse_then Greater p = refl

then-Equal : (o p : Ordering) → ordering_then o p ≡ Equal → (o ≡ Equal) × (p ≡ Equal)
then-Equal Less p e = absurd (cc)
then-Equal Equal p e = (refl, e)
then-Equal Greater p e = absurd (cc)

nat_ties : (m n : ℕ) → nat_cmp m n ≡ Equal → m ≡ n
nat_ties m n e = subst (λ o. MatchOrdering o (m < n) (m ≡ n) (n < m)) e (ranked m n (nat_cmp m n) refl)

int_ties : (x y : ℤ) → int_cmp x y ≡ Equal → x ≡ y
int_ties x y e = subst (λ o. MatchOrdering o (x <ℤ y) (x ≡ y) (y <ℤ x)) e (int_ranked x y (int_cmp x y) refl)

-- what ties with x compares as x does: the first answers, then the second
then_congr : (o o' o'' p q r : Ordering) → (o ≡ Equal → o' ≡ o'') → (p ≡ Equal → q ≡ r) → ordering_then o p ≡ Equal → ordering_then o' q ≡ ordering_then o'' r
then_congr Less o' o'' p q r first next h = absurd (cc)
then_congr Equal o' o'' p q r first next h = ap₂ ordering_then (first refl) (next h)
then_congr Greater o' o'' p q r first next h = absurd (cc)

-- x below y below z: the first answers, then the second
then_trans : (xy yz xz p q r : Ordering) → (xy ≡ Less → yz ≡ Less → xz ≡ Less) → (xy ≡ Less → yz ≡ Equal → xz ≡ Less) → (xy ≡ Equal → xz ≡ yz) → (p ≡ Less → q ≡ Less → r ≡ Less) → ordering_then xy p ≡ Less → ordering_then yz q ≡ Less → ordering_then xz r ≡ Less
then_trans Less Less xz p q r trans right left next h k = ap (λ u. ordering_then u r) (trans refl refl)
then_trans Less Equal xz p q r trans right left next h k = ap (λ u. ordering_then u r) (right refl refl)
then_trans Less Greater xz p q r trans right left next h k = absurd (cc)
then_trans Equal Less xz p q r trans right left next h k = ap (λ u. ordering_then u r) (left refl)
then_trans Equal Equal xz p q r trans right left next h k = ap (λ u. ordering_then u r) (left refl) ∙ next h k
then_trans Equal Greater xz p q r trans right left next h k = absurd (cc)
then_trans Greater yz xz p q r trans right left next h k = absurd (cc)

-- x below y, which ties with z
below_tied : {K : Type 0} (R : K → K → Ordering) → ((x y : K) → R x y ≡ ordering_reverse (R y x)) → ((x y z : K) → R x y ≡ Equal → R x z ≡ R y z) → (x y z : K) → R x y ≡ Less → R y z ≡ Equal → R x z ≡ Less
below_tied R antisymm congr x y z e f =
    antisymm x z ∙ ap ordering_reverse (congr z y x (antisymm z y ∙ ap ordering_reverse f) ∙ antisymm y x ∙ ap ordering_reverse e)

-- ---- nodes

mutual
  node-antisymm : (m n : Node) → node_cmp m n ≡ ordering_reverse (node_cmp n m)
  node-antisymm (node h ps) (node g qs) =
      ap₂ ordering_then (head_cmp_total.antisymm h g) (ap₂ ordering_then (nat_cmp_total.antisymm (node_length ps) (node_length qs)) (nodes-antisymm ps qs) ∙ sym (reverse_then (nat_cmp (node_length qs) (node_length ps)) (nodes_cmp qs ps))) ∙ sym (reverse_then (head_cmp g h) _)

  nodes-antisymm : (ps qs : Nodes) → nodes_cmp ps qs ≡ ordering_reverse (nodes_cmp qs ps)
  nodes-antisymm no_nodes no_nodes = refl
  nodes-antisymm no_nodes (node_then q qs) = refl
  nodes-antisymm (node_then p ps) no_nodes = refl
  nodes-antisymm (node_then p ps) (node_then q qs) =
      ap₂ ordering_then (node-antisymm p q) (nodes-antisymm ps qs) ∙ sym (reverse_then (node_cmp q p) (nodes_cmp qs ps))

mutual
  node-congr : (l m n : Node) → node_cmp l m ≡ Equal → node_cmp l n ≡ node_cmp m n
  node-congr (node f ls) (node g ms) (node h ns) e =
      then_congr (head_cmp f g) (head_cmp f h) (head_cmp g h) _ _ _ (head_cmp_total.congr f g h)
      (then_congr (nat_cmp (node_length ls) (node_length ms)) (nat_cmp (node_length ls) (node_length ns)) (nat_cmp (node_length ms) (node_length ns)) _ _ _
      (nat_cmp_total.congr (node_length ls) (node_length ms) (node_length ns)) (nodes-congr ls ms ns)) e

  nodes-congr : (ls ms ns : Nodes) → nodes_cmp ls ms ≡ Equal → nodes_cmp ls ns ≡ nodes_cmp ms ns
  nodes-congr no_nodes no_nodes ns e = refl
  nodes-congr no_nodes (node_then m ms) ns e = absurd (cc)
  nodes-congr (node_then l ls) no_nodes ns e = absurd (cc)
  nodes-congr (node_then l ls) (node_then m ms) no_nodes e = refl
  nodes-congr (node_then l ls) (node_then m ms) (node_then n ns) e =
      then_congr (node_cmp l m) (node_cmp l n) (node_cmp m n) _ _ _ (node-congr l m n) (nodes-congr ls ms ns) e

head_below_tied : (f g h : Head) → head_cmp f g ≡ Less → head_cmp g h ≡ Equal → head_cmp f h ≡ Less
head_below_tied = below_tied head_cmp head_cmp_total.antisymm head_cmp_total.congr

nat_below_tied : (l m n : ℕ) → nat_cmp l m ≡ Less → nat_cmp m n ≡ Equal → nat_cmp l n ≡ Less
nat_below_tied = below_tied nat_cmp nat_cmp_total.antisymm nat_cmp_total.congr

mutual
  node-trans : (l m n : Node) → node_cmp l m ≡ Less → node_cmp m n ≡ Less → node_cmp l n ≡ Less
  node-trans (node f ls) (node g ms) (node h ns) d e =
      then_trans (head_cmp f g) (head_cmp g h) (head_cmp f h) _ _ _ (head_cmp_total.trans f g h) (head_below_tied f g h) (head_cmp_total.congr f g h)
      (then_trans (nat_cmp (node_length ls) (node_length ms)) (nat_cmp (node_length ms) (node_length ns)) (nat_cmp (node_length ls) (node_length ns)) _ _ _
      (nat_cmp_total.trans (node_length ls) (node_length ms) (node_length ns)) (nat_below_tied (node_length ls) (node_length ms) (node_length ns)) (nat_cmp_total.congr (node_length ls) (node_length ms) (node_length ns)) (nodes-trans ls ms ns)) d e

  nodes-trans : (ls ms ns : Nodes) → nodes_cmp ls ms ≡ Less → nodes_cmp ms ns ≡ Less → nodes_cmp ls ns ≡ Less
  nodes-trans no_nodes no_nodes ns d e = absurd (cc)
  nodes-trans no_nodes (node_then m ms) no_nodes d e = absurd (cc)
  nodes-trans no_nodes (node_then m ms) (node_then n ns) d e = refl
  nodes-trans (node_then l ls) no_nodes ns d e = absurd (cc)
  nodes-trans (node_then l ls) (node_then m ms) no_nodes d e = absurd (cc)
  nodes-trans (node_then l ls) (node_then m ms) (node_then n ns) d e =
      then_trans (node_cmp l m) (node_cmp m n) (node_cmp l n) _ _ _ (node-trans l m n) (below_tied node_cmp node-antisymm node-congr l m n) (node-congr l m n) (nodes-trans ls ms ns) d e

pub node_cmp_total : IsTotalOrder node_cmp
node_cmp_total = record { antisymm = node-antisymm; trans = node-trans; congr = node-congr }

pub tree_cmp_total : IsTotalOrder tree_cmp
tree_cmp_total = on_total node_of node_cmp_total

-- ---- what is tied is equal

option-Equal : (o p : Option ℤ) → option_cmp int_cmp o p ≡ Equal → o ≡ p
option-Equal None None e = refl
option-Equal None (Some y) e = absurd (cc)
option-Equal (Some x) None e = absurd (cc)
option-Equal (Some x) (Some y) e = ap Some (int_ties x y e)

numbers-Equal : (ms ns : List ℕ) → slice_cmp nat_cmp ms ns ≡ Equal → ms ≡ ns
numbers-Equal [] [] e = refl
numbers-Equal [] (n ∷ ns) e = absurd (cc)
numbers-Equal (m ∷ ms) [] e = absurd (cc)
numbers-Equal (m ∷ ms) (n ∷ ns) e =
    let both = then-Equal (nat_cmp m n) (slice_cmp nat_cmp ms ns) e in ap₂ ◌∷◌ (nat_ties m n both.0) (numbers-Equal ms ns both.1)

head-Equal : (h g : Head) → head_cmp h g ≡ Equal → h ≡ g
head-Equal h g e =
    let first = then-Equal (nat_cmp h.kind g.kind) _ e in
    let rest = then-Equal (option_cmp int_cmp h.number g.number) _ first.1 in
    let k = nat_ties h.kind g.kind first.0 in
    let n = option-Equal h.number g.number rest.0 in
    let t = numbers-Equal h.type_numbers g.type_numbers rest.1 in
    λ i. record { kind = k i; number = n i; type_numbers = t i }

mutual
  pub node-Equal : (m n : Node) → node_cmp m n ≡ Equal → m ≡ n
  node-Equal (node h ps) (node g qs) e =
      let first = then-Equal (head_cmp h g) _ e in
      let rest = then-Equal (nat_cmp (node_length ps) (node_length qs)) _ first.1 in
      ap₂ node (head-Equal h g first.0) (nodes-Equal ps qs rest.1)

  nodes-Equal : (ps qs : Nodes) → nodes_cmp ps qs ≡ Equal → ps ≡ qs
  nodes-Equal no_nodes no_nodes e = refl
  nodes-Equal no_nodes (node_then q qs) e = absurd (cc)
  nodes-Equal (node_then p ps) no_nodes e = absurd (cc)
  nodes-Equal (node_then p ps) (node_then q qs) e =
      let both = then-Equal (node_cmp p q) _ e in ap₂ node_then (node-Equal p q both.0) (nodes-Equal ps qs both.1)
