-- What a variant tells of its tree and of its parts.
use Rattle.std.proofs.Common.{◌≡◌, ℕ, ◌<◌, List, sym, ap, ap₂, ◌∙◌, subst}
use Rattle.slang_values.specs.Tree.{Tree, unary, binary, quantified, Trees}
use Rattle.slang_values.specs.declared.operators.Unary.{Unary}
use Rattle.slang_values.specs.declared.operators.Binary.{Binary}
use Rattle.slang_values.specs.declared.operators.Quantifier.{Quantifier}
use Rattle.term_trees.specs.declared.term.Term.{Term, size-Term}
use Rattle.term_trees.specs.Shape.{deepest}
use Rattle.term_trees.specs.Term.{tree, trees}

pub told_unary : (make : Term → Term) (op : Unary) → ((a : Term) → tree (make a) ≡ unary op (tree a)) → ((a : Term) → size-Term a < size-Term (make a)) →
    (t x a : Term) → t ≡ make x → a ≡ x → (tree t ≡ unary op (tree a)) × (size-Term a < size-Term t)
told_unary make op line size t x a e f =
    let is : t ≡ make a = e ∙ ap make (sym f) in
    (ap tree is ∙ line a, subst (λ u. size-Term a < size-Term u) (sym is) (size a))

pub told_binary : (make : Term → Term → Term) (op : Binary) → ((a b : Term) → tree (make a b) ≡ binary op (tree a) (tree b)) → ((a b : Term) → size-Term a < size-Term (make a b)) → ((a b : Term) → size-Term b < size-Term (make a b)) →
    (t x y a b : Term) → t ≡ make x y → a ≡ x → b ≡ y → (tree t ≡ binary op (tree a) (tree b)) × (size-Term a < size-Term t) × (size-Term b < size-Term t)
told_binary make op line first second t x y a b e f g =
    let is : t ≡ make a b = e ∙ ap₂ make (sym f) (sym g) in
    (ap tree is ∙ line a b, subst (λ u. size-Term a < size-Term u) (sym is) (first a b), subst (λ u. size-Term b < size-Term u) (sym is) (second a b))

pub told_ternary : (make : Term → Term → Term → Term) (node : Tree ℕ → Tree ℕ → Tree ℕ → Tree ℕ) → ((a b c : Term) → tree (make a b c) ≡ node (tree a) (tree b) (tree c)) →
    ((a b c : Term) → size-Term a < size-Term (make a b c)) → ((a b c : Term) → size-Term b < size-Term (make a b c)) → ((a b c : Term) → size-Term c < size-Term (make a b c)) →
    (t x y z a b c : Term) → t ≡ make x y z → a ≡ x → b ≡ y → c ≡ z →
    (tree t ≡ node (tree a) (tree b) (tree c)) × (size-Term a < size-Term t) × (size-Term b < size-Term t) × (size-Term c < size-Term t)
told_ternary make node line first second third t x y z a b c e f g h =
    let is : t ≡ make a b c = e ∙ (λ i. make (sym f i) (sym g i) (sym h i)) in
    (ap tree is ∙ line a b c, subst (λ u. size-Term a < size-Term u) (sym is) (first a b c), subst (λ u. size-Term b < size-Term u) (sym is) (second a b c), subst (λ u. size-Term c < size-Term u) (sym is) (third a b c))

pub told_listed : (make : List Term → Term) (node : Trees ℕ → Tree ℕ) → ((ts : List Term) → tree (make ts) ≡ node (trees ts)) → ((ts : List Term) → deepest ts < size-Term (make ts)) →
    (t : Term) (xs ts : List Term) → t ≡ make xs → ts ≡ xs → (tree t ≡ node (trees ts)) × (deepest ts < size-Term t)
told_listed make node line size t xs ts e f =
    let is : t ≡ make ts = e ∙ ap make (sym f) in
    (ap tree is ∙ line ts, subst (λ u. deepest ts < size-Term u) (sym is) (size ts))

-- ---- a variant that was made of an operator and of parts

pub made_unary : (make : Term → Term) (op : Unary) → ((a : Term) → tree (make a) ≡ unary op (tree a)) → (a x : Term) (o : Unary) → o ≡ op → x ≡ a → tree (make x) ≡ unary o (tree a)
made_unary make op line a x o e f = line x ∙ ap₂ unary (sym e) (ap tree f)

pub made_binary : (make : Term → Term → Term) (op : Binary) → ((a b : Term) → tree (make a b) ≡ binary op (tree a) (tree b)) →
    (a b x y : Term) (o : Binary) → o ≡ op → x ≡ a → y ≡ b → tree (make x y) ≡ binary o (tree a) (tree b)
made_binary make op line a b x y o e f g = line x y ∙ (λ i. binary (sym e i) (tree (f i)) (tree (g i)))

pub made_quantified : (make : Term → Term → Term → Term) (q : Quantifier) → ((a b c : Term) → tree (make a b c) ≡ quantified q (tree a) (tree b) (tree c)) →
    (a b c x y z : Term) (o : Quantifier) → o ≡ q → x ≡ a → y ≡ b → z ≡ c → tree (make x y z) ≡ quantified o (tree a) (tree b) (tree c)
made_quantified make q line a b c x y z o e f g h = line x y z ∙ (λ i. quantified (sym e i) (tree (f i)) (tree (g i)) (tree (h i)))
