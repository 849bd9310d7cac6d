-- What a variant tells of its tree and of its parts.
use Rattle.std.proofs.Common.{◌≡◌, ℕ, ◌<◌, List, sym, ap, ap₂, ◌∙◌, subst}
use Rattle.slang_values.specs.Tree.{Tree, unary, binary, quantified, Trees}
use Rattle.slang_values.specs.declared.operators.Unary.{Unary}
use Rattle.slang_values.specs.declared.operators.Binary.{Binary}
use Rattle.slang_values.specs.declared.operators.Quantifier.{Quantifier}
use Rattle.program_trees.specs.Claims.{ClaimName}
use Rattle.lk_claims.specs.declared.claim.Claim.{Claim, size-Claim}
use Rattle.lk_claims.specs.Shape.{deepest}
use Rattle.lk_claims.specs.Claim.{claim_tree, claim_trees}

pub told_unary : (make : Claim → Claim) (op : Unary) → ((a : Claim) → claim_tree (make a) ≡ unary op (claim_tree a)) → ((a : Claim) → size-Claim a < size-Claim (make a)) →
    (t x a : Claim) → t ≡ make x → a ≡ x → (claim_tree t ≡ unary op (claim_tree a)) × (size-Claim a < size-Claim t)
told_unary make op line size t x a e f =
    let is : t ≡ make a = e ∙ ap make (sym f) in
    (ap claim_tree is ∙ line a, subst (λ u. size-Claim a < size-Claim u) (sym is) (size a))

pub told_binary : (make : Claim → Claim → Claim) (op : Binary) → ((a b : Claim) → claim_tree (make a b) ≡ binary op (claim_tree a) (claim_tree b)) → ((a b : Claim) → size-Claim a < size-Claim (make a b)) → ((a b : Claim) → size-Claim b < size-Claim (make a b)) →
    (t x y a b : Claim) → t ≡ make x y → a ≡ x → b ≡ y → (claim_tree t ≡ binary op (claim_tree a) (claim_tree b)) × (size-Claim a < size-Claim t) × (size-Claim b < size-Claim t)
told_binary make op line first second t x y a b e f g =
    let is : t ≡ make a b = e ∙ ap₂ make (sym f) (sym g) in
    (ap claim_tree is ∙ line a b, subst (λ u. size-Claim a < size-Claim u) (sym is) (first a b), subst (λ u. size-Claim b < size-Claim u) (sym is) (second a b))

pub told_ternary : (make : Claim → Claim → Claim → Claim) (node : Tree (ClaimName ℕ) → Tree (ClaimName ℕ) → Tree (ClaimName ℕ) → Tree (ClaimName ℕ)) → ((a b c : Claim) → claim_tree (make a b c) ≡ node (claim_tree a) (claim_tree b) (claim_tree c)) →
    ((a b c : Claim) → size-Claim a < size-Claim (make a b c)) → ((a b c : Claim) → size-Claim b < size-Claim (make a b c)) → ((a b c : Claim) → size-Claim c < size-Claim (make a b c)) →
    (t x y z a b c : Claim) → t ≡ make x y z → a ≡ x → b ≡ y → c ≡ z →
    (claim_tree t ≡ node (claim_tree a) (claim_tree b) (claim_tree c)) × (size-Claim a < size-Claim t) × (size-Claim b < size-Claim t) × (size-Claim c < size-Claim t)
told_ternary make node line first second third t x y z a b c e f g h =
    let is : t ≡ make a b c = e ∙ (λ i. make (sym f i) (sym g i) (sym h i)) in
    (ap claim_tree is ∙ line a b c, subst (λ u. size-Claim a < size-Claim u) (sym is) (first a b c), subst (λ u. size-Claim b < size-Claim u) (sym is) (second a b c), subst (λ u. size-Claim c < size-Claim u) (sym is) (third a b c))

pub told_listed : (make : List Claim → Claim) (node : Trees (ClaimName ℕ) → Tree (ClaimName ℕ)) → ((ts : List Claim) → claim_tree (make ts) ≡ node (claim_trees ts)) → ((ts : List Claim) → deepest ts < size-Claim (make ts)) →
    (t : Claim) (xs ts : List Claim) → t ≡ make xs → ts ≡ xs → (claim_tree t ≡ node (claim_trees ts)) × (deepest ts < size-Claim t)
told_listed make node line size t xs ts e f =
    let is : t ≡ make ts = e ∙ ap make (sym f) in
    (ap claim_tree is ∙ line ts, subst (λ u. deepest ts < size-Claim u) (sym is) (size ts))

-- ---- a variant that was made of an operator and of parts

pub made_unary : (make : Claim → Claim) (op : Unary) → ((a : Claim) → claim_tree (make a) ≡ unary op (claim_tree a)) → (a x : Claim) (o : Unary) → o ≡ op → x ≡ a → claim_tree (make x) ≡ unary o (claim_tree a)
made_unary make op line a x o e f = line x ∙ ap₂ unary (sym e) (ap claim_tree f)

pub made_binary : (make : Claim → Claim → Claim) (op : Binary) → ((a b : Claim) → claim_tree (make a b) ≡ binary op (claim_tree a) (claim_tree b)) →
    (a b x y : Claim) (o : Binary) → o ≡ op → x ≡ a → y ≡ b → claim_tree (make x y) ≡ binary o (claim_tree a) (claim_tree b)
made_binary make op line a b x y o e f g = line x y ∙ (λ i. binary (sym e i) (claim_tree (f i)) (claim_tree (g i)))

pub made_quantified : (make : Claim → Claim → Claim → Claim) (q : Quantifier) → ((a b c : Claim) → claim_tree (make a b c) ≡ quantified q (claim_tree a) (claim_tree b) (claim_tree c)) →
    (a b c x y z : Claim) (o : Quantifier) → o ≡ q → x ≡ a → y ≡ b → z ≡ c → claim_tree (make x y z) ≡ quantified o (claim_tree a) (claim_tree b) (claim_tree c)
made_quantified make q line a b c x y z o e f g h = line x y z ∙ (λ i. quantified (sym e i) (claim_tree (f i)) (claim_tree (g i)) (claim_tree (h i)))
