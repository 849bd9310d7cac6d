-- The equations of `tree`, one for each variant.
use Rattle.std.proofs.Common.{◌≡◌, ℕ, ℤ, List, true, false, sym, ap, ◌∙◌}
use Rattle.slang_values.specs.Tree.{Tree, literal, truth_literal, name, bound, unary, binary, update, quantified, listed, sequence_of, record_of}
use Rattle.slang_values.specs.declared.operators.Unary.{Unary}
use Rattle.slang_values.specs.declared.operators.Binary.{Binary}
use Rattle.slang_values.specs.declared.operators.Quantifier.{Quantifier}
use Rattle.term_trees.specs.declared.term.Sort.{Sort}
use Rattle.term_trees.specs.declared.term.Term.{Term, Term-F, fold-roll-Term}
use Rattle.term_trees.specs.declared.term.Term.TheVariants.{Lit, True, False, Symbol, Bound, Neg, Not, Add, Sub, Mul, Div, Rem, And, Or, Imply, Eq, Lt, Le, Size, Read, Update, Append, SeqLit, Rec, Field, All, Exists, rolls-Lit, rolls-True, rolls-False, rolls-Symbol, rolls-Bound, rolls-Neg, rolls-Not, rolls-Add, rolls-Sub, rolls-Mul, rolls-Div, rolls-Rem, rolls-And, rolls-Or, rolls-Imply, rolls-Eq, rolls-Lt, rolls-Le, rolls-Size, rolls-Read, rolls-Update, rolls-Append, rolls-SeqLit, rolls-Rec, rolls-Field, rolls-All, rolls-Exists}
use Rattle.term_trees.specs.Term.{sort_type, term_level, tree, trees}

pub tree-Lit : (z : ℤ) → tree (Lit z) ≡ literal z
unfolding tree
tree-Lit z = ap tree (sym (rolls-Lit z)) ∙ fold-roll-Term (Tree ℕ) term_level (Term-F.Lit z)

pub tree-True : tree True ≡ truth_literal true
unfolding tree
tree-True = ap tree (sym rolls-True) ∙ fold-roll-Term (Tree ℕ) term_level Term-F.True

pub tree-False : tree False ≡ truth_literal false
unfolding tree
tree-False = ap tree (sym rolls-False) ∙ fold-roll-Term (Tree ℕ) term_level Term-F.False

pub tree-Symbol : (n : ℕ) → tree (Symbol n) ≡ name n
unfolding tree
tree-Symbol n = ap tree (sym (rolls-Symbol n)) ∙ fold-roll-Term (Tree ℕ) term_level (Term-F.Symbol n)

pub tree-Bound : (n : ℕ) → tree (Bound n) ≡ bound n
unfolding tree
tree-Bound n = ap tree (sym (rolls-Bound n)) ∙ fold-roll-Term (Tree ℕ) term_level (Term-F.Bound n)

pub tree-Neg : (a : Term) → tree (Neg a) ≡ unary Unary.Neg (tree a)
unfolding tree
tree-Neg a = ap tree (sym (rolls-Neg a)) ∙ fold-roll-Term (Tree ℕ) term_level (Term-F.Neg a)

pub tree-Not : (a : Term) → tree (Not a) ≡ unary Unary.Not (tree a)
unfolding tree
tree-Not a = ap tree (sym (rolls-Not a)) ∙ fold-roll-Term (Tree ℕ) term_level (Term-F.Not a)

pub tree-Add : (a : Term) (b : Term) → tree (Add a b) ≡ binary Binary.Add (tree a) (tree b)
unfolding tree
tree-Add a b = ap tree (sym (rolls-Add a b)) ∙ fold-roll-Term (Tree ℕ) term_level (Term-F.Add a b)

pub tree-Sub : (a : Term) (b : Term) → tree (Sub a b) ≡ binary Binary.Sub (tree a) (tree b)
unfolding tree
tree-Sub a b = ap tree (sym (rolls-Sub a b)) ∙ fold-roll-Term (Tree ℕ) term_level (Term-F.Sub a b)

pub tree-Mul : (a : Term) (b : Term) → tree (Mul a b) ≡ binary Binary.Mul (tree a) (tree b)
unfolding tree
tree-Mul a b = ap tree (sym (rolls-Mul a b)) ∙ fold-roll-Term (Tree ℕ) term_level (Term-F.Mul a b)

pub tree-Div : (a : Term) (b : Term) → tree (Div a b) ≡ binary Binary.Div (tree a) (tree b)
unfolding tree
tree-Div a b = ap tree (sym (rolls-Div a b)) ∙ fold-roll-Term (Tree ℕ) term_level (Term-F.Div a b)

pub tree-Rem : (a : Term) (b : Term) → tree (Rem a b) ≡ binary Binary.Rem (tree a) (tree b)
unfolding tree
tree-Rem a b = ap tree (sym (rolls-Rem a b)) ∙ fold-roll-Term (Tree ℕ) term_level (Term-F.Rem a b)

pub tree-And : (a : Term) (b : Term) → tree (And a b) ≡ binary Binary.And (tree a) (tree b)
unfolding tree
tree-And a b = ap tree (sym (rolls-And a b)) ∙ fold-roll-Term (Tree ℕ) term_level (Term-F.And a b)

pub tree-Or : (a : Term) (b : Term) → tree (Or a b) ≡ binary Binary.Or (tree a) (tree b)
unfolding tree
tree-Or a b = ap tree (sym (rolls-Or a b)) ∙ fold-roll-Term (Tree ℕ) term_level (Term-F.Or a b)

pub tree-Imply : (a : Term) (b : Term) → tree (Imply a b) ≡ binary Binary.Imply (tree a) (tree b)
unfolding tree
tree-Imply a b = ap tree (sym (rolls-Imply a b)) ∙ fold-roll-Term (Tree ℕ) term_level (Term-F.Imply a b)

pub tree-Eq : (a : Term) (b : Term) → tree (Eq a b) ≡ binary Binary.Eq (tree a) (tree b)
unfolding tree
tree-Eq a b = ap tree (sym (rolls-Eq a b)) ∙ fold-roll-Term (Tree ℕ) term_level (Term-F.Eq a b)

pub tree-Lt : (a : Term) (b : Term) → tree (Lt a b) ≡ binary Binary.Lt (tree a) (tree b)
unfolding tree
tree-Lt a b = ap tree (sym (rolls-Lt a b)) ∙ fold-roll-Term (Tree ℕ) term_level (Term-F.Lt a b)

pub tree-Le : (a : Term) (b : Term) → tree (Le a b) ≡ binary Binary.Le (tree a) (tree b)
unfolding tree
tree-Le a b = ap tree (sym (rolls-Le a b)) ∙ fold-roll-Term (Tree ℕ) term_level (Term-F.Le a b)

pub tree-Size : (a : Term) → tree (Size a) ≡ unary Unary.Size (tree a)
unfolding tree
tree-Size a = ap tree (sym (rolls-Size a)) ∙ fold-roll-Term (Tree ℕ) term_level (Term-F.Size a)

pub tree-Read : (a : Term) (b : Term) → tree (Read a b) ≡ binary Binary.Read (tree a) (tree b)
unfolding tree
tree-Read a b = ap tree (sym (rolls-Read a b)) ∙ fold-roll-Term (Tree ℕ) term_level (Term-F.Read a b)

pub tree-Update : (a : Term) (i : Term) (x : Term) → tree (Update a i x) ≡ update (tree a) (tree i) (tree x)
unfolding tree
tree-Update a i x = ap tree (sym (rolls-Update a i x)) ∙ fold-roll-Term (Tree ℕ) term_level (Term-F.Update a i x)

pub tree-Append : (a : Term) (b : Term) → tree (Append a b) ≡ binary Binary.Append (tree a) (tree b)
unfolding tree
tree-Append a b = ap tree (sym (rolls-Append a b)) ∙ fold-roll-Term (Tree ℕ) term_level (Term-F.Append a b)

pub tree-SeqLit : (s : Sort) (ts : List Term) → tree (SeqLit s ts) ≡ listed (sequence_of (sort_type s)) (trees ts)
unfolding tree
tree-SeqLit s ts = ap tree (sym (rolls-SeqLit s ts)) ∙ fold-roll-Term (Tree ℕ) term_level (Term-F.SeqLit s ts)

pub tree-Rec : (n : ℕ) (ts : List Term) → tree (Rec n ts) ≡ listed (record_of n) (trees ts)
unfolding tree
tree-Rec n ts = ap tree (sym (rolls-Rec n ts)) ∙ fold-roll-Term (Tree ℕ) term_level (Term-F.Rec n ts)

pub tree-Field : (a : Term) (k : ℕ) → tree (Field a k) ≡ unary (Unary.Field k) (tree a)
unfolding tree
tree-Field a k = ap tree (sym (rolls-Field a k)) ∙ fold-roll-Term (Tree ℕ) term_level (Term-F.Field a k)

pub tree-All : (low : Term) (high : Term) (body : Term) → tree (All low high body) ≡ quantified Quantifier.All (tree low) (tree high) (tree body)
unfolding tree
tree-All low high body = ap tree (sym (rolls-All low high body)) ∙ fold-roll-Term (Tree ℕ) term_level (Term-F.All low high body)

pub tree-Exists : (low : Term) (high : Term) (body : Term) → tree (Exists low high body) ≡ quantified Quantifier.Exists (tree low) (tree high) (tree body)
unfolding tree
tree-Exists low high body = ap tree (sym (rolls-Exists low high body)) ∙ fold-roll-Term (Tree ℕ) term_level (Term-F.Exists low high body)

pub ruleset tree_lines = (tree-Lit, tree-True, tree-False, tree-Symbol, tree-Bound, tree-Neg, tree-Not, tree-Add, tree-Sub, tree-Mul, tree-Div, tree-Rem, tree-And, tree-Or, tree-Imply, tree-Eq, tree-Lt, tree-Le, tree-Size, tree-Read, tree-Update, tree-Append, tree-SeqLit, tree-Rec, tree-Field, tree-All, tree-Exists)

pub ruleset leaf_lines = (tree-Lit, tree-True, tree-False, tree-Symbol, tree-Bound)

pub ruleset update_lines = (tree-Update)
