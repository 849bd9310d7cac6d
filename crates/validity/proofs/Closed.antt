-- Loose bound variables inside more quantifiers.
use Rattle.std.proofs.Common.{ℕ, suc, ◌≤◌, arith}
use Rattle.slang_values.specs.Tree.{Tree, literal, truth_literal, name, bound, unary, binary, update, quantified, listed, Trees, no_trees, tree_then}
use Rattle.slang_values.specs.Typing.{IsClosed, AreClosed}

mutual
  -- what is closed inside some quantifiers is closed inside more
  pub IsClosed-more : {A : Type 0} (t : Tree A) (n m : ℕ) → n ≤ m → IsClosed n t → IsClosed m t
  IsClosed-more (literal z) n m l h = tt
  IsClosed-more (truth_literal b) n m l h = tt
  IsClosed-more (name a) n m l h = tt
  IsClosed-more (bound k) n m l h = omega arith
  IsClosed-more (unary op a) n m l h = IsClosed-more a n m l h
  IsClosed-more (binary op a b) n m l h = (IsClosed-more a n m l h.0, IsClosed-more b n m l h.1)
  IsClosed-more (update a i x) n m l h = (IsClosed-more a n m l h.0, IsClosed-more i n m l h.1, IsClosed-more x n m l h.2)
  IsClosed-more (quantified q low high body) n m l h =
      (IsClosed-more low n m l h.0, IsClosed-more high n m l h.1, IsClosed-more body (suc n) (suc m) (omega arith) h.2)
  IsClosed-more (listed k ts) n m l h = AreClosed-more ts n m l h

  pub AreClosed-more : {A : Type 0} (ts : Trees A) (n m : ℕ) → n ≤ m → AreClosed n ts → AreClosed m ts
  AreClosed-more no_trees n m l h = tt
  AreClosed-more (tree_then t ts) n m l h = (IsClosed-more t n m l h.0, AreClosed-more ts n m l h.1)
