-- The equations of `tree`, one for each variant.
use Rattle.std.proofs.Common.{◌≡◌, ℕ, ℤ, List, true, false, sym, ap, ◌∙◌}
use Rattle.slang_values.specs.Tree.{literal, truth_literal, name, bound, unary, binary, update, quantified, listed, sequence_of, record_of}
use Rattle.slang_values.specs.declared.operators.Unary.{Unary}
use Rattle.slang_values.specs.declared.operators.Binary.{Binary}
use Rattle.slang_values.specs.declared.operators.Quantifier.{Quantifier}
use Rattle.program_trees.specs.Claims.{ClaimTree, variable, old_variable, let_symbol}
use Rattle.lk_claims.specs.declared.ty.Ty.{Ty}
use Rattle.lk_claims.specs.declared.claim.Claim.{Claim, Claim-F, fold-roll-Claim}
use Rattle.lk_claims.specs.declared.claim.Claim.TheVariants.{Lit, True, False, Var, Bound, OldVar, LetSym, Neg, Not, Add, Sub, Mul, Div, Rem, And, Or, Imply, Eq, Lt, Le, Size, Read, Update, Append, SeqLit, Rec, Field, All, Exists, rolls-Lit, rolls-True, rolls-False, rolls-Var, rolls-Bound, rolls-OldVar, rolls-LetSym, rolls-Neg, rolls-Not, rolls-Add, rolls-Sub, rolls-Mul, rolls-Div, rolls-Rem, rolls-And, rolls-Or, rolls-Imply, rolls-Eq, rolls-Lt, rolls-Le, rolls-Size, rolls-Read, rolls-Update, rolls-Append, rolls-SeqLit, rolls-Rec, rolls-Field, rolls-All, rolls-Exists}
use Rattle.lk_claims.specs.Claim.{value_type, claim_level, claim_tree, claim_trees}

pub claim_tree-Lit : (z : ℤ) → claim_tree (Lit z) ≡ literal z
unfolding claim_tree
claim_tree-Lit z = ap claim_tree (sym (rolls-Lit z)) ∙ fold-roll-Claim (ClaimTree ℕ) claim_level (Claim-F.Lit z)

pub claim_tree-True : claim_tree True ≡ truth_literal true
unfolding claim_tree
claim_tree-True = ap claim_tree (sym rolls-True) ∙ fold-roll-Claim (ClaimTree ℕ) claim_level Claim-F.True

pub claim_tree-False : claim_tree False ≡ truth_literal false
unfolding claim_tree
claim_tree-False = ap claim_tree (sym rolls-False) ∙ fold-roll-Claim (ClaimTree ℕ) claim_level Claim-F.False

pub claim_tree-Var : (n : ℕ) → claim_tree (Var n) ≡ name (variable n)
unfolding claim_tree
claim_tree-Var n = ap claim_tree (sym (rolls-Var n)) ∙ fold-roll-Claim (ClaimTree ℕ) claim_level (Claim-F.Var n)

pub claim_tree-OldVar : (n : ℕ) → claim_tree (OldVar n) ≡ name (old_variable n)
unfolding claim_tree
claim_tree-OldVar n = ap claim_tree (sym (rolls-OldVar n)) ∙ fold-roll-Claim (ClaimTree ℕ) claim_level (Claim-F.OldVar n)

pub claim_tree-LetSym : (label : ℕ) → claim_tree (LetSym label) ≡ name (let_symbol label)
unfolding claim_tree
claim_tree-LetSym label = ap claim_tree (sym (rolls-LetSym label)) ∙ fold-roll-Claim (ClaimTree ℕ) claim_level (Claim-F.LetSym label)

pub claim_tree-Bound : (n : ℕ) → claim_tree (Bound n) ≡ bound n
unfolding claim_tree
claim_tree-Bound n = ap claim_tree (sym (rolls-Bound n)) ∙ fold-roll-Claim (ClaimTree ℕ) claim_level (Claim-F.Bound n)

pub claim_tree-Neg : (a : Claim) → claim_tree (Neg a) ≡ unary Unary.Neg (claim_tree a)
unfolding claim_tree
claim_tree-Neg a = ap claim_tree (sym (rolls-Neg a)) ∙ fold-roll-Claim (ClaimTree ℕ) claim_level (Claim-F.Neg a)

pub claim_tree-Not : (a : Claim) → claim_tree (Not a) ≡ unary Unary.Not (claim_tree a)
unfolding claim_tree
claim_tree-Not a = ap claim_tree (sym (rolls-Not a)) ∙ fold-roll-Claim (ClaimTree ℕ) claim_level (Claim-F.Not a)

pub claim_tree-Add : (a : Claim) (b : Claim) → claim_tree (Add a b) ≡ binary Binary.Add (claim_tree a) (claim_tree b)
unfolding claim_tree
claim_tree-Add a b = ap claim_tree (sym (rolls-Add a b)) ∙ fold-roll-Claim (ClaimTree ℕ) claim_level (Claim-F.Add a b)

pub claim_tree-Sub : (a : Claim) (b : Claim) → claim_tree (Sub a b) ≡ binary Binary.Sub (claim_tree a) (claim_tree b)
unfolding claim_tree
claim_tree-Sub a b = ap claim_tree (sym (rolls-Sub a b)) ∙ fold-roll-Claim (ClaimTree ℕ) claim_level (Claim-F.Sub a b)

pub claim_tree-Mul : (a : Claim) (b : Claim) → claim_tree (Mul a b) ≡ binary Binary.Mul (claim_tree a) (claim_tree b)
unfolding claim_tree
claim_tree-Mul a b = ap claim_tree (sym (rolls-Mul a b)) ∙ fold-roll-Claim (ClaimTree ℕ) claim_level (Claim-F.Mul a b)

pub claim_tree-Div : (a : Claim) (b : Claim) → claim_tree (Div a b) ≡ binary Binary.Div (claim_tree a) (claim_tree b)
unfolding claim_tree
claim_tree-Div a b = ap claim_tree (sym (rolls-Div a b)) ∙ fold-roll-Claim (ClaimTree ℕ) claim_level (Claim-F.Div a b)

pub claim_tree-Rem : (a : Claim) (b : Claim) → claim_tree (Rem a b) ≡ binary Binary.Rem (claim_tree a) (claim_tree b)
unfolding claim_tree
claim_tree-Rem a b = ap claim_tree (sym (rolls-Rem a b)) ∙ fold-roll-Claim (ClaimTree ℕ) claim_level (Claim-F.Rem a b)

pub claim_tree-And : (a : Claim) (b : Claim) → claim_tree (And a b) ≡ binary Binary.And (claim_tree a) (claim_tree b)
unfolding claim_tree
claim_tree-And a b = ap claim_tree (sym (rolls-And a b)) ∙ fold-roll-Claim (ClaimTree ℕ) claim_level (Claim-F.And a b)

pub claim_tree-Or : (a : Claim) (b : Claim) → claim_tree (Or a b) ≡ binary Binary.Or (claim_tree a) (claim_tree b)
unfolding claim_tree
claim_tree-Or a b = ap claim_tree (sym (rolls-Or a b)) ∙ fold-roll-Claim (ClaimTree ℕ) claim_level (Claim-F.Or a b)

pub claim_tree-Imply : (a : Claim) (b : Claim) → claim_tree (Imply a b) ≡ binary Binary.Imply (claim_tree a) (claim_tree b)
unfolding claim_tree
claim_tree-Imply a b = ap claim_tree (sym (rolls-Imply a b)) ∙ fold-roll-Claim (ClaimTree ℕ) claim_level (Claim-F.Imply a b)

pub claim_tree-Eq : (a : Claim) (b : Claim) → claim_tree (Eq a b) ≡ binary Binary.Eq (claim_tree a) (claim_tree b)
unfolding claim_tree
claim_tree-Eq a b = ap claim_tree (sym (rolls-Eq a b)) ∙ fold-roll-Claim (ClaimTree ℕ) claim_level (Claim-F.Eq a b)

pub claim_tree-Lt : (a : Claim) (b : Claim) → claim_tree (Lt a b) ≡ binary Binary.Lt (claim_tree a) (claim_tree b)
unfolding claim_tree
claim_tree-Lt a b = ap claim_tree (sym (rolls-Lt a b)) ∙ fold-roll-Claim (ClaimTree ℕ) claim_level (Claim-F.Lt a b)

pub claim_tree-Le : (a : Claim) (b : Claim) → claim_tree (Le a b) ≡ binary Binary.Le (claim_tree a) (claim_tree b)
unfolding claim_tree
claim_tree-Le a b = ap claim_tree (sym (rolls-Le a b)) ∙ fold-roll-Claim (ClaimTree ℕ) claim_level (Claim-F.Le a b)

pub claim_tree-Size : (a : Claim) → claim_tree (Size a) ≡ unary Unary.Size (claim_tree a)
unfolding claim_tree
claim_tree-Size a = ap claim_tree (sym (rolls-Size a)) ∙ fold-roll-Claim (ClaimTree ℕ) claim_level (Claim-F.Size a)

pub claim_tree-Read : (a : Claim) (b : Claim) → claim_tree (Read a b) ≡ binary Binary.Read (claim_tree a) (claim_tree b)
unfolding claim_tree
claim_tree-Read a b = ap claim_tree (sym (rolls-Read a b)) ∙ fold-roll-Claim (ClaimTree ℕ) claim_level (Claim-F.Read a b)

pub claim_tree-Update : (a : Claim) (i : Claim) (x : Claim) → claim_tree (Update a i x) ≡ update (claim_tree a) (claim_tree i) (claim_tree x)
unfolding claim_tree
claim_tree-Update a i x = ap claim_tree (sym (rolls-Update a i x)) ∙ fold-roll-Claim (ClaimTree ℕ) claim_level (Claim-F.Update a i x)

pub claim_tree-Append : (a : Claim) (b : Claim) → claim_tree (Append a b) ≡ binary Binary.Append (claim_tree a) (claim_tree b)
unfolding claim_tree
claim_tree-Append a b = ap claim_tree (sym (rolls-Append a b)) ∙ fold-roll-Claim (ClaimTree ℕ) claim_level (Claim-F.Append a b)

pub claim_tree-SeqLit : (s : Ty) (ts : List Claim) → claim_tree (SeqLit s ts) ≡ listed (sequence_of (value_type s)) (claim_trees ts)
unfolding claim_tree
claim_tree-SeqLit s ts = ap claim_tree (sym (rolls-SeqLit s ts)) ∙ fold-roll-Claim (ClaimTree ℕ) claim_level (Claim-F.SeqLit s ts)

pub claim_tree-Rec : (n : ℕ) (ts : List Claim) → claim_tree (Rec n ts) ≡ listed (record_of n) (claim_trees ts)
unfolding claim_tree
claim_tree-Rec n ts = ap claim_tree (sym (rolls-Rec n ts)) ∙ fold-roll-Claim (ClaimTree ℕ) claim_level (Claim-F.Rec n ts)

pub claim_tree-Field : (a : Claim) (k : ℕ) → claim_tree (Field a k) ≡ unary (Unary.Field k) (claim_tree a)
unfolding claim_tree
claim_tree-Field a k = ap claim_tree (sym (rolls-Field a k)) ∙ fold-roll-Claim (ClaimTree ℕ) claim_level (Claim-F.Field a k)

pub claim_tree-All : (low : Claim) (high : Claim) (body : Claim) → claim_tree (All low high body) ≡ quantified Quantifier.All (claim_tree low) (claim_tree high) (claim_tree body)
unfolding claim_tree
claim_tree-All low high body = ap claim_tree (sym (rolls-All low high body)) ∙ fold-roll-Claim (ClaimTree ℕ) claim_level (Claim-F.All low high body)

pub claim_tree-Exists : (low : Claim) (high : Claim) (body : Claim) → claim_tree (Exists low high body) ≡ quantified Quantifier.Exists (claim_tree low) (claim_tree high) (claim_tree body)
unfolding claim_tree
claim_tree-Exists low high body = ap claim_tree (sym (rolls-Exists low high body)) ∙ fold-roll-Claim (ClaimTree ℕ) claim_level (Claim-F.Exists low high body)

pub ruleset claim_lines = (claim_tree-Lit, claim_tree-True, claim_tree-False, claim_tree-Var, claim_tree-Bound, claim_tree-OldVar, claim_tree-LetSym, claim_tree-Neg, claim_tree-Not, claim_tree-Add, claim_tree-Sub, claim_tree-Mul, claim_tree-Div, claim_tree-Rem, claim_tree-And, claim_tree-Or, claim_tree-Imply, claim_tree-Eq, claim_tree-Lt, claim_tree-Le, claim_tree-Size, claim_tree-Read, claim_tree-Update, claim_tree-Append, claim_tree-SeqLit, claim_tree-Rec, claim_tree-Field, claim_tree-All, claim_tree-Exists)

pub ruleset leaf_lines = (claim_tree-Lit, claim_tree-True, claim_tree-False, claim_tree-Var, claim_tree-Bound, claim_tree-OldVar, claim_tree-LetSym)

pub ruleset update_lines = (claim_tree-Update)
