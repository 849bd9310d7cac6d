-- Substitution keeps types, and takes its variable away.
use Rattle.std.proofs.Common.{◌≡◌, ℕ, zero, suc, ◌<◌, ℤ, List, [], ◌∷◌, Bool, true, false, cond, eqb, refl, sym, ap, ap₂, ◌∙◌, subst, arith, ne_eqb}
use Rattle.std.proofs.lemmas.Bool.{eqb-false}
use Rattle.slang_values.specs.Value.{ValueType, number_type, truth_type, sequence_type, Records, fields, element_type, field_type}
use Rattle.slang_values.specs.Tree.{Tree, literal, truth_literal, name, bound, unary, binary, update, quantified, listed, Trees, no_trees, tree_then, sequence_of, record_of, Bounds, inside}
use Rattle.slang_values.specs.Typing.{NameTypes, type_of, IsFieldType, IsTyped, EachIsTyped, AreTyped, IsClosed, AreClosed}
use Rattle.slang_values.specs.declared.operators.Unary.{Unary}
use Rattle.slang_values.specs.declared.operators.Binary.{Binary}
use Rattle.slang_values.proofs.Closed.{value_agree}
use Rattle.validity.proofs.Closed.{IsClosed-more}
use Rattle.validity.proofs.TypeOf.{type_of_typed}
use Rattle.substitution.specs.Substitution.{substituted, all_substituted, assigned}
use Rattle.substitution.specs.Laws.{IsInstance}
use Rattle.substitution.proofs.SubstitutionKeepsValues.{value-substituted}

-- ---- types

module _ {A : Type 0} (records : Records) (types : NameTypes A) (u : Tree A) (typed : IsTyped records types u number_type) where
  type_at_bound : (b : Bool) (m : ℕ) → type_of records types (cond b u (bound m)) ≡ number_type
  type_at_bound true m = type_of_typed records types u number_type typed
  type_at_bound false m = refl

  type_of-substituted : (a : Tree A) (n : ℕ) → type_of records types (substituted n u a) ≡ type_of records types a
  type_of-substituted (literal z) n = refl
  type_of-substituted (truth_literal b) n = refl
  type_of-substituted (name a) n = refl
  type_of-substituted (bound m) n = type_at_bound (eqb m n) m
  type_of-substituted (unary Unary.Neg a) n = refl
  type_of-substituted (unary Unary.Not a) n = refl
  type_of-substituted (unary Unary.Size a) n = refl
  type_of-substituted (unary (Unary.Field k) a) n = ap (field_type records k) (type_of-substituted a n)
  type_of-substituted (binary Binary.Add a b) n = refl
  type_of-substituted (binary Binary.Sub a b) n = refl
  type_of-substituted (binary Binary.Mul a b) n = refl
  type_of-substituted (binary Binary.Div a b) n = refl
  type_of-substituted (binary Binary.Rem a b) n = refl
  type_of-substituted (binary Binary.And a b) n = refl
  type_of-substituted (binary Binary.Or a b) n = refl
  type_of-substituted (binary Binary.Imply a b) n = refl
  type_of-substituted (binary Binary.Eq a b) n = refl
  type_of-substituted (binary Binary.Lt a b) n = refl
  type_of-substituted (binary Binary.Le a b) n = refl
  type_of-substituted (binary Binary.Read a i) n = ap element_type (type_of-substituted a n)
  type_of-substituted (binary Binary.Append a x) n = type_of-substituted a n
  type_of-substituted (update a i x) n = type_of-substituted a n
  type_of-substituted (quantified q low high body) n = refl
  type_of-substituted (listed (sequence_of s) ts) n = refl
  type_of-substituted (listed (record_of m) ts) n = refl

  typed_at_bound : (b : Bool) (m : ℕ) (t : ValueType) → t ≡ number_type → IsTyped records types (cond b u (bound m)) t
  typed_at_bound true m t h = subst (λ s. IsTyped records types u s) (sym h) typed
  typed_at_bound false m t h = h

  mutual
    pub IsTyped-substituted : (a : Tree A) (n : ℕ) (t : ValueType) → IsTyped records types a t → IsTyped records types (substituted n u a) t
    IsTyped-substituted (literal z) n t h = h
    IsTyped-substituted (truth_literal b) n t h = h
    IsTyped-substituted (name a) n t h = h
    IsTyped-substituted (bound m) n t h = typed_at_bound (eqb m n) m t h
    IsTyped-substituted (unary Unary.Neg a) n t h = (h.0, IsTyped-substituted a n number_type h.1)
    IsTyped-substituted (unary Unary.Not a) n t h = (h.0, IsTyped-substituted a n truth_type h.1)
    IsTyped-substituted (unary Unary.Size a) n t h =
        (h.0, subst (λ s. IsTyped records types (substituted n u a) (sequence_type (element_type s))) (sym (type_of-substituted a n)) (IsTyped-substituted a n (sequence_type (element_type (type_of records types a))) h.1))
    IsTyped-substituted (unary (Unary.Field k) a) n t h =
        (subst (λ s. IsFieldType records k s t) (sym (type_of-substituted a n)) h.0, subst (λ s. IsTyped records types (substituted n u a) s) (sym (type_of-substituted a n)) (IsTyped-substituted a n (type_of records types a) h.1))
    IsTyped-substituted (binary Binary.Add a b) n t h = (h.0, IsTyped-substituted a n number_type h.1, IsTyped-substituted b n number_type h.2)
    IsTyped-substituted (binary Binary.Sub a b) n t h = (h.0, IsTyped-substituted a n number_type h.1, IsTyped-substituted b n number_type h.2)
    IsTyped-substituted (binary Binary.Mul a b) n t h = (h.0, IsTyped-substituted a n number_type h.1, IsTyped-substituted b n number_type h.2)
    IsTyped-substituted (binary Binary.Div a b) n t h = (h.0, IsTyped-substituted a n number_type h.1, IsTyped-substituted b n number_type h.2)
    IsTyped-substituted (binary Binary.Rem a b) n t h = (h.0, IsTyped-substituted a n number_type h.1, IsTyped-substituted b n number_type h.2)
    IsTyped-substituted (binary Binary.And a b) n t h = (h.0, IsTyped-substituted a n truth_type h.1, IsTyped-substituted b n truth_type h.2)
    IsTyped-substituted (binary Binary.Or a b) n t h = (h.0, IsTyped-substituted a n truth_type h.1, IsTyped-substituted b n truth_type h.2)
    IsTyped-substituted (binary Binary.Imply a b) n t h = (h.0, IsTyped-substituted a n truth_type h.1, IsTyped-substituted b n truth_type h.2)
    IsTyped-substituted (binary Binary.Eq a b) n t h =
        let e = sym (type_of-substituted a n) in
        (h.0, subst (λ s. IsTyped records types (substituted n u a) s) e (IsTyped-substituted a n (type_of records types a) h.1), subst (λ s. IsTyped records types (substituted n u b) s) e (IsTyped-substituted b n (type_of records types a) h.2))
    IsTyped-substituted (binary Binary.Lt a b) n t h = (h.0, IsTyped-substituted a n number_type h.1, IsTyped-substituted b n number_type h.2)
    IsTyped-substituted (binary Binary.Le a b) n t h = (h.0, IsTyped-substituted a n number_type h.1, IsTyped-substituted b n number_type h.2)
    IsTyped-substituted (binary Binary.Read a i) n t h = (IsTyped-substituted a n (sequence_type t) h.0, IsTyped-substituted i n number_type h.1)
    IsTyped-substituted (binary Binary.Append a x) n t h =
        let e = sym (type_of-substituted x n) in
        (h.0 ∙ ap sequence_type e, IsTyped-substituted a n t h.1, subst (λ s. IsTyped records types (substituted n u x) s) e (IsTyped-substituted x n (type_of records types x) h.2))
    IsTyped-substituted (update a i x) n t h =
        let e = sym (type_of-substituted x n) in
        (h.0 ∙ ap sequence_type e, IsTyped-substituted a n t h.1, IsTyped-substituted i n number_type h.2, subst (λ s. IsTyped records types (substituted n u x) s) e (IsTyped-substituted x n (type_of records types x) h.3))
    IsTyped-substituted (quantified q low high body) n t h =
        (h.0, IsTyped-substituted low n number_type h.1, IsTyped-substituted high n number_type h.2, IsTyped-substituted body (suc n) truth_type h.3)
    IsTyped-substituted (listed (sequence_of s) ts) n t h = (h.0, h.1, EachIsTyped-substituted ts n s h.2)
    IsTyped-substituted (listed (record_of m) ts) n t h = (h.0, h.1, AreTyped-substituted ts n (fields records m) h.2)

    EachIsTyped-substituted : (ts : Trees A) (n : ℕ) (t : ValueType) → EachIsTyped records types ts t → EachIsTyped records types (all_substituted n u ts) t
    EachIsTyped-substituted no_trees n t h = tt
    EachIsTyped-substituted (tree_then a ts) n t h = (IsTyped-substituted a n t h.0, EachIsTyped-substituted ts n t h.1)

    AreTyped-substituted : (ts : Trees A) (n : ℕ) (ss : List ValueType) → AreTyped records types ts ss → AreTyped records types (all_substituted n u ts) ss
    AreTyped-substituted no_trees n [] h = tt
    AreTyped-substituted no_trees n (s ∷ ss) h = h
    AreTyped-substituted (tree_then a ts) n [] h = h
    AreTyped-substituted (tree_then a ts) n (s ∷ ss) h = (IsTyped-substituted a n s h.0, AreTyped-substituted ts n ss h.1)

-- ---- loose bound variables

module _ {A : Type 0} (u : Tree A) where
  closed_at_bound : (b : Bool) (m n : ℕ) → eqb m n ≡ b → IsClosed 0 u → m < suc n → IsClosed n (cond b u (bound m))
  closed_at_bound true m n e c h = IsClosed-more u 0 n (omega arith) c
  closed_at_bound false m n e c h = omega (arith, eqb-false m n e)

  mutual
    pub IsClosed-substituted : (t : Tree A) (n : ℕ) → IsClosed 0 u → IsClosed (suc n) t → IsClosed n (substituted n u t)
    IsClosed-substituted (literal z) n c h = tt
    IsClosed-substituted (truth_literal b) n c h = tt
    IsClosed-substituted (name a) n c h = tt
    IsClosed-substituted (bound m) n c h = closed_at_bound (eqb m n) m n refl c h
    IsClosed-substituted (unary op a) n c h = IsClosed-substituted a n c h
    IsClosed-substituted (binary op a b) n c h = (IsClosed-substituted a n c h.0, IsClosed-substituted b n c h.1)
    IsClosed-substituted (update a i x) n c h = (IsClosed-substituted a n c h.0, IsClosed-substituted i n c h.1, IsClosed-substituted x n c h.2)
    IsClosed-substituted (quantified q low high body) n c h =
        (IsClosed-substituted low n c h.0, IsClosed-substituted high n c h.1, IsClosed-substituted body (suc n) c h.2)
    IsClosed-substituted (listed l ts) n c h = AreClosed-substituted ts n c h

    AreClosed-substituted : (ts : Trees A) (n : ℕ) → IsClosed 0 u → AreClosed (suc n) ts → AreClosed n (all_substituted n u ts)
    AreClosed-substituted no_trees n c h = tt
    AreClosed-substituted (tree_then t ts) n c h = (IsClosed-substituted t n c h.0, AreClosed-substituted ts n c h.1)

  mutual
    pub substituted-closed : (t : Tree A) (n : ℕ) → IsClosed n t → substituted n u t ≡ t
    substituted-closed (literal z) n h = refl
    substituted-closed (truth_literal b) n h = refl
    substituted-closed (name a) n h = refl
    substituted-closed (bound m) n h = ap (λ b. cond b u (bound m)) (ne_eqb m n (λ e. omega arith))
    substituted-closed (unary op a) n h = ap (unary op) (substituted-closed a n h)
    substituted-closed (binary op a b) n h = ap₂ (binary op) (substituted-closed a n h.0) (substituted-closed b n h.1)
    substituted-closed (update a i x) n h =
        let p = substituted-closed a n h.0 in
        let q = substituted-closed i n h.1 in
        let r = substituted-closed x n h.2 in
        λ k. update (p k) (q k) (r k)
    substituted-closed (quantified q low high body) n h =
        let l = substituted-closed low n h.0 in
        let g = substituted-closed high n h.1 in
        let b = substituted-closed body (suc n) h.2 in
        λ k. quantified q (l k) (g k) (b k)
    substituted-closed (listed l ts) n h = ap (listed l) (all_substituted-closed ts n h)

    all_substituted-closed : (ts : Trees A) (n : ℕ) → AreClosed n ts → all_substituted n u ts ≡ ts
    all_substituted-closed no_trees n h = refl
    all_substituted-closed (tree_then t ts) n h = ap₂ tree_then (substituted-closed t n h.0) (all_substituted-closed ts n h.1)

-- ---- an instance of a quantifier's body

first_assigned : (k : ℤ) (e : Bounds) (m : ℕ) → m < 1 → assigned 0 k e m ≡ inside k e m
first_assigned k e zero l = refl
first_assigned k e (suc m) l = absurd (omega arith)

pub IsInstance-closed : {A : Type 0} (u body : Tree A) → IsClosed 0 u → IsInstance u body
IsInstance-closed u body closed = λ records names e k c h.
    value-substituted records names u k closed body 0 e h ∙ value_agree records names body 1 (assigned 0 k e) (inside k e) c (first_assigned k e)
