-- What a tree with trees in place of its names is.
use Rattle.std.proofs.Common.{◌≡◌, ℕ, suc, ℤ, List, [], ◌∷◌, Some, refl, sym, ap, ap₂, ◌∙◌, subst, arith}
use Rattle.slang_values.specs.Number.{numbers_between}
use Rattle.slang_values.specs.Value.{ValueType, number_type, truth_type, sequence_type, Records, fields, element_type, Value, truth, number_of, truth_of, updated, value_then}
use Rattle.slang_values.specs.Tree.{Tree, literal, truth_literal, name, bound, unary, binary, update, quantified, listed, Trees, no_trees, tree_then, sequence_of, record_of, Bounds, inside, unary_value, binary_value, holds_of, listed_value, value, values}
use Rattle.slang_values.specs.Typing.{NameTypes, type_of, IsFieldType, IsTyped, EachIsTyped, AreTyped, IsClosed, AreClosed}
use Rattle.slang_values.specs.declared.operators.Unary.{Unary}
use Rattle.slang_values.specs.declared.operators.Binary.{Binary}
use Rattle.slang_values.proofs.Closed.{value_agree}
use Rattle.validity.specs.Validity.{no_bounds}
use Rattle.validity.specs.Bind.{bind, bind_all, EachName, EachNameOfAll}
use Rattle.validity.proofs.Closed.{IsClosed-more}
use Rattle.validity.proofs.TypeOf.{type_of_typed}

-- ---- values

module _ {A B : Type 0} (records : Records) (names : B → Value) (f : A → Tree B) (closed : (a : A) → IsClosed 0 (f a)) where
  mutual
    pub value-bind : (t : Tree A) (e : Bounds) → value records names e (bind f t) ≡ value records (λ a. value records names no_bounds (f a)) e t
    value-bind (literal z) e = refl
    value-bind (truth_literal b) e = refl
    value-bind (name a) e = value_agree records names (f a) 0 e no_bounds (closed a) (λ m l. absurd (omega arith))
    value-bind (bound n) e = refl
    value-bind (unary op a) e = ap (unary_value op) (value-bind a e)
    value-bind (binary op a b) e = ap₂ (binary_value records op) (value-bind a e) (value-bind b e)
    value-bind (update a i x) e =
        let p = value-bind a e in
        let q = value-bind i e in
        let r = value-bind x e in
        λ j. updated (p j) (number_of (q j)) (r j)
    value-bind (quantified q low high body) e =
        let l = value-bind low e in
        let h = value-bind high e in
        let b : (k : ℤ) → value records names (inside k e) (bind f body) ≡ value records (λ a. value records names no_bounds (f a)) (inside k e) body =
        λ k. value-bind body (inside k e) in
        λ j. truth (holds_of q (λ k. truth_of (b k j)) (numbers_between (number_of (l j)) (number_of (h j))))
    value-bind (listed l ts) e = ap (listed_value l) (values-bind ts e)

    values-bind : (ts : Trees A) (e : Bounds) → values records names e (bind_all f ts) ≡ values records (λ a. value records names no_bounds (f a)) e ts
    values-bind no_trees e = refl
    values-bind (tree_then t ts) e = ap₂ value_then (value-bind t e) (values-bind ts e)

module _ {A : Type 0} (records : Records) (names others : A → Value) where
  mutual
    pub value-same_names : (t : Tree A) (e : Bounds) → EachName (λ a. names a ≡ others a) t → value records names e t ≡ value records others e t
    value-same_names (literal z) e h = refl
    value-same_names (truth_literal b) e h = refl
    value-same_names (name a) e h = h
    value-same_names (bound n) e h = refl
    value-same_names (unary op a) e h = ap (unary_value op) (value-same_names a e h)
    value-same_names (binary op a b) e h = ap₂ (binary_value records op) (value-same_names a e h.0) (value-same_names b e h.1)
    value-same_names (update a i x) e h =
        let p = value-same_names a e h.0 in
        let q = value-same_names i e h.1 in
        let r = value-same_names x e h.2 in
        λ j. updated (p j) (number_of (q j)) (r j)
    value-same_names (quantified q low high body) e h =
        let l = value-same_names low e h.0 in
        let u = value-same_names high e h.1 in
        let b : (k : ℤ) → value records names (inside k e) body ≡ value records others (inside k e) body = λ k. value-same_names body (inside k e) h.2 in
        λ j. truth (holds_of q (λ k. truth_of (b k j)) (numbers_between (number_of (l j)) (number_of (u j))))
    value-same_names (listed l ts) e h = ap (listed_value l) (values-same_names ts e h)

    values-same_names : (ts : Trees A) (e : Bounds) → EachNameOfAll (λ a. names a ≡ others a) ts → values records names e ts ≡ values records others e ts
    values-same_names no_trees e h = refl
    values-same_names (tree_then t ts) e h = ap₂ value_then (value-same_names t e h.0) (values-same_names ts e h.1)

-- ---- loose bound variables

module _ {A B : Type 0} (f : A → Tree B) (closed : (a : A) → IsClosed 0 (f a)) where
  mutual
    pub IsClosed-bind : (t : Tree A) (n : ℕ) → IsClosed n t → IsClosed n (bind f t)
    IsClosed-bind (literal z) n h = tt
    IsClosed-bind (truth_literal b) n h = tt
    IsClosed-bind (name a) n h = IsClosed-more (f a) 0 n (omega arith) (closed a)
    IsClosed-bind (bound m) n h = h
    IsClosed-bind (unary op a) n h = IsClosed-bind a n h
    IsClosed-bind (binary op a b) n h = (IsClosed-bind a n h.0, IsClosed-bind b n h.1)
    IsClosed-bind (update a i x) n h = (IsClosed-bind a n h.0, IsClosed-bind i n h.1, IsClosed-bind x n h.2)
    IsClosed-bind (quantified q low high body) n h = (IsClosed-bind low n h.0, IsClosed-bind high n h.1, IsClosed-bind body (suc n) h.2)
    IsClosed-bind (listed l ts) n h = AreClosed-bind_all ts n h

    AreClosed-bind_all : (ts : Trees A) (n : ℕ) → AreClosed n ts → AreClosed n (bind_all f ts)
    AreClosed-bind_all no_trees n h = tt
    AreClosed-bind_all (tree_then t ts) n h = (IsClosed-bind t n h.0, AreClosed-bind_all ts n h.1)

-- ---- types

module _ {A B : Type 0} (records : Records) (types : NameTypes A) (new_types : NameTypes B) (f : A → Tree B) (typed : (a : A) (t : ValueType) → types a ≡ Some t → IsTyped records new_types (f a) t) where
  mutual
    pub IsTyped-bind : (a : Tree A) (t : ValueType) → IsTyped records types a t → IsTyped records new_types (bind f a) t
    IsTyped-bind (literal z) t h = h
    IsTyped-bind (truth_literal b) t h = h
    IsTyped-bind (name a) t h = typed a t h
    IsTyped-bind (bound n) t h = h
    IsTyped-bind (unary Unary.Neg a) t h = (h.0, IsTyped-bind a number_type h.1)
    IsTyped-bind (unary Unary.Not a) t h = (h.0, IsTyped-bind a truth_type h.1)
    IsTyped-bind (unary Unary.Size a) t h =
        let inner = IsTyped-bind a (sequence_type (element_type (type_of records types a))) h.1 in
        let is = type_of_typed records new_types (bind f a) (sequence_type (element_type (type_of records types a))) inner in
        (h.0, subst (λ s. IsTyped records new_types (bind f a) (sequence_type (element_type s))) (sym is) inner)
    IsTyped-bind (unary (Unary.Field k) a) t h =
        let inner = IsTyped-bind a (type_of records types a) h.1 in
        let is = sym (type_of_typed records new_types (bind f a) (type_of records types a) inner) in
        (subst (λ s. IsFieldType records k s t) is h.0, subst (λ s. IsTyped records new_types (bind f a) s) is inner)
    IsTyped-bind (binary Binary.Add a b) t h = (h.0, IsTyped-bind a number_type h.1, IsTyped-bind b number_type h.2)
    IsTyped-bind (binary Binary.Sub a b) t h = (h.0, IsTyped-bind a number_type h.1, IsTyped-bind b number_type h.2)
    IsTyped-bind (binary Binary.Mul a b) t h = (h.0, IsTyped-bind a number_type h.1, IsTyped-bind b number_type h.2)
    IsTyped-bind (binary Binary.Div a b) t h = (h.0, IsTyped-bind a number_type h.1, IsTyped-bind b number_type h.2)
    IsTyped-bind (binary Binary.Rem a b) t h = (h.0, IsTyped-bind a number_type h.1, IsTyped-bind b number_type h.2)
    IsTyped-bind (binary Binary.And a b) t h = (h.0, IsTyped-bind a truth_type h.1, IsTyped-bind b truth_type h.2)
    IsTyped-bind (binary Binary.Or a b) t h = (h.0, IsTyped-bind a truth_type h.1, IsTyped-bind b truth_type h.2)
    IsTyped-bind (binary Binary.Imply a b) t h = (h.0, IsTyped-bind a truth_type h.1, IsTyped-bind b truth_type h.2)
    IsTyped-bind (binary Binary.Lt a b) t h = (h.0, IsTyped-bind a number_type h.1, IsTyped-bind b number_type h.2)
    IsTyped-bind (binary Binary.Le a b) t h = (h.0, IsTyped-bind a number_type h.1, IsTyped-bind b number_type h.2)
    IsTyped-bind (binary Binary.Eq a b) t h =
        let left = IsTyped-bind a (type_of records types a) h.1 in
        let right = IsTyped-bind b (type_of records types a) h.2 in
        let is = sym (type_of_typed records new_types (bind f a) (type_of records types a) left) in
        (h.0, subst (λ s. IsTyped records new_types (bind f a) s) is left, subst (λ s. IsTyped records new_types (bind f b) s) is right)
    IsTyped-bind (binary Binary.Read a i) t h = (IsTyped-bind a (sequence_type t) h.0, IsTyped-bind i number_type h.1)
    IsTyped-bind (binary Binary.Append a x) t h =
        let element = IsTyped-bind x (type_of records types x) h.2 in
        let is = sym (type_of_typed records new_types (bind f x) (type_of records types x) element) in
        (h.0 ∙ ap sequence_type is, IsTyped-bind a t h.1, subst (λ s. IsTyped records new_types (bind f x) s) is element)
    IsTyped-bind (update a i x) t h =
        let element = IsTyped-bind x (type_of records types x) h.3 in
        let is = sym (type_of_typed records new_types (bind f x) (type_of records types x) element) in
        (h.0 ∙ ap sequence_type is, IsTyped-bind a t h.1, IsTyped-bind i number_type h.2, subst (λ s. IsTyped records new_types (bind f x) s) is element)
    IsTyped-bind (quantified q low high body) t h =
        (h.0, IsTyped-bind low number_type h.1, IsTyped-bind high number_type h.2, IsTyped-bind body truth_type h.3)
    IsTyped-bind (listed (sequence_of s) ts) t h = (h.0, h.1, EachIsTyped-bind_all ts s h.2)
    IsTyped-bind (listed (record_of n) ts) t h = (h.0, h.1, AreTyped-bind_all ts (fields records n) h.2)

    EachIsTyped-bind_all : (ts : Trees A) (t : ValueType) → EachIsTyped records types ts t → EachIsTyped records new_types (bind_all f ts) t
    EachIsTyped-bind_all no_trees t h = tt
    EachIsTyped-bind_all (tree_then a ts) t h = (IsTyped-bind a t h.0, EachIsTyped-bind_all ts t h.1)

    AreTyped-bind_all : (ts : Trees A) (ss : List ValueType) → AreTyped records types ts ss → AreTyped records new_types (bind_all f ts) ss
    AreTyped-bind_all no_trees [] h = tt
    AreTyped-bind_all no_trees (s ∷ ss) h = h
    AreTyped-bind_all (tree_then a ts) [] h = h
    AreTyped-bind_all (tree_then a ts) (s ∷ ss) h = (IsTyped-bind a s h.0, AreTyped-bind_all ts ss h.1)

-- ---- one after the other

module _ {A B C : Type 0} (f : A → Tree B) (g : B → Tree C) where
  mutual
    pub bind-bind : (t : Tree A) → bind g (bind f t) ≡ bind (λ a. bind g (f a)) t
    bind-bind (literal z) = refl
    bind-bind (truth_literal b) = refl
    bind-bind (name a) = refl
    bind-bind (bound n) = refl
    bind-bind (unary op a) = ap (unary op) (bind-bind a)
    bind-bind (binary op a b) = ap₂ (binary op) (bind-bind a) (bind-bind b)
    bind-bind (update a i x) =
        let p = bind-bind a in
        let q = bind-bind i in
        let r = bind-bind x in
        λ j. update (p j) (q j) (r j)
    bind-bind (quantified q low high body) =
        let l = bind-bind low in
        let h = bind-bind high in
        let b = bind-bind body in
        λ j. quantified q (l j) (h j) (b j)
    bind-bind (listed l ts) = ap (listed l) (bind_all-bind_all ts)

    bind_all-bind_all : (ts : Trees A) → bind_all g (bind_all f ts) ≡ bind_all (λ a. bind g (f a)) ts
    bind_all-bind_all no_trees = refl
    bind_all-bind_all (tree_then t ts) = ap₂ tree_then (bind-bind t) (bind_all-bind_all ts)

module _ {A : Type 0} where
  mutual
    pub bind-name : (t : Tree A) → bind name t ≡ t
    bind-name (literal z) = refl
    bind-name (truth_literal b) = refl
    bind-name (name a) = refl
    bind-name (bound n) = refl
    bind-name (unary op a) = ap (unary op) (bind-name a)
    bind-name (binary op a b) = ap₂ (binary op) (bind-name a) (bind-name b)
    bind-name (update a i x) =
        let p = bind-name a in
        let q = bind-name i in
        let r = bind-name x in
        λ j. update (p j) (q j) (r j)
    bind-name (quantified q low high body) =
        let l = bind-name low in
        let h = bind-name high in
        let b = bind-name body in
        λ j. quantified q (l j) (h j) (b j)
    bind-name (listed l ts) = ap (listed l) (bind_all-name ts)

    bind_all-name : (ts : Trees A) → bind_all name ts ≡ ts
    bind_all-name no_trees = refl
    bind_all-name (tree_then t ts) = ap₂ tree_then (bind-name t) (bind_all-name ts)

module _ {A B : Type 0} (f g : A → Tree B) where
  mutual
    pub bind-same_names : (t : Tree A) → EachName (λ a. f a ≡ g a) t → bind f t ≡ bind g t
    bind-same_names (literal z) h = refl
    bind-same_names (truth_literal b) h = refl
    bind-same_names (name a) h = h
    bind-same_names (bound n) h = refl
    bind-same_names (unary op a) h = ap (unary op) (bind-same_names a h)
    bind-same_names (binary op a b) h = ap₂ (binary op) (bind-same_names a h.0) (bind-same_names b h.1)
    bind-same_names (update a i x) h =
        let p = bind-same_names a h.0 in
        let q = bind-same_names i h.1 in
        let r = bind-same_names x h.2 in
        λ j. update (p j) (q j) (r j)
    bind-same_names (quantified q low high body) h =
        let l = bind-same_names low h.0 in
        let u = bind-same_names high h.1 in
        let b = bind-same_names body h.2 in
        λ j. quantified q (l j) (u j) (b j)
    bind-same_names (listed l ts) h = ap (listed l) (bind_all-same_names ts h)

    bind_all-same_names : (ts : Trees A) → EachNameOfAll (λ a. f a ≡ g a) ts → bind_all f ts ≡ bind_all g ts
    bind_all-same_names no_trees h = refl
    bind_all-same_names (tree_then t ts) h = ap₂ tree_then (bind-same_names t h.0) (bind_all-same_names ts h.1)

-- ---- the names of a well-typed tree

module _ {A : Type 0} (records : Records) (types : NameTypes A) (P : A → Type 0) (each : (a : A) (t : ValueType) → types a ≡ Some t → P a) where
  mutual
    pub EachName-typed : (a : Tree A) (t : ValueType) → IsTyped records types a t → EachName P a
    EachName-typed (literal z) t h = tt
    EachName-typed (truth_literal b) t h = tt
    EachName-typed (name a) t h = each a t h
    EachName-typed (bound n) t h = tt
    EachName-typed (unary Unary.Neg a) t h = EachName-typed a number_type h.1
    EachName-typed (unary Unary.Not a) t h = EachName-typed a truth_type h.1
    EachName-typed (unary Unary.Size a) t h = EachName-typed a (sequence_type (element_type (type_of records types a))) h.1
    EachName-typed (unary (Unary.Field k) a) t h = EachName-typed a (type_of records types a) h.1
    EachName-typed (binary Binary.Add a b) t h = (EachName-typed a number_type h.1, EachName-typed b number_type h.2)
    EachName-typed (binary Binary.Sub a b) t h = (EachName-typed a number_type h.1, EachName-typed b number_type h.2)
    EachName-typed (binary Binary.Mul a b) t h = (EachName-typed a number_type h.1, EachName-typed b number_type h.2)
    EachName-typed (binary Binary.Div a b) t h = (EachName-typed a number_type h.1, EachName-typed b number_type h.2)
    EachName-typed (binary Binary.Rem a b) t h = (EachName-typed a number_type h.1, EachName-typed b number_type h.2)
    EachName-typed (binary Binary.And a b) t h = (EachName-typed a truth_type h.1, EachName-typed b truth_type h.2)
    EachName-typed (binary Binary.Or a b) t h = (EachName-typed a truth_type h.1, EachName-typed b truth_type h.2)
    EachName-typed (binary Binary.Imply a b) t h = (EachName-typed a truth_type h.1, EachName-typed b truth_type h.2)
    EachName-typed (binary Binary.Lt a b) t h = (EachName-typed a number_type h.1, EachName-typed b number_type h.2)
    EachName-typed (binary Binary.Le a b) t h = (EachName-typed a number_type h.1, EachName-typed b number_type h.2)
    EachName-typed (binary Binary.Eq a b) t h = (EachName-typed a (type_of records types a) h.1, EachName-typed b (type_of records types a) h.2)
    EachName-typed (binary Binary.Read a i) t h = (EachName-typed a (sequence_type t) h.0, EachName-typed i number_type h.1)
    EachName-typed (binary Binary.Append a x) t h = (EachName-typed a t h.1, EachName-typed x (type_of records types x) h.2)
    EachName-typed (update a i x) t h = (EachName-typed a t h.1, EachName-typed i number_type h.2, EachName-typed x (type_of records types x) h.3)
    EachName-typed (quantified q low high body) t h =
        (EachName-typed low number_type h.1, EachName-typed high number_type h.2, EachName-typed body truth_type h.3)
    EachName-typed (listed (sequence_of s) ts) t h = EachNameOfAll-each ts s h.2
    EachName-typed (listed (record_of n) ts) t h = EachNameOfAll-typed ts (fields records n) h.2

    EachNameOfAll-each : (ts : Trees A) (t : ValueType) → EachIsTyped records types ts t → EachNameOfAll P ts
    EachNameOfAll-each no_trees t h = tt
    EachNameOfAll-each (tree_then a ts) t h = (EachName-typed a t h.0, EachNameOfAll-each ts t h.1)

    EachNameOfAll-typed : (ts : Trees A) (ss : List ValueType) → AreTyped records types ts ss → EachNameOfAll P ts
    EachNameOfAll-typed no_trees [] h = tt
    EachNameOfAll-typed no_trees (s ∷ ss) h = absurd h
    EachNameOfAll-typed (tree_then a ts) [] h = absurd h
    EachNameOfAll-typed (tree_then a ts) (s ∷ ss) h = (EachName-typed a s h.0, EachNameOfAll-typed ts ss h.1)
