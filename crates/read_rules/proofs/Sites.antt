-- The first read that depends on conditions: what stands in its place counts by its value alone.
use Rattle.std.proofs.Common.{◌≡◌, ℕ, List, Option, Some, None, refl, ap, subst}
use Rattle.slang_values.specs.Number.{numbers_between}
use Rattle.slang_values.specs.Value.{ValueType, number_type, Records, Value, truth, number_of, truth_of, updated, value_then}
use Rattle.slang_values.specs.Tree.{Tree, literal, truth_literal, name, bound, unary, binary, update, quantified, listed, Trees, no_trees, tree_then, Listed, inside, unary_value, binary_value, holds_of, listed_value, value, values}
use Rattle.slang_values.specs.Typing.{NameTypes, type_of, IsTyped}
use Rattle.slang_values.specs.declared.operators.Unary.{Unary}
use Rattle.slang_values.specs.declared.operators.Binary.{Binary}
use Rattle.slang_values.specs.declared.operators.Quantifier.{Quantifier}
use Rattle.validity.specs.Validity.{no_bounds}
use Rattle.read_rules.specs.Reads.{ReadCase, ReadSite, ListSite, read_tree, read_cases, site_within, first_of, own_site, binary_site, listed_site, site_in_first, site_in_rest, first_in_list, first_site, first_site_of_list}
use Rattle.read_rules.proofs.Typing.{TypedAs, ListTypedAs, HasSomeType, EachHasSomeType, typed_unary, typed_binary, typed_update, typed_quantified, typed_listed, typed_then, unary_part, left_part, right_part, listed_parts}

none_some : {X : Type 0} (x : X) → None ≡ Some x → ⊥
none_some x e = cc

module _ (records : Records) (types : NameTypes ℕ) (names : ℕ → Value) where
  abbrev pub at : Tree ℕ → Value
  at t = value records names no_bounds t

  as_itself : (t : Tree ℕ) → TypedAs records types t t
  as_itself t s h = h

  lists_as_themselves : (ts : Trees ℕ) → ListTypedAs records types ts ts
  lists_as_themselves ts = record { each = λ s h. h; all = λ ss h. h }

  -- a place in a tree, outside the bodies of quantifiers
  pub record IsContext (f : Tree ℕ → Tree ℕ) : Type 0 where
    pub value : (v w : Tree ℕ) → at v ≡ at w → at (f v) ≡ at (f w)
    pub typed : (v w : Tree ℕ) → TypedAs records types v w → TypedAs records types (f v) (f w)
    pub inner : (v : Tree ℕ) (s : ValueType) → IsTyped records types (f v) s → HasSomeType records types v

  -- a place in a list of trees
  pub record IsListContext (f : Tree ℕ → Trees ℕ) : Type 0 where
    pub values : (v w : Tree ℕ) → at v ≡ at w → values records names no_bounds (f v) ≡ values records names no_bounds (f w)
    pub typed : (v w : Tree ℕ) → TypedAs records types v w → ListTypedAs records types (f v) (f w)
    pub inner : (v : Tree ℕ) → EachHasSomeType records types (f v) → HasSomeType records types v

  -- the site is one of the tree: the read in its place gives the tree, and the cases are those of the read
  pub record IsSite (t : Tree ℕ) (s : ReadSite) : Type 0 where
    pub same : s.instead s.read ≡ t
    pub context : IsContext s.instead
    pub sequence : Tree ℕ
    pub place : Tree ℕ
    pub is_read : s.read ≡ read_tree sequence place
    pub are_cases : read_cases records sequence place ≡ Some s.cases

  record IsListSite (ts : Trees ℕ) (s : ListSite) : Type 0 where
    same : s.instead s.read ≡ ts
    context : IsListContext s.instead
    sequence : Tree ℕ
    place : Tree ℕ
    is_read : s.read ≡ read_tree sequence place
    are_cases : read_cases records sequence place ≡ Some s.cases

  -- ---- one node more around a place

  within : (t : Tree ℕ) (f : Tree ℕ → Tree ℕ) (o : Option ReadSite) (s : ReadSite) → ((r : ReadSite) → o ≡ Some r → IsSite t r) → ((g : Tree ℕ → Tree ℕ) → IsContext g → IsContext (λ v. f (g v))) →
      site_within f o ≡ Some s → IsSite (f t) s
  within t f None s below around e = absurd (none_some s e)
  within t f (Some r) s below around e =
      let g = below r refl in
      let is : record { read = r.read; cases = r.cases; instead = λ v. f (r.instead v) } ≡ s = cc in
      subst (IsSite (f t)) is (record { same = ap f g.same; context = around r.instead g.context; sequence = g.sequence; place = g.place; is_read = g.is_read; are_cases = g.are_cases })

  either : (t : Tree ℕ) (o p : Option ReadSite) (s : ReadSite) → ((r : ReadSite) → o ≡ Some r → IsSite t r) → ((r : ReadSite) → p ≡ Some r → IsSite t r) → first_of o p ≡ Some s → IsSite t s
  either t (Some r) p s left right e = left s e
  either t None p s left right e = right s e

  own : (a j : Tree ℕ) (o : Option (List ReadCase)) (s : ReadSite) → read_cases records a j ≡ o → own_site (read_tree a j) o ≡ Some s → IsSite (read_tree a j) s
  own a j None s f e = absurd (none_some s e)
  own a j (Some cs) s f e =
      let is : record { read = read_tree a j; cases = cs; instead = λ v. v } ≡ s = cc in
      subst (IsSite (read_tree a j)) is (record {
        same = refl;
        context = record { value = λ v w h. h; typed = λ v w h. h; inner = λ v r h. (r, h) };
        sequence = a;
        place = j;
        is_read = refl;
        are_cases = f;
      })

  own_binary : (op : Binary) (a b : Tree ℕ) (s : ReadSite) → binary_site records op a b ≡ Some s → IsSite (binary op a b) s
  own_binary Binary.Read a b s e = own a b (read_cases records a b) s refl e
  own_binary Binary.Add a b s e = absurd (none_some s e)
  own_binary Binary.Sub a b s e = absurd (none_some s e)
  own_binary Binary.Mul a b s e = absurd (none_some s e)
  own_binary Binary.Div a b s e = absurd (none_some s e)
  own_binary Binary.Rem a b s e = absurd (none_some s e)
  own_binary Binary.And a b s e = absurd (none_some s e)
  own_binary Binary.Or a b s e = absurd (none_some s e)
  own_binary Binary.Imply a b s e = absurd (none_some s e)
  own_binary Binary.Eq a b s e = absurd (none_some s e)
  own_binary Binary.Lt a b s e = absurd (none_some s e)
  own_binary Binary.Le a b s e = absurd (none_some s e)
  own_binary Binary.Append a b s e = absurd (none_some s e)

  around_unary : (op : Unary) (g : Tree ℕ → Tree ℕ) → IsContext g → IsContext (λ v. unary op (g v))
  around_unary op g h = record {
    value = λ v w e. ap (unary_value op) (h.value v w e);
    typed = λ v w f. typed_unary records types op (g v) (g w) (h.typed v w f);
    inner = λ v s k. let p = unary_part records types op (g v) s k in h.inner v p.0 p.1;
  }

  around_left : (op : Binary) (b : Tree ℕ) (g : Tree ℕ → Tree ℕ) → IsContext g → IsContext (λ v. binary op (g v) b)
  around_left op b g h = record {
    value = λ v w e. ap (λ x. binary_value records op x (at b)) (h.value v w e);
    typed = λ v w f. typed_binary records types op (g v) (g w) b b (h.typed v w f) (as_itself b);
    inner = λ v s k. let p = left_part records types op (g v) b s k in h.inner v p.0 p.1;
  }

  around_right : (op : Binary) (a : Tree ℕ) (g : Tree ℕ → Tree ℕ) → IsContext g → IsContext (λ v. binary op a (g v))
  around_right op a g h = record {
    value = λ v w e. ap (binary_value records op (at a)) (h.value v w e);
    typed = λ v w f. typed_binary records types op a a (g v) (g w) (as_itself a) (h.typed v w f);
    inner = λ v s k. let p = right_part records types op a (g v) s k in h.inner v p.0 p.1;
  }

  around_updated : (i x : Tree ℕ) (g : Tree ℕ → Tree ℕ) → IsContext g → IsContext (λ v. update (g v) i x)
  around_updated i x g h = record {
    value = λ v w e. ap (λ y. updated y (number_of (at i)) (at x)) (h.value v w e);
    typed = λ v w f. typed_update records types (g v) (g w) i i x x (h.typed v w f) (as_itself i) (as_itself x);
    inner = λ v s k. h.inner v s k.1;
  }

  around_place : (a x : Tree ℕ) (g : Tree ℕ → Tree ℕ) → IsContext g → IsContext (λ v. update a (g v) x)
  around_place a x g h = record {
    value = λ v w e. ap (λ y. updated (at a) (number_of y) (at x)) (h.value v w e);
    typed = λ v w f. typed_update records types a a (g v) (g w) x x (as_itself a) (h.typed v w f) (as_itself x);
    inner = λ v s k. h.inner v number_type k.2;
  }

  around_element : (a i : Tree ℕ) (g : Tree ℕ → Tree ℕ) → IsContext g → IsContext (λ v. update a i (g v))
  around_element a i g h = record {
    value = λ v w e. ap (updated (at a) (number_of (at i))) (h.value v w e);
    typed = λ v w f. typed_update records types a a i i (g v) (g w) (as_itself a) (as_itself i) (h.typed v w f);
    inner = λ v s k. h.inner v (type_of records types (g v)) k.3;
  }

  around_low : (q : Quantifier) (high body : Tree ℕ) (g : Tree ℕ → Tree ℕ) → IsContext g → IsContext (λ v. quantified q (g v) high body)
  around_low q high body g h = record {
    value = λ v w e. ap (λ y. truth (holds_of q (λ k. truth_of (value records names (inside k no_bounds) body)) (numbers_between (number_of y) (number_of (at high))))) (h.value v w e);
    typed = λ v w f. typed_quantified records types q (g v) (g w) high high body body (h.typed v w f) (as_itself high) (as_itself body);
    inner = λ v s k. h.inner v number_type k.1;
  }

  around_high : (q : Quantifier) (low body : Tree ℕ) (g : Tree ℕ → Tree ℕ) → IsContext g → IsContext (λ v. quantified q low (g v) body)
  around_high q low body g h = record {
    value = λ v w e. ap (λ y. truth (holds_of q (λ k. truth_of (value records names (inside k no_bounds) body)) (numbers_between (number_of (at low)) (number_of y)))) (h.value v w e);
    typed = λ v w f. typed_quantified records types q low low (g v) (g w) body body (as_itself low) (h.typed v w f) (as_itself body);
    inner = λ v s k. h.inner v number_type k.2;
  }

  around_first : (ts : Trees ℕ) (g : Tree ℕ → Tree ℕ) → IsContext g → IsListContext (λ v. tree_then (g v) ts)
  around_first ts g h = record {
    values = λ v w e. ap (λ y. value_then y (values records names no_bounds ts)) (h.value v w e);
    typed = λ v w f. typed_then records types (g v) (g w) ts ts (h.typed v w f) (lists_as_themselves ts);
    inner = λ v k. h.inner v k.0.0 k.0.1;
  }

  around_rest : (t : Tree ℕ) (g : Tree ℕ → Trees ℕ) → IsListContext g → IsListContext (λ v. tree_then t (g v))
  around_rest t g h = record {
    values = λ v w e. ap (value_then (at t)) (h.values v w e);
    typed = λ v w f. typed_then records types t t (g v) (g w) (as_itself t) (h.typed v w f);
    inner = λ v k. h.inner v k.1;
  }

  around_list : (l : Listed) (g : Tree ℕ → Trees ℕ) → IsListContext g → IsContext (λ v. listed l (g v))
  around_list l g h = record {
    value = λ v w e. ap (listed_value l) (h.values v w e);
    typed = λ v w f. typed_listed records types l (g v) (g w) (h.typed v w f);
    inner = λ v s k. h.inner v (listed_parts records types l (g v) s k);
  }

  in_list : (l : Listed) (ts : Trees ℕ) (o : Option ListSite) (s : ReadSite) → ((r : ListSite) → o ≡ Some r → IsListSite ts r) → listed_site (listed l) o ≡ Some s → IsSite (listed l ts) s
  in_list l ts None s below e = absurd (none_some s e)
  in_list l ts (Some r) s below e =
      let g = below r refl in
      let is : record { read = r.read; cases = r.cases; instead = λ v. listed l (r.instead v) } ≡ s = cc in
      subst (IsSite (listed l ts)) is (record { same = ap (listed l) g.same; context = around_list l r.instead g.context; sequence = g.sequence; place = g.place; is_read = g.is_read; are_cases = g.are_cases })

  in_first : (t : Tree ℕ) (ts : Trees ℕ) (o : Option ReadSite) (s : ListSite) → ((r : ReadSite) → o ≡ Some r → IsSite t r) → site_in_first ts o ≡ Some s → IsListSite (tree_then t ts) s
  in_first t ts None s below e = absurd (none_some s e)
  in_first t ts (Some r) s below e =
      let g = below r refl in
      let is : record { read = r.read; cases = r.cases; instead = λ v. tree_then (r.instead v) ts } ≡ s = cc in
      subst (IsListSite (tree_then t ts)) is (record { same = ap (λ u. tree_then u ts) g.same; context = around_first ts r.instead g.context; sequence = g.sequence; place = g.place; is_read = g.is_read; are_cases = g.are_cases })

  in_rest : (t : Tree ℕ) (ts : Trees ℕ) (o : Option ListSite) (s : ListSite) → ((r : ListSite) → o ≡ Some r → IsListSite ts r) → site_in_rest t o ≡ Some s → IsListSite (tree_then t ts) s
  in_rest t ts None s below e = absurd (none_some s e)
  in_rest t ts (Some r) s below e =
      let g = below r refl in
      let is : record { read = r.read; cases = r.cases; instead = λ v. tree_then t (r.instead v) } ≡ s = cc in
      subst (IsListSite (tree_then t ts)) is (record { same = ap (tree_then t) g.same; context = around_rest t r.instead g.context; sequence = g.sequence; place = g.place; is_read = g.is_read; are_cases = g.are_cases })

  either_list : (ts : Trees ℕ) (o p : Option ListSite) (s : ListSite) → ((r : ListSite) → o ≡ Some r → IsListSite ts r) → ((r : ListSite) → p ≡ Some r → IsListSite ts r) → first_in_list o p ≡ Some s → IsListSite ts s
  either_list ts (Some r) p s left right e = left s e
  either_list ts None p s left right e = right s e

  mutual
    pub first_site_is : (t : Tree ℕ) (s : ReadSite) → first_site records t ≡ Some s → IsSite t s
    first_site_is (literal z) s e = absurd (none_some s e)
    first_site_is (truth_literal b) s e = absurd (none_some s e)
    first_site_is (name n) s e = absurd (none_some s e)
    first_site_is (bound n) s e = absurd (none_some s e)
    first_site_is (unary op a) s e = within a (unary op) (first_site records a) s (first_site_is a) (around_unary op) e
    first_site_is (binary op a b) s e =
        either (binary op a b) _ _ s (λ r f. within a (λ v. binary op v b) (first_site records a) r (first_site_is a) (around_left op b) f)
        (λ r f. either (binary op a b) _ _ r (λ q g. within b (binary op a) (first_site records b) q (first_site_is b) (around_right op a) g) (own_binary op a b) f) e
    first_site_is (update a i x) s e =
        either (update a i x) _ _ s (λ r f. within a (λ v. update v i x) (first_site records a) r (first_site_is a) (around_updated i x) f)
        (λ r f. either (update a i x) _ _ r (λ q g. within i (λ v. update a v x) (first_site records i) q (first_site_is i) (around_place a x) g)
        (λ q g. within x (update a i) (first_site records x) q (first_site_is x) (around_element a i) g) f) e
    first_site_is (quantified q low high body) s e =
        either (quantified q low high body) _ _ s (λ r f. within low (λ v. quantified q v high body) (first_site records low) r (first_site_is low) (around_low q high body) f)
        (λ r f. within high (λ v. quantified q low v body) (first_site records high) r (first_site_is high) (around_high q low body) f) e
    first_site_is (listed l ts) s e = in_list l ts (first_site_of_list records ts) s (first_site_of_list_is ts) e

    first_site_of_list_is : (ts : Trees ℕ) (s : ListSite) → first_site_of_list records ts ≡ Some s → IsListSite ts s
    first_site_of_list_is no_trees s e = absurd (none_some s e)
    first_site_of_list_is (tree_then t ts) s e =
        either_list (tree_then t ts) _ _ s (λ r f. in_first t ts (first_site records t) r (first_site_is t) f)
        (λ r f. in_rest t ts (first_site_of_list records ts) r (first_site_of_list_is ts) f) e
