-- A tree with something lighter in place of its first read that depends on conditions is lighter.
use Rattle.std.proofs.Common.{◌≡◌, ℕ, ◌<◌, ◌≤◌, List, Option, Some, None, refl, sym, subst, arith}
use Rattle.slang_values.specs.Value.{number_type, Records, unit}
use Rattle.slang_values.specs.Tree.{Tree, literal, truth_literal, name, bound, unary, binary, update, quantified, listed, Trees, no_trees, tree_then, Listed, sequence_of, record_of}
use Rattle.slang_values.specs.Typing.{NameTypes, type_of}
use Rattle.slang_values.specs.declared.operators.Binary.{Binary}
use Rattle.read_rules.specs.Reads.{ReadCase, ReadSite, ListSite, read_tree, read_cases, site_within, first_of, own_site, binary_site, listed_site, site_in_first, site_in_rest, first_in_list, first_site, first_site_of_list}
use Rattle.read_rules.proofs.Sites.{first_site_is}
use Rattle.read_rules.proofs.Typing.{TypedAs, HasSomeType, EachHasSomeType, unary_part, left_part, right_part, listed_parts}
use Rattle.case_rules.specs.Cases.{binary_weight, weight, total_weight}
use Rattle.case_steps.proofs.Weights.{left_heavier, right_heavier, above_left, above_right, same_type_as}

none_some : {X : Type 0} (x : X) → None ≡ Some x → ⊥
none_some x e = cc

-- the same read, seen in a larger tree
abbrev inside : (Tree ℕ → Tree ℕ) → ReadSite → ReadSite
inside f s = record { read = s.read; cases = s.cases; instead = λ v. f (s.instead v) }

abbrev in_list : (Trees ℕ → Tree ℕ) → ListSite → ReadSite
in_list f s = record { read = s.read; cases = s.cases; instead = λ v. f (s.instead v) }

abbrev as_first : Trees ℕ → ReadSite → ListSite
as_first ts s = record { read = s.read; cases = s.cases; instead = λ v. tree_then (s.instead v) ts }

abbrev behind : Tree ℕ → ListSite → ListSite
behind t s = record { read = s.read; cases = s.cases; instead = λ v. tree_then t (s.instead v) }

module _ (records : Records) (types : NameTypes ℕ) where
  abbrev w : Tree ℕ → ℕ
  w t = weight records types t

  abbrev all : Trees ℕ → ℕ
  all ts = total_weight records types ts

  -- The read weighs no more than the tree, which is lighter with something lighter of its type in the place of the read.
  pub record IsLightSite (t : Tree ℕ) (s : ReadSite) : Type 0 where
    pub part : weight records types s.read ≤ weight records types t
    pub less : (v : Tree ℕ) → TypedAs records types s.read v → weight records types v < weight records types s.read → weight records types (s.instead v) < weight records types t

  record IsLightList (ts : Trees ℕ) (s : ListSite) : Type 0 where
    part : weight records types s.read ≤ total_weight records types ts
    less : (v : Tree ℕ) → TypedAs records types s.read v → weight records types v < weight records types s.read → total_weight records types (s.instead v) < total_weight records types ts

  within : (whole : Tree ℕ) (f : Tree ℕ → Tree ℕ) (o : Option ReadSite) (s : ReadSite) → ((r : ReadSite) → o ≡ Some r → IsLightSite whole (inside f r)) → site_within f o ≡ Some s → IsLightSite whole s
  within whole f None s below e = absurd (none_some s e)
  within whole f (Some r) s below e = let is : inside f r ≡ s = cc in subst (IsLightSite whole) is (below r refl)

  either : (t : Tree ℕ) (o p : Option ReadSite) (s : ReadSite) → ((r : ReadSite) → o ≡ Some r → IsLightSite t r) → ((r : ReadSite) → p ≡ Some r → IsLightSite t r) → first_of o p ≡ Some s → IsLightSite t s
  either t (Some r) p s left right e = left s e
  either t None p s left right e = right s e

  own : (a j : Tree ℕ) (o : Option (List ReadCase)) (s : ReadSite) → own_site (read_tree a j) o ≡ Some s → IsLightSite (read_tree a j) s
  own a j None s e = absurd (none_some s e)
  own a j (Some cs) s e =
      let is : record { read = read_tree a j; cases = cs; instead = λ v. v } ≡ s = cc in
      subst (IsLightSite (read_tree a j)) is (record { part = omega arith; less = λ v f l. l })

  own_binary : (op : Binary) (a b : Tree ℕ) (s : ReadSite) → binary_site records op a b ≡ Some s → IsLightSite (binary op a b) s
  own_binary Binary.Read a b s e = own a b (read_cases records a b) s e
  own_binary Binary.Add a b s e = absurd (none_some s e)
  own_binary Binary.Sub a b s e = absurd (none_some s e)
  own_binary Binary.Mul a b s e = absurd (none_some s e)
  own_binary Binary.Div a b s e = absurd (none_some s e)
  own_binary Binary.Rem a b s e = absurd (none_some s e)
  own_binary Binary.And a b s e = absurd (none_some s e)
  own_binary Binary.Or a b s e = absurd (none_some s e)
  own_binary Binary.Imply a b s e = absurd (none_some s e)
  own_binary Binary.Eq a b s e = absurd (none_some s e)
  own_binary Binary.Lt a b s e = absurd (none_some s e)
  own_binary Binary.Le a b s e = absurd (none_some s e)
  own_binary Binary.Append a b s e = absurd (none_some s e)

  -- what stands at the site gives the tree its type again
  same_type : (a v : Tree ℕ) (r : ReadSite) → first_site records a ≡ Some r → HasSomeType records types a → TypedAs records types r.read v → type_of records types (r.instead v) ≡ type_of records types a
  same_type a v r e h f =
      let site = first_site_is records types (λ n. unit) a r e in
      same_type_as records types a (r.instead v) h (subst (λ u. TypedAs records types u (r.instead v)) site.same (site.context.typed r.read v f))

  in_left : (op : Binary) (a b : Tree ℕ) (r : ReadSite) → first_site records a ≡ Some r → HasSomeType records types a → IsLightSite a r → IsLightSite (binary op a b) (inside (λ v. binary op v b) r)
  in_left op a b r e h g = record {
    part = omega (arith, g.part, above_left records op (type_of records types a) (w a) (w b));
    less = λ v f l. (
        let below = g.less v f l in
        subst (λ s. binary_weight records op s (w (r.instead v)) (w b) < w (binary op a b)) (sym (same_type a v r e h f))
        (let m = left_heavier records op (type_of records types a) (w (r.instead v)) (w b) (w a) (w b) 1 (omega arith) (omega arith) in omega arith));
  }

  in_right : (op : Binary) (a b : Tree ℕ) (r : ReadSite) → IsLightSite b r → IsLightSite (binary op a b) (inside (binary op a) r)
  in_right op a b r g = record {
    part = omega (arith, g.part, above_right records op (type_of records types a) (w a) (w b));
    less = λ v f l. (
        let below = g.less v f l in
        let m = right_heavier records op (type_of records types a) (w a) (w (r.instead v)) (w a) (w b) 1 (omega arith) (omega arith) in omega arith);
  }

  around_list : (l : Listed) (ts : Trees ℕ) (r : ListSite) → IsLightList ts r → IsLightSite (listed l ts) (in_list (listed l) r)
  around_list (sequence_of t) ts r g = record { part = omega (arith, g.part); less = λ v f l. (let below = g.less v f l in omega arith) }
  around_list (record_of n) ts r g = record { part = omega (arith, g.part); less = λ v f l. (let below = g.less v f l in omega arith) }

  by_list : (l : Listed) (ts : Trees ℕ) (o : Option ListSite) (s : ReadSite) → ((r : ListSite) → o ≡ Some r → IsLightList ts r) → listed_site (listed l) o ≡ Some s → IsLightSite (listed l ts) s
  by_list l ts None s below e = absurd (none_some s e)
  by_list l ts (Some r) s below e = let is : in_list (listed l) r ≡ s = cc in subst (IsLightSite (listed l ts)) is (around_list l ts r (below r refl))

  by_first : (t : Tree ℕ) (ts : Trees ℕ) (o : Option ReadSite) (s : ListSite) → ((r : ReadSite) → o ≡ Some r → IsLightSite t r) → site_in_first ts o ≡ Some s → IsLightList (tree_then t ts) s
  by_first t ts None s below e = absurd (none_some s e)
  by_first t ts (Some r) s below e =
      let is : as_first ts r ≡ s = cc in
      let g = below r refl in
      subst (IsLightList (tree_then t ts)) is (record { part = omega (arith, g.part); less = λ v f l. (let less = g.less v f l in omega arith) })

  by_rest : (t : Tree ℕ) (ts : Trees ℕ) (o : Option ListSite) (s : ListSite) → ((r : ListSite) → o ≡ Some r → IsLightList ts r) → site_in_rest t o ≡ Some s → IsLightList (tree_then t ts) s
  by_rest t ts None s below e = absurd (none_some s e)
  by_rest t ts (Some r) s below e =
      let is : behind t r ≡ s = cc in
      let g = below r refl in
      subst (IsLightList (tree_then t ts)) is (record { part = omega (arith, g.part); less = λ v f l. (let less = g.less v f l in omega arith) })

  either_list : (ts : Trees ℕ) (o p : Option ListSite) (s : ListSite) → ((r : ListSite) → o ≡ Some r → IsLightList ts r) → ((r : ListSite) → p ≡ Some r → IsLightList ts r) → first_in_list o p ≡ Some s → IsLightList ts s
  either_list ts (Some r) p s left right e = left s e
  either_list ts None p s left right e = right s e

  mutual
    pub light_site : (t : Tree ℕ) (s : ReadSite) → HasSomeType records types t → first_site records t ≡ Some s → IsLightSite t s
    light_site (literal z) s h e = absurd (none_some s e)
    light_site (truth_literal b) s h e = absurd (none_some s e)
    light_site (name n) s h e = absurd (none_some s e)
    light_site (bound n) s h e = absurd (none_some s e)
    light_site (unary op a) s h e =
        within (unary op a) (unary op) (first_site records a) s (λ r f. (
        let g = light_site a r (unary_part records types op a h.0 h.1) f in
        record { part = omega (arith, g.part); less = λ v k l. (let below = g.less v k l in omega arith) })) e
    light_site (binary op a b) s h e =
        let p = left_part records types op a b h.0 h.1 in
        let q = right_part records types op a b h.0 h.1 in
        either (binary op a b) _ _ s (λ r f. within (binary op a b) (λ v. binary op v b) (first_site records a) r (λ x g. in_left op a b x g p (light_site a x p g)) f)
        (λ r f. either (binary op a b) _ _ r (λ x g. within (binary op a b) (binary op a) (first_site records b) x (λ y k. in_right op a b y (light_site b y q k)) g) (own_binary op a b) f) e
    light_site (update a i x) s h e =
        either (update a i x) _ _ s (λ r f. within (update a i x) (λ v. update v i x) (first_site records a) r (λ y g. (
        let below = light_site a y (h.0, h.1.1) g in
        record { part = omega (arith, below.part); less = λ v k l. (let less = below.less v k l in omega arith) })) f)
        (λ r f. either (update a i x) _ _ r (λ z g. within (update a i x) (λ v. update a v x) (first_site records i) z (λ y k. (
        let below = light_site i y (number_type, h.1.2) k in
        record { part = omega (arith, below.part); less = λ v m l. (let less = below.less v m l in omega arith) })) g)
        (λ z g. within (update a i x) (update a i) (first_site records x) z (λ y k. (
        let below = light_site x y (type_of records types x, h.1.3) k in
        record { part = omega (arith, below.part); less = λ v m l. (let less = below.less v m l in omega arith) })) g) f) e
    light_site (quantified q low high body) s h e =
        either (quantified q low high body) _ _ s (λ r f. within (quantified q low high body) (λ v. quantified q v high body) (first_site records low) r (λ y g. (
        let below = light_site low y (number_type, h.1.1) g in
        record { part = omega (arith, below.part); less = λ v k l. (let less = below.less v k l in omega arith) })) f)
        (λ r f. within (quantified q low high body) (λ v. quantified q low v body) (first_site records high) r (λ y g. (
        let below = light_site high y (number_type, h.1.2) g in
        record { part = omega (arith, below.part); less = λ v k l. (let less = below.less v k l in omega arith) })) f) e
    light_site (listed l ts) s h e = by_list l ts (first_site_of_list records ts) s (λ r f. light_list ts r (listed_parts records types l ts h.0 h.1) f) e

    light_list : (ts : Trees ℕ) (s : ListSite) → EachHasSomeType records types ts → first_site_of_list records ts ≡ Some s → IsLightList ts s
    light_list no_trees s h e = absurd (none_some s e)
    light_list (tree_then t ts) s h e =
        either_list (tree_then t ts) _ _ s (λ r f. by_first t ts (first_site records t) r (λ x g. light_site t x h.0 g) f)
        (λ r f. by_rest t ts (first_site_of_list records ts) r (λ x g. light_list ts x h.1 g) f) e
