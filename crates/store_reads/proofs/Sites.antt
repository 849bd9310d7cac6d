-- The first read of a tree that depends on conditions, as it is found part by part.
use Rattle.std.proofs.Common.{◌≡◌, ℕ, zero, suc, List, [], ◌∷◌, slice_get, set, cond, Bool, true, false, ◌&&◌, ◌||◌, Option, Some, None, refl, sym, ap, ap₂, ◌∙◌, subst}
use Rattle.std.specs.Option.{option_map}
use Rattle.std.proofs.lemmas.Bool.{false≢true, or_parts}
use Rattle.std.proofs.lemmas.Option.{same_Some, none-some}
use Rattle.slang_values.specs.Value.{Records}
use Rattle.slang_values.specs.Tree.{Tree, literal, truth_literal, name, bound, unary, binary, update, quantified, listed, Listed, Trees, no_trees, tree_then, sequence_of, record_of, parts, tree_list}
use Rattle.slang_values.specs.declared.operators.Binary.{Binary}
use Rattle.tree_forms.specs.Order.{head}
use Rattle.term_nodes.proofs.Nodes.{same_by_parts}
use Rattle.read_rules.specs.Reads.{ReadCase, ReadSite, ListSite, read_tree, read_cases, site_within, first_of, own_site, binary_site, listed_site, site_in_first, site_in_rest, first_in_list, first_site, first_site_of_list}
use Rattle.store_reads.specs.Written.{is_read, is_written_sequence, first_place, outer_parts, reads_written, has_read, some_has_read, place_of_read, IsFirstRead, here, inside, IsWithRead, instead, around}

-- ---- what is told of a tree with a part that has a read

read_inside : (t p r : Tree ℕ) (k : ℕ) → place_of_read t ≡ Some k → slice_get (parts t) k ≡ Some p → IsFirstRead t r → IsFirstRead p r
read_inside t p r k e g (here n) = absurd (none-some k (sym n ∙ e))
read_inside t p r k e g (inside {p = q} j f h m) =
    let is : j ≡ k = same_Some j k (sym f ∙ e) in
    let same : q ≡ p = same_Some q p (sym h ∙ ap (slice_get (parts t)) is ∙ g) in
    subst (λ x. IsFirstRead x r) same m

read_here : (t r : Tree ℕ) → place_of_read t ≡ None → IsFirstRead t r → t ≡ r
read_here t r e (here n) = refl
read_here t r e (inside k f h m) = absurd (none-some k (sym e ∙ f))

record Around (v p u t : Tree ℕ) (k : ℕ) : Type 0 where
  q : Tree ℕ
  there : IsWithRead v p q
  heads : head u ≡ head t
  parts_are : parts u ≡ set (parts t) k q

with_inside : (v t p u : Tree ℕ) (k : ℕ) → place_of_read t ≡ Some k → slice_get (parts t) k ≡ Some p → IsWithRead v t u → Around v p u t k
with_inside v t p u k e g (instead n) = absurd (none-some k (sym n ∙ e))
with_inside v t p u k e g (around {p = p'} {q = q} j f h m i l) =
    let is : j ≡ k = same_Some j k (sym f ∙ e) in
    let same : p' ≡ p = same_Some p' p (sym h ∙ ap (slice_get (parts t)) is ∙ g) in
    record { q = q; there = subst (λ x. IsWithRead v x q) same m; heads = i; parts_are = l ∙ ap (λ n. set (parts t) n q) is }

with_here : (v t u : Tree ℕ) → place_of_read t ≡ None → IsWithRead v t u → v ≡ u
with_here v t u e (instead n) = refl
with_here v t u e (around k f h m i l) = absurd (none-some k (sym e ∙ f))

-- ---- where there is none

no_cases : (records : Records) (a j : Tree ℕ) → is_written_sequence a ≡ false → read_cases records a j ≡ None
no_cases records (literal z) j h = refl
no_cases records (truth_literal b) j h = refl
no_cases records (name n) j h = refl
no_cases records (bound n) j h = refl
no_cases records (unary op a) j h = refl
no_cases records (binary Binary.Add a x) j h = refl
no_cases records (binary Binary.Sub a x) j h = refl
no_cases records (binary Binary.Mul a x) j h = refl
no_cases records (binary Binary.Div a x) j h = refl
no_cases records (binary Binary.Rem a x) j h = refl
no_cases records (binary Binary.And a x) j h = refl
no_cases records (binary Binary.Or a x) j h = refl
no_cases records (binary Binary.Imply a x) j h = refl
no_cases records (binary Binary.Eq a x) j h = refl
no_cases records (binary Binary.Lt a x) j h = refl
no_cases records (binary Binary.Le a x) j h = refl
no_cases records (binary Binary.Read a x) j h = refl
no_cases records (binary Binary.Append a x) j h = absurd (false≢true (sym h))
no_cases records (update a i x) j h = absurd (false≢true (sym h))
no_cases records (quantified q low high body) j h = refl
no_cases records (listed (sequence_of t) ts) j h = absurd (false≢true (sym h))
no_cases records (listed (record_of n) ts) j h = refl

no_own : (records : Records) (op : Binary) (a j : Tree ℕ) → (is_read op && is_written_sequence a) ≡ false → binary_site records op a j ≡ None
no_own records Binary.Add a j h = refl
no_own records Binary.Sub a j h = refl
no_own records Binary.Mul a j h = refl
no_own records Binary.Div a j h = refl
no_own records Binary.Rem a j h = refl
no_own records Binary.And a j h = refl
no_own records Binary.Or a j h = refl
no_own records Binary.Imply a j h = refl
no_own records Binary.Eq a j h = refl
no_own records Binary.Lt a j h = refl
no_own records Binary.Le a j h = refl
no_own records Binary.Read a j h = ap (own_site (read_tree a j)) (no_cases records a j h)
no_own records Binary.Append a j h = refl

mutual
  pub no_site : (records : Records) (t : Tree ℕ) → has_read t ≡ false → first_site records t ≡ None
  no_site records (literal z) h = refl
  no_site records (truth_literal b) h = refl
  no_site records (name n) h = refl
  no_site records (bound n) h = refl
  no_site records (unary op a) h = ap (site_within (unary op)) (no_site records a h)
  no_site records (binary op a b) h =
      let p = or_parts _ _ h in
      let q = or_parts _ _ p.0 in
      let e = no_site records a q.0 in
      let f = no_site records b q.1 in
      let g = no_own records op a b p.1 in
      λ j. first_of (site_within (λ v. binary op v b) (e j)) (first_of (site_within (binary op a) (f j)) (g j))
  no_site records (update a i x) h =
      let p = or_parts _ _ h in
      let q = or_parts _ _ p.1 in
      let e = no_site records a p.0 in
      let f = no_site records i q.0 in
      let g = no_site records x q.1 in
      λ j. first_of (site_within (λ v. update v i x) (e j)) (first_of (site_within (λ v. update a v x) (f j)) (site_within (update a i) (g j)))
  no_site records (quantified q low high body) h =
      let p = or_parts _ _ h in
      let e = no_site records low p.0 in
      let f = no_site records high p.1 in
      λ j. first_of (site_within (λ v. quantified q v high body) (e j)) (site_within (λ v. quantified q low v body) (f j))
  no_site records (listed l ts) h = ap (listed_site (listed l)) (no_list_site records ts h)

  no_list_site : (records : Records) (ts : Trees ℕ) → some_has_read ts ≡ false → first_site_of_list records ts ≡ None
  no_list_site records no_trees h = refl
  no_list_site records (tree_then t ts) h =
      let p = or_parts _ _ h in
      let e = no_site records t p.0 in
      let f = no_list_site records ts p.1 in
      λ j. first_in_list (site_in_first ts (e j)) (site_in_rest t (f j))

-- ---- where there is one

module _ (records : Records) where
  -- what is found part by part is the first site, with the cases cs
  pub record IsFound (t : Tree ℕ) (cs : List ReadCase) : Type 0 where
    pub site : ReadSite
    pub found : first_site records t ≡ Some site
    pub cases : site.cases ≡ cs
    pub instead : (v u : Tree ℕ) → IsWithRead v t u → site.instead v ≡ u

  record IsFoundInList (ts : Trees ℕ) (cs : List ReadCase) : Type 0 where
    site : ListSite
    found : first_site_of_list records ts ≡ Some site
    cases : site.cases ≡ cs
    at : ℕ
    part : Tree ℕ
    place : first_place has_read (tree_list ts) ≡ Some at
    there : slice_get (tree_list ts) at ≡ Some part
    below : IsFound part cs
    instead : (v : Tree ℕ) → tree_list (site.instead v) ≡ set (tree_list ts) at (below.site.instead v)

  -- one node more around a part
  around_part : (t p : Tree ℕ) (k : ℕ) (f : Tree ℕ → Tree ℕ) (cs : List ReadCase) → place_of_read t ≡ Some k → slice_get (parts t) k ≡ Some p → ((q : Tree ℕ) → head (f q) ≡ head t) → ((q : Tree ℕ) → parts (f q) ≡ set (parts t) k q) →
      (s : IsFound p cs) → first_site records t ≡ Some (record { read = s.site.read; cases = s.site.cases; instead = λ v. f (s.site.instead v) }) → IsFound t cs
  around_part t p k f cs e g h i s found = record {
    site = record { read = s.site.read; cases = s.site.cases; instead = λ v. f (s.site.instead v) };
    found = found;
    cases = s.cases;
    instead = λ v u m. (
        let w = with_inside v t p u k e g m in
        ap f (s.instead v w.q w.there) ∙ same_by_parts (f w.q) u (h w.q ∙ sym w.heads) (i w.q ∙ sym w.parts_are));
  }

  -- the read itself
  own : (a j : Tree ℕ) (cs : List ReadCase) → place_of_read (read_tree a j) ≡ None → first_site records (read_tree a j) ≡ binary_site records Binary.Read a j → read_cases records a j ≡ Some cs → IsFound (read_tree a j) cs
  own a j cs e f g = record {
    site = record { read = read_tree a j; cases = cs; instead = λ v. v };
    found = f ∙ ap (own_site (read_tree a j)) g;
    cases = refl;
    instead = λ v u m. with_here v (read_tree a j) u e m;
  }

  read_inj_left : (op : Binary) (a b c d : Tree ℕ) → binary op a b ≡ read_tree c d → a ≡ c
  read_inj_left op a b c d e = cc

  read_inj_right : (op : Binary) (a b c d : Tree ℕ) → binary op a b ≡ read_tree c d → b ≡ d
  read_inj_right op a b c d e = cc

  head_unary : (t : Tree ℕ) → head t ≡ head t
  head_unary t = refl

  -- the place of a read among two or three parts
  at_first : (o : Option ℕ) (x : Bool) → x ≡ true → cond x (Some 0) (option_map suc o) ≡ Some 0
  at_first o x e = ap (λ b. cond b (Some 0) (option_map suc o)) e

  at_later : (o : Option ℕ) (x : Bool) (k : ℕ) → x ≡ false → o ≡ Some k → cond x (Some 0) (option_map suc o) ≡ Some (suc k)
  at_later o x k e f = ap₂ (λ b p. cond b (Some 0) (option_map suc p)) e f

  at_none : (o : Option ℕ) (x : Bool) → x ≡ false → o ≡ None → cond x (Some 0) (option_map suc o) ≡ None
  at_none o x e f = ap₂ (λ b p. cond b (Some 0) (option_map suc p)) e f

  false_true : (P : Type 0) (x y : Bool) → x ≡ false → y ≡ false → (x || y) ≡ true → P
  false_true P x y e f g = absurd (false≢true (sym (ap₂ (λ b c. b || c) e f) ∙ g))

  own_as : (op : Binary) (x y a j : Tree ℕ) (cs : List ReadCase) → binary op x y ≡ read_tree a j → place_of_read (binary op x y) ≡ None → first_site records (binary op x y) ≡ binary_site records op x y → read_cases records a j ≡ Some cs → IsFound (binary op x y) cs
  own_as Binary.Read x y a j cs is at first g =
      own x y cs at first (ap₂ (read_cases records) (read_inj_left Binary.Read x y a j is) (read_inj_right Binary.Read x y a j is) ∙ g)
  own_as Binary.Add x y a j cs is at first g = absurd (cc)
  own_as Binary.Sub x y a j cs is at first g = absurd (cc)
  own_as Binary.Mul x y a j cs is at first g = absurd (cc)
  own_as Binary.Div x y a j cs is at first g = absurd (cc)
  own_as Binary.Rem x y a j cs is at first g = absurd (cc)
  own_as Binary.And x y a j cs is at first g = absurd (cc)
  own_as Binary.Or x y a j cs is at first g = absurd (cc)
  own_as Binary.Imply x y a j cs is at first g = absurd (cc)
  own_as Binary.Eq x y a j cs is at first g = absurd (cc)
  own_as Binary.Lt x y a j cs is at first g = absurd (cc)
  own_as Binary.Le x y a j cs is at first g = absurd (cc)
  own_as Binary.Append x y a j cs is at first g = absurd (cc)

  same_listed : (l : Listed) (us ts : Trees ℕ) → head (listed l us) ≡ head (listed l ts)
  same_listed (sequence_of t) us ts = refl
  same_listed (record_of n) us ts = refl

  mutual
    -- The first read r = a(j), found part by part, with its cases.
    pub found_site : (t a j : Tree ℕ) (cs : List ReadCase) → has_read t ≡ true → IsFirstRead t (read_tree a j) → read_cases records a j ≡ Some cs → IsFound t cs
    found_site (literal z) a j cs h r g = absurd (false≢true h)
    found_site (truth_literal b) a j cs h r g = absurd (false≢true h)
    found_site (name n) a j cs h r g = absurd (false≢true h)
    found_site (bound n) a j cs h r g = absurd (false≢true h)
    found_site (unary op x) a j cs h r g =
        let e = at_first None (has_read x) h in
        let s = found_site x a j cs h (read_inside (unary op x) x (read_tree a j) 0 e refl r) g in
        around_part (unary op x) x 0 (unary op) cs e refl (λ q. refl) (λ q. refl) s (ap (site_within (unary op)) s.found)
    found_site (binary op x y) a j cs h r g =
        by_tests (λ e m. found_site x a j cs e m g) (λ e m. found_site y a j cs e m g) (λ at first is. own_as op x y a j cs is at first g) (has_read x) (has_read y) refl refl
      where
        t : Tree ℕ
        t = binary op x y

        by_tests : (has_read x ≡ true → IsFirstRead x (read_tree a j) → IsFound x cs) → (has_read y ≡ true → IsFirstRead y (read_tree a j) → IsFound y cs) →
            (place_of_read (binary op x y) ≡ None → first_site records (binary op x y) ≡ binary_site records op x y → binary op x y ≡ read_tree a j → IsFound (binary op x y) cs) →
            (b c : Bool) → has_read x ≡ b → has_read y ≡ c → IsFound (binary op x y) cs
        by_tests left right itself true c e f =
            let at = at_first (first_place has_read (y ∷ [])) (has_read x) e in
            let s = left e (read_inside t x (read_tree a j) 0 at refl r) in
            around_part t x 0 (λ v. binary op v y) cs at refl (λ q. refl) (λ q. refl) s
            (ap (λ o. first_of (site_within (λ v. binary op v y) o) (first_of (site_within (binary op x) (first_site records y)) (binary_site records op x y))) s.found)
        by_tests left right itself false true e f =
            let at = at_later (first_place has_read (y ∷ [])) (has_read x) 0 e (at_first None (has_read y) f) in
            let s = right f (read_inside t y (read_tree a j) 1 at refl r) in
            let none = no_site records x e in
            around_part t y 1 (binary op x) cs at refl (λ q. refl) (λ q. refl) s
            (λ i. first_of (site_within (λ v. binary op v y) (none i)) (first_of (site_within (binary op x) (s.found i)) (binary_site records op x y)))
        by_tests left right itself false false e f =
            let at = at_none (first_place has_read (y ∷ [])) (has_read x) e (at_none None (has_read y) f refl) in
            let is = read_here t (read_tree a j) at r in
            let none = no_site records x e in
            let none_either = no_site records y f in
            let first : first_site records t ≡ binary_site records op x y = λ i. first_of (site_within (λ v. binary op v y) (none i)) (first_of (site_within (binary op x) (none_either i)) (binary_site records op x y)) in
            itself at first is
    found_site (update x i y) a j cs h r g =
        by_tests (λ e m. found_site x a j cs e m g) (λ e m. found_site i a j cs e m g) (λ e m. found_site y a j cs e m g) (has_read x) (has_read i) (has_read y) refl refl refl
      where
        t : Tree ℕ
        t = update x i y

        by_tests : (has_read x ≡ true → IsFirstRead x (read_tree a j) → IsFound x cs) → (has_read i ≡ true → IsFirstRead i (read_tree a j) → IsFound i cs) → (has_read y ≡ true → IsFirstRead y (read_tree a j) → IsFound y cs) →
            (b c d : Bool) → has_read x ≡ b → has_read i ≡ c → has_read y ≡ d → IsFound (update x i y) cs
        by_tests first second third true c d e f k =
            let at = at_first (first_place has_read (i ∷ y ∷ [])) (has_read x) e in
            let s = first e (read_inside t x (read_tree a j) 0 at refl r) in
            around_part t x 0 (λ v. update v i y) cs at refl (λ q. refl) (λ q. refl) s
            (ap (λ o. first_of (site_within (λ v. update v i y) o) (first_of (site_within (λ v. update x v y) (first_site records i)) (site_within (update x i) (first_site records y)))) s.found)
        by_tests first second third false true d e f k =
            let at = at_later (first_place has_read (i ∷ y ∷ [])) (has_read x) 0 e (at_first (first_place has_read (y ∷ [])) (has_read i) f) in
            let s = second f (read_inside t i (read_tree a j) 1 at refl r) in
            let none = no_site records x e in
            around_part t i 1 (λ v. update x v y) cs at refl (λ q. refl) (λ q. refl) s
            (λ l. first_of (site_within (λ v. update v i y) (none l)) (first_of (site_within (λ v. update x v y) (s.found l)) (site_within (update x i) (first_site records y))))
        by_tests first second third false false true e f k =
            let at = at_later (first_place has_read (i ∷ y ∷ [])) (has_read x) 1 e (at_later (first_place has_read (y ∷ [])) (has_read i) 0 f (at_first None (has_read y) k)) in
            let s = third k (read_inside t y (read_tree a j) 2 at refl r) in
            let none = no_site records x e in
            let none_either = no_site records i f in
            around_part t y 2 (update x i) cs at refl (λ q. refl) (λ q. refl) s
            (λ l. first_of (site_within (λ v. update v i y) (none l)) (first_of (site_within (λ v. update x v y) (none_either l)) (site_within (update x i) (s.found l))))
        by_tests first second third false false false e f k = false_true (IsFound (update x i y) cs) (has_read x) (has_read i || has_read y) e (ap₂ (λ b c. b || c) f k) h
    found_site (quantified q x y body) a j cs h r g =
        by_tests (λ e m. found_site x a j cs e m g) (λ e m. found_site y a j cs e m g) (has_read x) (has_read y) refl refl
      where
        t : Tree ℕ
        t = quantified q x y body

        by_tests : (has_read x ≡ true → IsFirstRead x (read_tree a j) → IsFound x cs) → (has_read y ≡ true → IsFirstRead y (read_tree a j) → IsFound y cs) →
            (b c : Bool) → has_read x ≡ b → has_read y ≡ c → IsFound (quantified q x y body) cs
        by_tests left right true c e f =
            let at = at_first (first_place has_read (y ∷ [])) (has_read x) e in
            let s = left e (read_inside t x (read_tree a j) 0 at refl r) in
            around_part t x 0 (λ v. quantified q v y body) cs at refl (λ p. refl) (λ p. refl) s
            (ap (λ o. first_of (site_within (λ v. quantified q v y body) o) (site_within (λ v. quantified q x v body) (first_site records y))) s.found)
        by_tests left right false true e f =
            let at = at_later (first_place has_read (y ∷ [])) (has_read x) 0 e (at_first None (has_read y) f) in
            let s = right f (read_inside t y (read_tree a j) 1 at refl r) in
            let none = no_site records x e in
            around_part t y 1 (λ v. quantified q x v body) cs at refl (λ p. refl) (λ p. refl) s
            (λ l. first_of (site_within (λ v. quantified q v y body) (none l)) (site_within (λ v. quantified q x v body) (s.found l)))
        by_tests left right false false e f = false_true (IsFound (quantified q x y body) cs) (has_read x) (has_read y) e f h
    found_site (listed l ts) a j cs h r g =
        let s = found_in_list ts a j cs h (λ k p e i. read_inside (listed l ts) p (read_tree a j) k e i r) g in
        record {
          site = record { read = s.site.read; cases = s.site.cases; instead = λ v. listed l (s.site.instead v) };
          found = ap (listed_site (listed l)) s.found;
          cases = s.cases;
          instead = λ v u m. (
              let w = with_inside v (listed l ts) s.part u s.at s.place s.there m in
              same_by_parts (listed l (s.site.instead v)) u (same_listed l (s.site.instead v) ts ∙ sym w.heads)
              (s.instead v ∙ ap (set (tree_list ts) s.at) (s.below.instead v w.q w.there) ∙ sym w.parts_are));
        }

    found_in_list : (ts : Trees ℕ) (a j : Tree ℕ) (cs : List ReadCase) → some_has_read ts ≡ true → ((k : ℕ) (p : Tree ℕ) → first_place has_read (tree_list ts) ≡ Some k → slice_get (tree_list ts) k ≡ Some p → IsFirstRead p (read_tree a j)) →
        read_cases records a j ≡ Some cs → IsFoundInList ts cs
    found_in_list no_trees a j cs h r g = absurd (false≢true h)
    found_in_list (tree_then t ts) a j cs h r g =
        by_test (λ e m. found_site t a j cs e m g) (λ e m. found_in_list ts a j cs e m g) (has_read t) refl
      where
        by_test : (has_read t ≡ true → IsFirstRead t (read_tree a j) → IsFound t cs) →
            (some_has_read ts ≡ true → ((k : ℕ) (p : Tree ℕ) → first_place has_read (tree_list ts) ≡ Some k → slice_get (tree_list ts) k ≡ Some p → IsFirstRead p (read_tree a j)) → IsFoundInList ts cs) →
            (b : Bool) → has_read t ≡ b → IsFoundInList (tree_then t ts) cs
        by_test first later true e =
            let at = at_first (first_place has_read (tree_list ts)) (has_read t) e in
            let s = first e (r 0 t at refl) in
            record {
              site = record { read = s.site.read; cases = s.site.cases; instead = λ v. tree_then (s.site.instead v) ts };
              found = ap (λ o. first_in_list (site_in_first ts o) (site_in_rest t (first_site_of_list records ts))) s.found;
              cases = s.cases;
              at = 0;
              part = t;
              place = at;
              there = refl;
              below = s;
              instead = λ v. refl;
            }
        by_test first later false e =
            let rest : some_has_read ts ≡ true = ap (λ b. b || some_has_read ts) (sym e) ∙ h in
            let s = later rest (λ k p f i. r (suc k) p (at_later (first_place has_read (tree_list ts)) (has_read t) k e f) i) in
            let none = no_site records t e in
            record {
              site = record { read = s.site.read; cases = s.site.cases; instead = λ v. tree_then t (s.site.instead v) };
              found = λ i. first_in_list (site_in_first ts (none i)) (site_in_rest t (s.found i));
              cases = s.cases;
              at = suc s.at;
              part = s.part;
              place = at_later (first_place has_read (tree_list ts)) (has_read t) s.at e s.place;
              there = s.there;
              below = s.below;
              instead = λ v. ap (λ us. t ∷ us) (s.instead v);
            }
