-- A branch has the cases of what it is taken apart into.
use Rattle.std.proofs.Common.{◌≡◌, ℕ, ◌<◌, ◌≤◌, ◌+◌, List, [], ◌∷◌, ◌++◌, map, reverse, length, Option, Some, None, refl, sym, ap, ap₂, ◌∙◌, subst, arith, append_assoc, length-append}
use Rattle.std.specs.List.{AllByRecursion, flat_map}
use Rattle.std.proofs.lemmas.List.{append-nil, map-append, map_push, reverse-append, length-map}
use Rattle.std.proofs.lemmas.Grind.{flat_map-append}
use Rattle.slang_values.specs.Value.{truth_type, Records, AreWellFormed}
use Rattle.slang_values.specs.Tree.{Tree}
use Rattle.slang_values.specs.Typing.{NameTypes, IsTyped}
use Rattle.read_rules.specs.Reduced.{reduced}
use Rattle.case_rules.specs.Cases.{Alternatives, alternatives}
use Rattle.case_branches.specs.Branches.{Branch, cases_of_branch, cases_of_branches, branches_of, AreClaims}
use Rattle.case_branches.specs.Laws.{AreTakenApart}
use Rattle.case_branches.proofs.Branches.{branch_laws, taken_apart_laws}
use Rattle.term_nodes.specs.declared.node.Node.{Node}
use Rattle.term_store.specs.Store.{tree_at, Holds, AreWithin, Grows}
use Rattle.term_store.proofs.Gains.{trees-grow}
use Rattle.term_store.proofs.Stores.{Grows-length, Holds-within, tree_at-Holds}
use Rattle.store_alternatives.specs.Numbers.{AreAlternativesAt, AreFoundAt, lists_at}
use Rattle.store_alternatives.proofs.Numbers.{within-grows}
use Rattle.store_alternatives.proofs.AlternativeLists.{lists-grow, lists_within-grows}
use Rattle.store_cases.specs.declared.search.IdBranch.{IdBranch}
use Rattle.store_cases.specs.declared.search.Search.{Search}
use Rattle.store_cases.specs.declared.splitting.Apart.{Apart}
use Rattle.store_cases.specs.Lists.{list_at, Extends, IsListAt, IsCellOf}
use Rattle.store_cases.specs.Search.{trees_of_leaves, branch_at, IsBranchWithin, IsSearch, cases_found, HasLiteral, AreBranchesFor, HasBranches, IsFurther, IsTakenApart, IsNextSearch}
use Rattle.store_cases.proofs.SharedLists.{extends_push, extends_length, list-extends, list-push, reverse-cons, reverse-push, map-reverse, all_append, all_reverse, all_from_reverse, all_from_map, all_map, all_weaker, all_both, same_map, map_map}

some_same : {X : Type 0} (x y : X) → Some x ≡ Some y → x ≡ y
some_same x y e = cc

module _ (records : Records) (types : NameTypes ℕ) where
  -- ---- growing stores and lists

  branch-grows : (old new : List Node) (ls ms : List (List ℕ)) (b : IdBranch) → Grows old new → Extends ls ms → IsBranchWithin records types old ls b → branch_at new ms b ≡ branch_at old ls b
  branch-grows old new ls ms b g x h =
      let literals : map (tree_at new) (list_at ms b.literals) ≡ map (tree_at old) (list_at ls b.literals) =
      ap (map (tree_at new)) (list-extends ls ms b.literals x h.literals) ∙ trees-grow old new (list_at ls b.literals) g h.found in
      let formulas : map (tree_at new) (list_at ms b.formulas) ≡ map (tree_at old) (list_at ls b.formulas) =
      ap (map (tree_at new)) (list-extends ls ms b.formulas x h.formulas) ∙ trees-grow old new (list_at ls b.formulas) g h.left in
      ap₂ (λ t u. record { literals = reverse t; formulas = u }) literals formulas

  branch_within-grows : (old new : List Node) (ls ms : List (List ℕ)) (b : IdBranch) → Grows old new → Extends ls ms → IsBranchWithin records types old ls b → IsBranchWithin records types new ms b
  branch_within-grows old new ls ms b g x h =
      let literals = list-extends ls ms b.literals x h.literals in
      let formulas = list-extends ls ms b.formulas x h.formulas in
      let longer = extends_length ls ms x in
      let first = h.literals in
      let second = h.formulas in
      record {
        literals = omega arith;
        formulas = omega arith;
        found = subst (AreWithin new) (sym literals) (within-grows old new (list_at ls b.literals) g h.found);
        left = subst (AreWithin new) (sym formulas) (within-grows old new (list_at ls b.formulas) g h.left);
        claims = subst (AreClaims records types) (sym (ap (λ (c : Branch). c.formulas) (branch-grows old new ls ms b g x h))) h.claims;
      }

  branches-grow : (old new : List Node) (ls ms : List (List ℕ)) (bs : List IdBranch) → Grows old new → Extends ls ms → AllByRecursion (IsBranchWithin records types old ls) bs → map (branch_at new ms) bs ≡ map (branch_at old ls) bs
  branches-grow old new ls ms bs g x h =
      same_map (branch_at new ms) (branch_at old ls) bs (all_weaker (IsBranchWithin records types old ls) (λ b. branch_at new ms b ≡ branch_at old ls b) (λ b w. branch-grows old new ls ms b g x w) bs h)

  -- ---- other branches in the place of the last one

  all_front : {X : Type 0} (P : X → Type 0) (xs ys : List X) → AllByRecursion P (xs ++ ys) → AllByRecursion P xs
  all_front P [] ys h = tt
  all_front P (x ∷ xs) ys h = (h.0, all_front P xs ys h.1)

  all_last : {X : Type 0} (P : X → Type 0) (xs : List X) (y : X) → AllByRecursion P (xs ++ y ∷ []) → P y
  all_last P [] y h = h.0
  all_last P (x ∷ xs) y h = all_last P xs y h.1

  pub front_within : (store : List Node) (ls : List (List ℕ)) (bs : List IdBranch) (b : IdBranch) → AllByRecursion (IsBranchWithin records types store ls) (bs ++ b ∷ []) → AllByRecursion (IsBranchWithin records types store ls) bs
  front_within store ls bs b h = all_front (IsBranchWithin records types store ls) bs (b ∷ []) h

  pub last_within : (store : List Node) (ls : List (List ℕ)) (bs : List IdBranch) (b : IdBranch) → AllByRecursion (IsBranchWithin records types store ls) (bs ++ b ∷ []) → IsBranchWithin records types store ls b
  last_within store ls bs b h = all_last (IsBranchWithin records types store ls) bs b h

  abbrev cases_of : List Branch → List (List (Tree ℕ))
  cases_of bs = cases_of_branches records types bs

  last_first : (store : List Node) (ls : List (List ℕ)) (bs : List IdBranch) (b : IdBranch) → cases_of (reverse (map (branch_at store ls) (bs ++ b ∷ []))) ≡ cases_of_branch records types (branch_at store ls b) ++ cases_of (reverse (map (branch_at store ls) bs))
  last_first store ls bs b = ap cases_of (ap reverse (map_push (branch_at store ls) bs b) ∙ reverse-push (map (branch_at store ls) bs) (branch_at store ls b))

  -- others that have its cases, in a store and in lists that grow
  others : (old new : List Node) (ls ms : List (List ℕ)) (bs more : List IdBranch) (b : IdBranch) (found : List (List ℕ)) → Grows old new → Extends ls ms → AllByRecursion (AreWithin old) found → AllByRecursion (IsBranchWithin records types old ls) bs →
      cases_of (reverse (map (branch_at new ms) more)) ≡ cases_of_branch records types (branch_at old ls b) →
      cases_found records types new ms (bs ++ more) found ≡ cases_found records types old ls (bs ++ b ∷ []) found
  others old new ls ms bs more b found g x leaves within e =
      let B = branch_at new ms in
      let parted : cases_of (reverse (map B (bs ++ more))) ≡ cases_of (reverse (map B more)) ++ cases_of (reverse (map B bs)) =
      ap cases_of (ap reverse (map-append B bs more) ∙ reverse-append (map B bs) (map B more)) ∙ flat_map-append (cases_of_branch records types) (reverse (map B more)) (reverse (map B bs)) in
      let same : cases_of (reverse (map B bs)) ≡ cases_of (reverse (map (branch_at old ls) bs)) = ap (λ cs. cases_of (reverse cs)) (branches-grow old new ls ms bs g x within) in
      ap₂ (λ cs ds. cs ++ ds) (lists-grow old new found g leaves) (parted ∙ ap₂ (λ cs ds. cs ++ ds) e same ∙ sym (last_first old ls bs b))

  -- the first formula of the last branch
  pub next_formula : (store : List Node) (ls : List (List ℕ)) (bs : List IdBranch) (b : IdBranch) (first rest : ℕ) → AllByRecursion (IsBranchWithin records types store ls) (bs ++ b ∷ []) → list_at ls b.formulas ≡ first ∷ list_at ls rest →
      (first < length store) × IsTyped records types (tree_at store first) truth_type
  next_formula store ls bs b first rest h is =
      let w = last_within store ls bs b h in
      let within : AreWithin store (first ∷ list_at ls rest) = subst (AreWithin store) is w.left in
      let claims : AreClaims records types (map (tree_at store) (first ∷ list_at ls rest)) = subst (λ ks. AreClaims records types (map (tree_at store) ks)) is w.claims in
      (within.0, claims.0)

  -- ---- a branch in which nothing is left

  pub leaf_found : (store : List Node) (ls : List (List ℕ)) (bs : List IdBranch) (b : IdBranch) (found : List (List ℕ)) (ks : List ℕ) → list_at ls b.formulas ≡ [] → ks ≡ reverse (list_at ls b.literals) →
      cases_found records types store ls bs (found ++ ks ∷ []) ≡ cases_found records types store ls (bs ++ b ∷ []) found
  leaf_found store ls bs b found ks none is =
      let rest = cases_of (reverse (map (branch_at store ls) bs)) in
      let literals = reverse (map (tree_at store) (list_at ls b.literals)) in
      let here : cases_of_branch records types (branch_at store ls b) ≡ literals ∷ [] =
      ap (λ xs. cases_of_branch records types (record { literals = literals; formulas = map (tree_at store) xs })) none ∙ branch_laws.leaf records types literals in
      let leaf : map (tree_at store) ks ≡ literals = ap (map (tree_at store)) is ∙ map-reverse (tree_at store) (list_at ls b.literals) in
      ap (λ cs. cs ++ rest) (map_push (map (tree_at store)) found ks ∙ ap (λ c. map (map (tree_at store)) found ++ c ∷ []) leaf) ∙
      append_assoc (map (map (tree_at store)) found) (literals ∷ []) rest ∙
      ap (λ cs. map (map (tree_at store)) found ++ cs) (ap (λ cs. cs ++ rest) (sym here) ∙ sym (last_first store ls bs b))

  pub leaf_search : (store : List Node) (old : Search) (b : IdBranch) (found leaves : List (List ℕ)) → IsSearch records types store old.lists (old.open_branches ++ b ∷ []) found → list_at old.lists b.formulas ≡ [] →
      leaves ≡ found ++ reverse (list_at old.lists b.literals) ∷ [] → IsNextSearch records types store store old old b found leaves
  leaf_search store old b found leaves h none e =
      let ks = reverse (list_at old.lists b.literals) in
      let w = last_within store old.lists old.open_branches b h.branches in
      let within : AreWithin store ks = all_reverse (λ k. k < length store) (list_at old.lists b.literals) w.found in
      subst (λ it. IsNextSearch records types store store old old b found it) (sym e) (record {
        search = record { leaves = all_append (AreWithin store) found (ks ∷ []) h.leaves (within, tt); branches = front_within store old.lists old.open_branches b h.branches };
        same = leaf_found store old.lists old.open_branches b found ks none refl;
      })

  -- ---- a branch that is taken apart

  module _ (fine : AreWellFormed records) where
    apart : AreTakenApart records types
    apart = taken_apart_laws records fine types

    -- its first formula is a literal
    literal_next : (old new : List Node) (s r : Search) (b : IdBranch) (found : List (List ℕ)) (first rest id : ℕ) → Grows old new → IsSearch records types old s.lists (s.open_branches ++ b ∷ []) found →
        list_at s.lists b.formulas ≡ first ∷ list_at s.lists rest → rest < b.formulas → Holds new id (reduced (tree_at old first)) → None ≡ alternatives records types (reduced (tree_at old first)) → HasLiteral s r b.literals id rest →
        IsNextSearch records types old new s r b found found
    literal_next old new s r b found first rest id g h is before held none made =
        let w = last_within old s.lists s.open_branches b h.branches in
        let front = front_within old s.lists s.open_branches b h.branches in
        let c : IdBranch = record { literals = length s.lists; formulas = rest } in
        let x = extends_push s.lists r.lists (id ∷ list_at s.lists b.literals) made.lists in
        let longer = extends_length s.lists r.lists x in
        let rest_within : rest < length s.lists = (let m = w.formulas in omega arith) in
        let place = list-push s.lists r.lists (id ∷ list_at s.lists b.literals) made.lists in
        let behind : list_at r.lists rest ≡ list_at s.lists rest = list-extends s.lists r.lists rest x rest_within in
        let formulas_within : AreWithin old (first ∷ list_at s.lists rest) = subst (AreWithin old) is w.left in
        let claims : AreClaims records types (map (tree_at old) (first ∷ list_at s.lists rest)) = subst (λ ks. AreClaims records types (map (tree_at old) ks)) is w.claims in
        let ts = map (tree_at old) (list_at s.lists rest) in
        let ls = reverse (map (tree_at old) (list_at s.lists b.literals)) in
        let t = tree_at old first in
        let literals_are : reverse (map (tree_at new) (list_at r.lists (length s.lists))) ≡ ls ++ reduced t ∷ [] =
        ap (λ ks. reverse (map (tree_at new) ks)) place.is ∙ reverse-cons (tree_at new id) (map (tree_at new) (list_at s.lists b.literals)) ∙
        ap₂ (λ us u. reverse us ++ u ∷ []) (trees-grow old new (list_at s.lists b.literals) g w.found) (tree_at-Holds new id (reduced t) held) in
        let formulas_are : map (tree_at new) (list_at r.lists rest) ≡ ts = ap (map (tree_at new)) behind ∙ trees-grow old new (list_at s.lists rest) g formulas_within.1 in
        let branch_is : branch_at new r.lists c ≡ record { literals = ls ++ reduced t ∷ []; formulas = ts } = ap₂ (λ us vs. record { literals = us; formulas = vs }) literals_are formulas_are in
        let law = apart.literal ls ts t claims.0 (sym none) in
        let was : branch_at old s.lists b ≡ record { literals = ls; formulas = t ∷ ts } = ap (λ ks. record { literals = ls; formulas = map (tree_at old) ks }) is in
        let same : cases_of (reverse (map (branch_at new r.lists) (c ∷ []))) ≡ cases_of_branch records types (branch_at old s.lists b) =
        append-nil (cases_of_branch records types (branch_at new r.lists c)) ∙ ap (cases_of_branch records types) branch_is ∙ sym law ∙ ap (cases_of_branch records types) (sym was) in
        let new_branch : IsBranchWithin records types new r.lists c = record {
          literals = place.within;
          formulas = omega arith;
          found = subst (AreWithin new) (sym place.is) (Holds-within new id (reduced t) held, within-grows old new (list_at s.lists b.literals) g w.found);
          left = subst (AreWithin new) (sym behind) (within-grows old new (list_at s.lists rest) g formulas_within.1);
          claims = subst (AreClaims records types) (sym formulas_are) claims.1;
        } in
        let grown = all_weaker (IsBranchWithin records types old s.lists) (IsBranchWithin records types new r.lists) (λ d v. branch_within-grows old new s.lists r.lists d g x v) s.open_branches front in
        record {
          search = record {
            leaves = lists_within-grows old new found g h.leaves;
            branches = subst (AllByRecursion (IsBranchWithin records types new r.lists)) (sym made.open_branches) (all_append (IsBranchWithin records types new r.lists) s.open_branches (c ∷ []) grown (new_branch, tt));
          };
          same = ap (λ bs. cases_found records types new r.lists bs found) made.open_branches ∙ others old new s.lists r.lists s.open_branches (c ∷ []) b found g x h.leaves front same;
        }

    -- one branch for each alternative
    split_next : (old new : List Node) (s r : Search) (b : IdBranch) (found : List (List ℕ)) (first rest : ℕ) (as' : List (List ℕ)) (more : List IdBranch) → Grows old new → IsSearch records types old s.lists (s.open_branches ++ b ∷ []) found →
        list_at s.lists b.formulas ≡ first ∷ list_at s.lists rest → rest < b.formulas → AreAlternativesAt new as' (alternatives records types (reduced (tree_at old first))) → AreBranchesFor s r b.literals rest as' more →
        IsNextSearch records types old new s r b found found
    split_next old new s r b found first rest as' more g h is before alts made =
        let w = last_within old s.lists s.open_branches b h.branches in
        let front = front_within old s.lists s.open_branches b h.branches in
        let x = made.lists in
        let longer = extends_length s.lists r.lists x in
        let rest_within : rest < length s.lists = (let m = w.formulas in omega arith) in
        let formulas_within : AreWithin old (first ∷ list_at s.lists rest) = subst (AreWithin old) is w.left in
        let claims : AreClaims records types (map (tree_at old) (first ∷ list_at s.lists rest)) = subst (λ ks. AreClaims records types (map (tree_at old) ks)) is w.claims in
        let rest_trees : map (tree_at new) (list_at s.lists rest) ≡ map (tree_at old) (list_at s.lists rest) = trees-grow old new (list_at s.lists rest) g formulas_within.1 in
        let literals_are : map (tree_at new) (list_at s.lists b.literals) ≡ map (tree_at old) (list_at s.lists b.literals) = trees-grow old new (list_at s.lists b.literals) g w.found in
        let there : list_at r.lists b.literals ≡ list_at s.lists b.literals = list-extends s.lists r.lists b.literals x w.literals in
        let ts = map (tree_at old) (list_at s.lists rest) in
        let ls = reverse (map (tree_at old) (list_at s.lists b.literals)) in
        let t = tree_at old first in
        let trees = lists_at new as' in
        let law = apart.split ls ts t trees claims.0 (sym alts.trees) in
        let their_claims = apart.claims t trees claims.0 (sym alts.trees) in
        let was : branch_at old s.lists b ≡ record { literals = ls; formulas = t ∷ ts } = ap (λ ks. record { literals = ls; formulas = map (tree_at old) ks }) is in
        let F : IdBranch → List ℕ = λ c. list_at r.lists c.formulas in
        let G : List ℕ → Branch = λ ks. record { literals = ls; formulas = map (tree_at new) ks } in
        let branches_are : map (branch_at new r.lists) more ≡ map G (map F more) =
        same_map (branch_at new r.lists) (λ c. G (F c)) more
        (all_weaker (λ (c : IdBranch). c.literals ≡ b.literals) (λ c. branch_at new r.lists c ≡ G (F c))
        (λ c e. ap (λ us. record { literals = us; formulas = map (tree_at new) (F c) }) (ap (λ k. reverse (map (tree_at new) (list_at r.lists k))) e ∙ ap (λ ks. reverse (map (tree_at new) ks)) there ∙ ap reverse literals_are)) more made.same_literals) ∙
        sym (map_map G F more) in
        let each_is : (ks : List ℕ) → G (ks ++ list_at s.lists rest) ≡ record { literals = ls; formulas = map (tree_at new) ks ++ ts } =
        λ ks. ap (λ us. record { literals = ls; formulas = us }) (map-append (tree_at new) ks (list_at s.lists rest) ∙ ap (λ us. map (tree_at new) ks ++ us) rest_trees) in
        let alternatives_are : reverse (map (branch_at new r.lists) more) ≡ branches_of ls ts trees =
        ap reverse branches_are ∙ sym (map-reverse G (map F more)) ∙ ap (map G) made.are ∙ map_map G (λ ks. ks ++ list_at s.lists rest) as' ∙
        same_each (λ ks. G (ks ++ list_at s.lists rest)) (λ ks. record { literals = ls; formulas = map (tree_at new) ks ++ ts }) each_is as' ∙
        sym (map_map (λ us. record { literals = ls; formulas = us ++ ts }) (map (tree_at new)) as') in
        let same : cases_of (reverse (map (branch_at new r.lists) more)) ≡ cases_of_branch records types (branch_at old s.lists b) =
        ap cases_of alternatives_are ∙ sym law ∙ ap (cases_of_branch records types) (sym was) in
        let P : List ℕ → Type 0 = λ ks. AreWithin new ks × AreClaims records types (map (tree_at new) ks) in
        let each_fits : AllByRecursion P (map (λ ks. ks ++ list_at s.lists rest) as') =
        all_map P (λ ks. ks ++ list_at s.lists rest) as'
        (all_weaker (λ ks. AreWithin new ks × AreClaims records types (map (tree_at new) ks)) (λ ks. P (ks ++ list_at s.lists rest))
        (λ ks v. (
          all_append (λ k. k < length new) ks (list_at s.lists rest) v.0 (within-grows old new (list_at s.lists rest) g formulas_within.1),
          subst (AreClaims records types) (sym (map-append (tree_at new) ks (list_at s.lists rest) ∙ ap (λ us. map (tree_at new) ks ++ us) rest_trees)) (all_append (λ u. IsTyped records types u truth_type) (map (tree_at new) ks) ts v.1 claims.1),
        )) as' (all_both (AreWithin new) (λ ks. AreClaims records types (map (tree_at new) ks)) as' alts.within (all_from_map (AreClaims records types) (map (tree_at new)) as' their_claims))) in
        let fits : AllByRecursion (λ c. P (F c)) more = all_from_map P F more (all_from_reverse P (map F more) (subst (AllByRecursion P) (sym made.are) each_fits)) in
        let literals_fit : AllByRecursion (λ (c : IdBranch). (c.literals ≡ b.literals) × (c.formulas < length r.lists)) more = all_both (λ (c : IdBranch). c.literals ≡ b.literals) (λ (c : IdBranch). c.formulas < length r.lists) more made.same_literals made.within in
        let branches_within : AllByRecursion (IsBranchWithin records types new r.lists) more =
        all_weaker (λ (c : IdBranch). ((c.literals ≡ b.literals) × (c.formulas < length r.lists)) × P (F c)) (IsBranchWithin records types new r.lists)
        (λ c v. record {
          literals = (let e = v.0.0 in let l = w.literals in omega arith);
          formulas = v.0.1;
          found = subst (λ k. AreWithin new (list_at r.lists k)) (sym v.0.0) (subst (AreWithin new) (sym there) (within-grows old new (list_at s.lists b.literals) g w.found));
          left = v.1.0;
          claims = v.1.1;
        }) more (all_both (λ (c : IdBranch). (c.literals ≡ b.literals) × (c.formulas < length r.lists)) (λ c. P (F c)) more literals_fit fits) in
        let grown = all_weaker (IsBranchWithin records types old s.lists) (IsBranchWithin records types new r.lists) (λ d v. branch_within-grows old new s.lists r.lists d g x v) s.open_branches front in
        record {
          search = record {
            leaves = lists_within-grows old new found g h.leaves;
            branches = subst (AllByRecursion (IsBranchWithin records types new r.lists)) (sym made.open_branches) (all_append (IsBranchWithin records types new r.lists) s.open_branches more grown branches_within);
          };
          same = ap (λ bs. cases_found records types new r.lists bs found) made.open_branches ∙ others old new s.lists r.lists s.open_branches more b found g x h.leaves front same;
        }
      where
        same_each : {X Y : Type 0} (f e : X → Y) → ((y : X) → f y ≡ e y) → (ys : List X) → map f ys ≡ map e ys
        same_each f e k [] = refl
        same_each f e k (y ∷ ys) = ap₂ (λ u v. u ∷ v) (k y) (same_each f e k ys)

    pub further : (old new : List Node) (s r : Search) (b : IdBranch) (found : List (List ℕ)) (first rest id : ℕ) (o : Option (List (List ℕ))) → Grows old new → IsSearch records types old s.lists (s.open_branches ++ b ∷ []) found →
        list_at s.lists b.formulas ≡ first ∷ list_at s.lists rest → rest < b.formulas → Holds new id (reduced (tree_at old first)) → AreFoundAt new o (alternatives records types (reduced (tree_at old first))) → IsFurther s r b.literals id rest o →
        IsNextSearch records types old new s r b found found
    further old new s r b found first rest id None g h is before held alts made = literal_next old new s r b found first rest id g h is before held alts made
    further old new s r b found first rest id (Some as') g h is before held alts made = split_next old new s r b found first rest as' made.more g h is before alts made.are
