-- A whole search: how it begins and how it ends; and the branches that a loop adds.
use Rattle.std.proofs.Common.{◌≡◌, ℕ, suc, ◌+◌, ◌-◌, ◌<◌, ◌≤◌, List, [], ◌∷◌, ◌++◌, map, reverse, drop, length, get_or, Option, Some, None, MatchOption, Result, Ok, Err, OnOk, refl, sym, ap, ap₂, ◌∙◌, subst, arith, append_assoc, length-append}
use Rattle.std.specs.List.{AllByRecursion, flat_map}
use Rattle.std.proofs.lemmas.List.{append-nil, length-map, map_push}
use Rattle.slang_values.specs.Value.{Records}
use Rattle.slang_values.specs.Tree.{Tree}
use Rattle.slang_values.specs.Typing.{NameTypes}
use Rattle.validity.specs.Validity.{IsWellSorted, symbol_types}
use Rattle.case_rules.specs.Cases.{cases, case_limit, hypotheses}
use Rattle.case_branches.specs.Branches.{Branch, cases_of_branch, cases_of_branches, AreClaims}
use Rattle.case_branches.proofs.Branches.{branch_laws}
use Rattle.term_sorts.specs.Types.{record_types, types_of}
use Rattle.term_nodes.specs.declared.node.Node.{Node}
use Rattle.term_store.specs.declared.sequent.IdSequent.{IdSequent}
use Rattle.term_store.specs.Store.{tree_at, AreWithin, AreTreesOf, Grows}
use Rattle.term_store.specs.Sequent.{sequent_at, IsSequentWithin}
use Rattle.term_store.proofs.Stores.{Grows-Grows}
use Rattle.store_reads.specs.declared.marks.Mark.{Mark}
use Rattle.store_reads.specs.Marks.{AreMarked}
use Rattle.store_cases.specs.declared.search.IdBranch.{IdBranch}
use Rattle.store_cases.specs.declared.search.Search.{Search}
use Rattle.store_cases.specs.Lists.{list_at, Extends, IsListAt}
use Rattle.store_cases.specs.Search.{trees_of_leaves, AreLeavesOf, branch_at, IsBranchWithin, IsSearch, cases_found, BeginsWith, AreBranchesFor, HasBranches, IsNextSearch}
use Rattle.store_cases.proofs.SharedLists.{drop_all, drop_back, extends_itself, extends_further, extends_length, list-extends, reverse-push, all_append, all_weaker, same_map}

-- ---- results

pub on_weaker : {X E : Type 0} (r : Result X E) (P Q : Type 0) → (P → Q) → OnOk r P → OnOk r Q
on_weaker (Ok x) P Q f h = f h
on_weaker (Err e) P Q f h = tt

-- ---- branches that a loop adds

pub no_branches : (s : Search) (literals rest : ℕ) (as' : List (List ℕ)) (n : ℕ) → n ≡ length as' → HasBranches s s literals rest (drop n as')
no_branches s literals rest as' n e = record {
  more = [];
  are = record {
    lists = extends_itself s.lists;
    open_branches = sym (append-nil s.open_branches);
    same_literals = tt;
    within = tt;
    are = ap (map (λ ks. ks ++ list_at s.lists rest)) (sym (drop_all as' n e));
  };
}

pub branch_more : (old mid new : Search) (literals rest count k : ℕ) (as' : List (List ℕ)) (d : List ℕ) → rest < length old.lists → HasBranches old mid literals rest (drop (length as' - count) as') → count < length as' → Extends mid.lists new.lists →
    IsListAt new.lists k (get_or as' (length as' - 1 - count) d ++ list_at mid.lists rest) → new.open_branches ≡ mid.open_branches ++ record { literals = literals; formulas = k } ∷ [] → HasBranches old new literals rest (drop (length as' - (count + 1)) as')
branch_more old mid new literals rest count k as' d l h within x place e =
    let b : IdBranch = record { literals = literals; formulas = k } in
    let F : List (List ℕ) → IdBranch → List ℕ = λ ls c. list_at ls c.formulas in
    let longer = extends_length mid.lists new.lists x in
    let same : map (F new.lists) h.more ≡ map (F mid.lists) h.more =
    same_map (F new.lists) (F mid.lists) h.more (all_weaker (λ (c : IdBranch). c.formulas < length mid.lists) (λ c. F new.lists c ≡ F mid.lists c) (λ c m. list-extends mid.lists new.lists c.formulas x m) h.more h.are.within) in
    let rest_same : list_at mid.lists rest ≡ list_at old.lists rest = list-extends old.lists mid.lists rest h.are.lists l in
    let first : F new.lists b ≡ get_or as' (length as' - 1 - count) d ++ list_at old.lists rest = place.is ∙ ap (λ ks. get_or as' (length as' - 1 - count) d ++ ks) rest_same in
    record {
      more = h.more ++ b ∷ [];
      are = record {
        lists = extends_further old.lists mid.lists new.lists h.are.lists x;
        open_branches = e ∙ ap (λ bs. bs ++ b ∷ []) h.are.open_branches ∙ append_assoc old.open_branches h.more (b ∷ []);
        same_literals = all_append (λ (c : IdBranch). c.literals ≡ literals) h.more (b ∷ []) h.are.same_literals (refl, tt);
        within = all_append (λ (c : IdBranch). c.formulas < length new.lists) h.more (b ∷ []) (all_weaker (λ (c : IdBranch). c.formulas < length mid.lists) (λ (c : IdBranch). c.formulas < length new.lists) (λ c m. omega arith) h.more h.are.within) (place.within, tt);
        are = ap reverse (map_push (F new.lists) h.more b) ∙ reverse-push (map (F new.lists) h.more) (F new.lists b) ∙ ap₂ (λ ks kss. ks ∷ reverse kss) first same ∙
            ap (λ kss. (get_or as' (length as' - 1 - count) d ++ list_at old.lists rest) ∷ kss) h.are.are ∙ ap (map (λ ks. ks ++ list_at old.lists rest)) (sym (drop_back as' count d within));
      };
    }

-- ---- a search for the cases of a sequent

-- what is known at each step
pub record IsSearchFor (start store : List Node) (s : IdSequent) (marks : List Mark) (search : Search) (found : List (List ℕ)) : Type 0 where
  pub grows : Grows start store
  pub marked : AreMarked store marks
  pub is_search : IsSearch (record_types s.records) (types_of s.sorts) store search.lists search.open_branches found
  pub whole : cases_found (record_types s.records) (types_of s.sorts) store search.lists search.open_branches found ≡ cases (sequent_at start s)

pub search_begins : (start store : List Node) (s : IdSequent) (marks : List Mark) (search : Search) (ks : List ℕ) → IsWellSorted (sequent_at start s) → Grows start store → AreMarked store marks → AreTreesOf store ks (hypotheses (sequent_at start s)) →
    BeginsWith search ks → IsSearchFor start store s marks search []
search_begins start store s marks search ks sorted g m h b =
    let records = record_types s.records in
    let types = types_of s.sorts in
    let sequent = sequent_at start s in
    let first : IdBranch = record { literals = 0; formulas = b.formulas } in
    let longer : 1 ≤ length search.lists = extends_length ([] ∷ []) search.lists b.lists in
    let nothing : list_at search.lists 0 ≡ [] = list-extends ([] ∷ []) search.lists 0 b.lists (omega arith) in
    let claims : AreClaims records types (hypotheses sequent) = branch_laws.hypotheses_are_claims sequent sorted in
    let trees : map (tree_at store) (list_at search.lists b.formulas) ≡ hypotheses sequent = ap (map (tree_at store)) b.place.is ∙ h.trees in
    let branch : branch_at store search.lists first ≡ record { literals = []; formulas = hypotheses sequent } = ap₂ (λ us vs. record { literals = reverse (map (tree_at store) us); formulas = vs }) nothing trees in
    let within : IsBranchWithin records types store search.lists first = record {
      literals = omega arith;
      formulas = b.place.within;
      found = subst (AreWithin store) (sym nothing) tt;
      left = subst (AreWithin store) (sym b.place.is) h.within;
      claims = subst (AreClaims records types) (sym trees) claims;
    } in
    record {
      grows = g;
      marked = m;
      is_search = record { leaves = tt; branches = subst (AllByRecursion (IsBranchWithin records types store search.lists)) (sym b.open_branches) (within, tt) };
      whole = ap (λ bs. cases_found records types store search.lists bs []) b.open_branches ∙ append-nil (cases_of_branch records types (branch_at store search.lists first)) ∙ ap (cases_of_branch records types) branch ∙ branch_laws.whole sequent;
    }

pub search_goes_on : (start old new : List Node) (s : IdSequent) (marks more_marks : List Mark) (before between after : Search) (b : IdBranch) (found more : List (List ℕ)) → IsSearchFor start old s marks before found → before.lists ≡ between.lists →
    before.open_branches ≡ between.open_branches ++ b ∷ [] → Grows old new → AreMarked new more_marks → IsNextSearch (record_types s.records) (types_of s.sorts) old new between after b found more → IsSearchFor start new s more_marks after more
search_goes_on start old new s marks more_marks before between after b found more h e f g m n = record {
  grows = Grows-Grows start old new h.grows g;
  marked = m;
  is_search = n.search;
  whole = n.same ∙ ap₂ (λ ls bs. cases_found (record_types s.records) (types_of s.sorts) old ls bs found) (sym e) (sym f) ∙ h.whole;
}

pub search_with : (start store : List Node) (s : IdSequent) (marks : List Mark) (before between : Search) (b : IdBranch) (found : List (List ℕ)) → IsSearchFor start store s marks before found → before.lists ≡ between.lists →
    before.open_branches ≡ between.open_branches ++ b ∷ [] → IsSearch (record_types s.records) (types_of s.sorts) store between.lists (between.open_branches ++ b ∷ []) found
search_with start store s marks before between b found h e f =
    subst (λ ls. IsSearch (record_types s.records) (types_of s.sorts) store ls (between.open_branches ++ b ∷ []) found) e
    (subst (λ bs. IsSearch (record_types s.records) (types_of s.sorts) store before.lists bs found) f h.is_search)

-- more were found than are allowed
pub too_many : (start store : List Node) (s : IdSequent) (marks : List Mark) (search : Search) (found : List (List ℕ)) → IsSearchFor start store s marks search found → case_limit < length found → case_limit < length (cases (sequent_at start s))
too_many start store s marks search found h l =
    let rest = cases_of_branches (record_types s.records) (types_of s.sorts) (reverse (map (branch_at store search.lists) search.open_branches)) in
    let trees = trees_of_leaves store found in
    let whole : length (trees ++ rest) ≡ length (cases (sequent_at start s)) = ap length h.whole in
    let parted : length (trees ++ rest) ≡ length trees + length rest = length-append trees rest in
    let many : length trees ≡ length found = length-map found (map (tree_at store)) in
    omega arith

-- nothing is left
pub all_found : (start store : List Node) (s : IdSequent) (marks : List Mark) (search : Search) (found : List (List ℕ)) → IsSearchFor start store s marks search found → length found ≤ case_limit → search.open_branches ≡ [] → AreLeavesOf store found (cases (sequent_at start s))
all_found start store s marks search found h l e = record {
  within = h.is_search.leaves;
  trees = sym (append-nil (trees_of_leaves store found)) ∙ ap (λ bs. cases_found (record_types s.records) (types_of s.sorts) store search.lists bs found) (sym e) ∙ h.whole;
  few = l;
}
