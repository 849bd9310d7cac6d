-- What follows for the claims of sequences, records, fields, quantifiers and applications.
use Rattle.std.proofs.Common.{◌≡◌, ℕ, ◌<◌, Bool, true, false, cond, nat_eq, List, [], ◌∷◌, ◌++◌, length, get_or, codes, bytes_eq, Option, Some, None, unwrap_or, pos, refl, sym, ap, ◌∙◌, subst}
use Rattle.std.specs.List.{list_all}
use Rattle.std.proofs.lemmas.Bool.{and_from, eqb-true, lt-ltb, false≢true, true_from_ne_false}
use Rattle.std.proofs.lemmas.List.Folds.{list_all_at}
use Rattle.slang_values.specs.Value.{ValueType, unit_type, number_type, truth_type, sequence_type, record_type, Records, fields, element_type, is_known, is_element_type}
use Rattle.slang_values.specs.Tree.{literal, unary, binary, update, quantified, listed, Trees, no_trees, tree_then, sequence_of, record_of}
use Rattle.slang_values.specs.Typing.{NameTypes, type_of, IsFieldType, IsTyped, AreTyped}
use Rattle.slang_values.specs.declared.operators.Unary.{Unary}
use Rattle.slang_values.specs.declared.operators.Binary.{Binary}
use Rattle.slang_values.specs.declared.operators.Quantifier.{Quantifier}
use Rattle.validity.proofs.TypeOf.{type_of_typed}
use Rattle.slang_tree.specs.declared.place.Place.{Place}
use Rattle.slang_tree.specs.declared.expression.Name.{Name}
use Rattle.slang_tree.specs.TypeTree.{TypeTree, z_name, b_name, unit_name, sequence_name, record_name}
use Rattle.slang_tree.specs.ExprTree.{ExprTree, ExprTrees, no_exprs, expr_then}
use Rattle.slang_tree.specs.ExprTree as e
use Rattle.program_trees.specs.Claims.{ClaimName, ClaimTree}
use Rattle.program_trees.specs.Variables.{Variable}
use Rattle.typed_programs.specs.Parts.{element_types, all_element_types}
use Rattle.type_rules.specs.Faults.{unknown_name, type_differs, argument_count, claim_word_out_of_place, unless}
use Rattle.type_rules.specs.Meanings.{Meaning, variable, bound_variable, block_variable, record_class, method, Field, Scope, meaning_among, meaning_of, field_types, fields_of}
use Rattle.type_rules.specs.Judged.{Judged, are_typed, known_type, over, expects, all_expect, expect_each, is_sequence}
use Rattle.type_rules.specs.TypeNames.{as_type, judged_element}
use Rattle.type_rules.specs.Expressions.{Context, index_faults, judged_read, judged_update, judged_elements, judged_listed, argument_faults, judged_record, judged_size, judged_found, field_named, judged_record_field, judged_field, word_faults, judged_quantified, judged_quantified_indices, Callee, a_value, a_record, a_method, callee_meant, callee, judged_application, written_elements}
use Rattle.typed_texts.specs.Claims.{field_place, selector, type_of_elements, first_claim, claim_applied}
use Rattle.claim_typing.proofs.Parts.{inside, none_is_some, one_is_none, both_nil, over-typed, first_typed, unless-nil, expected, cond_nil, sequence-is, found-field}
use Rattle.claim_typing.proofs.ClaimParts.{both_elements, Good, at, Typing, Goods, good_part, of_type, each-typed, are-typed, all_elements}

-- ---- heads of applications

abbrev callee_number : Callee → ℕ
callee_number a_value = 0
callee_number (a_record n) = n
callee_number (a_method signature modifies) = 0

pub meant-class : (m : Option Meaning) (n : ℕ) → callee_meant m ≡ a_record n → m ≡ Some (record_class n)
meant-class (Some (record_class k)) n h = ap (λ c. Some (record_class (callee_number c))) h
meant-class (Some (method number signature modifies)) n h = absurd (let k : a_method signature modifies ≡ a_record n = h in cc)
meant-class None n h = absurd (let k : a_value ≡ a_record n = h in cc)
meant-class (Some (variable x is_var type)) n h = absurd (let k : a_value ≡ a_record n = h in cc)
meant-class (Some (bound_variable depth)) n h = absurd (let k : a_value ≡ a_record n = h in cc)
meant-class (Some (block_variable label)) n h = absurd (let k : a_value ≡ a_record n = h in cc)

module _ (records : Records) (types : NameTypes (ClaimName Variable)) where
  -- ---- sequences and records

  index-good : (place : Place) (head : Judged) (claims : Trees (ClaimName Variable)) (parts : List Judged) → Goods records types claims parts →
      index_faults head parts place ≡ [] → Good records types (first_claim claims) number_type
  index-good place head no_trees [] g h = one_is_none h
  index-good place head no_trees (part ∷ parts) g h = absurd g
  index-good place head (tree_then claim claims) [] g h = absurd g
  index-good place head (tree_then claim claims) (part ∷ []) g h = of_type records types number_type part claim g.0 h
  index-good place head (tree_then claim claims) (part ∷ second ∷ parts) g h = one_is_none h

  sequence_good : (head : Judged) (a : ClaimTree Variable) → Good records types a (known_type head) → is_sequence (known_type head) ≡ true →
      Good records types a (sequence_type (element_type (known_type head)))
  sequence_good head a g h = at records types (sequence-is (known_type head) h) g

  read-good : (place : Place) (head : Judged) (a : ClaimTree Variable) (claims : Trees (ClaimName Variable)) (parts : List Judged) →
      Typing records types head a → (are_typed parts ≡ true → Goods records types claims parts) →
      Typing records types (judged_read place head parts) (binary Binary.Read a (first_claim claims))
  read-good place head a claims parts typing goods t h =
      let p = over-typed place (head ∷ parts)
      (cond (is_sequence (known_type head)) (index_faults head parts place) (type_differs place ∷ [])) (Some (element_type (known_type head))) t h in
      let own = cond_nil (is_sequence (known_type head)) (index_faults head parts place) [] (type_differs place) p.none in
      let s = sequence_good head a (good_part records types head parts a typing p.typed) own.0 in
      let i = index-good place head claims parts (goods (first_typed head parts p.typed).1) own.1 in
      at records types (inside p.same) (record {
        typed = (s.typed, i.typed);
        known = s.known;
        elements = both_elements (element_types a) (element_types (first_claim claims)) s.elements i.elements;
      })

  pub update-good : (place : Place) (head index element : Judged) (a i x : ClaimTree Variable) → Typing records types head a → Typing records types index i → Typing records types element x →
      Typing records types (judged_update place head index element) (update a i x)
  update-good place head index element a i x on_head on_index on_element t h =
      let p = over-typed place (head ∷ index ∷ element ∷ [])
      (cond (is_sequence (known_type head)) (expects number_type index ++ expects (element_type (known_type head)) element) (type_differs place ∷ []))
      head.type t h in
      let own = cond_nil (is_sequence (known_type head)) (expects number_type index ++ expects (element_type (known_type head)) element) []
      (type_differs place) p.none in
      let parts = both_nil (expects number_type index) (expects (element_type (known_type head)) element) own.1 in
      let rest = (first_typed head (index ∷ element ∷ []) p.typed).1 in
      let last = (first_typed index (element ∷ []) rest).1 in
      let on_x = good_part records types element [] x on_element last in
      let on_i = of_type records types number_type index i (good_part records types index (element ∷ []) i on_index rest) parts.0 in
      let g = good_part records types head (index ∷ element ∷ []) a on_head p.typed in
      let same : type_of records types x ≡ element_type (known_type head) =
      type_of_typed records types x (known_type element) on_x.typed ∙ sym (expected (element_type (known_type head)) element parts.1) in
      at records types (ap (λ o. unwrap_or o unit_type) p.same) (record {
        typed = (
          sequence-is (known_type head) own.0 ∙ ap sequence_type (sym same),
          g.typed,
          on_i.typed,
          subst (IsTyped records types x) (sym (type_of_typed records types x (known_type element) on_x.typed)) on_x.typed,
        );
        known = g.known;
        elements = both_elements (element_types a) (element_types i ++ element_types x) g.elements
            (both_elements (element_types i) (element_types x) on_i.elements on_x.elements);
      })

  elements-good : (place : Place) (claims : Trees (ClaimName Variable)) (parts : List Judged) → (are_typed parts ≡ true → Goods records types claims parts) →
      Typing records types (judged_elements place parts) (listed (sequence_of (type_of_elements [] parts)) claims)
  elements-good place claims [] goods t h = none_is_some h
  elements-good place no_trees (first ∷ others) goods t h =
      absurd (goods (over-typed place (first ∷ others) _ (Some (sequence_type (known_type first))) t h).typed)
  elements-good place (tree_then claim claims) (first ∷ others) goods t h =
      let own = cond (is_element_type (known_type first)) (all_expect (known_type first) others) (type_differs first.place ∷ []) in
      let p = over-typed place (first ∷ others) own (Some (sequence_type (known_type first))) t h in
      let c = cond_nil (is_element_type (known_type first)) (all_expect (known_type first) others) [] (type_differs first.place) p.none in
      let g = goods p.typed in
      at records types (inside p.same) (record {
        typed = (refl, g.0.known, (g.0.typed, each-typed records types claims others (known_type first) g.1 c.1));
        known = g.0.known;
        elements = both_elements (known_type first ∷ []) (all_element_types (tree_then claim claims))
            (and_from (is_element_type (known_type first)) true c.0 refl) (all_elements records types (tree_then claim claims) (first ∷ others) g);
      })

  -- a type that is known, and that the elements of a sequence may have
  abbrev IsElement : ValueType → Type 0
  IsElement t = (is_known records t ≡ true) × (is_element_type t ≡ true)

  written-good : (place : Place) (front : Judged) (claims : Trees (ClaimName Variable)) (parts : List Judged) →
      ((t : ValueType) → front.type ≡ Some t → IsElement t) → (are_typed parts ≡ true → Goods records types claims parts) →
      Typing records types (judged_listed place (front ∷ []) parts) (listed (sequence_of (type_of_elements (front ∷ []) parts)) claims)
  written-good place front claims parts known goods t h =
      let p = over-typed place (front ∷ parts) (all_expect (known_type front) parts) (Some (sequence_type (known_type front))) t h in
      let f = first_typed front parts p.typed in
      let k = known (known_type front) f.0 in
      at records types (inside p.same) (record {
        typed = (refl, k.0, each-typed records types claims parts (known_type front) (goods f.1) p.none);
        known = k.0;
        elements = both_elements (known_type front ∷ []) (all_element_types claims)
            (and_from (is_element_type (known_type front)) true k.1 refl) (all_elements records types claims parts (goods f.1));
      })

  record-good : (place : Place) (n : ℕ) (arguments : List Judged) (claims : Trees (ClaimName Variable)) (field_list : Option (List ValueType)) →
      field_list ≡ Some (fields records n) → n < length records → (are_typed arguments ≡ true → Goods records types claims arguments) →
      Typing records types (judged_record place n field_list arguments) (listed (record_of n) claims)
  record-good place n arguments claims None same there goods t h = none_is_some h
  record-good place n arguments claims (Some ts) same there goods t h =
      let p = over-typed place arguments (argument_faults place ts arguments) (Some (record_type n)) t h in
      let own = cond_nil (nat_eq (length ts) (length arguments)) (expect_each ts arguments) [] (argument_count place) p.none in
      let g = goods p.typed in
      let typed = are-typed records types claims arguments ts g (eqb-true (length ts) (length arguments) own.0) own.1 in
      at records types (inside p.same) (record {
        typed = (refl, there, subst (AreTyped records types claims) (ap (λ o. unwrap_or o []) same) typed);
        known = lt-ltb n (length records) there;
        elements = all_elements records types claims arguments g;
      })

  size_selected : (scope : Scope) (s : ValueType) (text : List ℕ) → is_sequence s ≡ true → Unary.Size ≡ selector scope s text
  size_selected scope (sequence_type s) text h = refl
  size_selected scope unit_type text h = refl
  size_selected scope number_type text h = refl
  size_selected scope truth_type text h = refl
  size_selected scope (record_type n) text h = absurd (false≢true h)

  size-typed : (head : Judged) (a : ClaimTree Variable) → Good records types a (known_type head) → is_sequence (known_type head) ≡ true →
      IsTyped records types a (sequence_type (element_type (type_of records types a)))
  size-typed head a g h =
      subst (λ s. IsTyped records types a (sequence_type (element_type s))) (sym (type_of_typed records types a (known_type head) g.typed))
      (sequence_good head a g h).typed

  size-good : (scope : Scope) (place : Place) (head : Judged) (a : ClaimTree Variable) (text : List ℕ) → Typing records types head a →
      Typing records types (judged_size place head) (unary (selector scope (known_type head) text) a)
  size-good scope place head a text typing t h =
      let p = over-typed place (head ∷ []) (unless (is_sequence (known_type head)) (type_differs place)) (Some number_type) t h in
      let s = unless-nil (is_sequence (known_type head)) (type_differs place) p.none in
      let g = good_part records types head [] a typing p.typed in
      at records types (inside p.same)
      (subst (λ op. Good records types (unary op a) number_type) (size_selected scope (known_type head) text s)
      (record { typed = (refl, size-typed head a g s); known = refl; elements = g.elements }))

  known_field : (n k : ℕ) → list_all (is_known records) (fields records n) ≡ true → k < length (fields records n) →
      is_known records (get_or (fields records n) k unit_type) ≡ true
  known_field n k all there =
      true_from_ne_false (is_known records (get_or (fields records n) k unit_type))
      (λ e. false≢true (sym (list_all_at (is_known records) (fields records n) k unit_type there e) ∙ all))

  found-good : (scope : Scope) (place word : Place) (head : Judged) (a : ClaimTree Variable) (text : List ℕ) (n : ℕ) (found : Option Field) →
      Typing records types head a → known_type head ≡ record_type n → field_types scope n ≡ Some (fields records n) →
      list_all (is_known records) (fields records n) ≡ true → field_named scope n text ≡ found →
      Typing records types (judged_found place head word found) (unary (Unary.Field (field_place scope n text)) a)
  found-good scope place word head a text n None typing same fits known e t h =
      none_is_some (over-typed place (head ∷ []) (unknown_name word ∷ []) None t h).same
  found-good scope place word head a text n (Some f) typing same fits known e t h =
      let p = over-typed place (head ∷ []) [] f.type t h in
      let g = at records types same (good_part records types head [] a typing p.typed) in
      let own = type_of_typed records types a (record_type n) g.typed in
      let k = found-field (λ other. bytes_eq other.text text) (fields_of scope n) (fields records n) f t fits e p.same in
      record {
        typed = (
          subst (λ s. IsFieldType records (field_place scope n text) s t) (sym own) (k.there, k.same),
          subst (IsTyped records types a) (sym own) g.typed,
        );
        known = subst (λ s. is_known records s ≡ true) (sym k.same) (known_field n (field_place scope n text) known k.there);
        elements = g.elements;
      }

  record_field-good : (scope : Scope) (place : Place) (head : Judged) (a : ClaimTree Variable) (written : Name) (s : ValueType) →
      ((n : ℕ) → field_types scope n ≡ Some (fields records n)) → ((n : ℕ) → list_all (is_known records) (fields records n) ≡ true) →
      Typing records types head a → known_type head ≡ s →
      Typing records types (judged_record_field scope place head written s) (unary (selector scope s written.text) a)
  record_field-good scope place head a written (record_type n) fits known typing same t h =
      found-good scope place written.place head a written.text n (field_named scope n written.text) typing same (fits n) (known n) refl t h
  record_field-good scope place head a written unit_type fits known typing same t h =
      none_is_some (over-typed place (head ∷ []) (type_differs place ∷ []) None t h).same
  record_field-good scope place head a written number_type fits known typing same t h =
      none_is_some (over-typed place (head ∷ []) (type_differs place ∷ []) None t h).same
  record_field-good scope place head a written truth_type fits known typing same t h =
      none_is_some (over-typed place (head ∷ []) (type_differs place ∷ []) None t h).same
  record_field-good scope place head a written (sequence_type s) fits known typing same t h =
      none_is_some (over-typed place (head ∷ []) (type_differs place ∷ []) None t h).same

  field_tested : (is_indices is_size : Bool) (scope : Scope) (place : Place) (head : Judged) (a : ClaimTree Variable) (written : Name) →
      ((n : ℕ) → field_types scope n ≡ Some (fields records n)) → ((n : ℕ) → list_all (is_known records) (fields records n) ≡ true) →
      Typing records types head a → (t : ValueType) →
      (cond is_indices (over place (head ∷ []) (claim_word_out_of_place written.place ∷ []) None)
      (cond is_size (judged_size place head) (judged_record_field scope place head written (known_type head)))).type ≡ Some t →
      Good records types (unary (selector scope (known_type head) written.text) a) t
  field_tested true is_size scope place head a written fits known typing t h =
      none_is_some (over-typed place (head ∷ []) (claim_word_out_of_place written.place ∷ []) None t h).same
  field_tested false true scope place head a written fits known typing t h = size-good scope place head a written.text typing t h
  field_tested false false scope place head a written fits known typing t h =
      record_field-good scope place head a written (known_type head) fits known typing refl t h

  pub field-good : (scope : Scope) (place : Place) (head : Judged) (a : ClaimTree Variable) (written : Name) →
      ((n : ℕ) → field_types scope n ≡ Some (fields records n)) → ((n : ℕ) → list_all (is_known records) (fields records n) ≡ true) →
      Typing records types head a → Typing records types (judged_field scope place head written) (unary (selector scope (known_type head) written.text) a)
  field-good scope place head a written fits known typing t h =
      field_tested (bytes_eq written.text (codes "indices")) (bytes_eq written.text (codes "size")) scope place head a written fits known typing t h

  -- ---- quantifiers

  pub quantified-good : (context : Context) (place : Place) (q : Quantifier) (low high named body : Judged) (a b c : ClaimTree Variable) →
      Typing records types low a → Typing records types high b → Typing records types body c → Typing records types (judged_quantified context place low high named body) (quantified q a b c)
  quantified-good context place q low high named body a b c on_low on_high on_body t h =
      let words = word_faults context place in
      let on_range = expects number_type low ++ expects number_type high in
      let p = over-typed place (low ∷ high ∷ named ∷ body ∷ []) (on_range ++ expects truth_type body ++ words) (Some truth_type) t h in
      let first = both_nil (on_range ++ expects truth_type body) words p.none in
      let third = both_nil on_range (expects truth_type body) first.0 in
      let range = both_nil (expects number_type low) (expects number_type high) third.0 in
      let behind_low = (first_typed low (high ∷ named ∷ body ∷ []) p.typed).1 in
      let behind_high = (first_typed high (named ∷ body ∷ []) behind_low).1 in
      let behind_name = (first_typed named (body ∷ []) behind_high).1 in
      let on_a = good_part records types low (high ∷ named ∷ body ∷ []) a on_low p.typed in
      let on_b = good_part records types high (named ∷ body ∷ []) b on_high behind_low in
      let on_c = good_part records types body [] c on_body behind_name in
      at records types (inside p.same) (record {
        typed = (
          refl,
          (of_type records types number_type low a on_a range.0).typed,
          (of_type records types number_type high b on_b range.1).typed,
          (of_type records types truth_type body c on_c third.1).typed,
        );
        known = refl;
        elements = both_elements (element_types a) (element_types b ++ element_types c) on_a.elements
            (both_elements (element_types b) (element_types c) on_b.elements on_c.elements);
      })

  pub indices-good : (context : Context) (place : Place) (q : Quantifier) (head named body : Judged) (a c : ClaimTree Variable) →
      Typing records types head a → Typing records types body c →
      Typing records types (judged_quantified_indices context place head named body) (quantified q (literal (pos 0)) (unary Unary.Size a) c)
  indices-good context place q head named body a c on_head on_body t h =
      let words = word_faults context place in
      let own = unless (is_sequence (known_type head)) (type_differs head.place) in
      let p = over-typed place (head ∷ named ∷ body ∷ []) (own ++ expects truth_type body ++ words) (Some truth_type) t h in
      let first = both_nil (own ++ expects truth_type body) words p.none in
      let second = both_nil own (expects truth_type body) first.0 in
      let behind_head = (first_typed head (named ∷ body ∷ []) p.typed).1 in
      let behind_name = (first_typed named (body ∷ []) behind_head).1 in
      let on_a = good_part records types head (named ∷ body ∷ []) a on_head p.typed in
      let on_c = good_part records types body [] c on_body behind_name in
      let s = unless-nil (is_sequence (known_type head)) (type_differs head.place) second.0 in
      at records types (inside p.same) (record {
        typed = (
          refl,
          refl,
          (refl, size-typed head a on_a s),
          (of_type records types truth_type body c on_c second.1).typed,
        );
        known = refl;
        elements = both_elements (element_types a) (element_types c) on_a.elements on_c.elements;
      })

  -- ---- applications

  class_there : (scope : Scope) (head : ExprTree) (n : ℕ) →
      ((text : List ℕ) (k : ℕ) → meaning_of scope text ≡ Some (record_class k) → k < length records) → callee scope head ≡ a_record n → n < length records
  class_there scope (e.name text place) n classes h = classes text n (meant-class (meaning_of scope text) n h)
  class_there scope other n classes h = absurd (let k : a_value ≡ a_record n = h in cc)

  pub applied-good : (scope : Scope) (context : Context) (place : Place) (head : ExprTree) (c : Callee) (on_head : Judged) (a : ClaimTree Variable)
      (claims : Trees (ClaimName Variable)) (arguments : List Judged) →
      ((text : List ℕ) (k : ℕ) → meaning_of scope text ≡ Some (record_class k) → k < length records) →
      ((n : ℕ) → field_types scope n ≡ Some (fields records n)) → callee scope head ≡ c → Typing records types on_head a →
      (are_typed arguments ≡ true → Goods records types claims arguments) →
      Typing records types (judged_application scope context place c on_head arguments) (claim_applied c a claims)
  applied-good scope context place head a_value on_head a claims arguments classes fits e typing goods t h =
      read-good place on_head a claims arguments typing goods t h
  applied-good scope context place head (a_record n) on_head a claims arguments classes fits e typing goods t h =
      record-good place n arguments claims (field_types scope n) (fits n) (class_there scope head n classes e) goods t h
  applied-good scope context place head (a_method None modifies) on_head a claims arguments classes fits e typing goods t h = none_is_some h
  applied-good scope context place head (a_method (Some signature) modifies) on_head a claims arguments classes fits e typing goods t h =
      none_is_some h

  -- ---- written types

  known_meant : (place : Place) (meaning : Option Meaning) → ((k : ℕ) → meaning ≡ Some (record_class k) → k < length records) →
      (t : ValueType) → (as_type place meaning).type ≡ Some t → IsElement t
  known_meant place (Some (record_class k)) classes t h =
      subst (λ s. IsElement s) (inside h) (lt-ltb k (length records) (classes k refl), refl)
  known_meant place None classes t h = none_is_some h
  known_meant place (Some (variable x is_var type)) classes t h = none_is_some h
  known_meant place (Some (bound_variable depth)) classes t h = none_is_some h
  known_meant place (Some (block_variable label)) classes t h = none_is_some h
  known_meant place (Some (method n signature modifies)) classes t h = none_is_some h

  known_written : (scope : Scope) → ((text : List ℕ) (k : ℕ) → meaning_of scope text ≡ Some (record_class k) → k < length records) →
      (ty : TypeTree) (t : ValueType) → (judged_element scope.names ty).type ≡ Some t → IsElement t
  known_written scope classes (z_name place) t h = subst (λ s. IsElement s) (inside h) (refl, refl)
  known_written scope classes (b_name place) t h = subst (λ s. IsElement s) (inside h) (refl, refl)
  known_written scope classes (unit_name place) t h = none_is_some h
  known_written scope classes (sequence_name place element) t h = none_is_some h
  known_written scope classes (record_name written) t h =
      known_meant written.place (meaning_among scope.names written.text) (λ k. classes written.text k) t h

  pub listed-good : (scope : Scope) → ((text : List ℕ) (k : ℕ) → meaning_of scope text ≡ Some (record_class k) → k < length records) →
      (place : Place) (ty : Option TypeTree) (claims : Trees (ClaimName Variable)) (parts : List Judged) → (are_typed parts ≡ true → Goods records types claims parts) →
      Typing records types (judged_listed place (written_elements scope ty) parts) (listed (sequence_of (type_of_elements (written_elements scope ty) parts)) claims)
  listed-good scope classes place None claims parts goods t h = elements-good place claims parts goods t h
  listed-good scope classes place (Some ty) claims parts goods t h =
      written-good place (judged_element scope.names ty) claims parts (known_written scope classes ty) goods t h
