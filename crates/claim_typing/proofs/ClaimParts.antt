-- Claims that are well typed, and what follows for names, words of claims and operators.
use Rattle.std.proofs.Common.{◌≡◌, ℕ, Bool, true, List, [], ◌∷◌, ◌++◌, length, Option, Some, None, refl, sym, ap, ◌∙◌, subst, arith}
use Rattle.std.specs.List.{list_all}
use Rattle.std.proofs.lemmas.Bool.{and_from}
use Rattle.std.proofs.lemmas.List.Folds.{list_all-append}
use Rattle.slang_values.specs.Value.{ValueType, unit_type, number_type, truth_type, sequence_type, record_type, Records, element_type, is_known, is_element_type}
use Rattle.slang_values.specs.Tree.{unary, binary, Trees, no_trees, tree_then}
use Rattle.slang_values.specs.Typing.{NameTypes, type_of, IsTyped, EachIsTyped, AreTyped}
use Rattle.slang_values.specs.declared.operators.Unary.{Unary}
use Rattle.slang_values.specs.declared.operators.Binary.{Binary}
use Rattle.validity.proofs.TypeOf.{type_of_typed}
use Rattle.slang_tree.specs.declared.place.Place.{Place}
use Rattle.slang_tree.specs.declared.expression.Operator.{Operator}
use Rattle.slang_tree.specs.declared.expression.Operator.TheVariants as o
use Rattle.program_trees.specs.Operators.{connective, connected}
use Rattle.program_trees.specs.Claims.{ClaimName, old_variable, let_symbol, ClaimTree, variable_claim}
use Rattle.program_trees.specs.Claims as names
use Rattle.program_trees.specs.Variables.{Variable, global, result}
use Rattle.typed_programs.specs.Parts.{element_types, all_element_types}
use Rattle.type_rules.specs.Faults.{type_differs, claim_word_out_of_place}
use Rattle.type_rules.specs.Meanings.{Meaning, variable, bound_variable, block_variable, record_class, method, Scope}
use Rattle.type_rules.specs.Judged.{Judged, are_typed, known_type, expects, all_expect, expect_each, is_sequence}
use Rattle.type_rules.specs.Expressions.{Context, in_program, in_claim, in_ensures, in_proof, judged_meaning, judged_result_word, judged_entry, judged_old, judged_prefix, operand_faults, connected_type, judged_binary}
use Rattle.typed_texts.specs.Claims.{claim_meant, entry_meant, old_meant}
use Rattle.claim_typing.specs.Fits.{HasType, FitsResult, FitsEntry, FitsOld}
use Rattle.claim_typing.proofs.Parts.{inside, none_is_some, both_nil, over-typed, first_typed, expected, cond_nil, sequence-is}

-- ---- element types

abbrev pub HasElements : List ValueType → Type 0
HasElements ts = list_all is_element_type ts ≡ true

pub both_elements : (ss ts : List ValueType) → HasElements ss → HasElements ts → HasElements (ss ++ ts)
both_elements ss ts h k =
    list_all-append is_element_type ss ts ∙ and_from (list_all is_element_type ss) (list_all is_element_type ts) h k

module _ (records : Records) (types : NameTypes (ClaimName Variable)) where
  pub record Good (claim : ClaimTree Variable) (t : ValueType) : Type 0 where
    pub typed : IsTyped records types claim t
    pub known : is_known records t ≡ true
    pub elements : HasElements (element_types claim)

  pub at : {claim : ClaimTree Variable} {s t : ValueType} → s ≡ t → Good claim s → Good claim t
  at {claim} {s} {t} h g = subst (Good claim) h g

  -- where the part has a type, the claim has it
  abbrev pub Typing : Judged → ClaimTree Variable → Type 0
  Typing part claim = (t : ValueType) → part.type ≡ Some t → Good claim t

  abbrev pub Goods : Trees (ClaimName Variable) → List Judged → Type 0
  Goods no_trees [] = Unit {0}
  Goods no_trees (part ∷ parts) = ⊥
  Goods (tree_then claim claims) [] = ⊥
  Goods (tree_then claim claims) (part ∷ parts) = Good claim (known_type part) × Goods claims parts

  pub all_elements : (claims : Trees (ClaimName Variable)) (parts : List Judged) → Goods claims parts → HasElements (all_element_types claims)
  all_elements no_trees [] g = refl
  all_elements no_trees (part ∷ parts) g = absurd g
  all_elements (tree_then claim claims) [] g = absurd g
  all_elements (tree_then claim claims) (part ∷ parts) g =
      both_elements (element_types claim) (all_element_types claims) g.0.elements (all_elements claims parts g.1)

  pub good_part : (part : Judged) (parts : List Judged) (claim : ClaimTree Variable) → Typing part claim → are_typed (part ∷ parts) ≡ true →
      Good claim (known_type part)
  good_part part parts claim typing h = typing (known_type part) (first_typed part parts h).0

  pub of_type : (s : ValueType) (part : Judged) (claim : ClaimTree Variable) → Good claim (known_type part) → expects s part ≡ [] → Good claim s
  of_type s part claim g h = at (sym (expected s part h)) g

  pub each-typed : (claims : Trees (ClaimName Variable)) (parts : List Judged) (s : ValueType) → Goods claims parts → all_expect s parts ≡ [] →
      EachIsTyped records types claims s
  each-typed no_trees [] s g h = tt
  each-typed no_trees (part ∷ parts) s g h = absurd g
  each-typed (tree_then claim claims) [] s g h = absurd g
  each-typed (tree_then claim claims) (part ∷ parts) s g h =
      let p = both_nil (expects s part) (all_expect s parts) h in
      ((of_type s part claim g.0 p.0).typed, each-typed claims parts s g.1 p.1)

  pub are-typed : (claims : Trees (ClaimName Variable)) (parts : List Judged) (ts : List ValueType) → Goods claims parts →
      length ts ≡ length parts → expect_each ts parts ≡ [] → AreTyped records types claims ts
  are-typed no_trees [] [] g n h = tt
  are-typed no_trees [] (s ∷ ts) g n h = absurd (omega (arith, n))
  are-typed no_trees (part ∷ parts) ts g n h = absurd g
  are-typed (tree_then claim claims) [] ts g n h = absurd g
  are-typed (tree_then claim claims) (part ∷ parts) [] g n h = absurd (omega (arith, n))
  are-typed (tree_then claim claims) (part ∷ parts) (s ∷ ts) g n h =
      let p = both_nil (expects s part) (expect_each ts parts) h in
      ((of_type s part claim g.0 p.0).typed, are-typed claims parts ts g.1 (omega (arith, n)) p.1)

  -- ---- names

  pub meaning-good : (scope : Scope) (place : Place) (depth : ℕ) (meaning : Option Meaning) →
      ((x : Variable) (is_var : Bool) (t : ValueType) → meaning ≡ Some (variable x is_var (Some t)) → HasType records types (names.variable x) t) →
      ((label : ℕ) → meaning ≡ Some (block_variable label) → types (let_symbol label) ≡ Some number_type) →
      Typing (judged_meaning scope place meaning) (claim_meant depth meaning)
  meaning-good scope place depth (Some (variable x is_var type)) vars blocks t h =
      let k = vars x is_var t (ap (λ o. Some (variable x is_var o)) h) in record { typed = k.0; known = k.1; elements = refl }
  meaning-good scope place depth (Some (bound_variable level)) vars blocks t h = at (inside h) (record { typed = refl; known = refl; elements = refl })
  meaning-good scope place depth (Some (block_variable label)) vars blocks t h =
      at (inside h) (record { typed = blocks label refl; known = refl; elements = refl })
  meaning-good scope place depth (Some (record_class n)) vars blocks t h = none_is_some h
  meaning-good scope place depth (Some (method n signature modifies)) vars blocks t h = none_is_some h
  meaning-good scope place depth None vars blocks t h = none_is_some h

  pub result-good : (context : Context) → FitsResult records types context → (place : Place) (written : List Judged) →
      Typing (judged_result_word context place written) (variable_claim result)
  result-good in_program fits place written t h =
      none_is_some (over-typed place written (claim_word_out_of_place place ∷ []) None t h).same
  result-good in_claim fits place written t h =
      none_is_some (over-typed place written (claim_word_out_of_place place ∷ []) None t h).same
  result-good in_proof fits place written t h =
      none_is_some (over-typed place written (claim_word_out_of_place place ∷ []) None t h).same
  result-good (in_ensures None) fits place written t h = none_is_some h
  result-good (in_ensures (Some unit_type)) fits place written t h =
      none_is_some (over-typed place written (claim_word_out_of_place place ∷ []) None t h).same
  result-good (in_ensures (Some number_type)) fits place written t h =
      at (inside (over-typed place written (all_expect number_type written) (Some number_type) t h).same) (record { typed = fits.0; known = fits.1; elements = refl })
  result-good (in_ensures (Some truth_type)) fits place written t h =
      at (inside (over-typed place written (all_expect truth_type written) (Some truth_type) t h).same) (record { typed = fits.0; known = fits.1; elements = refl })
  result-good (in_ensures (Some (sequence_type s))) fits place written t h =
      at (inside (over-typed place written (all_expect (sequence_type s) written) (Some (sequence_type s)) t h).same)
      (record { typed = fits.0; known = fits.1; elements = refl })
  result-good (in_ensures (Some (record_type n))) fits place written t h =
      at (inside (over-typed place written (all_expect (record_type n) written) (Some (record_type n)) t h).same)
      (record { typed = fits.0; known = fits.1; elements = refl })

  pub entry-good : (context : Context) (place word : Place) (meaning : Option Meaning) →
      ((n : ℕ) (t : ValueType) → meaning ≡ Some (variable (global n) true (Some t)) → FitsEntry records types context n t) →
      Typing (judged_entry context place word meaning) (entry_meant meaning)
  entry-good (in_ensures r) place word (Some (variable (global n) true type)) fits t h =
      let k = fits n t (ap (λ o. Some (variable (global n) true o)) h) in record { typed = k.0; known = k.1; elements = refl }
  entry-good context place word meaning fits t h = none_is_some h

  pub old-good : (context : Context) (place word : Place) (meaning : Option Meaning) →
      ((x : Variable) (t : ValueType) → meaning ≡ Some (variable x true (Some t)) → FitsOld records types context x t) →
      Typing (judged_old context place word meaning) (old_meant meaning)
  old-good in_proof place word (Some (variable x true type)) fits t h =
      let k = fits x t (ap (λ o. Some (variable x true o)) h) in record { typed = k.0; known = k.1; elements = refl }
  old-good context place word meaning fits t h = none_is_some h

  -- ---- operators

  pub minus-good : (place : Place) (operand : Judged) (claim : ClaimTree Variable) → Typing operand claim →
      Typing (judged_prefix place number_type operand) (unary Unary.Neg claim)
  minus-good place operand claim typing t h =
      let k = over-typed place (operand ∷ []) (expects number_type operand) (Some number_type) t h in
      let g = of_type number_type operand claim (good_part operand [] claim typing k.typed) k.none in
      at (inside k.same) (record { typed = (refl, g.typed); known = refl; elements = g.elements })

  pub negation-good : (place : Place) (operand : Judged) (claim : ClaimTree Variable) → Typing operand claim →
      Typing (judged_prefix place truth_type operand) (unary Unary.Not claim)
  negation-good place operand claim typing t h =
      let k = over-typed place (operand ∷ []) (expects truth_type operand) (Some truth_type) t h in
      let g = of_type truth_type operand claim (good_part operand [] claim typing k.typed) k.none in
      at (inside k.same) (record { typed = (refl, g.typed); known = refl; elements = g.elements })

  both_of : (s : ValueType) (left right : Judged) (a b : ClaimTree Variable) → Good a (known_type left) → Good b (known_type right) →
      expects s left ++ expects s right ≡ [] → IsTyped records types a s × IsTyped records types b s
  both_of s left right a b g k h =
      let p = both_nil (expects s left) (expects s right) h in
      ((of_type s left a g p.0).typed, (of_type s right b k p.1).typed)

  equal_sides : (left right : Judged) (a b : ClaimTree Variable) → Good a (known_type left) → Good b (known_type right) →
      expects (known_type left) right ≡ [] →
      IsTyped records types a (type_of records types a) × IsTyped records types b (type_of records types a)
  equal_sides left right a b g k h =
      subst (λ s. IsTyped records types a s × IsTyped records types b s) (sym (type_of_typed records types a (known_type left) g.typed))
      (g.typed, (of_type (known_type left) right b k h).typed)

  append-good : (left right : Judged) (a b : ClaimTree Variable) → Good a (known_type left) → Good b (known_type right) →
      operand_faults Binary.Append left right ≡ [] → Good (binary Binary.Append a b) (known_type left)
  append-good left right a b g k h =
      let p = cond_nil (is_sequence (known_type left)) (expects (element_type (known_type left)) right) [] (type_differs left.place) h in
      let own : type_of records types b ≡ element_type (known_type left) =
      type_of_typed records types b (known_type right) k.typed ∙ sym (expected (element_type (known_type left)) right p.1) in
      record {
        typed = (
          sequence-is (known_type left) p.0 ∙ ap sequence_type (sym own),
          g.typed,
          subst (IsTyped records types b) (sym (type_of_typed records types b (known_type right) k.typed)) k.typed,
        );
        known = g.known;
        elements = both_elements (element_types a) (element_types b) g.elements k.elements;
      }

  connected-good : (operator : Operator) (left right : Judged) (a b : ClaimTree Variable) → Good a (known_type left) → Good b (known_type right) →
      operand_faults (connective operator) left right ≡ [] → Good (connected operator a b) (connected_type (connective operator) (known_type left))
  connected-good o.LooseImply left right a b g k h =
      let sides = both_elements (element_types a) (element_types b) g.elements k.elements in
      let p = both_of truth_type left right a b g k h in
      record { typed = (refl, p.0, p.1); known = refl; elements = sides }
  connected-good o.LooseCondImply left right a b g k h =
      let sides = both_elements (element_types a) (element_types b) g.elements k.elements in
      let p = both_of truth_type left right a b g k h in
      record { typed = (refl, p.0, p.1); known = refl; elements = sides }
  connected-good o.Or left right a b g k h =
      let sides = both_elements (element_types a) (element_types b) g.elements k.elements in
      let p = both_of truth_type left right a b g k h in
      record { typed = (refl, p.0, p.1); known = refl; elements = sides }
  connected-good o.CondOr left right a b g k h =
      let sides = both_elements (element_types a) (element_types b) g.elements k.elements in
      let p = both_of truth_type left right a b g k h in
      record { typed = (refl, p.0, p.1); known = refl; elements = sides }
  connected-good o.And left right a b g k h =
      let sides = both_elements (element_types a) (element_types b) g.elements k.elements in
      let p = both_of truth_type left right a b g k h in
      record { typed = (refl, p.0, p.1); known = refl; elements = sides }
  connected-good o.CondAnd left right a b g k h =
      let sides = both_elements (element_types a) (element_types b) g.elements k.elements in
      let p = both_of truth_type left right a b g k h in
      record { typed = (refl, p.0, p.1); known = refl; elements = sides }
  connected-good o.Imply left right a b g k h =
      let sides = both_elements (element_types a) (element_types b) g.elements k.elements in
      let p = both_of truth_type left right a b g k h in
      record { typed = (refl, p.0, p.1); known = refl; elements = sides }
  connected-good o.CondImply left right a b g k h =
      let sides = both_elements (element_types a) (element_types b) g.elements k.elements in
      let p = both_of truth_type left right a b g k h in
      record { typed = (refl, p.0, p.1); known = refl; elements = sides }
  connected-good o.Eq left right a b g k h =
      let sides = both_elements (element_types a) (element_types b) g.elements k.elements in
      let p = equal_sides left right a b g k h in
      record { typed = (refl, p.0, p.1); known = refl; elements = sides }
  connected-good o.Ne left right a b g k h =
      let sides = both_elements (element_types a) (element_types b) g.elements k.elements in
      let p = equal_sides left right a b g k h in
      record { typed = (refl, (refl, p.0, p.1)); known = refl; elements = sides }
  connected-good o.Lt left right a b g k h =
      let sides = both_elements (element_types a) (element_types b) g.elements k.elements in
      let p = both_of number_type left right a b g k h in
      record { typed = (refl, p.0, p.1); known = refl; elements = sides }
  connected-good o.Le left right a b g k h =
      let sides = both_elements (element_types a) (element_types b) g.elements k.elements in
      let p = both_of number_type left right a b g k h in
      record { typed = (refl, p.0, p.1); known = refl; elements = sides }
  connected-good o.Gt left right a b g k h =
      let sides = both_elements (element_types b) (element_types a) k.elements g.elements in
      let p = both_of number_type left right a b g k h in
      record { typed = (refl, p.1, p.0); known = refl; elements = sides }
  connected-good o.Ge left right a b g k h =
      let sides = both_elements (element_types b) (element_types a) k.elements g.elements in
      let p = both_of number_type left right a b g k h in
      record { typed = (refl, p.1, p.0); known = refl; elements = sides }
  connected-good o.Append left right a b g k h = append-good left right a b g k h
  connected-good o.Add left right a b g k h =
      let sides = both_elements (element_types a) (element_types b) g.elements k.elements in
      let p = both_of number_type left right a b g k h in
      record { typed = (refl, p.0, p.1); known = refl; elements = sides }
  connected-good o.Sub left right a b g k h =
      let sides = both_elements (element_types a) (element_types b) g.elements k.elements in
      let p = both_of number_type left right a b g k h in
      record { typed = (refl, p.0, p.1); known = refl; elements = sides }
  connected-good o.Mul left right a b g k h =
      let sides = both_elements (element_types a) (element_types b) g.elements k.elements in
      let p = both_of number_type left right a b g k h in
      record { typed = (refl, p.0, p.1); known = refl; elements = sides }
  connected-good o.Div left right a b g k h =
      let sides = both_elements (element_types a) (element_types b) g.elements k.elements in
      let p = both_of number_type left right a b g k h in
      record { typed = (refl, p.0, p.1); known = refl; elements = sides }
  connected-good o.Rem left right a b g k h =
      let sides = both_elements (element_types a) (element_types b) g.elements k.elements in
      let p = both_of number_type left right a b g k h in
      record { typed = (refl, p.0, p.1); known = refl; elements = sides }

  pub binary-good : (place : Place) (operator : Operator) (left right : Judged) (a b : ClaimTree Variable) → Typing left a → Typing right b →
      Typing (judged_binary place (connective operator) left right) (connected operator a b)
  binary-good place operator left right a b g k t h =
      let p = over-typed place (left ∷ right ∷ []) (operand_faults (connective operator) left right)
      (Some (connected_type (connective operator) (known_type left))) t h in
      let rest = (first_typed left (right ∷ []) p.typed).1 in
      at (inside p.same)
      (connected-good operator left right a b (good_part left (right ∷ []) a g p.typed) (good_part right [] b k rest) p.none)
