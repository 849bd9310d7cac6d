-- Keys of small legs, computed.
use Rattle.std.specs.Prelude.{◌≡◌, ℕ, pos, negsuc, is_none, Bool, true, List, [], ◌∷◌, ◌++◌, take, slice_set, Some}
use Rattle.std.specs.List.{list_all, range_with_len}
use Rattle.slang_values.specs.Value.{number_type, truth_type, sequence_type, record_type}
use Rattle.slang_values.specs.Tree.{literal, truth_literal, name, unary, binary, listed, sequence_of, no_trees, tree_then}
use Rattle.slang_values.specs.declared.operators.Unary.{Unary}
use Rattle.slang_values.specs.declared.operators.Binary.{Binary}
use Rattle.program_trees.specs.declared.answer.Kind.TheVariants as kinds
use Rattle.program_trees.specs.Claims.{variable_claim, let_symbol, line, block, no_steps, step_then}
use Rattle.program_trees.specs.Legs.{assume, check, set, fresh, proof, LegTree}
use Rattle.key_rules.specs.Writing.{encode}
use Rattle.key_rules.specs.Reading.{decode}

abbrev pub nothing : LegTree
nothing = record { records = []; variables = []; items = [] }

-- its profile, and three lists of no members
abbrev pub key_of_nothing : List ℕ
key_of_nothing = 1 ∷ 0 ∷ 0 ∷ 0 ∷ 0 ∷ 0 ∷ 0 ∷ 0 ∷ 0 ∷ 0 ∷ 0 ∷ 0 ∷ 0 ∷ []

abbrev pub is_no_key : List ℕ → Bool
is_no_key bytes = is_none (decode bytes)

-- a leg of one number, which it sets to -2 and checks to be below 3
abbrev pub small : LegTree
small = record {
  records = [];
  variables = number_type ∷ [];
  items = set 0 (literal (negsuc 1)) ∷ check kinds.Ensures (binary Binary.Lt (variable_claim 0) (literal (pos 3))) ∷ [];
}

abbrev pub key_of_small : List ℕ
key_of_small =
    1 ∷ 0 ∷ 0 ∷ 0 ∷ 0 ∷ 0 ∷ 0 ∷ 0 ∷ 1 ∷ 0 ∷ 0 ∷ 0 ∷ 0 ∷ 2 ∷ 2 ∷ 0 ∷ 0 ∷ 0 ∷ 0
    ∷ 0 ∷ 255 ∷ 255 ∷ 255 ∷ 255 ∷ 255 ∷ 255 ∷ 255 ∷ 255 ∷ 255 ∷ 255 ∷ 255 ∷ 255 ∷ 255 ∷ 255 ∷ 255 ∷ 254
    ∷ 1 ∷ 2 ∷ 17 ∷ 3 ∷ 0 ∷ 0 ∷ 0 ∷ 0 ∷ 0 ∷ 0 ∷ 0 ∷ 0 ∷ 0 ∷ 0 ∷ 0 ∷ 0 ∷ 0 ∷ 0 ∷ 0 ∷ 0 ∷ 0 ∷ 0 ∷ 0 ∷ 0 ∷ 3 ∷ []

-- a leg with a part of each kind: a record, a sequence of records, and a proof with a block that has a symbol
abbrev pub large : LegTree
large = record {
  records = (number_type ∷ truth_type ∷ []) ∷ [];
  variables = sequence_type (record_type 0) ∷ number_type ∷ [];
  items =
      fresh (0 ∷ 1 ∷ [])
      ∷ assume (binary Binary.Eq (unary Unary.Size (variable_claim 0)) (literal (pos 1)))
      ∷ check kinds.Index
      (unary (Unary.Field 1) (binary Binary.Read (listed (sequence_of (record_type 0)) (tree_then (binary Binary.Read (variable_claim 0)
      (literal (pos 0))) no_trees)) (literal (pos 0))))
      ∷ proof (step_then (block 1 true 2 (truth_literal true) (step_then (line 3 (binary Binary.Eq (name (let_symbol 1)) (name (let_symbol 1))) 18 [])
      no_steps)) (step_then (line 4 (truth_literal true) 17 (3 ∷ [])) no_steps)) ∷ [];
}

pub record KeyExamples : Type 0 where
  pub nothing_is : encode nothing ≡ key_of_nothing
  pub nothing_read : decode key_of_nothing ≡ Some nothing
  pub one_byte_less : is_no_key (take 12 key_of_nothing) ≡ true
  pub one_byte_more : is_no_key (key_of_nothing ++ 0 ∷ []) ≡ true
  -- with any one byte changed to 255
  pub any_byte_changed : list_all (λ i. is_no_key (slice_set key_of_nothing i 255)) (range_with_len 0 13) ≡ true
  pub small_is : encode small ≡ key_of_small
  pub small_read : decode key_of_small ≡ Some small
  -- a check of a proof's kind, a claim of no known form, and a type that is none
  pub wrong_kind : is_no_key (slice_set key_of_small 37 7) ≡ true
  pub wrong_claim : is_no_key (slice_set key_of_small 38 29) ≡ true
  pub wrong_type : is_no_key (slice_set key_of_small 9 4) ≡ true
  pub large_read : decode (encode large) ≡ Some large
