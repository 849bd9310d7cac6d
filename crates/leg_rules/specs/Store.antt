-- The terms of a leg's variables, and the symbols in them.
use Rattle.std.specs.Prelude.{ℕ, suc, pred, nat_eq, nat_le, Bool, ◌&&◌, List, [], ◌∷◌, ◌++◌, length, slice_index_or, unwrap_or, if◌then◌else◌, Option, Some, None}
use Rattle.std.specs.List.{fold}
use Rattle.std.specs.Set.{is_member}
use Rattle.slang_values.specs.Value.{ValueType, unit_type, number_type}
use Rattle.slang_values.specs.Tree.{Tree, literal, truth_literal, name, bound, unary, binary, update, quantified, listed, Trees, no_trees, tree_then}
use Rattle.slang_values.specs.Measure.{node_count, height}
use Rattle.validity.specs.Bind.{bind}
use Rattle.program_trees.specs.Claims.{ClaimName, variable, old_variable, let_symbol, ClaimTree}

abbrev mutual
  -- the names in a tree, from the left
  pub names : {A : Type 0} → Tree A → List A
  names (literal z) = []
  names (truth_literal b) = []
  names (name a) = a ∷ []
  names (bound n) = []
  names (unary op a) = names a
  names (binary op a b) = names a ++ names b
  names (update a i x) = names a ++ (names i ++ names x)
  names (quantified q low high body) = names low ++ (names high ++ names body)
  names (listed l ts) = names_of_all ts

  pub names_of_all : {A : Type 0} → Trees A → List A
  names_of_all no_trees = []
  names_of_all (tree_then t ts) = names t ++ names_of_all ts

-- What stands at a place of a leg.
pub record State : Type 0 where
  -- the sorts of the symbols that have been taken, by number
  pub sorts : List ValueType
  -- how often each variable has been set or made fresh
  pub version : ℕ → ℕ
  -- the term that a variable had, after it was set or made fresh that often, where it has one
  pub terms : ℕ → ℕ → Option (Tree ℕ)
  -- the symbol of a proof's block, by the block's label
  pub lets : ℕ → ℕ
  pub facts : List (Tree ℕ)

-- At the start no variable has a term.
abbrev pub start : State
start = record { sorts = []; version = λ x. 0; terms = λ x k. None; lets = λ label. 0; facts = [] }

-- the state with that term for that version of the variable
abbrev pub with_term : ℕ → ℕ → Tree ℕ → State → State
with_term x k term state =
    record state { terms = λ y m. if nat_eq y x && nat_eq m k then Some term else state.terms y m }

-- A variable of that type takes the next symbol.
abbrev pub with_symbol : ValueType → ℕ → ℕ → State → State
with_symbol type x k state = record (with_term x k (name (length state.sorts)) state) { sorts = state.sorts ++ type ∷ [] }

-- ---- reading

-- A version that has no term takes a symbol.
abbrev pub where_none : Option (Tree ℕ) → State → State → State
where_none None new state = new
where_none (Some term) new state = state

abbrev pub read_version : List ValueType → ℕ → ℕ → State → State
read_version types x k state = where_none (state.terms x k) (with_symbol (slice_index_or types x unit_type) x k state) state

-- What a variable was before its last change is its version before the present one. Without a change it is the present one.
abbrev pub read_name : List ValueType → State → ClaimName ℕ → State
read_name types state (variable x) = read_version types x (state.version x) state
read_name types state (old_variable x) = read_version types x (pred (state.version x)) state
read_name types state (let_symbol label) = state

-- Each variable of the claim that has no term yet takes a symbol, from the left.
abbrev pub read_claim : List ValueType → ClaimTree ℕ → State → State
read_claim types claim state = fold (read_name types) state (names claim)

-- the term of a name that has been read
abbrev pub term_of_name : State → ClaimName ℕ → Tree ℕ
term_of_name state (variable x) = unwrap_or (state.terms x (state.version x)) (name 0)
term_of_name state (old_variable x) = unwrap_or (state.terms x (pred (state.version x))) (name 0)
term_of_name state (let_symbol label) = name (state.lets label)

-- the term of a claim that has been read
abbrev pub term_of : State → ClaimTree ℕ → Tree ℕ
term_of state claim = bind (term_of_name state) claim

-- ---- changes

abbrev pub with_fact : Tree ℕ → State → State
with_fact term state = record state { facts = state.facts ++ term ∷ [] }

abbrev pub set_variable : ℕ → Tree ℕ → State → State
set_variable x term state =
    with_term x (suc (state.version x)) term (record state { version = λ y. if nat_eq y x then suc (state.version y) else state.version y })

-- Each of the variables takes a new symbol, in the order of the list.
abbrev pub take_symbol : List ValueType → State → ℕ → State
take_symbol types state x = with_symbol (slice_index_or types x unit_type) x (state.version x) state

abbrev pub make_fresh : List ValueType → List ℕ → State → State
make_fresh types xs state =
    fold (take_symbol types) (record state { version = λ y. if is_member nat_eq xs y then suc (state.version y) else state.version y }) xs

-- A block with a symbol of its own, which is a number, takes it where the block begins.
abbrev pub take_let : ℕ → State → State
take_let label state = record state {
  sorts = state.sorts ++ number_type ∷ [];
  lets = λ other. if nat_eq other label then length state.sorts else state.lets other;
}

-- ---- sizes

-- the most nodes of a term, and the greatest height
abbrev pub node_limit : ℕ
node_limit = 20000

abbrev pub height_limit : ℕ
height_limit = 1000

abbrev pub is_small : Tree ℕ → Bool
is_small term = nat_le (node_count term) node_limit && nat_le (height term) height_limit
