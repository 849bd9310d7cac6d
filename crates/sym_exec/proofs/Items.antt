-- What one item adds to what is to be shown.
use Rattle.std.proofs.Common.{◌≡◌, ℕ, zero, suc, ◌+◌, ◌<◌, ◌≤◌, true, List, [], ◌∷◌, ◌++◌}
use Rattle.std.proofs.Common.{map, drop, length, get_or, Option, refl, sym, ap, ap₂, ◌∙◌, subst, arith}
use Rattle.std.specs.List.{Contains}
use Rattle.std.proofs.lemmas.List.Elements.{Contains-append_left, Contains-append_right}
use Rattle.slang_values.specs.Value.{ValueType, Records}
use Rattle.slang_values.specs.Tree.{Tree}
use Rattle.program_trees.specs.declared.answer.Kind.{Kind}
use Rattle.program_trees.specs.Legs.{ItemTree, assume, check, set, fresh, proof}
use Rattle.term_nodes.specs.declared.node.Node.{Node}
use Rattle.term_store.specs.Store.{GainsAmong}
use Rattle.lk_programs.specs.declared.leg.Item.{Item}
use Rattle.lk_programs.specs.LegData.{item_tree}
use Rattle.leg_rules.specs.Store.{State}
use Rattle.leg_rules.specs.Sequents.{too_large, where_small, obligations_from}
use Rattle.item_terms.specs.Items.{item_kind, after_item, is_small_item, asked, asked_at, gained}
use Rattle.step_terms.specs.Steps.{IsPast}
use Rattle.step_terms.specs.declared.end.ItemEnd.{ItemEnd}
use Rattle.item_terms.specs.declared.asked.Asked.{Asked}
use Rattle.sym_exec.specs.Steps.{gained_along, passed_obligations, end_at, IsEndOf}
use Rattle.sym_exec.specs.declared.end.Next.{Next}

-- ---- lists

drop_here : {A : Type 0} (xs : List A) (i : ℕ) (x : A) → i < length xs → x ≡ get_or xs i x → drop i xs ≡ x ∷ drop (suc i) xs
drop_here [] i x h e = absurd (omega arith)
drop_here (y ∷ xs) zero x h e = ap (λ z. z ∷ xs) (sym e)
drop_here (y ∷ xs) (suc i) x h e = drop_here xs i x (omega arith) e

mapped_at : (items : List Item) (i : ℕ) (it : Item) → i < length items → it ≡ get_or items i it → item_tree it ≡ get_or (map item_tree items) i (item_tree it)
mapped_at [] i it h e = absurd (omega arith)
mapped_at (x ∷ items) zero it h e = ap item_tree e
mapped_at (x ∷ items) (suc i) it h e = mapped_at items i it (omega arith) e

as_many : (items : List Item) → length (map item_tree items) ≡ length items
as_many [] = refl
as_many (x ∷ items) = ap suc (as_many items)

pub ahead_at : (items shown : List Item) (at : ℕ) (it : Item) → shown ≡ items → at < length items → it ≡ get_or shown at it
    → drop at (map item_tree items) ≡ item_tree it ∷ drop (at + 1) (map item_tree items)
ahead_at items shown at it same h e =
    let next : suc at ≡ at + 1 = omega arith in
    drop_here (map item_tree items) at (item_tree it) (omega (arith, h, as_many items)) (mapped_at items at it h (e ∙ ap (λ xs. get_or xs at it) same))
    ∙ ap (λ n. item_tree it ∷ drop n (map item_tree items)) next

pub tree_at_place : (items shown : List Item) (at : ℕ) (it : Item) → shown ≡ items → at < length items → it ≡ get_or shown at it
    → get_or (map item_tree items) at (item_tree it) ≡ item_tree it
tree_at_place items shown at it same h e = sym (mapped_at items at it h (e ∙ ap (λ xs. get_or xs at it) same))

pub nothing_ahead : (items : List Item) (at : ℕ) → length items ≤ at → drop at (map item_tree items) ≡ []
nothing_ahead [] zero h = refl
nothing_ahead [] (suc at) h = refl
nothing_ahead (x ∷ items) zero h = absurd (omega arith)
nothing_ahead (x ∷ items) (suc at) h = nothing_ahead items at (omega arith)

-- ---- one item

module _ (records : Records) (types : List ValueType) where
  one_item : (place : ℕ) (state : State) (item : ItemTree ℕ) (rest : List (ItemTree ℕ))
      → obligations_from records types place state (item ∷ rest)
      ≡ where_small (is_small_item types state item) place (item_kind item)
      (asked types records place state item ++ obligations_from records types (place + 1) (after_item types state item) rest)
  one_item place state (assume claim) rest = refl
  one_item place state (check kind claim) rest = refl
  one_item place state (set x claim) rest = refl
  one_item place state (fresh xs) rest = refl
  one_item place state (proof steps) rest = refl

  pub passed_front : (at number : ℕ) (state state' : State) (items rest : List (ItemTree ℕ)) (item : ItemTree ℕ) (kind : Kind) (store : List Node) (it : Asked)
      (next : Option Next) → items ≡ item ∷ rest → is_small_item types state item ≡ true
      → asked types records at state item ≡ asked_at store at (item_kind item) it → state' ≡ after_item types state item
      → passed_obligations store next ≡ asked_at store number kind it → number ≡ at → kind ≡ item_kind item
      → obligations_from records types at state items ≡ passed_obligations store next ++ obligations_from records types (at + 1) state' rest
  passed_front at number state state' items rest item kind store it next is small asks moves front same of =
      let after = obligations_from records types (at + 1) (after_item types state item) rest in
      ap (obligations_from records types at state) is ∙ one_item at state item rest
      ∙ ap (λ b. where_small b at (item_kind item) (asked types records at state item ++ after)) small
      ∙ ap₂ (λ os s. os ++ obligations_from records types (at + 1) s rest)
      (asks ∙ ap₂ (λ n k. asked_at store n k it) (sym same) (sym of) ∙ sym front) (sym moves)

  pub past_end : (at number : ℕ) (state : State) (items rest : List (ItemTree ℕ)) (item : ItemTree ℕ) (kind : Kind) (end : ItemEnd) → items ≡ item ∷ rest
      → IsPast end (is_small_item types state item) → number ≡ at → kind ≡ item_kind item
      → IsEndOf (end_at number kind end) (obligations_from records types at state items)
  past_end at number state items rest item kind ItemEnd.Size is large same of =
      let after = obligations_from records types (at + 1) (after_item types state item) rest in
      ap (obligations_from records types at state) is ∙ one_item at state item rest
      ∙ ap (λ b. where_small b at (item_kind item) (asked types records at state item ++ after)) large
      ∙ ap₂ (λ n k. too_large n k ∷ []) (sym same) (sym of)
  past_end at number state items rest item kind ItemEnd.NoMemory is past same of = tt

module _ (types : List ValueType) where
  pub gains_here : (state : State) (items rest : List (ItemTree ℕ)) (item : ItemTree ℕ) (old new : List Node) → items ≡ item ∷ rest
      → GainsAmong old new (gained types state item) → GainsAmong old new (gained_along types state items)
  gains_here state items rest item old new is g =
      subst (λ ts. GainsAmong old new (gained_along types state ts)) (sym is)
      (record {
        grows = g.grows;
        among = λ k l h. Contains-append_left (gained types state item) (gained_along types (after_item types state item) rest) _ (g.among k l h);
      })

  pub gained_later : (state state' : State) (items rest : List (ItemTree ℕ)) (item : ItemTree ℕ) (u : Tree ℕ) → items ≡ item ∷ rest
      → state' ≡ after_item types state item → Contains (gained_along types state' rest) u → Contains (gained_along types state items) u
  gained_later state state' items rest item u is moves h =
      subst (λ ts. Contains (gained_along types state ts) u) (sym is)
      (Contains-append_right (gained types state item) (gained_along types (after_item types state item) rest) u
      (subst (λ s. Contains (gained_along types s rest) u) moves h))

pub gains_ahead : (a b c : List Node) (ts us : List (Tree ℕ)) → GainsAmong b c us → ((u : Tree ℕ) → Contains us u → Contains ts u) → GainsAmong b c ts
gains_ahead a b c ts us g h = record { grows = g.grows; among = λ k l below. h _ (g.among k l below) }
