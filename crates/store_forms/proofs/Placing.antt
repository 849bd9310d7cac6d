-- How the place of a part is found.
use Rattle.std.proofs.Common.{◌≡◌, ℕ, suc, ◌+◌, ◌<◌, ◌≤◌, ℤ, List, [], ◌∷◌, ◌++◌, map, length, get_or, take, drop, slice_get, Some, Ordering, Less, Equal, Greater, refl, sym, ap, ◌∙◌, subst, arith, add-one, drop-cons, append_assoc, drop_of_length-le}
use Rattle.std.proofs.lemmas.List.{take_more, length-map}
use Rattle.std.proofs.lemmas.Option.{get_or_from_slice_get, slice_get-map, slice_get_read}
use Rattle.std.specs.Option.{option_map}
use Rattle.slang_values.specs.Tree.{Tree}
use Rattle.tree_forms.specs.Order.{tree_cmp}
use Rattle.tree_forms.specs.Form.{FormPart, joined, placed, inserted}
use Rattle.term_nodes.specs.declared.node.Node.{Node}
use Rattle.term_store.specs.Store.{tree_at}
use Rattle.term_forms.specs.Place.{JoinsAt, StandsAt, PassedTo}
use Rattle.store_forms.specs.declared.form.IdPart.{IdPart}
use Rattle.store_forms.specs.Form.{part_at}

abbrev one : Tree ℕ → ℤ → FormPart
one atom times = record { atom = atom; times = times }

drop_at : (ps : List FormPart) (at : ℕ) (p : FormPart) → at < length ps → slice_get ps at ≡ Some p → drop at ps ≡ p ∷ drop (at + 1) ps
drop_at ps at p l e = rw add-one (drop-cons ps at p l ∙ ap (λ x. x ∷ drop (suc at) ps) (get_or_from_slice_get ps at p p e))

module _ (store : List Node) where
  -- the part at a place
  pub slice_get-parts : (parts : List IdPart) (at : ℕ) (p : IdPart) → at < length parts → p ≡ get_or parts at p → slice_get (map (part_at store) parts) at ≡ Some (part_at store p)
  slice_get-parts parts at p l e = slice_get-map (part_at store) parts at ∙ ap (option_map (part_at store)) (slice_get_read parts (length parts) at p refl l e)

  pub PassedTo-none : (ps : List FormPart) (atom : Tree ℕ) → PassedTo ps atom 0
  PassedTo-none ps atom = record { there = omega arith; passes = λ times. refl }

  pub StandsAt-end : (parts : List IdPart) (atom : Tree ℕ) (at : ℕ) → length parts ≤ at → PassedTo (map (part_at store) parts) atom at → StandsAt (map (part_at store) parts) atom at
  StandsAt-end parts atom at l passed = record {
    there = passed.there;
    stands = λ times.
        let none : drop at (map (part_at store) parts) ≡ [] = drop_of_length-le (map (part_at store) parts) (omega (arith, length-map parts (part_at store))) in
        rw none (passed.passes times ∙ ap (λ rest. take at (map (part_at store) parts) ++ inserted (one atom times) rest) none);
  }

  module _ (parts : List IdPart) (atom : Tree ℕ) (at : ℕ) (p : IdPart) (l : at < length parts) (is : p ≡ get_or parts at p) (passed : PassedTo (map (part_at store) parts) atom at) where
    abbrev ps : List FormPart
    ps = map (part_at store) parts

    within : at < length ps
    within = omega (arith, length-map parts (part_at store))

    -- what the part at the place leaves to do
    at_place : (times : ℤ) → inserted (one atom times) ps ≡ take at ps ++ placed (tree_cmp (tree_at store p.atom) atom) (part_at store p) (one atom times) (drop (at + 1) ps) (inserted (one atom times) (drop (at + 1) ps))
    at_place times = passed.passes times ∙ ap (λ rest. take at ps ++ inserted (one atom times) rest) (drop_at ps at (part_at store p) within (slice_get-parts parts at p l is))

    placed_as : (o : Ordering) (times : ℤ) → o ≡ tree_cmp (tree_at store p.atom) atom → inserted (one atom times) ps ≡ take at ps ++ placed o (part_at store p) (one atom times) (drop (at + 1) ps) (inserted (one atom times) (drop (at + 1) ps))
    placed_as o times e =
        subst (λ (u : Ordering). inserted (one atom times) ps ≡ take at ps ++ placed u (part_at store p) (one atom times) (drop (at + 1) ps) (inserted (one atom times) (drop (at + 1) ps))) (sym e) (at_place times)

    pub PassedTo-more : Less ≡ tree_cmp (tree_at store p.atom) atom → PassedTo ps atom (at + 1)
    PassedTo-more e = record {
      there = omega (arith, within);
      passes = λ times. placed_as Less times e ∙ sym (ap (λ front. front ++ inserted (one atom times) (drop (at + 1) ps)) front_more ∙ append_assoc (take at ps) (part_at store p ∷ []) (inserted (one atom times) (drop (at + 1) ps)));
    }
      where
        front_more : take (at + 1) ps ≡ take at ps ++ part_at store p ∷ []
        front_more = take_more ps at (part_at store p) within ∙ ap (λ x. take at ps ++ x ∷ []) (get_or_from_slice_get ps at (part_at store p) (part_at store p) (slice_get-parts parts at p l is))

    pub JoinsAt-here : Equal ≡ tree_cmp (tree_at store p.atom) atom → JoinsAt ps atom at
    JoinsAt-here e = record {
      there = within;
      joins = λ times q f.
          let same : part_at store p ≡ q = (let g : Some (part_at store p) ≡ Some q = sym (slice_get-parts parts at p l is) ∙ f in cc) in
          subst (λ (r : FormPart). inserted (one atom times) ps ≡ take at ps ++ joined r (one atom times) (drop (at + 1) ps)) same (placed_as Equal times e);
    }

    pub StandsAt-here : Greater ≡ tree_cmp (tree_at store p.atom) atom → StandsAt ps atom at
    StandsAt-here e = record {
      there = omega (arith, within);
      stands = λ times. placed_as Greater times e ∙ ap (λ rest. take at ps ++ one atom times ∷ rest) (sym (drop_at ps at (part_at store p) within (slice_get-parts parts at p l is)));
    }
