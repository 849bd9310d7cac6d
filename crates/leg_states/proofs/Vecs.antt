-- Lists that are held in a `Vec` of them.
use Rattle.std.proofs.Common.{◌≡◌, ℕ, ◌+◌, ◌<◌, List, [], ◌∷◌, ◌++◌, map, set, length, get_or, Option, Some, None, sym, ap, ap₂, ◌∙◌, arith}
use Rattle.std.specs.declared.vec.Vec.{Vec}
use Rattle.std.specs.Vec.{with_item}
use Rattle.std.proofs.Math.ListN.{replicate}
use Rattle.std.proofs.lemmas.List.{length-map, map_push, map-set, get_or-map, replicate_more}
use Rattle.leg_states.specs.State.{put, pushed}

module _ {S : Type 0} where
  abbrev pub lists : List (Vec (Option ℕ) S) → List (List (Option ℕ))
  lists inner = map (λ l. l.items) inner

  here : (inner : List (Vec (Option ℕ) S)) (x : ℕ) (l : Vec (Option ℕ) S) → x < length (lists inner) → l ≡ get_or inner x l → l.items ≡ get_or (lists inner) x []
  here inner x l h is = ap (λ q. q.items) is ∙ sym (get_or-map (λ q. q.items) inner x l [] (omega (arith, h, length-map inner (λ q. q.items))))

  pub put_lists : (inner : List (Vec (Option ℕ) S)) (x k id : ℕ) (l : Vec (Option ℕ) S) → x < length (lists inner) → l ≡ get_or inner x l
      → lists (set inner x (with_item l k (Some id))) ≡ put (lists inner) x k id
  put_lists inner x k id l h is =
      map-set (λ q. q.items) inner x (with_item l k (Some id)) ∙ ap (λ q. set (lists inner) x (set q k (Some id))) (here inner x l h is)

  pub pushed_lists : (inner : List (Vec (Option ℕ) S)) (x : ℕ) (id : Option ℕ) (l l' : Vec (Option ℕ) S) → x < length (lists inner) → l ≡ get_or inner x l
      → l'.items ≡ l.items ++ id ∷ [] → lists (set inner x l') ≡ pushed (lists inner) x id
  pushed_lists inner x id l l' h is e =
      map-set (λ q. q.items) inner x l' ∙ ap (set (lists inner) x) (e ∙ ap (λ q. q ++ id ∷ []) (here inner x l h is))

  pub one_unset_more : (inner inner' : List (Vec (Option ℕ) S)) (u : Vec (Option ℕ) S) (n : ℕ) → lists inner ≡ replicate n (None ∷ []) → u.items ≡ None ∷ []
      → inner' ≡ inner ++ u ∷ [] → lists inner' ≡ replicate (n + 1) (None ∷ [])
  one_unset_more inner inner' u n e f g =
      ap lists g ∙ map_push (λ q. q.items) inner u ∙ ap₂ (λ q r. q ++ r ∷ []) e f ∙ replicate_more n (None ∷ [])
