-- The entry values that claims name.
use Rattle.std.proofs.Common.{◌≡◌, ℕ, suc, zero, ◌+◌, nat_eq, Bool, true, false, ◌&&◌, List, [], ◌∷◌, ◌++◌, map, if◌then◌else◌, refl, ap, ap₂, sym, ◌∙◌, append_assoc, arith}
use Rattle.std.specs.List.{flat_map, range_with_len}
use Rattle.std.proofs.lemmas.List.{map-append, append-nil}
use Rattle.std.proofs.lemmas.Bool.Decides.{Decides-eqb}
use Rattle.std.proofs.lemmas.Grind.{flat_map-append}
use Rattle.program_trees.specs.Claims.{renamed_noted, variable_claim}
use Rattle.program_trees.specs.Legs.{set}
use Rattle.program_trees.specs.Variables.{Variable, local, global, entry, result, same_variable}
use Rattle.lk_programs.specs.declared.program.Noted.{Noted}
use Rattle.lk_programs.specs.Program.{noted_tree}
use Rattle.leg_rules.specs.LegNames.{LegName, own, of_call, same_name, callee_name}
use Rattle.leg_rules.specs.Legs.{Items, at_node, entry_items}
use Rattle.leg_rules.specs.Mentions.{some_mention}
use Rattle.leg_items.specs.declared.name.Frame.{Frame}
use Rattle.leg_items.specs.declared.name.Frame.TheVariants as f
use Rattle.leg_items.specs.Names.{kind_of, frame_name}
use Rattle.call_items.specs.Frames.{frame_scope, frame_variable, claims_in}
use Rattle.call_items.proofs.Naming.{some_alike}

both_same : (m n : ℕ) (b : Bool) → nat_eq m m && (nat_eq n n && b) ≡ b
both_same m n b = ap₂ (λ u v. u && (v && b)) ((Decides-eqb m m).1 refl) ((Decides-eqb n n).1 refl)

-- the entry value of a call is named as that of the method is
called_alike : (node method g : ℕ) (x : Variable) → same_name (of_call node method (entry g)) (callee_name node method x) ≡ same_variable (entry g) x
called_alike node method g (local n) = both_same node method false
called_alike node method g (global n) = refl
called_alike node method g (entry n) = both_same node method (nat_eq g n)
called_alike node method g result = both_same node method false

entry_alike : (frame : Frame) (g n : ℕ) → same_name (frame_variable frame (entry g)) (frame_name frame n) ≡ same_variable (entry g) (kind_of (frame_scope frame) n)
entry_alike (f.Own scope) g n = refl
entry_alike (f.Call node method scope) g n = called_alike node.0 method g (kind_of scope n)

framed_noted : (frame : Frame) (claims : List Noted) → map (λ noted. renamed_noted (frame_name frame) (noted_tree noted)) claims ≡ map (renamed_noted (frame_name frame)) (map noted_tree claims)
framed_noted frame [] = refl
framed_noted frame (claim ∷ claims) = ap (λ l. renamed_noted (frame_name frame) (noted_tree claim) ∷ l) (framed_noted frame claims)

pub entry_named : (frame : Frame) (g : ℕ) (name : LegName) (claims : List Noted) → name ≡ frame_variable frame (entry g) →
    some_mention (same_name name) (map (λ noted. renamed_noted (frame_name frame) (noted_tree noted)) claims)
    ≡ some_mention (same_variable (entry g)) (claims_in (frame_scope frame) claims)
entry_named frame g name claims e =
    ap₂ (λ x l. some_mention (same_name x) l) e (framed_noted frame claims)
    ∙ some_alike (frame_name frame) (kind_of (frame_scope frame)) (same_name (frame_variable frame (entry g))) (same_variable (entry g)) (entry_alike frame g) (map noted_tree claims)

-- ---- one more

range-more : (a k : ℕ) → range_with_len a (suc k) ≡ range_with_len a k ++ (a + k) ∷ []
range-more a zero = ap (λ n. n ∷ []) (omega arith)
range-more a (suc k) =
    let same : (a + 1) + k ≡ a + suc k = omega arith in
    ap (λ l. a ∷ l) (range-more (a + 1) k ∙ ap (λ n. range_with_len (a + 1) k ++ n ∷ []) same)

range_from : (k : ℕ) → range_with_len 0 (suc k) ≡ range_with_len 0 k ++ k ∷ []
range_from k = range-more 0 k ∙ ap (λ n. range_with_len 0 k ++ n ∷ []) (omega arith)

module _ (node : ℕ) (entry_name : ℕ → LegName) (h : ℕ → List ℕ) where
  pub entries-more : (k : ℕ) (old middle new : Items) → middle ≡ old ++ entry_items node entry_name (flat_map h (range_with_len 0 k)) →
      new ≡ middle ++ entry_items node entry_name (h k) → new ≡ old ++ entry_items node entry_name (flat_map h (range_with_len 0 (k + 1)))
  entries-more k old middle new a b =
      let next : k + 1 ≡ suc k = omega arith in
      let item : ℕ → _ = λ g. at_node node (set (entry_name g) (variable_claim (own (global g)))) in
      let more : flat_map h (range_with_len 0 (k + 1)) ≡ flat_map h (range_with_len 0 k) ++ h k =
      ap (λ n. flat_map h (range_with_len 0 n)) next ∙ ap (flat_map h) (range_from k) ∙ flat_map-append h (range_with_len 0 k) (k ∷ [])
      ∙ ap (λ l. flat_map h (range_with_len 0 k) ++ l) (append-nil (h k)) in
      b ∙ ap (λ l. l ++ entry_items node entry_name (h k)) a ∙ append_assoc old (map item (flat_map h (range_with_len 0 k))) (map item (h k))
      ∙ ap (λ l. old ++ l) (sym (map-append item (flat_map h (range_with_len 0 k)) (h k)) ∙ ap (map item) (sym more))

-- it is named, or it is not
module _ (frame : Frame) (node g : ℕ) (name : LegName) (claims : List Noted) (old new : Items) (same : name ≡ frame_variable frame (entry g)) where
  abbrev named : Bool
  named = some_mention (same_variable (entry g)) (claims_in (frame_scope frame) claims)

  abbrev pub with_entry : Bool → Items
  with_entry b = old ++ entry_items node (λ k. frame_variable frame (entry k)) (if b then g ∷ [] else [])

  pub entry_absent : false ≡ some_mention (same_name name) (map (λ noted. renamed_noted (frame_name frame) (noted_tree noted)) claims) →
      old ≡ old ++ entry_items node (λ k. frame_variable frame (entry k)) (if some_mention (same_variable (entry g)) (claims_in (frame_scope frame) claims) then g ∷ [] else [])
  entry_absent e = sym (append-nil old) ∙ ap with_entry (e ∙ entry_named frame g name claims same)

  pub entry_present : true ≡ some_mention (same_name name) (map (λ noted. renamed_noted (frame_name frame) (noted_tree noted)) claims) →
      new ≡ old ++ at_node node (set name (variable_claim (own (global g)))) ∷ [] →
      new ≡ old ++ entry_items node (λ k. frame_variable frame (entry k)) (if some_mention (same_variable (entry g)) (claims_in (frame_scope frame) claims) then g ∷ [] else [])
  entry_present e h =
      h ∙ ap (λ x. old ++ at_node node (set x (variable_claim (own (global g)))) ∷ []) same ∙ ap with_entry (e ∙ entry_named frame g name claims same)
