-- A leg by its first byte and its lists.
use Rattle.std.proofs.Common.{◌≡◌, ◌⊎◌, ℕ, List, [], ◌∷◌, map, Bool, true, false, true≢false, cond, IsTrue, ◌↔◌, IfOk, Option, Some, None, Result, Ok, Err, IsOk, refl, sym, ap, ◌∙◌}
use Rattle.slang_values.specs.Value.{ValueType, Records}
use Rattle.program_trees.specs.Legs.{ItemTree, LegTree}
use Rattle.key_rules.specs.Codes.{profile}
use Rattle.key_rules.specs.Readers.{Reader, given, ◌>>=◌, read_byte, read_list}
use Rattle.key_rules.specs.Reading.{all_of, itself, read_item, read_leg, read_type, whole}
use Rattle.std.specs.Option.{option_map}
use Rattle.key_depths.specs.Depths.{decode_within, depth_limit}
use Rattle.key_cursor.specs.declared.end.ReadEnd.TheVariants.{NotKey, NoMemory}
use Rattle.key_cursor.specs.declared.end.ReadEnd.{ReadEnd}
use Rattle.key_cursor.specs.Reads.{Reads}
use Rattle.key_cursor.proofs.Reading.{head_known, reads_same, three_read, three_refuse}
use Rattle.lk_claims.specs.declared.ty.Ty.{Ty}
use Rattle.lk_claims.specs.Claim.{value_type}
use Rattle.lk_programs.specs.declared.leg.Item.{Item}
use Rattle.lk_programs.specs.declared.leg.Leg.{Leg}
use Rattle.lk_programs.specs.LegData.{item_tree, leg_tree}

abbrev pub leg_of : Records → List ValueType → List (ItemTree ℕ) → LegTree
leg_of records variables items = record { records = records; variables = variables; items = items }

abbrev pub lists : ℕ → Reader LegTree
lists depth =
    read_list (read_list (read_type depth)) >>= λ records. read_list (read_type depth) >>= λ variables. read_list (read_item depth) >>= λ items.
    given (leg_of records variables items)

-- behind the first byte
behind_first : (depth : ℕ) (old middle : List ℕ) (byte : ℕ) → byte ≡ 1 → read_byte old ≡ Some (byte, middle) → read_leg depth old ≡ lists depth middle
behind_first depth old middle byte is e = head_known itself (profile ∷ []) (λ first. lists depth) old middle 1 1 (e ∙ ap (λ b. Some (b, middle)) is) refl

pub leg_read : (depth : ℕ) (old first middle later new : List ℕ) (byte : ℕ) (rs : Result (List (List Ty)) ReadEnd) (vs : Result (List Ty) ReadEnd)
    (is : Result (List Item) ReadEnd) (records : List (List Ty)) (variables : List Ty) (items : List Item) → byte ≡ 1 → read_byte old ≡ Some (byte, first)
    → Reads (map (map value_type)) (read_list (read_list (read_type depth))) first middle rs → Reads (map value_type) (read_list (read_type depth)) middle later vs
    → Reads (map item_tree) (read_list (read_item depth)) later new is → rs ≡ Ok records → vs ≡ Ok variables → is ≡ Ok items
    → read_leg depth old ≡ Some (leg_of (map (map value_type) records) (map value_type variables) (map item_tree items), new)
leg_read depth old first middle later new byte rs vs is records variables items one e a b c p q r =
    behind_first depth old first byte one e
    ∙ three_read (map (map value_type)) (map value_type) (map item_tree) (read_list (read_list (read_type depth))) (read_list (read_type depth))
    (read_list (read_item depth)) (λ xs ys zs. given (leg_of xs ys zs)) first middle later new rs vs is records variables items a b c p q r

pub leg_refused : (depth : ℕ) (old first middle later last new : List ℕ) (byte : ℕ) (rs : Result (List (List Ty)) ReadEnd) (vs : Result (List Ty) ReadEnd)
    (is : Result (List Item) ReadEnd) (end : ReadEnd) → byte ≡ 1 → read_byte old ≡ Some (byte, first)
    → Reads (map (map value_type)) (read_list (read_list (read_type depth))) first middle rs → Reads (map value_type) (read_list (read_type depth)) middle later vs
    → Reads (map item_tree) (read_list (read_item depth)) later last is → (rs ≡ Err end) ⊎ (IsOk rs × (vs ≡ Err end)) ⊎ (IsOk rs × IsOk vs × (is ≡ Err end))
    → Reads {A = Leg} leg_tree (read_leg depth) old new (Err end)
leg_refused depth old first middle later last new byte rs vs is end one e a b c p =
    reads_same {A = Leg} leg_tree (read_leg depth) (lists depth) old first new (Err end) (behind_first depth old first byte one e)
    (three_refuse (map (map value_type)) (map value_type) (map item_tree) leg_tree (read_list (read_list (read_type depth))) (read_list (read_type depth))
    (read_list (read_item depth)) (λ xs ys zs. given (leg_of xs ys zs)) first middle later last new rs vs is end a b c p)

-- ---- all of the bytes

nothing_left : (b : ℕ) (bytes : List ℕ) → b ∷ bytes ≡ [] → ⊥
nothing_left b bytes h = cc (h)

pub whole_leg : (leg : Leg) (new : List ℕ) (b : Bool) → IsTrue b ↔ (new ≡ []) → option_map leg_tree (cond b (Some leg) None) ≡ whole (leg_tree leg) new
whole_leg leg [] true h = refl
whole_leg leg (x ∷ xs) true h = absurd (nothing_left x xs (h.0 refl))
whole_leg leg [] false h = absurd (true≢false (sym (h.1 refl)))
whole_leg leg (x ∷ xs) false h = refl

pub refused_leg : {E : Type 0} (depth : ℕ) (old new : List ℕ) (end : ReadEnd) (result : Result (Option Leg) E) → Reads leg_tree (read_leg depth) old new (Err end)
    → IfOk result (λ leg. (end ≡ NotKey) × (leg ≡ None)) → (key : List ℕ) → old ≡ key → depth ≡ depth_limit
    → IfOk result (λ leg. option_map leg_tree leg ≡ decode_within depth_limit key)
refused_leg depth old new end (Err e) h k key is deep = tt
refused_leg depth old new NotKey (Ok leg) h k key is deep =
    ap (option_map leg_tree) k.1 ∙ sym (ap all_of h) ∙ ap (λ bytes. decode_within depth bytes) is ∙ ap (λ d. decode_within d key) deep
refused_leg depth old new NoMemory (Ok leg) h k key is deep = cc (k.0)
