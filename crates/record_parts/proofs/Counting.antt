-- The tables say how many parts records have.
use Rattle.std.proofs.Common.{◌≡◌, ℕ, zero, suc, ◌+◌, ◌-◌, ◌<◌, ◌≤◌, min, sum, Bool, true, false, cond, List, [], ◌∷◌, length, get_or, map, Option, Some, None, refl, sym, ap, ◌∙◌, arith}
use Rattle.std.specs.Option.{option_map, unwrap_or}
use Rattle.std.specs.List.{list_any, slice_get}
use Rattle.std.proofs.lemmas.Option.{unwrap_or-slice_get}
use Rattle.std.proofs.lemmas.List.Sums.{sum_by-cons}
use Rattle.slang_values.specs.Value.{ValueType, unit_type, number_type, truth_type, sequence_type, record_type}
use Rattle.type_rules.specs.Records.{FieldTypes, holds_itself, leads_back, parts_with, parts_within}
use Rattle.record_parts.specs.Chains.{at_places}
use Rattle.record_parts.specs.Parts.{brought, capped, counted, next_parts, parts_after, total}
use Rattle.record_parts.proofs.Tables.{at_start}

-- the table has what a function gives, up to 1,001
abbrev pub Counts : List ℕ → (ℕ → ℕ) → Type 0
Counts parts f = (k : ℕ) → get_or parts k 0 ≡ capped (f k)

twice : (s x : ℕ) → capped (s + (1 + capped (capped x))) ≡ capped (s + (1 + x))
twice s x = omega arith

pub brought_is : (parts : List ℕ) (f : ℕ → ℕ) → Counts parts f → (s : ℕ) (type : Option ValueType) → capped (s + brought parts type) ≡ capped (s + parts_with f type)
brought_is parts f h s None = refl
brought_is parts f h s (Some unit_type) = refl
brought_is parts f h s (Some number_type) = refl
brought_is parts f h s (Some truth_type) = refl
brought_is parts f h s (Some (sequence_type t)) = refl
brought_is parts f h s (Some (record_type k)) = ap (λ x. capped (s + (1 + capped x))) (h k) ∙ twice s (f k)

capped_sum : (s b p t : ℕ) → capped (s + b) ≡ capped (s + p) → capped (capped (s + b) + t) ≡ capped (s + (p + t))
capped_sum s b p t h = omega (arith, h)

few : (s : ℕ) → s ≤ 1001 → s ≡ capped (s + 0)
few s h = omega (arith, h)

capped_few : (s : ℕ) → capped s ≤ 1001
capped_few s = omega arith

pub total_is : (parts : List ℕ) (f : ℕ → ℕ) → Counts parts f → (s : ℕ) → s ≤ 1001 → (types : List (Option ValueType)) →
    total parts s types ≡ capped (s + sum (map (parts_with f) types))
total_is parts f h s within [] = few s within
total_is parts f h s within (type ∷ types) =
    let rest = sum (map (parts_with f) types) in
    total_is parts f h (capped (s + brought parts type)) (capped_few (s + brought parts type)) types
    ∙ capped_sum s (brought parts type) (parts_with f type) rest (brought_is parts f h s type)
    ∙ ap (λ n. capped (s + n)) (sym (sum_by-cons (λ x. x) (parts_with f type) (map (parts_with f) types)))

-- ---- through records one deeper

own_parts : (b held : Bool) (parts : List ℕ) (f : ℕ → ℕ) → Counts parts f → (types : List (Option ValueType)) → b ≡ held →
    cond b 0 (total parts 0 types) ≡ capped (cond held 0 (sum (map (parts_with f) types)))
own_parts b true parts f h types e = ap (λ x. cond x 0 (total parts 0 types)) e
own_parts b false parts f h types e =
    let start : 0 + sum (map (parts_with f) types) ≡ sum (map (parts_with f) types) = omega arith in
    ap (λ x. cond x 0 (total parts 0 types)) e ∙ total_is parts f h 0 (omega arith) types ∙ ap capped start

next_at : (held : List Bool) (records : FieldTypes) (n : ℕ) (b : Bool) (parts : List ℕ) (f : ℕ → ℕ) → Counts parts f → get_or held n false ≡ b →
    (o : Option (List (Option ValueType))) → (o ≡ None → b ≡ false) →
    unwrap_or (option_map (λ types. cond (get_or held n false) 0 (total parts 0 types)) o) 0 ≡ capped (cond b 0 (sum (map (parts_with f) (unwrap_or o []))))
next_at held records n b parts f h e None none = ap (λ x. capped (cond x 0 0)) (sym (none refl))
next_at held records n b parts f h e (Some types) none = own_parts (get_or held n false) b parts f h types e

not_there : (records : FieldTypes) (n : ℕ) → slice_get records n ≡ None → holds_itself records n ≡ false
not_there records n h =
    ap (λ types. list_any (leads_back records n) types) (sym (unwrap_or-slice_get records n []) ∙ ap (λ o. unwrap_or o []) h)

first_at : (o : Option (List (Option ValueType))) → unwrap_or (option_map (λ (types : List (Option ValueType)). 0) o) 0 ≡ capped 0
first_at None = refl
first_at (Some types) = refl

pub parts_are : (held : List Bool) (records : FieldTypes) → ((n : ℕ) → get_or held n false ≡ holds_itself records n) →
    (d : ℕ) → Counts (parts_after held records d) (parts_within records d)
parts_are held records h zero n =
    sym (unwrap_or-slice_get (parts_after held records zero) n 0)
    ∙ ap (λ o. unwrap_or o 0) (at_start (λ (k : ℕ) (types : List (Option ValueType)). 0) n records)
    ∙ first_at (slice_get records n)
parts_are held records h (suc d) n =
    let parts = parts_after held records d in
    let f = parts_within records d in
    sym (unwrap_or-slice_get (parts_after held records (suc d)) n 0)
    ∙ ap (λ o. unwrap_or o 0) (at_start (λ (k : ℕ) (types : List (Option ValueType)). cond (get_or held k false) 0 (total parts 0 types)) n records)
    ∙ next_at held records n (holds_itself records n) parts f (parts_are held records h d) (h n) (slice_get records n) (not_there records n)
    ∙ ap (λ types. capped (cond (holds_itself records n) 0 (sum (map (parts_with f) types)))) (unwrap_or-slice_get records n [])

-- ---- a table that does not change any more

settled_for : (held : List Bool) (records : FieldTypes) (d e : ℕ) → parts_after held records (suc d) ≡ parts_after held records d →
    parts_after held records (e + d) ≡ parts_after held records d
settled_for held records d zero h =
    let none : 0 + d ≡ d = omega arith in
    ap (parts_after held records) none
settled_for held records d (suc e) h =
    let next : suc e + d ≡ suc (e + d) = omega arith in
    ap (parts_after held records) next ∙ ap (λ parts. next_parts held parts records) (settled_for held records d e h) ∙ h

pub settled : (held : List Bool) (records : FieldTypes) (d count : ℕ) → d ≤ count → parts_after held records (suc d) ≡ parts_after held records d →
    parts_after held records d ≡ parts_after held records count
settled held records d count within h =
    let more : count - d + d ≡ count = omega (arith, within) in
    sym (settled_for held records d (count - d) h) ∙ ap (parts_after held records) more
