-- The tables say which records lead to a record.
use Rattle.std.proofs.Common.{◌≡◌, ℕ, zero, suc, ◌+◌, ◌-◌, ◌==◌, ◌<◌, ◌≤◌, Bool, true, false, ◌||◌, List, [], ◌∷◌, length, get_or, map, Option, Some, None, refl, sym, ap, ◌∙◌, arith}
use Rattle.std.specs.Option.{option_map, option_map_or, unwrap_or}
use Rattle.std.specs.List.{list_any, slice_get}
use Rattle.std.proofs.lemmas.Option.{unwrap_or-slice_get}
use Rattle.slang_values.specs.Value.{ValueType}
use Rattle.type_rules.specs.Records.{FieldTypes, holds_itself, leads_back, leads_within, record_named}
use Rattle.record_parts.specs.Chains.{all_back, all_held, any_back, any_leads, at_places, first_leads, leads_after, leads_by, looked, next_leads}
use Rattle.record_parts.proofs.Tables.{at_start}

or-false : (b : Bool) → b ≡ (b || false)
or-false true = refl
or-false false = refl

-- of a table that says it of each record
named_leads : (records : FieldTypes) (n d : ℕ) (table : List Bool) → ((m : ℕ) → looked table n m ≡ leads_within records d m n) →
    (o : Option ℕ) → option_map_or (looked table n) o false ≡ option_map_or (λ k. leads_within records d k n) o false
named_leads records n d table h None = refl
named_leads records n d table h (Some k) = h k

some_leads : (records : FieldTypes) (n d : ℕ) (table : List Bool) → ((m : ℕ) → looked table n m ≡ leads_within records d m n) →
    (types : List (Option ValueType)) → any_leads table n types ≡ list_any (λ type. option_map_or (λ k. leads_within records d k n) (record_named type) false) types
some_leads records n d table h [] = refl
some_leads records n d table h (type ∷ types) =
    ap (λ b. b || any_leads table n types) (named_leads records n d table h (record_named type))
    ∙ ap (λ b. option_map_or (λ k. leads_within records d k n) (record_named type) false || b) (some_leads records n d table h types)

first_at : (m n : ℕ) (o : Option (List (Option ValueType))) → unwrap_or (option_map (λ (types : List (Option ValueType)). m == n) o) (m == n) ≡ (m == n)
first_at m n None = refl
first_at m n (Some types) = refl

next_at : (records : FieldTypes) (m n d : ℕ) (table : List Bool) → ((k : ℕ) → looked table n k ≡ leads_within records d k n) →
    (o : Option (List (Option ValueType))) →
    unwrap_or (option_map (λ types. (m == n) || any_leads table n types) o) (m == n)
    ≡ ((m == n) || list_any (λ type. option_map_or (λ k. leads_within records d k n) (record_named type) false) (unwrap_or o []))
next_at records m n d table h None = or-false (m == n)
next_at records m n d table h (Some types) = ap (λ b. (m == n) || b) (some_leads records n d table h types)

pub leads_is : (records : FieldTypes) (n d m : ℕ) → looked (leads_after records n d) n m ≡ leads_within records d m n
leads_is records n zero m =
    ap (λ o. unwrap_or o (m == n)) (at_start (λ (k : ℕ) (types : List (Option ValueType)). k == n) m records)
    ∙ first_at m n (slice_get records m)
leads_is records n (suc d) m =
    let table = leads_after records n d in
    ap (λ o. unwrap_or o (m == n)) (at_start (λ (k : ℕ) (types : List (Option ValueType)). (k == n) || any_leads table n types) m records)
    ∙ next_at records m n d table (leads_is records n d) (slice_get records m)
    ∙ ap (λ types. (m == n) || list_any (λ type. option_map_or (λ k. leads_within records d k n) (record_named type) false) types)
    (unwrap_or-slice_get records m [])

pub back_is : (records : FieldTypes) (n count : ℕ) (type : Option ValueType) → count ≡ length records →
    leads_by (leads_after records n count) n type ≡ leads_back records n type
back_is records n count type e =
    ap (λ c. leads_by (leads_after records n c) n type) e
    ∙ named_leads records n (length records) (leads_after records n (length records)) (leads_is records n (length records)) (record_named type)

pub backs_are : (records : FieldTypes) (n count : ℕ) (types : List (Option ValueType)) → count ≡ length records →
    map (leads_by (leads_after records n count) n) types ≡ map (leads_back records n) types
backs_are records n count [] e = refl
backs_are records n count (type ∷ types) e =
    ap (λ b. b ∷ map (leads_by (leads_after records n count) n) types) (back_is records n count type e)
    ∙ ap (λ bs. leads_back records n type ∷ bs) (backs_are records n count types e)

-- ---- a table that does not change any more

settled_for : (records : FieldTypes) (n d e : ℕ) → leads_after records n (suc d) ≡ leads_after records n d → leads_after records n (e + d) ≡ leads_after records n d
settled_for records n d zero h =
    let none : 0 + d ≡ d = omega arith in
    ap (leads_after records n) none
settled_for records n d (suc e) h =
    let next : suc e + d ≡ suc (e + d) = omega arith in
    ap (leads_after records n) next ∙ ap (λ table. next_leads table n records) (settled_for records n d e h) ∙ h

pub settled : (records : FieldTypes) (n d count : ℕ) → d ≤ count → leads_after records n (suc d) ≡ leads_after records n d →
    leads_after records n d ≡ leads_after records n count
settled records n d count within h =
    let more : count - d + d ≡ count = omega (arith, within) in
    sym (settled_for records n d (count - d) h) ∙ ap (leads_after records n) more

-- ---- which records hold themselves

any_mapped : (f : Option ValueType → Bool) (types : List (Option ValueType)) → any_back (map f types) ≡ list_any f types
any_mapped f [] = refl
any_mapped f (type ∷ types) = ap (λ b. f type || b) (any_mapped f types)

backs_at : (records : FieldTypes) (n : ℕ) (o : Option (List (Option ValueType))) →
    unwrap_or (option_map (λ types. map (leads_back records n) types) o) [] ≡ map (leads_back records n) (unwrap_or o [])
backs_at records n None = refl
backs_at records n (Some types) = refl

pub backs_of_record : (records : FieldTypes) (n : ℕ) → get_or (all_back records) n [] ≡ map (leads_back records n) (get_or records n [])
backs_of_record records n =
    sym (unwrap_or-slice_get (all_back records) n [])
    ∙ ap (λ o. unwrap_or o []) (at_start (λ m types. map (leads_back records m) types) n records)
    ∙ backs_at records n (slice_get records n)
    ∙ ap (map (leads_back records n)) (unwrap_or-slice_get records n [])

held_at : (backs : List (List Bool)) (n : ℕ) → get_or (all_held backs) n false ≡ any_back (get_or backs n [])
held_at [] n = refl
held_at (own ∷ backs) zero = refl
held_at (own ∷ backs) (suc n) = held_at backs n

pub held_is : (records : FieldTypes) (n : ℕ) → get_or (all_held (all_back records)) n false ≡ holds_itself records n
held_is records n =
    held_at (all_back records) n
    ∙ ap any_back (backs_of_record records n)
    ∙ any_mapped (leads_back records n) (get_or records n [])
