-- Which fields of a record may be of their types, place by place.
use Rattle.std.proofs.Common.{◌≡◌, ℕ, zero, suc, ◌+◌, ◌<◌, ◌≤◌, min, sum, nat_le, nat_lt, Bool, true, false, not, ◌&&◌, ◌||◌, List, [], ◌∷◌, ◌++◌, length, get_or, take, map, Option, append_assoc, length-append, refl, sym, subst, ap, ◌∙◌, arith}
use Rattle.std.proofs.Math.Seq.{get_or-append_seam, take-append_seam}
use Rattle.std.proofs.lemmas.List.{length-map, map-append}
use Rattle.std.proofs.lemmas.List.Sums.{sum_by-append}
use Rattle.slang_values.specs.Value.{ValueType}
use Rattle.type_rules.specs.Records.{FieldTypes, holds_itself, is_allowed, is_one_too_many, leads_back, parts_brought, parts_with, parts_within, types_of_record}
use Rattle.text_types.specs.declared.text_type.TextType.{TextType}
use Rattle.record_parts.specs.Chains.{all_back, all_held, at_places, fields_seen, types_seen}
use Rattle.record_parts.specs.Parts.{allowed_from, brought, capped, parts_after}
use Rattle.record_parts.proofs.Counting.{Counts, brought_is, parts_are}
use Rattle.record_parts.proofs.Reaching.{backs_of_record, held_is}

le_capped : (x : ℕ) → nat_le (capped x) 1000 ≡ nat_le x 1000
le_capped x = grind arith

lt_capped : (x : ℕ) → nat_lt 1000 (capped x) ≡ nat_lt 1000 x
lt_capped x = grind arith

capped_twice : (x y : ℕ) → capped (capped x + y) ≡ capped (x + y)
capped_twice x y = omega arith

sum_one : (xs : List ℕ) (y : ℕ) → sum (xs ++ y ∷ []) ≡ sum xs + y
sum_one xs y =
    let one : 0 + y ≡ y = omega arith in
    sum_by-append (λ x. x) xs (y ∷ []) ∙ ap (λ n. sum xs + n) one

-- a field that is behind others of the record
too_many_at : (records : FieldTypes) (n : ℕ) (before after : List (Option ValueType)) (type : Option ValueType) →
    types_of_record records n ≡ before ++ type ∷ after →
    is_one_too_many records n (length before)
    ≡ (nat_le (sum (map (parts_with (parts_within records (length records))) before)) 1000
    && nat_lt 1000 (sum (map (parts_with (parts_within records (length records))) before) + parts_with (parts_within records (length records)) type))
too_many_at records n before after type is =
    let p = parts_with (parts_within records (length records)) in
    let all : map p (types_of_record records n) ≡ map p before ++ p type ∷ map p after = ap (map p) is ∙ map-append p before (type ∷ after) in
    let fewer : take (length before) (map p (types_of_record records n)) ≡ map p before =
    ap (take (length before)) all ∙ ap (λ k. take k (map p before ++ p type ∷ map p after)) (sym (length-map before p)) ∙ take-append_seam (map p before) (p type ∷ map p after) in
    let long : suc (length before) ≡ length (map p before ++ p type ∷ []) =
    omega (arith, length-append (map p before) (p type ∷ []), length-map before p) in
    let more : take (suc (length before)) (map p (types_of_record records n)) ≡ map p before ++ p type ∷ [] =
    ap (take (suc (length before))) (all ∙ sym (append_assoc (map p before) (p type ∷ []) (map p after)))
    ∙ ap (λ k. take k ((map p before ++ p type ∷ []) ++ map p after)) long
    ∙ take-append_seam (map p before ++ p type ∷ []) (map p after) in
    let one : sum (map p before ++ p type ∷ []) ≡ sum (map p before) + p type = sum_one (map p before) (p type) in
    ap (λ xs. nat_le (sum xs) 1000 && nat_lt 1000 (sum (take (suc (length before)) (map p (types_of_record records n))))) fewer
    ∙ ap (λ xs. nat_le (sum (map p before)) 1000 && nat_lt 1000 (sum xs)) more
    ∙ ap (λ x. nat_le (sum (map p before)) 1000 && nat_lt 1000 x) one

same_allowed : (b c h g m k : Bool) → b ≡ c → h ≡ g → m ≡ k → (not b && (h || not m)) ≡ (not c && (g || not k))
same_allowed b c h g m k bc hg mk =
    ap (λ x. not x && (h || not m)) bc ∙ ap (λ x. not c && (x || not m)) hg ∙ ap (λ x. not c && (g || not x)) mk

pub allowed_is : (records : FieldTypes) (n : ℕ) (parts : List ℕ) (held : Bool) (backs : List Bool) (all : List (Option ValueType)) →
    Counts parts (parts_within records (length records)) → held ≡ holds_itself records n → types_of_record records n ≡ all → backs ≡ map (leads_back records n) all →
    (before after : List (Option ValueType)) (s k : ℕ) → all ≡ before ++ after → k ≡ length before →
    s ≡ capped (sum (map (parts_with (parts_within records (length records))) before)) →
    allowed_from parts held backs s k after ≡ at_places (is_allowed records n) k after
allowed_is records n parts held backs all counts holds own back before [] s k split at is = refl
allowed_is records n parts held backs all counts holds own back before (type ∷ after) s k split at is =
    let f = parts_within records (length records) in
    let p = parts_with f in
    let lb = leads_back records n in
    let more = capped (s + brought parts type) in
    let leads : get_or backs k false ≡ lb type =
    ap (λ bs. get_or bs k false) (back ∙ ap (map lb) split ∙ map-append lb before (type ∷ after))
    ∙ ap (λ j. get_or (map lb before ++ lb type ∷ map lb after) j false) (at ∙ sym (length-map before lb))
    ∙ get_or-append_seam (map lb before) (lb type) (map lb after) false in
    let sums : more ≡ capped (sum (map p before) + p type) =
    brought_is parts f counts s type ∙ ap (λ x. capped (x + p type)) is ∙ capped_twice (sum (map p before)) (p type) in
    let many : (nat_le s 1000 && nat_lt 1000 more) ≡ is_one_too_many records n k =
    ap (λ x. nat_le x 1000 && nat_lt 1000 more) is
    ∙ ap (λ b. b && nat_lt 1000 more) (le_capped (sum (map p before)))
    ∙ ap (λ x. nat_le (sum (map p before)) 1000 && nat_lt 1000 x) sums
    ∙ ap (λ b. nat_le (sum (map p before)) 1000 && b) (lt_capped (sum (map p before) + p type))
    ∙ sym (too_many_at records n before after type (own ∙ split))
    ∙ ap (is_one_too_many records n) (sym at) in
    let longer : k + 1 ≡ length (before ++ type ∷ []) = omega (arith, at, length-append before (type ∷ [])) in
    let total : more ≡ capped (sum (map p (before ++ type ∷ []))) =
    sums ∙ ap capped (sym (ap sum (map-append p before (type ∷ [])) ∙ sum_one (map p before) (p type))) in
    ap (λ b. b ∷ allowed_from parts held backs more (k + 1) after)
    (same_allowed (get_or backs k false) (lb type) held (holds_itself records n) (nat_le s 1000 && nat_lt 1000 more) (is_one_too_many records n k) leads holds many)
    ∙ ap (λ bs. is_allowed records n k type ∷ bs)
    (allowed_is records n parts held backs all counts holds own back (before ++ type ∷ []) after more (k + 1) (split ∙ sym (append_assoc before (type ∷ []) after)) longer total)

-- ---- from the tables

get_seen : (types : List (List (Option TextType))) (n : ℕ) (x : List (Option TextType)) → n < length types → x ≡ get_or types n x →
    get_or (types_seen types) n [] ≡ fields_seen x
get_seen [] n x within is = absurd (omega (arith, within))
get_seen (fields ∷ types) zero x within is = ap fields_seen (sym is)
get_seen (fields ∷ types) (suc n) x within is = get_seen types n x (omega (arith, within)) is

pub own_is : (types : List (List (Option TextType))) (n : ℕ) (x : List (Option TextType)) (parts : List ℕ) (held backs : List Bool) (holds : Bool) →
    n < length types → x ≡ get_or types n x → held ≡ all_held (all_back (types_seen types)) → parts ≡ parts_after held (types_seen types) (length types) →
    holds ≡ get_or held n false → backs ≡ get_or (all_back (types_seen types)) n [] →
    allowed_from parts holds backs 0 0 (fields_seen x) ≡ at_places (is_allowed (types_seen types) n) 0 (fields_seen x)
own_is types n x parts held backs holds within is held-are parts-are holds-is backs-are =
    let records = types_seen types in
    let own : get_or records n [] ≡ fields_seen x = get_seen types n x within is in
    let table : parts ≡ parts_after held records (length records) = parts-are ∙ ap (parts_after held records) (sym (length-map types fields_seen)) in
    let counts : Counts parts (parts_within records (length records)) =
    subst (λ ps. Counts ps (parts_within records (length records))) (sym table)
    (parts_are held records (λ m. ap (λ h. get_or h m false) held-are ∙ held_is records m) (length records)) in
    allowed_is records n parts holds backs (fields_seen x) counts (holds-is ∙ ap (λ h. get_or h n false) held-are ∙ held_is records n) own
    (backs-are ∙ backs_of_record records n ∙ ap (map (leads_back records n)) own) [] (fields_seen x) 0 0 refl refl (omega arith)
