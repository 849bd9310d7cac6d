-- What is found at a form, from what is found at its parts.
use Rattle.std.proofs.Common.{◌≡◌, ℕ, suc, arith, ◌+◌, ◌<◌, length, drop, get_or, Bool, true, false, cond, ◌&&◌, Option, Some, None, List, [], ◌∷◌, ◌++◌, map, refl, sym, ap, ◌∙◌, subst, append-nil, append_assoc}
use Rattle.std.specs.Option.{is_some, option_map}
use Rattle.std.proofs.Math.Seq.{drop-cons}
use Rattle.std.proofs.lemmas.List.{map-append}
use Rattle.slang_values.specs.Value.{ValueType}
use Rattle.slang_tree.specs.declared.place.Place.{Place}
use Rattle.slang_tree.specs.declared.place.Fault.{Fault}
use Rattle.type_rules.specs.Judged.{Judged, all_expect, are_typed, expect_each, expects, faults_of, over, typed_without, untyped}
use Rattle.type_faults.specs.FirstFault.{told_of, with_first}
use Rattle.type_faults.proofs.First.{for_all, in_turn}
use Rattle.type_rules.specs.Faults.{first_fault}
use Rattle.text_types.specs.declared.text_type.TextType.{TextType}
use Rattle.text_types.specs.TextType.{text_value}
use Rattle.text_types.specs.Found.{AreJudged, IsJudged, bare, seen}
use Rattle.text_types.specs.declared.found.Found.{Found}

pub with_none : (found : Option Fault) → with_first found [] ≡ found
with_none None = refl
with_none (Some found) = refl

pub faults_of-append : (xs ys : List Judged) → faults_of (xs ++ ys) ≡ faults_of xs ++ faults_of ys
faults_of-append [] ys = refl
faults_of-append (x ∷ xs) ys = ap (λ fs. x.faults ++ fs) (faults_of-append xs ys) ∙ sym (append_assoc x.faults (faults_of xs) (faults_of ys))

pub faults_of-bare : (parts : List Judged) → faults_of (map bare parts) ≡ []
faults_of-bare [] = refl
faults_of-bare (part ∷ parts) = faults_of-bare parts

pub are_typed-bare : (parts : List Judged) → are_typed (map bare parts) ≡ are_typed parts
are_typed-bare [] = refl
are_typed-bare (part ∷ parts) = ap (λ b. is_some part.type && b) (are_typed-bare parts)

pub all_expect-bare : (t : ValueType) (parts : List Judged) → all_expect t (map bare parts) ≡ all_expect t parts
all_expect-bare t [] = refl
all_expect-bare t (part ∷ parts) = ap (λ fs. expects t part ++ fs) (all_expect-bare t parts)

pub expect_each-bare : (ts : List ValueType) (parts : List Judged) → expect_each ts (map bare parts) ≡ expect_each ts parts
expect_each-bare [] parts = refl
expect_each-bare (t ∷ ts) [] = refl
expect_each-bare (t ∷ ts) (part ∷ parts) = ap (λ fs. expects t part ++ fs) (expect_each-bare ts parts)

-- ---- several parts

pub judged_none : (before : Option Fault) → AreJudged before before [] []
judged_none before = record { told = sym (with_none before); are = refl }

pub judged_append : {a b c : Option Fault} {xs ys : List Found} {ps qs : List Judged} →
    AreJudged a b xs ps → AreJudged b c ys qs → AreJudged a c (xs ++ ys) (ps ++ qs)
judged_append {a} {b} {c} {xs} {ys} {ps} {qs} x y = record {
  told = y.told ∙ ap (λ found. with_first found (faults_of qs)) x.told ∙ in_turn a (faults_of ps) (faults_of qs)
      ∙ ap (with_first a) (sym (faults_of-append ps qs));
  are = map-append seen xs ys ∙ ap (λ fs. fs ++ map seen ys) x.are ∙ ap (λ fs. map bare ps ++ fs) y.are ∙ sym (map-append bare ps qs);
}

pub judged_one : {a b : Option Fault} {x : Found} {p : Judged} → IsJudged a b x p → AreJudged a b (x ∷ []) (p ∷ [])
judged_one {a} {b} {x} {p} h = record { told = h.told ∙ ap (with_first a) (sym (append-nil p.faults)); are = ap (λ f. f ∷ []) h.is }

-- ---- a form over parts

over_told : (typed : Bool) (before : Option Fault) (part_faults own : List Fault) →
    with_first (with_first before part_faults) (cond typed own []) ≡ with_first before (part_faults ++ cond typed own [])
over_told typed before part_faults own = in_turn before part_faults (cond typed own [])

-- the faults of its parts told of, and then its own
pub judged_over : {a b c : Option Fault} {founds : List Found} {result : Found} (place : Place) (parts : List Judged) (own : List Fault) (type : Option ValueType) →
    AreJudged a b founds parts → IsJudged b c result (over place (map bare parts) own type) → IsJudged a c result (over place parts own type)
judged_over {a} {b} {c} place parts own type before after = record {
  told = after.told
      ∙ ap (λ found. with_first found (faults_of (map bare parts) ++ cond (are_typed (map bare parts)) own [])) before.told
      ∙ ap (λ fs. with_first (with_first a (faults_of parts)) (fs ++ cond (are_typed (map bare parts)) own [])) (faults_of-bare parts)
      ∙ ap (λ typed. with_first (with_first a (faults_of parts)) (cond typed own [])) (are_typed-bare parts)
      ∙ in_turn a (faults_of parts) (cond (are_typed parts) own []);
  is = after.is ∙ ap (λ typed. record { place = place; faults = []; type = cond typed (typed_without own type) None }) (are_typed-bare parts);
}

-- ---- the end of a form

pub faults_of-seen : (founds : List Found) → faults_of (map seen founds) ≡ []
faults_of-seen [] = refl
faults_of-seen (found ∷ founds) = faults_of-seen founds

-- a form of which a part has no type
pub over_untyped : (before : Option Fault) (result : Found) (place : Place) (founds : List Found) (own : List Fault) (type : Option ValueType) →
    are_typed (map seen founds) ≡ false → seen result ≡ untyped place [] → IsJudged before before result (over place (map seen founds) own type)
over_untyped before result place founds own type missing is = record {
  told = sym (with_none before)
      ∙ ap (λ fs. with_first before (fs ++ [])) (sym (faults_of-seen founds))
      ∙ ap (λ typed. with_first before (faults_of (map seen founds) ++ cond typed own [])) (sym missing);
  is = is ∙ ap (λ typed. record { place = place; faults = []; type = cond typed (typed_without own type) None }) (sym missing);
}

without : (own : List Fault) (ty : Option TextType) →
    option_map text_value (cond (is_some (first_fault own)) None ty) ≡ typed_without own (option_map text_value ty)
without [] ty = refl
without (fault ∷ faults) ty = refl

-- a form of which all parts have types
pub over_typed : (before after : Option Fault) (place : Place) (founds : List Found) (own : List Fault) (first : Option Fault) (ty found_type : Option TextType) →
    are_typed (map seen founds) ≡ true → first ≡ first_fault own → after ≡ with_first before (told_of first) → found_type ≡ cond (is_some first) None ty →
    IsJudged before after (record { place = place; ty = found_type }) (over place (map seen founds) own (option_map text_value ty))
over_typed before after place founds own first ty found_type typed is told found = record {
  told = told
      ∙ ap (λ f. with_first before (told_of f)) is
      ∙ for_all before own
      ∙ ap (λ fs. with_first before (fs ++ own)) (sym (faults_of-seen founds))
      ∙ ap (λ b. with_first before (faults_of (map seen founds) ++ cond b own [])) (sym typed);
  is = ap (λ t. record { place = place; faults = []; type = option_map text_value t }) (found ∙ ap (λ f. cond (is_some f) None ty) is)
      ∙ ap (λ t. record { place = place; faults = []; type = t }) (without own ty)
      ∙ ap (λ b. record { place = place; faults = []; type = cond b (typed_without own (option_map text_value ty)) None }) (sym typed);
}

-- ---- lists, element by element

from : {X : Type 0} (xs : List X) (i : ℕ) (d : X) → i < length xs → drop i xs ≡ get_or xs i d ∷ drop (i + 1) xs
from xs i d within =
    let next : suc i ≡ i + 1 = omega arith in
    drop-cons xs i d within ∙ ap (λ n. get_or xs i d ∷ drop n xs) next

pub expects_next : (start told next : Option Fault) (t : ValueType) (parts : List Found) (i : ℕ) (d : Found) → i < length parts →
    with_first told (all_expect t (map seen (drop i parts))) ≡ with_first start (all_expect t (map seen parts)) →
    next ≡ with_first told (expects t (seen (get_or parts i d))) →
    with_first next (all_expect t (map seen (drop (i + 1) parts))) ≡ with_first start (all_expect t (map seen parts))
expects_next start told next t parts i d within before more =
    ap (λ f. with_first f (all_expect t (map seen (drop (i + 1) parts)))) more
    ∙ in_turn told (expects t (seen (get_or parts i d))) (all_expect t (map seen (drop (i + 1) parts)))
    ∙ ap (λ xs. with_first told (all_expect t (map seen xs))) (sym (from parts i d within))
    ∙ before

pub each_next : (start told next : Option Fault) (types : List TextType) (parts : List Found) (i : ℕ) (e : TextType) (d : Found) →
    i < length types → length types ≡ length parts →
    with_first told (expect_each (map text_value (drop i types)) (map seen (drop i parts))) ≡ with_first start (expect_each (map text_value types) (map seen parts)) →
    next ≡ with_first told (expects (text_value (get_or types i e)) (seen (get_or parts i d))) →
    with_first next (expect_each (map text_value (drop (i + 1) types)) (map seen (drop (i + 1) parts)))
    ≡ with_first start (expect_each (map text_value types) (map seen parts))
each_next start told next types parts i e d types_within long before more =
    let rest = expect_each (map text_value (drop (i + 1) types)) (map seen (drop (i + 1) parts)) in
    let within : i < length parts = omega (arith, long, types_within) in
    ap (λ f. with_first f rest) more
    ∙ in_turn told (expects (text_value (get_or types i e)) (seen (get_or parts i d))) rest
    ∙ ap (λ xs. with_first told (expect_each (map text_value xs) (seen (get_or parts i d) ∷ map seen (drop (i + 1) parts)))) (sym (from types i e types_within))
    ∙ ap (λ xs. with_first told (expect_each (map text_value (drop i types)) (map seen xs))) (sym (from parts i d within))
    ∙ before
