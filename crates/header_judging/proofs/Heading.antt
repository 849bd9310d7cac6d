-- Parameters that come into scope, and what is wrong with them, in any order.
use Rattle.std.proofs.Common.{◌≡◌, ℕ, zero, suc, ◌+◌, ◌<◌, ◌≤◌, Bool, false, Option, Some, None, List, [], ◌∷◌, ◌++◌, length, take, drop, get_or, map, refl, sym, subst, ap, ◌∙◌, append_assoc, append-nil, arith}
use Rattle.std.proofs.Math.Seq.{drop-cons}
use Rattle.std.proofs.lemmas.List.{length-map}
use Rattle.slang_values.specs.Value.{ValueType}
use Rattle.slang_tree.specs.declared.place.Fault.{Fault}
use Rattle.slang_tree.specs.declared.declaration.Param.{Param}
use Rattle.slang_tree.specs.DeclTree.{MethodDeclTree, TypedName, param_tree}
use Rattle.text_types.specs.declared.found.Found.{Found}
use Rattle.text_types.specs.Found.{bare, seen}
use Rattle.name_scopes.specs.declared.scope.NameScope.{NameScope}
use Rattle.name_scopes.specs.Fits.{Fits}
use Rattle.type_faults.specs.FirstFault.{with_first}
use Rattle.type_faults.proofs.First.{in_any_order, in_turn}
use Rattle.text_types.proofs.Parts.{with_none}
use Rattle.type_rules.specs.Judged.{Judged, faults_of}
use Rattle.type_rules.specs.Meanings.{Declared, Scope, with_local}
use Rattle.type_rules.specs.Steps.{new_name_faults}
use Rattle.type_rules.specs.Projects.{contract_scope, param_types, params_faults, result_type, with_params}
use Rattle.header_judging.specs.Headers.{ParamsSoFar, contract_faults, header_faults, new_params_faults, types_faults}

-- ---- names and types of parameters

-- of types without their faults
pub new-bare : (scope : Scope) (params : List TypedName) (types : List Judged) → new_params_faults scope params (map bare types) ≡ new_params_faults scope params types
new-bare scope [] types = refl
new-bare scope (param ∷ params) [] = refl
new-bare scope (param ∷ params) (type ∷ types) =
    ap (λ fs. new_name_faults scope param.written ++ fs) (new-bare (with_local scope param.written.text false type.type) params types)

pub with-bare : (scope : Scope) (params : List TypedName) (types : List Judged) → with_params scope params (map bare types) ≡ with_params scope params types
with-bare scope [] types = refl
with-bare scope (param ∷ params) [] = refl
with-bare scope (param ∷ params) (type ∷ types) = with-bare (with_local scope param.written.text false type.type) params types

-- four kinds of faults, the middle ones the other way round
turned : (found : Option Fault) (ws bs cs ds : List Fault) → with_first found (ws ++ bs ++ (cs ++ ds)) ≡ with_first found (bs ++ cs ++ (ws ++ ds))
turned found ws bs cs ds =
    ap (with_first found) (append_assoc ws bs (cs ++ ds) ∙ ap (λ fs. ws ++ fs) (sym (append_assoc bs cs ds)))
    ∙ sym (in_turn found ws (bs ++ cs ++ ds))
    ∙ sym (in_turn (with_first found ws) (bs ++ cs) ds)
    ∙ ap (λ f. with_first f ds) (in_turn found ws (bs ++ cs) ∙ in_any_order found ws (bs ++ cs) ∙ sym (in_turn found (bs ++ cs) ws))
    ∙ in_turn (with_first found (bs ++ cs)) ws ds
    ∙ in_turn found (bs ++ cs) (ws ++ ds)

-- The faults of the types may be told first.
pub params_apart : (found : Option Fault) (scope : Scope) (params : List TypedName) (types : List Judged) → length params ≡ length types →
    with_first found (params_faults scope params types) ≡ with_first found (faults_of types ++ new_params_faults scope params types)
params_apart found scope [] [] h = refl
params_apart found scope [] (type ∷ types) h = absurd (omega (arith, h))
params_apart found scope (param ∷ params) [] h = refl
params_apart found scope (param ∷ params) (type ∷ types) h =
    let inner = with_local scope param.written.text false type.type in
    let own = new_name_faults scope param.written in
    let long : length params ≡ length types = omega (arith, h) in
    sym (in_turn found (own ++ type.faults) (params_faults inner params types))
    ∙ params_apart (with_first found (own ++ type.faults)) inner params types long
    ∙ in_turn found (own ++ type.faults) (faults_of types ++ new_params_faults inner params types)
    ∙ turned found own type.faults (faults_of types) (new_params_faults inner params types)

types-length : (names : List Declared) (params : List TypedName) → length params ≡ length (param_types names params)
types-length names [] = refl
types-length names (param ∷ params) = ap suc (types-length _ params)

-- ---- one parameter after the other

from : {X : Type 0} (xs : List X) (i : ℕ) (x : X) → i < length xs → x ≡ get_or xs i x → drop i xs ≡ x ∷ drop (i + 1) xs
from xs i x within is =
    let next : suc i ≡ i + 1 = omega arith in
    drop-cons xs i x within ∙ ap (λ n. get_or xs i x ∷ drop n xs) next ∙ ap (λ y. y ∷ drop (i + 1) xs) (sym is)

pub seen_as_many : (names : List Declared) (params : List Param) (types : List Found) → map seen types ≡ map bare (param_types names (map param_tree params)) → length params ≡ length types
seen_as_many names params types h =
    sym (length-map params param_tree) ∙ types-length names (map param_tree params) ∙ sym (length-map (param_types names (map param_tree params)) bare) ∙ sym (ap length h) ∙ length-map types seen

-- ---- the whole header

pub types_told : (a b c : Option Fault) (names : List Declared) (scope : Scope) (decl : MethodDeclTree) (seen_types : List Judged) →
    seen_types ≡ map bare (param_types names decl.params) →
    b ≡ with_first a (faults_of (param_types names decl.params) ++ (result_type names decl).faults) →
    c ≡ with_first b (new_params_faults scope decl.params seen_types) → c ≡ with_first a (types_faults names scope decl)
types_told a b c names scope decl seen_types are types new =
    let ts = param_types names decl.params in
    let news = new_params_faults scope decl.params ts in
    let rs = (result_type names decl).faults in
    new
    ∙ ap (λ s. with_first b (new_params_faults scope decl.params s)) are ∙ ap (with_first b) (new-bare scope decl.params ts)
    ∙ ap (λ f. with_first f news) types
    ∙ in_turn a (faults_of ts ++ rs) news
    ∙ ap (with_first a) (append_assoc (faults_of ts) rs news)
    ∙ sym (in_turn a (faults_of ts) (rs ++ news))
    ∙ in_any_order (with_first a (faults_of ts)) rs news
    ∙ in_turn a (faults_of ts) (news ++ rs)
    ∙ ap (with_first a) (sym (append_assoc (faults_of ts) news rs))
    ∙ sym (in_turn a (faults_of ts ++ news) rs)
    ∙ ap (λ f. with_first f rs) (sym (params_apart a scope decl.params ts (types-length names decl.params)))
    ∙ in_turn a (params_faults scope decl.params ts) rs

pub header_told : (a b c : Option Fault) (names : List Declared) (scope : Scope) (decl : MethodDeclTree) (type : Option ValueType) → type ≡ (result_type names decl).type →
    b ≡ with_first a (types_faults names scope decl) → c ≡ with_first b (contract_faults (contract_scope names scope decl) type decl) →
    c ≡ with_first a (header_faults names scope decl)
header_told a b c names scope decl type is types contract =
    let at = contract_scope names scope decl in
    let T = types_faults names scope decl in
    contract
    ∙ ap (λ t. with_first b (contract_faults at t decl)) is
    ∙ ap (λ f. with_first f (contract_faults at (result_type names decl).type decl)) types
    ∙ in_turn a T (contract_faults at (result_type names decl).type decl)
    ∙ ap (with_first a) (three_apart T _ _ _)
  where
    three_apart : (t x y z : List Fault) → t ++ (x ++ y ++ z) ≡ t ++ x ++ y ++ z
    three_apart t x y z = sym (append_assoc t (x ++ y) z) ∙ ap (λ fs. fs ++ z) (sym (append_assoc t x y))

-- ---- the loop

any_default : {X : Type 0} (xs : List X) (i : ℕ) (d e : X) → i < length xs → get_or xs i d ≡ get_or xs i e
any_default [] i d e h = absurd (omega (arith, h))
any_default (x ∷ xs) zero d e h = refl
any_default (x ∷ xs) (suc i) d e h = any_default xs i d e (omega (arith, h))

pub params_step : {start told new : Option Fault} (known new_known : NameScope) (at : Scope) (params : List Param) (types : List Found) (i : ℕ) (p : Param) (d : Found)
    (all_params : List TypedName) (all_types : List Judged) →
    i < length params → p ≡ get_or params i p → length params ≡ length types →
    ((place : Scope) → Fits known place → new ≡ with_first told (new_name_faults place (param_tree p).written)) →
    ((place : Scope) → Fits known place → Fits new_known (with_local place (param_tree p).written.text false (seen (get_or types i d)).type)) →
    ParamsSoFar start told known at (map param_tree (drop i params)) all_params (map seen (drop i types)) all_types →
    ParamsSoFar start new new_known at (map param_tree (drop (i + 1) params)) all_params (map seen (drop (i + 1) types)) all_types
params_step {start} {told} {new} known new_known at params types i p d all_params all_types within p-is long tells declares before =
    let types_within : i < length types = omega (arith, within, long) in
    let t = get_or types i d in
    let t-is : t ≡ get_or types i t = any_default types i d t types_within in
    let inner = with_local before.place (param_tree p).written.text false (seen t).type in
    let ps = map param_tree (drop (i + 1) params) in
    let ts = map seen (drop (i + 1) types) in
    let params-are : map param_tree (drop i params) ≡ param_tree p ∷ ps = ap (map param_tree) (from params i p within p-is) in
    let types-are : map seen (drop i types) ≡ seen t ∷ ts = ap (map seen) (from types i t types_within t-is) in
    record {
      place = inner;
      fits = declares before.place before.fits;
      faults = ap (λ f. with_first f (new_params_faults inner ps ts)) (tells before.place before.fits)
          ∙ in_turn told (new_name_faults before.place (param_tree p).written) (new_params_faults inner ps ts)
          ∙ ap (λ xs. with_first told (new_params_faults before.place (param_tree p ∷ ps) xs)) (sym types-are)
          ∙ ap (λ xs. with_first told (new_params_faults before.place xs (map seen (drop i types)))) (sym params-are)
          ∙ before.faults;
      scope = ap (λ xs. with_params before.place (param_tree p ∷ ps) xs) (sym types-are)
          ∙ ap (λ xs. with_params before.place xs (map seen (drop i types))) (sym params-are)
          ∙ before.scope;
    }

pub drop_all : {X : Type 0} (xs : List X) (n : ℕ) → length xs ≤ n → drop n xs ≡ []
drop_all [] zero h = refl
drop_all [] (suc n) h = refl
drop_all (x ∷ xs) zero h = absurd (omega (arith, h))
drop_all (x ∷ xs) (suc n) h = drop_all xs n (omega (arith, h))

pub params_told : {start told : Option Fault} (known : NameScope) (at : Scope) (params : List Param) (i : ℕ) (all_params : List TypedName) (types all_types : List Judged) → length params ≤ i →
    ParamsSoFar start told known at (map param_tree (drop i params)) all_params types all_types → told ≡ with_first start (new_params_faults at all_params all_types)
params_told {start} {told} known at params i all_params types all_types over h =
    sym (with_none told) ∙ ap (λ ps. with_first told (new_params_faults h.place (map param_tree ps) types)) (sym (drop_all params i over)) ∙ h.faults

pub params_fit : {start told : Option Fault} (known : NameScope) (at : Scope) (params : List Param) (i : ℕ) (all_params : List TypedName) (types all_types : List Judged) → length params ≤ i →
    ParamsSoFar start told known at (map param_tree (drop i params)) all_params types all_types → Fits known (with_params at all_params all_types)
params_fit known at params i all_params types all_types over h =
    subst (Fits known) (ap (λ ps. with_params h.place (map param_tree ps) types) (sym (drop_all params i over)) ∙ h.scope) h.fits

pub contract_told : (a b c d : Option Fault) (xs ys zs : List Fault) → b ≡ with_first a xs → c ≡ with_first b ys → d ≡ with_first c zs → d ≡ with_first a (xs ++ ys ++ zs)
contract_told a b c d xs ys zs x y z =
    z ∙ ap (λ f. with_first f zs) (y ∙ ap (λ f. with_first f ys) x ∙ in_turn a xs ys) ∙ in_turn a (xs ++ ys) zs
