-- Looking up labels, one after the other.
use Rattle.std.proofs.Common.{◌≡◌, ℕ, zero, suc, ◌+◌, ◌-◌, ◌<◌, ◌≤◌, List, [], ◌∷◌, ◌++◌, map, length, take, drop, get_or, slice_get, Bool, true, false, cond, eqb, Option, Some, None, refl, sym, ap, ap₂, ◌∙◌, subst, arith, drop-cons, add-one, append_assoc}
use Rattle.std.proofs.lemmas.List.{map-append, take_more, take-append-drop}
use Rattle.rule_check.specs.declared.cited.Cited.{Cited as One}
use Rattle.rule_check.specs.Cited.{cited_tree}
use Rattle.deduction_rules.specs.Step.{Cited}
use Rattle.deduction_rules.specs.Deduction.{Labelled, look_up, Citing, missing, found, add_cited, citing}
use Rattle.proof_scopes.specs.declared.scope.Labelled.{Labelled as Entry}
use Rattle.proof_scopes.specs.Scope.{labelled_tree}

-- ---- one label

abbrev look : List Entry → ℕ → Option Cited
look es label = look_up (map labelled_tree es) label

look_first : (e : Entry) (es : List Entry) (label : ℕ) → eqb e.label label ≡ true → look (e ∷ es) label ≡ Some (cited_tree e.cited)
look_first e es label h = ap (λ b. cond b (Some (cited_tree e.cited)) (look es label)) h

look_past : (e : Entry) (es : List Entry) (label : ℕ) → eqb e.label label ≡ false → look (e ∷ es) label ≡ look es label
look_past e es label h = ap (λ b. cond b (Some (cited_tree e.cited)) (look es label)) h

at_place : (es : List Entry) (k : ℕ) (e : Entry) → k < length es → e ≡ get_or es k e → drop k es ≡ e ∷ drop (k + 1) es
at_place es k e h is = drop-cons es k e h ∙ ap₂ ◌∷◌ (sym is) (ap (λ n. drop n es) (sym (add-one k)))

pub look_found : (es : List Entry) (k : ℕ) (e : Entry) (label : ℕ) → k < length es → e ≡ get_or es k e → look es label ≡ look (drop k es) label →
    eqb e.label label ≡ true → Some (cited_tree e.cited) ≡ look es label
look_found es k e label h is before same =
    sym (before ∙ ap (λ ds. look ds label) (at_place es k e h is) ∙ look_first e (drop (k + 1) es) label same)

pub look_on : (es : List Entry) (k : ℕ) (e : Entry) (label : ℕ) → k < length es → e ≡ get_or es k e → look es label ≡ look (drop k es) label →
    eqb e.label label ≡ false → look es label ≡ look (drop (k + 1) es) label
look_on es k e label h is before other =
    before ∙ ap (λ ds. look ds label) (at_place es k e h is) ∙ look_past e (drop (k + 1) es) label other

-- ---- labels in order

abbrev joined : List Cited → Citing → Citing
joined cs (missing label) = missing label
joined cs (found ds) = found (cs ++ ds)

record Added (o : Option Cited) (rest : Citing) (cs : List Cited) : Type 0 where
  first : Cited
  others : List Cited
  here : o ≡ Some first
  there : rest ≡ found others
  is : cs ≡ first ∷ others

added : (label : ℕ) (o : Option Cited) (rest : Citing) (cs : List Cited) → add_cited label o rest ≡ found cs → Added o rest cs
added label None rest cs h = absurd (cc)
added label (Some c) (missing l) cs h = absurd (cc)
added label (Some c) (found ds) cs h = record { first = c; others = ds; here = refl; there = refl; is = cc }

add_joined : (label : ℕ) (c : Cited) (cs : List Cited) (x : Citing) → add_cited label (Some c) (joined cs x) ≡ joined (c ∷ cs) x
add_joined label c cs (missing l) = refl
add_joined label c cs (found ds) = refl

joined_none : (x : Citing) → joined [] x ≡ x
joined_none (missing l) = refl
joined_none (found ds) = refl

citing-append : (visible : List Labelled) (ls ms : List ℕ) (cs : List Cited) → citing visible ls ≡ found cs →
    citing visible (ls ++ ms) ≡ joined cs (citing visible ms)
citing-append visible [] ms cs h =
    let none : [] ≡ cs = cc in subst (λ ds. citing visible ms ≡ joined ds (citing visible ms)) none (sym (joined_none (citing visible ms)))
citing-append visible (l ∷ ls) ms cs h =
    let a = added l (look_up visible l) (citing visible ls) cs h in
    ap₂ (add_cited l) a.here (citing-append visible ls ms a.others a.there) ∙ add_joined l a.first a.others (citing visible ms) ∙
    ap (λ ds. joined ds (citing visible ms)) (sym a.is)

from_place : (ls : List ℕ) (k : ℕ) → k < length ls → ls ≡ take k ls ++ get_or ls k 0 ∷ drop (k + 1) ls
from_place ls k h =
    sym (take-append-drop k ls) ∙ ap (λ ds. take k ls ++ ds) (drop-cons ls k 0 h ∙ ap (λ n. get_or ls k 0 ∷ drop n ls) (sym (add-one k)))

pub cite_missing : (visible : List Labelled) (ls : List ℕ) (k : ℕ) (cs : List Cited) → k < length ls →
    citing visible (take k ls) ≡ found cs → None ≡ look_up visible (get_or ls k 0) → citing visible ls ≡ missing (get_or ls k 0)
cite_missing visible ls k cs h so_far none =
    ap (citing visible) (from_place ls k h) ∙ citing-append visible (take k ls) (get_or ls k 0 ∷ drop (k + 1) ls) cs so_far ∙
    ap (λ o. joined cs (add_cited (get_or ls k 0) o (citing visible (drop (k + 1) ls)))) (sym none)

pub cite_more : (visible : List Labelled) (ls : List ℕ) (k : ℕ) (old new : List One) (c : One) → k < length ls →
    citing visible (take k ls) ≡ found (map cited_tree old) → Some (cited_tree c) ≡ look_up visible (get_or ls k 0) → new ≡ old ++ c ∷ [] →
    citing visible (take (k + 1) ls) ≡ found (map cited_tree new)
cite_more visible ls k old new c h so_far some is =
    ap (citing visible) (take_more ls k 0 h) ∙ citing-append visible (take k ls) (get_or ls k 0 ∷ []) (map cited_tree old) so_far ∙
    ap (λ o. joined (map cited_tree old) (add_cited (get_or ls k 0) o (found []))) (sym some) ∙
    ap found (sym (ap (map cited_tree) is ∙ map-append cited_tree old (c ∷ [])))
