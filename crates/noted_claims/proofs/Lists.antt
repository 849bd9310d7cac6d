-- Parts that are made one after another.
use Rattle.std.proofs.Common.{◌≡◌, ℕ, ◌+◌, List, [], ◌∷◌, ◌++◌, map, length, sym, ap, ap₂, ◌∙◌, append-nil, append_assoc, add_assoc, add-zero, length-append, subst}
use Rattle.std.proofs.lemmas.List.{map-append}
use Rattle.slang_tree.specs.ExprTree.{ExprTree}
use Rattle.program_trees.specs.Claims.{NotedTree, renamed_noted}
use Rattle.program_trees.specs.Variables.{Variable}
use Rattle.lk_programs.specs.declared.program.Noted.{Noted}
use Rattle.lk_programs.specs.declared.program.RecordTy.{RecordTy}
use Rattle.lk_programs.specs.Program.{noted_tree}
use Rattle.type_rules.specs.Expressions.{Context}
use Rattle.typed_texts.specs.Code.{all_noted, noted}
use Rattle.name_scopes.specs.declared.scope.NameScope.{NameScope}
use Rattle.name_scopes.specs.Fits.{Fits}
use Rattle.typed_names.specs.declared.variables.Numbering.{Numbering}
use Rattle.typed_names.specs.Variables.{number_in}
use Rattle.noted_claims.specs.Noted.{AreNoted, IsNoted}
use Rattle.typed_texts.specs.Numbered.{Numbered, listed, numbered_map}
use Rattle.slang_tree.specs.declared.place.Place.{Place}
use Rattle.typed_names.specs.declared.nodes.Nodes.{Nodes}
use Rattle.typed_names.specs.Nodes.{IsMade, with_nodes}
use Rattle.typed_names.proofs.Made.{length_with, made_plain, with_both}

places_more : {A : Type 0} (parts : List (Numbered Place A)) (part : Numbered Place A) →
    (listed (parts ++ part ∷ [])).places ≡ (listed parts).places ++ part.places
places_more [] part = append-nil part.places
places_more (first ∷ parts) part =
    ap (λ ps. first.places ++ ps) (places_more parts part) ∙ sym (append_assoc first.places (listed parts).places part.places)

from_more : {A : Type 0} (parts : List (Numbered Place A)) (part : Numbered Place A) (n : ℕ) →
    (listed (parts ++ part ∷ [])).from n ≡ (listed parts).from n ++ part.from (n + length (listed parts).places) ∷ []
from_more [] part n = ap (λ k. part.from k ∷ []) (sym (add-zero n))
from_more (first ∷ parts) part n =
    let later = n + length first.places in
    let number : later + length (listed parts).places ≡ n + length (first.places ++ (listed parts).places) =
    add_assoc n (length first.places) (length (listed parts).places) ∙ ap (λ k. n + k) (sym (length-append first.places (listed parts).places)) in
    ap (λ ps. first.from n ∷ ps) (from_more parts part later ∙ ap (λ k. (listed parts).from later ++ part.from k ∷ []) number)

-- one part more
pub made_more : {A B : Type 0} (before between after : Nodes) (make : A → B) (parts : List (Numbered Place A)) (part : Numbered Place A) (made : List B)
    (next : B) →
    IsMade before between made (numbered_map (map make) (listed parts)) → IsMade between after next (numbered_map make part) →
    IsMade before after (made ++ next ∷ []) (numbered_map (map make) (listed (parts ++ part ∷ [])))
made_more before between after make parts part made next one two =
    let start = length before.places in
    let ahead = (listed parts).places in
    let number : length between.places ≡ start + length ahead = ap (λ (nodes : Nodes). length nodes.places) one.added ∙ length_with before ahead in record {
      added = two.added ∙ ap (λ nodes. with_nodes nodes part.places) one.added ∙ with_both before ahead part.places
          ∙ ap (with_nodes before) (sym (places_more parts part));
      is = ap₂ (λ xs x. xs ++ x ∷ []) one.is (two.is ∙ ap (λ n. make (part.from n)) number)
          ∙ sym (map-append make ((listed parts).from start) (part.from (start + length ahead) ∷ []))
          ∙ ap (map make) (sym (from_more parts part start));
    }

-- one claim more
pub noted_more : (records : List RecordTy) (numbers : Numbering) (known between : NameScope) (first middle last : Nodes) (context : Context)
    (before all : List ExprTree) (tree : ExprTree) (done new : List Noted) (made : Noted) →
    between ≡ known → all ≡ before ++ tree ∷ [] → new ≡ done ++ made ∷ [] →
    AreNoted records numbers known first middle (λ at. all_noted at context before) done →
    IsNoted records numbers between middle last (λ at. noted at context tree) made →
    AreNoted records numbers known first last (λ at. all_noted at context all) new
noted_more records numbers known between first middle last context before all tree done new made kept more added are is = record {
  are = λ at fits fields.
      let see : NotedTree Variable → NotedTree ℕ = renamed_noted (number_in numbers) in
      let parts = map (noted at context) before in
      let together = made_more first middle last see parts (noted at context tree) (map noted_tree done) (noted_tree made)
      (are.are at fits fields) (is.is at (subst (λ k. Fits k at) (sym kept) fits) fields) in
      let items : map noted_tree new ≡ map noted_tree done ++ noted_tree made ∷ [] = ap (map noted_tree) added ∙ map-append noted_tree done (made ∷ []) in
      let trees : map (noted at context) all ≡ parts ++ noted at context tree ∷ [] = ap (map (noted at context)) more ∙ map-append (noted at context)
      before (tree ∷ []) in
      subst (λ ps. IsMade first last (map noted_tree new) (numbered_map (map see) (listed ps))) (sym trees)
      (subst (λ xs. IsMade first last xs (numbered_map (map see) (listed (parts ++ noted at context tree ∷ [])))) (sym items) together);
}

pub none_noted : (records : List RecordTy) (numbers : Numbering) (known : NameScope) (nodes : Nodes) (context : Context) (done : List Noted) → done ≡ [] →
    AreNoted records numbers known nodes nodes (λ at. all_noted at context []) done
none_noted records numbers known nodes context done none = record {
  are = λ at fits fields.
      subst (λ xs. IsMade nodes nodes (map noted_tree xs) (numbered_map (map (renamed_noted (number_in numbers))) (all_noted at context []))) (sym none)
      (made_plain nodes []);
}
