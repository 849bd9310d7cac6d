-- Parts that are made one after another.
use Rattle.std.proofs.Common.{◌≡◌, ℕ, suc, ◌+◌, List, [], ◌∷◌, ◌++◌, map, length, refl, sym, ap, ◌∙◌, arith, append-nil, append_assoc, length-append}
use Rattle.std.proofs.lemmas.List.{length-map, map-append}
use Rattle.slang_tree.specs.declared.place.Place.{Place}
use Rattle.lk_programs.specs.declared.program.NodePlace.{NodePlace}
use Rattle.typed_texts.specs.Numbered.{Numbered, plain, single, headed, joined, numbered_map}
use Rattle.typed_names.specs.declared.nodes.Nodes.{Nodes}
use Rattle.typed_names.specs.Nodes.{IsMade, node_in, with_nodes}

-- nodes behind others
pub with_none : (nodes : Nodes) → with_nodes nodes [] ≡ nodes
with_none nodes i = record { file = nodes.file; places = append-nil nodes.places i }

pub with_both : (nodes : Nodes) (xs ys : List Place) → with_nodes (with_nodes nodes xs) ys ≡ with_nodes nodes (xs ++ ys)
with_both nodes xs ys =
    let file = nodes.file in
    let all : nodes.places ++ map (node_in file) xs ++ map (node_in file) ys ≡ nodes.places ++ map (node_in file) (xs ++ ys) =
    append_assoc nodes.places (map (node_in file) xs) (map (node_in file) ys)
    ∙ ap (λ ps. nodes.places ++ ps) (sym (map-append (node_in file) xs ys)) in
    λ i. record { file = file; places = all i }

-- how many there are
pub length_with : (nodes : Nodes) (xs : List Place) → length (with_nodes nodes xs).places ≡ length nodes.places + length xs
length_with nodes xs =
    length-append nodes.places (map (node_in nodes.file) xs) ∙ ap (λ n. length nodes.places + n) (length-map xs (node_in nodes.file))

-- ---- parts

pub made_plain : {A : Type 0} (nodes : Nodes) (a : A) → IsMade nodes nodes a (plain a)
made_plain nodes a = record { added = sym (with_none nodes); is = refl }

pub made_single : {A : Type 0} (before after : Nodes) (place : Place) (make : ℕ → A) (node : ℕ) (a : A) →
    node ≡ length before.places → after ≡ with_nodes before (place ∷ []) → a ≡ make node → IsMade before after a (single place make)
made_single before after place make node a number added is = record { added = added; is = is ∙ ap make number }

pub made_headed : {A B : Type 0} (before headed_by after : Nodes) (place : Place) (make : ℕ → A → B) (node : ℕ) (a : A) (b : B) (part : Numbered Place A) →
    node ≡ length before.places → headed_by ≡ with_nodes before (place ∷ []) → IsMade headed_by after a part → b ≡ make node a →
    IsMade before after b (headed place make part)
made_headed before headed_by after place make node a b part number added made is = record {
  added = made.added ∙ ap (λ nodes. with_nodes nodes part.places) added ∙ with_both before (place ∷ []) part.places;
  is = is ∙ ap (λ n. make n a) number
      ∙ ap (make (length before.places)) (made.is ∙ ap part.from (ap (λ (nodes : Nodes). length nodes.places) added ∙ length_with before (place ∷ [])));
}

pub made_joined : {A B C : Type 0} (before between after : Nodes) (make : A → B → C) (a : A) (b : B) (first : Numbered Place A) (second : Numbered Place B) →
    IsMade before between a first → IsMade between after b second → IsMade before after (make a b) (joined make first second)
made_joined before between after make a b first second one two = record {
  added = two.added ∙ ap (λ nodes. with_nodes nodes second.places) one.added ∙ with_both before first.places second.places;
  is = ap (λ x. make x b) one.is
      ∙ ap (make (first.from (length before.places)))
      (two.is ∙ ap second.from (ap (λ (nodes : Nodes). length nodes.places) one.added ∙ length_with before first.places));
}

pub made_map : {A B : Type 0} (before after : Nodes) (make : A → B) (a : A) (part : Numbered Place A) →
    IsMade before after a part → IsMade before after (make a) (numbered_map make part)
made_map before after make a part made = record { added = made.added; is = ap make made.is }
