-- What is chosen, from a place on.
use Rattle.std.proofs.Common.{◌≡◌, ℕ, zero, suc, ◌+◌, ◌<◌, ◌≤◌, min, List, [], ◌∷◌, map, drop, length, get_or, Option, refl, ap, ◌∙◌, arith}
use Rattle.validity.specs.Validity.{SequentTree}
use Rattle.deduction_rules.specs.Step.{StepTrees}
use Rattle.program_trees.specs.declared.answer.Answer.{Answer}
use Rattle.program_trees.specs.declared.answer.Answer.TheVariants as answers
use Rattle.program_trees.specs.declared.answer.Reason.{Reason}
use Rattle.program_trees.specs.Programs.{MethodTree, ProgramTree}
use Rattle.program_trees.specs.Variables.{Variable}
use Rattle.lk_programs.specs.declared.expression.NodeNo.{NodeNo}
use Rattle.leg_rules.specs.Legs.{Items}
use Rattle.leg_rules.specs.Numbering.{leg_tree}
use Rattle.leg_rules.specs.Answers as plain
use Rattle.leg_rules.specs.Answers.{at_item, first_leg, leg_answer}
use Rattle.verdicts.specs.Choice.{no_node, at_node, chosen}
use Rattle.verdicts.specs.Laws.{ChoiceIsByTheLegs}

-- ---- the answers in turn

proved_at : (nodes : List (List NodeNo)) (told : List Answer) (i : ℕ) (d : Answer) → i < length nodes → i < length told → get_or told i d ≡ answers.Proved
    → chosen (drop i nodes) (drop i told) ≡ chosen (drop (suc i) nodes) (drop (suc i) told)
proved_at [] told i d h k e = absurd (omega arith)
proved_at (x ∷ nodes) [] i d h k e = absurd (omega arith)
proved_at (x ∷ nodes) (y ∷ told) zero d h k e = ap (λ a. at_node x a (chosen nodes told)) e
proved_at (x ∷ nodes) (y ∷ told) (suc i) d h k e = proved_at nodes told i d (omega arith) (omega arith) e

pub proved_here : (nodes : List (List NodeNo)) (told : List Answer) (i : ℕ) (d : Answer) → i < length nodes → i < length told → get_or told i d ≡ answers.Proved
    → chosen nodes told ≡ chosen (drop i nodes) (drop i told) → chosen nodes told ≡ chosen (drop (i + 1) nodes) (drop (i + 1) told)
proved_here nodes told i d h k e so_far =
    let next : suc i ≡ i + 1 = omega arith in
    so_far ∙ proved_at nodes told i d h k e ∙ ap (λ n. chosen (drop n nodes) (drop n told)) next

pub chosen_end : (nodes : List (List NodeNo)) (told : List Answer) (i : ℕ) → min (length nodes) (length told) ≤ i
    → chosen (drop i nodes) (drop i told) ≡ plain.verified
chosen_end [] told zero h = refl
chosen_end [] told (suc i) h = refl
chosen_end (x ∷ nodes) [] zero h = refl
chosen_end (x ∷ nodes) [] (suc i) h = no_answers (drop i nodes)
  where
    no_answers : (rest : List (List NodeNo)) → chosen rest [] ≡ plain.verified
    no_answers [] = refl
    no_answers (r ∷ rest) = refl
chosen_end (x ∷ nodes) (y ∷ told) zero h = absurd (omega arith)
chosen_end (x ∷ nodes) (y ∷ told) (suc i) h = chosen_end nodes told i (omega arith)

-- ---- the legs in turn

node_number : (nodes : List NodeNo) (item : ℕ) → (get_or nodes item no_node).0 ≡ get_or (map (λ node. node.0) nodes) item 0
node_number [] item = refl
node_number (n ∷ nodes) zero = refl
node_number (n ∷ nodes) (suc item) = node_number nodes item

told_at : (closing : SequentTree → Option Reason) (accepting : SequentTree → StepTrees → Option ℕ) (items : Items) (nodes : List NodeNo) (answer : Answer)
    (later : plain.Verdict) → map (λ node. node.0) nodes ≡ map (λ noted. noted.node) items → at_node nodes answer later ≡ at_item closing accepting items answer later
told_at closing accepting items nodes answers.Proved later e = refl
told_at closing accepting items nodes (answers.Unproved item kind reason) later e =
    ap (λ n. plain.unproved n kind reason) (node_number nodes item ∙ ap (λ ns. get_or ns item 0) e)

first_of : {A : Type 0} {x y : A} {xs ys : List A} → x ∷ xs ≡ y ∷ ys → x ≡ y
first_of e = cc

rest_of : {A : Type 0} {x y : A} {xs ys : List A} → x ∷ xs ≡ y ∷ ys → xs ≡ ys
rest_of e = cc

pub choice_by_the_legs : ChoiceIsByTheLegs
choice_by_the_legs closing accepting program method [] [] e = refl
choice_by_the_legs closing accepting program method [] (ns ∷ nodes) e = absurd (cc)
choice_by_the_legs closing accepting program method (items ∷ legs) [] e = absurd (cc)
choice_by_the_legs closing accepting program method (items ∷ legs) (ns ∷ nodes) e =
    ap (at_node ns (leg_answer closing accepting (leg_tree program method items))) (choice_by_the_legs closing accepting program method legs nodes (rest_of e))
    ∙ told_at closing accepting items ns (leg_answer closing accepting (leg_tree program method items)) (first_leg closing accepting program method legs) (first_of e)
