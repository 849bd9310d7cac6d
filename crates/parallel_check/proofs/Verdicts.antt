-- The verdicts from the answers for the legs, method by method.
use Rattle.std.proofs.Common.{◌≡◌, ℕ, ◌+◌, ◌<◌, ◌≤◌, List, [], ◌∷◌, ◌++◌, map, drop, length, get_or, refl, sym, ap, ◌∙◌, arith}
use Rattle.std.specs.List.{flat_map}
use Rattle.std.proofs.lemmas.List.{drop_more, length-append, length-map, map-append}
use Rattle.std.proofs.lemmas.List.Concat.{flat_map-cons}
use Rattle.program_trees.specs.declared.answer.Answer.{Answer}
use Rattle.program_trees.specs.Programs.{MethodTree, ProgramTree}
use Rattle.program_trees.specs.Variables.{Variable}
use Rattle.run_rules.specs.Runs.{no_method}
use Rattle.leg_rules.specs.Answers as plain
use Rattle.lk_programs.specs.declared.expression.NodeNo.{NodeNo}
use Rattle.lk_programs.specs.declared.leg.Legs.{Legs as LegsData}
use Rattle.lk_programs.specs.declared.typed.Typed.{Typed}
use Rattle.lk_programs.specs.LegData.{leg_tree}
use Rattle.leg_orders.specs.Places.{program_of, method_of}
use Rattle.legs.specs.Legs.{AreLegs, legs_at}
use Rattle.method_answers.proofs.Verdicts.{verdict_few}
use Rattle.verdict_laws.specs.Rules.{unclosed, unaccepted, verdict_by_rules}
use Rattle.verdicts.specs.Choice.{chosen, at_node}
use Rattle.program_keys.specs.Keys.{method_legs}
use Rattle.program_keys.proofs.Adding.{few_legs}
use Rattle.parallel_check.specs.Answers.{answer_of, answers_of, BeginsWith}

map-map : {A B C : Type 0} (f : B → C) (g : A → B) (xs : List A) → map f (map g xs) ≡ map (λ x. f (g x)) xs
map-map f g [] = refl
map-map f g (x ∷ xs) = ap (λ l. f (g x) ∷ l) (map-map f g xs)

-- what stands behind the answers for all legs changes nothing
chosen_in_front : (nodes : List (List NodeNo)) (told rest : List Answer) → length nodes ≡ length told → chosen nodes (told ++ rest) ≡ chosen nodes told
chosen_in_front [] [] rest h = chosen_none rest
  where
    chosen_none : (rest : List Answer) → chosen [] rest ≡ plain.verified
    chosen_none [] = refl
    chosen_none (a ∷ rest) = refl
chosen_in_front [] (a ∷ told) rest h = absurd (omega (arith, h))
chosen_in_front (n ∷ nodes) [] rest h = absurd (omega (arith, h))
chosen_in_front (n ∷ nodes) (a ∷ told) rest h = ap (at_node n a) (chosen_in_front nodes told rest (omega (arith, h)))

module _ (typed : Typed) (number : ℕ) (told : LegsData) (are : AreLegs typed number told) where
  abbrev own : List Answer
  own = map answer_of (method_legs (program_of typed) (method_of typed number))

  own_answers : map (λ leg. answer_of (leg_tree leg)) told.legs ≡ own
  own_answers = sym (map-map answer_of leg_tree told.legs) ∙ ap (map answer_of) (few_legs typed number told are)

  -- as many answers as legs
  pub used : length told.legs ≡ length (method_legs (program_of typed) (method_of typed number))
  used = sym (length-map told.legs leg_tree) ∙ ap length (few_legs typed number told are)

  as_many : length told.nodes ≡ length own
  as_many =
      sym (length-map told.nodes (map (λ node. node.0))) ∙ ap length are.all.item_nodes ∙ length-map (legs_at typed number) (map (λ noted. noted.node))
      ∙ sym (ap length are.all.numbered_legs ∙ length-map (legs_at typed number) _) ∙ length-map told.legs leg_tree
      ∙ sym (ap length (sym own_answers) ∙ length-map told.legs (λ leg. answer_of (leg_tree leg)))

  pub verdict_in_front : (all : List Answer) (v : plain.Verdict) → BeginsWith own all → v ≡ chosen told.nodes all
      → v ≡ verdict_by_rules (program_of typed) (method_of typed number)
  verdict_in_front all v begins is =
      verdict_few unclosed unaccepted typed number told own v are (sym own_answers)
      (is ∙ ap (chosen told.nodes) begins.is ∙ chosen_in_front told.nodes own begins.rest as_many)

-- ---- one method after the other

module _ (program : ProgramTree Variable) where
  abbrev own_of : MethodTree Variable → List Answer
  own_of method = map answer_of (method_legs program method)

  answers_cons : (method : MethodTree Variable) (methods : List (MethodTree Variable))
      → answers_of program (method ∷ methods) ≡ own_of method ++ answers_of program methods
  answers_cons method methods =
      ap (map answer_of) (flat_map-cons (method_legs program) method methods)
      ∙ map-append answer_of (method_legs program method) (flat_map (method_legs program) methods)

  split_at : (number : ℕ) (methods : List (MethodTree Variable)) → number < length methods
      → answers_of program (drop number methods) ≡ own_of (get_or methods number no_method) ++ answers_of program (drop (number + 1) methods)
  split_at number methods h =
      ap (answers_of program) (drop_more methods number no_method h) ∙ answers_cons (get_or methods number no_method) (drop (number + 1) methods)

  -- the answers that are left begin with those for the next method
  pub begins : (number : ℕ) (left : List Answer) → number < length program.methods → left ≡ answers_of program (drop number program.methods)
      → BeginsWith (own_of (get_or program.methods number no_method)) left
  begins number left inside is = record { rest = answers_of program (drop (number + 1) program.methods); is = is ∙ split_at number program.methods inside }

  dropped : {A : Type 0} (front rest : List A) (n : ℕ) → n ≡ length front → drop n (front ++ rest) ≡ rest
  dropped front rest n e = ap (λ k. drop k (front ++ rest)) e ∙ all_dropped front rest
    where
      all_dropped : {A : Type 0} (front rest : List A) → drop (length front) (front ++ rest) ≡ rest
      all_dropped [] rest = refl
      all_dropped (x ∷ front) rest = all_dropped front rest

  -- and without them those for the later ones are left
  pub left_behind : (number n : ℕ) (left : List Answer) → number < length program.methods → left ≡ answers_of program (drop number program.methods)
      → n ≡ length (method_legs program (get_or program.methods number no_method))
      → drop n left ≡ answers_of program (drop (number + 1) program.methods)
  left_behind number n left inside is counted =
      let own = own_of (get_or program.methods number no_method) in
      ap (drop n) (is ∙ split_at number program.methods inside)
      ∙ dropped own (answers_of program (drop (number + 1) program.methods)) n
      (counted ∙ sym (length-map (method_legs program (get_or program.methods number no_method)) answer_of))

  pub enough : (number n : ℕ) (left : List Answer) → number < length program.methods → left ≡ answers_of program (drop number program.methods)
      → n ≡ length (method_legs program (get_or program.methods number no_method)) → n ≤ length left
  enough number n left inside is counted =
      let own = own_of (get_or program.methods number no_method) in
      let rest = answers_of program (drop (number + 1) program.methods) in
      let long : length left ≡ length own + length rest = ap length (is ∙ split_at number program.methods inside) ∙ length-append own rest in
      let same : n ≡ length own = counted ∙ sym (length-map (method_legs program (get_or program.methods number no_method)) answer_of) in
      omega (arith, long, same)
