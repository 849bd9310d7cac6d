-- How one leg is followed through lists of legs.
use Rattle.std.proofs.Common.{◌≡◌, ℕ, zero, suc, ◌+◌, ◌-◌, ◌<◌, ◌≤◌, min, List, [], ◌∷◌, ◌++◌, map, length, get_or, drop, Option, Some, None, refl, ap, ap₂, sym, ◌∙◌, append_assoc, arith, subst, length-append}
use Rattle.std.specs.Prelude.{Result, Ok, Err, IfOk}
use Rattle.std.proofs.lemmas.List.{drop_all, length-map, get_or-map, get_or_append_left}
use Rattle.program_trees.specs.Programs.{CodeTree, CodeTrees, renamed_code, renamed_codes, code_then}
use Rattle.program_trees.specs.Variables.{Variable, with_kinds}
use Rattle.lk_programs.specs.declared.program.Code.{Code}
use Rattle.lk_programs.specs.Program.{code_tree, code_trees}
use Rattle.leg_rules.specs.Legs.{Items, in_front, legs_of, legs_of_code, leg_count_of_code}
use Rattle.leg_rules.proofs.Counts.{count-of_code}
use Rattle.leg_count.specs.Capped.{capped}
use Rattle.leg_count.proofs.Counts.{counts-renamed, codes_from}
use Rattle.leg_items.specs.declared.name.Scope.{Scope}
use Rattle.leg_items.specs.Names.{kind_of}
use Rattle.program_trees.specs.Programs.{ProgramTree}
use Rattle.leg_paths.specs.Walks.{Goes, GoesAlong, greatest, code_in, codes_in}

get-front : (items : Items) (legs : List Items) (n : ℕ) → n < length legs → get_or (in_front items legs) n [] ≡ items ++ get_or legs n []
get-front items legs n h = get_or-map (λ leg. items ++ leg) legs n [] [] h

length-front : (items : Items) (legs : List Items) → length (in_front items legs) ≡ length legs
length-front items legs = length-map legs (λ leg. items ++ leg)

get-right : (xs ys : List Items) (n : ℕ) → length xs ≤ n → get_or (xs ++ ys) n [] ≡ get_or ys (n - length xs) []
get-right [] ys n h = let same : n ≡ n - 0 = omega arith in ap (λ k. get_or ys k []) same
get-right (x ∷ xs) ys zero h = absurd (omega arith)
get-right (x ∷ xs) ys (suc n) h =
    let same : n - length xs ≡ suc n - suc (length xs) = omega arith in
    get-right xs ys n (omega arith) ∙ ap (λ k. get_or ys k []) same

pub if_ok_map : {X Y : Type 0} (r : Result X Y) (P Q : X → Type 0) → ((x : X) → P x → Q x) → IfOk r P → IfOk r Q
if_ok_map (Ok x) P Q f h = f x h
if_ok_map (Err e) P Q f h = h

pub map-map : {X Y Z : Type 0} (f : Y → Z) (g : X → Y) (xs : List X) → map f (map g xs) ≡ map (λ x. f (g x)) xs
map-map f g [] = refl
map-map f g (x ∷ xs) = ap (λ l. f (g x) ∷ l) (map-map f g xs)

-- ---- one step

pub goes_plain : (items : Items) (following : List Items) (n : ℕ) (old new : Items) → new ≡ old ++ items →
    GoesAlong (in_front items following) following n old new (Some n)
goes_plain items following n old new e there small =
    let inside : n < length following = subst (λ k. n < k) (length-front items following) there in (
      omega arith,
      inside,
      ap (λ l. l ++ get_or following n []) e ∙ append_assoc old items (get_or following n []) ∙ ap (λ l. old ++ l) (sym (get-front items following n inside)),
    )

pub goes_front : (items : Items) (legs following : List Items) (n : ℕ) (old middle new : Items) (next : Option ℕ) → middle ≡ old ++ items →
    GoesAlong legs following n middle new next → GoesAlong (in_front items legs) following n old new next
goes_front items legs following n old middle new next e h there small = by next (h inside small)
  where
    inside : n < length legs
    inside = subst (λ k. n < k) (length-front items legs) there

    moved : middle ++ get_or legs n [] ≡ old ++ get_or (in_front items legs) n []
    moved = ap (λ l. l ++ get_or legs n []) e ∙ append_assoc old items (get_or legs n []) ∙ ap (λ l. old ++ l) (sym (get-front items legs n inside))

    by : (next : Option ℕ) → Goes legs following n middle new next → Goes (in_front items legs) following n old new next
    by None k = k ∙ moved
    by (Some m) k = (k.0, k.1, k.2 ∙ moved)

pub goes_left : (xs ys following : List Items) (n : ℕ) (old new : Items) (next : Option ℕ) → n < length xs →
    GoesAlong xs following n old new next → GoesAlong (xs ++ ys) following n old new next
goes_left xs ys following n old new next inside h there small = by next (h inside small)
  where
    same : get_or xs n [] ≡ get_or (xs ++ ys) n []
    same = sym (get_or_append_left xs ys [] n inside)

    by : (next : Option ℕ) → Goes xs following n old new next → Goes (xs ++ ys) following n old new next
    by None k = k ∙ ap (λ l. old ++ l) same
    by (Some m) k = (k.0, k.1, k.2 ∙ ap (λ l. old ++ l) same)

pub goes_right : (xs ys following : List Items) (n m : ℕ) (old new : Items) (next : Option ℕ) → length xs ≤ n → m ≡ n - length xs →
    GoesAlong ys following m old new next → GoesAlong (xs ++ ys) following n old new next
goes_right xs ys following n m old new next outside e h there small = by next (h (omega (arith, length-append xs ys)) (omega arith))
  where
    same : get_or ys m [] ≡ get_or (xs ++ ys) n []
    same = ap (λ k. get_or ys k []) e ∙ sym (get-right xs ys n outside)

    by : (next : Option ℕ) → Goes ys following m old new next → Goes (xs ++ ys) following n old new next
    by None k = k ∙ ap (λ l. old ++ l) same
    by (Some j) k = (omega (arith, k.0), k.1, k.2 ∙ ap (λ l. old ++ l) same)

-- ---- one after the other

pub goes_then : (legs between following : List Items) (n m : ℕ) (old middle new : Items) (next : Option ℕ) → GoesAlong legs between n old middle (Some m) →
    GoesAlong between following m middle new next → GoesAlong legs following n old new next
goes_then legs between following n m old middle new next a h there small = by next (h first.1 (omega (arith, first.0)))
  where
    first : Goes legs between n old middle (Some m)
    first = a there small

    by : (next : Option ℕ) → Goes between following m middle new next → Goes legs following n old new next
    by None k = k ∙ first.2
    by (Some j) k = (omega (arith, k.0, first.0), k.1, k.2 ∙ first.2)

pub goes_nowhere : (legs : List Items) (n : ℕ) (old : Items) → GoesAlong legs legs n old old (Some n)
goes_nowhere legs n old there small = (omega arith, there, refl)

-- ---- branches and loops

pub goes_true : (t f : Items) (a b following : List Items) (n count : ℕ) (old middle new : Items) (next : Option ℕ) → count ≡ capped (length a) → n < count → middle ≡ old ++ t →
    GoesAlong a following n middle new next → GoesAlong (in_front t a ++ in_front f b) following n old new next
goes_true t f a b following n count old middle new next e h m k =
    goes_left (in_front t a) (in_front f b) following n old new next (omega (arith, length-front t a, e, h)) (goes_front t a following n old middle new next m k)

pub goes_false : (t f : Items) (a b following : List Items) (n count : ℕ) (old middle new : Items) (next : Option ℕ) → count ≡ capped (length a) → count ≤ n → middle ≡ old ++ f →
    GoesAlong b following (n - count) middle new next → GoesAlong (in_front t a ++ in_front f b) following n old new next
goes_false t f a b following n count old middle new next e h m k there small =
    let same : count ≡ length a = omega (arith, e, h, small) in
    let long : length (in_front t a) ≡ length a = length-front t a in
    goes_right (in_front t a) (in_front f b) following n (n - count) old new next (omega (arith, long, same, h)) (omega (arith, long, same))
    (goes_front f b following (n - count) old middle new next m k) there small

pub goes_out : (t f : Items) (a following : List Items) (n count : ℕ) (old new : Items) → count ≡ capped (length a) → count ≤ n → new ≡ old ++ f →
    GoesAlong (in_front t a ++ in_front f following) following n old new (Some (n - count))
goes_out t f a following n count old new e h m there small =
    let same : count ≡ length a = omega (arith, e, h, small) in
    let long : length (in_front t a) ≡ length a = length-front t a in
    goes_right (in_front t a) (in_front f following) following n (n - count) old new (Some (n - count)) (omega (arith, long, same, h)) (omega (arith, long, same))
    (goes_plain f following (n - count) old new m) there small

-- what has ended has ended whatever follows
pub goes_ended : (legs one other : List Items) (n : ℕ) (old new : Items) → GoesAlong legs one n old new None → GoesAlong legs other n old new None
goes_ended legs one other n old new h there small = h there small

-- the end is added too
pub goes_to_end : (legs : List Items) (end : Items) (following : List Items) (n m : ℕ) (old middle new : Items) → GoesAlong legs (end ∷ []) n old middle (Some m) → new ≡ middle ++ end →
    GoesAlong legs following n old new None
goes_to_end legs end following n m old middle new h e there small =
    let k : Goes legs (end ∷ []) n old middle (Some m) = h there small in
    let zero_it : m ≡ 0 = omega (arith, k.1) in
    e ∙ ap (λ j. middle ++ get_or (end ∷ []) j []) (sym zero_it) ∙ k.2

-- ---- statements

module _ (program : ProgramTree Variable) (scope : Scope) where
  pub counted : (codes : List Code) (tail : List Items) → length (legs_of_code program (codes_in scope codes) tail) ≡ leg_count_of_code (code_trees codes) (length tail)
  counted codes tail = count-of_code program (codes_in scope codes) tail (length tail) refl ∙ counts-renamed (kind_of scope) (code_trees codes) (length tail)

  pub counted_behind : (codes : List Code) (tail : List Items) (following count : ℕ) → following ≡ capped (length tail) →
      ((n : ℕ) → following ≡ capped n → count ≡ capped (leg_count_of_code (code_trees codes) n)) → count ≡ capped (length (legs_of_code program (codes_in scope codes) tail))
  counted_behind codes tail following count e h = h (length tail) e ∙ ap capped (sym (counted codes tail))

  -- the legs from a statement on are those of the statement before those of the others
  pub legs_from : (codes : List Code) (k : ℕ) (d : Code) (tail : List Items) → k < length codes →
      legs_of_code program (codes_in scope (drop k codes)) tail ≡ legs_of program (code_in scope (get_or codes k d)) (legs_of_code program (codes_in scope (drop (suc k) codes)) tail)
  legs_from codes k d tail h = ap (λ c. legs_of_code program (renamed_codes (kind_of scope) c) tail) (codes_from codes k d h)

  -- a statement that is such a form
  abbrev Along : CodeTree ℕ → List Items → ℕ → Items → Items → Option ℕ → Type 0
  Along t following n old new next = GoesAlong (legs_of program (renamed_code (kind_of scope) t) following) following n old new next

  pub is_plain : (code : Code) (t : CodeTree ℕ) (items : Items) (following : List Items) (n : ℕ) (old new : Items) → code_tree code ≡ t →
      legs_of program (renamed_code (kind_of scope) t) following ≡ in_front items following → new ≡ old ++ items →
      GoesAlong (legs_of program (code_in scope code) following) following n old new (Some n)
  is_plain code t items following n old new e same h =
      subst (λ u. Along u following n old new (Some n)) (sym e)
      (subst (λ l. GoesAlong l following n old new (Some n)) (sym same) (goes_plain items following n old new h))

  pub is_parted : (code : Code) (t : CodeTree ℕ) (items : Items) (legs following : List Items) (n : ℕ) (old middle new : Items) (next : Option ℕ) → code_tree code ≡ t →
      legs_of program (renamed_code (kind_of scope) t) following ≡ in_front items legs → middle ≡ old ++ items → GoesAlong legs following n middle new next →
      GoesAlong (legs_of program (code_in scope code) following) following n old new next
  is_parted code t items legs following n old middle new next e same h k =
      subst (λ u. Along u following n old new next) (sym e)
      (subst (λ l. GoesAlong l following n old new next) (sym same) (goes_front items legs following n old middle new next h k))

  -- all statements are behind
  pub at_the_end : (codes : List Code) (k : ℕ) (tail : List Items) → length codes ≤ k → legs_of_code program (codes_in scope (drop k codes)) tail ≡ tail
  at_the_end codes k tail h = ap (λ l. legs_of_code program (codes_in scope l) tail) (drop_all k codes h)

  -- one statement more
  pub one_statement : (codes rest : List Code) (k : ℕ) (code : Code) (tail : List Items) (n m : ℕ) (old middle new : Items) (next : Option ℕ) → k < length codes →
      code ≡ get_or codes k code → rest ≡ drop (k + 1) codes →
      GoesAlong (legs_of_code program (codes_in scope codes) tail) (legs_of_code program (codes_in scope (drop k codes)) tail) n old middle (Some m) →
      GoesAlong (legs_of program (code_in scope code) (legs_of_code program (codes_in scope rest) tail)) (legs_of_code program (codes_in scope rest) tail) m middle new next →
      GoesAlong (legs_of_code program (codes_in scope codes) tail) (legs_of_code program (codes_in scope (drop (k + 1) codes)) tail) n old new next
  one_statement codes rest k code tail n m old middle new next h at e a b =
      let more : k + 1 ≡ suc k = omega arith in
      let same : legs_of program (code_in scope code) (legs_of_code program (codes_in scope rest) tail) ≡ legs_of_code program (codes_in scope (drop k codes)) tail =
      ap₂ (λ x l. legs_of program (code_in scope x) (legs_of_code program (codes_in scope l) tail)) at (e ∙ ap (λ j. drop j codes) more) ∙ sym (legs_from codes k code tail h) in
      goes_then (legs_of_code program (codes_in scope codes) tail) (legs_of_code program (codes_in scope (drop k codes)) tail) (legs_of_code program (codes_in scope (drop (k + 1) codes)) tail)
      n m old middle new next a
      (subst (λ l. GoesAlong (legs_of_code program (codes_in scope (drop k codes)) tail) (legs_of_code program (codes_in scope l) tail) m middle new next) e
      (subst (λ l. GoesAlong l (legs_of_code program (codes_in scope rest) tail) m middle new next) same b))
