-- The legs of a method, one after the other.
use Rattle.std.proofs.Common.{◌≡◌, ℕ, ◌+◌, ◌<◌, ◌≤◌, List, [], ◌∷◌, ◌++◌, map, take, length, get_or, Option, Some, None, refl, ap, ap₂, sym, ◌∙◌, append_assoc, arith, subst}
use Rattle.std.specs.Prelude.{slice_get}
use Rattle.std.specs.List.{AllByRecursion}
use Rattle.std.proofs.lemmas.Option.{slice_get_read}
use Rattle.std.proofs.lemmas.List.{length-map, get_or-map, map_more, map-append, take_all}
use Rattle.program_trees.specs.declared.answer.Kind.TheVariants as kinds
use Rattle.program_trees.specs.Legs.{LegTree}
use Rattle.program_trees.specs.Programs.{MethodTree, ProgramTree, renamed_global, renamed_method}
use Rattle.program_trees.specs.Variables.{Variable, entry, global, variable_of}
use Rattle.lk_claims.specs.Claim.{value_type}
use Rattle.lk_programs.specs.declared.expression.NodeNo.{NodeNo}
use Rattle.lk_programs.specs.declared.program.Code.{Code}
use Rattle.lk_programs.specs.declared.program.Method.{Method}
use Rattle.lk_programs.specs.declared.program.Noted.{Noted}
use Rattle.lk_programs.specs.declared.typed.Typed.{Typed}
use Rattle.lk_programs.specs.declared.leg.Leg.{Leg}
use Rattle.lk_programs.specs.declared.leg.Legs.{Legs as LegsData}
use Rattle.lk_programs.specs.LegData.{leg_tree}
use Rattle.lk_programs.specs.Program.{code_trees, global_tree, method_tree}
use Rattle.lk_programs.specs.Typed.{program_tree}
use Rattle.leg_forms.specs.WellFormed.{IsWellFormedLeg}
use Rattle.leg_rules.specs.LegNames.{own}
use Rattle.leg_rules.specs.Legs.{Items, legs, legs_of_code, leg_count, checked, ensures_at_end, entry_and_requires, entry_items, entries_named, assumed, own_claims, with_fixed}
use Rattle.leg_rules.specs.Numbering.{leg_tree as numbered_leg}
use Rattle.leg_rules.proofs.Counts.{legs_counted}
use Rattle.leg_count.specs.Capped.{capped}
use Rattle.leg_count.proofs.Counts.{counts-renamed}
use Rattle.leg_items.specs.declared.name.Scope.{Scope}
use Rattle.leg_items.specs.Names.{kind_of}
use Rattle.call_items.specs.Frames.{claims_in, entries_among}
use Rattle.leg_orders.specs.Places.{method_of, program_of}
use Rattle.leg_orders.proofs.FoundTypes.{method_is}
use Rattle.leg_paths.specs.Initial.{all_fixed}
use Rattle.leg_paths.specs.Walks.{GoesAlong, codes_in, greatest}
use Rattle.leg_paths.proofs.Constants.{fixed_are}
use Rattle.leg_paths.proofs.Walks.{goes_to_end}
use Rattle.well_formed_legs.proofs.Methods.{legs_well_formed}
use Rattle.legs.specs.Legs.{HasLegs, IsLeg, AreLegs, legs_at, own_method, paths, scope_in}

-- the method of that number is the one that the text has there
pub own_is : (typed : Typed) (number : ℕ) (m : Method) → slice_get typed.methods number ≡ Some m → method_of typed number ≡ own_method typed m
own_is typed number m e =
    method_is typed number (Some m) e
    ∙ ap₂ (λ l g. renamed_method (variable_of l g) (method_tree m)) (length-map m.locals value_type)
    (length-map typed.globals global_tree)

module _ (typed : Typed) (m : Method) where
  abbrev program : ProgramTree Variable
  program = program_of typed

  abbrev method : MethodTree Variable
  method = own_method typed m

  globals_counted : length typed.globals ≡ length program.globals
  globals_counted = sym (length-map (map global_tree typed.globals) (renamed_global global) ∙ length-map typed.globals global_tree)

  -- ---- in front of the body

  pub entered : (scope : Scope) (ensures_ requires_ : List Noted) (x0 x1 x2 : Items) → scope ≡ scope_in typed m → ensures_ ≡ m.ensures_ →
      requires_ ≡ m.requires_ →
      x1 ≡ x0 ++ entry_items m.node.0 (λ g. own (entry g)) (entries_among scope.globals (claims_in scope ensures_)) →
      x2 ≡ x1 ++ assumed (own_claims (claims_in scope requires_)) → x2 ≡ x0 ++ entry_and_requires program method
  entered scope ensures_ requires_ x0 x1 x2 is e r a b =
      let values : Items = entry_items m.node.0 (λ g. own (entry g)) (entries_named program method.ensures_) in
      let given : Items = assumed (own_claims method.requires_) in
      let same : x1 ≡ x0 ++ values =
      a ∙ ap₂ (λ s l. x0 ++ entry_items m.node.0 (λ g. own (entry g)) (entries_among s.globals (claims_in s l))) is e
      ∙ ap (λ k. x0 ++ entry_items m.node.0 (λ g. own (entry g)) (entries_among k method.ensures_)) globals_counted in
      b ∙ ap₂ (λ s l. x1 ++ assumed (own_claims (claims_in s l))) is r ∙ ap (λ x. x ++ given) same ∙ append_assoc x0 values given

  -- ---- along a path

  abbrev end : List Items
  end = ensures_at_end method ∷ []

  along : (scope : Scope) (codes : List Code) (n : ℕ) (old new : Items) (next result : Option ℕ) → scope ≡ scope_in typed m → codes ≡ m.body → result ≡ next →
      GoesAlong (legs_of_code program (codes_in scope codes) end) end n old new result → GoesAlong (paths typed m) end n old new next
  along scope codes n old new next result is e f h =
      subst (λ r. GoesAlong (paths typed m) end n old new r) f
      (subst (λ l. GoesAlong (legs_of_code program (codes_in (scope_in typed m) l) end) end n old new result) e
      (subst (λ s. GoesAlong (legs_of_code program (codes_in s codes) end) end n old new result) is h))

  pub ended : (scope : Scope) (codes : List Code) (n : ℕ) (old new : Items) (result : Option ℕ) → scope ≡ scope_in typed m → codes ≡ m.body → result ≡ None →
      GoesAlong (legs_of_code program (codes_in scope codes) end) end n old new result → n < greatest → n < length (paths typed m) →
      new ≡ old ++ get_or (paths typed m) n []
  ended scope codes n old new result is e f h small there = along scope codes n old new None result is e f h there small

  pub reached : (scope : Scope) (codes : List Code) (ensures_ : List Noted) (n k : ℕ) (old middle new : Items) (result : Option ℕ) →
      scope ≡ scope_in typed m → codes ≡ m.body →
      ensures_ ≡ m.ensures_ → result ≡ Some k → GoesAlong (legs_of_code program (codes_in scope codes) end) end n old middle result →
      new ≡ middle ++ checked kinds.Ensures (own_claims (claims_in scope ensures_)) → n < greatest → n < length (paths typed m) →
      new ≡ old ++ get_or (paths typed m) n []
  reached scope codes ensures_ n k old middle new result is e a f h b small there =
      goes_to_end (paths typed m) (ensures_at_end method) [] n k old middle new (along scope codes n old middle (Some k) result is e f h)
      (b ∙ ap₂ (λ s l. middle ++ checked kinds.Ensures (own_claims (claims_in s l))) is a) there small

  pub behind_entry : (n : ℕ) (x0 x2 x3 : Items) → x2 ≡ x0 ++ entry_and_requires program method → x3 ≡ x2 ++ get_or (paths typed m) n [] →
      x3 ≡ x0 ++ (entry_and_requires program method ++ get_or (paths typed m) n [])
  behind_entry n x0 x2 x3 a b =
      b ∙ ap (λ x. x ++ get_or (paths typed m) n []) a ∙ append_assoc x0 (entry_and_requires program method) (get_or (paths typed m) n [])

  -- ---- a whole leg

  -- a leg of that number is there where a path is
  path_there : (n : ℕ) → n < length (legs program method) → n < length (paths typed m)
  path_there n h = subst (λ k. n < k) (length-map (paths typed m) (λ leg. with_fixed program method (entry_and_requires program method ++ leg))) h

  whole : (n : ℕ) (scope : Scope) (drafts items : Items) → scope ≡ scope_in typed m →
      drafts ≡ entry_and_requires program method ++ get_or (paths typed m) n [] →
      items ≡ all_fixed scope m.node.0 drafts 0 typed.globals ++ drafts → n < length (legs program method) → items ≡ get_or (legs program method) n []
  whole n scope drafts items is a b h =
      b ∙ ap (λ l. l ++ drafts) (fixed_are program (length (map
      (λ node. node.file) typed.nodes)) method scope drafts 0 typed.globals typed.well_typed.globals)
      ∙ ap (with_fixed program method) a
      ∙ sym (get_or-map (λ leg. with_fixed program method (entry_and_requires program method ++ leg)) (paths typed m) n [] [] (path_there n h))

  pub leg_is : (number n : ℕ) (scope : Scope) (drafts items : Items) → slice_get typed.methods number ≡ Some m → scope ≡ scope_in typed m →
      (n < greatest → n < length (paths typed m) → drafts ≡ entry_and_requires program method ++ get_or (paths typed m) n []) →
      items ≡ all_fixed scope m.node.0 drafts 0 typed.globals ++ drafts → n < greatest → n < length (legs_at typed number) →
      items ≡ get_or (legs_at typed number) n []
  leg_is number n scope drafts items e is a b small there =
      let same = own_is typed number m e in
      let inside : n < length (legs program method) = subst (λ u. n < length (legs program u)) same there in
      whole n scope drafts items is (a small (path_there n inside)) b inside ∙ ap (λ u. get_or (legs program u) n []) (sym same)

  -- ---- how many there are

  pub counted : (number count : ℕ) → slice_get typed.methods number ≡ Some m → count ≡ capped (leg_count (method_tree m)) →
      count ≡ capped (length (legs_at typed number))
  counted number count e h =
      h ∙ ap capped (sym (legs_counted program (method_of typed number) ∙ ap leg_count (own_is typed number m e)
      ∙ counts-renamed (kind_of (scope_in typed m)) (code_trees m.body) 1))

-- up to 256 the count is how many there are
pub few : (count n : ℕ) → count ≡ capped n → count ≤ 256 → count ≡ n
few count n e h = omega (arith, e, h)

pub many : (count n : ℕ) → count ≡ capped n → 256 < count → 256 < n
many count n e h = omega (arith, e, h)

-- the method is there
pub own_there : (typed : Typed) (number : ℕ) (methods : List Method) (m : Method) → methods ≡ typed.methods → number < length typed.methods →
    m ≡ get_or methods number m →
    slice_get typed.methods number ≡ Some m
own_there typed number methods m e h is = slice_get_read typed.methods (length typed.methods) number m refl h (is ∙ ap (λ l. get_or l number m) e)

-- what is counted there is how many legs there are
pub told : (typed : Typed) (number count : ℕ) (methods : List Method) (m : Method) → methods ≡ typed.methods → number < length typed.methods →
    m ≡ get_or methods number m →
    count ≡ capped (leg_count (method_tree m)) → count ≡ capped (length (legs_at typed number))
told typed number count methods m e h is k = counted typed m number count (own_there typed number methods m e h is) k

-- ---- all of them

pub no_legs_yet : (typed : Typed) (number : ℕ) (told : LegsData) → told.legs ≡ [] → told.nodes ≡ [] → HasLegs typed number [] told
no_legs_yet typed number told a b = record { numbered_legs = ap (map leg_tree) a; item_nodes = ap (map (map (λ node. node.0))) b }

pub one_leg_more : (typed : Typed) (number : ℕ) (all : List Items) (k : ℕ) (old new : LegsData) (leg : Leg) (nodes : List NodeNo) → k < length all →
    HasLegs typed number (take k all) old → IsLeg typed number (get_or all k []) leg nodes → new.legs ≡ old.legs ++ leg ∷ [] →
    new.nodes ≡ old.nodes ++ nodes ∷ [] →
    HasLegs typed number (take (k + 1) all) new
one_leg_more typed number all k old new leg nodes h has is a b = record {
  numbered_legs =
      ap (map leg_tree) a ∙ map-append leg_tree old.legs (leg ∷ []) ∙ ap₂ (λ xs x. xs ++ x ∷ []) has.numbered_legs is.told
      ∙ sym (map_more (numbered_leg (program_of typed) (method_of typed number)) all k [] h);
  item_nodes =
      ap (map (map (λ node. node.0))) b ∙ map-append (map (λ node. node.0)) old.nodes (nodes ∷ []) ∙ ap₂ (λ xs x. xs ++ x ∷ []) has.item_nodes is.nodes_told
      ∙ sym (map_more (map (λ noted. noted.node)) all k [] h);
}

pub all_legs : (typed : Typed) (number k : ℕ) (told : LegsData) → length (legs_at typed number) ≤ k →
    HasLegs typed number (take k (legs_at typed number)) told →
    HasLegs typed number (legs_at typed number) told
all_legs typed number k told h has = subst (λ l. HasLegs typed number l told) (take_all k (legs_at typed number) h) has

pub are_legs : (typed : Typed) (number count : ℕ) (found : LegsData) → count ≡ capped (length (legs_at typed number)) → count ≤ 256 →
    HasLegs typed number (legs_at typed number) found → AreLegs typed number found
are_legs typed number count found e h has = record { few = subst (λ k. k ≤ 256) (few count (length (legs_at typed number)) e h) h; all = has }

-- ---- they are well formed

formed : (legs : List Leg) (trees : List LegTree) → map leg_tree legs ≡ trees → AllByRecursion IsWellFormedLeg trees →
    AllByRecursion (λ leg. IsWellFormedLeg (leg_tree leg)) legs
formed legs trees e h = by legs (subst (AllByRecursion IsWellFormedLeg) (sym e) h)
  where
    by : (xs : List Leg) → AllByRecursion IsWellFormedLeg (map leg_tree xs) → AllByRecursion (λ leg. IsWellFormedLeg (leg_tree leg)) xs
    by [] k = tt
    by (x ∷ xs) k = (k.0, by xs k.1)

numbered_formed : (program : ProgramTree Variable) (method : MethodTree Variable) (all : List Items) →
    AllByRecursion (λ items. IsWellFormedLeg (numbered_leg program method items)) all → AllByRecursion IsWellFormedLeg (map (numbered_leg program method) all)
numbered_formed p u [] h = tt
numbered_formed p u (items ∷ all) h = (h.0, numbered_formed p u all h.1)

pub are_well_formed : (typed : Typed) (number : ℕ) (told : LegsData) → number < length typed.methods → AreLegs typed number told →
    AllByRecursion (λ leg. IsWellFormedLeg (leg_tree leg)) told.legs
are_well_formed typed number told h are =
    formed told.legs (map (numbered_leg (program_of typed) (method_of typed number)) (legs_at typed number)) are.all.numbered_legs
    (numbered_formed (program_of typed) (method_of typed number) (legs_at typed number)
    (legs_well_formed (program_of typed) (map (λ node. node.file) typed.nodes) (length typed.files) typed.well_typed number
    (subst (λ k. number < k) (sym (length-map (map method_tree typed.methods) (λ t. renamed_method (variable_of (length t.locals) (length
    (program_tree typed).globals)) t) ∙ length-map typed.methods method_tree)) h)))
