-- What may be wrong with the types and the names of a text, and which fault of several comes first.
use Rattle.std.specs.Prelude.{ℕ, Bool, if◌then◌else◌, List, [], ◌∷◌, Option, Some, None}
use Rattle.std.specs.Ordering.{is_lt, nat_cmp}
use Rattle.std.specs.Cmp.Lexicographic.{slice_cmp}
use Rattle.slang_tree.specs.declared.place.Place.{Place}
use Rattle.slang_tree.specs.declared.place.Fault.{Fault}

abbrev pub fault : ℕ → Place → Fault
fault code place = record { code = code; place = place }

abbrev pub unknown_name : Place → Fault
unknown_name place = fault 6 place

abbrev pub duplicate_name : Place → Fault
duplicate_name place = fault 7 place

abbrev pub type_differs : Place → Fault
type_differs place = fault 8 place

abbrev pub argument_count : Place → Fault
argument_count place = fault 9 place

abbrev pub constant_assigned : Place → Fault
constant_assigned place = fault 10 place

abbrev pub outside_modifies : Place → Fault
outside_modifies place = fault 11 place

abbrev pub call_out_of_place : Place → Fault
call_out_of_place place = fault 12 place

abbrev pub form_left_out : Place → Fault
form_left_out place = fault 14 place

abbrev pub claim_word_out_of_place : Place → Fault
claim_word_out_of_place place = fault 15 place

abbrev pub too_many_methods : Place → Fault
too_many_methods place = fault 16 place

-- no fault, or this one
abbrev pub unless : Bool → Fault → List Fault
unless holds found = if holds then [] else found ∷ []

-- ---- the first fault

-- The first number that differs decides, and else the shorter list comes first.
abbrev pub precedes : List ℕ → List ℕ → Bool
precedes a b = is_lt (slice_cmp nat_cmp a b)

abbrev pub position : Fault → List ℕ
position found = found.place.line ∷ found.place.col ∷ found.code ∷ []

-- its place is an earlier one, or it has the same place and a lower code
abbrev pub comes_before : Fault → Fault → Bool
comes_before a b = precedes (position a) (position b)

abbrev pub first_with : Fault → List Fault → Fault
first_with found [] = found
first_with found (next ∷ faults) = first_with (if comes_before next found then next else found) faults

-- the fault before which none comes
abbrev pub first_fault : List Fault → Option Fault
first_fault [] = None
first_fault (found ∷ faults) = Some (first_with found faults)
