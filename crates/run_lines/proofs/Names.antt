-- The places of nodes and the names of files by their numbers.
use Rattle.std.proofs.Common.{◌≡◌, ℕ, zero, suc, List, [], ◌∷◌, Some, None, map, get_or, refl, sym, ap}
use Rattle.std.specs.Prelude.{slice_get}
use Rattle.lk_programs.specs.declared.program.NodePlace.{NodePlace as Kept}
use Rattle.run_texts.specs.Texts.{NodePlace}
use Rattle.run_lines.specs.Lines.{place_seen}

some_inj : {A : Type 0} {x y : A} → Some x ≡ Some y → x ≡ y
some_inj e = cc

pub place_there : (nodes : List Kept) (n : ℕ) (node : Kept) (past : NodePlace) → slice_get nodes n ≡ Some node
    → place_seen node ≡ get_or (map place_seen nodes) n past
place_there [] n node past h = absurd (cc)
place_there (first ∷ nodes) zero node past h = ap place_seen (some_inj (sym h))
place_there (first ∷ nodes) (suc n) node past h = place_there nodes n node past h

pub place_missing : (nodes : List Kept) (n : ℕ) (past : NodePlace) → slice_get nodes n ≡ None → past ≡ get_or (map place_seen nodes) n past
place_missing [] n past h = refl
place_missing (first ∷ nodes) zero past h = absurd (cc)
place_missing (first ∷ nodes) (suc n) past h = place_missing nodes n past h

pub file_there : (files : List (List ℕ)) (n : ℕ) (name : List ℕ) → slice_get files n ≡ Some name → name ≡ get_or files n []
file_there [] n name h = absurd (cc)
file_there (first ∷ files) zero name h = some_inj (sym h)
file_there (first ∷ files) (suc n) name h = file_there files n name h

pub file_missing : (files : List (List ℕ)) (n : ℕ) → slice_get files n ≡ None → [] ≡ get_or files n []
file_missing [] n h = refl
file_missing (first ∷ files) zero h = absurd (cc)
file_missing (first ∷ files) (suc n) h = file_missing files n h

pub ruleset place_lines = (place_there, place_missing)

pub ruleset file_lines = (file_there, file_missing)
