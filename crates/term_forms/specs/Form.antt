-- What a part and a form stand for, and what the walk over a term answers.
use Rattle.std.specs.Prelude.{◌≡◌, ℕ, ◌^◌, ◌≤◌, List, map, true, false, unsigned_abs, Result, Ok, Err}
use Rattle.std.specs.List.{AllByRecursion}
use Rattle.slang_values.specs.Tree.{Tree, Trees}
use Rattle.tree_forms.specs.Form.{FormPart, LinearForm, form, form_term, form_terms, has_small_numbers, is_narrow, are_narrow}
use Rattle.term_trees.specs.Term.{tree}
use Rattle.term_forms.specs.declared.form.Part.{Part}
use Rattle.term_forms.specs.declared.form.Form.{Form}
use Rattle.term_forms.specs.declared.form.FormEnd.{FormEnd}
use Rattle.term_forms.specs.declared.form.FormEnd.TheVariants.{Wide}

abbrev pub part_of : Part → FormPart
part_of p = record { atom = tree p.atom; times = p.times }

abbrev pub form_of : Form → LinearForm
form_of f = record { parts = map part_of f.parts.items; constant = f.constant }

-- the times of the parts are within n
abbrev pub TimesWithin : ℕ → List FormPart → Type 0
TimesWithin n ps = AllByRecursion (λ p. unsigned_abs p.times ≤ n) ps

-- the numbers have room in 128 bits for one more such number
pub record HasRoom (f : LinearForm) : Type 0 where
  pub constant : unsigned_abs f.constant ≤ 2 ^ 126
  pub times : TimesWithin (2 ^ 126) f.parts

-- the form itself, where its numbers are within 2^60, and else Wide
abbrev pub IsNarrowed : LinearForm → Result Form FormEnd → Type 0
IsNarrowed f (Ok g) = (form_of g ≡ f) × (has_small_numbers f ≡ true)
IsNarrowed f (Err e) = (e ≡ Wide) × (has_small_numbers f ≡ false)

-- f is the form of the tree, which is not Wide
pub record IsFormOf (t : Tree ℕ) (f : LinearForm) : Type 0 where
  pub same : f ≡ form t
  pub narrow : is_narrow t ≡ true

-- u is the term of the tree's form, which is not Wide
pub record IsTermOf (t u : Tree ℕ) : Type 0 where
  pub same : u ≡ form_term (form t)
  pub narrow : is_narrow t ≡ true

pub record AreTermsOf (ts us : Trees ℕ) : Type 0 where
  pub same : us ≡ form_terms ts
  pub narrow : are_narrow ts ≡ true

-- Wide comes of a tree that is Wide
pub record IsEndOf (t : Tree ℕ) (e : FormEnd) : Type 0 where
  pub wide : e ≡ Wide → is_narrow t ≡ false

pub record AreEndsOf (ts : Trees ℕ) (e : FormEnd) : Type 0 where
  pub wide : e ≡ Wide → are_narrow ts ≡ false
