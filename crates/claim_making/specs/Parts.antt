-- What was made from the results of its parts, all of which are there.
use Rattle.std.specs.Prelude.{◌≡◌, Result, Ok}

pub record FromOne {A C E : Type 0} (a : Result A E) (Is : A → C → Type 0) (made : C) : Type 0 where
  pub first : A
  pub was_first : a ≡ Ok first
  pub is : Is first made

pub record FromTwo {A B C E : Type 0} (a : Result A E) (b : Result B E) (Is : A → B → C → Type 0) (made : C) : Type 0 where
  pub first : A
  pub second : B
  pub was_first : a ≡ Ok first
  pub was_second : b ≡ Ok second
  pub is : Is first second made

pub record FromThree {A B D C E : Type 0} (a : Result A E) (b : Result B E) (d : Result D E) (Is : A → B → D → C → Type 0) (made : C) : Type 0 where
  pub first : A
  pub second : B
  pub third : D
  pub was_first : a ≡ Ok first
  pub was_second : b ≡ Ok second
  pub was_third : d ≡ Ok third
  pub is : Is first second third made
