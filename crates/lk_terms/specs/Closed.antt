-- What is told of the loose bound variables of a term.
use Rattle.std.specs.Prelude.{ℕ, Bool, Option, ◌↔◌, IsTrue}
use Rattle.slang_values.specs.Tree.{Tree, Trees}
use Rattle.slang_values.specs.Typing.{IsClosed, AreClosed}
use Rattle.lk_terms.specs.Place.{IsPlace}

-- whether all of t's are below the number of the place
pub record TellsClosed (place : Option ℕ) (t : Tree ℕ) (answer : Bool) : Type 0 where
  pub at : (n : ℕ) → IsPlace place n → IsTrue answer ↔ IsClosed n t

pub record TellAllClosed (place : Option ℕ) (ts : Trees ℕ) (answer : Bool) : Type 0 where
  pub at : (n : ℕ) → IsPlace place n → IsTrue answer ↔ AreClosed n ts
