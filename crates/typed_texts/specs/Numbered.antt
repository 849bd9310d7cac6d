-- Parts of a program whose nodes are numbered one after another, in the order of the text.
use Rattle.std.specs.Prelude.{ℕ, ◌+◌, List, [], ◌∷◌, ◌++◌, length, map}

-- the places of the nodes, and the part, where its first node has a number
pub record Numbered (P A : Type 0) : Type 0 where
  pub places : List P
  pub from : ℕ → A

-- no node
abbrev pub plain : {P A : Type 0} → A → Numbered P A
plain part = record { places = []; from = λ n. part }

-- one node
abbrev pub single : {P A : Type 0} → P → (ℕ → A) → Numbered P A
single place make = record { places = place ∷ []; from = make }

-- one node, and then those of a part
abbrev pub headed : {P A B : Type 0} → P → (ℕ → A → B) → Numbered P A → Numbered P B
headed place make part = record { places = place ∷ part.places; from = λ n. make n (part.from (n + 1)) }

-- the nodes of the first, and then those of the second
abbrev pub joined : {P A B C : Type 0} → (A → B → C) → Numbered P A → Numbered P B → Numbered P C
joined make first second = record {
  places = first.places ++ second.places;
  from = λ n. make (first.from n) (second.from (n + length first.places));
}

abbrev pub numbered_map : {P A B : Type 0} → (A → B) → Numbered P A → Numbered P B
numbered_map make part = record { places = part.places; from = λ n. make (part.from n) }

abbrev pub pair : {A B : Type 0} → A → B → A × B
pair a b = (a, b)

-- one after another
abbrev pub listed : {P A : Type 0} → List (Numbered P A) → Numbered P (List A)
listed [] = plain []
listed (part ∷ parts) = joined (λ a as'. a ∷ as') part (listed parts)

-- the same with other places
abbrev pub placed : {P Q A : Type 0} → (P → Q) → Numbered P A → Numbered Q A
placed f part = record { places = map f part.places; from = part.from }
