-- What an expression adds to the weights of the tokens of a text.
use Rattle.std.specs.Prelude.{ℕ, ◌+◌, min, max, nat_eq, nat_lt, Bool, true, false, not, ◌&&◌, ◌||◌, Option, Some, None}
use Rattle.slang_grammar.specs.Parts.{TypeText, sequence_type, ElementText}
use Rattle.slang_grammar.specs.Expressions.{ExprText, result, entry_value, old_value, sequence, quantified, quantified_indices, bracketed, application, update, field, prefixed, binary, ExprsText, no_exprs, last_expr, expr_then}

-- The most that a token of it adds to what counts before it, and how many of its tokens still count behind it, at the level that it stands at.
pub record Heft : Type 0 where
  pub peak : ℕ
  pub count : ℕ

-- of tokens that do not count
abbrev pub nothing : Heft
nothing = record { peak = 0; count = 0 }

-- of a token that counts
abbrev pub one : Heft
one = record { peak = 1; count = 1 }

-- of a bracket, which counts, with what adds so much inside it
abbrev pub around : ℕ → Heft
around peak = record { peak = peak + 1; count = 1 }

abbrev pub followed : Heft → Heft → Heft
followed a b = record { peak = max a.peak (a.count + b.peak); count = a.count + b.count }

abbrev pub type_heft : TypeText → Heft
type_heft (sequence_type word left element right) = around (type_heft element).peak
type_heft other = nothing

abbrev pub element_heft : Option ElementText → Heft
element_heft None = nothing
element_heft (Some element) = around (type_heft element.ty).peak

-- an operator between two operands
abbrev pub binary_heft : Heft → Heft → Heft
binary_heft left right = followed left (followed one right)

abbrev mutual
  pub heft : ExprText → Heft
  heft (result word ty) = element_heft ty
  heft (entry_value word left n right) = around 0
  heft (old_value word left n right) = around 0
  heft (sequence word ty left elements right) = followed (element_heft ty) (around (peak_of elements))
  heft (quantified by word left low until high right bound body) =
      followed (around (followed (heft low) (heft high)).peak) (around (heft body).peak)
  heft (quantified_indices by word left head dot indices right bound body) = followed (around (followed (heft head) one).peak) (around (heft body).peak)
  heft (bracketed left inner right) = around (heft inner).peak
  heft (application head left arguments right) = followed (heft head) (around (peak_of arguments))
  heft (update head left index arrow element right) = followed (heft head) (around (followed (heft index) (heft element)).peak)
  heft (field head dot n) = followed (heft head) one
  heft (prefixed by place operand) = followed one (heft operand)
  heft (binary left row place right) = binary_heft (heft left) (heft right)
  heft other = nothing

  -- the count begins again at each comma
  pub peak_of : ExprsText → ℕ
  peak_of no_exprs = 0
  peak_of (last_expr text) = (heft text).peak
  peak_of (expr_then text comma more) = max (heft text).peak (peak_of more)

-- one more than a text may weigh
abbrev pub heavy : ℕ
heavy = 201

-- The one adds less than the other, or the same and leaves less counted. What is too heavy for any text goes as one.
unfoldable pub is_lighter : Heft → Heft → Bool
is_lighter a b =
    nat_lt (min a.peak heavy) (min b.peak heavy) || (nat_eq (min a.peak heavy) (min b.peak heavy) && nat_lt (min a.count heavy) (min b.count heavy))

-- A part of a text stands without brackets, by what the text adds with the part as it is, and with the part in brackets: where it may, and,
-- where the text is to be light, only if brackets do not make it lighter.
unfoldable pub stays : Bool → Bool → Heft → Heft → Bool
stays false may bare enclosed = may
stays true may bare enclosed = may && not (is_lighter enclosed bare)
