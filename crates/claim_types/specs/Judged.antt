-- The type of a tree, worked out from its parts.
use Rattle.std.specs.Prelude.{ℕ, nat_lt, Bool, true, false, ◌&&◌, if◌then◌else◌, List, [], ◌∷◌, length, slice_get, Option, Some, None}
use Rattle.slang_values.specs.Value.{ValueType, unit_type, number_type, truth_type, sequence_type, record_type, Records, fields, is_known, same_type}
use Rattle.slang_values.specs.Tree.{Tree, literal, truth_literal, name, bound, unary, binary, update, quantified, listed, Trees, no_trees, tree_then, sequence_of, record_of}
use Rattle.slang_values.specs.Typing.{NameTypes}
use Rattle.slang_values.specs.declared.operators.Unary.{Unary}
use Rattle.slang_values.specs.declared.operators.Binary.{Binary}

abbrev pub given_if : Bool → ValueType → Option ValueType
given_if true t = Some t
given_if false t = None

-- the type is there, and is that one
abbrev pub is_type : ValueType → Option ValueType → Bool
is_type t None = false
is_type t (Some s) = same_type s t

-- the type of the elements, where it is a type of sequences
abbrev pub element_of : Option ValueType → Option ValueType
element_of (Some (sequence_type t)) = Some t
element_of _ = None

-- the number of the record, where it is the type of one
abbrev pub record_in : Option ValueType → Option ℕ
record_in (Some (record_type n)) = Some n
record_in _ = None

abbrev pub size_over : Option ValueType → Option ValueType
size_over None = None
size_over (Some t) = Some number_type

abbrev pub size_type : Option ValueType → Option ValueType
size_type a = size_over (element_of a)

abbrev pub place_over : Records → ℕ → Option ℕ → Option ValueType
place_over records k None = None
place_over records k (Some n) = slice_get (fields records n) k

abbrev pub place_type : Records → ℕ → Option ValueType → Option ValueType
place_type records k a = place_over records k (record_in a)

abbrev pub read_over : Option ValueType → Option ValueType → Option ValueType
read_over None i = None
read_over (Some t) i = given_if (is_type number_type i) t

-- of an element that is read
abbrev pub read_type : Option ValueType → Option ValueType → Option ValueType
read_type a i = read_over (element_of a) i

abbrev pub element_over : Bool → Option ValueType → Option ValueType → Option ValueType
element_over rest None x = None
element_over rest (Some t) x = given_if (rest && is_type t x) (sequence_type t)

-- of a sequence with an element of that type, where the rest is well typed
abbrev pub with_element : Bool → Option ValueType → Option ValueType → Option ValueType
with_element rest a x = element_over rest (element_of a) x

abbrev pub equal_type : Option ValueType → Option ValueType → Option ValueType
equal_type None b = None
equal_type (Some t) b = given_if (is_type t b) truth_type

-- of an operator between two parts
abbrev pub between : Binary → Option ValueType → Option ValueType → Option ValueType
between Binary.Add a b = given_if (is_type number_type a && is_type number_type b) number_type
between Binary.Sub a b = given_if (is_type number_type a && is_type number_type b) number_type
between Binary.Mul a b = given_if (is_type number_type a && is_type number_type b) number_type
between Binary.Div a b = given_if (is_type number_type a && is_type number_type b) number_type
between Binary.Rem a b = given_if (is_type number_type a && is_type number_type b) number_type
between Binary.And a b = given_if (is_type truth_type a && is_type truth_type b) truth_type
between Binary.Or a b = given_if (is_type truth_type a && is_type truth_type b) truth_type
between Binary.Imply a b = given_if (is_type truth_type a && is_type truth_type b) truth_type
between Binary.Eq a b = equal_type a b
between Binary.Lt a b = given_if (is_type number_type a && is_type number_type b) truth_type
between Binary.Le a b = given_if (is_type number_type a && is_type number_type b) truth_type
between Binary.Read a b = read_type a b
between Binary.Append a b = with_element true a b

abbrev pub of_one : Records → Unary → Option ValueType → Option ValueType
of_one records Unary.Neg a = given_if (is_type number_type a) number_type
of_one records Unary.Not a = given_if (is_type truth_type a) truth_type
of_one records Unary.Size a = size_type a
of_one records (Unary.Field k) a = place_type records k a

module _ {A : Type 0} (records : Records) (types : NameTypes A) where
  abbrev mutual
    pub judged : Tree A → Option ValueType
    judged (literal z) = Some number_type
    judged (truth_literal b) = Some truth_type
    judged (name a) = types a
    judged (bound n) = Some number_type
    judged (unary op a) = of_one records op (judged a)
    judged (binary op a b) = between op (judged a) (judged b)
    judged (update a i x) = with_element (is_type number_type (judged i)) (judged a) (judged x)
    judged (quantified q low high body) =
        given_if (is_type number_type (judged low) && (is_type number_type (judged high) && is_type truth_type (judged body))) truth_type
    judged (listed (sequence_of t) ts) = given_if (is_known records t && each_judged ts t) (sequence_type t)
    judged (listed (record_of n) ts) = given_if (nat_lt n (length records) && all_judged ts (fields records n)) (record_type n)

    pub each_judged : Trees A → ValueType → Bool
    each_judged no_trees t = true
    each_judged (tree_then a ts) t = is_type t (judged a) && each_judged ts t

    pub all_judged : Trees A → List ValueType → Bool
    all_judged no_trees [] = true
    all_judged no_trees (t ∷ ts) = false
    all_judged (tree_then a as') [] = false
    all_judged (tree_then a as') (t ∷ ts) = is_type t (judged a) && all_judged as' ts
