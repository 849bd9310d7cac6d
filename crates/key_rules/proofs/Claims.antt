-- What is written is read, and only that: of types and claims.
use Rattle.std.proofs.Common.{◌≡◌, ℕ, zero, suc, ◌≤◌, Bool, true, false, List, [], ◌∷◌, ◌++◌, length, append_assoc, Option, Some, refl, sym, ap, ◌∙◌, subst, arith}
use Rattle.std.specs.List.{AllByRecursion, flat_map}
use Rattle.std.proofs.lemmas.List.Concat.{flat_map-cons}
use Rattle.slang_values.specs.Value.{ValueType, unit_type, number_type, truth_type, sequence_type, record_type}
use Rattle.slang_values.specs.Tree.{Tree, literal, truth_literal, name, bound, unary, binary, update, quantified, listed, Listed, sequence_of, record_of, Trees, no_trees, tree_then, tree_list}
use Rattle.slang_values.specs.declared.operators.Unary.{Unary}
use Rattle.slang_values.specs.declared.operators.Binary.{Binary}
use Rattle.slang_values.specs.declared.operators.Quantifier.{Quantifier}
use Rattle.program_trees.specs.Claims.{ClaimName, variable, old_variable, let_symbol, ClaimTree}
use Rattle.key_rules.specs.Codes
use Rattle.key_rules.specs.Codes.{coded}
use Rattle.key_rules.specs.Writing.{number_bytes, literal_bytes, list_bytes, type_bytes, claim_bytes, parts_bytes}
use Rattle.key_rules.specs.Fits.{FitsNumber, FitsType, FitsClaim, FitParts}
use Rattle.key_rules.specs.Depths.{type_depth, front_depth, claim_depth, parts_depth}
use Rattle.key_rules.specs.Readers.{AreBytes, Reader, given, ◌>>=◌, read_number, read_literal, read_coded, read_list}
use Rattle.key_rules.specs.Reading.{type_behind, read_type, trees_of, claim_behind, read_claim}
use Rattle.key_rules.proofs.Readers.{bind, unbind, none_some, Takes, TakesOnly, ReadsBack, given_back, number_back, number_takes, literal_back, literal_takes, coded_back, coded_takes, list_back, list_takes}

-- what fits, and is no deeper than that
pub record Below {A : Type 0} (measure : A → ℕ) (fits : A → Type 0) (depth : ℕ) (a : A) : Type 0 where
  pub fit : fits a
  pub low : measure a ≤ depth

-- ---- types

pub type_long : (t : ValueType) → FitsType t → 1 ≤ length (type_bytes t)
type_long unit_type h = absurd h
type_long number_type h = omega arith
type_long truth_type h = omega arith
type_long (sequence_type t) h = omega arith
type_long (record_type n) h = omega arith

type_deep : (t : ValueType) → 1 ≤ type_depth t
type_deep unit_type = omega arith
type_deep number_type = omega arith
type_deep truth_type = omega arith
type_deep (sequence_type t) = omega arith
type_deep (record_type n) = omega arith

pub type_back : (depth : ℕ) → ReadsBack type_bytes (Below type_depth FitsType depth) (read_type depth)
type_back zero t rest h = let one = type_deep t in let low = h.low in absurd (omega (arith, one, low))
type_back (suc depth) unit_type rest h = absurd h.fit
type_back (suc depth) number_type rest h = refl
type_back (suc depth) truth_type rest h = refl
type_back (suc depth) (sequence_type t) rest h =
    coded_back Codes.type_code Codes.type_heads Codes.of_sequence (type_behind (read_type depth)) (type_bytes t ++ rest) _ refl
    (bind (read_type depth) (λ t. given (sequence_type t)) (type_bytes t ++ rest) t rest _
    (type_back depth t rest (record { fit = h.fit; low = (let low = h.low in omega (arith, low)) })) refl)
type_back (suc depth) (record_type n) rest h =
    coded_back Codes.type_code Codes.type_heads Codes.of_record (type_behind (read_type depth)) (number_bytes n ++ rest) _ refl
    (bind read_number (λ n. given (record_type n)) (number_bytes n ++ rest) n rest _ (number_back n rest h.fit) refl)

-- what stands behind a first byte
abbrev pub Behind : {A H : Type 0} → (A → List ℕ) → (A → Type 0) → (H → ℕ) → (H → Reader A) → H → Type 0
Behind {A} write fits code behind head =
    (bytes : List ℕ) (a : A) (rest : List ℕ) → AreBytes bytes → behind head bytes ≡ Some (a, rest) → Takes write fits (code head ∷ bytes) a rest

-- a first byte, and what stands behind it
pub headed : {A H : Type 0} (write : A → List ℕ) (fits : A → Type 0) (code : H → ℕ) (heads : List H) (behind : H → Reader A)
    → ((head : H) → Behind write fits code behind head) → TakesOnly write fits (read_coded code heads >>= behind)
headed write fits code heads behind each bytes a rest are h =
    let u = unbind (read_coded code heads) behind bytes a rest h in
    let p = coded_takes code heads bytes u.value u.middle are u.first in
    let q = each u.value u.middle a rest p.left u.second in
    record { same = p.same ∙ q.same; fit = q.fit; left = q.left }

module _ (depth : ℕ) (inner : TakesOnly type_bytes FitsType (read_type depth)) where
  each_type : (head : Codes.TypeHead) → Behind type_bytes FitsType Codes.type_code (type_behind (read_type depth)) head
  each_type Codes.of_number bytes t rest are h =
      given_back type_bytes FitsType (0 ∷ bytes) number_type t bytes rest h (record { same = refl; fit = tt; left = are })
  each_type Codes.of_truth bytes t rest are h =
      given_back type_bytes FitsType (1 ∷ bytes) truth_type t bytes rest h (record { same = refl; fit = tt; left = are })
  each_type Codes.of_sequence bytes t rest are h =
      let u = unbind (read_type depth) (λ t. given (sequence_type t)) bytes t rest h in
      let p = inner bytes u.value u.middle are u.first in
      given_back type_bytes FitsType (2 ∷ bytes) (sequence_type u.value) t u.middle rest u.second
      (record { same = ap (λ l. 2 ∷ l) p.same; fit = p.fit; left = p.left })
  each_type Codes.of_record bytes t rest are h =
      let u = unbind read_number (λ n. given (record_type n)) bytes t rest h in
      let p = number_takes bytes u.value u.middle are u.first in
      given_back type_bytes FitsType (3 ∷ bytes) (record_type u.value) t u.middle rest u.second
      (record { same = ap (λ l. 3 ∷ l) p.same; fit = p.fit; left = p.left })

pub type_takes : (depth : ℕ) → TakesOnly type_bytes FitsType (read_type depth)
type_takes zero bytes t rest are h = absurd (none_some (t, rest) h)
type_takes (suc depth) bytes t rest are h =
    headed type_bytes FitsType Codes.type_code Codes.type_heads (type_behind (read_type depth)) (each_type depth (type_takes depth)) bytes t rest are h

-- ---- parts of claims

pub trees_same : {A : Type 0} (ts : Trees A) → trees_of (tree_list ts) ≡ ts
trees_same no_trees = refl
trees_same (tree_then t ts) = ap (tree_then t) (trees_same ts)

pub list_same : {A : Type 0} (ts : List (Tree A)) → tree_list (trees_of ts) ≡ ts
list_same [] = refl
list_same (t ∷ ts) = ap (λ l. t ∷ l) (list_same ts)

parts_flat : (ts : Trees (ClaimName ℕ)) → parts_bytes ts ≡ flat_map claim_bytes (tree_list ts)
parts_flat no_trees = refl
parts_flat (tree_then t ts) = ap (λ l. claim_bytes t ++ l) (parts_flat ts) ∙ sym (flat_map-cons claim_bytes t (tree_list ts))

parts_written : (ts : Trees (ClaimName ℕ)) → list_bytes claim_bytes (tree_list ts) ≡ number_bytes (length (tree_list ts)) ++ parts_bytes ts
parts_written ts = ap (λ l. number_bytes (length (tree_list ts)) ++ l) (sym (parts_flat ts))

parts_below : (depth : ℕ) (ts : Trees (ClaimName ℕ)) → FitParts ts → parts_depth ts ≤ depth
    → AllByRecursion (Below claim_depth FitsClaim depth) (tree_list ts)
parts_below depth no_trees h low = tt
parts_below depth (tree_then t ts) h low =
    (record { fit = h.0; low = omega (arith, low) }, parts_below depth ts h.1 (omega (arith, low)))

parts_fit : (ts : List (ClaimTree ℕ)) → AllByRecursion FitsClaim ts → FitParts (trees_of ts)
parts_fit [] h = tt
parts_fit (t ∷ ts) h = (h.0, parts_fit ts h.1)

-- ---- claims

pub claim_long : (c : ClaimTree ℕ) → 1 ≤ length (claim_bytes c)
claim_long (literal z) = omega arith
claim_long (truth_literal b) = omega arith
claim_long (name (variable x)) = omega arith
claim_long (name (old_variable x)) = omega arith
claim_long (name (let_symbol label)) = omega arith
claim_long (bound n) = omega arith
claim_long (unary op a) = omega arith
claim_long (binary op a b) = omega arith
claim_long (update a i x) = omega arith
claim_long (quantified q low high body) = omega arith
claim_long (listed (sequence_of t) ts) = omega arith
claim_long (listed (record_of n) ts) = omega arith

claim_deep : (c : ClaimTree ℕ) → 1 ≤ claim_depth c
claim_deep (literal z) = omega arith
claim_deep (truth_literal b) = omega arith
claim_deep (name a) = omega arith
claim_deep (bound n) = omega arith
claim_deep (unary op a) = omega arith
claim_deep (binary op a b) = omega arith
claim_deep (update a i x) = omega arith
claim_deep (quantified q low high body) = omega arith
claim_deep (listed front ts) = omega arith

truth_found : (b : Bool) → coded Codes.claim_code Codes.claim_heads (Codes.claim_code (Codes.of_truth_literal b)) ≡ Some (Codes.of_truth_literal b)
truth_found true = refl
truth_found false = refl

binary_found : (op : Binary) → coded Codes.claim_code Codes.claim_heads (Codes.claim_code (Codes.of_binary op)) ≡ Some (Codes.of_binary op)
binary_found Binary.Add = refl
binary_found Binary.Sub = refl
binary_found Binary.Mul = refl
binary_found Binary.Div = refl
binary_found Binary.Rem = refl
binary_found Binary.And = refl
binary_found Binary.Or = refl
binary_found Binary.Imply = refl
binary_found Binary.Eq = refl
binary_found Binary.Lt = refl
binary_found Binary.Le = refl
binary_found Binary.Read = refl
binary_found Binary.Append = refl

quantified_found : (q : Quantifier) → coded Codes.claim_code Codes.claim_heads (Codes.claim_code (Codes.of_quantified q)) ≡ Some (Codes.of_quantified q)
quantified_found Quantifier.All = refl
quantified_found Quantifier.Exists = refl

-- two pieces, and three, and what follows them
two_apart : (a b rest : List ℕ) → (a ++ b) ++ rest ≡ a ++ (b ++ rest)
two_apart a b rest = append_assoc a b rest

three_apart : (a b c rest : List ℕ) → (a ++ (b ++ c)) ++ rest ≡ a ++ (b ++ (c ++ rest))
three_apart a b c rest = append_assoc a (b ++ c) rest ∙ ap (λ l. a ++ l) (append_assoc b c rest)

-- Where the parts of claims are read back, so are claims with one more byte in front.
module _ (depth : ℕ) (part : ReadsBack claim_bytes (Below claim_depth FitsClaim depth) (read_claim depth)) where
  abbrev behind : Codes.ClaimHead → Reader (ClaimTree ℕ)
  behind = claim_behind (read_type depth) (read_claim depth)

  abbrev Back : ClaimTree ℕ → List ℕ → Type 0
  Back c rest = read_claim (suc depth) (claim_bytes c ++ rest) ≡ Some (c, rest)

  back_at : (head : Codes.ClaimHead) (bytes : List ℕ) (end : Option (ClaimTree ℕ × List ℕ))
      → coded Codes.claim_code Codes.claim_heads (Codes.claim_code head) ≡ Some head → behind head bytes ≡ end
      → read_claim (suc depth) (Codes.claim_code head ∷ bytes) ≡ end
  back_at head bytes end e k = coded_back Codes.claim_code Codes.claim_heads head behind bytes end e k

  name_back : (a : ClaimName ℕ) (rest : List ℕ) → FitsClaim (name a) → Back (name a) rest
  name_back (variable x) rest h =
      back_at Codes.of_variable (number_bytes x ++ rest) _ refl
      (bind read_number (λ x. given (name (variable x))) (number_bytes x ++ rest) x rest _ (number_back x rest h) refl)
  name_back (old_variable x) rest h =
      back_at Codes.of_old_variable (number_bytes x ++ rest) _ refl
      (bind read_number (λ x. given (name (old_variable x))) (number_bytes x ++ rest) x rest _ (number_back x rest h) refl)
  name_back (let_symbol label) rest h =
      back_at Codes.of_let_symbol (number_bytes label ++ rest) _ refl
      (bind read_number (λ label. given (name (let_symbol label))) (number_bytes label ++ rest) label rest _ (number_back label rest h) refl)

  -- an operator without more than its operand
  plain_back : (op : Unary) (a : ClaimTree ℕ) (rest : List ℕ) → FitsClaim a → claim_depth a ≤ depth
      → (read_claim depth >>= λ a. given (unary op a)) ((claim_bytes a ++ []) ++ rest) ≡ Some (unary op a, rest)
  plain_back op a rest fit low =
      ap (read_claim depth >>= λ a. given (unary op a)) (append_assoc (claim_bytes a) [] rest)
      ∙ bind (read_claim depth) (λ a. given (unary op a)) (claim_bytes a ++ rest) a rest _ (part a rest (record { fit = fit; low = low })) refl

  unary_back : (op : Unary) (a : ClaimTree ℕ) (rest : List ℕ) → FitsClaim (unary op a) → claim_depth a ≤ depth → Back (unary op a) rest
  unary_back Unary.Neg a rest h low = back_at Codes.of_neg ((claim_bytes a ++ []) ++ rest) _ refl (plain_back Unary.Neg a rest h.1 low)
  unary_back Unary.Not a rest h low = back_at Codes.of_not ((claim_bytes a ++ []) ++ rest) _ refl (plain_back Unary.Not a rest h.1 low)
  unary_back Unary.Size a rest h low = back_at Codes.of_size ((claim_bytes a ++ []) ++ rest) _ refl (plain_back Unary.Size a rest h.1 low)
  unary_back (Unary.Field k) a rest h low =
      let next = λ (a : ClaimTree ℕ). read_number >>= λ k. given (unary (Unary.Field k) a) in
      back_at Codes.of_field ((claim_bytes a ++ number_bytes k) ++ rest) _ refl
      (ap (read_claim depth >>= next) (two_apart (claim_bytes a) (number_bytes k) rest)
      ∙ bind (read_claim depth) next (claim_bytes a ++ (number_bytes k ++ rest)) a (number_bytes k ++ rest) _
      (part a (number_bytes k ++ rest) (record { fit = h.1; low = low }))
      (bind read_number (λ k. given (unary (Unary.Field k) a)) (number_bytes k ++ rest) k rest _ (number_back k rest h.0) refl))

  binary_back : (op : Binary) (a b : ClaimTree ℕ) (rest : List ℕ) → FitsClaim (binary op a b) → claim_depth a ≤ depth → claim_depth b ≤ depth
      → Back (binary op a b) rest
  binary_back op a b rest h low_a low_b =
      let next = λ (a : ClaimTree ℕ). read_claim depth >>= λ b. given (binary op a b) in
      back_at (Codes.of_binary op) ((claim_bytes a ++ claim_bytes b) ++ rest) _ (binary_found op)
      (ap (read_claim depth >>= next) (two_apart (claim_bytes a) (claim_bytes b) rest)
      ∙ bind (read_claim depth) next (claim_bytes a ++ (claim_bytes b ++ rest)) a (claim_bytes b ++ rest) _
      (part a (claim_bytes b ++ rest) (record { fit = h.0; low = low_a }))
      (bind (read_claim depth) (λ b. given (binary op a b)) (claim_bytes b ++ rest) b rest _
      (part b rest (record { fit = h.1; low = low_b })) refl))

  -- three parts, of which the claim is made
  three_back : (make : ClaimTree ℕ → ClaimTree ℕ → ClaimTree ℕ → ClaimTree ℕ) (a b c : ClaimTree ℕ) (rest : List ℕ)
      → FitsClaim a → FitsClaim b → FitsClaim c → claim_depth a ≤ depth → claim_depth b ≤ depth → claim_depth c ≤ depth
      → (read_claim depth >>= λ a. read_claim depth >>= λ b. read_claim depth >>= λ c. given (make a b c))
      ((claim_bytes a ++ (claim_bytes b ++ claim_bytes c)) ++ rest) ≡ Some (make a b c, rest)
  three_back make a b c rest f g h low_a low_b low_c =
      let last = λ (a b : ClaimTree ℕ). read_claim depth >>= λ c. given (make a b c) in
      let next = λ (a : ClaimTree ℕ). read_claim depth >>= last a in
      ap (read_claim depth >>= next) (three_apart (claim_bytes a) (claim_bytes b) (claim_bytes c) rest)
      ∙ bind (read_claim depth) next (claim_bytes a ++ (claim_bytes b ++ (claim_bytes c ++ rest))) a (claim_bytes b ++ (claim_bytes c ++ rest)) _
      (part a (claim_bytes b ++ (claim_bytes c ++ rest)) (record { fit = f; low = low_a }))
      (bind (read_claim depth) (last a) (claim_bytes b ++ (claim_bytes c ++ rest)) b (claim_bytes c ++ rest) _
      (part b (claim_bytes c ++ rest) (record { fit = g; low = low_b }))
      (bind (read_claim depth) (λ c. given (make a b c)) (claim_bytes c ++ rest) c rest _
      (part c rest (record { fit = h; low = low_c })) refl))

  -- the parts of a list, behind what stands in front of them
  parts_back : (front : Listed) (ts : Trees (ClaimName ℕ)) (rest : List ℕ) → FitsNumber (length (tree_list ts)) → FitParts ts → parts_depth ts ≤ depth
      → (read_list (read_claim depth) >>= λ ts. given (listed front (trees_of ts)))
      ((number_bytes (length (tree_list ts)) ++ parts_bytes ts) ++ rest) ≡ Some (listed front ts, rest)
  parts_back front ts rest few fits low =
      let next = λ (ts : List (ClaimTree ℕ)). given (listed front (trees_of ts)) in
      ap (λ l. (read_list (read_claim depth) >>= next) (l ++ rest)) (sym (parts_written ts))
      ∙ bind (read_list (read_claim depth)) next (list_bytes claim_bytes (tree_list ts) ++ rest) (tree_list ts) rest _
      (list_back claim_bytes (Below claim_depth FitsClaim depth) (read_claim depth) part (λ c h. claim_long c) (tree_list ts) rest
      (few, parts_below depth ts fits low))
      (ap (λ ts. Some (listed front ts, rest)) (trees_same ts))

  listed_back : (front : Listed) (ts : Trees (ClaimName ℕ)) (rest : List ℕ) → FitsClaim (listed front ts) → front_depth front ≤ depth → parts_depth ts ≤ depth
      → Back (listed front ts) rest
  listed_back (sequence_of t) ts rest h low_front low =
      let tail = number_bytes (length (tree_list ts)) ++ parts_bytes ts in
      let next = λ (t : ValueType). read_list (read_claim depth) >>= λ ts. given (listed (sequence_of t) (trees_of ts)) in
      back_at Codes.of_sequence_literal ((type_bytes t ++ tail) ++ rest) _ refl
      (ap (read_type depth >>= next) (two_apart (type_bytes t) tail rest)
      ∙ bind (read_type depth) next (type_bytes t ++ (tail ++ rest)) t (tail ++ rest) _
      (type_back depth t (tail ++ rest) (record { fit = h.0; low = low_front }))
      (parts_back (sequence_of t) ts rest h.1 h.2 low))
  listed_back (record_of n) ts rest h low_front low =
      let tail = number_bytes (length (tree_list ts)) ++ parts_bytes ts in
      let next = λ (n : ℕ). read_list (read_claim depth) >>= λ ts. given (listed (record_of n) (trees_of ts)) in
      back_at Codes.of_record_literal ((number_bytes n ++ tail) ++ rest) _ refl
      (ap (read_number >>= next) (two_apart (number_bytes n) tail rest)
      ∙ bind read_number next (number_bytes n ++ (tail ++ rest)) n (tail ++ rest) _ (number_back n (tail ++ rest) h.0)
      (parts_back (record_of n) ts rest h.1 h.2 low))

  one_more : ReadsBack claim_bytes (Below claim_depth FitsClaim (suc depth)) (read_claim (suc depth))
  one_more (literal z) rest h =
      back_at Codes.of_literal (literal_bytes z ++ rest) _ refl
      (bind read_literal (λ z. given (literal z)) (literal_bytes z ++ rest) z rest _ (literal_back z rest h.fit) refl)
  one_more (truth_literal b) rest h = back_at (Codes.of_truth_literal b) rest _ (truth_found b) refl
  one_more (name a) rest h = name_back a rest h.fit
  one_more (bound n) rest h =
      back_at Codes.of_bound (number_bytes n ++ rest) _ refl
      (bind read_number (λ n. given (bound n)) (number_bytes n ++ rest) n rest _ (number_back n rest h.fit) refl)
  one_more (unary op a) rest h = (let low = h.low in unary_back op a rest h.fit (omega (arith, low)))
  one_more (binary op a b) rest h = (let low = h.low in binary_back op a b rest h.fit (omega (arith, low)) (omega (arith, low)))
  one_more (update a i x) rest h =
      let low = h.low in
      back_at Codes.of_update ((claim_bytes a ++ (claim_bytes i ++ claim_bytes x)) ++ rest) _ refl
      (three_back (λ a i x. update a i x) a i x rest h.fit.0 h.fit.1 h.fit.2 (omega (arith, low)) (omega (arith, low)) (omega (arith, low)))
  one_more (quantified q low high body) rest h =
      let deep = h.low in
      back_at (Codes.of_quantified q) ((claim_bytes low ++ (claim_bytes high ++ claim_bytes body)) ++ rest) _ (quantified_found q)
      (three_back (λ low high body. quantified q low high body) low high body rest h.fit.0 h.fit.1 h.fit.2
      (omega (arith, deep)) (omega (arith, deep)) (omega (arith, deep)))
  one_more (listed front ts) rest h =
      (let low = h.low in listed_back front ts rest h.fit (omega (arith, low)) (omega (arith, low)))

pub claim_back : (depth : ℕ) → ReadsBack claim_bytes (Below claim_depth FitsClaim depth) (read_claim depth)
claim_back zero c rest h = let one = claim_deep c in let low = h.low in absurd (omega (arith, one, low))
claim_back (suc depth) c rest h = one_more depth (claim_back depth) c rest h

-- ---- only claims are read

module _ (depth : ℕ) (part : TakesOnly claim_bytes FitsClaim (read_claim depth)) where
  abbrev claim_head : Codes.ClaimHead → Reader (ClaimTree ℕ)
  claim_head = claim_behind (read_type depth) (read_claim depth)

  abbrev From : List ℕ → ClaimTree ℕ → List ℕ → Type 0
  From bytes c rest = Takes claim_bytes FitsClaim bytes c rest

  -- the claim is this one
  ends : (bytes : List ℕ) (made c : ClaimTree ℕ) (middle rest : List ℕ) → given made middle ≡ Some (c, rest) → bytes ≡ claim_bytes made ++ middle
      → FitsClaim made → AreBytes middle → From bytes c rest
  ends bytes made c middle rest e same fit left = given_back claim_bytes FitsClaim bytes made c middle rest e (record { same = same; fit = fit; left = left })

  -- a number alone
  number_ends : (head : Codes.ClaimHead) (make : ℕ → ClaimTree ℕ)
      → ((n : ℕ) → claim_bytes (make n) ≡ Codes.claim_code head ∷ number_bytes n) → ((n : ℕ) → FitsNumber n → FitsClaim (make n))
      → (bytes : List ℕ) (c : ClaimTree ℕ) (rest : List ℕ) → AreBytes bytes → (read_number >>= λ n. given (make n)) bytes ≡ Some (c, rest)
      → From (Codes.claim_code head ∷ bytes) c rest
  number_ends head make written fits bytes c rest are h =
      let u = unbind read_number (λ n. given (make n)) bytes c rest h in
      let p = number_takes bytes u.value u.middle are u.first in
      ends (Codes.claim_code head ∷ bytes) (make u.value) c u.middle rest u.second
      (ap (λ l. Codes.claim_code head ∷ l) p.same ∙ ap (λ l. l ++ u.middle) (sym (written u.value))) (fits u.value p.fit) p.left

  -- an operand alone
  plain_ends : (head : Codes.ClaimHead) (op : Unary) → ((a : ClaimTree ℕ) → claim_bytes (unary op a) ≡ Codes.claim_code head ∷ (claim_bytes a ++ []))
      → ((a : ClaimTree ℕ) → FitsClaim a → FitsClaim (unary op a)) → (bytes : List ℕ) (c : ClaimTree ℕ) (rest : List ℕ) → AreBytes bytes
      → (read_claim depth >>= λ a. given (unary op a)) bytes ≡ Some (c, rest) → From (Codes.claim_code head ∷ bytes) c rest
  plain_ends head op written fits bytes c rest are h =
      let u = unbind (read_claim depth) (λ a. given (unary op a)) bytes c rest h in
      let p = part bytes u.value u.middle are u.first in
      ends (Codes.claim_code head ∷ bytes) (unary op u.value) c u.middle rest u.second
      (ap (λ l. Codes.claim_code head ∷ l) (p.same ∙ sym (append_assoc (claim_bytes u.value) [] u.middle))
      ∙ ap (λ l. l ++ u.middle) (sym (written u.value))) (fits u.value p.fit) p.left

  -- three parts
  three_ends : (head : Codes.ClaimHead) (make : ClaimTree ℕ → ClaimTree ℕ → ClaimTree ℕ → ClaimTree ℕ)
      → ((a b c : ClaimTree ℕ) → claim_bytes (make a b c) ≡ Codes.claim_code head ∷ (claim_bytes a ++ (claim_bytes b ++ claim_bytes c)))
      → ((a b c : ClaimTree ℕ) → FitsClaim a → FitsClaim b → FitsClaim c → FitsClaim (make a b c))
      → (bytes : List ℕ) (d : ClaimTree ℕ) (rest : List ℕ) → AreBytes bytes
      → (read_claim depth >>= λ a. read_claim depth >>= λ b. read_claim depth >>= λ c. given (make a b c)) bytes ≡ Some (d, rest)
      → From (Codes.claim_code head ∷ bytes) d rest
  three_ends head make written fits bytes d rest are h =
      let u = unbind (read_claim depth) (λ a. read_claim depth >>= λ b. read_claim depth >>= λ c. given (make a b c)) bytes d rest h in
      let p = part bytes u.value u.middle are u.first in
      let v = unbind (read_claim depth) (λ b. read_claim depth >>= λ c. given (make u.value b c)) u.middle d rest u.second in
      let q = part u.middle v.value v.middle p.left v.first in
      let w = unbind (read_claim depth) (λ c. given (make u.value v.value c)) v.middle d rest v.second in
      let r = part v.middle w.value w.middle q.left w.first in
      ends (Codes.claim_code head ∷ bytes) (make u.value v.value w.value) d w.middle rest w.second
      (ap (λ l. Codes.claim_code head ∷ l)
      (p.same ∙ ap (λ l. claim_bytes u.value ++ l) (q.same ∙ ap (λ l. claim_bytes v.value ++ l) r.same)
      ∙ sym (three_apart (claim_bytes u.value) (claim_bytes v.value) (claim_bytes w.value) w.middle))
      ∙ ap (λ l. l ++ w.middle) (sym (written u.value v.value w.value)))
      (fits u.value v.value w.value p.fit q.fit r.fit) r.left

  -- a list of parts, behind a front of these bytes
  listed_ends : (front : Listed) (before : List ℕ)
      → ((ts : Trees (ClaimName ℕ)) → claim_bytes (listed front ts) ≡ before ++ (number_bytes (length (tree_list ts)) ++ parts_bytes ts))
      → ((ts : Trees (ClaimName ℕ)) → FitsNumber (length (tree_list ts)) → FitParts ts → FitsClaim (listed front ts))
      → (bytes : List ℕ) (c : ClaimTree ℕ) (rest : List ℕ) → AreBytes bytes
      → (read_list (read_claim depth) >>= λ ts. given (listed front (trees_of ts))) bytes ≡ Some (c, rest) → From (before ++ bytes) c rest
  listed_ends front before written fits bytes c rest are h =
      let u = unbind (read_list (read_claim depth)) (λ ts. given (listed front (trees_of ts))) bytes c rest h in
      let p = list_takes claim_bytes FitsClaim (read_claim depth) part bytes u.value u.middle are u.first in
      let ts : Trees (ClaimName ℕ) = trees_of u.value in
      let same_list : tree_list ts ≡ u.value = list_same u.value in
      let list_written : list_bytes claim_bytes u.value ≡ number_bytes (length (tree_list ts)) ++ parts_bytes ts =
      ap (list_bytes claim_bytes) (sym same_list) ∙ parts_written ts in
      ends (before ++ bytes) (listed front ts) c u.middle rest u.second
      (ap (λ l. before ++ l) (p.same ∙ ap (λ l. l ++ u.middle) list_written)
      ∙ sym (append_assoc before (number_bytes (length (tree_list ts)) ++ parts_bytes ts) u.middle) ∙ ap (λ l. l ++ u.middle) (sym (written ts)))
      (fits ts (subst (λ xs. FitsNumber (length xs)) (sym same_list) p.fit.0) (parts_fit u.value p.fit.1)) p.left

  each : (head : Codes.ClaimHead) → Behind claim_bytes FitsClaim Codes.claim_code claim_head head
  each Codes.of_literal bytes c rest are h =
      let u = unbind read_literal (λ z. given (literal z)) bytes c rest h in
      let p = literal_takes bytes u.value u.middle are u.first in
      ends (0 ∷ bytes) (literal u.value) c u.middle rest u.second (ap (λ l. 0 ∷ l) p.same) p.fit p.left
  each (Codes.of_truth_literal b) bytes c rest are h =
      ends (Codes.claim_code (Codes.of_truth_literal b) ∷ bytes) (truth_literal b) c bytes rest h refl tt are
  each Codes.of_variable bytes c rest are h =
      number_ends Codes.of_variable (λ x. name (variable x)) (λ n. refl) (λ n h. h) bytes c rest are h
  each Codes.of_bound bytes c rest are h = number_ends Codes.of_bound (λ n. bound n) (λ n. refl) (λ n h. h) bytes c rest are h
  each Codes.of_old_variable bytes c rest are h =
      number_ends Codes.of_old_variable (λ x. name (old_variable x)) (λ n. refl) (λ n h. h) bytes c rest are h
  each Codes.of_let_symbol bytes c rest are h =
      number_ends Codes.of_let_symbol (λ label. name (let_symbol label)) (λ n. refl) (λ n h. h) bytes c rest are h
  each Codes.of_neg bytes c rest are h = plain_ends Codes.of_neg Unary.Neg (λ a. refl) (λ a h. (tt, h)) bytes c rest are h
  each Codes.of_not bytes c rest are h = plain_ends Codes.of_not Unary.Not (λ a. refl) (λ a h. (tt, h)) bytes c rest are h
  each Codes.of_size bytes c rest are h = plain_ends Codes.of_size Unary.Size (λ a. refl) (λ a h. (tt, h)) bytes c rest are h
  each Codes.of_field bytes c rest are h =
      let u = unbind (read_claim depth) (λ a. read_number >>= λ k. given (unary (Unary.Field k) a)) bytes c rest h in
      let p = part bytes u.value u.middle are u.first in
      let v = unbind read_number (λ k. given (unary (Unary.Field k) u.value)) u.middle c rest u.second in
      let q = number_takes u.middle v.value v.middle p.left v.first in
      ends (25 ∷ bytes) (unary (Unary.Field v.value) u.value) c v.middle rest v.second
      (ap (λ l. 25 ∷ l) (p.same ∙ ap (λ l. claim_bytes u.value ++ l) q.same ∙ sym (two_apart (claim_bytes u.value) (number_bytes v.value) v.middle)))
      (q.fit, p.fit) q.left
  each (Codes.of_binary op) bytes c rest are h =
      let u = unbind (read_claim depth) (λ a. read_claim depth >>= λ b. given (binary op a b)) bytes c rest h in
      let p = part bytes u.value u.middle are u.first in
      let v = unbind (read_claim depth) (λ b. given (binary op u.value b)) u.middle c rest u.second in
      let q = part u.middle v.value v.middle p.left v.first in
      ends (Codes.claim_code (Codes.of_binary op) ∷ bytes) (binary op u.value v.value) c v.middle rest v.second
      (ap (λ l. Codes.claim_code (Codes.of_binary op) ∷ l)
      (p.same ∙ ap (λ l. claim_bytes u.value ++ l) q.same ∙ sym (two_apart (claim_bytes u.value) (claim_bytes v.value) v.middle)))
      (p.fit, q.fit) q.left
  each Codes.of_update bytes c rest are h =
      three_ends Codes.of_update (λ a i x. update a i x) (λ a i x. refl) (λ a i x f g h. (f, g, h)) bytes c rest are h
  each (Codes.of_quantified q) bytes c rest are h =
      three_ends (Codes.of_quantified q) (λ low high body. quantified q low high body) (λ a b c. refl) (λ a b c f g h. (f, g, h)) bytes c rest are h
  each Codes.of_sequence_literal bytes c rest are h =
      let u = unbind (read_type depth) (λ t. read_list (read_claim depth) >>= λ ts. given (listed (sequence_of t) (trees_of ts))) bytes c rest h in
      let p = type_takes depth bytes u.value u.middle are u.first in
      let q = listed_ends (sequence_of u.value) (23 ∷ type_bytes u.value) (λ ts. refl) (λ ts few fits. (p.fit, few, fits)) u.middle c rest p.left u.second in
      record { same = ap (λ l. 23 ∷ l) p.same ∙ q.same; fit = q.fit; left = q.left }
  each Codes.of_record_literal bytes c rest are h =
      let u = unbind read_number (λ n. read_list (read_claim depth) >>= λ ts. given (listed (record_of n) (trees_of ts))) bytes c rest h in
      let p = number_takes bytes u.value u.middle are u.first in
      let q = listed_ends (record_of u.value) (24 ∷ number_bytes u.value) (λ ts. refl) (λ ts few fits. (p.fit, few, fits)) u.middle c rest p.left u.second in
      record { same = ap (λ l. 24 ∷ l) p.same ∙ q.same; fit = q.fit; left = q.left }

pub claim_takes : (depth : ℕ) → TakesOnly claim_bytes FitsClaim (read_claim depth)
claim_takes zero bytes c rest are h = absurd (none_some (c, rest) h)
claim_takes (suc depth) bytes c rest are h =
    headed claim_bytes FitsClaim Codes.claim_code Codes.claim_heads (claim_behind (read_type depth) (read_claim depth)) (each depth (claim_takes depth))
    bytes c rest are h
