-- What is written is read, and only that: of numbers, of codes and of lists.
use Rattle.std.proofs.Common.{◌≡◌, ℕ, zero, suc, ◌+◌, ◌^◌, ◌<◌, ◌≤◌, Bool, true, false, List, [], ◌∷◌, ◌++◌, length, length-append, append_assoc, Option, Some, None, refl, sym, ap, ◌∙◌, subst, cond, arith}
use Rattle.std.specs.Prelude.{nat_eq, nat_le}
use Rattle.std.specs.Int.{w128, bytes_high_first, cast_signed, cast_unsigned}
use Rattle.std.specs.Int.RustNames.{FitsSigned}
use Rattle.std.specs.List.{AllByRecursion, flat_map}
use Rattle.std.proofs.lemmas.Bool.{eqb-true, le-leb}
use Rattle.std.proofs.Math.Facts.{Fits-of_z, sfits_to_z}
use mir.Val.{Fits}
use Rattle.std.proofs.lemmas.Int.{to_z-of_z, of_z-to_z}
use Rattle.std.proofs.lemmas.List.Concat.{flat_map-cons}
use Rattle.std.proofs.lemmas.Option.{same_Some}
use Rattle.key_rules.specs.Codes.{coded}
use Rattle.key_rules.specs.Writing.{number_bytes, literal_bytes, list_bytes}
use Rattle.key_rules.specs.Fits.{FitsNumber, FitsList}
use Rattle.key_rules.specs.Readers.{AreBytes, Reader, given, and_then, ◌>>=◌, read_byte, read_bytes, worth, read_number, read_literal, found, read_coded, read_members, members_within, members, read_list}
use Rattle.key_rules.proofs.Numbers.{worth_written, worth_small, written_worth}

-- ---- one reader, and then the next

pub bind : {A B : Type 0} (read : Reader A) (next : A → Reader B) (bytes : List ℕ) (a : A) (rest : List ℕ) (end : Option (B × List ℕ))
    → read bytes ≡ Some (a, rest) → next a rest ≡ end → (read >>= next) bytes ≡ end
bind read next bytes a rest end e k = ap (and_then next) e ∙ k

-- what the first reader read, where both have read
pub record Unbound {A B : Type 0} (read : Reader A) (next : A → Reader B) (bytes : List ℕ) (b : B) (rest : List ℕ) : Type 0 where
  pub value : A
  pub middle : List ℕ
  pub first : read bytes ≡ Some (value, middle)
  pub second : next value middle ≡ Some (b, rest)

pub none_some : {A : Type 0} (a : A) → None ≡ Some a → ⊥
none_some a h = cc (h)

pub unbind : {A B : Type 0} (read : Reader A) (next : A → Reader B) (bytes : List ℕ) (b : B) (rest : List ℕ) → (read >>= next) bytes ≡ Some (b, rest)
    → Unbound read next bytes b rest
unbind {A} {B} read next bytes b rest h = by (read bytes) refl h where
  by : (o : Option (A × List ℕ)) → read bytes ≡ o → and_then next o ≡ Some (b, rest) → Unbound read next bytes b rest
  by None e k = absurd (none_some (b, rest) k)
  by (Some p) e k = record { value = p.0; middle = p.1; first = e; second = k }

-- what was read is written there, and fits
pub record Takes {A : Type 0} (write : A → List ℕ) (fits : A → Type 0) (bytes : List ℕ) (a : A) (rest : List ℕ) : Type 0 where
  pub same : bytes ≡ write a ++ rest
  pub fit : fits a
  pub left : AreBytes rest

abbrev pub TakesOnly : {A : Type 0} → (A → List ℕ) → (A → Type 0) → Reader A → Type 0
TakesOnly {A} write fits read = (bytes : List ℕ) (a : A) (rest : List ℕ) → AreBytes bytes → read bytes ≡ Some (a, rest) → Takes write fits bytes a rest

abbrev pub ReadsBack : {A : Type 0} → (A → List ℕ) → (A → Type 0) → Reader A → Type 0
ReadsBack {A} write fits read = (a : A) (rest : List ℕ) → fits a → read (write a ++ rest) ≡ Some (a, rest)

-- where no more is read
pub given_back : {A : Type 0} (write : A → List ℕ) (fits : A → Type 0) (bytes : List ℕ) (a b : A) (middle rest : List ℕ) → given a middle ≡ Some (b, rest)
    → Takes write fits bytes a middle → Takes write fits bytes b rest
given_back {A} write fits bytes a b middle rest e h =
    subst (λ (p : A × List ℕ). Takes write fits bytes p.0 p.1) (same_Some (a, middle) (b, rest) e) h

-- ---- bytes and numbers

pub bytes_behind : (front rest : List ℕ) → AreBytes (front ++ rest) → AreBytes rest
bytes_behind [] rest h = h
bytes_behind (b ∷ front) rest h = bytes_behind front rest h.1

abbrev pub one_byte : ℕ → List ℕ
one_byte b = b ∷ []

pub byte_takes : TakesOnly one_byte (λ b. b < 256) read_byte
byte_takes [] a rest are h = absurd (none_some (a, rest) h)
byte_takes (b ∷ bytes) a rest are h =
    given_back one_byte (λ b. b < 256) (b ∷ bytes) b a bytes rest h (record { same = refl; fit = are.0; left = are.1 })

bytes_back : (bs rest : List ℕ) → read_bytes (length bs) (bs ++ rest) ≡ Some (bs, rest)
bytes_back [] rest = refl
bytes_back (b ∷ bs) rest = bind (read_bytes (length bs)) (λ bs. given (b ∷ bs)) (bs ++ rest) bs rest _ (bytes_back bs rest) refl

-- that many bytes
record AreSome (k : ℕ) (bs : List ℕ) : Type 0 where
  long : length bs ≡ k
  bytes : AreBytes bs

bytes_take : (k : ℕ) → TakesOnly (λ bs. bs) (AreSome k) (read_bytes k)
bytes_take zero bytes bs rest are h =
    given_back (λ bs. bs) (AreSome zero) bytes [] bs bytes rest h (record { same = refl; fit = record { long = refl; bytes = tt }; left = are })
bytes_take (suc k) bytes bs rest are h =
    let u = unbind read_byte (λ b. read_bytes k >>= λ bs. given (b ∷ bs)) bytes bs rest h in
    let p = byte_takes bytes u.value u.middle are u.first in
    let v = unbind (read_bytes k) (λ bs. given (u.value ∷ bs)) u.middle bs rest u.second in
    let q = bytes_take k u.middle v.value v.middle p.left v.first in
    given_back (λ bs. bs) (AreSome (suc k)) bytes (u.value ∷ v.value) bs v.middle rest v.second
    (record {
      same = p.same ∙ ap (λ bs. u.value ∷ bs) q.same;
      fit = record { long = ap suc q.fit.long; bytes = (p.fit, q.fit.bytes) };
      left = q.left;
    })

pub number_back : ReadsBack number_bytes FitsNumber read_number
number_back n rest h =
    bind (read_bytes 4) (λ bs. given (worth bs)) (number_bytes n ++ rest) (number_bytes n) rest _ (bytes_back (number_bytes n) rest)
    (ap (λ m. Some (m, rest)) (worth_written 4 n h))

pub number_takes : TakesOnly number_bytes FitsNumber read_number
number_takes bytes n rest are h =
    let u = unbind (read_bytes 4) (λ bs. given (worth bs)) bytes n rest h in
    let p = bytes_take 4 bytes u.value u.middle are u.first in
    let low : worth u.value < 256 ^ 4 = subst (λ k. worth u.value < 256 ^ k) p.fit.long (worth_small u.value p.fit.bytes) in
    let written : bytes_high_first 4 (worth u.value) ≡ u.value =
    subst (λ k. bytes_high_first k (worth u.value) ≡ u.value) p.fit.long (written_worth u.value p.fit.bytes) in
    given_back number_bytes FitsNumber bytes (worth u.value) n u.middle rest u.second
    (record { same = p.same ∙ ap (λ bs. bs ++ u.middle) (sym written); fit = low; left = p.left })

pub literal_back : ReadsBack literal_bytes (FitsSigned w128) read_literal
literal_back z rest h =
    let n : ℕ = cast_unsigned w128 z in
    let fits : Fits w128 n = Fits-of_z h in
    let bits : n < 256 ^ 16 = fits.fits in
    bind (read_bytes 16) (λ bs. given (cast_signed w128 (worth bs))) (literal_bytes z ++ rest) (literal_bytes z) rest _ (bytes_back (literal_bytes z) rest)
    (ap (λ m. Some (cast_signed w128 m, rest)) (worth_written 16 n bits) ∙ ap (λ y. Some (y, rest)) (to_z-of_z w128 z h))

pub literal_takes : TakesOnly literal_bytes (FitsSigned w128) read_literal
literal_takes bytes z rest are h =
    let u = unbind (read_bytes 16) (λ bs. given (cast_signed w128 (worth bs))) bytes z rest h in
    let p = bytes_take 16 bytes u.value u.middle are u.first in
    let low : worth u.value < 256 ^ 16 = subst (λ k. worth u.value < 256 ^ k) p.fit.long (worth_small u.value p.fit.bytes) in
    let written : bytes_high_first 16 (worth u.value) ≡ u.value =
    subst (λ k. bytes_high_first k (worth u.value) ≡ u.value) p.fit.long (written_worth u.value p.fit.bytes) in
    let fits : Fits w128 (worth u.value) = record { fits = low } in
    let cast : cast_unsigned w128 (cast_signed w128 (worth u.value)) ≡ worth u.value = of_z-to_z w128 (worth u.value) low in
    given_back literal_bytes (FitsSigned w128) bytes (cast_signed w128 (worth u.value)) z u.middle rest u.second
    (record { same = p.same ∙ ap (λ bs. bs ++ u.middle) (sym (ap (bytes_high_first 16) cast ∙ written)); fit = sfits_to_z fits; left = p.left })

-- ---- codes

-- these are read by their codes
pub coded_back : {A B : Type 0} (code : A → ℕ) (xs : List A) (a : A) (next : A → Reader B) (rest : List ℕ) (end : Option (B × List ℕ))
    → coded code xs (code a) ≡ Some a → next a rest ≡ end → (read_coded code xs >>= next) (code a ∷ rest) ≡ end
coded_back code xs a next rest end e k =
    bind (read_coded code xs) next (code a ∷ rest) a rest end (ap (λ o. found o rest) e) k

coded_takes_of : {A : Type 0} (code : A → ℕ) (xs : List A) (n : ℕ) (a : A) → coded code xs n ≡ Some a → code a ≡ n
coded_takes_of code [] n a h = absurd (none_some a h)
coded_takes_of {A} code (x ∷ xs) n a h = by (nat_eq (code x) n) refl h (λ k. coded_takes_of code xs n a k) where
  by : (b : Bool) → nat_eq (code x) n ≡ b → cond b (Some x) (coded code xs n) ≡ Some a → (coded code xs n ≡ Some a → code a ≡ n) → code a ≡ n
  by true e k more = ap code (sym (same_Some x a k)) ∙ eqb-true (code x) n e
  by false e k more = more k

-- it is found by its code
abbrev pub IsFound : {A : Type 0} → (A → ℕ) → List A → A → Type 0
IsFound code xs a = coded code xs (code a) ≡ Some a

pub coded_takes : {A : Type 0} (code : A → ℕ) (xs : List A) → TakesOnly (λ a. code a ∷ []) (IsFound code xs) (read_coded code xs)
coded_takes {A} code xs bytes a rest are h =
    let u = unbind read_byte (λ n. found (coded code xs n)) bytes a rest h in
    let p = byte_takes bytes u.value u.middle are u.first in
    by u.value u.middle p (coded code xs u.value) refl u.second where
      by : (n : ℕ) (middle : List ℕ) → Takes one_byte (λ b. b < 256) bytes n middle → (o : Option A) → coded code xs n ≡ o → found o middle ≡ Some (a, rest)
          → Takes (λ a. code a ∷ []) (IsFound code xs) bytes a rest
      by n middle p None e k = absurd (none_some (a, rest) k)
      by n middle p (Some x) e k =
          let same = coded_takes_of code xs n x e in
          given_back (λ a. code a ∷ []) (IsFound code xs) bytes x a middle rest k
          (record { same = p.same ∙ ap (λ m. m ∷ middle) (sym same); fit = subst (λ m. coded code xs m ≡ Some x) (sym same) e; left = p.left })

-- ---- lists

module _ {A : Type 0} (write : A → List ℕ) (fits : A → Type 0) (read : Reader A) where
  members_back : ReadsBack write fits read → (xs : List A) (rest : List ℕ) → AllByRecursion fits xs
      → read_members read (length xs) (flat_map write xs ++ rest) ≡ Some (xs, rest)
  members_back back [] rest h = refl
  members_back back (x ∷ xs) rest h =
      let split : flat_map write (x ∷ xs) ++ rest ≡ write x ++ (flat_map write xs ++ rest) =
      ap (λ l. l ++ rest) (flat_map-cons write x xs) ∙ append_assoc (write x) (flat_map write xs) rest in
      ap (read_members read (suc (length xs))) split
      ∙ bind read (λ x. read_members read (length xs) >>= λ xs. given (x ∷ xs)) (write x ++ (flat_map write xs ++ rest)) x (flat_map write xs ++ rest) _
      (back x (flat_map write xs ++ rest) h.0)
      (bind (read_members read (length xs)) (λ xs. given (x ∷ xs)) (flat_map write xs ++ rest) xs rest _ (members_back back xs rest h.1) refl)

  members_long : ((a : A) → fits a → 1 ≤ length (write a)) → (xs : List A) → AllByRecursion fits xs → length xs ≤ length (flat_map write xs)
  members_long long [] h = omega arith
  members_long long (x ∷ xs) h =
      let split : length (flat_map write (x ∷ xs)) ≡ length (write x) + length (flat_map write xs) =
      ap length (flat_map-cons write x xs) ∙ length-append (write x) (flat_map write xs) in
      let one = long x h.0 in
      let more = members_long long xs h.1 in
      omega (arith, split, one, more)

  pub list_back : ReadsBack write fits read → ((a : A) → fits a → 1 ≤ length (write a)) → ReadsBack (list_bytes write) (FitsList fits) (read_list read)
  list_back back long xs rest h =
      let n = length xs in
      let behind = flat_map write xs ++ rest in
      let split : list_bytes write xs ++ rest ≡ number_bytes n ++ behind = append_assoc (number_bytes n) (flat_map write xs) rest in
      let enough : length xs ≤ length behind =
      (let one = members_long long xs h.1 in let two = length-append (flat_map write xs) rest in omega (arith, one, two)) in
      ap (read_list read) split
      ∙ bind read_number (members read) (number_bytes n ++ behind) n behind _ (number_back n behind h.0)
      (ap (λ b. members_within b read n behind) (le-leb n (length behind) enough) ∙ members_back back xs rest h.1)

  members_take : TakesOnly write fits read → (n : ℕ)
      → TakesOnly (flat_map write) (λ xs. (length xs ≡ n) × AllByRecursion fits xs) (read_members read n)
  members_take take zero bytes xs rest are h =
      given_back (flat_map write) (λ xs. (length xs ≡ zero) × AllByRecursion fits xs) bytes [] xs bytes rest h
      (record { same = refl; fit = (refl, tt); left = are })
  members_take take (suc n) bytes xs rest are h =
      let u = unbind read (λ x. read_members read n >>= λ xs. given (x ∷ xs)) bytes xs rest h in
      let p = take bytes u.value u.middle are u.first in
      let v = unbind (read_members read n) (λ xs. given (u.value ∷ xs)) u.middle xs rest u.second in
      let q = members_take take n u.middle v.value v.middle p.left v.first in
      given_back (flat_map write) (λ xs. (length xs ≡ suc n) × AllByRecursion fits xs) bytes (u.value ∷ v.value) xs v.middle rest v.second
      (record {
        same = p.same ∙ ap (λ l. write u.value ++ l) q.same ∙ sym (append_assoc (write u.value) (flat_map write v.value) v.middle)
            ∙ ap (λ l. l ++ v.middle) (sym (flat_map-cons write u.value v.value));
        fit = (ap suc q.fit.0, (p.fit, q.fit.1));
        left = q.left;
      })

  within_same : (b : Bool) (n : ℕ) (bytes : List ℕ) (xs : List A) (rest : List ℕ) → members_within b read n bytes ≡ Some (xs, rest)
      → read_members read n bytes ≡ Some (xs, rest)
  within_same true n bytes xs rest h = h
  within_same false n bytes xs rest h = absurd (none_some (xs, rest) h)

  pub list_takes : TakesOnly write fits read → TakesOnly (list_bytes write) (FitsList fits) (read_list read)
  list_takes take bytes xs rest are h =
      let u = unbind read_number (members read) bytes xs rest h in
      let p = number_takes bytes u.value u.middle are u.first in
      let k = within_same (nat_le u.value (length u.middle)) u.value u.middle xs rest u.second in
      let q = members_take take u.value u.middle xs rest p.left k in
      let count : number_bytes u.value ≡ number_bytes (length xs) = ap number_bytes (sym q.fit.0) in
      record {
        same = p.same ∙ ap (λ l. number_bytes u.value ++ l) q.same ∙ ap (λ l. l ++ (flat_map write xs ++ rest)) count
            ∙ sym (append_assoc (number_bytes (length xs)) (flat_map write xs) rest);
        fit = (subst FitsNumber (sym q.fit.0) p.fit, q.fit.1);
        left = q.left;
      }
