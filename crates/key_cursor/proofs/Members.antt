-- Members that are read one after the other, and lists.
use Rattle.std.proofs.Common.{◌≡◌, ℕ, suc, Bool, true, false, List, [], ◌∷◌, ◌++◌, map, length, append_assoc, Option, Some, None, Err, refl, sym, ap, ◌∙◌}
use Rattle.std.specs.Prelude.{nat_le}
use Rattle.std.proofs.lemmas.List.{map-append}
use Rattle.key_rules.specs.Readers.{Reader, and_then, given, ◌>>=◌, read_members, members_within, members, read_list, read_number}
use Rattle.key_cursor.specs.declared.end.ReadEnd.{ReadEnd}
use Rattle.key_cursor.specs.declared.end.ReadEnd.TheVariants.{NotKey, NoMemory}
use Rattle.key_cursor.specs.Reads.{Reads, Joins, joined, itself, count_reader, count_within}

nothing_joined : {B : Type 0} (o : Option (List B × List ℕ)) → and_then (λ xs. given ([] ++ xs)) o ≡ o
nothing_joined None = refl
nothing_joined (Some p) = refl

one_joined : {B : Type 0} (before : List B) (x : B) (o : Option (List B × List ℕ))
    → and_then (λ xs. given (before ++ xs)) (and_then (λ xs. given (x ∷ xs)) o) ≡ and_then (λ xs. given ((before ++ x ∷ []) ++ xs)) o
one_joined before x None = refl
one_joined before x (Some p) = ap (λ xs. Some (xs, p.1)) (sym (append_assoc before (x ∷ []) p.0))

-- One member more is read and joined.
pub one_more : {B : Type 0} (before : List B) (read : Reader B) (n : ℕ) (x : B) (old new : List ℕ) → read old ≡ Some (x, new)
    → joined before (read_members read (suc n)) old ≡ joined (before ++ x ∷ []) (read_members read n) new
one_more before read n x old new e =
    ap (λ o. and_then (λ xs. given (before ++ xs)) (and_then (λ y. read_members read n >>= λ ys. given (y ∷ ys)) o)) e
    ∙ one_joined before x (read_members read n new)

-- The same where a list of the code takes the member.
pub member_joined : {A B : Type 0} (plain : A → B) (read : Reader B) (n m : ℕ) (before after : List A) (x : A) (old new : List ℕ)
    → n ≡ suc m → read old ≡ Some (plain x, new) → after ≡ before ++ x ∷ []
    → joined (map plain before) (read_members read n) old ≡ joined (map plain after) (read_members read m) new
member_joined plain read n m before after x old new e h k =
    ap (λ i. joined (map plain before) (read_members read i) old) e ∙ one_more (map plain before) read m (plain x) old new h
    ∙ ap (λ l. joined l (read_members read m) new) (sym (ap (map plain) k ∙ map-append plain before (x ∷ [])))

-- No member is read, and so none of the list.
pub none_more : {B : Type 0} (before : List B) (read : Reader B) (n : ℕ) (old : List ℕ) → read old ≡ None
    → joined before (read_members read (suc n)) old ≡ None
none_more before read n old e = ap (λ o. and_then (λ xs. given (before ++ xs)) (and_then (λ y. read_members read n >>= λ ys. given (y ∷ ys)) o)) e

-- ---- lists

within_count : {B : Type 0} (read : Reader B) (n : ℕ) (within : Bool) (bytes : List ℕ)
    → members_within within read n bytes ≡ and_then (read_members read) (count_within n within bytes)
within_count read n true bytes = refl
within_count read n false bytes = refl

list_by_count : {B : Type 0} (read : Reader B) (bytes : List ℕ) → read_list read bytes ≡ (count_reader >>= read_members read) bytes
list_by_count {B} read bytes = by (read_number bytes) where
  by : (o : Option (ℕ × List ℕ))
      → and_then (members read) o ≡ and_then (read_members read) (and_then (λ n bytes. count_within n (nat_le n (length bytes)) bytes) o)
  by None = refl
  by (Some p) = within_count read p.0 (nat_le p.0 (length p.1)) p.1

-- no count, no list
pub count_ends : {A B : Type 0} (plain : A → B) (read : Reader B) (old middle new : List ℕ) (end : ReadEnd) → Reads {A = ℕ} itself count_reader old middle (Err end)
    → Reads (map plain) (read_list read) old new (Err end)
count_ends plain read old middle new NotKey e = list_by_count read old ∙ ap (and_then (read_members read)) e
count_ends plain read old middle new NoMemory e = tt

list_behind : {B : Type 0} (read : Reader B) (n : ℕ) (old middle : List ℕ) → count_reader old ≡ Some (n, middle)
    → read_list read old ≡ joined [] (read_members read n) middle
list_behind read n old middle e =
    list_by_count read old ∙ ap (and_then (read_members read)) e ∙ sym (nothing_joined (read_members read n middle))

-- one of the members is none
pub members_end : {A B : Type 0} (plain : A → B) (read : Reader B) (n : ℕ) (before after : List A) (old middle new last : List ℕ) (end : ReadEnd)
    → before ≡ [] → count_reader old ≡ Some (n, middle) → Joins plain (read_members read n) before after middle last (Err end)
    → Reads (map plain) (read_list read) old new (Err end)
members_end plain read n before after old middle new last NotKey nil e k =
    list_behind read n old middle e ∙ ap (λ l. joined (map plain l) (read_members read n) middle) (sym nil) ∙ k
members_end plain read n before after old middle new last NoMemory nil e k = tt

-- the list is read
pub list_read : {A B : Type 0} (plain : A → B) (read : Reader B) (n : ℕ) (before after : List A) (old middle new : List ℕ)
    → before ≡ [] → count_reader old ≡ Some (n, middle) → joined (map plain before) (read_members read n) middle ≡ Some (map plain after, new)
    → read_list read old ≡ Some (map plain after, new)
list_read plain read n before after old middle new nil e k =
    list_behind read n old middle e ∙ ap (λ l. joined (map plain l) (read_members read n) middle) (sym nil) ∙ k

pub all_themselves : {A : Type 0} (xs : List A) → map itself xs ≡ xs
all_themselves [] = refl
all_themselves (x ∷ xs) = ap (λ l. x ∷ l) (all_themselves xs)
