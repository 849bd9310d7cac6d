-- Numbers as bytes, the highest first, and back.
use Rattle.std.proofs.Common.{◌≡◌, ℕ, zero, suc, ◌+◌, ◌*◌, ◌/◌, ◌%◌, ◌^◌, ◌<◌, ◌≤◌, List, [], ◌∷◌, length, refl, sym, ap, ◌∙◌, arith}
use Rattle.std.specs.Int.{byte_at, bytes_high_first}
use Rattle.std.proofs.Math.Nat.{one-le-pow, pow-succ', mod-eq_of_lt, mul-le-mul_right, mul_assoc, add-mul-div_right}
use Rattle.std.proofs.Math.Arith.{mod-mul}
use Rattle.std.proofs.lemmas.Nat.{div-mul-add}
use Rattle.key_rules.specs.Readers.{AreBytes, worth}

positive : (k : ℕ) → 0 < 256 ^ k
positive k = let h = one-le-pow k 256 (omega arith) in omega (arith, h)

pub length_high : (k n : ℕ) → length (bytes_high_first k n) ≡ k
length_high zero n = refl
length_high (suc k) n = ap suc (length_high k n)

top_byte : (k n : ℕ) → byte_at k n * 256 ^ k + n % 256 ^ k ≡ n % 256 ^ suc k
top_byte zero n = omega arith
top_byte (suc i) n = sym (ap (λ m. n % m) (pow-succ' 256 (suc i)) ∙ mod-mul n {m = 256} {c = 256 ^ suc i} (omega arith) (positive (suc i)))

worth_high : (k n : ℕ) → worth (bytes_high_first k n) ≡ n % 256 ^ k
worth_high zero n = omega arith
worth_high (suc k) n =
    ap (λ l. byte_at k n * 256 ^ l + worth (bytes_high_first k n)) (length_high k n)
    ∙ ap (λ w. byte_at k n * 256 ^ k + w) (worth_high k n) ∙ top_byte k n

-- what is written is read
pub worth_written : (k n : ℕ) → n < 256 ^ k → worth (bytes_high_first k n) ≡ n
worth_written k n h = worth_high k n ∙ mod-eq_of_lt h

pub small_byte : (k n : ℕ) → byte_at k n < 256
small_byte zero n = omega arith
small_byte (suc i) n = omega arith

pub high_bytes : (k n : ℕ) → AreBytes (bytes_high_first k n)
high_bytes zero n = tt
high_bytes (suc k) n = (small_byte k n, high_bytes k n)

-- bytes are worth less than the power of their length
pub worth_small : (bs : List ℕ) → AreBytes bs → worth bs < 256 ^ length bs
worth_small [] h = omega arith
worth_small (b ∷ bs) h =
    let first = h.0 in
    let rest = worth_small bs h.1 in
    let less : b ≤ 255 = omega arith in
    let most = mul-le-mul_right (256 ^ length bs) less in
    let power = pow-succ' 256 (length bs) in
    omega (arith, rest, most, power)

byte_back : (k b w : ℕ) → b < 256 → w < 256 ^ k → byte_at k (b * 256 ^ k + w) ≡ b
byte_back zero b w small low = omega arith
byte_back (suc i) b w small low = ap (λ q. q % 256) (div-mul-add b (256 ^ suc i) w low) ∙ mod-eq_of_lt small

byte_shift : (k m n : ℕ) → byte_at k (m * 256 * 256 ^ k + n) ≡ byte_at k n
byte_shift zero m n = omega arith
byte_shift (suc i) m n =
    let p = 256 ^ suc i in
    let turned : m * 256 * p + n ≡ n + m * 256 * p = omega arith in
    let q = n / p in
    let last : (q + m * 256) % 256 ≡ q % 256 = omega arith in
    ap (λ x. x / p % 256) turned ∙ ap (λ x. x % 256) (add-mul-div_right n (m * 256) (positive (suc i))) ∙ last

cons_same : {a b : ℕ} {xs ys : List ℕ} → a ≡ b → xs ≡ ys → a ∷ xs ≡ b ∷ ys
cons_same e f = cc (e, f)

-- The lowest bytes do not know of what is above them.
bytes_shift : (k m n : ℕ) → bytes_high_first k (m * 256 ^ k + n) ≡ bytes_high_first k n
bytes_shift zero m n = refl
bytes_shift (suc k) m n =
    let split : m * 256 ^ suc k ≡ m * 256 * 256 ^ k = ap (λ p. m * p) (pow-succ' 256 k) ∙ sym (mul_assoc m 256 (256 ^ k)) in
    ap (λ p. bytes_high_first (suc k) (p + n)) split ∙ cons_same (byte_shift k m n) (bytes_shift k (m * 256) n)

-- what is read is written
pub written_worth : (bs : List ℕ) → AreBytes bs → bytes_high_first (length bs) (worth bs) ≡ bs
written_worth [] h = refl
written_worth (b ∷ bs) h =
    cons_same (byte_back (length bs) b (worth bs) h.0 (worth_small bs h.1)) (bytes_shift (length bs) b (worth bs) ∙ written_worth bs h.1)
