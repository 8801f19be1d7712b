-- How bytes pack into a word, and come back from it.
use Rattle.std.proofs.Common.{◌≡◌, ℕ, zero, suc, ◌+◌, ◌*◌, ◌/◌, ◌%◌, ◌^◌, ◌<◌, List, [], ◌∷◌, ◌++◌, get_or, take, drop, replicate, sym, refl, ap, ◌∙◌, mul-le-mul_right, mul_assoc, mul_comm, add-mul, pow-suc, arith}
use Rattle.std.proofs.Math.Seq.{take-length}
use Rattle.std.proofs.lemmas.Bool.Decides.{nat_tests}
use Rattle.std.proofs.lemmas.Grind.{common_steps}
use Rattle.std.proofs.lemmas.List.{drop_all, get_or-drop, get_or-replicate, get_or_past}
use Rattle.std.proofs.lemmas.List.Sums.{take_while-cons}
use Rattle.std.specs.Int.{byte_at, bytes_high_first, from_be_bytes, w64}
use Rattle.std.specs.List.{AllByRecursion}
use native.Mathlib.Nat.{div-eq_of_lt, mul-add-div_right, mul-add-mod_self_right}
use Rattle.kinds.specs.Packed.{weighed, front}

abbrev pub Bytes : List ℕ → Type 0
Bytes xs = AllByRecursion (λ x. x < 256) xs

pub places-pos : (k : ℕ) → 0 < 256 ^ k
places-pos zero = omega arith
places-pos (suc k) = rw pow-suc (omega (arith, places-pos k))

pub weighed-below : (k : ℕ) (xs : List ℕ) → Bytes xs → weighed k xs < 256 ^ k
unfolding weighed
weighed-below zero xs all = omega arith
weighed-below (suc k) [] all = places-pos (suc k)
weighed-below (suc k) (x ∷ xs) all = let rest = weighed-below k xs all.1 in let small = all.0 in grind (arith, pow-suc, mul-le-mul_right)

weighed-nil : (k : ℕ) → weighed k [] ≡ 0
unfolding weighed
weighed-nil zero = refl
weighed-nil (suc k) = refl

weighed-zero : (xs : List ℕ) → weighed 0 xs ≡ 0
unfolding weighed
weighed-zero xs = refl

-- one place more
weighed-suc : (k : ℕ) (xs : List ℕ) → weighed (suc k) xs ≡ weighed k xs * 256 + get_or xs k 0
unfolding weighed
weighed-suc zero [] = refl
weighed-suc (suc k) [] = refl
weighed-suc zero (x ∷ xs) = omega arith
weighed-suc (suc k) (x ∷ xs) =
    let rest = weighed-suc k xs in
    let front : x * 256 ^ suc k ≡ x * 256 ^ k * 256 = ap (λ w. x * w) (pow-suc 256 k) ∙ sym (mul_assoc x (256 ^ k) 256) in
    let spread = add-mul (x * 256 ^ k) (weighed k xs) 256 in
    omega arith

pub weighed-take : (k : ℕ) (xs : List ℕ) → weighed k (take k xs) ≡ weighed k xs
unfolding weighed
weighed-take zero xs = refl
weighed-take (suc k) [] = refl
weighed-take (suc k) (x ∷ xs) = ap (λ w. x * 256 ^ k + w) (weighed-take k xs)

-- for the first 8 bytes, or all where they are fewer, and those behind
pub ruleset halves = (weighed-take, drop_all, take-length)

-- zero bytes behind change no byte
same : (xs : List ℕ) (n many place : ℕ) → get_or {A = ℕ} (xs ++ drop n (replicate many 0)) place 0 ≡ get_or xs place 0
same xs n many place = grind (arith, common_steps, get_or-replicate, get_or_past, get_or-drop)

-- eight bytes, of which those behind are 0
pub word_weighed : (n : ℕ) (xs : List ℕ) → from_be_bytes w64 (xs ++ drop n (replicate 8 0)) ≡ weighed 8 xs
word_weighed n xs =
    let e = λ (k : ℕ). weighed-suc k xs in
    let s = same xs n 8 in
    omega (arith, s 0, s 1, s 2, s 3, s 4, s 5, s 6, s 7, weighed-zero xs, e 0, e 1, e 2, e 3, e 4, e 5, e 6, e 7)

byte_at-is : (k n : ℕ) → byte_at k n ≡ n / 256 ^ k % 256
byte_at-is k n = grind arith

-- what stands above the places does not change the bytes
bytes_above : (k m w : ℕ) → bytes_high_first k (m * 256 ^ k + w) ≡ bytes_high_first k w
bytes_above zero m w = refl
bytes_above (suc k) m w =
    let lower : m * 256 ^ suc k ≡ m * 256 * 256 ^ k = ap (λ p. m * p) (pow-suc 256 k ∙ mul_comm (256 ^ k) 256) ∙ sym (mul_assoc m 256 (256 ^ k)) in
    let head : byte_at k (m * 256 * 256 ^ k + w) ≡ byte_at k w = grind (arith, byte_at-is, mul-add-div_right, mul-add-mod_self_right, places-pos) in
    rw (lower, head) (ap (λ tail. byte_at k w ∷ tail) (bytes_above k (m * 256) w))

bytes-weighed : (k x : ℕ) (xs : List ℕ) → x < 256 → Bytes xs → bytes_high_first (suc k) (weighed (suc k) (x ∷ xs)) ≡ x ∷ bytes_high_first k (weighed k xs)
unfolding weighed
bytes-weighed k x xs small all =
    let head : byte_at k (x * 256 ^ k + weighed k xs) ≡ x = grind (arith, byte_at-is, mul-add-div_right, div-eq_of_lt, places-pos, weighed-below) in
    rw head (ap (λ tail. x ∷ tail) (bytes_above k x (weighed k xs)))

front-cons : (x : ℕ) (xs : List ℕ) → 0 < x → front (x ∷ xs) ≡ x ∷ front xs
front-cons x xs some = grind (arith, nat_tests, take_while-cons)

-- bytes other than zero are the front of the bytes of their number
pub front-bytes : (k : ℕ) (xs zs : List ℕ) → AllByRecursion (λ x. 0 < x) xs → Bytes xs → front zs ≡ drop k xs → front (bytes_high_first k (weighed k xs) ++ zs) ≡ xs
front-bytes zero xs zs full all e = e
front-bytes (suc k) [] zs full all e =
    let none : byte_at k (weighed (suc k) []) ≡ 0 = grind (arith, byte_at-is, weighed-nil) in
    rw none refl
front-bytes (suc k) (x ∷ xs) zs full all e =
    ap (λ ds. front (ds ++ zs)) (bytes-weighed k x xs all.0 all.1) ∙ front-cons x (bytes_high_first k (weighed k xs) ++ zs) full.0 ∙ ap (λ rest. x ∷ rest) (front-bytes k xs zs full.1 all.1 e)
