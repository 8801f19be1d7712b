-- The order of two names' words is the order of their bytes, as in a dictionary.
use Rattle.std.proofs.Common.{◌≡◌, ℕ, zero, suc, ◌+◌, ◌*◌, ◌^◌, ◌<◌, List, [], ◌∷◌, drop, Ordering, Less, Equal, Greater, sym, refl, ap, ◌∙◌, mul-le-mul_right, arith}
use Rattle.std.proofs.lemmas.Bool.Decides.{nat_tests}
use Rattle.std.proofs.lemmas.Cmp.{by_ranked, ranked}
use Rattle.std.specs.Cmp.{nat_cmp_is}
use Rattle.std.specs.List.{AllByRecursion}
use Rattle.std.specs.Ordering.{nat_cmp, ordering_then}
use Rattle.kinds.specs.Lexical.{by_words, lexical}
use Rattle.kinds.specs.Name.{IsName}
use Rattle.kinds.specs.Packed.{packed, weighed}
use Rattle.kinds.proofs.Packing.{Bytes, places-pos, weighed-below}
use Rattle.kinds.proofs.Spelling.{positive, bytes, positive-behind, bytes-behind, nothing-behind}

is-less : (a b : ℕ) → a < b → nat_cmp a b ≡ Less
is-less a b h = sym (nat_cmp_is a b Less h)

is-greater : (a b : ℕ) → b < a → nat_cmp a b ≡ Greater
is-greater a b h = sym (nat_cmp_is a b Greater h)

-- less, equal or greater
by_number : {G : Type 0} (a b : ℕ) → (nat_cmp a b ≡ Less → a < b → G) → (nat_cmp a b ≡ Equal → a ≡ b → G) → (nat_cmp a b ≡ Greater → b < a → G) → G
by_number a b = by_ranked (a < b) (a ≡ b) (b < a) (nat_cmp a b) (ranked a b (nat_cmp a b) refl)

nat_cmp-shift : (m a b : ℕ) → nat_cmp (m + a) (m + b) ≡ nat_cmp a b
nat_cmp-shift m a b = grind (arith, nat_tests)

then-equal : (o : Ordering) → ordering_then o Equal ≡ o
then-equal o = grind arith

-- a greater first byte outweighs all behind it
outweighs : (k x y : ℕ) (xs ys : List ℕ) → x < y → Bytes xs → x * 256 ^ k + weighed k xs < y * 256 ^ k + weighed k ys
outweighs k x y xs ys less all = grind (arith, weighed-below, mul-le-mul_right)

weighs : (k x : ℕ) (xs : List ℕ) → 0 < x → 0 < x * 256 ^ k + weighed k xs
weighs k x xs some = grind (arith, places-pos)

-- the first places by their number, then what is behind them
weighed-lexical : (k : ℕ) (xs ys : List ℕ) → AllByRecursion (λ x. 0 < x) xs → Bytes xs → AllByRecursion (λ y. 0 < y) ys → Bytes ys
    → ordering_then (nat_cmp (weighed k xs) (weighed k ys)) (lexical (drop k xs) (drop k ys)) ≡ lexical xs ys
unfolding weighed
weighed-lexical zero xs ys px bx py by = refl
weighed-lexical (suc k) [] [] px bx py by = refl
weighed-lexical (suc k) [] (y ∷ ys) px bx py by = rw (is-less 0 (y * 256 ^ k + weighed k ys) (weighs k y ys py.0)) refl
weighed-lexical (suc k) (x ∷ xs) [] px bx py by = rw (is-greater (x * 256 ^ k + weighed k xs) 0 (weighs k x xs px.0)) refl
weighed-lexical (suc k) (x ∷ xs) (y ∷ ys) px bx py by =
    by_number x y
    (λ e h. rw (e, is-less (x * 256 ^ k + weighed k xs) (y * 256 ^ k + weighed k ys) (outweighs k x y xs ys h bx.1)) refl)
    (λ e h.
    let same : nat_cmp (x * 256 ^ k + weighed k xs) (y * 256 ^ k + weighed k ys) ≡ nat_cmp (weighed k xs) (weighed k ys) =
    ap (λ z. nat_cmp (x * 256 ^ k + weighed k xs) (z * 256 ^ k + weighed k ys)) (sym h) ∙ nat_cmp-shift (x * 256 ^ k) (weighed k xs) (weighed k ys) in
    rw (e, same) (weighed-lexical k xs ys px.1 bx.1 py.1 by.1))
    (λ e h. rw (e, is-greater (x * 256 ^ k + weighed k xs) (y * 256 ^ k + weighed k ys) (outweighs k y x ys xs h by.1)) refl)

pub packed-lexical : (xs ys : List ℕ) → IsName xs → IsName ys → by_words (packed xs) (packed ys) ≡ lexical xs ys
packed-lexical xs ys x y =
    let behind = weighed-lexical 8 (drop 8 xs) (drop 8 ys) (positive-behind xs x) (bytes-behind xs x) (positive-behind ys y) (bytes-behind ys y) in
    let ended = rw (nothing-behind xs x, nothing-behind ys y) at behind in
    let low : nat_cmp (weighed 8 (drop 8 xs)) (weighed 8 (drop 8 ys)) ≡ lexical (drop 8 xs) (drop 8 ys) = sym (then-equal _) ∙ ended in
    ap (ordering_then (nat_cmp (weighed 8 xs) (weighed 8 ys))) low ∙ weighed-lexical 8 xs ys (positive xs x) (bytes xs x) (positive ys y) (bytes ys y)

pub ruleset ordered = (packed-lexical)
