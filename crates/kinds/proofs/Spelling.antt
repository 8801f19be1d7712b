-- A name stands for the bytes that it was made of.
use Rattle.std.proofs.ByRecursion.{All-drop, All-from_get_or, All-weaker}
use Rattle.std.proofs.Common.{◌≡◌, ℕ, ◌<◌, List, [], drop, sym, ap, ◌∙◌, append-nil, arith}
use Rattle.std.proofs.lemmas.List.{drop_all}
use Rattle.std.specs.Int.{to_be_bytes, w64}
use Rattle.std.specs.List.{AllByRecursion}
use Rattle.kinds.specs.Name.{IsNameByte, IsName}
use Rattle.kinds.specs.Packed.{name_of, bytes_of, spelled, weighed, front}
use Rattle.kinds.proofs.Packing.{Bytes, front-bytes}

name-byte-positive : (b : ℕ) → IsNameByte b → 0 < b
name-byte-positive b rule = omega arith

name-byte-below : (b : ℕ) → IsNameByte b → b < 256
name-byte-below b rule = grind arith

allowed : (xs : List ℕ) → IsName xs → AllByRecursion IsNameByte xs
allowed xs rule = All-from_get_or IsNameByte xs 0 (λ place h. rule.2 place 0 h)

pub positive : (xs : List ℕ) → IsName xs → AllByRecursion (λ x. 0 < x) xs
positive xs rule = All-weaker IsNameByte (λ x. 0 < x) name-byte-positive xs (allowed xs rule)

pub bytes : (xs : List ℕ) → IsName xs → Bytes xs
bytes xs rule = All-weaker IsNameByte (λ x. x < 256) name-byte-below xs (allowed xs rule)

-- what stands behind the first 8 bytes
pub positive-behind : (xs : List ℕ) → IsName xs → AllByRecursion (λ x. 0 < x) (drop 8 xs)
positive-behind xs rule = All-drop (λ x. 0 < x) 8 xs (positive xs rule)

pub bytes-behind : (xs : List ℕ) → IsName xs → Bytes (drop 8 xs)
bytes-behind xs rule = All-drop (λ x. x < 256) 8 xs (bytes xs rule)

pub nothing-behind : (xs : List ℕ) → IsName xs → drop 8 (drop 8 xs) ≡ []
nothing-behind xs rule = drop_all 8 (drop 8 xs) (let most = rule.1 in grind arith)

pub bytes_of-name_of : (xs : List ℕ) → IsName xs → bytes_of (name_of xs) ≡ xs
unfolding spelled
bytes_of-name_of xs rule =
    let low = to_be_bytes w64 (weighed 8 (drop 8 xs)) in
    let rest : front low ≡ drop 8 xs =
    ap front (sym (append-nil low)) ∙ front-bytes 8 (drop 8 xs) [] (positive-behind xs rule) (bytes-behind xs rule) (sym (nothing-behind xs rule)) in
    front-bytes 8 xs low (positive xs rule) (bytes xs rule) rest

-- two names are one exactly when their bytes are the same
pub name_of-once : (xs ys : List ℕ) → IsName xs → IsName ys → name_of xs ≡ name_of ys → xs ≡ ys
name_of-once xs ys x y same = grind (arith, bytes_of-name_of)

pub ruleset checked = (bytes_of-name_of)
