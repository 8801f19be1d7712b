-- The tests of names and readings decide their rules.
use Rattle.std.proofs.Common.{◌≡◌, ℕ, zero, suc, All, Bool, true, false, ◌&&◌, leb, List, [], ◌∷◌, length, refl, inl, inr, arith, leb-true}
use Rattle.std.proofs.lemmas.Bool.Decides.{nat_tests}
use Rattle.kinds.specs.Name.{IsName, IsNameByte}
use Rattle.register.specs.Rules.{all_name_bytes, is_name, is_name_byte}

byte-passes : (b : ℕ) → IsNameByte b → is_name_byte b ≡ true
byte-passes b (inl h) = grind (arith, nat_tests)
byte-passes b (inr (inl h)) = grind (arith, nat_tests)
byte-passes b (inr (inr h)) = grind (arith, nat_tests)

bytes-pass : (bs : List ℕ) → All IsNameByte bs → all_name_bytes bs ≡ true
bytes-pass [] all = refl
bytes-pass (b ∷ bs) all =
    let first = byte-passes b (all 0 0 (omega arith)) in
    let rest = bytes-pass bs (λ i d h. all (suc i) d (omega arith)) in
    rw (first, rest)

pub name-passes : (bs : List ℕ) → IsName bs → is_name bs ≡ true
name-passes bs h =
    let all = bytes-pass bs h.2 in
    let low = h.0 in
    let high = h.1 in
    grind (arith, nat_tests)

byte-holds : (b : ℕ) → is_name_byte b ≡ true → IsNameByte b
byte-holds b e = grind (arith, nat_tests)

both : (a b : Bool) → (a && b) ≡ true → (a ≡ true) × (b ≡ true)
both true b e = (refl, e)
both false b e = absurd (let z : ◌≡◌ {A = ℕ} 0 1 = cc in omega arith)

bytes-hold : (bs : List ℕ) → all_name_bytes bs ≡ true → All IsNameByte bs
bytes-hold [] e i d h = absurd (omega arith)
bytes-hold (b ∷ bs) e zero d h = byte-holds b (both (is_name_byte b) (all_name_bytes bs) e).0
bytes-hold (b ∷ bs) e (suc i) d h = bytes-hold bs (both (is_name_byte b) (all_name_bytes bs) e).1 i d (omega arith)

pub name-holds : (bs : List ℕ) → is_name bs ≡ true → IsName bs
name-holds bs e =
    let (few, all) = both (leb 1 (length bs) && leb (length bs) 16) (all_name_bytes bs) e in
    let (some, most) = both (leb 1 (length bs)) (leb (length bs) 16) few in
    (leb-true 1 (length bs) some, leb-true (length bs) 16 most, bytes-hold bs all)

pub name-fails : (bs : List ℕ) → (IsName bs → ⊥) → is_name bs ≡ false
name-fails bs none =
    elim (is_name bs) as (λ b. is_name bs ≡ b → b ≡ false) [ true ↦ (λ e. absurd (none (name-holds bs e))) | false ↦ (λ e. refl) ] refl
