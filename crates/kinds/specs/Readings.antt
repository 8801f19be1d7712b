-- A reading is its number of microhertz.
use Rattle.std.specs.Prelude.{◌≡◌, ℤ}
use Rattle.std.proofs.Common.{ap, subst, arith}
use Rattle.std.proofs.Math.Dec.{T_prop}
use Rattle.std.proofs.lemmas.Int.{ints, clamps}
use Rattle.kinds.specs.Range.{InRange}
use Rattle.kinds.specs.Reading.{nearest, reading_of}
use Rattle.kinds.specs.declared.reading.Reading.{Reading}

in-range-once : (z : ℤ) (p q : InRange z) → p ≡ q
in-range-once z p q = λ i. (record { le = T_prop _ p.0.le q.0.le i }, record { le = T_prop _ p.1.le q.1.le i })

pub same-reading : (a b : Reading) → a.microhertz ≡ b.microhertz → a ≡ b
same-reading a b e =
    let P : ℤ → Type 0 = λ z. (q : InRange z) → ◌≡◌ {A = Reading} a (record { microhertz = z; within = q }) in
    let here : P a.microhertz = λ q. ap (λ (h : InRange a.microhertz). record { microhertz = a.microhertz; within = h }) (in-range-once a.microhertz a.within q) in
    subst P e here b.within

pub nearest-same : (z : ℤ) → InRange z → nearest z ≡ z
nearest-same z h = omega (arith, ints, clamps)

pub reading_of-microhertz : (a : Reading) → reading_of a.microhertz ≡ a
reading_of-microhertz a = same-reading _ a (nearest-same a.microhertz a.within)
