-- An instant is its number of seconds.
use Rattle.std.specs.Prelude.{◌≡◌, ℕ, ◌<◌}
use Rattle.std.proofs.Common.{ap, subst, arith}
use Rattle.std.proofs.Math.Bridge.{le_prop}
use Rattle.kinds.specs.Instant.{instant_of}
use Rattle.kinds.specs.declared.instant.Instant.{Instant}

pub same-instant : (a b : Instant) → a.seconds ≡ b.seconds → a ≡ b
same-instant a b e =
    let P : ℕ → Type 0 = λ n. (q : n < 4294967296) → ◌≡◌ {A = Instant} a (record { seconds = n; fits = q }) in
    let here : P a.seconds = λ q. ap (λ (h : a.seconds < 4294967296). record { seconds = a.seconds; fits = h }) (le_prop a.fits q) in
    subst P e here b.fits

pub instant_of-seconds : (a : Instant) → instant_of a.seconds ≡ a
instant_of-seconds a = let small = a.fits in same-instant _ a (omega arith)
