-- A `?` hands on the error that it met.
use Rattle.std.proofs.Common.{◌≡◌, Ok, Err, Result, sym, subst}
use Rattle.std.specs.Result.{IsErrAnd}

pub passed : {A E : Type 0} (P : Result A E → Type 0) (r : Result A E) (why : E) → IsErrAnd r (λ met. met ≡ why) → P (Err why) → P r
passed P (Ok x) why is here = absurd is
passed P (Err met) why is here = subst (λ z. P (Err z)) (sym is) here
