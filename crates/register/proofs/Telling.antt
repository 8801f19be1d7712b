-- What a call tells, from its conditions and its effect.
use Rattle.std.proofs.Common.{◌≡◌, ℕ, Bool, true, false, List, ◌∷◌, set, Some, None, Option, sym, refl, ap, ◌∙◌, subst, arith}
use Rattle.pool.proofs.Pools.{holds-leaf}
use Rattle.pool.specs.Held.{Held, Holds}
use Rattle.pool.specs.Tree.{leaf}
use Rattle.pool.specs.declared.pool.Pool.{Pool}
use Rattle.register.specs.Calls.{Answer, Call, refused}
use Rattle.register.specs.Contents.{Names}
use Rattle.register.specs.Declined.{declined}
use Rattle.register.specs.Places.{none}
use Rattle.register.specs.Refusals.{first_of}
use Rattle.register.specs.Registers.{Answers, Tells}
use Rattle.register.specs.Shown.{Shown, Shows}
use Rattle.register.specs.Steps.{Accepted, Step, Unless}
use Rattle.register.specs.Tables.{resting_record}
use Rattle.register.specs.declared.refusal.Refusal.{Refusal}
use Rattle.register.specs.declared.register.Register.{Register}
use Rattle.register.specs.declared.table.Record.{Record}

module _ {K : Type 0} (𝓝 : Names K) where
  pub accepted : (s s' : Shown) (call : Call) (a : Answer) → declined 𝓝 s call ≡ None → Accepted 𝓝 s call a s' → Step 𝓝 s call a s'
  accepted s s' call a e h = subst (λ (o : Option Refusal). Unless o a s s' (Accepted 𝓝 s call a s')) (sym e) h

  pub refuses : (p : Pool) (ls : List (Option Record)) (next : ℕ) (call : Call) (why : Refusal)
      → ((s : Shown) → Shows 𝓝 p ls next s → declined 𝓝 s call ≡ Some why)
      → (s : Shown) → Shows 𝓝 p ls next s → (s' : Shown) × Shows 𝓝 p ls next s' × Step 𝓝 s call (refused why) s'
  refuses p ls next call why declines s shows =
      (s, shows, subst (λ (o : Option Refusal). Unless o (refused why) s s (Accepted 𝓝 s call (refused why) s)) (sym (declines s shows)) (refl, refl))

-- an owner of no node adds nothing
pub holds-none : (p : Pool) (hs : List Held) → Holds p hs → Holds p (none ∷ hs)
holds-none p hs h = holds-leaf p 0 leaf hs refl refl h

-- an accepted call is not declined
pub never : {B : Type 0} → false ≡ true → B
never e = absurd (let z : ◌≡◌ {A = ℕ} 0 1 = cc in omega arith)

-- the table after a record was made and put at a place
pub put-at : (ls ls' : List (Option Record)) (i place : ℕ) (made r : Record) → ls' ≡ set ls i (Some made) → i ≡ place → made ≡ r → ls' ≡ set ls place (Some r)
put-at ls ls' i place made r e f m = e ∙ ap (λ (z : Record). set ls i (Some z)) m ∙ ap (λ (k : ℕ). set ls k (Some r)) f

-- the record of a line at rest, with the serial that it was given
pub made_at : (made : Record) (given serial root : ℕ) → given ≡ serial → made ≡ resting_record given root → made ≡ resting_record serial root
made_at made given serial root e m = m ∙ ap (λ (n : ℕ). resting_record n root) e

-- where no condition declines, the first does not hold
pub first-false : (b : Bool) (why : Refusal) (rows : List (Bool × Refusal)) → first_of ((b, why) ∷ rows) ≡ None → b ≡ false
first-false false why rows e = refl
first-false true why rows e = absurd (let z : ◌≡◌ {A = ℕ} 0 1 = cc in omega arith)

-- the same call and answer, said otherwise
module _ {N K : Type 0} (𝓝 : Names K) (r : Register N) {call call' : Call} {a a' : Answer} where
  pub told-as : (r' : Register N) → Tells {N = N} 𝓝 r call a r' → call' ≡ call → a' ≡ a → Tells {N = N} 𝓝 r call' a' r'
  told-as r' told c e = subst (λ (x : Answer). Tells {N = N} 𝓝 r call' x r') (sym e) (subst (λ (x : Call). Tells {N = N} 𝓝 r x a r') (sym c) told)

  pub answered-as : Answers {N = N} 𝓝 r call a → call' ≡ call → a' ≡ a → Answers {N = N} 𝓝 r call' a'
  answered-as told c e = subst (λ (x : Answer). Answers {N = N} 𝓝 r call' x) (sym e) (subst (λ (x : Call). Answers {N = N} 𝓝 r x a) (sym c) told)

-- a question leaves the register as it was
pub asked : {N K : Type 0} (𝓝 : Names K) (r : Register N) (call : Call) (a : Answer) → Answers {N = N} 𝓝 r call a → Tells {N = N} 𝓝 r call a r
asked 𝓝 r call a told = record { step = λ s shows. (s, shows, told s shows); unchanged = λ _. refl }
