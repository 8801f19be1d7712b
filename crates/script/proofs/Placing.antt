-- Which commands belong inside a sitting, by those that they are not.
use Rattle.std.proofs.Common.{◌≡◌, ℕ, true, false, List, ℤ, refl, Bor}
use Rattle.script.specs.Commands.{requested}
use Rattle.script.specs.Does.{belongs_inside}
use Rattle.script.specs.declared.command.Command.{Command}
use Rattle.script.specs.declared.command.Command.TheVariants.{Open, Branch, Begin, AsOf, Total, Retire, Tally, Record, Correct, Withdraw, Commit, Abandon}

pub inside : (command : Command) → ((shelf : ℕ) → command ≡ Open shelf → ⊥) → ((from to : ℕ) → command ≡ Branch from to → ⊥)
    → ((shelf recorded : ℕ) → command ≡ Begin shelf recorded → ⊥) → ((shelf recorded : ℕ) (name : Bor (List ℕ)) (measured : ℕ) → command ≡ AsOf shelf recorded name measured → ⊥)
    → ((shelf recorded : ℕ) (name : Bor (List ℕ)) (from to : ℕ) → command ≡ Total shelf recorded name from to → ⊥)
    → ((shelf : ℕ) → command ≡ Retire shelf → ⊥) → (command ≡ Tally → ⊥)
    → belongs_inside (requested command) ≡ true
inside (Open shelf) a b c q t d e = absurd (a shelf refl)
inside (Branch from to) a b c q t d e = absurd (b from to refl)
inside (Begin shelf recorded) a b c q t d e = absurd (c shelf recorded refl)
inside (AsOf shelf recorded name measured) a b c q t d e = absurd (q shelf recorded name measured refl)
inside (Total shelf recorded name from to) a b c q t d e = absurd (t shelf recorded name from to refl)
inside (Retire shelf) a b c q t d e = absurd (d shelf refl)
inside Tally a b c q t d e = absurd (e refl)
inside (Record name measured reading) a b c q t d e = refl
inside (Correct name measured reading) a b c q t d e = refl
inside (Withdraw name measured) a b c q t d e = refl
inside Commit a b c q t d e = refl
inside Abandon a b c q t d e = refl

pub outside : (command : Command) → ((name : Bor (List ℕ)) (measured : ℕ) (reading : ℤ) → command ≡ Record name measured reading → ⊥)
    → ((name : Bor (List ℕ)) (measured : ℕ) (reading : ℤ) → command ≡ Correct name measured reading → ⊥)
    → ((name : Bor (List ℕ)) (measured : ℕ) → command ≡ Withdraw name measured → ⊥) → (command ≡ Commit → ⊥) → (command ≡ Abandon → ⊥)
    → belongs_inside (requested command) ≡ false
outside (Open shelf) a b c d e = refl
outside (Branch from to) a b c d e = refl
outside (Begin shelf recorded) a b c d e = refl
outside (AsOf shelf recorded name measured) a b c d e = refl
outside (Total shelf recorded name from to) a b c d e = refl
outside (Retire shelf) a b c d e = refl
outside Tally a b c d e = refl
outside (Record name measured reading) a b c d e = absurd (a name measured reading refl)
outside (Correct name measured reading) a b c d e = absurd (b name measured reading refl)
outside (Withdraw name measured) a b c d e = absurd (c name measured refl)
outside Commit a b c d e = absurd (d refl)
outside Abandon a b c d e = absurd (e refl)
