-- What a number of a refusal says, and what of it is written.
use Rattle.std.specs.Prelude.{◌≡◌, ℕ, List, [], ◌++◌, length, take, drop, min}
use Rattle.register.specs.Refusals.{refusal_text}
use Rattle.register.specs.declared.refusal.Refusal.{Refusal}
use Rattle.tinglacier.specs.Numbers.{HasNumber, OfNone}

-- the text of the refusal that has the number, or no bytes where none has it
pub record TextOf (number : ℕ) (text : List ℕ) : Type 0 where
  pub some : (why : Refusal) → HasNumber number why → text ≡ refusal_text why
  pub none : OfNone number → text ≡ []

-- As many of the bytes as there is room for stand at the front of the room, and what is behind them is as it was.
pub record Copied (bytes : List ℕ) (count : ℕ) (before after : List ℕ) : Type 0 where
  pub fits : count ≡ min (length bytes) (length before)
  pub written : after ≡ take count bytes ++ drop count before
