-- What a write behind the text of a report does.
use Rattle.std.specs.Prelude.{◌≡◌, ℕ, ◌+◌, ◌<◌, List, ◌++◌, length, take, Result, MatchResult}
use Rattle.report.specs.Report.{KeepsRoom, capacity, held, text, used}
use Rattle.report.specs.declared.report.Full.{Full}
use Rattle.report.specs.declared.report.Report.{Report}

-- The text t was added.
pub record Added (before : Report) (t : List ℕ) (after : Report) : Type 0 where
  pub same : KeepsRoom before after
  pub grown : used after ≡ used before + length t
  pub appended : text after ≡ text before ++ t

-- There is no room for the text t, and the text before it is as it was.
pub record Lacking (before : Report) (t : List ℕ) (after : Report) : Type 0 where
  pub same : KeepsRoom before after
  pub full : capacity before < used before + length t
  pub stays : take (used before) (held after) ≡ text before

abbrev pub Writes : Report → List ℕ → Result (Unit {0}) Full → Report → Type 0
Writes before t r after = MatchResult r (λ _. Added before t after) (λ _. Lacking before t after)
