-- Which answers to a question are the model's, and which lines give a fixed answer again.
use Rattle.std.specs.Prelude.{◌≡◌, ℕ, Bool, true, false, ◌⊎◌, List, [], ◌∷◌, Option, nat_le}
use Rattle.std.specs.Option.{option_map, option_map_or}
use Rattle.kinds.specs.Packed.{name_of}
use Rattle.kinds.specs.declared.name.Name.{Name}
use Rattle.tree.specs.Lookup.{last_of}
use Rattle.register.specs.Asked.{Before}
use Rattle.register.specs.Calls.{Answer, Call, Handle, Question, as_of, asks, branches, counted, done, fetches, found, handed, named, next_name, opens, refused, stows, tallies, total, totalled}
use Rattle.register.specs.Contents.{Names}
use Rattle.register.specs.History.{Entry, History, IsAsOf, IsNext, IsTotal, Stage, stands}

-- an answer, and not a refusal
abbrev pub is_answer : Answer → Bool
is_answer (refused why) = false
is_answer done = true
is_answer (handed handle) = true
is_answer (counted tally) = true
is_answer (found reading) = true
is_answer (totalled count sum) = true
is_answer (named name) = true

-- a refusal of any call, a question, and what changes the table alone: opening, stowing, fetching
abbrev pub leaves_nodes : Call → Answer → Bool
leaves_nodes call (refused why) = true
leaves_nodes opens answer = true
leaves_nodes (stows handle letter) answer = true
leaves_nodes (fetches letter) answer = true
leaves_nodes tallies answer = true
leaves_nodes (asks handle recorded question) answer = true
leaves_nodes call answer = false

module _ {K : Type 0} (𝓝 : Names K) (known : List Entry) where
  abbrev pub AsOfAnswer : List ℕ → ℕ → Answer → Type 0
  AsOfAnswer name measured (refused why) = Unit {0}
  AsOfAnswer name measured done = ⊥
  AsOfAnswer name measured (handed handle) = ⊥
  AsOfAnswer name measured (counted tally) = ⊥
  AsOfAnswer name measured (found reading) = IsAsOf (stands known name) measured reading
  AsOfAnswer name measured (totalled count sum) = ⊥
  AsOfAnswer name measured (named next) = ⊥

  abbrev pub TotalAnswer : List ℕ → ℕ → ℕ → Answer → Type 0
  TotalAnswer name from to (refused why) = Unit {0}
  TotalAnswer name from to done = ⊥
  TotalAnswer name from to (handed handle) = ⊥
  TotalAnswer name from to (counted tally) = ⊥
  TotalAnswer name from to (found reading) = ⊥
  TotalAnswer name from to (totalled count sum) = IsTotal (stands known name) from to count sum
  TotalAnswer name from to (named next) = ⊥

  -- the name that packs the bytes of the next name, or none where none is next
  pub record NextNamed (given : Option (List ℕ)) (answer : Option Name) : Type 0 where
    pub next : Option (List ℕ)
    pub is-next : IsNext (Before 𝓝) known given next
    pub packed : answer ≡ option_map name_of next

  abbrev pub NextAnswer : Option (List ℕ) → Answer → Type 0
  NextAnswer given (refused why) = Unit {0}
  NextAnswer given done = ⊥
  NextAnswer given (handed handle) = ⊥
  NextAnswer given (counted tally) = ⊥
  NextAnswer given (found reading) = ⊥
  NextAnswer given (totalled count sum) = ⊥
  NextAnswer given (named answer) = NextNamed given answer

  -- an answer that is not a refusal is the model's, over the entries known as of the recorded instant
  abbrev pub Answers : Question → Answer → Type 0
  Answers (as_of name measured) a = AsOfAnswer name measured a
  Answers (total name from to) a = TotalAnswer name from to a
  Answers (next_name given) a = NextAnswer given a

-- the recorded instant is not after the line's last stage
abbrev pub is_settled : ℕ → History → Bool
is_settled recorded history = option_map_or (λ (s : Stage). nat_le recorded s.recorded) (last_of history) false

-- through these calls with their answers, in their order, the line h is g, or was branched from it, directly or through others
abbrev pub Branched : List (Call × Answer) → Handle → Handle → Type 0
Branched [] g h = g ≡ h
Branched (c ∷ cs) g h = Branched cs g h ⊎ ((new : Handle) × (c.0 ≡ branches g) × (c.1 ≡ handed new) × Branched cs new h)
