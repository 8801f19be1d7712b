-- Asked as of an instant, the sheets of a history's stages give the answers that the history asks for.
use Rattle.std.proofs.Common.{◌≡◌, ℕ, leb, List, [], ◌∷◌, filter, Option, sym, subst}
use Rattle.std.proofs.ByRecursion.{All-append, all_kept_by}
use Rattle.std.specs.Option.{option_map}
use Rattle.std.specs.List.{flat_map, AllByRecursion}
use Rattle.kinds.specs.Name.{IsName}
use Rattle.std.specs.Ordering.{nat_cmp}
use Rattle.kinds.specs.declared.name.Name.{Name}
use Rattle.tree.specs.Kind.{Kind}
use Rattle.register.proofs.Following.{next-name}
use Rattle.register.proofs.Modelling.{all-card, sheet-sorted, stands-there}
use Rattle.register.proofs.Reading.{card-as-of, card-total}
use Rattle.register.proofs.Staging.{sheet-as-of}
use Rattle.register.proofs.Timed.{names_of}
use Rattle.register.specs.Answering.{NextNamed}
use Rattle.register.specs.Asked.{ByInstant, count_within, key_of, last_up_to, next_name, sheet_after, sheet_as_of, stages_from, sum_within}
use Rattle.register.specs.Contents.{Card, Names, Sheet, card_at}
use Rattle.register.specs.History.{Entry, History, InTime, IsAsOf, IsTotal, Stage, WellNamed, known_at, stands}
use Rattle.register.specs.Keyed.{value_at}

-- the entries of all stages, and of those that are known as of r, have the names of the stages
pub entries-named : (ss : List Stage) → AllByRecursion (λ (s : Stage). WellNamed s.entries) ss → WellNamed (flat_map (λ (s : Stage). s.entries) ss)
entries-named [] h = tt
entries-named (s ∷ ss) h = All-append _ s.entries _ h.0 (entries-named ss h.1)

pub known-named : (r : ℕ) (history : History) → AllByRecursion (λ (s : Stage). WellNamed s.entries) history → WellNamed (known_at r history)
known-named r history h =
    entries-named (filter (λ (s : Stage). leb s.recorded r) history) (all_kept_by (λ (s : Stage). leb s.recorded r) _ history h)

module _ {K : Type 0} (𝓚 : Kind K) (named : Name → K) (called : K → Name) (name : K → Name) (back : (n : Name) → name (named n) ≡ n) where
  abbrev 𝓝 : Names K
  𝓝 = names_of 𝓚 named called

  -- ---- the sheet that entries leave

  module _ (known : List Entry) (rules : WellNamed known) where
    module _ (asked : List ℕ) (rule : IsName asked) where
      abbrev card : Card
      card = card_at 𝓝 (key_of 𝓝 asked) (sheet_after 𝓝 known)

      sorted : ByInstant card
      sorted = all-card 𝓚 named called ByInstant tt (key_of 𝓝 asked) (sheet_after 𝓝 known) (sheet-sorted 𝓚 named called known).cards

      there : (i : ℕ) → value_at nat_cmp i card ≡ stands known asked i
      there i = stands-there 𝓚 named called name back known asked i rules rule

      pub known-as-of : (m : ℕ) → IsAsOf (stands known asked) m (last_up_to m card)
      known-as-of = card-as-of (stands known asked) card sorted there

      pub known-total : (m1 m2 : ℕ) → IsTotal (stands known asked) m1 m2 (count_within m1 m2 card) (sum_within m1 m2 card)
      known-total = card-total (stands known asked) card sorted there

  -- ---- the stages of a history

  module _ (r : ℕ) (history : History) (time : InTime history) (rules : AllByRecursion (λ (s : Stage). WellNamed s.entries) history) where
    abbrev sheet : Sheet K
    sheet = sheet_as_of r (stages_from 𝓝 [] history)

    abbrev known : List Entry
    known = known_at r history

    same : sheet_after 𝓝 known ≡ sheet
    same = sym (sheet-as-of 𝓝 r history time)

    pub as-of-answer : (asked : List ℕ) → IsName asked → (m : ℕ) → IsAsOf (stands known asked) m (last_up_to m (card_at 𝓝 (key_of 𝓝 asked) sheet))
    as-of-answer asked rule m =
        subst (λ (s : Sheet K). IsAsOf (stands known asked) m (last_up_to m (card_at 𝓝 (key_of 𝓝 asked) s))) same
        (known-as-of known (known-named r history rules) asked rule m)

    pub total-answer : (asked : List ℕ) → IsName asked → (m1 m2 : ℕ)
        → IsTotal (stands known asked) m1 m2 (count_within m1 m2 (card_at 𝓝 (key_of 𝓝 asked) sheet)) (sum_within m1 m2 (card_at 𝓝 (key_of 𝓝 asked) sheet))
    total-answer asked rule m1 m2 =
        subst (λ (s : Sheet K).
        IsTotal (stands known asked) m1 m2 (count_within m1 m2 (card_at 𝓝 (key_of 𝓝 asked) s)) (sum_within m1 m2 (card_at 𝓝 (key_of 𝓝 asked) s))) same
        (known-total known (known-named r history rules) asked rule m1 m2)

    pub next-answer : (given : Option (List ℕ))
        → NextNamed 𝓝 known given (option_map name (next_name 𝓝 (option_map (key_of 𝓝) given) sheet))
    next-answer given =
        subst (λ (s : Sheet K). NextNamed 𝓝 known given (option_map name (next_name 𝓝 (option_map (key_of 𝓝) given) s))) same
        (next-name 𝓚 named called name back known (known-named r history rules) given)
