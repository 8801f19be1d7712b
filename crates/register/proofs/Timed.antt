-- Instants as a kind of key, and the order of names that a kind of key gives.
use Rattle.kinds.specs.Instants.{instant_of-seconds}
use Rattle.kinds.specs.declared.instant.Instant.{Instant}
use Rattle.kinds.specs.declared.name.Name.{Name}
use Rattle.tree.specs.Kind.{Kind}
use Rattle.register.proofs.Listing.{numbers}
use Rattle.register.specs.Contents.{Names, earlier, instant_at, names}
use Rattle.register.specs.Trees.{instant_words}

abbrev pub names_of : {K : Type 0} → Kind K → (Name → K) → (K → Name) → Names K
names_of 𝓚 named called = names 𝓚.words 𝓚.key 𝓚.order named called

abbrev pub instants : Kind Instant
instants =
    record {
      words = instant_words;
      key = instant_at;
      order = earlier;
      back = instant_of-seconds;
      equal = λ a b. numbers.equal a.seconds b.seconds;
      same = λ a b. numbers.same a.seconds b.seconds;
      after = λ a b. numbers.after a.seconds b.seconds;
      before = λ a b. numbers.before a.seconds b.seconds;
      chained = λ a b c. numbers.chained a.seconds b.seconds c.seconds;
    }
