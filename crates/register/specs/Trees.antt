-- What an entry makes of the tree of a card, and of the tree of a sheet.
use Rattle.std.specs.Prelude.{pos}
use Rattle.kinds.specs.declared.instant.Instant.{Instant}
use Rattle.pool.specs.Tree.{Tree, fork, leaf}
use Rattle.pool.specs.declared.node.Words.{Words}
use Rattle.tree.specs.Insert.{compared, insert}
use Rattle.tree.specs.Remove.{remove}
use Rattle.register.specs.Contents.{Names, card_tree, earlier, instant_at}
use Rattle.register.specs.declared.entries.Change.{Change}
use Rattle.register.specs.declared.entries.Change.TheVariants.{Record, Correct, Withdraw}

-- an instant as a key in a node
abbrev pub instant_words : Instant → Words
instant_words instant = record { high = 0; low = instant.seconds }

unfoldable pub changed_tree : Change → Instant → Tree → Tree
changed_tree (Record reading) measured card = insert (compared instant_at earlier measured) (instant_words measured) reading leaf card
changed_tree (Correct reading) measured card = insert (compared instant_at earlier measured) (instant_words measured) reading leaf card
changed_tree Withdraw measured card = remove (compared instant_at earlier measured) card

module _ {K : Type 0} (𝓝 : Names K) (name : K) where
  -- the sheet with this card for the name; the leaf takes the name off the sheet
  unfoldable pub with_card_tree : Tree → Tree → Tree
  with_card_tree leaf sheet = remove (compared 𝓝.key 𝓝.order name) sheet
  with_card_tree (fork words word tall nested left right) sheet =
      insert (compared 𝓝.key 𝓝.order name) (𝓝.words name) (pos 0) (fork words word tall nested left right) sheet

  abbrev pub entered_tree : Instant → Change → Tree → Tree
  entered_tree measured change sheet = with_card_tree (changed_tree change measured (card_tree 𝓝 name sheet)) sheet
