-- Changing a card.
use Rattle.std.proofs.Common.{ℕ, List, ◌∷◌, ℤ, Some, None, refl, subst, arith}
use Rattle.kinds.specs.declared.instant.Instant.{Instant}
use Rattle.kinds.specs.declared.reading.Reading.{Reading}
use Rattle.pool.proofs.Pools.{holds-leaf}
use Rattle.pool.proofs.Reorder.{holds-swapped}
use Rattle.pool.specs.Held.{Held, Holds, held}
use Rattle.pool.specs.Tree.{Tree, leaf}
use Rattle.pool.specs.declared.pool.Pool.{Pool}
use Rattle.tree.specs.Insert.{compared, insert}
use Rattle.tree.specs.Insertable.{Insertable}
use Rattle.tree.specs.Remove.{remove}
use Rattle.register.specs.Contents.{earlier, instant_at}
use Rattle.register.specs.Entries.{Changeable, Stands}
use Rattle.register.specs.Trees.{changed_tree, instant_words}
use Rattle.register.specs.declared.entries.Change.{Change}
use Rattle.register.specs.declared.entries.Change.TheVariants.{Record, Correct, Withdraw}

-- a reading owns nothing: a tree of no nodes goes with it
with-leaf : (p : Pool) (h : Held) (hs : List Held) → Holds p (h ∷ hs) → Holds p (h ∷ held 0 leaf ∷ hs)
with-leaf p h hs holds = holds-swapped p _ _ hs (holds-leaf p 0 leaf (h ∷ hs) refl refl holds)

pub card-insertable : (p : Pool) (card : ℕ) → Changeable p card → Insertable p card 0
card-insertable p card c =
    record {
      t = c.t;
      nested = leaf;
      others = c.others;
      holds = with-leaf p (held card c.t) c.others c.holds;
      few = omega (arith, c.few, c.low);
      balanced = c.balanced;
      low = omega (arith, c.low);
      room = omega (arith, c.low, c.room);
    }

module _ (p p' : Pool) (card root : ℕ) (measured : Instant) where
  pub card-inserted : (reading : Reading)
      → ((t nested : Tree) (hs : List Held) → Holds p (held card t ∷ held 0 nested ∷ hs)
      → Holds p' (held root (insert (compared instant_at earlier measured) (instant_words measured) reading.microhertz nested t) ∷ hs))
      → (change : Change) (t : Tree) (hs : List Held) → Stands change (Some reading) → Holds p (held card t ∷ hs) → Holds p' (held root (changed_tree change measured t) ∷ hs)
  unfolding changed_tree
  card-inserted reading owned (Record microhertz) t hs st h =
      subst (λ (v : ℤ). Holds p' (held root (insert (compared instant_at earlier measured) (instant_words measured) v leaf t) ∷ hs)) st (owned t leaf hs (with-leaf p (held card t) hs h))
  card-inserted reading owned (Correct microhertz) t hs st h =
      subst (λ (v : ℤ). Holds p' (held root (insert (compared instant_at earlier measured) (instant_words measured) v leaf t) ∷ hs)) st (owned t leaf hs (with-leaf p (held card t) hs h))
  card-inserted reading owned Withdraw t hs st h = elim st [ ]

  pub card-removed : ((t : Tree) (hs : List Held) → Holds p (held card t ∷ hs) → Holds p' (held root (remove (compared instant_at earlier measured) t) ∷ hs))
      → (change : Change) (t : Tree) (hs : List Held) → Stands change None → Holds p (held card t ∷ hs) → Holds p' (held root (changed_tree change measured t) ∷ hs)
  unfolding changed_tree
  card-removed owned (Record microhertz) t hs st h = elim st [ ]
  card-removed owned (Correct microhertz) t hs st h = elim st [ ]
  card-removed owned Withdraw t hs st h = owned t hs h
