-- Changing a sheet: its card gets one owner more and is changed, and then goes into the sheet or takes its name off it.
use Rattle.std.proofs.Common.{◌≡◌, ℕ, ◌+◌, ◌*◌, ◌≤◌, ◌≢◌, List, ◌∷◌, length, pos, Some, None, Option, sym, refl, subst, arith}
use Rattle.kinds.specs.declared.instant.Instant.{Instant}
use Rattle.kinds.specs.declared.reading.Reading.{Reading}
use Rattle.pool.proofs.Pools.{held-carries, holds-nothing}
use Rattle.pool.proofs.Reorder.{holds-swapped}
use Rattle.pool.proofs.Trees.{linked-unique}
use Rattle.pool.specs.Held.{Carries, Held, Holds, held}
use Rattle.pool.specs.Sound.{memory_of, used_of}
use Rattle.pool.specs.Tree.{Tree, fork, leaf}
use Rattle.pool.specs.declared.pool.Pool.{Pool}
use Rattle.tree.specs.Insert.{compared, insert}
use Rattle.tree.specs.Insertable.{Insertable}
use Rattle.tree.specs.Removable.{Removable}
use Rattle.tree.specs.Remove.{remove}
use Rattle.tree.specs.Shape.{height}
use Rattle.register.proofs.Filing.{filed-leaf}
use Rattle.register.proofs.Growing.{nested-find}
use Rattle.register.specs.Contents.{Names, card_tree}
use Rattle.register.specs.Entries.{Changeable, Enterable, Stands}
use Rattle.register.specs.Shapes.{Filed}
use Rattle.register.specs.Trees.{changed_tree, entered_tree, with_card_tree}
use Rattle.register.specs.declared.entries.Change.{Change}
use Rattle.register.specs.declared.entries.Change.TheVariants.{Record, Withdraw}

pub carries-unique : (p : Pool) (n : ℕ) (t u : Tree) → Carries p n t → Carries p n u → t ≡ u
carries-unique p n t u a b = linked-unique (memory_of p) n t u a.linked b.linked

-- node 0 carries the leaf, and no other node does
none-leaf : (p : Pool) (n : ℕ) (t : Tree) → n ≡ 0 → Carries p n t → t ≡ leaf
none-leaf p n leaf z c = refl
none-leaf p n (fork words word tall nested left right) z c = absurd (omega (arith, z, c.linked.0))

-- an entry that leaves this reading there
entry_for : Option Reading → Change
entry_for (Some reading) = Record reading.microhertz
entry_for None = Withdraw

entry-stands : (reading : Option Reading) → Stands (entry_for reading) reading
unfolding entry_for
entry-stands (Some reading) = refl
entry-stands None = tt

module _ {K : Type 0} (𝓝 : Names K) (name : K) where
  with-leaf : (card t : Tree) → card ≡ leaf → with_card_tree 𝓝 name card t ≡ remove (compared 𝓝.key 𝓝.order name) t
  unfolding with_card_tree
  with-leaf leaf t e = refl
  with-leaf (fork words word tall nested left right) t e = absurd (let z : ◌≡◌ {A = ℕ} 0 1 = cc in omega arith)

  with-fork : (card t : Tree) → (card ≡ leaf → ⊥) → with_card_tree 𝓝 name card t ≡ insert (compared 𝓝.key 𝓝.order name) (𝓝.words name) (pos 0) card t
  unfolding with_card_tree
  with-fork leaf t e = absurd (e refl)
  with-fork (fork words word tall nested left right) t e = refl

  module _ (p : Pool) (sheet : ℕ) (e : Enterable 𝓝 p sheet name) (old : ℕ) (old-is : (t : Tree) → Carries p sheet t → Carries p old (card_tree 𝓝 name t)) where
    pub sheet-carried : Carries p sheet e.t
    sheet-carried = held-carries p sheet e.t e.others e.holds

    module _ (p₁ : Pool) (retained : (t : Tree) (hs : List Held) → Holds p hs → Carries p old t → Holds p₁ (held old t ∷ hs)) (used₁ : used_of p₁ ≡ used_of p)
        (size₁ : length (memory_of p₁) ≡ length (memory_of p)) where
      one_more : (t : Tree) (hs : List Held) → Holds p (held sheet t ∷ hs) → Holds p₁ (held old (card_tree 𝓝 name t) ∷ held sheet t ∷ hs)
      one_more t hs h = retained (card_tree 𝓝 name t) (held sheet t ∷ hs) h (old-is t (held-carries p sheet t hs h))

      pub card-changeable : Changeable p₁ old
      card-changeable =
          record {
            t = card_tree 𝓝 name e.t;
            others = held sheet e.t ∷ e.others;
            holds = one_more e.t e.others e.holds;
            few = omega (arith, e.few);
            balanced = (nested-find Filed 𝓝.key 𝓝.order filed-leaf name e.t e.sturdy.cards).balanced;
            low = e.low_card;
            room = omega (arith, e.room, used₁, size₁);
          }

      module _ (measured : Instant) (reading : Option Reading) (card : ℕ) (p₂ : Pool)
          (changed : (change : Change) (t : Tree) (hs : List Held) → Stands change reading → Holds p₁ (held old t ∷ hs) → Holds p₂ (held card (changed_tree change measured t) ∷ hs))
          (used₂ : (t : Tree) → Carries p₁ old t → used_of p₂ ≤ used_of p₁ + 3 * height t + 1) (size₂ : length (memory_of p₂) ≡ length (memory_of p₁)) where
        card-new : (change : Change) (t : Tree) (hs : List Held) → Stands change reading → Holds p (held sheet t ∷ hs)
            → Holds p₂ (held card (changed_tree change measured (card_tree 𝓝 name t)) ∷ held sheet t ∷ hs)
        card-new change t hs stands h = changed change (card_tree 𝓝 name t) (held sheet t ∷ hs) stands (one_more t hs h)

        grown : used_of p₂ ≤ used_of p + 3 * height (card_tree 𝓝 name e.t) + 1
        grown = omega (arith, used₁, used₂ (card_tree 𝓝 name e.t) (held-carries p₁ _ _ _ (one_more e.t e.others e.holds)))

        here : Holds p₂ (held card (changed_tree (entry_for reading) measured (card_tree 𝓝 name e.t)) ∷ held sheet e.t ∷ e.others)
        here = card-new (entry_for reading) e.t e.others (entry-stands reading) e.holds

        pub sheet-still : Carries p₂ sheet e.t
        sheet-still = held-carries p₂ _ _ _ (holds-swapped p₂ _ _ _ here)

        pub removable : card ≡ 0 → Removable p₂ sheet
        removable z =
            record {
              t = e.t;
              others = e.others;
              holds = holds-nothing p₂ card _ _ z here;
              few = omega (arith, e.few, e.low);
              balanced = e.sturdy.sheet;
              low = omega (arith, e.low);
              room = omega (arith, grown, e.low, e.low_card, e.room, size₁, size₂);
            }

        pub insertable : Insertable p₂ sheet card
        insertable =
            record {
              t = e.t;
              nested = changed_tree (entry_for reading) measured (card_tree 𝓝 name e.t);
              others = e.others;
              holds = holds-swapped p₂ _ _ _ here;
              few = omega (arith, e.few, e.low);
              balanced = e.sturdy.sheet;
              low = omega (arith, e.low);
              room = omega (arith, grown, e.low, e.low_card, e.room, size₁, size₂);
            }

        module _ (root : ℕ) (p₃ : Pool) where
          pub entered-off : card ≡ 0
              → ((t : Tree) (hs : List Held) → Holds p₂ (held sheet t ∷ hs) → Holds p₃ (held root (remove (compared 𝓝.key 𝓝.order name) t) ∷ hs))
              → (change : Change) (t : Tree) (hs : List Held) → Stands change reading → Holds p (held sheet t ∷ hs) → Holds p₃ (held root (entered_tree 𝓝 name measured change t) ∷ hs)
          entered-off z removed change t hs stands h =
              let new = card-new change t hs stands h in
              let is_is_leaf = none-leaf p₂ card _ z (held-carries p₂ _ _ _ new) in
              subst (λ (u : Tree). Holds p₃ (held root u ∷ hs)) (sym (with-leaf (changed_tree change measured (card_tree 𝓝 name t)) t is_is_leaf))
              (removed t hs (holds-nothing p₂ card _ _ z new))

          pub entered_on : card ≢ 0
              → ((t nested : Tree) (hs : List Held) → Holds p₂ (held sheet t ∷ held card nested ∷ hs)
              → Holds p₃ (held root (insert (compared 𝓝.key 𝓝.order name) (𝓝.words name) (pos 0) nested t) ∷ hs))
              → (change : Change) (t : Tree) (hs : List Held) → Stands change reading → Holds p (held sheet t ∷ hs) → Holds p₃ (held root (entered_tree 𝓝 name measured change t) ∷ hs)
          entered_on nz inserted change t hs stands h =
              let new = card-new change t hs stands h in
              let carried = held-carries p₂ _ _ _ new in
              let not-leaf : changed_tree change measured (card_tree 𝓝 name t) ≡ leaf → ⊥ = λ f.
              nz (subst (λ (u : Tree). Carries p₂ card u) f carried).linked in
              subst (λ (u : Tree). Holds p₃ (held root u ∷ hs)) (sym (with-fork (changed_tree change measured (card_tree 𝓝 name t)) t not-leaf))
              (inserted t _ hs (holds-swapped p₂ _ _ _ new))

          pub entered-used : ((t : Tree) → Carries p₂ sheet t → used_of p₃ ≤ used_of p₂ + 3 * height t + 1)
              → (t : Tree) → Carries p sheet t → used_of p₃ ≤ used_of p + 3 * height t + 3 * height (card_tree 𝓝 name t) + 2
          entered-used used t carries =
              subst (λ (u : Tree). used_of p₃ ≤ used_of p + 3 * height u + 3 * height (card_tree 𝓝 name u) + 2) (carries-unique p sheet e.t t sheet-carried carries)
              (omega (arith, used e.t sheet-still, grown))
