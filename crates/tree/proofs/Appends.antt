-- Appending: a key that comes after all keys goes down the right side, and one rotation suffices there.
use Rattle.std.proofs.Common.{◌≡◌, ℕ, suc, ◌+◌, ◌<◌, ◌≤◌, max, [], ◌∷◌, ◌++◌, ℤ, Ordering, Greater, sym, ap, ◌∙◌, inl, inr, append_assoc, arith}
use Rattle.std.proofs.lemmas.Bool.{cases_lt}
use Rattle.std.specs.List.{AllByRecursion}
use Rattle.pool.specs.Tree.{Tree, fork, leaf}
use Rattle.pool.specs.declared.node.Words.{Words}
use Rattle.tree.proofs.Ascends.{all_back}
use Rattle.tree.proofs.Balances.{insert-grown}
use Rattle.tree.proofs.Contents.{balance-items}
use Rattle.tree.proofs.Steps.{balance-level, balance-right, insert-greater, rotate_left-single}
use Rattle.tree.specs.Append.{Behind, LeansRight}
use Rattle.tree.specs.Insert.{compared, insert}
use Rattle.tree.specs.Kind.{Kind}
use Rattle.tree.specs.Rebuild.{balance, node, rotate_left}
use Rattle.tree.specs.Shape.{Balanced, height, item, items}

pub behind-all : {K : Type 0} (key : Words → K) (order : K → K → Ordering) (k : K) (t : Tree) → AllByRecursion (λ x. order k x.key ≡ Greater) (items key t)
    → Behind (compared key order k) t
behind-all key order k leaf h = tt
behind-all key order k (fork words word tall nested left right) h =
    let back = all_back (λ x. order k x.key ≡ Greater) (items key left) (item (key words) word nested ∷ items key right) h in
    (back.0, behind-all key order k right back.1)

pub appended-items : {K : Type 0} (𝓚 : Kind K) (k : K) (word : ℤ) (nested t : Tree) → Behind (compared 𝓚.key 𝓚.order k) t
    → items 𝓚.key (insert (compared 𝓚.key 𝓚.order k) (𝓚.words k) word nested t) ≡ items 𝓚.key t ++ item k word nested ∷ []
unfolding insert
appended-items 𝓚 k word nested leaf h = ap (λ j. item j word nested ∷ []) (𝓚.back k)
appended-items 𝓚 k word nested (fork words held tall inner left right) h =
    let place : Words → Ordering = compared 𝓚.key 𝓚.order k in
    ap (items 𝓚.key) (insert-greater place (𝓚.words k) word nested words held tall inner left right h.0)
    ∙ balance-items 𝓚.key words held inner left (insert place (𝓚.words k) word nested right)
    ∙ ap (λ xs. items 𝓚.key left ++ item (𝓚.key words) held inner ∷ xs) (appended-items 𝓚 k word nested right h.1)
    ∙ sym (append_assoc (items 𝓚.key left) (item (𝓚.key words) held inner ∷ items 𝓚.key right) (item k word nested ∷ []))

-- the left side is lower than the right side
abbrev Tilted : Tree → Type 0
Tilted leaf = ⊥
Tilted (fork words word tall nested left right) = height left < height right

tilted-leans : (t : Tree) → Tilted t → LeansRight t
tilted-leans leaf h = tt
tilted-leans (fork words word tall nested left right) h = omega arith

-- one rotation of a tilted side takes its height back
rotate_left-height : (words : Words) (word : ℤ) (nested left right : Tree) → Balanced right → Tilted right → height right ≡ height left + 2
    → height (rotate_left words word nested left right) ≡ height right
rotate_left-height words word nested left leaf b t h = absurd t
rotate_left-height words word nested left (fork upper held tall inner middle right) b t h =
    let e : tall ≡ suc (max (height middle) (height right)) = b.0 in
    let q : height right ≤ height middle + 1 = b.2 in
    let s : height middle < height right = t in
    ap height (rotate_left-single words word nested upper held tall inner left middle right (omega arith)) ∙ omega arith

module _ (place : Words → Ordering) (new : Words) (word : ℤ) (nested : Tree) where
  -- a tree that appending has made higher is tilted, unless it is its first node
  pub appended-tilted : (t : Tree) → Balanced t → Behind place t → 0 < height t → height t < height (insert place new word nested t)
      → Tilted (insert place new word nested t)
  appended-tilted leaf b p n h = absurd (omega arith)
  appended-tilted (fork words held tall inner left right) b p n h =
      let after : Tree = insert place new word nested right in
      let g = insert-grown place new word nested right b.4 in
      let e : tall ≡ suc (max (height left) (height right)) = b.0 in
      let d : height left ≤ height right + 1 = b.1 in
      let f : height right ≤ height left + 1 = b.2 in
      let l : height right ≤ height after = g.least in
      let m : height after ≤ height right + 1 = g.most in
      let step : insert place new word nested (fork words held tall inner left right) ≡ balance words held inner left after =
      insert-greater place new word nested words held tall inner left right p.0 in
      let higher : tall < height (balance words held inner left after) = rw step at h in
      elim (cases_lt (height left + 1) (height after)) [
        | inl s ↦
            let tilted : Tilted after = appended-tilted right b.4 p.1 (omega arith) (omega arith) in
            let same : height (balance words held inner left after) ≡ height after =
            ap height (balance-right words held inner left after (omega arith) s)
            ∙ rotate_left-height words held inner left after g.balanced tilted (omega arith) in
            absurd (omega arith)
        | inr s ↦
            let level : balance words held inner left after ≡ node words held inner left after =
            balance-level words held inner left after (omega arith) s in
            let more : tall < suc (max (height left) (height after)) = rw level at higher in
            rw (step, level) (omega arith)
      ]

  pub appended-leans : (words : Words) (held : ℤ) (tall : ℕ) (inner left right : Tree) → Balanced (fork words held tall inner left right)
      → Behind place right → height left + 1 < height (insert place new word nested right) → LeansRight (insert place new word nested right)
  appended-leans words held tall inner left right b p h =
      let g = insert-grown place new word nested right b.4 in
      let f : height right ≤ height left + 1 = b.2 in
      let m : height (insert place new word nested right) ≤ height right + 1 = g.most in
      tilted-leans (insert place new word nested right) (appended-tilted right b.4 p (omega arith) (omega arith))
