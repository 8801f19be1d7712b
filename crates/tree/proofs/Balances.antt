-- Balance and heights of what is rebuilt, inserted and removed.
use Rattle.std.proofs.Common.{◌≡◌, ℕ, suc, ◌+◌, ◌<◌, ◌≤◌, max, ltb, ◌⊎◌, ℤ, Ordering, refl, inl, inr, arith}
use Rattle.std.proofs.lemmas.Bool.{cases_lt, cond_both, ltb-false, ltb-true}
use Rattle.pool.specs.Tree.{Tree, fork, leaf}
use Rattle.pool.specs.declared.node.Words.{Words}
use Rattle.tree.proofs.Steps.{by-order, insert-equal, insert-greater, insert-less, remove-equal, remove-greater, remove-less}
use Rattle.tree.specs.Heights.{Grown, Rebuilt, Shrunk}
use Rattle.tree.specs.Insert.{insert}
use Rattle.tree.specs.Rebuild.{balance, node, rotate_double, rotate_left, rotate_right}
use Rattle.tree.specs.Remove.{first, join, remove, without_first}
use Rattle.tree.specs.Shape.{Balanced, height}

-- the height is one more than the greater one, unless the sides differ by more than 1
rebuilt-ways : (l r : ℕ) (t : Tree) → Rebuilt l r t → (height t ≡ suc (max l r)) ⊎ ((r + 1 < l) ⊎ (l + 1 < r))
rebuilt-ways l r t h =
    elim (cases_lt (r + 1) l) [
      | inl p ↦ inr (inl p)
      | inr p ↦ elim (cases_lt (l + 1) r) [ inl q ↦ inr (inr q) | inr q ↦ inl (h.level p q) ]
    ]

pub node-rebuilt : (words : Words) (word : ℤ) (nested left right : Tree) → Balanced left → Balanced right → height left ≤ height right + 1
    → height right ≤ height left + 1 → Rebuilt (height left) (height right) (node words word nested left right)
node-rebuilt words word nested left right bl br l r =
    record { balanced = (refl, l, r, bl, br); least = omega arith; most = omega arith; level = λ _ _. refl }

pub rotate_double-rebuilt : (lower : Words) (held : ℤ) (inner : Tree) (upper : Words) (word : ℤ) (nested left middle right : Tree) (n : ℕ)
    → Balanced left → Balanced middle → Balanced right → height left ≡ n → height middle ≡ n + 1 → height right ≡ n
    → Balanced (rotate_double lower held inner upper word nested left middle right)
    × (height (rotate_double lower held inner upper word nested left middle right) ≡ n + 2)
unfolding rotate_double
rotate_double-rebuilt lower held inner upper word nested left leaf right n bl bm br l m r = absurd (omega arith)
rotate_double-rebuilt lower held inner upper word nested left (fork middle value tall within before behind) right n bl bm br l m r =
    let e : tall ≡ suc (max (height before) (height behind)) = bm.0 in
    let p : height before ≤ height behind + 1 = bm.1 in
    let q : height behind ≤ height before + 1 = bm.2 in (
      (refl, omega arith, omega arith, (refl, omega arith, omega arith, bl, bm.3), (refl, omega arith, omega arith, bm.4, br)),
      omega arith,
    )

pub rotate_right-rebuilt : (words : Words) (word : ℤ) (nested left right : Tree) → Balanced left → Balanced right → height left ≡ height right + 2
    → Rebuilt (height left) (height right) (rotate_right words word nested left right)
unfolding rotate_right
rotate_right-rebuilt words word nested leaf right bl br h = absurd (omega arith)
rotate_right-rebuilt words word nested (fork lower held tall inner left middle) right bl br h =
    let e : tall ≡ suc (max (height left) (height middle)) = bl.0 in
    let p : height left ≤ height middle + 1 = bl.1 in
    let q : height middle ≤ height left + 1 = bl.2 in
    cond_both (ltb (height left) (height middle)) _ _ (Rebuilt tall (height right))
    (λ t.
    let s : height left < height middle = ltb-true (height left) (height middle) t in
    let d = rotate_double-rebuilt lower held inner words word nested left middle right (height right) bl.3 bl.4 br (omega arith) (omega arith) refl in
    record { balanced = d.0; least = omega (arith, d.1); most = omega (arith, d.1); level = λ a b. absurd (omega arith) })
    (λ t.
    let s : height middle ≤ height left = ltb-false (height left) (height middle) t in
    record {
      balanced = (refl, omega arith, omega arith, bl.3, (refl, omega arith, omega arith, bl.4, br));
      least = omega arith;
      most = omega arith;
      level = λ a b. absurd (omega arith);
    })

pub rotate_left-rebuilt : (words : Words) (word : ℤ) (nested left right : Tree) → Balanced left → Balanced right → height right ≡ height left + 2
    → Rebuilt (height left) (height right) (rotate_left words word nested left right)
unfolding rotate_left
rotate_left-rebuilt words word nested left leaf bl br h = absurd (omega arith)
rotate_left-rebuilt words word nested left (fork upper held tall inner middle right) bl br h =
    let e : tall ≡ suc (max (height middle) (height right)) = br.0 in
    let p : height middle ≤ height right + 1 = br.1 in
    let q : height right ≤ height middle + 1 = br.2 in
    cond_both (ltb (height right) (height middle)) _ _ (Rebuilt (height left) tall)
    (λ t.
    let s : height right < height middle = ltb-true (height right) (height middle) t in
    let d = rotate_double-rebuilt words word nested upper held inner left middle right (height left) bl br.3 br.4 refl (omega arith) (omega arith) in
    record { balanced = d.0; least = omega (arith, d.1); most = omega (arith, d.1); level = λ a b. absurd (omega arith) })
    (λ t.
    let s : height middle ≤ height right = ltb-false (height right) (height middle) t in
    record {
      balanced = (refl, omega arith, omega arith, (refl, omega arith, omega arith, bl, br.3), br.4);
      least = omega arith;
      most = omega arith;
      level = λ a b. absurd (omega arith);
    })

pub balance-rebuilt : (words : Words) (word : ℤ) (nested left right : Tree) → Balanced left → Balanced right → height left ≤ height right + 2
    → height right ≤ height left + 2 → Rebuilt (height left) (height right) (balance words word nested left right)
unfolding balance
balance-rebuilt words word nested left right bl br l r =
    cond_both (ltb (height right + 1) (height left)) _ _ (Rebuilt (height left) (height right))
    (λ t. let s : height right + 1 < height left = ltb-true (height right + 1) (height left) t in
    rotate_right-rebuilt words word nested left right bl br (omega arith))
    (λ f. let s : height left ≤ height right + 1 = ltb-false (height right + 1) (height left) f in
    cond_both (ltb (height left + 1) (height right)) _ _ (Rebuilt (height left) (height right))
    (λ t. let u : height left + 1 < height right = ltb-true (height left + 1) (height right) t in
    rotate_left-rebuilt words word nested left right bl br (omega arith))
    (λ g. node-rebuilt words word nested left right bl br s (ltb-false (height left + 1) (height right) g)))

-- one side of a balanced fork has grown or shrunk, and the fork is balanced again
module _ (words : Words) (word : ℤ) (tall : ℕ) (nested left right : Tree) (b : Balanced (fork words word tall nested left right)) where
  pub grown-left : (after : Tree) → Grown (height left) after → Grown tall (balance words word nested after right)
  grown-left after g =
      let e : tall ≡ suc (max (height left) (height right)) = b.0 in
      let p : height left ≤ height right + 1 = b.1 in
      let q : height right ≤ height left + 1 = b.2 in
      let l : height left ≤ height after = g.least in
      let m : height after ≤ height left + 1 = g.most in
      let r = balance-rebuilt words word nested after right g.balanced b.4 (omega arith) (omega arith) in
      record { balanced = r.balanced; least = omega (arith, rebuilt-ways (height after) (height right) (balance words word nested after right) r); most = omega arith }

  pub grown-right : (after : Tree) → Grown (height right) after → Grown tall (balance words word nested left after)
  grown-right after g =
      let e : tall ≡ suc (max (height left) (height right)) = b.0 in
      let p : height left ≤ height right + 1 = b.1 in
      let q : height right ≤ height left + 1 = b.2 in
      let l : height right ≤ height after = g.least in
      let m : height after ≤ height right + 1 = g.most in
      let r = balance-rebuilt words word nested left after b.3 g.balanced (omega arith) (omega arith) in
      record { balanced = r.balanced; least = omega (arith, rebuilt-ways (height left) (height after) (balance words word nested left after) r); most = omega arith }

  pub shrunk-left : (after : Tree) → Shrunk (height left) after → Shrunk tall (balance words word nested after right)
  shrunk-left after g =
      let e : tall ≡ suc (max (height left) (height right)) = b.0 in
      let p : height left ≤ height right + 1 = b.1 in
      let q : height right ≤ height left + 1 = b.2 in
      let l : height left ≤ height after + 1 = g.least in
      let m : height after ≤ height left = g.most in
      let r = balance-rebuilt words word nested after right g.balanced b.4 (omega arith) (omega arith) in
      record { balanced = r.balanced; least = omega (arith, rebuilt-ways (height after) (height right) (balance words word nested after right) r); most = omega arith }

  pub shrunk-right : (after : Tree) → Shrunk (height right) after → Shrunk tall (balance words word nested left after)
  shrunk-right after g =
      let e : tall ≡ suc (max (height left) (height right)) = b.0 in
      let p : height left ≤ height right + 1 = b.1 in
      let q : height right ≤ height left + 1 = b.2 in
      let l : height right ≤ height after + 1 = g.least in
      let m : height after ≤ height right = g.most in
      let r = balance-rebuilt words word nested left after b.3 g.balanced (omega arith) (omega arith) in
      record { balanced = r.balanced; least = omega (arith, rebuilt-ways (height left) (height after) (balance words word nested left after) r); most = omega arith }

module _ (place : Words → Ordering) (new : Words) (word : ℤ) (nested : Tree) where
  pub insert-grown : (t : Tree) → Balanced t → Grown (height t) (insert place new word nested t)
  unfolding insert
  insert-grown leaf b = record { balanced = (refl, omega arith, omega arith, tt, tt); least = omega arith; most = omega arith }
  insert-grown (fork words held tall inner left right) b =
      by-order (place words)
      (λ o.
      rw (insert-less place new word nested words held tall inner left right o)
      (grown-left words held tall inner left right b (insert place new word nested left) (insert-grown left b.3)))
      (λ o.
      rw (insert-equal place new word nested words held tall inner left right o)
      record { balanced = b; least = omega arith; most = omega arith })
      (λ o.
      rw (insert-greater place new word nested words held tall inner left right o)
      (grown-right words held tall inner left right b (insert place new word nested right) (insert-grown right b.4)))

pub without_first-shrunk : (words : Words) (word : ℤ) (tall : ℕ) (nested left right : Tree) → Balanced (fork words word tall nested left right)
    → Shrunk tall (without_first words word nested left right)
unfolding without_first
without_first-shrunk words word tall nested leaf right b =
    let e : tall ≡ suc (max 0 (height right)) = b.0 in
    record { balanced = b.4; least = omega arith; most = omega arith }
without_first-shrunk words word tall nested (fork lower held high inner left middle) right b =
    shrunk-left words word tall nested (fork lower held high inner left middle) right b (without_first lower held inner left middle)
    (without_first-shrunk lower held high inner left middle b.3)

pub join-shrunk : (words : Words) (word : ℤ) (tall : ℕ) (nested left right : Tree) → Balanced (fork words word tall nested left right)
    → Shrunk tall (join left right)
unfolding join
join-shrunk words word tall nested leaf right b =
    let e : tall ≡ suc (max 0 (height right)) = b.0 in
    record { balanced = b.4; least = omega arith; most = omega arith }
join-shrunk words word tall nested (fork lower held high inner left middle) leaf b =
    let e : tall ≡ suc (max high 0) = b.0 in
    record { balanced = b.3; least = omega arith; most = omega arith }
join-shrunk words word tall nested (fork lower held high inner left middle) (fork upper value deep within before behind) b =
    let root = first upper value within before in
    shrunk-right root.key root.word tall root.nested (fork lower held high inner left middle) (fork upper value deep within before behind) b
    (without_first upper value within before behind) (without_first-shrunk upper value deep within before behind b.4)

pub remove-shrunk : (place : Words → Ordering) (t : Tree) → Balanced t → Shrunk (height t) (remove place t)
unfolding remove
remove-shrunk place leaf b = record { balanced = tt; least = omega arith; most = omega arith }
remove-shrunk place (fork words word tall nested left right) b =
    by-order (place words)
    (λ o.
    rw (remove-less place words word tall nested left right o)
    (shrunk-left words word tall nested left right b (remove place left) (remove-shrunk place left b.3)))
    (λ o. rw (remove-equal place words word tall nested left right o) (join-shrunk words word tall nested left right b))
    (λ o.
    rw (remove-greater place words word tall nested left right o)
    (shrunk-right words word tall nested left right b (remove place right) (remove-shrunk place right b.4)))
