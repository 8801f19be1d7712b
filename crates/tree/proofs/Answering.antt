-- The answer to a question at a node, from the answers at its sides.
use Rattle.std.proofs.Common.{◌≡◌, ℕ, ◌<◌, true, false, cond, List, ℤ, Some, None, Option, Ordering, Less, Equal, Greater, sym, refl, ap, ◌∙◌, subst, true≢false}
use mathlib.Core.Bool.{false≢true}
use Rattle.std.specs.Option.{option_or}
use Rattle.std.specs.Ordering.{is_ge, is_lt}
use Rattle.pool.specs.Held.{CarriesIn, CarriesLinksIn, SoundMemory}
use Rattle.pool.specs.Node.{node_at}
use Rattle.pool.specs.Tree.{Tree, leaf}
use Rattle.pool.specs.declared.node.Node.{Node}
use Rattle.pool.specs.declared.node.Words.{Words}
use Rattle.tree.proofs.Descent.{by-node, by-none, end-carries, side-carries}
use Rattle.tree.proofs.Looking.{find-items, at_most-items, after_items, first-items, last-items}
use Rattle.tree.specs.Answer.{GivenItem, GivenValue}
use Rattle.tree.specs.Ends.{at_end}
use Rattle.tree.specs.Kind.{Kind}
use Rattle.tree.specs.Lookup.{by_order, or_else, find, at_most, after, first, last, item_at, last_at_most, first_after, first_of, last_of}
use Rattle.tree.specs.Shape.{Ascending, Item, item, items}
use Rattle.tree.specs.declared.end.End.{End}
use Rattle.tree.specs.declared.end.End.TheVariants.{First, Last}

-- ---- no tree has no item

module _ (mem : List Node) (n : ℕ) (none : n ≡ 0) {K : Type 0} (key : Words → K) (order : K → K → Ordering) (P : Option (Item K) → Type 0) (here : P None) where
  pub find_none : (k : K) (t : Tree) → CarriesIn mem n t → P (find key order k t)
  unfolding find
  find_none k = by-none mem n none (λ t. P (find key order k t)) here

  pub at_most-none : (k : K) (t : Tree) → CarriesIn mem n t → P (at_most key order k t)
  unfolding at_most
  at_most-none k = by-none mem n none (λ t. P (at_most key order k t)) here

  pub after_none : (k : K) (t : Tree) → CarriesIn mem n t → P (after key order k t)
  unfolding after
  after_none k = by-none mem n none (λ t. P (after key order k t)) here

  first-none : (t : Tree) → CarriesIn mem n t → P (first key order t)
  unfolding first
  first-none = by-none mem n none (λ t. P (first key order t)) here

  last_none : (t : Tree) → CarriesIn mem n t → P (last key order t)
  unfolding last
  last_none = by-none mem n none (λ t. P (last key order t)) here

  pub outermost-none : (e : End) (t : Tree) → CarriesIn mem n t → P (at_end e (first key order t) (last key order t))
  outermost-none First = first-none
  outermost-none Last = last_none

-- ---- at a node

-- what a comparison with the node's key came to
pub compared : (r q o : Ordering) → r ≡ q → r ≡ o → q ≡ o
compared r q o e i = sym e ∙ i

module _ (mem : List Node) (h : SoundMemory mem) (n : ℕ) (numbered : 0 < n) (x : Node) (is : x ≡ node_at mem n)
    {K : Type 0} (key : Words → K) (order : K → K → Ordering) (P : Option (Item K) → Type 0) where
  -- the item of the node x, with its nested tree
  abbrev pub item_of : Tree → Item K
  item_of nested = item (key x.key) x.word nested

  pub find-by : (k : K) (o : Ordering) → order k (key x.key) ≡ o
      → ((nested left right : Tree) → CarriesLinksIn mem x nested left right → P (by_order o (find key order k left) (Some (item_of nested)) (find key order k right)))
      → (t : Tree) → CarriesIn mem n t → P (find key order k t)
  unfolding find
  find-by k o e here =
      by-node mem h n numbered x is (λ t. P (find key order k t)) (λ nested left right ls.
      subst (λ (w : Ordering). P (by_order w (find key order k left) (Some (item_of nested)) (find key order k right))) (sym e) (here nested left right ls))

  -- a key that is not the node's own is on a side
  pub find-side : (k : K) (o : Ordering) → (o ≡ Equal → ⊥) → o ≡ order k (key x.key) → (m : ℕ) → m ≡ by_order o x.left 0 x.right
      → ((u : Tree) → CarriesIn mem m u → P (find key order k u)) → (t : Tree) → CarriesIn mem n t → P (find key order k t)
  find-side k Less other e m on here = find-by k Less (sym e) (λ nested left right ls. here left (side-carries mem x nested left right ls Less m on))
  find-side k Equal other e m on here = absurd (other refl)
  find-side k Greater other e m on here = find-by k Greater (sym e) (λ nested left right ls. here right (side-carries mem x nested left right ls Greater m on))

  pub at_most-by : (k : K) (o : Ordering) → order k (key x.key) ≡ o
      → ((nested left right : Tree) → CarriesLinksIn mem x nested left right
      → P (by_order o (at_most key order k left) (Some (item_of nested)) (or_else (at_most key order k right) (Some (item_of nested)))))
      → (t : Tree) → CarriesIn mem n t → P (at_most key order k t)
  unfolding at_most
  at_most-by k o e here =
      by-node mem h n numbered x is (λ t. P (at_most key order k t)) (λ nested left right ls.
      subst (λ (w : Ordering). P (by_order w (at_most key order k left) (Some (item_of nested)) (or_else (at_most key order k right) (Some (item_of nested))))) (sym e)
      (here nested left right ls))

  pub after-by : (k : K) (o : Ordering) → order k (key x.key) ≡ o
      → ((nested left right : Tree) → CarriesLinksIn mem x nested left right
      → P (by_order o (or_else (after key order k left) (Some (item_of nested))) (after key order k right) (after key order k right)))
      → (t : Tree) → CarriesIn mem n t → P (after key order k t)
  unfolding after
  after-by k o e here =
      by-node mem h n numbered x is (λ t. P (after key order k t)) (λ nested left right ls.
      subst (λ (w : Ordering). P (by_order w (or_else (after key order k left) (Some (item_of nested))) (after key order k right) (after key order k right))) (sym e)
      (here nested left right ls))

  -- the node's key is after k, or it is not
  pub after-before : (k : K) (o : Ordering) → o ≡ order k (key x.key) → is_lt o ≡ true
      → ((nested left right : Tree) → CarriesLinksIn mem x nested left right → P (or_else (after key order k left) (Some (item_of nested))))
      → (t : Tree) → CarriesIn mem n t → P (after key order k t)
  after-before k Less e test here = after-by k Less (sym e) here
  after-before k Equal e test here = absurd (false≢true test)
  after-before k Greater e test here = absurd (false≢true test)

  pub after-past : (k : K) (o : Ordering) → o ≡ order k (key x.key) → is_lt o ≡ false
      → ((nested left right : Tree) → CarriesLinksIn mem x nested left right → P (after key order k right)) → (t : Tree) → CarriesIn mem n t → P (after key order k t)
  after-past k Less e test here = absurd (true≢false test)
  after-past k Equal e test here = after-by k Equal (sym e) here
  after-past k Greater e test here = after-by k Greater (sym e) here

  first_by : ((nested left right : Tree) → CarriesLinksIn mem x nested left right → P (or_else (first key order left) (Some (item_of nested))))
      → (t : Tree) → CarriesIn mem n t → P (first key order t)
  unfolding first
  first_by here = by-node mem h n numbered x is (λ t. P (first key order t)) here

  last-by : ((nested left right : Tree) → CarriesLinksIn mem x nested left right → P (or_else (last key order right) (Some (item_of nested))))
      → (t : Tree) → CarriesIn mem n t → P (last key order t)
  unfolding last
  last-by here = by-node mem h n numbered x is (λ t. P (last key order t)) here

  pub outermost-by : (e : End)
      → ((nested left right : Tree) → CarriesLinksIn mem x nested left right → P (or_else (at_end e (first key order left) (last key order right)) (Some (item_of nested))))
      → (t : Tree) → CarriesIn mem n t → P (at_end e (first key order t) (last key order t))
  outermost-by First = first_by
  outermost-by Last = last-by

-- the answer of the side on an end
module _ (mem : List Node) {K : Type 0} (key : Words → K) (order : K → K → Ordering) (x : Node) (nested left right : Tree) (links : CarriesLinksIn mem x nested left right)
    (P : Option (Item K) → Type 0) where
  pub outermost-given : (e : End) (m : ℕ) → m ≡ at_end e x.left x.right
      → ((t : Tree) → CarriesIn mem m t → P (at_end e (first key order t) (last key order t))) → P (at_end e (first key order left) (last key order right))
  outermost-given First m on here = here left (end-carries mem x nested left right links First m on)
  outermost-given Last m on here = here right (end-carries mem x nested left right links Last m on)

-- ---- what a node gives back

module _ (mem : List Node) {K V : Type 0} (key : Words → K) (value : ℤ → ℕ → V) (x : Node) (nested left right : Tree) (links : CarriesLinksIn mem x nested left right) where
  pub value-given : (v : V) → v ≡ value x.word x.nested → GivenValue {K = K} mem value (Some (item (key x.key) x.word nested)) (Some v)
  value-given v e = record { link = x.nested; carried = links.by_nested; value-is = e }

  pub item-given : (y : K × V) → y ≡ (key x.key, value x.word x.nested) → GivenItem mem value (Some (item (key x.key) x.word nested)) (Some y)
  item-given y e = (ap (λ (z : K × V). z.0) e, record { link = x.nested; carried = links.by_nested; value-is = ap (λ (z : K × V). z.1) e })

  -- the answer of a side, or else the item of the node
  pub either-given : (o : Option (Item K)) (r s : Option (K × V)) → s ≡ option_or r (Some (key x.key, value x.word x.nested))
      → GivenItem mem value o r → GivenItem mem value (or_else o (Some (item (key x.key) x.word nested))) s
  either-given o r s e given =
      subst (λ (z : Option (K × V)). GivenItem mem value (or_else o (Some (item (key x.key) x.word nested))) z) (sym e) (by_side o r given)
    where
      by_side : (o : Option (Item K)) (r : Option (K × V)) → GivenItem mem value o r
          → GivenItem mem value (or_else o (Some (item (key x.key) x.word nested))) (option_or r (Some (key x.key, value x.word x.nested)))
      by_side None None g = item-given _ refl
      by_side None (Some z) g = absurd g
      by_side (Some w) None g = absurd g
      by_side (Some w) (Some z) g = g

-- ---- the greatest item at most k, from what was found on k's side of the node

module _ (mem : List Node) {K V : Type 0} (key : Words → K) (order : K → K → Ordering) (value : ℤ → ℕ → V) (x : Node) (k : K) (m : ℕ) (found r : Option (K × V))
    (here : (u : Tree) → CarriesIn mem m u → GivenItem mem value (at_most key order k u) found) where
  abbrev own : Option (K × V)
  own = Some (key x.key, value x.word x.nested)

  pub at-most-given : (o : Ordering) → m ≡ by_order o x.left 0 x.right → r ≡ cond (is_ge o) (option_or found own) found
      → (nested left right : Tree) → CarriesLinksIn mem x nested left right
      → GivenItem mem value (by_order o (at_most key order k left) (Some (item (key x.key) x.word nested)) (or_else (at_most key order k right) (Some (item (key x.key) x.word nested)))) r
  unfolding at_most
  at-most-given Less on e nested left right ls =
      subst (GivenItem mem value (at_most key order k left)) (sym e) (here left (side-carries mem x nested left right ls Less m on))
  at-most-given Equal on e nested left right ls =
      either-given mem key value x nested left right ls None found r e (here leaf (side-carries mem x nested left right ls Equal m on))
  at-most-given Greater on e nested left right ls =
      either-given mem key value x nested left right ls (at_most key order k right) found r e (here right (side-carries mem x nested left right ls Greater m on))

-- ---- the same answers by the list of items

module _ {K : Type 0} (𝓚 : Kind K) (mem : List Node) (n : ℕ) (P : Option (Item K) → Type 0) where
  pub find-listed : (k : K) → ((t : Tree) → CarriesIn mem n t → P (find 𝓚.key 𝓚.order k t))
      → (t : Tree) → CarriesIn mem n t → Ascending 𝓚.order (items 𝓚.key t) → P (item_at 𝓚.order k (items 𝓚.key t))
  find-listed k a t c asc = subst P (find-items 𝓚 k t asc) (a t c)

  pub at_most-listed : (k : K) → ((t : Tree) → CarriesIn mem n t → P (at_most 𝓚.key 𝓚.order k t))
      → (t : Tree) → CarriesIn mem n t → Ascending 𝓚.order (items 𝓚.key t) → P (last_at_most 𝓚.order k (items 𝓚.key t))
  at_most-listed k a t c asc = subst P (at_most-items 𝓚 k t asc) (a t c)

  pub after-listed : (k : K) → ((t : Tree) → CarriesIn mem n t → P (after 𝓚.key 𝓚.order k t))
      → (t : Tree) → CarriesIn mem n t → Ascending 𝓚.order (items 𝓚.key t) → P (first_after 𝓚.order k (items 𝓚.key t))
  after-listed k a t c asc = subst P (after_items 𝓚 k t asc) (a t c)

  first-listed : ((t : Tree) → CarriesIn mem n t → P (first 𝓚.key 𝓚.order t)) → (t : Tree) → CarriesIn mem n t → P (first_of (items 𝓚.key t))
  first-listed a t c = subst P (first-items 𝓚 t) (a t c)

  last-listed : ((t : Tree) → CarriesIn mem n t → P (last 𝓚.key 𝓚.order t)) → (t : Tree) → CarriesIn mem n t → P (last_of (items 𝓚.key t))
  last-listed a t c = subst P (last-items 𝓚 t) (a t c)

  pub outermost-listed : (e : End) → ((t : Tree) → CarriesIn mem n t → P (at_end e (first 𝓚.key 𝓚.order t) (last 𝓚.key 𝓚.order t)))
      → (t : Tree) → CarriesIn mem n t → P (at_end e (first_of (items 𝓚.key t)) (last_of (items 𝓚.key t)))
  outermost-listed First = first-listed
  outermost-listed Last = last-listed
