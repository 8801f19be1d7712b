-- A register's pool before and after a call on the part of the memory that is the register's.
use Rattle.std.proofs.Common.{◌≡◌, ℕ, ◌≤◌, List, ◌++◌, length, take, drop, Option, sym, refl, ap, ◌∙◌, subst, arith, length-append}
use Rattle.std.proofs.Props.{props}
use Rattle.std.specs.Borrow.{MutBor}
use Rattle.std.proofs.lemmas.List.{length-take, take_at}
use mathlib.Core.Logic.{∥∥₁_prop}
use Rattle.pool.proofs.Pools.{holds-in, holds_at}
use Rattle.pool.specs.Held.{Held, Holds, HoldsIn}
use Rattle.pool.specs.Sound.{memory_of, used_of}
use Rattle.pool.specs.declared.node.Node.{Node}
use Rattle.pool.specs.declared.pool.Pool.{Pool}
use Rattle.pool.specs.declared.state.PoolState.{PoolState}
use Rattle.tree.specs.Insertable.{Insertable}
use Rattle.register.specs.Contents.{Names}
use Rattle.register.specs.Entries.{Enterable}
use Rattle.register.specs.Kept.{Kept}
use Rattle.register.specs.Places.{Place}
use Rattle.register.specs.Registers.{SameLoan, pool_of}
use Rattle.register.specs.Shown.{Shown, Shows}
use Rattle.register.specs.declared.register.Register.{Register}
use Rattle.register.specs.declared.table.Record.{Record}

le-prop : (m n : ℕ) → IsProp (m ≤ n)
le-prop m n = hlevel props

-- a register with the same ordinary fields is the same
pub reopened : {N : Type 0} (r : Register N) (small : r.size ≤ 65535) (within : r.size ≤ length r.nodes.now) (counted : r.state.used ≤ r.size)
    (kept : ∥ ((places : List Place) × Kept (pool_of r) r.table.lines places) ∥₁)
    → ◌≡◌ {A = Register N} (record { nodes = r.nodes; size = r.size; state = r.state; table = r.table; next = r.next; order = r.order; small = small; within = within; counted = counted; kept = kept }) r
reopened r small within counted kept = λ i. record {
  nodes = r.nodes;
  size = r.size;
  state = r.state;
  table = r.table;
  next = r.next;
  order = r.order;
  small = le-prop _ _ small r.small i;
  within = le-prop _ _ within r.within i;
  counted = le-prop _ _ counted r.counted i;
  kept = ∥∥₁_prop kept r.kept i;
}

-- what one call keeps of the loan, and then another
pub loan-then : {N : Type 0} (a b c : Register N) → SameLoan a b → SameLoan b c → SameLoan a c
loan-then a b c first then = record {
  borrow = then.borrow ∙ first.borrow;
  size = then.size ∙ first.size;
  behind = subst (λ (n : ℕ). drop n c.nodes.now ≡ drop n b.nodes.now) first.size then.behind ∙ first.behind;
}

-- what lies behind the register's nodes is as it was before the register was made
pub loan-behind : {N : Type 0} (a b : Register N) → SameLoan a b → (mem : List Node) → drop a.size a.nodes.now ≡ drop a.size mem → drop b.size b.nodes.now ≡ drop b.size mem
loan-behind a b loan mem made =
    subst (λ (n : ℕ). drop n b.nodes.now ≡ drop n mem) (sym loan.size) (loan.behind ∙ made)

-- what the parts of two pools hold, the pools hold
pub by-parts : (p q : Pool) (hs hs' : List Held) → (HoldsIn (memory_of p) p.free p.used hs → HoldsIn (memory_of q) q.free q.used hs') → Holds p hs → Holds q hs'
by-parts p q hs hs' f h = holds_at q _ _ _ hs' refl refl refl (f (holds-in p hs h))

-- what a call on a pool needs, it finds in every pool of the same parts
module _ (p q : Pool) (memory : memory_of q ≡ memory_of p) (free : q.free ≡ p.free) (used : used_of q ≡ used_of p) where
  held-again : (hs : List Held) → Holds p hs → Holds q hs
  held-again hs h = holds_at q _ _ _ hs memory free used (holds-in p hs h)

  as_many : length (memory_of q) ≡ length (memory_of p)
  as_many = ap (λ (mem : List Node). length mem) memory

  pub insertable-again : {n link : ℕ} → Insertable p n link → Insertable q n link
  insertable-again i = record {
    t = i.t;
    nested = i.nested;
    others = i.others;
    holds = held-again _ i.holds;
    few = i.few;
    balanced = i.balanced;
    low = i.low;
    room = omega (arith, i.room, used, as_many);
  }

  pub enterable-again : {K : Type 0} {𝓝 : Names K} {sheet : ℕ} {name : K} → Enterable 𝓝 p sheet name → Enterable 𝓝 q sheet name
  enterable-again e = record {
    t = e.t;
    others = e.others;
    holds = held-again _ e.holds;
    few = e.few;
    sturdy = e.sturdy;
    low = e.low;
    low_card = e.low_card;
    room = omega (arith, e.room, used, as_many);
  }

-- a call left these nodes at the front of a memory, and this state
module _ (nodes : MutBor (List Node)) (size : ℕ) (small : size ≤ 65535) (within : size ≤ length nodes.now) (ys : List Node) (st : PoolState) (long : length ys ≡ length (take size nodes.now)) where
  -- their pool
  abbrev pub pool_left : Pool
  pool_left = record { nodes = record { ref_ptr = nodes.ref_ptr; ghost_name = nodes.ghost_name; now = ys }; free = st.free; used = st.used }

  -- the memory with these nodes at its front, and the pool of its front
  abbrev pub written : List Node
  written = ys ++ drop size nodes.now

  abbrev pub joined : Pool
  joined = record { nodes = record { ref_ptr = nodes.ref_ptr; ghost_name = nodes.ghost_name; now = take size written }; free = st.free; used = st.used }

  as_long : length ys ≡ size
  as_long = omega (arith, long, length-take size nodes.now, within)

  front : take size written ≡ ys
  front = take_at ys (drop size nodes.now) size as_long

  same-pool : joined ≡ pool_left
  same-pool = λ i. record { nodes = record { ref_ptr = nodes.ref_ptr; ghost_name = nodes.ghost_name; now = front i }; free = st.free; used = st.used }

  pub shown-written : {K : Type 0} (𝓝 : Names K) (ls : List (Option Record)) (next : ℕ) (s : Shown) → Shows 𝓝 pool_left ls next s → Shows 𝓝 joined ls next s
  shown-written 𝓝 ls next s shows = subst (λ (p : Pool). Shows 𝓝 p ls next s) (sym same-pool) shows

  pub kept-written : (ls : List (Option Record)) (xs : List Place) → Kept pool_left ls xs
      → record { small : size ≤ 65535; within : size ≤ length written; counted : st.used ≤ size; kept : ∥ ((places : List Place) × Kept joined ls places) ∥₁ }
  kept-written ls xs k =
      let sound = (holds-in pool_left _ k.holds).sound in
      record {
        small = small;
        within = omega (arith, as_long, length-append ys (drop size nodes.now));
        counted = omega (arith, sound.spare, as_long);
        kept = ∣ (xs, subst (λ (p : Pool). Kept p ls xs) (sym same-pool) k) ∣₁;
      }

module _ {N : Type 0} (r : Register N) where
  -- the ghost fields of a register whose memory was not written
  pub unwritten : (ls : List (Option Record)) (xs : List Place) → Kept (pool_of r) ls xs
      → record { small : r.size ≤ 65535; within : r.size ≤ length r.nodes.now; counted : r.state.used ≤ r.size; kept : ∥ ((ys : List Place) × Kept (pool_of r) ls ys) ∥₁ }
  unwritten ls xs k = record { small = r.small; within = r.within; counted = r.counted; kept = ∣ (xs, k) ∣₁ }

  -- a call left these nodes in the register's part of the memory, and this state
  module _ (ys : List Node) (st : PoolState) (long : length ys ≡ length (take r.size r.nodes.now)) where
    abbrev pub left_in : Pool
    left_in = pool_left r.nodes r.size r.small r.within ys st long

    pub shown-joined : {K : Type 0} (𝓝 : Names K) (ls : List (Option Record)) (next : ℕ) {P : Shown → Type 0}
        → (s' : Shown) × Shows 𝓝 left_in ls next s' × P s' → (s' : Shown) × Shows 𝓝 (joined r.nodes r.size r.small r.within ys st long) ls next s' × P s'
    shown-joined 𝓝 ls next (s', shows, step) = (s', shown-written r.nodes r.size r.small r.within ys st long 𝓝 ls next s' shows, step)

    pub rewritten : (ls : List (Option Record)) (xs : List Place) → Kept left_in ls xs
        → record {
          small : r.size ≤ 65535;
          within : r.size ≤ length (written r.nodes r.size r.small r.within ys st long);
          counted : st.used ≤ r.size;
          kept : ∥ ((places : List Place) × Kept (joined r.nodes r.size r.small r.within ys st long) ls places) ∥₁;
        }
    rewritten = kept-written r.nodes r.size r.small r.within ys st long
