-- The register's invariant: there is one way in which it holds, and one place of it can be changed.
use Rattle.std.proofs.Common.{◌≡◌, ℕ, zero, suc, true, false, cond, eqb, List, [], ◌∷◌, map, get_or, Some, None, Option, sym, refl, ap, ◌∙◌, subst, arith}
use base.Stored.{Coded-set}
use mathlib.Core.List.{is_set}
use Rattle.std.proofs.Props.{props}
use mathlib.Core.Logic.{∥∥₁_elim, ∥∥₁_prop}
use Rattle.pool.proofs.Trees.{linked-unique}
use Rattle.pool.proofs.Unique.{holds_prop, once}
use Rattle.pool.specs.Held.{Carried, Held, Holds}
use Rattle.pool.specs.Sound.{memory_of}
use Rattle.pool.specs.Tree.{Linked}
use Rattle.pool.specs.declared.node.Node.{Node}
use Rattle.pool.specs.declared.pool.Pool.{Pool}
use Rattle.register.specs.Kept.{Kept}
use Rattle.register.specs.Places.{Doing, Place, free, if_serial, live, owners_of, place_of, record_of, resting, sheet_at, sheet_on, sitting, stages_at, state_of, stowed}
use Rattle.register.specs.Tables.{line_of, root_in, serial_in, state_in, with_serial}
use Rattle.register.specs.contracts.table.Record.{the_row}
use Rattle.register.specs.declared.table.Record.{Record}
use Rattle.register.specs.declared.table.State.{State}

record-set : IsSet Record
record-set = Coded-set the_row.coded

row-set : IsSet (Option Record)
row-set = hlevel (props, record-set)

-- ---- the records of places

pub record-at : (xs : List Place) (i : ℕ) → get_or (map record_of xs) i None ≡ record_of (get_or xs i free)
record-at [] i = refl
record-at (x ∷ xs) zero = refl
record-at (x ∷ xs) (suc i) = record-at xs i

record-if : (serial : ℕ) (x : Place) → with_serial serial (record_of x) ≡ record_of (if_serial serial x)
record-if serial free = refl
record-if serial (live n stages doing) =
    elim (eqb n serial) as (λ b. cond b (record_of (live n stages doing)) None ≡ record_of (cond b (live n stages doing) free)) [ true ↦ refl | false ↦ refl ]

pub line-of : (ls : List (Option Record)) (xs : List Place) (place serial : ℕ) → ls ≡ map record_of xs → line_of ls place serial ≡ record_of (place_of xs place serial)
line-of ls xs place serial rows =
    ap (λ (rs : List (Option Record)). line_of rs place serial) rows
    ∙ ap (with_serial serial) (record-at xs place)
    ∙ record-if serial (get_or xs place free)

-- ---- the places are determined by the records and the nodes

differ : {A : Type 0} → ◌≡◌ {A = ℕ} 0 1 → A
differ e = absurd (omega (arith, e))

module _ (mem : List Node) where
  held_same : (g h : Held) → g.node ≡ h.node → Linked mem g.node g.tree → Linked mem h.node h.tree → g ≡ h
  held_same g h e l m =
      let f = linked-unique mem h.node g.tree h.tree (subst (λ (n : ℕ). Linked mem n g.tree) e l) m in
      λ i. record { node = e i; tree = f i }

  doing-same : (d e : Doing) → state_of d ≡ state_of e → Linked mem (sheet_on d).node (sheet_on d).tree → Linked mem (sheet_on e).node (sheet_on e).tree → d ≡ e
  doing-same resting resting s l m = refl
  doing-same resting (sitting r h) s l m = differ (cc)
  doing-same resting (stowed b) s l m = differ (cc)
  doing-same (sitting r h) resting s l m = differ (cc)
  doing-same (sitting r h) (sitting q g) s l m =
      let e : r ≡ q = cc in
      let n : h.node ≡ g.node = cc in
      let f = held_same h g n l m in
      λ i. sitting (e i) (f i)
  doing-same (sitting r h) (stowed b) s l m = differ (cc)
  doing-same (stowed a) resting s l m = differ (cc)
  doing-same (stowed a) (sitting r h) s l m = differ (cc)
  doing-same (stowed a) (stowed b) s l m = let e : a ≡ b = cc in ap stowed e

  place_same : (x y : Place) → record_of x ≡ record_of y
      → Linked mem (stages_at x).node (stages_at x).tree → Linked mem (sheet_at x).node (sheet_at x).tree
      → Linked mem (stages_at y).node (stages_at y).tree → Linked mem (sheet_at y).node (sheet_at y).tree → x ≡ y
  place_same free free e a b c d = refl
  place_same free (live n h d₁) e a b c d = differ (cc)
  place_same (live n h d₁) free e a b c d = differ (cc)
  place_same (live n h d₁) (live m g d₂) e a b c d =
      let serial : n ≡ m = ap serial_in e in
      let stages = held_same h g (ap root_in e) a c in
      let doing = doing-same d₁ d₂ (let f : ◌≡◌ {A = Option State} (Some (state_of d₁)) (Some (state_of d₂)) = ap state_in e in cc) b d in
      λ i. live (serial i) (stages i) (doing i)

  places_same : (xs ys : List Place) → map record_of xs ≡ map record_of ys → Carried mem (owners_of xs) → Carried mem (owners_of ys) → xs ≡ ys
  places_same [] [] e c d = refl
  places_same [] (y ∷ ys) e c d = differ (cc)
  places_same (x ∷ xs) [] e c d = differ (cc)
  places_same (x ∷ xs) (y ∷ ys) e c d =
      let first : record_of x ≡ record_of y = cc in
      let rest : map record_of xs ≡ map record_of ys = cc in
      let p = place_same x y first c.0 c.1.0 d.0 d.1.0 in
      let q = places_same xs ys rest c.1.1 d.1.1 in
      λ i. p i ∷ q i

kept-prop : (p : Pool) (ls : List (Option Record)) (xs : List Place) → IsProp (Kept p ls xs)
kept-prop p ls xs j k = λ i. record {
  rows = is_set row-set ls (map record_of xs) j.rows k.rows i;
  holds = holds_prop p (owners_of xs) j.holds k.holds i;
  sturdy = ∥∥₁_prop j.sturdy k.sturdy i;
}

kept_same : (p : Pool) (ls : List (Option Record)) (xs ys : List Place) → Kept p ls xs → Kept p ls ys → xs ≡ ys
unfolding Holds
kept_same p ls xs ys j k = places_same (memory_of p) xs ys (sym j.rows ∙ k.rows) j.holds.carried k.holds.carried

-- a register's places, from its invariant
pub the_places : (p : Pool) (ls : List (Option Record)) → ∥ ((xs : List Place) × Kept p ls xs) ∥₁ → (xs : List Place) × Kept p ls xs
the_places p ls h = ∥∥₁_elim h (once (kept-prop p ls) (kept_same p ls)) (λ x. x)
