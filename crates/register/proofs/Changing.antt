-- The line that a handle stands for, and the register after one place of its table has changed.
use Rattle.std.proofs.Common.{◌≡◌, ℕ, zero, suc, ◌<◌, Bool, true, false, cond, eqb, List, [], ◌∷◌, length, get_or, set, Some, None, Option, sym, refl, ap, ◌∙◌, subst, arith, eq-eqb, eqb-true}
use mathlib.Core.Logic.{∥∥₁_map}
use Rattle.std.proofs.ByRecursion.{All-set}
use Rattle.std.proofs.lemmas.List.{length-map, map-set}
use Rattle.std.specs.List.{AllByRecursion}
use Rattle.pool.specs.Held.{Held, Holds, held}
use Rattle.pool.specs.Sound.{memory_of, used_of}
use Rattle.pool.specs.declared.pool.Pool.{Pool}
use Rattle.register.proofs.Keeping.{line-of}
use Rattle.register.proofs.Owning.{others, owners-apart, owners-joined}
use Rattle.register.specs.Contents.{Names}
use Rattle.register.specs.Kept.{Kept}
use Rattle.register.specs.Places.{Doing, Place, free, if_serial, is_resting, is_sitting, live, none, place_of, record_of, resting, sheet_at, sitting, stages_at, stowed}
use Rattle.register.specs.Shapes.{Ordered, Sturdy}
use Rattle.register.specs.Shown.{Shown, Shows}
use Rattle.register.specs.Tables.{in_state, line_of, root_in, serial_in, state_in}
use Rattle.register.specs.declared.table.Record.{Record}
use Rattle.register.specs.declared.table.State.{State}
use Rattle.register.specs.declared.table.State.TheVariants.{AtRest, Sitting, Stowed}

differ : {A : Type 0} → ◌≡◌ {A = ℕ} 0 1 → A
differ e = absurd (omega (arith, e))

-- ---- what a place is, by its record

pub rest-state : (x : Place) → in_state AtRest (record_of x) ≡ is_resting x
rest-state free = refl
rest-state (live n h resting) = refl
rest-state (live n h (sitting r g)) = refl
rest-state (live n h (stowed b)) = refl

-- what is not free is within the list
pub within_of : (xs : List Place) (i n : ℕ) (h : Held) (d : Doing) → get_or xs i free ≡ live n h d → i < length xs
within_of [] i n h d e = differ (cc)
within_of (x ∷ xs) zero n h d e = omega arith
within_of (x ∷ xs) (suc i) n h d e = omega (arith, within_of xs i n h d e)

-- the place of a handle is the place of the table, where it is a line
if-live : (serial n : ℕ) (h : Held) (d : Doing) (x : Place) → if_serial serial x ≡ live n h d → (x ≡ live serial h d) × (n ≡ serial)
if-live serial n h d free e = differ (cc)
if-live serial n h d (live m g f) e =
    elim (eqb m serial) as (λ b. eqb m serial ≡ b → cond b (live m g f) free ≡ live n h d → (live m g f ≡ live serial h d) × (n ≡ serial)) [
      | true ↦ (λ t e. let s : m ≡ serial = eqb-true m serial t in let k : m ≡ n = cc in let r : live m g f ≡ live serial h d = cc in (r, sym k ∙ s))
      | false ↦ (λ t e. differ (cc))
    ] refl e

pub at-live : (xs : List Place) (place serial n : ℕ) (h : Held) (d : Doing) → place_of xs place serial ≡ live n h d → get_or xs place free ≡ live serial h d
at-live xs place serial n h d e = (if-live serial n h d (get_or xs place free) e).0

pub place-of : (xs : List Place) (place serial : ℕ) (h : Held) (d : Doing) → get_or xs place free ≡ live serial h d → place_of xs place serial ≡ live serial h d
place-of xs place serial h d e =
    ap (if_serial serial) e ∙ ap (λ (b : Bool). cond b (live serial h d) free) (eq-eqb serial serial refl)

-- a line at rest with this place and serial, whose record in the table is r
pub record Rests (xs : List Place) (place serial : ℕ) (r : Option Record) : Type 0 where
  pub stages : Held
  pub here : get_or xs place free ≡ live serial stages resting
  pub within : place < length xs
  pub root_is : root_in r ≡ stages.node
  pub serial-is : serial_in r ≡ serial

-- a sitting with this place and serial
pub record Sits (xs : List Place) (place serial : ℕ) (r : Option Record) (recorded node : ℕ) : Type 0 where
  pub stages : Held
  pub sheet : Held
  pub here : get_or xs place free ≡ live serial stages (sitting recorded sheet)
  pub within : place < length xs
  pub root_is : root_in r ≡ stages.node
  pub serial-is : serial_in r ≡ serial
  pub sheet-is : node ≡ sheet.node

rests-by : (xs : List Place) (place serial : ℕ) (r : Option Record) (x : Place) → place_of xs place serial ≡ x → r ≡ record_of x → is_resting x ≡ true → Rests xs place serial r
rests-by xs place serial r free e i t = differ (cc)
rests-by xs place serial r (live n h (sitting q g)) e i t = differ (cc)
rests-by xs place serial r (live n h (stowed b)) e i t = differ (cc)
rests-by xs place serial r (live n h resting) e i t =
    let here = at-live xs place serial n h resting e in
    record {
      stages = h;
      here = here;
      within = within_of xs place serial h resting here;
      root_is = ap root_in i;
      serial-is = ap serial_in i ∙ (if-live serial n h resting (get_or xs place free) e).1;
    }

sits-by : (xs : List Place) (place serial : ℕ) (r : Option Record) (recorded node : ℕ) (x : Place) → place_of xs place serial ≡ x → r ≡ record_of x
    → state_in r ≡ Some (Sitting recorded node) → Sits xs place serial r recorded node
sits-by xs place serial r recorded node free e i t = differ (let f : ◌≡◌ {A = Option State} None (Some (Sitting recorded node)) = sym (ap state_in i) ∙ t in cc)
sits-by xs place serial r recorded node (live n h resting) e i t = differ (let f : Some AtRest ≡ Some (Sitting recorded node) = sym (ap state_in i) ∙ t in cc)
sits-by xs place serial r recorded node (live n h (stowed b)) e i t = differ (let f : Some (Stowed b) ≡ Some (Sitting recorded node) = sym (ap state_in i) ∙ t in cc)
sits-by xs place serial r recorded node (live n h (sitting q g)) e i t =
    let f : Some (Sitting q g.node) ≡ Some (Sitting recorded node) = sym (ap state_in i) ∙ t in
    let same : q ≡ recorded = cc in
    let link : g.node ≡ node = cc in
    let here : get_or xs place free ≡ live serial h (sitting recorded g) =
    at-live xs place serial n h (sitting q g) e ∙ ap (λ (m : ℕ). live serial h (sitting m g)) same in
    record {
      stages = h;
      sheet = g;
      here = here;
      within = within_of xs place serial h (sitting recorded g) here;
      root_is = ap root_in i;
      serial-is = ap serial_in i ∙ (if-live serial n h (sitting q g) (get_or xs place free) e).1;
      sheet-is = sym link;
    }

module _ (p : Pool) (ls : List (Option Record)) (xs : List Place) (k : Kept p ls xs) (place serial : ℕ) (r : Option Record) (is : r ≡ line_of ls place serial) where
  by-record : r ≡ record_of (place_of xs place serial)
  by-record = is ∙ line-of ls xs place serial k.rows

  pub rests : in_state AtRest r ≡ true → Rests xs place serial r
  rests t =
      rests-by xs place serial r (place_of xs place serial) refl by-record
      (sym (rest-state (place_of xs place serial)) ∙ ap (in_state AtRest) (sym by-record) ∙ t)

  -- the test of the record is the test of the place
  pub state-at : is_resting (place_of xs place serial) ≡ in_state AtRest r
  state-at = sym (rest-state (place_of xs place serial)) ∙ ap (in_state AtRest) (sym by-record)

  pub not-resting : in_state AtRest r ≡ false → is_resting (place_of xs place serial) ≡ false
  not-resting t = state-at ∙ t

  pub sits : (recorded node : ℕ) → state_in r ≡ Some (Sitting recorded node) → Sits xs place serial r recorded node
  sits recorded node t = sits-by xs place serial r recorded node (place_of xs place serial) refl by-record t

  pub not-sitting : ((recorded node : ℕ) → state_in r ≡ Some (Sitting recorded node) → ⊥) → is_sitting (place_of xs place serial) ≡ false
  not-sitting none = go (place_of xs place serial) by-record
    where
      go : (x : Place) → r ≡ record_of x → is_sitting x ≡ false
      go free e = refl
      go (live n h resting) e = refl
      go (live n h (stowed b)) e = refl
      go (live n h (sitting q g)) e = absurd (none q g.node (ap state_in e))

-- ---- one place of the table changes

pub length-places : (p : Pool) (ls : List (Option Record)) (xs : List Place) → Kept p ls xs → length xs ≡ length ls
length-places p ls xs k = sym (ap length k.rows ∙ length-map xs record_of)

-- the line at rest with its root as its record has it
pub apart-resting : (p : Pool) (ls : List (Option Record)) (xs : List Place) (k : Kept p ls xs) (place serial : ℕ) (r : Option Record) (at : Rests xs place serial r)
    → Holds p (held (root_in r) at.stages.tree ∷ none ∷ others place xs)
apart-resting p ls xs k place serial r at =
    subst (λ (n : ℕ). Holds p (held n at.stages.tree ∷ none ∷ others place xs)) (sym at.root_is)
    (subst (λ (z : Place). Holds p (stages_at z ∷ sheet_at z ∷ others place xs)) at.here (owners-apart p xs place at.within k.holds))

-- the line and the working sheet of a sitting with their nodes as the record has them
pub apart-sitting : (p : Pool) (ls : List (Option Record)) (xs : List Place) (k : Kept p ls xs) (place serial : ℕ) (r : Option Record) (recorded node : ℕ)
    (at : Sits xs place serial r recorded node) → Holds p (held (root_in r) at.stages.tree ∷ held node at.sheet.tree ∷ others place xs)
apart-sitting p ls xs k place serial r recorded node at =
    subst (λ (n : ℕ). Holds p (held (root_in r) at.stages.tree ∷ held n at.sheet.tree ∷ others place xs)) (sym at.sheet-is)
    (subst (λ (n : ℕ). Holds p (held n at.stages.tree ∷ at.sheet ∷ others place xs)) (sym at.root_is)
    (subst (λ (z : Place). Holds p (stages_at z ∷ sheet_at z ∷ others place xs)) at.here (owners-apart p xs place at.within k.holds)))

module _ (p : Pool) (ls : List (Option Record)) (xs : List Place) (k : Kept p ls xs) (i : ℕ) (within : i < length xs) where
  -- the owners of the place come first
  pub kept-apart : (x : Place) → get_or xs i free ≡ x → Holds p (stages_at x ∷ sheet_at x ∷ others i xs)
  kept-apart x e = subst (λ (z : Place). Holds p (stages_at z ∷ sheet_at z ∷ others i xs)) e (owners-apart p xs i within k.holds)

  pub kept-changed : (p' : Pool) (ls' : List (Option Record)) (y : Place) → ls' ≡ set ls i (record_of y) → Holds p' (stages_at y ∷ sheet_at y ∷ others i xs)
      → (AllByRecursion Sturdy xs → Sturdy y) → Kept p' ls' (set xs i y)
  kept-changed p' ls' y e holds sturdy =
      record {
        rows = e ∙ ap (λ (rs : List (Option Record)). set rs i (record_of y)) k.rows ∙ sym (map-set record_of xs i y);
        holds = owners-joined p' xs i y within holds;
        sturdy = ∥∥₁_map k.sturdy (λ a. All-set Sturdy xs i y (sturdy a) a);
      }

pub shows-changed : {K : Type 0} (𝓝 : Names K) (p : Pool) (ls : List (Option Record)) (next : ℕ) (s : Shown) → Shows 𝓝 p ls next s
    → (i : ℕ) → i < length s.places → (p' : Pool) (ls' : List (Option Record)) (next' n : ℕ) (y : Place) → next' ≡ n → ls' ≡ set ls i (record_of y)
    → Holds p' (stages_at y ∷ sheet_at y ∷ others i s.places) → (AllByRecursion Sturdy s.places → Sturdy y) → (AllByRecursion (Ordered 𝓝) s.places → Ordered 𝓝 y)
    → length (memory_of p') ≡ length (memory_of p)
    → Shows 𝓝 p' ls' next' (record { places = set s.places i y; next = n; nodes = s.nodes; used = used_of p' })
shows-changed 𝓝 p ls next s shows i within p' ls' next' n y same e holds sturdy ordered size =
    record {
      kept = kept-changed p ls s.places shows.kept i within p' ls' y e holds sturdy;
      next_is = same;
      nodes_is = size ∙ shows.nodes_is;
      used_is = refl;
      ordered = All-set (Ordered 𝓝) s.places i y (ordered shows.ordered) shows.ordered;
    }
