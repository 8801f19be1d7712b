-- What a question finds on its way: the sheet as of an instant, and a name's card on it.
use Rattle.std.proofs.Common.{◌≡◌, ℕ, ◌<◌, ◌≤◌, Bool, true, false, cond, ◌||◌, List, Some, None, Ok, Err, Result, sym, refl, ap, ◌∙◌, subst, arith, le-ltb, lt-ltb, Option}
use Rattle.kinds.specs.Instants.{instant_of-seconds}
use Rattle.kinds.specs.Instant.{instant_of}
use Rattle.kinds.specs.Name.{IsName}
use Rattle.kinds.specs.Packed.{name_of}
use Rattle.kinds.specs.declared.instant.Instant.{Instant}
use Rattle.pool.proofs.Pools.{held-carries}
use Rattle.pool.specs.Held.{Carries, CarriesIn}
use Rattle.pool.specs.Tree.{Tree, leaf}
use Rattle.pool.specs.declared.pool.Pool.{Pool}
use Rattle.tree.specs.Shape.{Balanced, height}
use Rattle.register.proofs.Changing.{apart-resting, not-resting, place-of, rests}
use Rattle.register.proofs.Filing.{filed-leaf}
use Rattle.register.proofs.Growing.{nested-at-most, nested-find}
use Rattle.register.proofs.Ruled.{name-fails, name-passes}
use Rattle.register.proofs.Standing.{by-sturdy, line-prop}
use Rattle.register.specs.Calls.{Handle}
use Rattle.register.specs.Contents.{Names, card_tree, earlier, instant_at}
use Rattle.register.specs.Declined.{too_high}
use Rattle.register.specs.Found.{CardFound, CardReady, CardTold, LineReady, RestTold, SheetFound, card_refusal, card_too_high, sheet_up_to}
use Rattle.register.specs.Kept.{Kept}
use Rattle.register.specs.Places.{Place, is_resting, live, resting, stages_at}
use Rattle.register.specs.Shapes.{Filed, LineWith, SheetWith}
use Rattle.register.specs.Shown.{Shown, Shows, at}
use Rattle.register.specs.Tables.{in_state, line_of, root_in}
use Rattle.register.specs.declared.refusal.Refusal.{Refusal}
use Rattle.register.specs.declared.refusal.Refusal.TheVariants.{NameBroken, NoSuchLine, TreeTooHigh}
use Rattle.register.specs.declared.table.Record.{Record}
use Rattle.register.specs.declared.table.State.TheVariants.{AtRest}
use Rattle.pool.specs.Sound.{memory_of}
use Rattle.pool.specs.declared.node.Node.{Node}

sheet-leaf : SheetWith Balanced Filed leaf
sheet-leaf = record { sheet = tt; cards = tt }

-- ---- the sheet

module _ (mem : List Node) (t : Tree) (recorded : Instant) where
  pub sheet-high : height t ≤ 24 → 24 < height (sheet_up_to recorded t) → SheetFound mem t recorded (Err TreeTooHigh)
  sheet-high low high = (rw (le-ltb 24 (height t) low, lt-ltb 24 (height (sheet_up_to recorded t)) high), refl)

  pub sheet-found : (n : ℕ) → CarriesIn mem n (sheet_up_to recorded t) → height t ≤ 24 → height (sheet_up_to recorded t) ≤ 24 → SheetFound mem t recorded (Ok n)
  sheet-found n carries low low-sheet = (rw (le-ltb 24 (height t) low, le-ltb 24 (height (sheet_up_to recorded t)) low-sheet), carries)

pub sheet-of-line : (recorded : Instant) (t : Tree) → LineWith Balanced Balanced Filed t → SheetWith Balanced Filed (sheet_up_to recorded t)
sheet-of-line recorded t l = nested-at-most (SheetWith Balanced Filed) instant_at earlier sheet-leaf recorded t l.sheets

-- ---- the card

either-false : (a b : Bool) → (a || b) ≡ false → (a ≡ false) × (b ≡ false)
either-false false b e = (refl, e)
either-false true b e = absurd (let z : ◌≡◌ {A = ℕ} 0 1 = cc in omega arith)

or_assoc : (a b c : Bool) → (a || (b || c)) ≡ ((a || b) || c)
or_assoc true b c = refl
or_assoc false b c = refl

module _ {K : Type 0} (𝓝 : Names K) (mem : List Node) (t : Tree) (recorded : Instant) (name : K) where
  abbrev pub card : Tree
  card = card_tree 𝓝 name (sheet_up_to recorded t)

  pub card-of-line : LineWith Balanced Balanced Filed t → Filed card
  card-of-line l = nested-find Filed 𝓝.key 𝓝.order filed-leaf name (sheet_up_to recorded t) (sheet-of-line recorded t l).cards

  pub card-unfound : (why : Refusal) → SheetFound mem t recorded (Err why) → CardFound 𝓝 mem t recorded name (Err why)
  card-unfound why (e, w) = (or_assoc (too_high t) (too_high (sheet_up_to recorded t)) (too_high card) ∙ ap (λ (b : Bool). b || too_high card) e, w)

  pub card-high : (sheet : ℕ) → SheetFound mem t recorded (Ok sheet) → 24 < height card → CardFound 𝓝 mem t recorded name (Err TreeTooHigh)
  card-high sheet (e, c) high =
      let f = either-false (too_high t) (too_high (sheet_up_to recorded t)) e in
      let a = f.0 in
      let b = f.1 in
      (rw (a, b, lt-ltb 24 (height card) high), refl)

  pub card-found : (sheet n : ℕ) → SheetFound mem t recorded (Ok sheet) → height card ≤ 24 → CarriesIn mem n card → CardFound 𝓝 mem t recorded name (Ok n)
  card-found sheet n (e, c) low carries =
      let f = either-false (too_high t) (too_high (sheet_up_to recorded t)) e in
      let a = f.0 in
      let b = f.1 in
      (rw (a, b, le-ltb 24 (height card) low), carries)

-- ---- for a line at rest

pub instant-is : (i : Instant) (n : ℕ) → i.seconds ≡ n → instant_of n ≡ i
instant-is i n e = ap instant_of (sym e) ∙ instant_of-seconds i

module _ (p : Pool) (ls : List (Option Record)) (place serial : ℕ) (r : Option Record) (is : r ≡ line_of ls place serial) where
  abbrev handle : Handle
  handle = record { place = place; serial = serial }

  pub not-rested : {K : Type 0} (𝓝 : Names K) (next : ℕ) → in_state AtRest r ≡ false → (s : Shown) → Shows 𝓝 p ls next s → RestTold (memory_of p) s handle (Err NoSuchLine)
  not-rested 𝓝 next not_at s shows = (not-resting p ls s.places shows.kept place serial r is not_at, refl)

  module _ (rest : in_state AtRest r ≡ true) where
    pub rested : {K : Type 0} (𝓝 : Names K) (next : ℕ) (s : Shown) → Shows 𝓝 p ls next s → RestTold (memory_of p) s handle (Ok (root_in r))
    rested 𝓝 next s shows =
        let at = rests p ls s.places shows.kept place serial r is rest in
        let here = place-of s.places place serial at.stages resting at.here in (
          ap is_resting here,
          subst (λ (x : Place). Carries p (root_in r) (stages_at x).tree) (sym here) (held-carries p _ _ _ (apart-resting p ls s.places shows.kept place serial r at)),
        )

    pub line-ready : (xs : List Place) (k : Kept p ls xs) → LineReady (memory_of p) (Ok (root_in r))
    line-ready xs k =
        let at = rests p ls xs k place serial r is rest in (
          at.stages.tree,
          held-carries p _ _ _ (apart-resting p ls xs k place serial r at),
          by-sturdy (line-prop at.stages.tree) p ls xs k place at.within (live serial at.stages resting) at.here (λ s. s.0),
        )

module _ {K : Type 0} (𝓝 : Names K) (mem : List Node) (s : Shown) (handle : Handle) (recorded : ℕ) (bytes : List ℕ) where
  abbrev line : Tree
  line = (stages_at (at s handle)).tree

  pub no_line : (why : Refusal) → RestTold mem s handle (Err why) → CardTold 𝓝 mem s handle recorded bytes (Err why)
  no_line why (absent, is) = rw absent (ap Some (sym is))

  module _ (root : ℕ) (rest : RestTold mem s handle (Ok root)) where
    pub no_name : (IsName bytes → ⊥) → CardTold 𝓝 mem s handle recorded bytes (Err NameBroken)
    no_name broken = let here = rest.0 in rw (here, name-fails bytes broken)

    module _ (lawful : IsName bytes) (at : Instant) (at-is : at.seconds ≡ recorded) (name : K) (name-is : name ≡ 𝓝.named (name_of bytes)) where
      refusal_is : card_refusal 𝓝 s handle recorded bytes ≡ cond (card_too_high 𝓝 line at name) (Some TreeTooHigh) None
      refusal_is = let here = rest.0 in rw (here, name-passes bytes lawful, instant-is at recorded at-is, ← name-is)

      by_answer : (q : Result ℕ Refusal) → CardFound 𝓝 mem line at name q → CardTold 𝓝 mem s handle recorded bytes q
      by_answer (Ok n) (low, carries) = (
        refusal_is ∙ ap (λ (b : Bool). cond b (Some TreeTooHigh) None) low,
        subst (CarriesIn mem n) (λ i. card_tree 𝓝 (name-is i) (sheet_up_to (sym (instant-is at recorded at-is) i) line)) carries,
      )
      by_answer (Err why) (high, w) = refusal_is ∙ ap (λ (b : Bool). cond b (Some TreeTooHigh) None) high ∙ ap Some (sym w)

      pub told : (o : Result ℕ Refusal) → ((t : Tree) → CarriesIn mem root t → CardFound 𝓝 mem t at name o) → CardTold 𝓝 mem s handle recorded bytes o
      told o found = by_answer o (found line rest.1)

pub card-ready : {K : Type 0} (𝓝 : Names K) (mem : List Node) (root : ℕ) (at : Instant) (name : K) (o : Result ℕ Refusal) → ((t : Tree) → CarriesIn mem root t → CardFound 𝓝 mem t at name o)
    → LineReady mem (Ok root) → CardReady mem o
card-ready 𝓝 mem root at name (Ok n) found (t, carries, l) = (_, (found t carries).1, card-of-line 𝓝 mem t at name l)
card-ready 𝓝 mem root at name (Err why) found ready = tt
