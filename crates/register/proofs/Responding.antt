-- The answers to questions about one name, and why they are declined.
use Rattle.std.proofs.Common.{◌≡◌, ℕ, ◌<◌, ◌≤◌, Bool, true, false, cond, not, ◌||◌, ltb, List, [], ◌∷◌, Some, None, Ok, Err, Option, sym, refl, ap, ◌∙◌, subst, arith, le-ltb, lt-ltb}
use Rattle.std.proofs.ByRecursion.{All-get_or}
use Rattle.std.specs.Option.{option_map}
use Rattle.std.specs.List.{AllByRecursion}
use Rattle.kinds.specs.Instant.{instant_of}
use Rattle.kinds.specs.Packed.{name_of}
use Rattle.kinds.specs.declared.instant.Instant.{Instant}
use Rattle.kinds.specs.declared.name.Name.{Name}
use Rattle.kinds.specs.declared.reading.Reading.{Reading}
use Rattle.pool.specs.Held.{Carries}
use Rattle.pool.specs.Tree.{Tree}
use Rattle.pool.specs.declared.pool.Pool.{Pool}
use Rattle.tree.specs.Answer.{GivenItem}
use Rattle.tree.specs.Kind.{Kind}
use Rattle.tree.specs.Lookup.{last_at_most}
use Rattle.tree.specs.Range.{Totals, within}
use Rattle.tree.specs.Shape.{Ascending, items}
use Rattle.tree.specs.declared.range.Total.{Total}
use Rattle.register.proofs.Changing.{at-live, within_of}
use Rattle.register.proofs.Growing.{nested-at-most}
use Rattle.register.proofs.Holding.{card-at}
use Rattle.register.proofs.Looked.{count-found, plain, reading-found, reading_value, sheet-as-of-tree, sum-found}
use Rattle.register.proofs.Sheeting.{carries-unique}
use Rattle.register.proofs.Telling.{accepted}
use Rattle.register.proofs.Timed.{names_of}
use Rattle.register.specs.Asked.{count_within, key_of, last_up_to, sheet_as_of, sum_within}
use Rattle.register.specs.Calls.{Call, Handle, as_of, asks, found, refused, total, totalled}
use Rattle.register.specs.Contents.{Names, card_at, card_of, card_tree, earlier, instant_at, sheet_of, sheet_tree_as_of, stages_of}
use Rattle.register.specs.Declined.{declined, too_high}
use Rattle.register.specs.Found.{CardReady, CardTold, sheet_up_to}
use Rattle.register.specs.Places.{Place, free, is_resting, live, stages_at}
use Rattle.register.specs.Refusals.{first_of}
use Rattle.register.specs.Rules.{is_name}
use Rattle.register.specs.Shapes.{ByName, ByTime, Filed, LineWith, Ordered, SheetWith}
use Rattle.register.specs.Shown.{Shown, Shows, at}
use Rattle.register.specs.Steps.{Accepted, Step, Unless}
use Rattle.register.specs.declared.refusal.Refusal.{Refusal}
use Rattle.register.specs.declared.refusal.Refusal.TheVariants.{EndsCrossed, NameBroken, NoSuchLine, TreeTooHigh}
use Rattle.register.specs.declared.table.Record.{Record}
use Rattle.pool.specs.Sound.{memory_of}

-- a declined question
pub refuses-same : {K : Type 0} (𝓝 : Names K) (s : Shown) (call : Call) (why : Refusal) → declined 𝓝 s call ≡ Some why → Step 𝓝 s call (refused why) s
refuses-same 𝓝 s call why e = subst (λ (o : Option Refusal). Unless o (refused why) s s (Accepted 𝓝 s call (refused why) s)) (sym e) (refl, refl)

-- three conditions and a further one: where none of the three holds, the further one decides, and else the first of the three
last_row : (a b c d : Bool) → first_of ((a, NoSuchLine) ∷ (b, NameBroken) ∷ (c, TreeTooHigh) ∷ []) ≡ None
    → first_of ((a, NoSuchLine) ∷ (b, NameBroken) ∷ (c, TreeTooHigh) ∷ (d, EndsCrossed) ∷ []) ≡ cond d (Some EndsCrossed) None
last_row false false false d e = refl
last_row true b c d e = absurd (let z : ◌≡◌ {A = ℕ} 0 1 = cc in omega arith)
last_row false true c d e = absurd (let z : ◌≡◌ {A = ℕ} 0 1 = cc in omega arith)
last_row false false true d e = absurd (let z : ◌≡◌ {A = ℕ} 0 1 = cc in omega arith)

earlier-row : (a b c d : Bool) (why : Refusal) → first_of ((a, NoSuchLine) ∷ (b, NameBroken) ∷ (c, TreeTooHigh) ∷ []) ≡ Some why
    → first_of ((a, NoSuchLine) ∷ (b, NameBroken) ∷ (c, TreeTooHigh) ∷ (d, EndsCrossed) ∷ []) ≡ Some why
earlier-row true b c d why e = e
earlier-row false true c d why e = e
earlier-row false false true d why e = e
earlier-row false false false d why e = absurd (let z : ◌≡◌ {A = ℕ} 0 1 = cc in omega arith)

-- the line of a handle is in order, whatever it is doing
pub line-ordered : {K : Type 0} (𝓝 : Names K) (s : Shown) → AllByRecursion (Ordered 𝓝) s.places → (handle : Handle)
    → LineWith ByTime (ByName 𝓝) ByTime (stages_at (at s handle)).tree
line-ordered 𝓝 s all handle = go (at s handle) refl
  where
    go : (x : Place) → at s handle ≡ x → LineWith ByTime (ByName 𝓝) ByTime (stages_at x).tree
    go free e = record { line = tt; sheets = tt }
    go (live n h d) e =
        let here = at-live s.places handle.place handle.serial n h d e in
        let inside = within_of s.places handle.place handle.serial h d here in
        (subst (Ordered 𝓝) here (All-get_or (Ordered 𝓝) s.places handle.place free inside all)).trees.0

pub sheet-ordered : {K : Type 0} (𝓝 : Names K) (recorded : Instant) (t : Tree) → LineWith ByTime (ByName 𝓝) ByTime t → SheetWith (ByName 𝓝) ByTime (sheet_up_to recorded t)
sheet-ordered 𝓝 recorded t l = nested-at-most (SheetWith (ByName 𝓝) ByTime) instant_at earlier (record { sheet = tt; cards = tt }) recorded t l.sheets

-- what a question is asked of: the sheet as of a recorded instant, as a list
pub sheet-shown : {K : Type 0} (𝓝 : Names K) (recorded : ℕ) (small : recorded < 4294967296) (t : Tree) → ByTime t
    → sheet_as_of recorded (stages_of 𝓝 t) ≡ sheet_of 𝓝 (sheet_tree_as_of recorded t)
sheet-shown 𝓝 recorded small t a =
    let same : (instant_of recorded).seconds ≡ recorded = omega arith in
    ap (λ (n : ℕ). sheet_as_of n (stages_of 𝓝 t)) (sym same) ∙ sheet-as-of-tree 𝓝 (instant_of recorded) t a

module _ {K : Type 0} (𝓚 : Kind K) (named : Name → K) (called : K → Name) (p : Pool) (ls : List (Option Record)) (next : ℕ) (s : Shown) (shows : Shows (names_of 𝓚 named called) p ls next s)
    (handle : Handle) (recorded : ℕ) (small : recorded < 4294967296) (bytes : List ℕ) where
  abbrev 𝓝 : Names K
  𝓝 = names_of 𝓚 named called

  abbrev line : Tree
  line = (stages_at (at s handle)).tree

  abbrev card : Tree
  card = card_tree 𝓝 (named (name_of bytes)) (sheet_tree_as_of recorded line)

  -- the conditions of a question about one name
  abbrev unrested : Bool
  unrested = not (is_resting (at s handle))

  abbrev broken : Bool
  broken = not (is_name bytes)

  abbrev high : Bool
  high = too_high line || (too_high (sheet_tree_as_of recorded line) || too_high card)

  ordered-line : LineWith ByTime (ByName 𝓝) ByTime line
  ordered-line = line-ordered 𝓝 s shows.ordered handle

  -- the card as a list is what the stages say
  card-shown : card_of card ≡ card_at 𝓝 (key_of 𝓝 bytes) (sheet_as_of recorded (stages_of 𝓝 line))
  card-shown =
      card-at 𝓚 named called (named (name_of bytes)) (sheet_tree_as_of recorded line) (sheet-ordered 𝓝 (instant_of recorded) line ordered-line)
      ∙ ap (card_at 𝓝 (key_of 𝓝 bytes)) (sym (sheet-shown 𝓝 recorded small line ordered-line.line))

  module _ (n : ℕ) (told : CardTold 𝓝 (memory_of p) s handle recorded bytes (Ok n)) (ready : CardReady (memory_of p) (Ok n)) where
    card-filed : Filed card
    card-filed = subst Filed (carries-unique p n ready.0 card ready.1 told.1) ready.2

    pub as-of-answered : (measured : Instant) (m : ℕ) → measured.seconds ≡ m → (r : Option (Instant × Reading))
        → ((t : Tree) → Carries p n t → Ascending earlier (items instant_at t) → GivenItem (memory_of p) reading_value (last_at_most earlier measured (items instant_at t)) r)
        → Step 𝓝 s (asks handle recorded (as_of bytes m)) (found (option_map plain r)) s
    as-of-answered measured m is r listed =
        let given = listed card told.1 card-filed.by_time in
        let value : option_map plain r ≡ last_up_to m (card_at 𝓝 (key_of 𝓝 bytes) (sheet_as_of recorded (stages_of 𝓝 line))) =
        reading-found (memory_of p) measured card r card-filed.modest given ∙ (λ i. last_up_to (is i) (card-shown i)) in
        accepted 𝓝 s s (asks handle recorded (as_of bytes m)) _ told.0 (ap found value, refl)

    pub crossed : (from to : ℕ) → to < from → Step 𝓝 s (asks handle recorded (total bytes from to)) (refused EndsCrossed) s
    crossed from to over =
        refuses-same 𝓝 s (asks handle recorded (total bytes from to)) EndsCrossed (last_row unrested broken high (ltb to from) told.0 ∙ ap (λ (b : Bool). cond b (Some EndsCrossed) None) (lt-ltb to from over))

    pub total-answered : (first final : Instant) (from to : ℕ) → first.seconds ≡ from → final.seconds ≡ to → from ≤ to → (r : Total)
        → ((t : Tree) → Carries p n t → Ascending earlier (items instant_at t) → Totals (within earlier first final (items instant_at t)) r)
        → Step 𝓝 s (asks handle recorded (total bytes from to)) (totalled r.count r.sum) s
    total-answered first final from to first-is final-is in_order r listed =
        let totals = listed card told.1 card-filed.by_time in
        let go = last_row unrested broken high (ltb to from) told.0 ∙ ap (λ (b : Bool). cond b (Some EndsCrossed) None) (le-ltb to from in_order) in
        accepted 𝓝 s s (asks handle recorded (total bytes from to)) _ go (
          (λ i. totalled
              ((count-found first final card r totals ∙ (λ j. count_within (first-is j) (final-is j) (card-shown j))) i)
              ((sum-found first final card r totals ∙ (λ j. sum_within (first-is j) (final-is j) (card-shown j))) i)),
          refl,
        )

  pub as-of-declined : (why : Refusal) (m : ℕ) → CardTold 𝓝 (memory_of p) s handle recorded bytes (Err why) → Step 𝓝 s (asks handle recorded (as_of bytes m)) (refused why) s
  as-of-declined why m told = refuses-same 𝓝 s (asks handle recorded (as_of bytes m)) why told

  pub total-declined : (why : Refusal) (from to : ℕ) → CardTold 𝓝 (memory_of p) s handle recorded bytes (Err why) → Step 𝓝 s (asks handle recorded (total bytes from to)) (refused why) s
  total-declined why from to told = refuses-same 𝓝 s (asks handle recorded (total bytes from to)) why (earlier-row unrested broken high (ltb to from) why told)
