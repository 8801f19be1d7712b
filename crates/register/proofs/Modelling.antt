-- Entries one after another keep a sheet in order, and leave on it what the last entry about each name and measured instant says.
use Rattle.std.proofs.Common.{◌≡◌, ℕ, ◌<◌, Bool, true, false, cond, ◌&&◌, eqb, List, [], ◌∷◌, length, ℤ, Some, None, filter, Option, Equal, unwrap_or, sym, refl, ap, ◌∙◌, arith}
use Rattle.std.proofs.lemmas.Slice.Eq.{bytes_eq-Decides}
use Rattle.std.proofs.lemmas.Bool.{both_ways, eqb-false, eqb-true}
use Rattle.std.proofs.lemmas.Bool.Decides.{nat_tests}
use Rattle.std.specs.List.{AllByRecursion}
use Rattle.std.specs.Str.{bytes_eq}
use Rattle.kinds.specs.Name.{IsName}
use Rattle.std.specs.Ordering.{nat_cmp}
use Rattle.kinds.specs.declared.name.Name.{Name}
use Rattle.tree.specs.Kind.{Kind}
use Rattle.tree.specs.Lookup.{last_of, or_else}
use Rattle.register.proofs.Listing.{ByKey, all-dropped, all-put, all-value, ascending-dropped, ascending-put, drop_here, drop-there, numbers, put-here, put-there}
use Rattle.register.proofs.Naming.{key-once}
use Rattle.register.proofs.Sifting.{ascending-weaker}
use Rattle.register.proofs.Timed.{names_of}
use Rattle.register.specs.Asked.{ByInstant, SortedSheet, key_of, sheet_after, sheet_from, sheet_with}
use Rattle.register.specs.Contents.{Card, Names, Sheet, card_at, changed, entered, with_card}
use Rattle.register.specs.History.{Entry, WellNamed, about, says, said_by, stands}
use Rattle.register.specs.Keyed.{value_at}
use Rattle.register.specs.declared.entries.Change.{Change}
use Rattle.register.specs.declared.entries.Change.TheVariants.{Record, Correct, Withdraw}

-- ---- a card

-- ascending instants, by the order of numbers and by the numbers
pub by-instant : (card : Card) → ByKey numbers card → ByInstant card
by-instant = ascending-weaker _ _ (λ x y e. grind (arith, nat_tests))

pub by_number : (card : Card) → ByInstant card → ByKey numbers card
by_number = ascending-weaker _ _ (λ x y l. grind (arith, nat_tests))

pub changed-sorted : (change : Change) (m : ℕ) (card : Card) → ByInstant card → ByInstant (changed change m card)
changed-sorted (Record reading) m card a = by-instant _ (ascending-put numbers m reading card (by_number card a))
changed-sorted (Correct reading) m card a = by-instant _ (ascending-put numbers m reading card (by_number card a))
changed-sorted Withdraw m card a = by-instant _ (ascending-dropped numbers m card (by_number card a))

-- what stands at the instant of an entry, and at the others
pub changed-here : (change : Change) (m : ℕ) (card : Card) → value_at nat_cmp m (changed change m card) ≡ says change
changed-here (Record reading) m card = put-here numbers m reading card
changed-here (Correct reading) m card = put-here numbers m reading card
changed-here Withdraw m card = drop_here numbers m card

pub changed-there : (change : Change) (i m : ℕ) (card : Card) → (i ≡ m → ⊥) → value_at nat_cmp i (changed change m card) ≡ value_at nat_cmp i card
changed-there change i m card other = one change
  where
    apart : nat_cmp i m ≡ Equal → ⊥
    apart e = other (grind (arith, nat_tests))

    one : (change : Change) → value_at nat_cmp i (changed change m card) ≡ value_at nat_cmp i card
    one (Record reading) = put-there numbers i m reading card apart
    one (Correct reading) = put-there numbers i m reading card apart
    one Withdraw = drop-there numbers i m card apart

-- what an entry leaves, or what was there before
abbrev said_or : Option Entry → Option ℤ → Option ℤ
said_or None was = was
said_or (Some e) was = says e.change

-- ---- a sheet

module _ {K : Type 0} (𝓚 : Kind K) (named : Name → K) (called : K → Name) where
  abbrev 𝓝 : Names K
  𝓝 = names_of 𝓚 named called

  -- the reading of a name on a sheet
  abbrev value : List ℕ → ℕ → Sheet K → Option ℤ
  value asked m sheet = value_at nat_cmp m (card_at 𝓝 (key_of 𝓝 asked) sheet)

  card-here : (k : K) (card : Card) (sheet : Sheet K) → card_at 𝓝 k (with_card 𝓝 k card sheet) ≡ card
  card-here k [] sheet = ap (λ (o : Option Card). unwrap_or o []) (drop_here 𝓚 k sheet)
  card-here k (x ∷ xs) sheet = ap (λ (o : Option Card). unwrap_or o []) (put-here 𝓚 k (x ∷ xs) sheet)

  card-there : (j k : K) (card : Card) (sheet : Sheet K) → (𝓚.order j k ≡ Equal → ⊥) → card_at 𝓝 j (with_card 𝓝 k card sheet) ≡ card_at 𝓝 j sheet
  card-there j k [] sheet other = ap (λ (o : Option Card). unwrap_or o []) (drop-there 𝓚 j k sheet other)
  card-there j k (x ∷ xs) sheet other = ap (λ (o : Option Card). unwrap_or o []) (put-there 𝓚 j k (x ∷ xs) sheet other)

  -- what holds of all cards, and of an empty one, holds of the card of a key
  pub all-card : (P : Card → Type 0) → P [] → (k : K) (sheet : Sheet K) → AllByRecursion (λ (x : K × Card). P x.1) sheet → P (card_at 𝓝 k sheet)
  all-card P none k sheet h = one (value_at 𝓚.order k sheet) refl
    where
      one : (o : Option Card) → value_at 𝓚.order k sheet ≡ o → P (unwrap_or o [])
      one None e = none
      one (Some card) e = all-value 𝓚 (λ (x : K × Card). P x.1) k card sheet h e

  -- what holds of all pairs of a sheet still holds with another card
  pub all-with-card : (P : K × Card → Type 0) (k : K) (card : Card) (sheet : Sheet K) → (0 < length card → P (k, card)) → AllByRecursion P sheet
      → AllByRecursion P (with_card 𝓝 k card sheet)
  all-with-card P k [] sheet p h = all-dropped 𝓚 P k sheet h
  all-with-card P k (x ∷ xs) sheet p h = all-put 𝓚 P k (x ∷ xs) sheet (p (omega arith)) h

  ascending-with-card : (k : K) (card : Card) (sheet : Sheet K) → ByKey 𝓚 sheet → ByKey 𝓚 (with_card 𝓝 k card sheet)
  ascending-with-card k [] sheet a = ascending-dropped 𝓚 k sheet a
  ascending-with-card k (x ∷ xs) sheet a = ascending-put 𝓚 k (x ∷ xs) sheet a

  pub entered-sorted : (k : K) (m : ℕ) (change : Change) (sheet : Sheet K) → SortedSheet 𝓝 sheet → SortedSheet 𝓝 (entered 𝓝 k m change sheet)
  unfolding entered
  entered-sorted k m change sheet h =
      let card : Card = changed change m (card_at 𝓝 k sheet) in
      record {
        names = ascending-with-card k card sheet h.names;
        cards = all-with-card (λ (x : K × Card). ByInstant x.1) k card sheet (λ l. changed-sorted change m _ (all-card ByInstant tt k sheet h.cards)) h.cards;
        filled = all-with-card (λ (x : K × Card). 0 < length x.1) k card sheet (λ l. l) h.filled;
      }

  pub from_sorted : (sheet : Sheet K) (entries : List Entry) → SortedSheet 𝓝 sheet → SortedSheet 𝓝 (sheet_from 𝓝 sheet entries)
  from_sorted sheet [] h = h
  from_sorted sheet (e ∷ es) h = from_sorted (sheet_with 𝓝 sheet e) es (entered-sorted (key_of 𝓝 e.name) e.measured e.change sheet h)

  -- the sheet that entries leave has its names in the order, and on each card at least one reading, by ascending instants
  pub sheet-sorted : (entries : List Entry) → SortedSheet 𝓝 (sheet_after 𝓝 entries)
  sheet-sorted entries = from_sorted [] entries (record { names = tt; cards = tt; filled = tt })

  -- what an entry leaves where it is made, and elsewhere
  entered_here : (k : K) (m : ℕ) (change : Change) (sheet : Sheet K) → value_at nat_cmp m (card_at 𝓝 k (entered 𝓝 k m change sheet)) ≡ says change
  unfolding entered
  entered_here k m change sheet = ap (value_at nat_cmp m) (card-here k _ sheet) ∙ changed-here change m (card_at 𝓝 k sheet)

  entered-later : (k : K) (i m : ℕ) (change : Change) (sheet : Sheet K) → (i ≡ m → ⊥)
      → value_at nat_cmp i (card_at 𝓝 k (entered 𝓝 k m change sheet)) ≡ value_at nat_cmp i (card_at 𝓝 k sheet)
  unfolding entered
  entered-later k i m change sheet other = ap (value_at nat_cmp i) (card-here k _ sheet) ∙ changed-there change i m (card_at 𝓝 k sheet) other

  entered-there : (j k : K) (i m : ℕ) (change : Change) (sheet : Sheet K) → (𝓚.order j k ≡ Equal → ⊥)
      → value_at nat_cmp i (card_at 𝓝 j (entered 𝓝 k m change sheet)) ≡ value_at nat_cmp i (card_at 𝓝 j sheet)
  unfolding entered
  entered-there j k i m change sheet other = ap (value_at nat_cmp i) (card-there j k _ sheet other)

  module _ (name : K → Name) (back : (n : Name) → name (named n) ≡ n) where
    -- an entry decides what stands where it is about, and nothing else
    pub entry-decides : (sheet : Sheet K) (e : Entry) (asked : List ℕ) (m : ℕ) → IsName e.name → IsName asked
        → value asked m (sheet_with 𝓝 sheet e) ≡ cond (about asked m e) (says e.change) (value asked m sheet)
    entry-decides sheet e asked m p q = one (bytes_eq e.name asked) (eqb e.measured m) refl refl
      where
        one : (s t : Bool) → bytes_eq e.name asked ≡ s → eqb e.measured m ≡ t
            → value asked m (sheet_with 𝓝 sheet e) ≡ cond (s && t) (says e.change) (value asked m sheet)
        one true true s t =
            let same_name : e.name ≡ asked = (bytes_eq-Decides e.name asked).0 s in
            let same-instant : e.measured ≡ m = eqb-true _ _ t in
            ap (λ (n : List ℕ). value n m (sheet_with 𝓝 sheet e)) (sym same_name) ∙ ap (λ (i : ℕ). value e.name i (sheet_with 𝓝 sheet e)) (sym same-instant)
            ∙ entered_here (key_of 𝓝 e.name) e.measured e.change sheet
        one true false s t =
            let same_name : e.name ≡ asked = (bytes_eq-Decides e.name asked).0 s in
            let other : m ≡ e.measured → ⊥ = λ f. eqb-false _ _ t (sym f) in
            ap (λ (n : List ℕ). value n m (sheet_with 𝓝 sheet e)) (sym same_name)
            ∙ entered-later (key_of 𝓝 e.name) m e.measured e.change sheet other
            ∙ ap (λ (n : List ℕ). value n m sheet) same_name
        one false t s u =
            entered-there (key_of 𝓝 asked) (key_of 𝓝 e.name) m e.measured e.change sheet
            (λ f. both_ways _ s ((bytes_eq-Decides e.name asked).1 (sym (key-once 𝓚 named called name back asked e.name q p f))))

    stands_from : (sheet : Sheet K) (entries : List Entry) (asked : List ℕ) (m : ℕ) → WellNamed entries → IsName asked
        → value asked m (sheet_from 𝓝 sheet entries) ≡ said_or (last_of (filter (about asked m) entries)) (value asked m sheet)
    stands_from sheet [] asked m h q = refl
    stands_from sheet (e ∷ es) asked m h q =
        stands_from (sheet_with 𝓝 sheet e) es asked m h.1 q
        ∙ ap (said_or (last_of (filter (about asked m) es))) (entry-decides sheet e asked m h.0 q)
        ∙ one (about asked m e) (filter (about asked m) es) (value asked m sheet)
      where
        later : (o : Option Entry) (was : Option ℤ) → said_or o (says e.change) ≡ said_or (or_else o (Some e)) was
        later None was = refl
        later (Some e') was = refl

        one : (b : Bool) (ks : List Entry) (was : Option ℤ) → said_or (last_of ks) (cond b (says e.change) was) ≡ said_or (last_of (cond b (e ∷ ks) ks)) was
        one true ks was = later (last_of ks) was
        one false ks was = refl

    -- the reading on the sheet is the one that stands
    pub stands-there : (entries : List Entry) (asked : List ℕ) (m : ℕ) → WellNamed entries → IsName asked
        → value_at nat_cmp m (card_at 𝓝 (key_of 𝓝 asked) (sheet_after 𝓝 entries)) ≡ stands entries asked m
    stands-there entries asked m h q = stands_from [] entries asked m h q ∙ one (last_of (filter (about asked m) entries))
      where
        one : (o : Option Entry) → said_or o None ≡ said_by o
        one None = refl
        one (Some e) = refl
