-- The next name that a sheet gives is the one that the history asks for.
use Rattle.std.proofs.Common.{◌≡◌, ℕ, ◌<◌, Bool, true, false, List, [], ◌∷◌, length, Some, None, filter, Option, Ordering, Less, Equal, Greater, unwrap_or, sym, refl, ap, ◌∙◌, subst, arith}
use Rattle.std.proofs.ByRecursion.{all_kept_by, All-map, All-weaker, kept_by_passes}
use Rattle.std.proofs.lemmas.Slice.Eq.{bytes_eq-Decides}
use Rattle.std.proofs.lemmas.Bool.{and_parts, both_ways}
use Rattle.std.specs.Option.{option_map}
use Rattle.std.specs.Ordering.{is_lt}
use Rattle.std.specs.List.{AllByRecursion}
use Rattle.kinds.specs.Name.{IsName}
use Rattle.std.specs.Ordering.{nat_cmp}
use Rattle.kinds.specs.Packed.{name_of}
use Rattle.kinds.specs.declared.name.Name.{Name}
use Rattle.tree.specs.Kind.{Kind}
use Rattle.tree.specs.Lookup.{last_of}
use Rattle.register.proofs.Listing.{all_found, all-value, numbers, value-here}
use Rattle.register.proofs.Modelling.{all-with-card, sheet-sorted, stands-there}
use Rattle.register.proofs.Sifting.{all_both, all-kept, all-unmap, ascending-map, first-all, first-before, first-none}
use Rattle.register.proofs.Timed.{names_of}
use Rattle.register.specs.Answering.{NextNamed}
use Rattle.register.specs.Asked.{Before, comes_after, key_of, keys_of, next_name, sheet_after, sheet_from, sheet_with}
use Rattle.register.specs.Contents.{Card, Names, Sheet, card_at, entered}
use Rattle.register.specs.History.{After, Entry, OnSheet, WellNamed, about, said_by}
use Rattle.register.specs.Keyed.{value_at}

-- ---- names with readings

-- a name of which a reading stands keeps the rule
pub standing-named : (known : List Entry) (asked : List ℕ) → WellNamed known → OnSheet known asked → IsName asked
standing-named known asked h on =
    one (filter (about asked on.measured) known)
    (all-kept (about asked on.measured) (λ (e : Entry). IsName e.name) (λ e. IsName asked)
    (λ e t rule. subst IsName ((bytes_eq-Decides e.name asked).0 (and_parts _ _ t).0) rule) known h) on.there
  where
    one : (es : List Entry) → AllByRecursion (λ e. IsName asked) es → said_by (last_of es) ≡ Some on.reading → IsName asked
    one [] rules e = let z : ◌≡◌ {A = ℕ} 0 1 = cc in absurd (omega arith)
    one (e ∷ es) rules f = rules.0

module _ {K : Type 0} (𝓚 : Kind K) (named : Name → K) (called : K → Name) where
  abbrev 𝓝 : Names K
  𝓝 = names_of 𝓚 named called

  -- the key is that of a name's bytes
  pub record KeyOfName (k : K) : Type 0 where
    pub bytes : List ℕ
    pub rule : IsName bytes
    pub is : key_of 𝓝 bytes ≡ k

  entered-keys : (sheet : Sheet K) (e : Entry) → IsName e.name → AllByRecursion (λ (x : K × Card). KeyOfName x.0) sheet
      → AllByRecursion (λ (x : K × Card). KeyOfName x.0) (sheet_with 𝓝 sheet e)
  unfolding entered
  entered-keys sheet e rule h =
      all-with-card 𝓚 named called (λ (x : K × Card). KeyOfName x.0) (key_of 𝓝 e.name) _ sheet (λ l. record { bytes = e.name; rule = rule; is = refl }) h

  sheet-keys : (sheet : Sheet K) (entries : List Entry) → WellNamed entries → AllByRecursion (λ (x : K × Card). KeyOfName x.0) sheet
      → AllByRecursion (λ (x : K × Card). KeyOfName x.0) (sheet_from 𝓝 sheet entries)
  sheet-keys sheet [] rules h = h
  sheet-keys sheet (e ∷ es) rules h = sheet-keys (sheet_with 𝓝 sheet e) es rules.1 (entered-keys sheet e rules.0 h)

  -- each key of the sheet that entries leave is the key of a name
  pub keys-named : (entries : List Entry) → WellNamed entries → AllByRecursion KeyOfName (keys_of (sheet_after 𝓝 entries))
  keys-named entries rules = All-map KeyOfName (λ (x : K × Card). x.0) (sheet_after 𝓝 entries) (sheet-keys [] entries rules tt)

  module _ (name : K → Name) (back : (n : Name) → name (named n) ≡ n) (known : List Entry) (rules : WellNamed known) where
    abbrev sheet : Sheet K
    sheet = sheet_after 𝓝 known

    -- the name of a key packs the bytes
    name-back : (k : K) (spelled : KeyOfName k) → name k ≡ name_of spelled.bytes
    name-back k spelled = ap name (sym spelled.is) ∙ back (name_of spelled.bytes)

    -- a name with a reading that stands has its key on the sheet
    pub on-sheet-key : (P : K → Type 0) (asked : List ℕ) → OnSheet known asked → AllByRecursion P (keys_of sheet) → P (key_of 𝓝 asked)
    on-sheet-key P asked on h = one (value_at 𝓚.order (key_of 𝓝 asked) sheet) refl
      where
        read : value_at nat_cmp on.measured (card_at 𝓝 (key_of 𝓝 asked) sheet) ≡ Some on.reading
        read = stands-there 𝓚 named called name back known asked on.measured rules (standing-named known asked rules on) ∙ on.there

        one : (o : Option Card) → value_at 𝓚.order (key_of 𝓝 asked) sheet ≡ o → P (key_of 𝓝 asked)
        one None e = let z : ◌≡◌ {A = ℕ} 0 1 = cc (rw e at read) in absurd (omega arith)
        one (Some card) e = all-value 𝓚 (λ (x : K × Card). P x.0) (key_of 𝓝 asked) card sheet (all-unmap P (λ (x : K × Card). x.0) sheet h) e

    -- and a key on the sheet is that of such a name
    pub key-on-sheet : AllByRecursion (λ k. (spelled : KeyOfName k) → OnSheet known spelled.bytes) (keys_of sheet)
    key-on-sheet =
        let sorted = sheet-sorted 𝓚 named called known in
        All-map _ (λ (x : K × Card). x.0) sheet
        (All-weaker _ _ (λ x h. one x.0 x.1 h.0 h.1) sheet (all_both _ _ sheet (all_found 𝓚 sheet sorted.names) sorted.filled))
      where
        one : (k : K) (card : Card) → value_at 𝓚.order k sheet ≡ Some card → 0 < length card → (spelled : KeyOfName k) → OnSheet known spelled.bytes
        one k [] e l spelled = absurd (omega arith)
        one k (x ∷ xs) e l spelled =
            record {
              measured = x.0;
              reading = x.1;
              there =
                  sym (stands-there 𝓚 named called name back known spelled.bytes x.0 rules spelled.rule)
                  ∙ ap (λ (j : K). value_at nat_cmp x.0 (card_at 𝓝 j sheet)) spelled.is
                  ∙ ap (λ (o : Option Card). value_at nat_cmp x.0 (unwrap_or o [])) e ∙ value-here numbers x.0 x.1 xs;
            }

    -- whether a key comes after the given name
    abbrev passes : Option (List ℕ) → K → Bool
    passes given = comes_after 𝓝 (option_map (key_of 𝓝) given)

    after-tells : (given : Option (List ℕ)) (asked : List ℕ) → After (Before 𝓝) given asked → passes given (key_of 𝓝 asked) ≡ true
    after-tells None asked l = refl
    after-tells (Some g) asked l = rw l

    after-told : (given : Option (List ℕ)) (asked : List ℕ) → passes given (key_of 𝓝 asked) ≡ true → After (Before 𝓝) given asked
    after-told None asked l = tt
    after-told (Some g) asked l = one (𝓚.order (key_of 𝓝 g) (key_of 𝓝 asked)) l
      where
        one : (o : Ordering) → is_lt o ≡ true → o ≡ Less
        one Less e = refl
        one Equal e = absurd (both_ways _ refl e)
        one Greater e = absurd (both_ways _ refl e)

    -- the name of the next key on the sheet is the next name
    pub next-name : (given : Option (List ℕ)) → NextNamed 𝓝 known given (option_map name (next_name 𝓝 (option_map (key_of 𝓝) given) sheet))
    next-name given = one (next_name 𝓝 (option_map (key_of 𝓝) given) sheet) refl
      where
        one : (o : Option K) → next_name 𝓝 (option_map (key_of 𝓝) given) sheet ≡ o → NextNamed 𝓝 known given (option_map name o)
        one None e =
            record {
              next = None;
              is-next = λ asked on after.
                  both_ways _ (on-sheet-key (λ k. passes given k ≡ false) asked on (first-none (passes given) (keys_of sheet) e)) (after-tells given asked after);
              packed = refl;
            }
        one (Some k) e =
            let test : K → Bool = passes given in
            let kept : List K = filter test (keys_of sheet) in
            let spelled : KeyOfName k = first-all KeyOfName kept k e (all_kept_by test KeyOfName (keys_of sheet) (keys-named known rules)) in
            let on : OnSheet known spelled.bytes = first-all _ kept k e (all_kept_by test _ (keys_of sheet) key-on-sheet) spelled in
            let after : passes given k ≡ true = first-all _ kept k e (kept_by_passes test (keys_of sheet)) in
            let ascending = ascending-map (λ (x : K × Card). x.0) (λ (a b : K). 𝓚.order a b ≡ Less) sheet (sheet-sorted 𝓚 named called known).names in
            let first = first-before 𝓚 test (keys_of sheet) k ascending e in
            record {
              next = Some spelled.bytes;
              is-next = (
                on,
                after-told given spelled.bytes (subst (λ (j : K). passes given j ≡ true) (sym spelled.is) after),
                λ asked other later l. on-sheet-key (λ j. passes given j ≡ true → 𝓚.order j k ≡ Less → ⊥) asked other first (after-tells given asked later)
                    (subst (λ (j : K). 𝓚.order (key_of 𝓝 asked) j ≡ Less) spelled.is l),
              );
              packed = ap Some (name-back k spelled);
            }
