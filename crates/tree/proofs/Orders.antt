-- What the laws of a kind give for comparisons, and what ascending says of a list around one item.
use Rattle.std.proofs.Common.{◌≡◌, List, [], ◌∷◌, ◌++◌, Less, Equal, Greater, sym, refl, ap, ◌∙◌, subst}
use Rattle.std.specs.List.{AllByRecursion}
use Rattle.tree.specs.Kind.{Kind}
use Rattle.tree.specs.Shape.{Item, Ascending}

pub all-mapped : {A : Type 0} (P Q : A → Type 0) (xs : List A) → ((x : A) → P x → Q x) → AllByRecursion P xs → AllByRecursion Q xs
all-mapped P Q [] f h = tt
all-mapped P Q (x ∷ xs) f h = (f x h.0, all-mapped P Q xs f h.1)

module _ {K : Type 0} (𝓚 : Kind K) where
  -- equal keys are the same key
  pub same_key : (a b : K) → 𝓚.order a b ≡ Equal → a ≡ b
  same_key a b e = sym (𝓚.back a) ∙ ap 𝓚.key (𝓚.same a b e) ∙ 𝓚.back b

  pub self : (a : K) → 𝓚.order a a ≡ Equal
  self a = 𝓚.equal a a refl

  abbrev pub Before : K → Item K → Type 0
  Before k x = 𝓚.order k x.key ≡ Less

  abbrev pub Behind : K → Item K → Type 0
  Behind k x = 𝓚.order x.key k ≡ Less

  -- the parts of an ascending list around an item
  pub record Around (xs : List (Item K)) (x : Item K) (ys : List (Item K)) : Type 0 where
    pub front : Ascending 𝓚.order xs
    pub back : Ascending 𝓚.order ys
    pub below : AllByRecursion (Behind x.key) xs
    pub above : AllByRecursion (Before x.key) ys

  all-front : (P : Item K → Type 0) (xs ys : List (Item K)) → AllByRecursion P (xs ++ ys) → AllByRecursion P xs
  all-front P [] ys h = tt
  all-front P (x ∷ xs) ys h = (h.0, all-front P xs ys h.1)

  all_back : (P : Item K → Type 0) (xs ys : List (Item K)) → AllByRecursion P (xs ++ ys) → AllByRecursion P ys
  all_back P [] ys h = h
  all_back P (x ∷ xs) ys h = all_back P xs ys h.1

  pub around : (xs : List (Item K)) (x : Item K) (ys : List (Item K)) → Ascending 𝓚.order (xs ++ x ∷ ys) → Around xs x ys
  around [] x ys h = record { front = tt; back = h.1; below = tt; above = h.0 }
  around (w ∷ xs) x ys h =
      let rest = around xs x ys h.1 in
      let all = h.0 in
      record {
        front = (all-front (λ y. 𝓚.order w.key y.key ≡ Less) xs (x ∷ ys) all, rest.front);
        back = rest.back;
        below = ((all_back (λ y. 𝓚.order w.key y.key ≡ Less) xs (x ∷ ys) all).0, rest.below);
        above = rest.above;
      }

  -- a key before an item is before all items behind it, and the other way round
  pub before-all : (k : K) (x : Item K) (ys : List (Item K)) → 𝓚.order k x.key ≡ Less → AllByRecursion (Before x.key) ys → AllByRecursion (Before k) ys
  before-all k x ys h = all-mapped (Before x.key) (Before k) ys (λ y e. 𝓚.chained k x.key y.key h e)

  pub behind-all : (k : K) (x : Item K) (xs : List (Item K)) → 𝓚.order k x.key ≡ Greater → AllByRecursion (Behind x.key) xs → AllByRecursion (Behind k) xs
  behind-all k x xs h = all-mapped (Behind x.key) (Behind k) xs (λ y e. 𝓚.chained y.key x.key k e (𝓚.before k x.key h))

  pub equal-before : (k : K) (x : Item K) (ys : List (Item K)) → 𝓚.order k x.key ≡ Equal → AllByRecursion (Before x.key) ys → AllByRecursion (Before k) ys
  equal-before k x ys h = subst (λ (a : K). AllByRecursion (Before a) ys) (sym (same_key k x.key h))

  pub equal-behind : (k : K) (x : Item K) (xs : List (Item K)) → 𝓚.order k x.key ≡ Equal → AllByRecursion (Behind x.key) xs → AllByRecursion (Behind k) xs
  equal-behind k x xs h = subst (λ (a : K). AllByRecursion (Behind a) xs) (sym (same_key k x.key h))
