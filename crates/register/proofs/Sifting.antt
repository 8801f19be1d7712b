-- Lists that ascend, what a filter keeps of a list, and the first and the last that it keeps.
use Rattle.std.proofs.Common.{◌≡◌, ℕ, Bool, true, false, cond, List, [], ◌∷◌, map, Some, None, filter, Ordering, Less, Greater, sym, refl, ap, ◌∙◌, subst, arith}
use Rattle.std.proofs.ByRecursion.{all_kept_by, All-map, All-weaker, has_append_left, has_append_right, has_push}
use Rattle.std.proofs.lemmas.Bool.{both_ways, cond_both}
use Rattle.std.specs.List.{ContainsAt as Has, AllByRecursion}
use Rattle.tree.proofs.Orders.{self}
use Rattle.tree.specs.Kind.{Kind}
use Rattle.tree.specs.Lookup.{by_order, first_of, last_of, or_else}
use Rattle.register.specs.Ascending.{Ascending}

pub all-unmap : {A B : Type 0} (P : B → Type 0) (f : A → B) (xs : List A) → AllByRecursion P (map f xs) → AllByRecursion (λ x. P (f x)) xs
all-unmap P f [] h = tt
all-unmap P f (x ∷ xs) h = (h.0, all-unmap P f xs h.1)

pub all_both : {A : Type 0} (P Q : A → Type 0) (xs : List A) → AllByRecursion P xs → AllByRecursion Q xs → AllByRecursion (λ x. P x × Q x) xs
all_both P Q [] p q = tt
all_both P Q (x ∷ xs) p q = ((p.0, q.0), all_both P Q xs p.1 q.1)

-- ---- ascending

pub ascending-weaker : {A : Type 0} (P Q : A → A → Type 0) → ((x y : A) → P x y → Q x y) → (xs : List A) → Ascending P xs → Ascending Q xs
ascending-weaker P Q f [] a = tt
ascending-weaker P Q f (x ∷ xs) a = (All-weaker (P x) (Q x) (f x) xs a.0, ascending-weaker P Q f xs a.1)

pub ascending-map : {A B : Type 0} (f : A → B) (before : B → B → Type 0) (xs : List A) → Ascending (λ x y. before (f x) (f y)) xs → Ascending before (map f xs)
ascending-map f before [] a = tt
ascending-map f before (x ∷ xs) a = (All-map (before (f x)) f xs a.0, ascending-map f before xs a.1)

pub ascending-kept : {A : Type 0} (before : A → A → Type 0) (test : A → Bool) (xs : List A) → Ascending before xs → Ascending before (filter test xs)
ascending-kept before test [] a = tt
ascending-kept before test (x ∷ xs) a =
    cond_both (test x) _ _ (Ascending before)
    (λ e. (all_kept_by test (before x) xs a.0, ascending-kept before test xs a.1))
    (λ e. ascending-kept before test xs a.1)

-- ---- what a filter keeps

pub last-kept : {A : Type 0} (test : A → Bool) (x : A) (xs : List A)
    → last_of (filter test (x ∷ xs)) ≡ cond (test x) (or_else (last_of (filter test xs)) (Some x)) (last_of (filter test xs))
last-kept {A} test x xs = one (test x) (filter test xs)
  where
    one : (b : Bool) (ks : List A) → last_of (cond b (x ∷ ks) ks) ≡ cond b (or_else (last_of ks) (Some x)) (last_of ks)
    one true ks = refl
    one false ks = refl

pub all-kept : {A : Type 0} (test : A → Bool) (P Q : A → Type 0) → ((x : A) → test x ≡ true → P x → Q x) → (xs : List A) → AllByRecursion P xs → AllByRecursion Q (filter test xs)
all-kept test P Q f [] h = tt
all-kept test P Q f (x ∷ xs) h =
    cond_both (test x) _ _ (AllByRecursion Q) (λ t. (f x t h.0, all-kept test P Q f xs h.1)) (λ t. all-kept test P Q f xs h.1)

pub kept-has : {A : Type 0} (test : A → Bool) (xs : List A) → AllByRecursion (λ x. test x ≡ true → Has (filter test xs) x) xs
kept-has test [] = tt
kept-has {A} test (x ∷ xs) = (
  λ t. rw t (has_append_left (x ∷ []) (filter test xs) x (has_push [] x)),
  All-weaker _ _
      (λ y h t. cond_both (test x) (x ∷ filter test xs) (filter test xs) (λ (ks : List A). Has ks y) (λ u. has_append_right (x ∷ []) _ y (h t)) (λ u. h t))
      xs (kept-has test xs),
)

-- ---- the first that passes a test

pub first-all : {A : Type 0} (P : A → Type 0) (xs : List A) (x : A) → first_of xs ≡ Some x → AllByRecursion P xs → P x
first-all P [] x e h = let z : ◌≡◌ {A = ℕ} 0 1 = cc in absurd (omega arith)
first-all P (y ∷ ys) x e h = let same : y ≡ x = cc in subst P same h.0

pub first-none : {A : Type 0} (test : A → Bool) (xs : List A) → first_of (filter test xs) ≡ None → AllByRecursion (λ x. test x ≡ false) xs
first-none test [] e = tt
first-none {A} test (x ∷ xs) e = one (test x) refl (first-none test xs)
  where
    one : (b : Bool) → test x ≡ b → (first_of (filter test xs) ≡ None → AllByRecursion (λ y. test y ≡ false) xs) → AllByRecursion (λ y. test y ≡ false) (x ∷ xs)
    one true t rest = let z : ◌≡◌ {A = ℕ} 0 1 = cc (rw t at e) in absurd (omega arith)
    one false t rest = (t, rest (rw t at e))

pub never : {G : Type 0} (o : Ordering) → o ≡ Less → o ≡ Greater → G
never o p q = let z : ◌≡◌ {A = ℕ} 0 1 = ap (λ (o : Ordering). by_order o 0 0 1) (sym p ∙ q) in absurd (omega arith)

-- none that passes is before it
pub first-before : {K : Type 0} (𝓚 : Kind K) (test : K → Bool) (ks : List K) (k : K) → Ascending (λ (a b : K). 𝓚.order a b ≡ Less) ks
    → first_of (filter test ks) ≡ Some k → AllByRecursion (λ j. test j ≡ true → 𝓚.order j k ≡ Less → ⊥) ks
first-before 𝓚 test [] k a e = tt
first-before {K} 𝓚 test (x ∷ xs) k a e = one (test x) refl (first-before 𝓚 test xs k a.1)
  where
    one : (b : Bool) → test x ≡ b → (first_of (filter test xs) ≡ Some k → AllByRecursion (λ j. test j ≡ true → 𝓚.order j k ≡ Less → ⊥) xs)
        → AllByRecursion (λ j. test j ≡ true → 𝓚.order j k ≡ Less → ⊥) (x ∷ xs)
    one true t rest =
        let same : x ≡ k = cc (rw t at e) in
        let here : 𝓚.order x x ≡ Less → ⊥ = λ l. let z : ◌≡◌ {A = ℕ} 0 1 = ap (λ (o : Ordering). by_order o 1 0 0) (sym (self 𝓚 x) ∙ l) in omega arith in
        let all : AllByRecursion (λ j. test j ≡ true → 𝓚.order j x ≡ Less → ⊥) (x ∷ xs) =
        (λ u l. here l, All-weaker _ _ (λ j l u m. never _ m (𝓚.after x j l)) xs a.0) in
        subst (λ (b : K). AllByRecursion (λ j. test j ≡ true → 𝓚.order j b ≡ Less → ⊥) (x ∷ xs)) same all
    one false t rest = (λ u l. both_ways _ t u, rest (rw t at e))
