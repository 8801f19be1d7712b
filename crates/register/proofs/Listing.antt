-- Lists of keys with values in a lawful order: what a key has after a put or a drop, and that ascending keys still ascend.
use Rattle.std.proofs.Common.{◌≡◌, ℕ, List, [], ◌∷◌, Some, None, Option, Less, Equal, Greater, sym, refl, ap, ◌∙◌, subst, arith}
use Rattle.std.proofs.ByRecursion.{All-weaker}
use Rattle.std.proofs.lemmas.Cmp.{nat_cmp_total, tied_itself}
use Rattle.std.proofs.lemmas.Map.Lookups.{exact_unsigned}
use Rattle.std.specs.List.{AllByRecursion}
use Rattle.std.specs.Ordering.{nat_cmp}
use Rattle.pool.specs.declared.node.Words.{Words}
use Rattle.tree.proofs.Bound.{turned}
use Rattle.tree.proofs.Orders.{same_key, self}
use Rattle.tree.proofs.Steps.{by-order}
use Rattle.tree.specs.Kind.{Kind}
use Rattle.tree.specs.Lookup.{by_order}
use Rattle.register.specs.Ascending.{Ascending}
use Rattle.register.specs.Keyed.{drop_at, put_at, value_at}

-- numbers as a kind of key
abbrev pub numbers : Kind ℕ
numbers =
    record {
      words = λ n. record { high = 0; low = n };
      key = λ w. w.low;
      order = nat_cmp;
      back = λ n. refl;
      equal = λ a b e. ap (nat_cmp a) (sym (ap (λ (w : Words). w.low) e)) ∙ tied_itself nat_cmp_total a;
      same = λ a b e. ap (λ (n : ℕ). record { high = 0; low = n }) (exact_unsigned a b e);
      after = λ a b. turned nat_cmp_total a b Less;
      before = λ a b. turned nat_cmp_total a b Greater;
      chained = nat_cmp_total.trans;
    }

module _ {K : Type 0} (𝓚 : Kind K) where
  abbrev pub ByKey : {V : Type 0} → List (K × V) → Type 0
  ByKey {V} = Ascending (λ (x y : K × V). 𝓚.order x.0 y.0 ≡ Less)

module _ {K V : Type 0} (𝓚 : Kind K) where
  -- ---- the value of a key

  pub value-here : (k : K) (v : V) (xs : List (K × V)) → value_at 𝓚.order k ((k, v) ∷ xs) ≡ Some v
  value-here k v xs = rw (self 𝓚 k)

  pub value_there : (k : K) (x : K × V) (xs : List (K × V)) → (𝓚.order k x.0 ≡ Equal → ⊥) → value_at 𝓚.order k (x ∷ xs) ≡ value_at 𝓚.order k xs
  value_there k x xs other = by-order (𝓚.order k x.0) (λ e. rw e) (λ e. absurd (other e)) (λ e. rw e)

  pub put-here : (k : K) (v : V) (xs : List (K × V)) → value_at 𝓚.order k (put_at 𝓚.order k v xs) ≡ Some v
  put-here k v [] = value-here k v []
  put-here k v (x ∷ xs) =
      by-order (𝓚.order k x.0) (λ e. rw e (value-here k v (x ∷ xs))) (λ e. rw e (value-here k v xs)) (λ e. rw (e, e) (put-here k v xs))

  pub put-there : (j k : K) (v : V) (xs : List (K × V)) → (𝓚.order j k ≡ Equal → ⊥) → value_at 𝓚.order j (put_at 𝓚.order k v xs) ≡ value_at 𝓚.order j xs
  put-there j k v [] other = value_there j (k, v) [] other
  put-there j k v (x ∷ xs) other =
      by-order (𝓚.order k x.0) (λ e. rw e (value_there j (k, v) (x ∷ xs) other))
      (λ e. rw e (value_there j (k, v) xs other ∙ sym (value_there j x xs (λ f. other (ap (𝓚.order j) (same_key 𝓚 k x.0 e) ∙ f)))))
      (λ e. rw e (ap (λ (rest : Option V). by_order (𝓚.order j x.0) rest (Some x.1) rest) (put-there j k v xs other)))

  pub drop_here : (k : K) (xs : List (K × V)) → value_at 𝓚.order k (drop_at 𝓚.order k xs) ≡ None
  drop_here k [] = refl
  drop_here k (x ∷ xs) =
      by-order (𝓚.order k x.0) (λ e. rw (e, e) (drop_here k xs)) (λ e. rw e (drop_here k xs)) (λ e. rw (e, e) (drop_here k xs))

  pub drop-there : (j k : K) (xs : List (K × V)) → (𝓚.order j k ≡ Equal → ⊥) → value_at 𝓚.order j (drop_at 𝓚.order k xs) ≡ value_at 𝓚.order j xs
  drop-there j k [] other = refl
  drop-there j k (x ∷ xs) other =
      let rest = ap (λ (rest : Option V). by_order (𝓚.order j x.0) rest (Some x.1) rest) (drop-there j k xs other) in
      by-order (𝓚.order k x.0) (λ e. rw e rest)
      (λ e. rw e (drop-there j k xs other ∙ sym (value_there j x xs (λ f. other (ap (𝓚.order j) (same_key 𝓚 k x.0 e) ∙ f)))))
      (λ e. rw e rest)

  -- what holds of all pairs holds of the pair of a key
  pub all-value : (P : K × V → Type 0) (k : K) (v : V) (xs : List (K × V)) → AllByRecursion P xs → value_at 𝓚.order k xs ≡ Some v → P (k, v)
  all-value P k v [] h e = let z : ◌≡◌ {A = ℕ} 0 1 = cc in absurd (omega arith)
  all-value P k v (x ∷ xs) h e =
      by-order (𝓚.order k x.0) (λ o. all-value P k v xs h.1 (rw o at e))
      (λ o.
      let same : x.1 ≡ v = cc (rw o at e) in
      subst (λ (j : K). P (j, v)) (sym (same_key 𝓚 k x.0 o)) (subst (λ (w : V). P (x.0, w)) same h.0))
      (λ o. all-value P k v xs h.1 (rw o at e))

  -- ---- what holds of all pairs after a put or a drop

  pub all-put : (P : K × V → Type 0) (k : K) (v : V) (xs : List (K × V)) → P (k, v) → AllByRecursion P xs → AllByRecursion P (put_at 𝓚.order k v xs)
  all-put P k v [] p h = (p, tt)
  all-put P k v (x ∷ xs) p h =
      by-order (𝓚.order k x.0) (λ e. rw e (p, h)) (λ e. rw e (p, h.1)) (λ e. rw e (h.0, all-put P k v xs p h.1))

  pub all-dropped : (P : K × V → Type 0) (k : K) (xs : List (K × V)) → AllByRecursion P xs → AllByRecursion P (drop_at 𝓚.order k xs)
  all-dropped P k [] h = tt
  all-dropped P k (x ∷ xs) h =
      by-order (𝓚.order k x.0) (λ e. rw e (h.0, all-dropped P k xs h.1)) (λ e. rw e (all-dropped P k xs h.1))
      (λ e. rw e (h.0, all-dropped P k xs h.1))

  -- ---- ascending keys

  pub ascending-put : (k : K) (v : V) (xs : List (K × V)) → ByKey 𝓚 xs → ByKey 𝓚 (put_at 𝓚.order k v xs)
  ascending-put k v [] a = (tt, tt)
  ascending-put k v (x ∷ xs) a =
      by-order (𝓚.order k x.0)
      (λ e. rw e ((e, All-weaker _ _ (λ y l. 𝓚.chained k x.0 y.0 e l) xs a.0), a))
      (λ e. rw e (subst (λ (b : K). AllByRecursion (λ (y : K × V). 𝓚.order b y.0 ≡ Less) xs) (sym (same_key 𝓚 k x.0 e)) a.0, a.1))
      (λ e. rw e (all-put (λ (y : K × V). 𝓚.order x.0 y.0 ≡ Less) k v xs (𝓚.before k x.0 e) a.0, ascending-put k v xs a.1))

  pub ascending-dropped : (k : K) (xs : List (K × V)) → ByKey 𝓚 xs → ByKey 𝓚 (drop_at 𝓚.order k xs)
  ascending-dropped k [] a = tt
  ascending-dropped k (x ∷ xs) a =
      let rest : ByKey 𝓚 (x ∷ drop_at 𝓚.order k xs) = (all-dropped (λ (y : K × V). 𝓚.order x.0 y.0 ≡ Less) k xs a.0, ascending-dropped k xs a.1) in
      by-order (𝓚.order k x.0) (λ e. rw e rest) (λ e. rw e rest.1) (λ e. rw e rest)

  -- each pair of an ascending list is the pair of its key
  pub all_found : (xs : List (K × V)) → ByKey 𝓚 xs → AllByRecursion (λ (x : K × V). value_at 𝓚.order x.0 xs ≡ Some x.1) xs
  all_found [] a = tt
  all_found (x ∷ xs) a =
      (value-here x.0 x.1 xs, later xs a.0 (all_found xs a.1))
    where
      later : (ys : List (K × V)) → AllByRecursion (λ (y : K × V). 𝓚.order x.0 y.0 ≡ Less) ys → AllByRecursion (λ (y : K × V). value_at 𝓚.order y.0 xs ≡ Some y.1) ys
          → AllByRecursion (λ (y : K × V). value_at 𝓚.order y.0 (x ∷ xs) ≡ Some y.1) ys
      later [] l h = tt
      later (y ∷ ys) l h = (rw (𝓚.after x.0 y.0 l.0) h.0, later ys l.1 h.1)
