-- A question about a line at rest is declined only for its own name or range, since no tree that it goes through is too high.
use Rattle.std.proofs.Common.{◌≡◌, ℕ, Bool, true, false, not, ◌||◌, List, [], ◌∷◌, map, Some, None, Option, Ordering, Less, Equal, Greater, refl, ap, ◌∙◌, subst, arith}
use mathlib.Core.Bool.{Bool-set}
use Rattle.std.proofs.ByRecursion.{All-get_or}
use Rattle.kinds.specs.Instant.{instant_of}
use Rattle.kinds.specs.Packed.{name_of}
use Rattle.kinds.specs.declared.name.Name.{Name}
use Rattle.pool.proofs.Pools.{carries-links, held-carries, sound-memory}
use Rattle.pool.specs.Held.{Carries, Held, Holds}
use Rattle.pool.specs.Tree.{Tree, fork, leaf}
use Rattle.pool.specs.declared.node.Words.{Words}
use Rattle.pool.specs.declared.pool.Pool.{Pool}
use Rattle.tree.specs.Kind.{Kind}
use Rattle.tree.specs.Lookup.{at_most, by_order, or_else}
use Rattle.tree.specs.Shape.{Balanced, Item}
use Rattle.register.proofs.Accepting.{Stands, resting-at}
use Rattle.register.proofs.Changing.{kept-apart}
use Rattle.register.proofs.Filing.{filed-leaf}
use Rattle.register.proofs.Growing.{nested-find}
use Rattle.register.proofs.Low.{low}
use Rattle.register.proofs.Splitting.{Seen}
use Rattle.register.proofs.Standing.{by-sturdy}
use Rattle.register.proofs.Timed.{instants, names_of}
use Rattle.register.specs.Calls.{Handle, Question, as_of, asks, next_name, total}
use Rattle.register.specs.Contents.{Names, card_tree, earlier, instant_at, nested_in, sheet_tree_as_of}
use Rattle.register.specs.Declined.{crossed, declined, misnamed, sheet_too_high, too_high}
use Rattle.register.specs.Places.{Place, free, is_resting, live, owners_of, record_of, resting, stages_at}
use Rattle.register.specs.Refusals.{first_of}
use Rattle.register.specs.Shapes.{ByName, ByTime, Filed, LineWith, Nested, Ordered, SheetWith}
use Rattle.register.specs.Shown.{Shown, at}
use Rattle.register.specs.declared.refusal.Refusal.TheVariants.{NoSuchLine, NameBroken, TreeTooHigh, EndsCrossed}
use Rattle.pool.specs.Sound.{memory_of}

-- what holds of each nested tree, and of the leaf, holds of the one that a look up to a key finds
nested-at-most : {K : Type 0} (R : Tree → Type 0) (key : Words → K) (order : K → K → Ordering) → R leaf → (k : K) (t : Tree) → Nested R t
    → R (nested_in (at_most key order k t))
unfolding at_most
nested-at-most {K} R key order none k leaf h = none
nested-at-most {K} R key order none k (fork words word tall nested left right) h =
    one (order k (key words)) _ _ _ (nested-at-most R key order none k left h.1) h.0 (nested-at-most R key order none k right h.2)
  where
    later : (o : Option (Item K)) (x : Item K) → R (nested_in o) → R x.nested → R (nested_in (or_else o (Some x)))
    later None x a b = b
    later (Some y) x a b = a

    one : (o : Ordering) (before behind : Option (Item K)) (x : Item K) → R (nested_in before) → R x.nested → R (nested_in behind)
        → R (nested_in (by_order o before (Some x) (or_else behind (Some x))))
    one Less before behind x a b c = a
    one Equal before behind x a b c = b
    one Greater before behind x a b c = later behind x c b

-- a node of the pool carries the tree
abbrev Borne : Pool → Tree → Type 0
Borne p t = (n : ℕ) × Carries p n t

leaf-borne : (p : Pool) → Borne p leaf
leaf-borne p = (0, record { kept = λ h. absurd (omega arith); linked = refl })

nested-borne : (p : Pool) (hs : List Held) → Holds p hs → (t : Tree) → Borne p t → Nested (Borne p) t
nested-borne p hs h leaf b = tt
nested-borne p hs h (fork key word tall nested left right) (n, c) =
    let ls = carries-links (memory_of p) n key word tall nested left right (sound-memory p hs h) c in (
      (_, ls.by_nested),
      nested-borne p hs h left (_, ls.by_left),
      nested-borne p hs h right (_, ls.by_right),
    )

or-false : (a b : Bool) → a ≡ false → b ≡ false → (a || b) ≡ false
or-false a b p q = rw (p, q)

no_row : (a b c d : Bool) → a ≡ true → b ≡ false → c ≡ false → d ≡ false
    → first_of ((not a, NoSuchLine) ∷ (b, NameBroken) ∷ (c, TreeTooHigh) ∷ (d, EndsCrossed) ∷ []) ≡ None
no_row a b c d p q r s = rw (p, q, r, s)

module _ {K : Type 0} (𝓚 : Kind K) (named : Name → K) (called : K → Name) where
  abbrev 𝓝 : Names K
  𝓝 = names_of 𝓚 named called

  -- ---- the trees that a question goes through

  module _ (p : Pool) (hs : List Held) (holds : Holds p hs) where
    sheet-low : (q : Question) (t : Tree) → Borne p t → SheetWith Balanced Filed t → SheetWith (ByName 𝓝) ByTime t → sheet_too_high 𝓝 q t ≡ false
    sheet-low q t b sturdy ordered = one q
      where
        whole : too_high t ≡ false
        whole = low 𝓚 p hs holds b.0 t b.1 sturdy.sheet ordered.sheet

        card : (name : K) → too_high (card_tree 𝓝 name t) ≡ false
        card name =
            let c = nested-find (Borne p) 𝓚.key 𝓚.order (leaf-borne p) name t (nested-borne p hs holds t b) in
            low instants p hs holds c.0 (card_tree 𝓝 name t) c.1 (nested-find Filed 𝓚.key 𝓚.order filed-leaf name t sturdy.cards).balanced
            (nested-find ByTime 𝓚.key 𝓚.order tt name t ordered.cards)

        one : (q : Question) → sheet_too_high 𝓝 q t ≡ false
        one (as_of name measured) = or-false _ _ whole (card (named (name_of name)))
        one (total name from to) = or-false _ _ whole (card (named (name_of name)))
        one (next_name given) = whole

    line_low : (r : ℕ) (q : Question) (t : Tree) → Borne p t → LineWith Balanced Balanced Filed t → LineWith ByTime (ByName 𝓝) ByTime t
        → (too_high t || sheet_too_high 𝓝 q (sheet_tree_as_of r t)) ≡ false
    line_low r q t b sturdy ordered =
        or-false _ _ (low instants p hs holds b.0 t b.1 sturdy.line ordered.line)
        (sheet-low q (sheet_tree_as_of r t)
        (nested-at-most (Borne p) instant_at earlier (leaf-borne p) (instant_of r) t (nested-borne p hs holds t b))
        (nested-at-most (SheetWith Balanced Filed) instant_at earlier (record { sheet = tt; cards = tt }) (instant_of r) t sturdy.sheets)
        (nested-at-most (SheetWith (ByName 𝓝) ByTime) instant_at earlier (record { sheet = tt; cards = tt }) (instant_of r) t ordered.sheets))

  -- ---- the line of a handle

  trees-low : (s : Shown) → Seen 𝓝 s → (h : Handle) (stages : Held) → Stands s.places h stages resting → (r : ℕ) (q : Question)
      → (too_high stages.tree || sheet_too_high 𝓝 q (sheet_tree_as_of r stages.tree)) ≡ false
  trees-low s (p, shows) h stages stood r q =
      let xs : List Place = s.places in
      let ordered = subst (Ordered 𝓝) stood.here (All-get_or (Ordered 𝓝) xs h.place free stood.within shows.ordered) in
      let apart = kept-apart p (map record_of xs) xs shows.kept h.place stood.within (live h.serial stages resting) stood.here in
      by-sturdy (Bool-set _ false) p (map record_of xs) xs shows.kept h.place stood.within (live h.serial stages resting) stood.here
      (λ sturdy. line_low p (owners_of xs) shows.kept.holds r q stages.tree (stages.node, held-carries p stages.node stages.tree _ apart) sturdy.0 ordered.trees.0)

  pub answerable : (s : Shown) → Seen 𝓝 s → (h : Handle) (r : ℕ) (q : Question) → is_resting (at s h) ≡ true → misnamed q ≡ false → crossed q ≡ false
      → declined 𝓝 s (asks h r q) ≡ None
  answerable s seen h r q rests rule straight =
      let (stages, stood) = resting-at s.places h rests in
      let high = ap (λ (x : Place). too_high (stages_at x).tree || sheet_too_high 𝓝 q (sheet_tree_as_of r (stages_at x).tree)) stood.whole ∙ trees-low s seen h stages stood r q in
      no_row _ _ _ _ rests rule high straight
