-- The answers to questions about the names of a sheet, and why they are declined.
use Rattle.std.proofs.Common.{◌≡◌, ℕ, ◌<◌, Bool, true, false, cond, ◌||◌, List, Some, None, Ok, Err, Option, sym, refl, ap, ◌∙◌}
use Rattle.std.specs.Option.{option_map}
use Rattle.kinds.specs.declared.instant.Instant.{Instant}
use Rattle.kinds.specs.declared.name.Name.{Name}
use Rattle.pool.specs.Held.{Carries, CarriesIn}
use Rattle.pool.specs.Tree.{Tree}
use Rattle.pool.specs.declared.pool.Pool.{Pool}
use Rattle.tree.specs.Shape.{Balanced}
use Rattle.register.proofs.Finding.{instant-is, sheet-of-line}
use Rattle.register.proofs.Responding.{line-ordered, refuses-same, sheet-ordered, sheet-shown}
use Rattle.register.proofs.Telling.{accepted}
use Rattle.register.specs.Asked.{key_of, next_name as next, sheet_as_of}
use Rattle.register.specs.Calls.{Call, Handle, asks, named, next_name, refused}
use Rattle.register.specs.Contents.{Names, Sheet, sheet_of, stages_of}
use Rattle.register.specs.Declined.{declined, misnamed, too_high}
use Rattle.register.specs.Found.{LineReady, RestTold, SheetFound, sheet_up_to}
use Rattle.register.specs.Places.{stages_at}
use Rattle.register.specs.Shapes.{ByName}
use Rattle.register.specs.Shown.{Shown, Shows, at}
use Rattle.register.specs.Steps.{Step}
use Rattle.register.specs.declared.refusal.Refusal.{Refusal}
use Rattle.register.specs.declared.refusal.Refusal.TheVariants.{NameBroken, TreeTooHigh}
use Rattle.register.specs.declared.table.Record.{Record}
use Rattle.pool.specs.Sound.{memory_of}
use Rattle.pool.specs.declared.node.Node.{Node}

-- the sheet that is found is balanced
pub sheet-ready : (mem : List Node) (root : ℕ) (recorded : Instant) (n : ℕ) → ((t : Tree) → CarriesIn mem root t → SheetFound mem t recorded (Ok n)) → LineReady mem (Ok root)
    → (t : Tree) × CarriesIn mem n t × Balanced t
sheet-ready mem root recorded n found (t, carries, l) = (_, (found t carries).1, (sheet-of-line recorded t l).sheet)

module _ {K : Type 0} (𝓝 : Names K) (p : Pool) (ls : List (Option Record)) (next-serial : ℕ) (s : Shown) (shows : Shows 𝓝 p ls next-serial s) (handle : Handle) (recorded : ℕ)
    (given : Option (List ℕ)) where
  abbrev call : Call
  call = asks handle recorded (next_name given)

  abbrev line : Tree
  line = (stages_at (at s handle)).tree

  pub no_line : (why : Refusal) → RestTold (memory_of p) s handle (Err why) → Step 𝓝 s call (refused why) s
  no_line why (absent, is) = refuses-same 𝓝 s call why (rw absent (ap Some (sym is)))

  module _ (root : ℕ) (rest : RestTold (memory_of p) s handle (Ok root)) where
    pub no_name : misnamed (next_name given) ≡ true → Step 𝓝 s call (refused NameBroken) s
    no_name broken = let here = rest.0 in refuses-same 𝓝 s call NameBroken (rw (here, broken))

    module _ (lawful : misnamed (next_name given) ≡ false) (small : recorded < 4294967296) (when : Instant) (when-is : when.seconds ≡ recorded) where
      refusal_is : declined 𝓝 s call ≡ cond (too_high line || too_high (sheet_up_to when line)) (Some TreeTooHigh) None
      refusal_is = let here = rest.0 in rw (here, lawful, instant-is when recorded when-is)

      pub too-high : (why : Refusal) → ((t : Tree) → Carries p root t → SheetFound (memory_of p) t when (Err why)) → Step 𝓝 s call (refused why) s
      too-high why found =
          let (high, is) = found line rest.1 in
          refuses-same 𝓝 s call why (refusal_is ∙ ap (λ (b : Bool). cond b (Some TreeTooHigh) None) high ∙ ap Some (sym is))

      module _ (n : ℕ) (found : (t : Tree) → Carries p root t → SheetFound (memory_of p) t when (Ok n)) where
        pub sheet-there : Carries p n (sheet_up_to when line)
        sheet-there = (found line rest.1).1

        pub sheet-in-order : ByName 𝓝 (sheet_up_to when line)
        sheet-in-order = (sheet-ordered 𝓝 when line (line-ordered 𝓝 s shows.ordered handle)).sheet

        pub answered : (name : Option Name) → name ≡ option_map 𝓝.name (next 𝓝 (option_map (key_of 𝓝) given) (sheet_of 𝓝 (sheet_up_to when line)))
            → Step 𝓝 s call (named name) s
        answered name is =
            let shown : sheet_of 𝓝 (sheet_up_to when line) ≡ sheet_as_of recorded (stages_of 𝓝 line) =
            ap (λ (i : Instant). sheet_of 𝓝 (sheet_up_to i line)) (sym (instant-is when recorded when-is)) ∙ sym (sheet-shown 𝓝 recorded small line (line-ordered 𝓝 s shows.ordered handle).line) in
            let go = refusal_is ∙ ap (λ (b : Bool). cond b (Some TreeTooHigh) None) (found line rest.1).0 in
            accepted 𝓝 s s call _ go (ap named (is ∙ ap (λ (sheet : Sheet K). option_map 𝓝.name (next 𝓝 (option_map (key_of 𝓝) given) sheet)) shown), refl)
