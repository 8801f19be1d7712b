-- The sheet of the last stage at or before an instant is what all entries known then leave, and a later stage changes nothing of it.
use Rattle.std.proofs.Common.{◌≡◌, ℕ, ◌<◌, Bool, true, false, leb, List, [], ◌∷◌, ◌++◌, Some, None, filter, Option, unwrap_or, sym, refl, ap, ◌∙◌, subst, arith}
use Rattle.std.proofs.lemmas.List.Elements.{filter-append}
use Rattle.std.proofs.ByRecursion.{All-weaker}
use Rattle.std.proofs.lemmas.List.{append-nil}
use Rattle.std.proofs.lemmas.Bool.{leb-false, lt-leb}
use Rattle.std.specs.Option.{option_map}
use Rattle.std.specs.List.{flat_map, AllByRecursion}
use Rattle.tree.specs.Lookup.{last_of, or_else}
use Rattle.register.specs.Asked.{last_up_to, sheet_after, sheet_as_of, sheet_from, sheet_with, stages_from}
use Rattle.register.specs.Contents.{Names, Sheet}
use Rattle.register.specs.History.{Entry, History, InTime, Stage, known_at}

-- ---- what is known

-- stages after r are not known as of r
pub none-known : (r : ℕ) (history : History) → AllByRecursion (λ (s : Stage). r < s.recorded) history → known_at r history ≡ []
none-known r [] h = refl
none-known r (s ∷ ss) h = rw (lt-leb s.recorded r h.0) (none-known r ss h.1)

-- a stage after r leaves what is known as of r as it was
pub known_kept : (r : ℕ) (history : History) (stage : Stage) → r < stage.recorded → known_at r (history ++ stage ∷ []) ≡ known_at r history
known_kept r history stage l =
    let test : Stage → Bool = λ s. leb s.recorded r in
    let same : filter test (history ++ stage ∷ []) ≡ filter test history =
    filter-append test history (stage ∷ []) ∙ rw (lt-leb stage.recorded r l) (append-nil _) in
    ap (flat_map (λ (s : Stage). s.entries)) same

-- and so every answer about it
pub answers-kept : (P : List Entry → Type 0) (r : ℕ) (history : History) (stage : Stage) → r < stage.recorded → P (known_at r history)
    → P (known_at r (history ++ stage ∷ []))
answers-kept P r history stage l = subst P (sym (known_kept r history stage l))

-- ---- the sheets of the stages

module _ {K : Type 0} (𝓝 : Names K) where
  pub sheet-append : (sheet : Sheet K) (front behind : List Entry) → sheet_from 𝓝 sheet (front ++ behind) ≡ sheet_from 𝓝 (sheet_from 𝓝 sheet front) behind
  sheet-append sheet [] behind = refl
  sheet-append sheet (e ∷ es) behind = sheet-append (sheet_with 𝓝 sheet e) es behind

  -- one entry more
  pub sheet-more : (sheet : Sheet K) (entries : List Entry) (e : Entry) → sheet_from 𝓝 sheet (entries ++ e ∷ []) ≡ sheet_with 𝓝 (sheet_from 𝓝 sheet entries) e
  sheet-more sheet entries e = sheet-append sheet entries (e ∷ [])

  -- the sheet of a stage, or another where there is none
  abbrev pub sheet_or : Sheet K → Option (ℕ × Sheet K) → Sheet K
  sheet_or sheet stage = unwrap_or (option_map (λ (s : ℕ × Sheet K). s.1) stage) sheet

  or_later : (sheet : Sheet K) (o : Option (ℕ × Sheet K)) (stage : ℕ × Sheet K) → sheet_or sheet (or_else o (Some stage)) ≡ sheet_or stage.1 o
  or_later sheet None stage = refl
  or_later sheet (Some later) stage = refl

  -- one stage more: its entries change the sheet of the last stage
  pub stages-more : (sheet : Sheet K) (history : History) (stage : Stage)
      → stages_from 𝓝 sheet (history ++ stage ∷ [])
      ≡ stages_from 𝓝 sheet history ++ (stage.recorded, sheet_from 𝓝 (sheet_or sheet (last_of (stages_from 𝓝 sheet history))) stage.entries) ∷ []
  stages-more sheet [] stage = refl
  stages-more sheet (s ∷ ss) stage =
      let after : Sheet K = sheet_from 𝓝 sheet s.entries in
      ap (λ (rest : List (ℕ × Sheet K)). (s.recorded, after) ∷ rest)
      (stages-more after ss stage
      ∙ ap (λ (base : Sheet K). stages_from 𝓝 after ss ++ (stage.recorded, sheet_from 𝓝 base stage.entries) ∷ [])
      (sym (or_later sheet (last_of (stages_from 𝓝 after ss)) (s.recorded, after))))

  -- the sheet of the last stage is what the entries of all stages leave
  pub last-stage-sheet : (sheet : Sheet K) (history : History)
      → sheet_or sheet (last_of (stages_from 𝓝 sheet history)) ≡ sheet_from 𝓝 sheet (flat_map (λ (s : Stage). s.entries) history)
  last-stage-sheet sheet [] = refl
  last-stage-sheet sheet (s ∷ ss) =
      let after : Sheet K = sheet_from 𝓝 sheet s.entries in
      or_later sheet (last_of (stages_from 𝓝 after ss)) (s.recorded, after) ∙ last-stage-sheet after ss
      ∙ sym (sheet-append sheet s.entries (flat_map (λ (t : Stage). t.entries) ss))

  none-up-to : (r : ℕ) (sheet : Sheet K) (history : History) → AllByRecursion (λ (s : Stage). r < s.recorded) history → last_up_to r (stages_from 𝓝 sheet history) ≡ None
  none-up-to r sheet [] h = refl
  none-up-to r sheet (s ∷ ss) h = rw (lt-leb s.recorded r h.0) (none-up-to r (sheet_from 𝓝 sheet s.entries) ss h.1)

  as-of-from : (r : ℕ) (sheet : Sheet K) (history : History) → InTime history
      → sheet_or sheet (last_up_to r (stages_from 𝓝 sheet history)) ≡ sheet_from 𝓝 sheet (known_at r history)
  as-of-from r sheet [] a = refl
  as-of-from r sheet (s ∷ ss) a = one (leb s.recorded r) refl (as-of-from r (sheet_from 𝓝 sheet s.entries) ss a.1)
    where
      one : (b : Bool) → leb s.recorded r ≡ b
          → sheet_or (sheet_from 𝓝 sheet s.entries) (last_up_to r (stages_from 𝓝 (sheet_from 𝓝 sheet s.entries) ss))
          ≡ sheet_from 𝓝 (sheet_from 𝓝 sheet s.entries) (known_at r ss)
          → sheet_or sheet (last_up_to r (stages_from 𝓝 sheet (s ∷ ss))) ≡ sheet_from 𝓝 sheet (known_at r (s ∷ ss))
      one true e rest =
          rw e (or_later sheet (last_up_to r (stages_from 𝓝 (sheet_from 𝓝 sheet s.entries) ss)) (s.recorded, sheet_from 𝓝 sheet s.entries) ∙ rest
          ∙ sym (sheet-append sheet s.entries (known_at r ss)))
      one false e rest =
          let now = leb-false s.recorded r e in
          let later : AllByRecursion (λ (t : Stage). r < t.recorded) ss = All-weaker _ _ (λ t l. omega arith) ss a.0 in
          rw e (ap (sheet_or sheet) (none-up-to r (sheet_from 𝓝 sheet s.entries) ss later) ∙ ap (sheet_from 𝓝 sheet) (sym (none-known r ss later)))

  -- as of r, the stages of a history have the sheet that all entries known then leave
  pub sheet-as-of : (r : ℕ) (history : History) → InTime history → sheet_as_of r (stages_from 𝓝 [] history) ≡ sheet_after 𝓝 (known_at r history)
  sheet-as-of r = as-of-from r []
