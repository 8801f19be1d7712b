-- An accepted call does to the places what is set out for it.
use Rattle.std.proofs.Common.{◌≡◌, ℕ, true, List, [], ◌∷◌, ◌++◌, set, is_some, None, sym, ap, ◌∙◌}
use Rattle.kinds.specs.Packed.{name_of}
use Rattle.pool.specs.Held.{Held}
use Rattle.tree.specs.Lookup.{last_of}
use Rattle.register.proofs.Accepting.{Does, Started, lowest-at, resting-at, row-false, row-true, sitting-at, stowed-at}
use Rattle.register.proofs.Vacancies.{is_free_lem}
use Rattle.register.specs.Calls.{Answer, Call, Handle, abandons, asks, begins, branches, commits, enters, fetches, handed, opens, retires, stows, tallies}
use Rattle.register.specs.Contents.{Names, entered, last_sheet, sheet_of, stages_of}
use Rattle.register.specs.Declined.{declined, not_after}
use Rattle.register.specs.Places.{Place, is_free, is_resting, is_sitting, is_stowed, live, none, recorded_at, resting, sheet_at, sitting, stages_at, stowed}
use Rattle.register.specs.Rules.{is_name}
use Rattle.register.specs.Shown.{Shown, at, next_handle, with_line}
use Rattle.register.specs.Steps.{Accepted, on_shelf}
use Rattle.register.specs.Tables.{is_letter, lowest}

abbrev places_of : Shown → List Place
places_of s = s.places

abbrev next_of : Shown → ℕ
next_of s = s.next

module _ {K : Type 0} (𝓝 : Names K) (s s' : Shown) where
  starts : (stages : Held) (a : Answer) → is_some (lowest is_free s.places) ≡ true → a ≡ handed (next_handle s) → s' ≡ with_line s stages
      → Started 𝓝 s s' stages a
  starts stages a t e f =
      let l = lowest-at is_free s.places t in
      record {
        within = l.0;
        here = is_free_lem _ l.1;
        places-are = ap places_of f;
        next_is = ap next_of f;
        answer-is = e;
      }

  pub does : (call : Call) (a : Answer) → declined 𝓝 s call ≡ None → Accepted 𝓝 s call a s' → Does 𝓝 s s' call a
  does opens a d h = starts none a (row-true (is_some (lowest is_free s.places)) _ _ d).0 h.0 h.1
  does (branches handle) a d h =
      let (rests, rows) = row-true (is_resting (at s handle)) _ _ d in
      let (stages, stood) = resting-at s.places handle rests in
      let room = (row-true (is_some (lowest is_free s.places)) _ _ rows).0 in
      record {
        stages = stages;
        stood = stood;
        started = starts stages a room h.0 (h.1 ∙ ap (λ (x : Place). with_line s (stages_at x)) stood.whole);
      }
  does (begins handle recorded) a d h =
      let (rests, rows) = row-true (is_resting (at s handle)) _ _ d in
      let (stages, stood) = resting-at s.places handle rests in
      let (later, high) = row-false (not_after recorded (last_of (stages_of 𝓝 (stages_at (at s handle)).tree))) _ _ rows in
      let b = h.1 in
      record {
        stages = stages;
        sheet = b.sheet;
        changed = record {
          stood = stood;
          places-are = ap places_of b.after ∙ ap (λ (x : Place). set s.places handle.place (live handle.serial (stages_at x) (sitting recorded b.sheet))) stood.whole;
          next_is = ap next_of b.after;
        };
        last = b.last ∙ ap (λ (x : Place). last_sheet (stages_at x).tree) stood.whole;
        later = ap (λ (x : Place). not_after recorded (last_of (stages_of 𝓝 (stages_at x).tree))) (sym stood.whole) ∙ later;
        answer-is = h.0;
      }
  does (enters handle bytes measured change) a d h =
      let (sits, rows) = row-true (is_sitting (at s handle)) _ _ d in
      let (stages, recorded, before, stood) = sitting-at s.places handle sits in
      let b = h.1 in
      record {
        stages = stages;
        recorded = recorded;
        before = before;
        sheet = b.sheet;
        changed = record {
          stood = stood;
          places-are = ap places_of b.after ∙ ap (λ (x : Place). set s.places handle.place (live handle.serial (stages_at x) (sitting (recorded_at x) b.sheet))) stood.whole;
          next_is = ap next_of b.after;
        };
        contents = b.contents ∙ ap (λ (x : Place). entered 𝓝 (𝓝.named (name_of bytes)) measured change (sheet_of 𝓝 (sheet_at x).tree)) stood.whole;
        rule = (row-true (is_name bytes) _ _ rows).0;
        answer-is = h.0;
      }
  does (commits handle) a d h =
      let (before, recorded, sheet, stood) = sitting-at s.places handle (row-true (is_sitting (at s handle)) _ _ d).0 in
      let b = h.1 in
      record {
        before = before;
        recorded = recorded;
        sheet = sheet;
        stages = b.stages;
        changed = record { stood = stood; places-are = ap places_of b.after; next_is = ap next_of b.after };
        contents = b.contents ∙ ap (λ (x : Place). stages_of 𝓝 (stages_at x).tree ++ (recorded_at x, sheet_of 𝓝 (sheet_at x).tree) ∷ []) stood.whole;
        answer-is = h.0;
      }
  does (abandons handle) a d h =
      let (stages, recorded, sheet, stood) = sitting-at s.places handle (row-true (is_sitting (at s handle)) _ _ d).0 in
      record {
        stages = stages;
        recorded = recorded;
        sheet = sheet;
        changed = record {
          stood = stood;
          places-are = ap places_of h.1.after ∙ ap (λ (x : Place). set s.places handle.place (live handle.serial (stages_at x) resting)) stood.whole;
          next_is = ap next_of h.1.after;
        };
        answer-is = h.0;
      }
  does (stows handle letter) a d h =
      let (stages, stood) = resting-at s.places handle (row-true (is_resting (at s handle)) _ _ d).0 in
      record {
        stages = stages;
        changed = record {
          stood = stood;
          places-are = ap places_of h.1 ∙ ap (λ (x : Place). set s.places handle.place (live handle.serial (stages_at x) (stowed letter))) stood.whole;
          next_is = ap next_of h.1;
        };
        answer-is = h.0;
      }
  does (fetches letter) a d h =
      let rows = (row-true (is_letter letter) _ _ d).1 in
      let (stages, stood) = stowed-at s letter (row-true (is_some (lowest (is_stowed letter) s.places)) _ _ rows).0 in
      let handle : Handle = on_shelf s letter in
      record {
        stages = stages;
        changed = record {
          stood = stood;
          places-are = ap places_of h.1 ∙ ap (λ (x : Place). set s.places handle.place (live handle.serial (stages_at x) resting)) stood.whole;
          next_is = ap next_of h.1;
        };
        answer-is = h.0;
      }
  does (retires handle) a d h =
      let (stages, stood) = resting-at s.places handle (row-true (is_resting (at s handle)) _ _ d).0 in
      record {
        stages = stages;
        changed = record { stood = stood; places-are = ap places_of h.1.after; next_is = ap next_of h.1.after };
        answer-is = h.0;
      }
  does tallies a d h = h.1
  does (asks handle recorded question) a d h = h.1
