-- What a lexer has yet to give, at its start and after each field.
use Rattle.std.proofs.Common.{◌≡◌, ℕ, suc, ◌+◌, ◌-◌, ◌<◌, min, eqb, List, [], ◌∷◌, ◌++◌, length, take, drop, sym, refl, ap, ◌∙◌, subst, inl, inr, arith}
use Rattle.std.proofs.lemmas.List.{drop_all, take_all, length-take-le}
use Rattle.std.proofs.lemmas.Slice.{between_is}
use Rattle.std.proofs.lemmas.Bool.{cond-true, cond-false, eqb-true, eqb-false, cases_Bool, cases_lt}
use Rattle.std.specs.List.{AllByRecursion}
use Rattle.script.specs.declared.lexer.Field.{Field}
use Rattle.script.specs.declared.lexer.Lexer.{Lexer}
use Rattle.script.specs.declared.lexer.Part.{Part}
use Rattle.script.specs.Lines.{on_first}
use Rattle.script.specs.Fields.{fields_of, joined_by_tabs, Parts, part_of, text_of, fields_from, left, Gives, IsFieldOf, IsNextPart}
use Rattle.script.proofs.Cuts.{fields-cut, fields-drop, fields-inside}

joined-more : (field : List ℕ) (fields : List (List ℕ)) → 0 < length fields → joined_by_tabs (field ∷ fields) ≡ field ++ 9 ∷ joined_by_tabs fields
joined-more field [] some = absurd (omega arith)
joined-more field (next ∷ fields) some = refl

joined-on_first : (byte : ℕ) (fields : List (List ℕ)) → 0 < length fields → joined_by_tabs (on_first byte fields) ≡ byte ∷ joined_by_tabs fields
joined-on_first byte [] some = absurd (omega arith)
joined-on_first byte (field ∷ []) some = refl
joined-on_first byte (field ∷ next ∷ fields) some = refl

plain-on_first : (byte : ℕ) (fields : List (List ℕ)) → (byte ≡ 9 → ⊥) → AllByRecursion (AllByRecursion (λ byte. byte ≡ 9 → ⊥)) fields → AllByRecursion (AllByRecursion (λ byte. byte ≡ 9 → ⊥)) (on_first byte fields)
plain-on_first byte [] other all = ((other, tt), tt)
plain-on_first byte (field ∷ fields) other all = ((other, all.0), all.1)

some-on_first : (byte : ℕ) (fields : List (List ℕ)) → 0 < length (on_first byte fields)
some-on_first byte [] = omega arith
some-on_first byte (field ∷ fields) = omega arith

-- the fields of a line part it
pub fields-part : (line : List ℕ) → Parts line (fields_of line)
fields-part [] = record { some = omega arith; whole = refl; plain = (tt, tt) }
fields-part (byte ∷ bytes) =
    let rest = fields-part bytes in
    elim (cases_Bool (eqb byte 9)) [
      | inl tab ↦
          subst (Parts (byte ∷ bytes)) (sym (cond-true (eqb byte 9) ([] ∷ fields_of bytes) (on_first byte (fields_of bytes)) tab))
          (record {
            some = omega arith;
            whole = joined-more [] (fields_of bytes) rest.some ∙ ap (λ b. b ∷ joined_by_tabs (fields_of bytes)) (sym (eqb-true byte 9 tab)) ∙ ap (λ bs. byte ∷ bs) rest.whole;
            plain = (tt, rest.plain);
          })
      | inr other ↦
          subst (Parts (byte ∷ bytes)) (sym (cond-false (eqb byte 9) ([] ∷ fields_of bytes) (on_first byte (fields_of bytes)) other))
          (record {
            some = some-on_first byte (fields_of bytes);
            whole = joined-on_first byte (fields_of bytes) rest.some ∙ ap (λ bs. byte ∷ bs) rest.whole;
            plain = plain-on_first byte (fields_of bytes) (eqb-false byte 9 other) rest.plain;
          })
    ]

-- a script cut at the line's end, or at its own
take-clamped : (script : List ℕ) (end clamped : ℕ) → clamped ≡ min end (length script) → take clamped script ≡ take end script
take-clamped script end clamped is =
    elim (cases_lt end (length script)) [
      | inl inside ↦ let same : clamped ≡ end = omega arith in ap (λ n. take n script) same
      | inr past ↦ take_all clamped script (omega arith) ∙ sym (take_all end script past)
    ]

-- the line that a lexer starts with
line-clamped : (script : List ℕ) (start end clamped next : ℕ) → clamped ≡ min end (length script) → next ≡ min start clamped → drop next (take clamped script) ≡ take (end - start) (drop start script)
line-clamped script start end clamped next end_is start_is =
    let long = length-take-le clamped script (omega arith) in
    let same : drop next (take clamped script) ≡ drop start (take clamped script) =
    elim (cases_lt start clamped) [
      | inl inside ↦ let e : next ≡ start = omega arith in ap (λ n. drop n (take clamped script)) e
      | inr past ↦ drop_all next (take clamped script) (omega arith) ∙ sym (drop_all start (take clamped script) (omega arith))
    ] in
    same ∙ ap (drop start) (take-clamped script end clamped end_is) ∙ sym (between_is script start end)

-- a lexer at its start has the fields of its line to give, and they part it
pub new_fields : (script : List ℕ) (start end most next : ℕ) → most ≡ min end (length script) → next ≡ min start (length (take most script)) → fields_from (take most script) next ≡ fields_of (take (end - start) (drop start script))
new_fields script start end most next most-is next-is =
    let long : length (take most script) ≡ most = length-take-le most script (omega arith) in
    fields-inside (take most script) next (omega arith) ∙ ap fields_of (line-clamped script start end most next most-is (omega arith))

pub new-parts : (script : List ℕ) (start end most next : ℕ) → most ≡ min end (length script) → next ≡ min start (length (take most script)) → Parts (take (end - start) (drop start script)) (fields_from (take most script) next)
new-parts script start end most next most-is next-is =
    let line : List ℕ = take (end - start) (drop start script) in
    subst (Parts line) (sym (new_fields script start end most next most-is next-is)) (fields-part line)

-- The lexer steps over its next part and the tab behind it.
abbrev pub behind : Lexer → Part → Lexer
behind lexer part = record { script = lexer.script; next = lexer.next + (length part.text.now + 1) }

-- The field of that part is the first of those that are left.
pub field_given : (lexer : Lexer) (part : Part) (field : Field) → IsNextPart lexer part → IsFieldOf part field → Gives lexer field (behind lexer part)
field_given lexer part field is_next is_field =
    let script : List ℕ = lexer.script.now in
    let line : List ℕ = drop lexer.next script in
    let text : List ℕ = part.text.now in
    let text-is : text_of field ≡ text = ap (λ p. p.text.now) is_field.made_of in
    let place-is : (part_of field).place ≡ lexer.next = ap (λ p. p.place) is_field.made_of ∙ is_next.place in
    let rest : fields_from line (suc (length text)) ≡ left (behind lexer part) =
    fields-drop script lexer.next (suc (length text)) (lexer.next + (length text + 1)) is_next.inside (omega arith) in
    record {
      fields = fields-inside script lexer.next is_next.inside ∙ fields-cut line ∙ ap (λ n. take n line ∷ fields_from line (suc n)) (sym is_next.size) ∙ (λ i. (sym is_next.text ∙ sym text-is) i ∷ rest i);
      place = place-is;
      part = text-is ∙ is_next.text ∙ (λ i. take (length ((sym text-is) i)) (drop ((sym place-is) i) script));
      lexed = is_field.lexed;
    }
