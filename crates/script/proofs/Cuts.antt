-- Where a script is cut into lines, and a line into fields: before the first byte that stops a part.
use Rattle.std.proofs.Common.{◌≡◌, ℕ, suc, ◌+◌, ◌-◌, ◌<◌, ◌≤◌, ◌==◌, eqb, ltb, not, true, false, List, [], ◌∷◌, length, take, drop, sym, refl, ap, ◌∙◌, inl, inr, arith, length-drop}
use Rattle.std.proofs.lemmas.List.{drop-drop, length-take-le}
use Rattle.std.proofs.lemmas.Slice.{between_is, between_to_end}
use Rattle.std.proofs.lemmas.Bool.{cond-true, cond-false, lt-ltb, le-ltb, cases_lt, cases_Bool}
use Rattle.std.specs.List.{prefix_len}
use Rattle.script.specs.Lines.{on_first, lines_of, line_bytes, lines_left, GivesLine}
use Rattle.script.specs.declared.script_lines.ScriptLine.{ScriptLine}
use Rattle.script.specs.declared.script_lines.ScriptLines.{ScriptLines}
use Rattle.script.specs.Fields.{fields_of, fields_from}

-- how many bytes stand before the first that is this one
abbrev pub before : ℕ → List ℕ → ℕ
before stop bytes = prefix_len (λ byte. not (byte == stop)) bytes

before-stop : (stop b : ℕ) (bs : List ℕ) → eqb b stop ≡ true → before stop (b ∷ bs) ≡ 0
before-stop stop b bs is = cond-false (not (eqb b stop)) (1 + before stop bs) 0 (ap not is)

before-other : (stop b : ℕ) (bs : List ℕ) → eqb b stop ≡ false → before stop (b ∷ bs) ≡ suc (before stop bs)
before-other stop b bs other = cond-true (not (eqb b stop)) (1 + before stop bs) 0 (ap not other) ∙ omega arith

cut-line : (b : ℕ) (bs : List ℕ) → on_first b (lines_of bs) ≡ (b ∷ take (before 10 bs) bs) ∷ lines_of (drop (suc (before 10 bs)) bs) → lines_of (b ∷ bs) ≡ take (before 10 (b ∷ bs)) (b ∷ bs) ∷ lines_of (drop (suc (before 10 (b ∷ bs))) (b ∷ bs))
cut-line b bs more =
    let cut = λ (n : ℕ). take n (b ∷ bs) ∷ lines_of (drop (suc n) (b ∷ bs)) in
    elim (cases_Bool (eqb b 10)) [
      | inl is ↦ cond-true (eqb b 10) ([] ∷ lines_of bs) (on_first b (lines_of bs)) is ∙ ap cut (sym (before-stop 10 b bs is))
      | inr other ↦ cond-false (eqb b 10) ([] ∷ lines_of bs) (on_first b (lines_of bs)) other ∙ more ∙ ap cut (sym (before-other 10 b bs other))
    ]

-- what stands before the first line feed of a script that is not empty is its first line
lines-cut : (bytes : List ℕ) → 0 < length bytes → lines_of bytes ≡ take (before 10 bytes) bytes ∷ lines_of (drop (suc (before 10 bytes)) bytes)
lines-cut [] some = absurd (omega arith)
lines-cut (b ∷ []) some = cut-line b [] refl
lines-cut (b ∷ c ∷ cs) some = cut-line b (c ∷ cs) (ap (on_first b) (lines-cut (c ∷ cs) (omega arith)))

-- the line that begins at start, and the lines behind it
pub line-at : (script : List ℕ) (start n : ℕ) → start < length script → n ≡ before 10 (take (length script - start) (drop start script)) → lines_of (drop start script) ≡ take (start + n - start) (drop start script) ∷ lines_of (drop (start + n + 1) script)
line-at script start n some is =
    let rest : List ℕ = drop start script in
    let n-is : before 10 rest ≡ start + n - start = ap (before 10) (sym (between_to_end script start (length script) (omega arith))) ∙ sym is ∙ omega arith in
    let behind : drop (suc (before 10 rest)) rest ≡ drop (start + n + 1) script =
    drop-drop (suc (before 10 rest)) start script ∙ ap (λ i. drop i script) (omega arith) in
    lines-cut rest (omega (arith, length-drop start script)) ∙ (λ i. take (n-is i) rest ∷ lines_of (behind i))

-- all lines of a script are left at its start
pub all-left : (lines : ScriptLines) (script : List ℕ) → lines.script.now ≡ script → lines.next ≡ 0 → lines_left lines ≡ lines_of script
all-left lines script same start = λ i. lines_of (drop (start i) (same i))

-- the lines behind one that ends here
abbrev pub past : ScriptLines → ℕ → ScriptLines
past lines end = record { script = lines.script; next = end + 1 }

-- The line from the next place up to its end is given.
pub line_given : (before : ScriptLines) (line : ScriptLine) (end : ℕ) → line.script.now ≡ take end before.script.now → line.start ≡ before.next → before.next ≤ end → end ≤ length before.script.now
    → lines_left before ≡ take (end - before.next) (drop before.next before.script.now) ∷ lines_of (drop (end + 1) before.script.now) → GivesLine before line (past before end)
line_given before line end front place begun within cut =
    let script : List ℕ = before.script.now in
    let long : length line.script.now ≡ end = ap length front ∙ length-take-le end script within in
    let bytes : take (end - before.next) (drop before.next script) ≡ line_bytes line =
    between_is script before.next end ∙ (λ i. drop ((sym place) i) ((sym front) i)) in
    record {
      lines = cut ∙ ap (λ (first : List ℕ). first ∷ lines_of (drop (end + 1) script)) bytes;
      place = place;
      inside = omega arith;
      front = front ∙ ap (λ n. take n script) (sym long);
    }

-- the fields from a place that is not past the end
pub fields-inside : (line : List ℕ) (place : ℕ) → place ≤ length line → fields_from line place ≡ fields_of (drop place line)
fields-inside line place inside = cond-false (ltb (length line) place) [] (fields_of (drop place line)) (le-ltb (length line) place inside)

-- the fields from a place on are those of the bytes from a place before it on
pub fields-drop : (line : List ℕ) (start place next : ℕ) → start ≤ length line → next ≡ start + place → fields_from (drop start line) place ≡ fields_from line next
fields-drop line start place next within is =
    let rest : List ℕ = drop start line in
    elim (cases_lt (length line) next) [
      | inl past ↦
          cond-true (ltb (length rest) place) [] (fields_of (drop place rest)) (lt-ltb (length rest) place (omega (arith, length-drop start line)))
          ∙ sym (cond-true (ltb (length line) next) [] (fields_of (drop next line)) (lt-ltb (length line) next past))
      | inr inside ↦
          fields-inside rest place (omega (arith, length-drop start line))
          ∙ ap fields_of (drop-drop place start line ∙ ap (λ i. drop i line) (sym is))
          ∙ sym (fields-inside line next inside)
    ]

-- what stands before the first tab of a line is its first field
pub fields-cut : (bytes : List ℕ) → fields_of bytes ≡ take (before 9 bytes) bytes ∷ fields_from bytes (suc (before 9 bytes))
fields-cut [] = refl
fields-cut (b ∷ bs) =
    let cut = λ (n : ℕ). take n (b ∷ bs) ∷ fields_from (b ∷ bs) (suc n) in
    elim (cases_Bool (eqb b 9)) [
      | inl is ↦
          cond-true (eqb b 9) ([] ∷ fields_of bs) (on_first b (fields_of bs)) is
          ∙ ap (λ fields. [] ∷ fields) (sym (fields-inside (b ∷ bs) 1 (omega arith)))
          ∙ ap cut (sym (before-stop 9 b bs is))
      | inr other ↦
          cond-false (eqb b 9) ([] ∷ fields_of bs) (on_first b (fields_of bs)) other
          ∙ ap (on_first b) (fields-cut bs)
          ∙ ap (λ fields. (b ∷ take (before 9 bs) bs) ∷ fields) (fields-drop (b ∷ bs) 1 (suc (before 9 bs)) (suc (suc (before 9 bs))) (omega arith) (omega arith))
          ∙ ap cut (sym (before-other 9 b bs other))
    ]
