-- The text of a line, piece by piece.
use Rattle.std.proofs.Common.{◌≡◌, ℕ, ◌+◌, ◌-◌, ◌<◌, List, [], ◌∷◌, ◌++◌, length, get_or, take, drop, sym, ap, refl, arith, length-append}
use Rattle.std.specs.List.{flat_map}
use Rattle.std.proofs.lemmas.List.{take_all}
use Rattle.report.specs.declared.report.Piece.{Piece}
use Rattle.report.specs.Report.{line_text, text_of}

-- A piece behind its tab.
abbrev pub tabbed : Piece → List ℕ
tabbed q = 9 ∷ text_of q

-- All pieces but the first, as the program cuts them off.
abbrev pub rest : List Piece → List Piece
rest ps = take (length ps - 1) (drop 1 ps)

pub line-none : (ps : List Piece) → length ps < 1 → line_text ps ≡ 10 ∷ []
unfolding line_text
line-none [] none = refl
line-none (p ∷ ps) none = absurd (omega arith)

pub line-split : (d : Piece) (ps : List Piece) → 0 < length ps → line_text ps ≡ text_of (get_or ps 0 d) ++ flat_map tabbed (rest ps) ++ 10 ∷ []
unfolding line_text
line-split d [] some = absurd (omega arith)
line-split d (p ∷ ps) some =
    ap (λ qs. text_of p ++ flat_map tabbed qs ++ 10 ∷ []) (sym (take_all (length (p ∷ ps) - 1) ps (omega arith)))

pub length-line : (d : Piece) (ps : List Piece) → 0 < length ps → length (line_text ps) ≡ length (text_of (get_or ps 0 d)) + length (flat_map tabbed (rest ps)) + 1
length-line d ps some = rw (line-split d ps some) (simp length-append)
