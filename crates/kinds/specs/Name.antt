-- The rule of names: which bytes are a name.
use Rattle.std.specs.Prelude.{◌≡◌, ℕ, ◌≤◌, ◌⊎◌, All, List, length}

-- A to Z, 0 to 9 or a hyphen
abbrev pub IsNameByte : ℕ → Type 0
IsNameByte b = ((65 ≤ b) × (b ≤ 90)) ⊎ (((48 ≤ b) × (b ≤ 57)) ⊎ (b ≡ 45))

-- 1 to 16 bytes, and every one of them is such a byte
abbrev pub IsName : List ℕ → Type 0
IsName bytes = (1 ≤ length bytes) × (length bytes ≤ 16) × All IsNameByte bytes
