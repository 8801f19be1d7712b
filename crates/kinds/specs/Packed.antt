-- How a name keeps its bytes: packed into two words, the first byte the greatest, with zero bytes behind; and how they come back.
use Rattle.std.specs.Prelude.{◌≡◌, ℕ, zero, suc, ◌+◌, ◌-◌, ◌*◌, ◌^◌, not, List, [], ◌∷◌, ◌++◌, length, drop, replicate, Ok, Err, Result, ◌==◌}
use Rattle.std.specs.Int.{to_be_bytes, w64}
use Rattle.std.specs.List.{take_while}
use Rattle.pool.specs.declared.node.Words.{Words}
use Rattle.kinds.specs.Name.{IsName}
use Rattle.kinds.specs.declared.name.Name.{Name}
use Rattle.kinds.specs.declared.name.NotAName.{NotAName}

-- the first bytes as a number of that many places in base 256, the first byte the greatest; a missing byte is 0
unfoldable pub weighed : ℕ → List ℕ → ℕ
weighed zero bytes = 0
weighed (suc places) [] = 0
weighed (suc places) (b ∷ bytes) = b * 256 ^ places + weighed places bytes

-- the first 8 bytes in the high word, the others in the low word
abbrev pub packed : List ℕ → Words
packed bytes = record { high = weighed 8 bytes; low = weighed 8 (drop 8 bytes) }

abbrev pub name_of : List ℕ → Name
name_of bytes = record { words = packed bytes }

-- the 16 bytes of a name's words
unfoldable pub spelled : Name → List ℕ
spelled name = to_be_bytes w64 name.words.high ++ to_be_bytes w64 name.words.low

-- the bytes before the first zero byte
abbrev pub front : List ℕ → List ℕ
front = take_while (λ byte. not (byte == 0))

-- the bytes that a name stands for
abbrev pub bytes_of : Name → List ℕ
bytes_of name = front (spelled name)

-- 16 bytes: these, and zero bytes behind
abbrev pub padded : List ℕ → List ℕ
padded bytes = bytes ++ replicate (16 - length bytes) 0

-- bytes make a name exactly when they keep the rule; it is then the name that packs them, and stands for just these bytes
abbrev pub Checked : List ℕ → Result Name NotAName → Type 0
Checked bytes (Err _) = IsName bytes → ⊥
Checked bytes (Ok name) = IsName bytes × (name ≡ name_of bytes) × (bytes_of name ≡ bytes)
