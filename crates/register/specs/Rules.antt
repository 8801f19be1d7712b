-- The rule of names and the range of readings, as tests.
use Rattle.std.specs.Prelude.{ℕ, Bool, true, ◌&&◌, ◌||◌, List, [], ◌∷◌, length, ℤ, pos, neg_ℤ, ◌==◌, int_le, nat_le}

-- A to Z, 0 to 9 or a hyphen
abbrev pub is_name_byte : ℕ → Bool
is_name_byte b = (nat_le 65 b && nat_le b 90) || ((nat_le 48 b && nat_le b 57) || b == 45)

abbrev pub all_name_bytes : List ℕ → Bool
all_name_bytes [] = true
all_name_bytes (b ∷ bs) = is_name_byte b && all_name_bytes bs

-- 1 to 16 such bytes
abbrev pub is_name : List ℕ → Bool
is_name bytes = nat_le 1 (length bytes) && nat_le (length bytes) 16 && all_name_bytes bytes

-- from -1,000,000,000,000 to 1,000,000,000,000 microhertz
abbrev pub in_range : ℤ → Bool
in_range z = int_le (neg_ℤ (pos 1000000000000)) z && int_le z (pos 1000000000000)
