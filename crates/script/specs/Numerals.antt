-- What a field's text says: a number, an instant, a reading, or one byte.
-- A number is 1 to 18 digits without a needless leading zero. A reading may have one minus sign in front, but -0 is none.
use Rattle.std.specs.Prelude.{◌≡◌, ℕ, ◌+◌, ◌-◌, ◌*◌, ◌^◌, ◌<◌, Bool, cond, not, ◌&&◌, ◌||◌, List, [], ◌∷◌, length, ℤ, pos, neg_ℤ, Some, None, decimal, Option, ◌==◌, nat_le, slice_index, unsigned_abs}
use Rattle.std.specs.Option.{option_map, option_or}
use Rattle.std.specs.Fmt.{signed_decimal}
use Rattle.std.specs.Str.{all_ascii_digits}

-- the number that digits write after the number so far
abbrev pub digits_after : ℕ → List ℕ → ℕ
digits_after number [] = number
digits_after number (digit ∷ digits) = digits_after (number * 10 + (digit - 48)) digits

-- 1 to 18 bytes, and a zero in front only where it stands alone
abbrev pub plain_size : List ℕ → Bool
plain_size text = nat_le 1 (length text) && nat_le (length text) 18 && (length text == 1 || not (slice_index text 0 == 48))

-- the number that digits write, and none where another byte stands
abbrev pub digits_of : List ℕ → Option ℕ
digits_of text = cond (all_ascii_digits text) (Some (digits_after 0 text)) None

abbrev pub number_of : List ℕ → Option ℕ
number_of text = cond (plain_size text && all_ascii_digits text) (Some (digits_after 0 text)) None

-- a number of at most 32 bits
abbrev pub fitting : Option ℕ → Option ℕ
fitting None = None
fitting (Some number) = cond (nat_le number 4294967295) (Some number) None

abbrev pub instant_of : List ℕ → Option ℕ
instant_of text = fitting (number_of text)

-- the number after a minus sign
abbrev pub after_minus : List ℕ → Option ℕ
after_minus [] = None
after_minus (first ∷ rest) = cond (first == 45) (number_of rest) None

abbrev pub nonzero : Option ℕ → Option ℕ
nonzero None = None
nonzero (Some number) = cond (number == 0) None (Some number)

abbrev pub magnitude_of : List ℕ → Option ℕ
magnitude_of text = nonzero (after_minus text)

-- a reading is a number, or a minus sign and its magnitude
abbrev pub reading_of : List ℕ → Option ℤ
reading_of text = option_or (option_map pos (number_of text)) (option_map (λ magnitude. neg_ℤ (pos magnitude)) (magnitude_of text))

-- the byte of a text of one byte
abbrev pub byte_of : List ℕ → Option ℕ
byte_of [] = None
byte_of (byte ∷ []) = Some byte
byte_of (byte ∷ next ∷ bytes) = None

-- A text says the number just where the number is below 10^18 and its decimal text is this one.
pub record NumberWritten (text : List ℕ) : Type 0 where
  pub reads : (number : ℕ) → number_of text ≡ Some number → (text ≡ decimal number) × (number < 10 ^ 18)
  pub writes : (number : ℕ) → text ≡ decimal number → number < 10 ^ 18 → number_of text ≡ Some number

-- The same of a reading, whose magnitude is below 10^18.
pub record ReadingWritten (text : List ℕ) : Type 0 where
  pub reads : (reading : ℤ) → reading_of text ≡ Some reading → (text ≡ signed_decimal reading) × (unsigned_abs reading < 10 ^ 18)
  pub writes : (reading : ℤ) → text ≡ signed_decimal reading → unsigned_abs reading < 10 ^ 18 → reading_of text ≡ Some reading
