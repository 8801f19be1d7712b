-- The order of lists of bytes, as in a dictionary: by the first place where they differ, and a shorter prefix first. And the
-- order of two pairs of words: by the high word, then by the low word.
use Rattle.std.specs.Cmp.Lexicographic.{slice_cmp}
use Rattle.std.specs.Ordering.{nat_cmp, on, then_cmp}
use Rattle.std.specs.Prelude.{ℕ, List}
use Rattle.std.specs.declared.cmp.Ordering.{Ordering}
use Rattle.pool.specs.declared.node.Words.{Words}

abbrev pub lexical : List ℕ → List ℕ → Ordering
lexical = slice_cmp nat_cmp

abbrev pub by_words : Words → Words → Ordering
by_words = then_cmp (on (λ words. words.high) nat_cmp) (on (λ words. words.low) nat_cmp)
