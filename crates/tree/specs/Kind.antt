-- A kind of key: how a key goes into two words and comes back, and how two keys compare, with the laws of an order.
use Rattle.std.specs.Prelude.{◌≡◌}
use Rattle.std.specs.declared.cmp.Ordering.TheVariants.{Less, Equal, Greater}
use Rattle.std.specs.declared.cmp.Ordering.{Ordering}
use Rattle.pool.specs.declared.node.Words.{Words}

pub record Kind (K : Type 0) : Type 0 where
  pub words : K → Words
  pub key : Words → K
  pub order : K → K → Ordering
  -- a key comes back unchanged
  pub back : (k : K) → key (words k) ≡ k
  -- two keys are equal exactly when their words are
  pub equal : (a b : K) → words a ≡ words b → order a b ≡ Equal
  pub same : (a b : K) → order a b ≡ Equal → words a ≡ words b
  -- one is before another exactly when that one is after it
  pub after : (a b : K) → order a b ≡ Less → order b a ≡ Greater
  pub before : (a b : K) → order a b ≡ Greater → order b a ≡ Less
  -- before is transitive
  pub chained : (a b c : K) → order a b ≡ Less → order b c ≡ Less → order a c ≡ Less
