-- Names by their bytes are a kind of key.
use Rattle.std.proofs.Common.{◌≡◌, Less, Greater, Ordering, rules, refl}
use Rattle.std.specs.Cmp.{IsTotalOrder}
use Rattle.std.specs.Cmp.Rules.{comparing}
use Rattle.std.specs.Ordering.{on}
use Rattle.kinds.specs.Lexical.{by_words}
use Rattle.kinds.specs.declared.name.Name.{Name}
use Rattle.pool.specs.declared.node.Words.{Words}
use Rattle.tree.proofs.Bound.{turned}
use Rattle.tree.specs.Kind.{Kind}

abbrev pub by_name : Name → Name → Ordering
by_name a b = by_words a.words b.words

pub total : IsTotalOrder by_name
total = search (comparing, rules)

abbrev pub by_bytes : Kind Name
by_bytes = record {
  words = λ name. name.words;
  key = λ (words : Words). record { words = words };
  order = by_name;
  back = λ name. refl;
  equal = search (comparing, rules);
  same = search (comparing, rules);
  after = λ a b. turned total a b Less;
  before = λ a b. turned total a b Greater;
  chained = total.trans;
}
