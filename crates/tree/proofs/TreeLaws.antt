-- The laws of the tree, for every kind of key.
use Rattle.std.proofs.Common.{sym, subst}
use Rattle.tree.proofs.Absent.{remove_absent}
use Rattle.tree.proofs.Appends.{appended-items, appended-leans, behind-all}
use Rattle.tree.proofs.Ascends.{put_in-ascends, without-ascends}
use Rattle.tree.proofs.Balances.{balance-rebuilt, insert-grown, remove-shrunk}
use Rattle.tree.proofs.Contents.{balance-items, insert-items, remove-items}
use Rattle.tree.specs.Insert.{compared}
use Rattle.tree.specs.Kind.{Kind}
use Rattle.tree.specs.Laws.{AppendLaws, BalanceLaws, ContentsLaws, OrderLaws, TreeLaws, listed}
use Rattle.tree.specs.Shape.{Ascending}

module _ {K : Type 0} (𝓚 : Kind K) where
  pub contents-laws : ContentsLaws 𝓚
  contents-laws =
      record {
        rebuilt = balance-items 𝓚.key;
        inserted = insert-items 𝓚;
        removed = remove-items 𝓚;
        absent = remove_absent 𝓚.key 𝓚.order;
      }

  pub order-laws : OrderLaws 𝓚
  order-laws =
      record {
        put = put_in-ascends 𝓚;
        dropped = without-ascends 𝓚;
        inserted = λ k word nested t a.
            subst (Ascending 𝓚.order) (sym (insert-items 𝓚 k word nested t a)) (put_in-ascends 𝓚 k word nested (listed 𝓚 t) a);
        removed = λ k t a. subst (Ascending 𝓚.order) (sym (remove-items 𝓚 k t a)) (without-ascends 𝓚 k (listed 𝓚 t) a);
      }

  pub balance-laws : BalanceLaws 𝓚
  balance-laws =
      record {
        rebuilt = balance-rebuilt;
        inserted = λ k word nested t. insert-grown (compared 𝓚.key 𝓚.order k) (𝓚.words k) word nested t;
        removed = λ k t. remove-shrunk (compared 𝓚.key 𝓚.order k) t;
      }

  pub append-laws : AppendLaws 𝓚
  append-laws =
      record {
        behind = behind-all 𝓚.key 𝓚.order;
        last = λ k word nested t h. appended-items 𝓚 k word nested t (behind-all 𝓚.key 𝓚.order k t h);
        leans = λ k word nested. appended-leans (compared 𝓚.key 𝓚.order k) (𝓚.words k) word nested;
      }

  pub tree_laws : TreeLaws 𝓚
  tree_laws = record { contents = contents-laws; order = order-laws; balance = balance-laws; append = append-laws }
