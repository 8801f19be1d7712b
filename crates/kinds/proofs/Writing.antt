-- Writing out the bytes before the first zero byte.
use Rattle.std.proofs.Common.{◌≡◌, length, refl}
use Rattle.std.proofs.lemmas.List.{drop_all, length-take-le}
use Rattle.std.proofs.lemmas.List.Folds.{length-prefix_len}
use Rattle.std.proofs.lemmas.List.Sums.{prefix_len-le-length}
use Rattle.kinds.specs.Packed.{spelled}
use Rattle.kinds.specs.declared.name.Name.{Name}

pub length-spelled : (name : Name) → length (spelled name) ≡ 16
unfolding spelled
length-spelled name = refl

-- for sixteen bytes, of which those from the first zero byte on are overwritten with zero bytes
pub ruleset texts = (length-prefix_len, drop_all, prefix_len-le-length, length-spelled)
