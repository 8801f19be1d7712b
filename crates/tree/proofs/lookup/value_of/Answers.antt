use Rattle.std.proofs.Common.{ℤ, ap, ◌∙◌, w64, SFits, rules}
use Rattle.std.proofs.lemmas.Int.{to_z-of_z}
use Rattle.tree.proofs.lookup.value_of.Goals as goal

pub returns : goal.returns
returns g c =
    let f : SFits w64 c.args.node.word = search rules in
    c.from_parts.ensures ∙ ap (λ (z : ℤ). g.V.Value.value z c.args.node.nested) (to_z-of_z w64 _ f)
