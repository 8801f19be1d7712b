use Rattle.std.proofs.Common.{◌≡◌, suc, ◌+◌, ◌-◌, refl, arith}
use Rattle.register.proofs.Memory.{loan-then}
use Rattle.script.specs.Answers.{answer_to}
use Rattle.script.specs.Runs.{Cleared}
use Rattle.script.proofs.Carrying.{cleared_more}
use Rattle.script.proofs.shelves.clear.Goals as goal

pub loop-shelf-init : goal.loop-shelf-init
unfolding Cleared
loop-shelf-init c = record { ready = c.requires; way = λ s stands. (s, stands, refl); loan = record { borrow = refl; size = refl; behind = refl } }

pub loop-shelf-preserved : goal.loop-shelf-preserved
loop-shelf-preserved c =
    let shelf = c.loop-shelf.shelf in
    let (s, stands) = c.loop-shelf.invariant.ready in
    let (s₁, stands₁, does) = c.retire_on.ensures.leads s stands in
    let next : shelf + 1 - 65 ≡ suc (shelf - 65) = omega arith in
    let here : shelf ≡ 65 + (shelf - 65) = omega arith in
    record {
      ready = (s₁, stands₁);
      way = rw next (cleared_more c.args.register.now c.loop-shelf.register c.retire_on.new.register (shelf - 65) shelf (answer_to c.retire_on.result) here c.loop-shelf.invariant.way c.retire_on.ensures.leads);
      loan = loan-then c.args.register.now c.loop-shelf.register c.retire_on.new.register c.loop-shelf.invariant.loan c.retire_on.ensures.lent;
    }
