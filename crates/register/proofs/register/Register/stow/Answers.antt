use Rattle.std.proofs.Common.{Some, refl, ap}
use Rattle.register.proofs.Keeping.{the_places}
use Rattle.register.proofs.Shelving.{kept-stowed, stowed-on, unstowed}
use Rattle.register.proofs.Memory.{unwritten}
use Rattle.register.proofs.Telling.{put-at}
use Rattle.register.specs.Tables.{line_of}
use Rattle.register.proofs.Handles.{all-sit, others-rest, sits, state-of-rest, stowable-rests}
use Rattle.register.specs.Calls.{line_handle}
use Rattle.register.proofs.register.Register.stow.Goals as goal
use Rattle.register.specs.Registers.{pool_of}

pub returns-in-Err-clause-told : goal.returns-in-Err-clause-told
returns-in-Err-clause-told g c =
    let self = c.args.self.now in
    record {
      step = unstowed (pool_of self) self.table.lines c.args.line.place c.args.line.serial (line_of self.table.lines c.args.line.place c.args.line.serial) refl c.args.letter _ self.next _ c.in-Err.ensures;
      unchanged = λ _. refl;
    }

pub invariant_of-self : goal.invariant_of-self
invariant_of-self g c =
    let self = c.args.self.now in
    let (xs, k) = the_places (pool_of self) self.table.lines self.kept in
    let stowed = kept-stowed (pool_of self) self.table.lines c.args.line.place c.args.line.serial (Some c.in-Ok.record) c.in-Ok.ensures.0 c.args.letter c.in-Ok.ensures.1 _
    (put-at self.table.lines _ _ _ _ _ c.put.ensures c.spend-place.ensures c.stowed.ensures) xs k in
    unwritten self c.put.new.self.lines _ stowed.1

pub returns-clause-told : goal.returns-clause-told
returns-clause-told g c =
    let self = c.args.self.now in
    record {
      step = stowed-on (pool_of self) self.table.lines c.args.line.place c.args.line.serial (Some c.in-Ok.record) c.in-Ok.ensures.0 c.args.letter c.in-Ok.ensures.1 _
          (put-at self.table.lines _ _ _ _ _ c.put.ensures c.spend-place.ensures c.stowed.ensures) _ self.next;
      unchanged = λ _. refl;
    }

pub returns-clause-lines : goal.returns-clause-lines
returns-clause-lines g c =
    let self = c.args.self.now in
    others-rest self _ _ _ (put-at self.table.lines _ _ _ _ _ c.put.ensures c.spend-place.ensures c.stowed.ensures) (line_handle c.args.line) refl

pub returns-clause-sittings : goal.returns-clause-sittings
returns-clause-sittings g c =
    let self = c.args.self.now in
    all-sit self _ _ _ (put-at self.table.lines _ _ _ _ _ c.put.ensures c.spend-place.ensures c.stowed.ensures) (ap sits (state-of-rest self.table.lines _ _ _ c.in-Ok.ensures.0 (stowable-rests self.table.lines (Some c.in-Ok.record) c.args.letter c.in-Ok.ensures.1)))
