use Rattle.std.proofs.Common.{Some, sym, refl, ap, ◌∙◌}
use Rattle.register.specs.Calls.{handed, line_answer, opens, line_handle}
use Rattle.register.specs.Contents.{names}
use Rattle.register.specs.Registers.{Tells, pool_of}
use Rattle.register.proofs.Passing.{passed}
use Rattle.register.proofs.Keeping.{the_places}
use Rattle.register.proofs.Memory.{unwritten}
use Rattle.register.proofs.Opening.{kept-opened, opened, unopened}
use Rattle.register.proofs.Telling.{put-at, made_at}
use Rattle.register.proofs.Handles.{all-rest, all-sit, rests, rests-now, sits, vacant}
use Rattle.register.proofs.register.Register.open_line.Goals as goal

pub returns-in_err-place-clause-told : goal.returns-in_err-place-clause-told
returns-in_err-place-clause-told g c =
    let self = c.args.self.now in
    passed (λ r. Tells (names g.N.Key.words g.N.Key.key g.N.Ord.cmp g.N.NameOrder.named g.N.NameOrder.name) self opens (line_answer r) self) _ _ c.from_residual.ensures.1 (record { step = unopened (pool_of self) self.table.lines self.next _ _ c.in_err-place.ensures; unchanged = λ _. refl })

pub invariant_of-self : goal.invariant_of-self
invariant_of-self g c =
    let self = c.args.self.now in
    let (xs, k) = the_places (pool_of self) self.table.lines self.kept in
    unwritten self c.put.new.self.lines _
    (kept-opened (pool_of self) self.table.lines self.next c.in_ok-place.place c.in_ok-place.ensures _ (put-at self.table.lines _ _ _ _ _ c.put.ensures refl (made_at _ _ _ 0 c.next_serial-serial.ensures.serial c.resting.ensures)) xs k)

pub returns-clause-told : goal.returns-clause-told
returns-clause-told g c =
    let self = c.args.self.now in
    let serial = c.next_serial-serial.ensures.serial in
    record {
      step = λ s shows.
          let (s', shows', step) = opened (pool_of self) self.table.lines self.next c.in_ok-place.place c.in_ok-place.ensures _ (put-at self.table.lines _ _ _ _ _ c.put.ensures refl (made_at _ _ _ 0 serial c.resting.ensures)) _ _
          (λ i. handed (record { place = c.from_parts.ensures.place i; serial = (c.from_parts.ensures.serial ∙ serial) i })) s shows in
          (s', rw c.next_serial-serial.ensures.next shows', step);
      unchanged = λ _. refl;
    }

pub returns-clause-rests : goal.returns-clause-rests
returns-clause-rests g c =
    let self = c.args.self.now in
    let free = vacant self.table.lines self.next c.in_ok-place.place c.in_ok-place.ensures in
    rests-now self _ _ _ c.put.ensures (line_handle c.from_parts.result) 0 c.from_parts.ensures.place free.0 (ap Some (made_at _ _ _ 0 (sym c.from_parts.ensures.serial) c.resting.ensures))

pub returns-clause-lines : goal.returns-clause-lines
returns-clause-lines g c =
    let self = c.args.self.now in
    let free = vacant self.table.lines self.next c.in_ok-place.place c.in_ok-place.ensures in
    all-rest self _ _ _ c.put.ensures (ap rests free.2)

pub returns-clause-sittings : goal.returns-clause-sittings
returns-clause-sittings g c =
    let self = c.args.self.now in
    let free = vacant self.table.lines self.next c.in_ok-place.place c.in_ok-place.ensures in
    all-sit self _ _ _ c.put.ensures (ap sits free.2)
