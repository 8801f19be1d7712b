use Rattle.std.proofs.Common.{refl, arith, Some, ap, sym, ◌∙◌}
use Rattle.pool.proofs.Pools.{holds-in}
use Rattle.register.specs.Calls.{handed, line_handle}
use Rattle.register.proofs.Changing.{length-places}
use Rattle.register.proofs.Keeping.{the_places}
use Rattle.register.proofs.Memory.{by-parts, left_in, reopened, rewritten, shown-joined}
use Rattle.register.proofs.Opening.{branched, crowded, kept-branched, retainable, unbranched}
use Rattle.register.proofs.Owning.{length-owners}
use Rattle.register.proofs.Telling.{never, put-at, made_at}
use Rattle.register.specs.Places.{owners_of}
use Rattle.register.specs.Registers.{pool_of}
use Rattle.register.specs.Tables.{line_of}
use Rattle.register.proofs.Handles.{all-rest, all-sit, apart-from, record-there, rest-still, rests, rests-now, sit-still, sits, vacant}
use Rattle.register.proofs.register.Register.branch.Goals as goal

pub returns-in_default-clause-told : goal.returns-in_default-clause-told
returns-in_default-clause-told g c =
    let self = c.args.self.now in
    record {
      step = unbranched (pool_of self) self.table.lines c.args.line.place c.args.line.serial (line_of self.table.lines c.args.line.place c.args.line.serial) refl self.next _ c.in_default.ensures.0;
      unchanged = λ _. refl;
    }

pub returns-in_default-clause-same : goal.returns-in_default-clause-same
returns-in_default-clause-same g c = λ _. reopened c.args.self.now _ _ _ _

pub returns-in-Err-clause-told : goal.returns-in-Err-clause-told
returns-in-Err-clause-told g c =
    let self = c.args.self.now in
    record {
      step = crowded (pool_of self) self.table.lines c.args.line.place c.args.line.serial (Some c.in-Ok.record) c.in-Ok.ensures.0 self.next c.in-Ok.ensures.1 _ _ c.in-Err.ensures;
      unchanged = λ _. refl;
    }

pub returns-in-Err-clause-same : goal.returns-in-Err-clause-same
returns-in-Err-clause-same g c = λ _. reopened c.args.self.now _ _ _ _

pub branch_off-new-requires : goal.branch_off-new-requires
branch_off-new-requires g c =
    let self = c.args.self.now in
    let (xs, k) = the_places (pool_of self) self.table.lines self.kept in
    let few = length-places (pool_of self) self.table.lines xs k in
    record {
      held = (owners_of xs, holds-in (pool_of self) _ k.holds, omega (arith, few, length-owners xs, self.table.sized));
      carried = retainable (pool_of self) self.table.lines c.args.line.place c.args.line.serial (Some c.in-Ok.record) c.in-Ok.ensures.0 self.next c.in-Ok.ensures.1 xs k;
    }

pub invariant_of-self-3 : goal.invariant_of-self-3
invariant_of-self-3 g c =
    let self = c.args.self.now in
    let e = c.branch_off-new.ensures in
    let p' = left_in self c.branch_off-new.new.nodes c.branch_off-new.new.state e.size in
    let (xs, k) = the_places (pool_of self) self.table.lines self.kept in
    rewritten self c.branch_off-new.new.nodes c.branch_off-new.new.state e.size c.put.new.self.lines _
    (kept-branched (pool_of self) self.table.lines c.args.line.place c.args.line.serial (Some c.in-Ok.record) c.in-Ok.ensures.0 self.next c.in-Ok.ensures.1
    c.in-Ok-vacancy.place c.in-Ok-vacancy.ensures p' _ (put-at self.table.lines _ _ _ _ _ c.put.ensures refl (made_at _ _ _ _ c.next_serial-serial.ensures.serial e.made))
    (λ t hs h carries. by-parts (pool_of self) p' _ _ (λ held. e.owned t hs held carries) h) xs k)

pub returns-clause-told : goal.returns-clause-told
returns-clause-told g c =
    let self = c.args.self.now in
    let e = c.branch_off-new.ensures in
    let p' = left_in self c.branch_off-new.new.nodes c.branch_off-new.new.state e.size in
    record {
      step = λ s shows.
          let (s', shows', step) = shown-joined self c.branch_off-new.new.nodes c.branch_off-new.new.state e.size _ _ _
          (branched (pool_of self) self.table.lines c.args.line.place c.args.line.serial (Some c.in-Ok.record) c.in-Ok.ensures.0 self.next c.in-Ok.ensures.1
          c.in-Ok-vacancy.place c.in-Ok-vacancy.ensures p' _ (put-at self.table.lines _ _ _ _ _ c.put.ensures refl (made_at _ _ _ _ c.next_serial-serial.ensures.serial e.made))
          (λ t hs h carries. by-parts (pool_of self) p' _ _ (λ held. e.owned t hs held carries) h) _ _
          (λ i. handed (record { place = c.from_parts.ensures.place i; serial = (c.from_parts.ensures.serial ∙ c.next_serial-serial.ensures.serial) i })) e.size e.used s shows) in
          (s', rw c.next_serial-serial.ensures.next shows', step);
      unchanged = never;
    }

pub returns-in_default-clause-lines : goal.returns-in_default-clause-lines
returns-in_default-clause-lines g c = rest-still c.args.self.now _ refl

pub returns-in_default-clause-sittings : goal.returns-in_default-clause-sittings
returns-in_default-clause-sittings g c = sit-still c.args.self.now _ refl

pub returns-in-Err-clause-lines : goal.returns-in-Err-clause-lines
returns-in-Err-clause-lines g c = rest-still c.args.self.now _ refl

pub returns-in-Err-clause-sittings : goal.returns-in-Err-clause-sittings
returns-in-Err-clause-sittings g c = sit-still c.args.self.now _ refl

pub returns-clause-rests : goal.returns-clause-rests
returns-clause-rests g c =
    let self = c.args.self.now in
    let free = vacant self.table.lines self.next c.in-Ok-vacancy.place c.in-Ok-vacancy.ensures in
    rests-now self _ _ _ c.put.ensures (line_handle c.from_parts.result) c.in-Ok.record.root c.from_parts.ensures.place free.0 (ap Some (made_at _ _ _ _ (sym c.from_parts.ensures.serial) c.branch_off-new.ensures.made))

pub returns-clause-apart : goal.returns-clause-apart
returns-clause-apart g c =
    let self = c.args.self.now in
    let free = vacant self.table.lines self.next c.in-Ok-vacancy.place c.in-Ok-vacancy.ensures in
    λ e. apart-from self.table.lines c.in-Ok-vacancy.place c.args.line.place c.in-Ok.record free.1 (record-there self.table.lines _ _ _ c.in-Ok.ensures.0).0 (sym c.from_parts.ensures.place ∙ e)

pub returns-clause-lines : goal.returns-clause-lines
returns-clause-lines g c =
    let self = c.args.self.now in
    let free = vacant self.table.lines self.next c.in-Ok-vacancy.place c.in-Ok-vacancy.ensures in
    all-rest self _ _ _ c.put.ensures (ap rests free.2)

pub returns-clause-sittings : goal.returns-clause-sittings
returns-clause-sittings g c =
    let self = c.args.self.now in
    let free = vacant self.table.lines self.next c.in-Ok-vacancy.place c.in-Ok-vacancy.ensures in
    all-sit self _ _ _ c.put.ensures (ap sits free.2)
