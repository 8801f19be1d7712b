use Rattle.std.proofs.Common.{None, refl}
use Rattle.register.proofs.Keeping.{the_places}
use Rattle.register.proofs.Looked.{first-named}
use Rattle.register.proofs.NextName.{answered, no_line, sheet-ready, sheet-there, too-high}
use Rattle.register.proofs.Passing.{passed}
use Rattle.register.specs.Calls.{asks, line_handle, name_answer, next_name}
use Rattle.register.specs.Registers.{Answers, pool_of}
use Rattle.register.specs.Contents.{names}
use Rattle.register.specs.Found.{sheet_up_to}
use Rattle.register.specs.Places.{owners_of, stages_at}
use Rattle.register.specs.Shown.{at}
use Rattle.register.proofs.Readable.{readable}
use Rattle.register.proofs.register.Register.first_name.Goals as goal
use Rattle.pool.specs.Sound.{memory_of}
use Rattle.pool.proofs.Pools.{sound-memory}

pub returns-in_err-root : goal.returns-in_err-root
returns-in_err-root g c =
    let self = c.args.self.now in
    passed (λ r. Answers (names g.N.Key.words g.N.Key.key g.N.Ord.cmp g.N.NameOrder.named g.N.NameOrder.name) self (asks (line_handle c.args.line.now) c.args.recorded (next_name None)) (name_answer r)) _ _ c.from_residual.ensures.1
    (λ s shows. no_line (names g.N.Key.words g.N.Key.key g.N.Ord.cmp g.N.NameOrder.named g.N.NameOrder.name) (pool_of self) self.table.lines self.next s shows (line_handle c.args.line.now) c.args.recorded None c.in_err-root.field-0.0 (c.in_err-root.ensures.told s shows))

pub find_sheet-requires : goal.find_sheet-requires
find_sheet-requires g c =
    let self = c.args.self.now in
    let (xs, k) = the_places (pool_of self) self.table.lines self.kept in
    record { held = sound-memory (pool_of self) (owners_of xs) k.holds; carried = c.in_ok-root.ensures.ready }

pub returns-in_err-sheet : goal.returns-in_err-sheet
returns-in_err-sheet g c =
    let self = c.args.self.now in
    passed (λ r. Answers (names g.N.Key.words g.N.Key.key g.N.Ord.cmp g.N.NameOrder.named g.N.NameOrder.name) self (asks (line_handle c.args.line.now) c.args.recorded (next_name None)) (name_answer r)) _ _ c.from_residual-in_err-sheet.ensures.1
    (λ s shows. too-high (names g.N.Key.words g.N.Key.key g.N.Ord.cmp g.N.NameOrder.named g.N.NameOrder.name) (pool_of self) self.table.lines self.next s shows (line_handle c.args.line.now) c.args.recorded None c.in_ok-root.root (c.in_ok-root.ensures.told s shows) refl c.ranges.recorded.fits c.from.result c.from.ensures c.in_err-sheet.field-0.0 c.in_err-sheet.ensures)

pub first_on-requires : goal.first_on-requires
first_on-requires g c =
    let self = c.args.self.now in
    let (xs, k) = the_places (pool_of self) self.table.lines self.kept in
    readable _ _ (sound-memory (pool_of self) (owners_of xs) k.holds) (sheet-ready (memory_of (pool_of self)) c.in_ok-root.root c.from.result c.in_ok-sheet.sheet c.in_ok-sheet.ensures c.in_ok-root.ensures.ready)

pub returns : goal.returns
returns g c = λ s shows.
    let self = c.args.self.now in
    let there = sheet-there (names g.N.Key.words g.N.Key.key g.N.Ord.cmp g.N.NameOrder.named g.N.NameOrder.name) (pool_of self) self.table.lines self.next s shows (line_handle c.args.line.now) c.args.recorded None c.in_ok-root.root (c.in_ok-root.ensures.told s shows) refl c.ranges.recorded.fits c.from.result c.from.ensures c.in_ok-sheet.sheet c.in_ok-sheet.ensures in
    answered (names g.N.Key.words g.N.Key.key g.N.Ord.cmp g.N.NameOrder.named g.N.NameOrder.name) (pool_of self) self.table.lines self.next s shows (line_handle c.args.line.now) c.args.recorded None c.in_ok-root.root (c.in_ok-root.ensures.told s shows) refl c.ranges.recorded.fits c.from.result c.from.ensures c.in_ok-sheet.sheet c.in_ok-sheet.ensures _ (first-named (names g.N.Key.words g.N.Key.key g.N.Ord.cmp g.N.NameOrder.named g.N.NameOrder.name) (sheet_up_to c.from.result (stages_at (at s (line_handle c.args.line.now))).tree) c.first_on.result (c.first_on.ensures _ there))
