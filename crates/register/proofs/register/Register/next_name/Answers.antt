use Rattle.std.proofs.Common.{not, Some, ap, ◌∙◌}
use Rattle.std.specs.Option.{option_map}
use Rattle.register.proofs.Keeping.{the_places}
use Rattle.register.proofs.Looked.{next-named}
use Rattle.register.proofs.NextName.{answered, no_line, no_name, sheet-in-order, sheet-ready, sheet-there, too-high}
use Rattle.register.proofs.Ruled.{name-fails, name-passes}
use Rattle.register.proofs.Passing.{passed}
use Rattle.register.specs.Calls.{asks, line_handle, name_answer, next_name}
use Rattle.register.specs.Registers.{Answers, pool_of}
use Rattle.register.specs.Asked.{next_name as next}
use Rattle.register.specs.Contents.{names, sheet_of}
use Rattle.register.specs.Found.{sheet_up_to}
use Rattle.register.specs.Places.{owners_of, stages_at}
use Rattle.register.specs.Shown.{at}
use Rattle.register.proofs.Readable.{readable}
use Rattle.register.proofs.register.Register.next_name.Goals as goal
use Rattle.pool.specs.Sound.{memory_of}
use Rattle.pool.proofs.Pools.{sound-memory}

pub returns-in_err-root : goal.returns-in_err-root
returns-in_err-root g c =
    let self = c.args.self.now in
    passed (λ r. Answers (names g.N.Key.words g.N.Key.key g.N.Ord.cmp g.N.NameOrder.named g.N.NameOrder.name) self (asks (line_handle c.args.line.now) c.args.recorded (next_name (Some c.args.name.now))) (name_answer r)) _ _ c.from_residual.ensures.1
    (λ s shows. no_line (names g.N.Key.words g.N.Key.key g.N.Ord.cmp g.N.NameOrder.named g.N.NameOrder.name) (pool_of self) self.table.lines self.next s shows (line_handle c.args.line.now) c.args.recorded (Some c.args.name.now) c.in_err-root.field-0.0 (c.in_err-root.ensures.told s shows))

pub returns-in_err-name : goal.returns-in_err-name
returns-in_err-name g c =
    let self = c.args.self.now in
    passed (λ r. Answers (names g.N.Key.words g.N.Key.key g.N.Ord.cmp g.N.NameOrder.named g.N.NameOrder.name) self (asks (line_handle c.args.line.now) c.args.recorded (next_name (Some c.args.name.now))) (name_answer r)) _ _ c.from_residual-in_err-name.ensures.1
    (λ s shows. no_name (names g.N.Key.words g.N.Key.key g.N.Ord.cmp g.N.NameOrder.named g.N.NameOrder.name) (pool_of self) self.table.lines self.next s shows (line_handle c.args.line.now) c.args.recorded (Some c.args.name.now) c.in_ok-root.root (c.in_ok-root.ensures.told s shows) (ap not (name-fails c.args.name.now c.in_err-name.ensures)))

pub find_sheet-requires : goal.find_sheet-requires
find_sheet-requires g c =
    let self = c.args.self.now in
    let (xs, k) = the_places (pool_of self) self.table.lines self.kept in
    record { held = sound-memory (pool_of self) (owners_of xs) k.holds; carried = c.in_ok-root.ensures.ready }

pub returns-in_err-sheet : goal.returns-in_err-sheet
returns-in_err-sheet g c =
    let self = c.args.self.now in
    passed (λ r. Answers (names g.N.Key.words g.N.Key.key g.N.Ord.cmp g.N.NameOrder.named g.N.NameOrder.name) self (asks (line_handle c.args.line.now) c.args.recorded (next_name (Some c.args.name.now))) (name_answer r)) _ _ c.from_residual-in_err-sheet.ensures.1
    (λ s shows. too-high (names g.N.Key.words g.N.Key.key g.N.Ord.cmp g.N.NameOrder.named g.N.NameOrder.name) (pool_of self) self.table.lines self.next s shows (line_handle c.args.line.now) c.args.recorded (Some c.args.name.now) c.in_ok-root.root (c.in_ok-root.ensures.told s shows) (ap not (name-passes c.args.name.now c.in_ok-name.ensures.0)) c.ranges.recorded.fits c.from.result c.from.ensures c.in_err-sheet.field-0.0 c.in_err-sheet.ensures)

pub first_after-requires : goal.first_after-requires
first_after-requires g c =
    let self = c.args.self.now in
    let (xs, k) = the_places (pool_of self) self.table.lines self.kept in
    readable _ _ (sound-memory (pool_of self) (owners_of xs) k.holds) (sheet-ready (memory_of (pool_of self)) c.in_ok-root.root c.from.result c.in_ok-sheet.sheet c.in_ok-sheet.ensures c.in_ok-root.ensures.ready)

pub returns : goal.returns
returns g c = λ s shows.
    let self = c.args.self.now in
    let there = sheet-there (names g.N.Key.words g.N.Key.key g.N.Ord.cmp g.N.NameOrder.named g.N.NameOrder.name) (pool_of self) self.table.lines self.next s shows (line_handle c.args.line.now) c.args.recorded (Some c.args.name.now) c.in_ok-root.root (c.in_ok-root.ensures.told s shows) (ap not (name-passes c.args.name.now c.in_ok-name.ensures.0)) c.ranges.recorded.fits c.from.result c.from.ensures c.in_ok-sheet.sheet c.in_ok-sheet.ensures in
    answered (names g.N.Key.words g.N.Key.key g.N.Ord.cmp g.N.NameOrder.named g.N.NameOrder.name) (pool_of self) self.table.lines self.next s shows (line_handle c.args.line.now) c.args.recorded (Some c.args.name.now) c.in_ok-root.root (c.in_ok-root.ensures.told s shows) (ap not (name-passes c.args.name.now c.in_ok-name.ensures.0)) c.ranges.recorded.fits c.from.result c.from.ensures c.in_ok-sheet.sheet c.in_ok-sheet.ensures _ (next-named (names g.N.Key.words g.N.Key.key g.N.Ord.cmp g.N.NameOrder.named g.N.NameOrder.name) c.from_name.result (sheet_up_to c.from.result (stages_at (at s (line_handle c.args.line.now))).tree) c.first_after.result (c.first_after.ensures _ there (sheet-in-order (names g.N.Key.words g.N.Key.key g.N.Ord.cmp g.N.NameOrder.named g.N.NameOrder.name) (pool_of self) self.table.lines self.next s shows (line_handle c.args.line.now) c.args.recorded (Some c.args.name.now) c.in_ok-root.root (c.in_ok-root.ensures.told s shows) (ap not (name-passes c.args.name.now c.in_ok-name.ensures.0)) c.ranges.recorded.fits c.from.result c.from.ensures c.in_ok-sheet.sheet c.in_ok-sheet.ensures))
    ∙ ap (λ (k : g.row.N.Denot). option_map g.N.NameOrder.name (next (names g.N.Key.words g.N.Key.key g.N.Ord.cmp g.N.NameOrder.named g.N.NameOrder.name) (Some k) (sheet_of (names g.N.Key.words g.N.Key.key g.N.Ord.cmp g.N.NameOrder.named g.N.NameOrder.name) (sheet_up_to c.from.result (stages_at (at s (line_handle c.args.line.now))).tree)))) (c.from_name.ensures ∙ ap g.N.NameOrder.named c.in_ok-name.ensures.1))
