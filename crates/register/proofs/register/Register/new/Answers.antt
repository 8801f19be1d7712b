use Rattle.std.proofs.Common.{◌≡◌, ◌∙◌, ℕ, length, min, arith, take, ap, sym, subst}
use Rattle.std.proofs.lemmas.List.{length-take}
use Rattle.pool.proofs.Pools.{holds_at}
use Rattle.register.proofs.Making.{shows-new}
use Rattle.register.proofs.register.Register.new.Goals as goal
use Rattle.register.specs.Contents.{names}
use Rattle.register.specs.Registers.{pool_of}
use Rattle.register.specs.Shown.{Shows, newly_made}

pub returns-clause-shown : goal.returns-clause-shown
returns-clause-shown g c =
    let e = c.free_first-state.ensures in
    let made = c.over.ensures in
    let p = pool_of c.over.result in
    let memory : take c.over.result.size c.over.result.nodes.now ≡ take c.size_over-size.result c.free_first-state.new.memory = λ i. take (made.size i) (made.nodes i) in
    let size : length (take c.over.result.size c.over.result.nodes.now) ≡ min (length c.args.memory.now) 65535 =
    ap length memory ∙ omega (arith, length-take c.size_over-size.result c.free_first-state.new.memory, e.long, c.size_over-size.ensures) in
    subst (λ (n : ℕ). Shows (names g.N.Key.words g.N.Key.key g.N.Ord.cmp g.N.NameOrder.named g.N.NameOrder.name) p c.over.result.table.lines n (newly_made (min (length c.args.memory.now) 65535) c.args.first_serial)) (sym made.next)
    (shows-new p c.over.result.table.lines made.lines (holds_at p _ _ _ _ memory (ap (λ s. s.free) made.state) (ap (λ s. s.used) made.state) e.free) _ c.args.first_serial _ size (ap (λ s. s.used) made.state ∙ e.used))
