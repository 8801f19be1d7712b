use Rattle.std.proofs.Common.{◌≡◌, ◌∙◌, rules, ℕ, List, min, map, length, take, drop, refl, sym, subst, arith}
use Rattle.tree.proofs.Bound.{kind_of}
use Rattle.pool.specs.declared.node.Node.{Node}
use Rattle.register.proofs.Fronts.{front-whole, rest-whole}
use Rattle.register.proofs.Memory.{loan-behind}
use Rattle.register.proofs.Performing.{next-turn, none_yet, ran}
use Rattle.register.proofs.Telling.{asked}
use Rattle.register.specs.Contents.{names}
use Rattle.register.specs.Law.{Ran}
use Rattle.register.specs.Plain.{answer_of, call_of, question_of}
use Rattle.register.specs.Registers.{pool_of}
use Rattle.register.specs.Shown.{newly_made}
use Rattle.register.specs.declared.run.Action.TheVariants.{Open}
use Rattle.register.specs.declared.run.Call.TheVariants.{Do, Ask}
use Rattle.register.proofs.run.carry_out.Goals as goal
use Rattle.register.proofs.run.carry_out.Goals.{in-Do, in-Ask}

pub loop-turn-init : goal.loop-turn-init
loop-turn-init g c = record {
  rest = refl;
  loan = record { borrow = refl; size = refl; behind = refl };
  so-far = λ s shows. none_yet (names g.N.Key.words g.N.Key.key g.N.Ord.cmp g.N.NameOrder.named g.N.NameOrder.name) s _ _ _ shows;
}

pub loop-turn-preserved : goal.loop-turn-preserved
loop-turn-preserved g c =
    let short : c.args.most ≡ _ = c.requires in
    elim c.match-calls-turn.branch [
      | in-Do w ↦ next-turn {N = g.row.N.Denot} (names g.N.Key.words g.N.Key.key g.N.Ord.cmp g.N.NameOrder.named g.N.NameOrder.name) c.new-register.result c.args.calls.now c.args.answers.now c.loop-turn.turn c.loop-turn.answers c.loop-turn.register (omega arith) (omega arith) c.loop-turn.auto.answers c.loop-turn.invariant (Do Open) (Do w.in-Do.action) w.in-Do.is w.perform.result _ w.perform.new.self _ w.perform.ensures.told w.perform.ensures.lent w.register-is w.answers-is
      | in-Ask w ↦ next-turn {N = g.row.N.Denot} (names g.N.Key.words g.N.Key.key g.N.Ord.cmp g.N.NameOrder.named g.N.NameOrder.name) c.new-register.result c.args.calls.now c.args.answers.now c.loop-turn.turn c.loop-turn.answers c.loop-turn.register (omega arith) (omega arith) c.loop-turn.auto.answers c.loop-turn.invariant (Do Open) (Ask w.in-Ask.question) w.in-Ask.is w.ask.result _ c.loop-turn.register _
          (asked {N = g.row.N.Denot} (names g.N.Key.words g.N.Key.key g.N.Ord.cmp g.N.NameOrder.named g.N.NameOrder.name) c.loop-turn.register (question_of w.in-Ask.question) (answer_of w.ask.result) w.ask.ensures) (record { borrow = refl; size = refl; behind = refl }) w.register-is w.answers-is
    ]

pub returns-clause-ran : goal.returns-clause-ran
returns-clause-ran g c =
    let end : c.loop-turn.turn ≡ c.args.most = omega arith in
    let so = c.loop-turn.invariant in
    let first = c.new-register.result in
    let n = c.new-register.ensures in
    let last = c.loop-turn.register in
    let front = front-whole 65535 last.size c.args.memory.now last.nodes.now (so.loan.size ∙ n.size) last.within (loan-behind first last so.loan c.args.memory.now n.behind) in
    let is : last.nodes.now ≡ c.memory-1.given.0 = search (rules, sym, so.loan.borrow ∙ n.borrow) in
    subst (λ (m : List Node). Ran (names g.N.Key.words g.N.Key.key g.N.Ord.cmp g.N.NameOrder.named g.N.NameOrder.name) (newly_made (min (length c.args.memory.now) 65535) c.args.first_serial) (map call_of (take c.args.most c.args.calls.now)) (map answer_of (take c.args.most c.loop-turn.answers)) (take 65535 m)) is
    (subst (λ (k : ℕ). Ran (names g.N.Key.words g.N.Key.key g.N.Ord.cmp g.N.NameOrder.named g.N.NameOrder.name) (newly_made (min (length c.args.memory.now) 65535) c.args.first_serial) (map call_of (take k c.args.calls.now)) (map answer_of (take k c.loop-turn.answers)) (take 65535 last.nodes.now)) end
    (ran (kind_of g.met.N.Key g.met.N.Ord.total) g.N.NameOrder.named g.N.NameOrder.name g.met.N.NameOrder.kept _ c.args.first_serial _ _ (pool_of first) first.table.lines first.next n.shown (pool_of last) last.table.lines last.next (so.so-far _ n.shown) _ front))

pub returns-clause-beyond : goal.returns-clause-beyond
returns-clause-beyond g c =
    let so = c.loop-turn.invariant in
    let n = c.new-register.ensures in
    let last = c.loop-turn.register in
    let is : last.nodes.now ≡ c.memory-1.given.0 = search (rules, sym, so.loan.borrow ∙ n.borrow) in
    subst (λ (m : List Node). drop 65535 m ≡ drop 65535 c.args.memory.now) is
    (rest-whole 65535 last.size c.args.memory.now last.nodes.now (so.loan.size ∙ n.size) last.within (loan-behind c.new-register.result last so.loan c.args.memory.now n.behind))
