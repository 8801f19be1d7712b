use Rattle.std.proofs.Common.{◌≡◌, ◌∙◌, rules, ℕ, List, length, min, take, drop, is_ok, None, sym, ap, subst, refl}
use Rattle.pool.specs.declared.node.Node.{Node}
use Rattle.register.proofs.Fronts.{front-whole, rest-whole}
use Rattle.register.proofs.Memory.{loan-behind}
use Rattle.register.specs.Registers.{pool_of}
use Rattle.register.specs.Shown.{newly_made}
use Rattle.report.specs.Report.{used}
use Rattle.script.proofs.Starting.{reported, stands-new}
use Rattle.script.proofs.Whole.{ran-script}
use Rattle.script.specs.Runs.{beginning}
use Rattle.script.specs.Scripts.{outcome}
use Rattle.script.specs.Standings.{moment}
use Rattle.script.specs.Whole.{RanScript}
use Rattle.script.proofs.runner.run_short.Goals as goal

pub run_whole-whole-requires-clause-ready : goal.run_whole-whole-requires-clause-ready
run_whole-whole-requires-clause-ready c =
    let nodes = min (length c.args.nodes.now) 65535 in
    (newly_made nodes c.args.first_serial, stands-new c.new-register.result nodes c.args.first_serial c.new-register.ensures.shown)

pub returns-clause-beyond : goal.returns-clause-beyond
returns-clause-beyond c =
    let first = c.new-register.result in
    let n = c.new-register.ensures in
    let last = c.run_whole-whole.new.register in
    let loan = c.run_whole-whole.ensures.lent in
    let is : last.nodes.now ≡ c.nodes-1.given.0 = search (rules, sym, loan.borrow ∙ n.borrow) in
    subst (λ (m : List Node). drop 65535 m ≡ drop 65535 c.args.nodes.now) is
    (rest-whole 65535 last.size c.args.nodes.now last.nodes.now (loan.size ∙ n.size) last.within (loan-behind first last loan c.args.nodes.now n.behind))

pub returns-clause-ran : goal.returns-clause-ran
returns-clause-ran c =
    let nodes = min (length c.args.nodes.now) 65535 in
    let first = c.new-register.result in
    let n = c.new-register.ensures in
    let last = c.run_whole-whole.new.register in
    let loan = c.run_whole-whole.ensures.lent in
    let is : last.nodes.now ≡ c.nodes-1.given.0 = search (rules, sym, loan.borrow ∙ n.borrow) in
    let front = front-whole 65535 last.size c.args.nodes.now last.nodes.now (loan.size ∙ n.size) last.within (loan-behind first last loan c.args.nodes.now n.behind) in
    let report = c.run_whole-whole.new.report in
    let says : c.map_err.result ≡ outcome (is_ok c.run_whole-whole.result) (used report) = search rules in
    let (t, shows, none, done) = c.run_whole-whole.ensures.finished (newly_made nodes c.args.first_serial) (stands-new first nodes c.args.first_serial n.shown) c.new-report.ensures.empty in
    let told = reported (moment last t) (beginning (pool_of first) nodes c.args.first_serial) c.args.script.now c.run_whole-whole.result c.map_err.result report c.args.out.now _ done says (search rules) (search rules) in
    subst (λ (m : List Node). RanScript nodes c.args.first_serial c.args.script.now c.map_err.result c.args.out.now c.out-1.given.0 (take 65535 m)) is
    (ran-script first last nodes c.args.first_serial n.shown t shows none c.args.script.now c.map_err.result c.args.out.now _ told (take 65535 last.nodes.now) front)
