use Rattle.std.proofs.Common.{◌≡◌, ℕ, ◌<◌, List, ◌∷◌, length, refl, ap, ◌∙◌, sym, arith, rules}
use Rattle.register.proofs.Memory.{loan-then}
use Rattle.report.proofs.Writing.{same-then}
use Rattle.script.specs.Fields.{fields_of, left}
use Rattle.script.specs.Lines.{line_bytes, lines_left, lines_of}
use Rattle.script.proofs.Cuts.{all-left}
use Rattle.script.proofs.Running.{lines-le, refusals-le}
use Rattle.script.proofs.Turning.{on-way, turned-cut, turned-empty, turned-line, turned-none}
use Rattle.script.proofs.runner.Progress.run_lines.Goals as goal

pub loop-line-init : goal.loop-line-init
loop-line-init c =
    let few = lines-le c.args.script.now in
    let made : lines_left c.into_iter-line-iterator.result ≡ lines_of c.args.script.now =
    ap lines_left c.into_iter-line-iterator.ensures.into_iter_gives ∙ all-left c.new-line-items.result c.args.script.now c.new-line-items.ensures.script c.new-line-items.ensures.start in
    let (lines, refused) = c.requires.first in
    rw (made, lines, refused) (record {
      counted = omega (arith, few, c.requires.short);
      fewer = omega arith;
      same = record { lent = refl; kept = refl };
      ready = c.requires.ready;
      way = on-way c.args.report.now c.args.script.now c.args.register.now;
      loan = record { borrow = refl; size = refl; behind = refl };
    })

pub loop-line-preserved-then-is_empty : goal.loop-line-preserved-then-is_empty
loop-line-preserved-then-is_empty c =
    let turn = c.loop-line in
    let step : lines_left turn.line-iterator ≡ line_bytes c.in-Some.line ∷ lines_left c.next.new.self = search rules in
    let none : length (line_bytes c.in-Some.line) ≡ 0 = search rules in
    let more = ap (λ (xs : List (List ℕ)). length xs) step in
    record {
      counted = omega (arith, more, turn.invariant.counted);
      fewer = omega (arith, turn.invariant.fewer);
      same = turn.invariant.same;
      ready = turn.invariant.ready;
      way = turned-empty c.args.register.now turn.register turn.seat c.args.report.now turn.report c.args.script.now (lines_left turn.line-iterator) turn.self.lines turn.self.refused turn.invariant.way
          (line_bytes c.in-Some.line) (lines_left c.next.new.self) step none;
      loan = turn.invariant.loan;
    }

pub loop-line-preserved : goal.loop-line-preserved
loop-line-preserved c =
    let turn = c.loop-line in
    let wrote = c.run_line-ran.ensures in
    let step : lines_left turn.line-iterator ≡ line_bytes c.in-Some.line ∷ lines_left c.next.new.self = search rules in
    let read : left c.fields.result ≡ fields_of (line_bytes c.in-Some.line) = c.fields.ensures.fields in
    let some : 0 < length (line_bytes c.in-Some.line) = search rules in
    let more = ap (λ (xs : List (List ℕ)). length xs) step in
    let (s, stands) = turn.invariant.ready in
    let (s₁, stands₁, ran) = wrote.ran s stands in
    let one = refusals-le ran.answer in
    record {
      counted = omega (arith, more, turn.invariant.counted, wrote.counted);
      fewer = omega (arith, one, turn.invariant.fewer, wrote.counted, ran.counted);
      same = same-then turn.invariant.same wrote.same;
      ready = (s₁, stands₁);
      way = rw wrote.counted (turned-line c.args.register.now turn.register turn.seat c.args.report.now turn.report c.args.script.now (lines_left turn.line-iterator) turn.self.lines turn.self.refused turn.invariant.way
          (line_bytes c.in-Some.line) (lines_left c.next.new.self) step some c.run_line-ran.new.report wrote.same.kept (left c.fields.result) read c.run_line-ran.new.register c.run_line-ran.result.1 c.run_line-ran.result.0 c.run_line-ran.new.self.refused wrote.ran
          (sym c.is_err.ensures.value ∙ c.if-is_err.false));
      loan = loan-then c.args.register.now turn.register c.run_line-ran.new.register turn.invariant.loan wrote.lent;
    }

pub returns-then-is_err-clause-ran : goal.returns-then-is_err-clause-ran
returns-then-is_err-clause-ran c =
    let turn = c.loop-line in
    let wrote = c.run_line-ran.ensures in
    let step : lines_left turn.line-iterator ≡ line_bytes c.in-Some.line ∷ lines_left c.next.new.self = search rules in
    let read : left c.fields.result ≡ fields_of (line_bytes c.in-Some.line) = c.fields.ensures.fields in
    let some : 0 < length (line_bytes c.in-Some.line) = search rules in
    turned-cut c.args.register.now turn.register turn.seat c.args.report.now turn.report c.args.script.now (lines_left turn.line-iterator) turn.self.lines turn.self.refused turn.invariant.way
    (line_bytes c.in-Some.line) (lines_left c.next.new.self) step some c.run_line-ran.new.report wrote.same.kept (left c.fields.result) read c.run_line-ran.new.register c.run_line-ran.result.1 c.run_line-ran.result.0 c.run_line-ran.new.self.refused wrote.ran
    c.run_line-ran.new.self (sym c.is_err.ensures.value ∙ c.if-is_err.true)

pub returns-clause-ran : goal.returns-clause-ran
returns-clause-ran c =
    let turn = c.loop-line in
    turned-none c.args.register.now turn.register turn.seat c.args.report.now turn.report c.args.script.now (lines_left turn.line-iterator) turn.self _ turn.invariant.way (search rules)
