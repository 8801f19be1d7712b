-- What the calls and answers of the code stand for.
use Rattle.std.specs.Prelude.{Some, None, Ok, Err, Result}
use Rattle.std.specs.Option.{option_map}
use Rattle.register.specs.Calls.{Answer, Call, abandons, as_of, asks, begins, branches, commits, counted, done, enters, fetches, found, handed, named, next_name, opens, refused, retires, stows, tallies, total, totalled}
use Rattle.register.specs.declared.refusal.Refusal.{Refusal}
use Rattle.register.specs.declared.run.Action.{Action}
use Rattle.register.specs.declared.run.Action.TheVariants.{Open, Branch, Begin, Enter, Commit, Abandon, Stow, Fetch, Retire}
use Rattle.register.specs.declared.run.Call.{Call as CodeCall}
use Rattle.register.specs.declared.run.Call.TheVariants.{Do, Ask}
use Rattle.register.specs.declared.run.Question.{Question}
use Rattle.register.specs.declared.run.Question.TheVariants.{Tally, AsOf, Total, FirstName, NextName}
use Rattle.register.specs.declared.run.Reply.{Reply}
use Rattle.register.specs.declared.run.Reply.TheVariants.{Done, Handed, Counted, Found, Totalled, Named}

abbrev pub action_of : Action → Call
action_of Open = opens
action_of (Branch handle) = branches handle
action_of (Begin handle recorded) = begins handle recorded
action_of (Enter handle name measured change) = enters handle name.now measured change
action_of (Commit handle) = commits handle
action_of (Abandon handle) = abandons handle
action_of (Stow handle letter) = stows handle letter
action_of (Fetch letter) = fetches letter
action_of (Retire handle) = retires handle

abbrev pub question_of : Question → Call
question_of Tally = tallies
question_of (AsOf handle recorded name measured) = asks handle recorded (as_of name.now measured)
question_of (Total handle recorded name from to) = asks handle recorded (total name.now from to)
question_of (FirstName handle recorded) = asks handle recorded (next_name None)
question_of (NextName handle recorded name) = asks handle recorded (next_name (Some name.now))

abbrev pub call_of : CodeCall → Call
call_of (Do action) = action_of action
call_of (Ask question) = question_of question

abbrev pub reply_of : Reply → Answer
reply_of Done = done
reply_of (Handed handle) = handed handle
reply_of (Counted tally) = counted tally
reply_of (Found reading) = found (option_map (λ x. (x.0.seconds, x.1.microhertz)) reading)
reply_of (Totalled sum) = totalled sum.count sum.sum
reply_of (Named name) = named name

abbrev pub CodeAnswer : Type 0
CodeAnswer = Result Reply Refusal

abbrev pub answer_of : CodeAnswer → Answer
answer_of (Ok reply) = reply_of reply
answer_of (Err why) = refused why
