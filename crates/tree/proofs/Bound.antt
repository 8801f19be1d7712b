-- The kind that a bound `K: Key` or `V: Value` stands for, from the ghost members and laws that a generic proof has of it.
use types.Logic.{Logic}
use contract.Running.{Running}
use denote.RattleType.{RattleType}
use seplogic.Ra.Ura.{Ura}
use mir.Syntax.{Dict}
use prog.Model.{Model}
use prog.Routine.{Env}
use Rattle.std.proofs.Common.{◌≡◌, Ordering, Less, Greater, ap, ◌∙◌}
use Rattle.std.specs.Cmp.{IsTotalOrder}
use Rattle.std.specs.Ordering.{ordering_reverse}
use Rattle.std.specs.declared.clone.Clone.{Ghosts as CloneMembers}
use Rattle.std.specs.declared.cmp.Eq.{Ghosts as EqMembers}
use Rattle.std.specs.declared.cmp.Ord.{Ghosts as OrdMembers}
use Rattle.std.specs.declared.cmp.PartialEq.{Ghosts as PartialEqMembers}
use Rattle.std.specs.declared.cmp.PartialOrd.{Ghosts as PartialOrdMembers}
use Rattle.tree.specs.Kind.{Kind}
use Rattle.tree.specs.Value.{ValueKind}
use Rattle.tree.specs.contracts.key.Key.TheBound.{Met as KeyMet}
use Rattle.tree.specs.contracts.value.Value.TheBound.{Met as ValueMet}
use Rattle.tree.specs.declared.key.Key.{Ghosts as KeyMembers}
use Rattle.tree.specs.declared.value.Value.{Ghosts as ValueMembers}

-- an answer of a total order, seen from the other key
pub turned : {K : Type 0} {order : K → K → Ordering} → IsTotalOrder order → (a b : K) (answer : Ordering) → order a b ≡ answer → order b a ≡ ordering_reverse answer
turned total a b answer e = total.antisymm b a ∙ ap ordering_reverse e

-- in a generic answer: kind_of g.met.K.Key g.met.K.Ord.total
abbrev pub kind_of : {M : Type 1} {𝓤 : Ura M} {𝓛 : Logic 𝓤} {𝓜 : Model 𝓤 𝓛.H} {𝓡 : Running 𝓤 𝓛.H 𝓜} {γ : Env}
    {K : RattleType} {members : KeyMembers K.Denot} {dictionary : Dict} {cloned : CloneMembers K.Denot} {cloning : Dict}
    {ordered : OrdMembers K.Denot} {ordering : Dict} {equal : EqMembers K.Denot} {equating : Dict}
    {partly_equal : PartialEqMembers K.Denot} {partly_equating : Dict} {partly_ordered : PartialOrdMembers K.Denot} {partly_ordering : Dict}
    → KeyMet 𝓛 𝓜 𝓡 γ K members dictionary cloned cloning ordered ordering equal equating partly_equal partly_equating partly_ordered partly_ordering
    → IsTotalOrder ordered.cmp → Kind K.Denot
kind_of {members = members} {ordered = ordered} met total = record {
  words = members.words;
  key = members.key;
  order = ordered.cmp;
  back = met.back;
  equal = met.equal;
  same = met.same;
  after = λ a b. turned total a b Less;
  before = λ a b. turned total a b Greater;
  chained = total.trans;
}

-- in a generic answer: value_kind_of g.met.V.Value
abbrev pub value_kind_of : {M : Type 1} {𝓤 : Ura M} {𝓛 : Logic 𝓤} {𝓜 : Model 𝓤 𝓛.H} {𝓡 : Running 𝓤 𝓛.H 𝓜} {γ : Env}
    {V : RattleType} {members : ValueMembers V.Denot} {dictionary : Dict} {cloned : CloneMembers V.Denot} {cloning : Dict}
    → ValueMet 𝓛 𝓜 𝓡 γ V members dictionary cloned cloning → ValueKind V.Denot
value_kind_of {members = members} met = record {
  word = members.word;
  nested = members.nested;
  value = members.value;
  back = met.back;
}
