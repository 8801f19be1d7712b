-- The two ends of the keys.
use Rattle.tree.specs.declared.end.End.{End}
use Rattle.tree.specs.declared.end.End.TheVariants.{First, Last}

-- one of two, by the end
abbrev pub at_end : {A : Type 0} → End → A → A → A
at_end First first last = first
at_end Last first last = last
