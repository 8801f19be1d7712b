-- Lists that ascend: every element is before all behind it.
use Rattle.std.specs.Prelude.{List, [], ◌∷◌}
use Rattle.std.specs.List.{AllByRecursion}

abbrev pub Ascending : {A : Type 0} → (A → A → Type 0) → List A → Type 0
Ascending before [] = Unit {0}
Ascending before (x ∷ xs) = AllByRecursion (before x) xs × Ascending before xs
