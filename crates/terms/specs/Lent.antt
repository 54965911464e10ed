-- What is lent to a function for a call by `&mut` (ours): as it is then, and as the function leaves it. Contracts speak of it by `.entry` and `.exit`.
use Rattle.std.specs.Prelude.{List}
use Rattle.std.specs.Borrow.{MutBor}
use denote.Triple.Both.{Both}

abbrev pub Lent : Type 0 → Type 0
Lent A = Both (MutBor (List A)) (MutBor (List A))
