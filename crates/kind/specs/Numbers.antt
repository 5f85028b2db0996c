-- The number of each kind: "0 symmetric, 1 fetch-and-increment, 2 ring, 3 tree", and 4 centralized.
use Rattle.std.specs.Prelude.{ℕ}
use Rattle.kind.specs.declared.Kind.{Kind}
use Rattle.kind.specs.declared.Kind.TheVariants.{Symmetric, Increment, Ring, Tree, Centralized}

abbrev pub kind_number : Kind → ℕ
kind_number Symmetric = 0
kind_number Increment = 1
kind_number Ring = 2
kind_number Tree = 3
kind_number Centralized = 4
