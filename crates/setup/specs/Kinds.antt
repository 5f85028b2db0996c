-- Kinds, their lines, and the R that each takes (01, "The state and a turn" and "Field ranges"; 02, P7 and kind 4).
use Rattle.std.specs.Prelude.{Bool, ◌&&◌, ◌||◌, ℕ, eqb, leb}
use Rattle.bitset.specs.Choice.{pick}

-- "0 symmetric, 1 fetch-and-increment, 2 ring, 3 tree". 02, P7: "2 now admits kind 4, and shapes keep 0 to 3", whose limit is their own (`is_shape`).
abbrev pub last_kind : ℕ
last_kind = 4

abbrev pub is_kind : ℕ → Bool
is_kind kind = leb kind last_kind

-- the kinds whose tasks share arrivals and a sense. 02, P7: "Kind 4 has kind 1's .. shared sense".
abbrev pub has_sense : ℕ → Bool
has_sense kind = eqb kind 1 || eqb kind 4

-- "R is 3 to 255; for other kinds R is 0."
abbrev pub modulus_ok : ℕ → ℕ → Bool
modulus_ok kind r = pick (eqb kind 0) (leb 3 r && leb r 255) (eqb r 0)

-- "Lines: from 11 to 14 for kind 0, 16 for kind 1, 15 for kind 2, 18 for kind 3." 02, P7: "Kind 4 has kind 1's lines". Another kind has none.
abbrev pub last_line : ℕ → ℕ
last_line kind = pick (eqb kind 0) 14 (pick (eqb kind 1) 16 (pick (eqb kind 2) 15 (pick (eqb kind 3) 18 (pick (eqb kind 4) 16 0))))
