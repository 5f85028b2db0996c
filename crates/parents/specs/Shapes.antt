-- The four tree shapes (01, "Tree shapes").
use Rattle.std.specs.Prelude.{Bool, List, [], ◌∷◌, ◌++◌, ℕ, zero, suc, ◌-◌, ◌/◌, ◌^◌, eqb, leb, length, drop}
use Rattle.std.specs.Int.Count.{count_trailing_zeros}
use Rattle.bitset.specs.Choice.{pick}
use Rattle.bitset.specs.Tasks.{is_count}
use Rattle.parents.specs.declared.TreeShape.{TreeShape}
use Rattle.parents.specs.declared.TreeShape.TheVariants.{Flat, Linear, Binary, LowPower}

-- the highest power of two that divides q; the exponent is the number of trailing zeros
abbrev pub power_of : ℕ → ℕ
power_of q = 2 ^ count_trailing_zeros 64 q

-- the number of each shape
abbrev pub number_of : TreeShape → ℕ
number_of Flat = 0
number_of Linear = 1
number_of Binary = 2
number_of LowPower = 3

-- "0 flat (parent 0), 1 linear (q − 1), 2 binary ((q − 1) / 2 rounded down), 3 low power (q minus the highest power of two that
-- divides q)". A difference stops at 0, so the root's entry is 0 in each.
abbrev pub shape_parent : ℕ → ℕ → ℕ
shape_parent shape q =
    pick (eqb shape 0) 0
    (pick (eqb shape 1) (q - 1)
    (pick (eqb shape 2) ((q - 1) / 2)
    (q - power_of q)))

-- the table of n entries
unfoldable pub shape_table : ℕ → ℕ → List ℕ
shape_table shape zero = []
shape_table shape (suc q) = shape_table shape q ++ shape_parent shape q ∷ []

-- 2: "The kind, or the shape, isn't 0 to 3". 02, P7: "shapes keep 0 to 3"; the kinds' limit is another (`is_kind` in setup).
abbrev pub is_shape : ℕ → Bool
is_shape shape = leb shape 3

-- "Shapes 2, 3, 10"; 10: a "table under N", of `room` bytes here; 0 if the shape is written
unfoldable pub shape_of : ℕ → ℕ → ℕ → ℕ
shape_of shape n room = pick (is_shape shape) (pick (is_count n) (pick (leb n room) 0 10) 3) 2

-- "Written to the first N bytes of a lent table and nowhere else"; a refused call "writes to no buffer"
unfoldable pub table_after : ℕ → ℕ → List ℕ → List ℕ
table_after shape n table =
    pick (eqb (shape_of shape n (length table)) 0) (shape_table shape n ++ drop n table) table
