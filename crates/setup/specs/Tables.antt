-- The tables of parents, of starts and of work lengths: the reasons that refuse one, and what it says of a task (01, reasons 5 and 6; 02, P1 and
-- reason 12, P6 and reason 15).
use Rattle.std.specs.Prelude.{Bool, true, ◌&&◌, ◌||◌, List, [], ◌∷◌, ℕ, eqb, leb, ltb, length, get_or}
use Rattle.bitset.specs.Choice.{pick}
use Rattle.parents.specs.Parents.{check_of}

-- a number from `low` on, and below the bound
abbrev pub is_within : ℕ → ℕ → ℕ → Bool
is_within low bound x = leb low x && ltb x bound

-- whether every entry of a table is
unfoldable pub all_within : ℕ → ℕ → List ℕ → Bool
all_within low bound [] = true
all_within low bound (x ∷ xs) = is_within low bound x && all_within low bound xs

-- only 0 is below 1
abbrev pub all_zero : List ℕ → Bool
all_zero xs = all_within 0 1 xs

-- 5: "The parent table's length isn't N for a tree, or isn't 0 for another kind."; 6 for a tree, by the table's check
abbrev pub parents_reason : ℕ → ℕ → List ℕ → ℕ
parents_reason kind n parents = pick (eqb kind 3) (check_of parents n) (pick (eqb (length parents) 0) 0 5)

-- 02, P1: "12 is a start table whose length is neither 0 nor N, or is not 0 for another kind, or an entry of N or more"
abbrev pub starts_ok : ℕ → ℕ → List ℕ → Bool
starts_ok kind n starts = eqb (length starts) 0 || (eqb kind 0 && eqb (length starts) n && all_within 0 n starts)

abbrev pub starts_reason : ℕ → ℕ → List ℕ → ℕ
starts_reason kind n starts = pick (starts_ok kind n starts) 0 12

-- 02, P6: a work length is "one byte a task, 1 to 255"
abbrev pub is_work : ℕ → Bool
is_work x = is_within 1 256 x

abbrev pub all_work : List ℕ → Bool
all_work xs = all_within 1 256 xs

-- "15 is a work table whose length is neither 0 nor N, or an entry of 0", the one byte that is no work length; for every kind
abbrev pub works_ok : ℕ → List ℕ → Bool
works_ok n works = eqb (length works) 0 || (eqb (length works) n && all_work works)

abbrev pub works_reason : ℕ → List ℕ → ℕ
works_reason n works = pick (works_ok n works) 0 15

-- 02, P1: "a start table of one byte a task"; "with no table the start is 0"
abbrev pub start_of : List ℕ → ℕ → ℕ
start_of starts q = get_or starts q 0

-- 02, P6: "a work table, one byte a task, 1 to 255; with no table all are 1"
abbrev pub work_of : List ℕ → ℕ → ℕ
work_of works q = get_or works q 1
