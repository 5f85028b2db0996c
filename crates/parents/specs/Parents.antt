-- Parent tables of the tree barrier. 01: "A table of N bytes gives each task's parent; task 0 is the root, its entry is 0."
use Rattle.std.specs.Prelude.{◌≡◌, Bool, true, ◌&&◌, not, List, ℕ, zero, suc, ◌<◌, eqb, ltb, length, get_or}
use Rattle.bitset.specs.Choice.{pick}
use Rattle.bitset.specs.Set.{with_of}

-- the parent of task q
abbrev pub parent_of : List ℕ → ℕ → ℕ
parent_of table q = get_or table q 0

-- What a table that the check accepts promises, and all that the crates above know of it: it has n entries, the root's is 0,
-- and every other task's parent is a lower number than its own.
pub record IsTree (table : List ℕ) (n : ℕ) : Type 0 where
  pub long : length table ≡ n
  pub root : parent_of table 0 ≡ 0
  pub lower : (q : ℕ) → 0 < q → q < n → parent_of table q < q

-- 6: "The root's entry isn't 0, or another task's parent isn't a lower number than its own." Whether the entry of q is right:
abbrev pub entry_ok : List ℕ → ℕ → Bool
entry_ok table q = pick (eqb q 0) (eqb (parent_of table q) 0) (ltb (parent_of table q) q)

-- whether every entry below n is
unfoldable pub entries_ok : List ℕ → ℕ → Bool
entries_ok table zero = true
entries_ok table (suc q) = entries_ok table q && entry_ok table q

-- 5: "The parent table's length isn't N for a tree"; then 6; 0 if the table is accepted
unfoldable pub check_of : List ℕ → ℕ → ℕ
check_of table n = pick (eqb (length table) n) (pick (entries_ok table n) 0 6) 5

-- whether r is a child of p: not the root, and its parent is p
abbrev pub is_child : List ℕ → ℕ → ℕ → Bool
is_child table p r = not (eqb r 0) && eqb (parent_of table r) p

-- the children of p among the tasks below n
unfoldable pub children_below : List ℕ → ℕ → ℕ → ℕ
children_below table p zero = 0
children_below table p (suc r) = pick (is_child table p r) (with_of (children_below table p r) r) (children_below table p r)

-- the children of p, a set of tasks
abbrev pub children_of : List ℕ → ℕ → ℕ
children_of table p = children_below table p (length table)
