-- The invariant of the tree barrier (001, section 2.4.1), without the note's ghost `rear`. With c for the count of the root, task 0,
-- every task stands in one of three ways, and what each child of a task may be follows from the line of that task.
-- That a list is within the children (Iq4) is part of the range.
use Rattle.std.specs.Prelude.{◌≡◌, List, ◌⊎◌, ℕ, ◌+◌, ◌<◌, eqb, leb}
use Rattle.bitset.specs.Choice.{pick}
use Rattle.bitset.specs.Set.{bit, member_of}
use Rattle.parents.specs.Parents.{parent_of}
use Rattle.lines.specs.declared.Task.{Task}
use Rattle.barrier.specs.View.{View}

-- ---- how a task stands (Iq1, Iq6, Jq1)

-- on its way, with its flag down
pub record Mid (c : ℕ) (t : Task) : Type 0 where
  pub flag : t.flag ≡ 0
  pub count : t.count ≡ c

-- at 16, to be released: the root has passed 15, and the parent has yet to clear the flag (the note's Bottom)
pub record Low (c : ℕ) (t : Task) : Type 0 where
  pub line : t.line ≡ 16
  pub flag : t.flag ≡ 1
  pub count : t.count ≡ c

-- at 16, ahead of the root by one: the root has yet to pass 15
pub record Top (c : ℕ) (t : Task) : Type 0 where
  pub line : t.line ≡ 16
  pub flag : t.flag ≡ 1
  pub count : t.count ≡ c + 1

-- ---- what a task asks of a child

pub data Want : Type 0 where
  mid_or_top : Want
  top : Want
  low : Want

abbrev pub Meets : ℕ → Task → Want → Type 0
Meets c t mid_or_top = Mid c t ⊎ Top c t
Meets c t top = Top c t
Meets c t low = Low c t

-- what a task t asks of its child r, by its line; it asks for no Low before 16 (Jq2)
abbrev pub want : ℕ → Task → ℕ → Want
want c t r =
    -- 11, 12
    pick (leb t.line 12) mid_or_top
    -- 13, 14 (Iq5)
    (pick (leb t.line 14) (pick (member_of t.list r) mid_or_top top)
    -- 15 (Iq3)
    (pick (eqb t.line 15) top
    -- 16: with count c t is Mid or Low (Iq8), else Top (Iq2)
    (pick (eqb t.line 16) (pick (eqb t.count c) low top)
    -- 17 (Iq8)
    (pick (eqb t.line 17) low
    -- 18 (Iq7, Jq3)
    (pick (member_of t.list r) low mid_or_top)))))

-- ---- the invariant

-- of the n tasks t of a tree with this parent table
pub record Standing (n : ℕ) (table : List ℕ) (c : ℕ) (t : ℕ → Task) : Type 0 where
  -- c is the root's count
  pub root : Mid c (t 0)
  -- a task at 14 looks at a task of its list ("exists kk in lis")
  pub looks : (q : ℕ) → q < n → (t q).line ≡ 14 → bit (t q).list (t q).looked ≡ 1
  -- every task but the root is a child, and is what its parent asks
  pub child : (r : ℕ) → 0 < r → r < n → Meets c (t r) (want c (t (parent_of table r)) r)

pub record Inv (v : View) : Type 0 where
  pub round : ℕ
  pub standing : Standing v.n v.table round v.task
