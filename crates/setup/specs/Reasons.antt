-- The reasons that refuse a setup, in checking order (01, reasons 2 to 6; 02, P7 and kind 4).
use Rattle.std.specs.Prelude.{List, ℕ, eqb}
use Rattle.bitset.specs.Choice.{pick}
use Rattle.bitset.specs.Tasks.{is_count}
use Rattle.setup.specs.Kinds.{is_kind, modulus_ok}
use Rattle.setup.specs.Tables.{parents_reason, works_reason}

-- the first of two reasons that applies; a reason that doesn't is 0
abbrev pub first_reason : ℕ → ℕ → ℕ
first_reason a b = pick (eqb a 0) b a

-- 2: "The kind .. isn't 0 to 3.", 02's "2 now admits kind 4"; 3: "N isn't 1 to 64."
abbrev pub count_reason : ℕ → ℕ → ℕ
count_reason kind n = pick (is_kind kind) (pick (is_count n) 0 3) 2

-- 4: "R isn't 3 to 255 for symmetric, or isn't 0 for another kind."
abbrev pub modulus_reason : ℕ → ℕ → ℕ
modulus_reason kind r = pick (modulus_ok kind r) 0 4

-- "A fresh state checks 2 to 6": those of a setup without starts and work lengths
unfoldable pub setup_reason : ℕ → ℕ → ℕ → List ℕ → ℕ
setup_reason kind n r parents = first_reason (count_reason kind n) (first_reason (modulus_reason kind r) (parents_reason kind n parents))

-- the kind (2), N (3) and the work table (15), in this order, where R and the other tables are not asked
unfoldable pub limit_reason : ℕ → ℕ → List ℕ → ℕ
limit_reason kind n works = first_reason (count_reason kind n) (works_reason n works)
