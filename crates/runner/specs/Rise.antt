-- How far the tallies of 64 tasks have risen, from a list before to a list after.
use Rattle.std.specs.Prelude.{List, ℕ, ◌-◌, ◌≤◌, ◌<◌, get_or}
use Rattle.bitset.specs.Table.{table}

-- no tally falls
abbrev pub NoLess : List ℕ → List ℕ → Type 0
NoLess before after = (q : ℕ) → q < 64 → get_or before q 0 ≤ get_or after q 0

abbrev pub rise_of : List ℕ → List ℕ → List ℕ
rise_of before after = table 64 (λ q. get_or after q 0 - get_or before q 0)
