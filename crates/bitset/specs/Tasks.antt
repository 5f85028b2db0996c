-- How many tasks there can be.
use Rattle.std.specs.Prelude.{Bool, ◌&&◌, ℕ, leb}

-- 01: "a task count N of 1 to 64"
abbrev pub is_count : ℕ → Bool
is_count n = leb 1 n && leb n 64
