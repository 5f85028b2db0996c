-- The numbers that name a reason.
use Rattle.std.specs.Prelude.{ℕ, Bool, leb, ◌&&◌}

abbrev pub is_named : ℕ → Bool
is_named k = leb 1 k && leb k 15
