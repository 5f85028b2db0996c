-- Sets of tasks 0 to 63, as the binary digits of a number: task k is in the set exactly if digit k is 1.
-- Document 01: "The list is 64 bits, and the lowest set bit names the task taken."
use Rattle.std.specs.Prelude.{ℕ, zero, suc, ◌+◌, ◌-◌, ◌*◌, ◌/◌, ◌%◌, ◌^◌, min, Bool, ◌&&◌, eqb, leb, ltb}
use Rattle.std.specs.Int.Count.{ones, count_trailing_zeros}
use Rattle.bitset.specs.Choice.{pick}

-- the digit of n at place k, 0 or 1
unfoldable pub bit : ℕ → ℕ → ℕ
bit n zero = n % 2
bit n (suc k) = bit (n / 2) k

-- n with the digit b at place k
unfoldable pub put : ℕ → ℕ → ℕ → ℕ
put n zero b = n / 2 * 2 + b
put n (suc k) b = put (n / 2) k b * 2 + n % 2

-- whether task k is in the set
abbrev pub member_of : ℕ → ℕ → Bool
member_of list k = eqb (bit list k) 1

-- the least task of the set, which its trailing zeros count; 64 for the empty set
abbrev pub least_of : ℕ → ℕ
least_of list = count_trailing_zeros 64 list

-- the tasks of the set at or above k
abbrev pub from_of : ℕ → ℕ → ℕ
from_of list k = list / 2 ^ k * 2 ^ k

-- 02, P1: "the first listed task at or above the start, going round to 0 after the last"; 64 for the empty set. A start is a task of 0 to 63;
-- the papers have no other, and any other is taken by its remainder.
unfoldable pub first_from : ℕ → ℕ → ℕ
first_from list start =
    let above = from_of list (start % 64) in
    pick (eqb above 0) (least_of list) (least_of above)

-- the set with task k taken off
abbrev pub without_of : ℕ → ℕ → ℕ
without_of list k = put list k 0

-- the set with task k put on; only the tasks 0 to 63 can be
abbrev pub with_of : ℕ → ℕ → ℕ
with_of list k = pick (ltb k 64) (put list k 1) list

-- the first n tasks, 64 at most
abbrev pub all_of : ℕ → ℕ
all_of n = 2 ^ min n 64 - 1

-- whether every task of the set is in the other one, and none is w or more
unfoldable pub within_digits : ℕ → ℕ → ℕ → Bool
within_digits zero list other = eqb list 0
within_digits (suc w) list other = leb (list % 2) (other % 2) && within_digits w (list / 2) (other / 2)

abbrev pub within_of : ℕ → ℕ → Bool
within_of list other = within_digits 64 list other

-- how many tasks are in the set
abbrev pub size_of : ℕ → ℕ
size_of list = ones list
