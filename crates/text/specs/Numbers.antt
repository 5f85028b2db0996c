-- The numbers of a text (01, "The sheet program" and reason 1), and the bytes that stand for numbers.
use Rattle.std.specs.Prelude.{Bool, ◌&&◌, ◌||◌, List, [], ◌∷◌, ◌++◌, ℕ, zero, suc, ◌+◌, ◌-◌, ◌*◌, eqb, leb, ltb, length, take, drop, replicate, Option as Answer, Some, None}
use Rattle.std.proofs.Math.Option.{Option, none, some}
use Rattle.bitset.specs.Choice.{pick}

-- "digit, space or line feed"
abbrev pub is_digit : ℕ → Bool
is_digit b = leb 48 b && leb b 57

abbrev pub is_space : ℕ → Bool
is_space b = eqb b 32 || eqb b 10

-- a number in front of those that follow
abbrev pub before : ℕ → Option (List ℕ) → Option (List ℕ)
before v none = none
before v (some ns) = some (v ∷ ns)

-- the number that ends here, if one has begun: it has d digits and the value v
abbrev pub ended : ℕ → ℕ → Option (List ℕ) → Option (List ℕ)
ended zero v rest = rest
ended (suc d) v rest = before v rest

-- The numbers of a text; none if it "has a byte other than digit, space or line feed" or "a number of more than five digits". A number
-- with d digits and the value v has been read so far.
unfoldable pub numbers_from : ℕ → ℕ → List ℕ → Option (List ℕ)
numbers_from d v [] = ended d v (some [])
numbers_from d v (b ∷ bs) =
    let more = numbers_from (suc d) (v * 10 + (b - 48)) bs in
    let next = ended d v (numbers_from 0 0 bs) in
    let digit = pick (ltb d 5) more none in
    let space = pick (is_space b) next none in
    pick (is_digit b) digit space

-- 1: "The program's text is over 65,536 bytes"
abbrev pub max_text : ℕ
max_text = 65536

abbrev pub numbers_of : List ℕ → Option (List ℕ)
numbers_of text = pick (leb (length text) max_text) (numbers_from 0 0 text) none

-- how many numbers that is; none of a bad text
abbrev pub found_of : Option (List ℕ) → Answer ℕ
found_of none = None
found_of (some ns) = Some (length ns)

-- a list in the first places of a buffer, as much of it as there is room for
abbrev pub over : List ℕ → List ℕ → List ℕ
over xs buffer = take (length buffer) xs ++ drop (length xs) buffer

-- the numbers in the first places of a buffer; of a bad text only zeros
abbrev pub numbers_over : Option (List ℕ) → List ℕ → List ℕ
numbers_over none buffer = replicate (length buffer) 0
numbers_over (some ns) buffer = over ns buffer

-- a number as a byte; `wide` stands for every one that no byte holds
abbrev pub byte_or : ℕ → ℕ → ℕ
byte_or wide x = pick (leb x 255) x wide

-- with 255 for every larger one
abbrev pub low : ℕ → ℕ
low x = byte_or 255 x
