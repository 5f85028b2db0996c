-- Numbers in decimal, and the word that stands before a reason.
use Rattle.std.specs.Prelude.{List, [], ◌∷◌, ◌++◌, ℕ, zero, suc, ◌+◌, ◌/◌, ◌%◌, ltb}
use Rattle.bitset.specs.Choice.{pick}

-- a number of at most k digits in decimal, with no needless zero
unfoldable pub decimal_in : ℕ → ℕ → List ℕ
decimal_in zero x = []
decimal_in (suc k) x =
    let above = decimal_in k (x / 10) in
    pick (ltb x 10) [] above ++ (48 + x % 10) ∷ []

-- a number below 10 ^ 20, so every one of 64 bits
abbrev pub decimal : ℕ → List ℕ
decimal x = decimal_in 20 x

-- a space and a number
abbrev pub spaced : ℕ → List ℕ
spaced x = 32 ∷ decimal x

-- "refused", which every program prints before a reason
abbrev pub refused_word : List ℕ
refused_word = 114 ∷ 101 ∷ 102 ∷ 117 ∷ 115 ∷ 101 ∷ 100 ∷ []
