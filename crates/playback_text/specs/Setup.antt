-- From a setup text to what a fresh state is made from: kind, N, R, the lengths of the tables, and their entries.
use Rattle.std.specs.Prelude.{List, [], ◌∷◌, ℕ, ◌+◌, eqb, length, take, drop}
use Rattle.std.proofs.Math.Option.{Option, none, some}
use Rattle.bitset.specs.Choice.{pick}
use Rattle.text.specs.Numbers.{numbers_of}
use Rattle.machine.specs.Fresh.{Inputs, inputs_of}

-- The entries of the parents, those of the starts and then those of the work lengths, neither more nor fewer than the three lengths say. A number
-- that no byte holds is a parent, a start or a work length that its table's check refuses.
abbrev pub inputs_in : ℕ → ℕ → ℕ → ℕ → ℕ → ℕ → List ℕ → Option Inputs
inputs_in kind n modulus parents starts works entries =
    pick (eqb (length entries) (parents + starts + works))
    (some (inputs_of (record { kind = kind; n = n; modulus = modulus }) (take parents entries) (take starts (drop parents entries)) (drop (parents + starts) entries)))
    none

-- six numbers stand before the entries
abbrev pub setup_in : List ℕ → Option Inputs
setup_in [] = none
setup_in (kind ∷ []) = none
setup_in (kind ∷ n ∷ []) = none
setup_in (kind ∷ n ∷ modulus ∷ []) = none
setup_in (kind ∷ n ∷ modulus ∷ parents ∷ []) = none
setup_in (kind ∷ n ∷ modulus ∷ parents ∷ starts ∷ []) = none
setup_in (kind ∷ n ∷ modulus ∷ parents ∷ starts ∷ works ∷ entries) = inputs_in kind n modulus parents starts works entries

abbrev pub setup_option : Option (List ℕ) → Option Inputs
setup_option none = none
setup_option (some ns) = setup_in ns

-- the text's alphabet and limits are the sheet's (01, reason 1)
unfoldable pub setup_of : List ℕ → Option Inputs
setup_of text = setup_option (numbers_of text)
