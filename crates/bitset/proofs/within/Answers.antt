-- The set is within the other exactly if `&` leaves it as it is.
use Rattle.std.proofs.Common.{◌≡◌, refl, sym, ◌∙◌, Bool, true, false, ℕ, ◌^◌, ◌<◌, eq-eqb, ne_eqb}
use Rattle.std.specs.Prelude.{eqb}
use Rattle.std.proofs.lemmas.Bool.{false≢true}
use Rattle.std.specs.Int.Bits.{bit_and}
use Rattle.bitset.specs.Set.{within_digits}
use Rattle.bitset.specs.SetLaws.{within_and, and_within}
use Rattle.bitset.proofs.within.Goals as goal

tested : (list other : ℕ) → list < 2 ^ 64 → eqb (bit_and list other) list ≡ within_digits 64 list other
tested list other h = go (within_digits 64 list other) refl
  where
    go : (b : Bool) → within_digits 64 list other ≡ b → eqb (bit_and list other) list ≡ b
    go true e = eq-eqb (bit_and list other) list (within_and 64 list other e)
    go false e = ne_eqb (bit_and list other) list (λ q. false≢true (sym e ∙ and_within 64 list other h q))

pub returns : goal.returns
returns c = tested c.args.list c.args.other c.ranges.list.fits
