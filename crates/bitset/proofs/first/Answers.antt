-- A mask leaves the digits from the start on, whether there are any or not.
use Rattle.std.proofs.Common.{◌≡◌, sym, ap, ◌∙◌, ℕ, ◌-◌, ◌*◌, ◌%◌, ◌^◌, ◌<◌, mod-lt, le_of_lt, arith, eq-eqb, ne_eqb}
use Rattle.std.specs.Int.Bits.{bit_and}
use Rattle.bitset.specs.Set.{least_of, from_of, first_from}
use Rattle.bitset.proofs.Words.{full_shifted, and_from}
use Rattle.bitset.proofs.first.Goals as goal

above : (list start : ℕ) → list < 2 ^ 64 → bit_and list ((2 ^ 64 - 1) * 2 ^ (start % 64) % 2 ^ 64) ≡ from_of list (start % 64)
above list start fits =
    let here : start % 64 < 64 = mod-lt start (omega arith) in
    ap (bit_and list) (full_shifted (start % 64) here) ∙ and_from 64 list (start % 64) (le_of_lt here) fits

pub returns-then-above-eq0 : goal.returns-then-above-eq0
unfolding first_from
returns-then-above-eq0 c =
    let e = above c.args.list c.args.start c.ranges.list.fits in
    rw (eq-eqb _ 0 (sym e ∙ c.if-above-eq0.true)) c.least.ensures

pub returns-else-above-eq0 : goal.returns-else-above-eq0
unfolding first_from
returns-else-above-eq0 c =
    let e = above c.args.list c.args.start c.ranges.list.fits in
    rw (ne_eqb _ 0 (λ z. c.if-above-eq0.false (e ∙ z))) (c.least-else-above-eq0.ensures ∙ ap least_of e)
