-- Each entry in its turn.
use Rattle.std.proofs.Common.{◌≡◌, sym, ◌∙◌, ◌&&◌, Bool, List, ℕ, ◌+◌, ◌<◌, add-one, arith, length, get_or, drop, drop-cons, drop_of_length-le}
use Rattle.std.proofs.Math.Bool.{and_assoc, and-true}
use Rattle.setup.specs.Tables.{is_within, all_within}
use Rattle.setup.proofs.tables.all_within.Goals as goal

-- one entry more
more : (low bound : ℕ) (table : List ℕ) (ok all : Bool) (i : ℕ) → i < length table → (ok && all_within low bound (drop i table)) ≡ all
    → (ok && is_within low bound (get_or table i 0) && all_within low bound (drop (i + 1) table)) ≡ all
unfolding all_within
more low bound table ok all i h e = rw (add-one i, and_assoc) (rw (drop-cons table i 0 h) at e)

pub loop-i-preserved : goal.loop-i-preserved
loop-i-preserved c = (omega arith, more c.args.low c.args.bound c.args.table.now c.loop-i.ok _ _ c.loop-i-test.true c.loop-i.invariant.1)

pub returns : goal.returns
unfolding all_within
returns c = sym (and-true _) ∙ rw (drop_of_length-le _ c.loop-i-test.false) at c.loop-i.invariant.1
