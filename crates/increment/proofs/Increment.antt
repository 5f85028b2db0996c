-- The laws of the fetch-and-increment barrier. That no turn of it is refused 7 stands in `Safe` (`never_7`).
use Rattle.std.specs.Prelude.{refl}
use Rattle.std.proofs.Common.{arith}
use Rattle.barrier.specs.Barrier.{Barrier}
use Rattle.increment.specs.Invariant.{Inv}
use Rattle.increment.proofs.Kept.{fresh}
use Rattle.increment.proofs.Keeping.{keeps}
use Rattle.increment.proofs.Moves.{someone}
use Rattle.increment.specs.Round.{L, offset, skips}
use Rattle.increment.proofs.RoundLaws.{within, done, own}
use Rattle.increment.proofs.Safe.{close, behind}

abbrev pub increment : Barrier 1
increment =
    record {
      Inv = Inv;
      fresh = fresh;
      keeps = keeps;
      close = close;
      behind = behind;
      someone = someone;
      rise = 13;
      later = omega arith;
      done = done;
      L = L;
      offset = offset;
      apart = λ n table q t x. (refl, refl, refl);
      within = within;
      skips = skips;
      own = own;
    }
