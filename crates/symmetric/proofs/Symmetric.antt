-- The laws of the symmetric barrier, all together.
use Rattle.std.specs.Prelude.{refl}
use Rattle.std.proofs.Common.{arith}
use Rattle.barrier.specs.Barrier.{Barrier}
use Rattle.symmetric.specs.Invariant.{Inv}
use Rattle.symmetric.proofs.Kept.{fresh}
use Rattle.symmetric.proofs.Keeping.{keeps}
use Rattle.symmetric.proofs.Moves.{someone}
use Rattle.symmetric.specs.Round.{L, offset}
use Rattle.symmetric.proofs.RoundLaws.{within, done, own}
use Rattle.symmetric.proofs.Safe.{close, behind}

abbrev pub symmetric : Barrier 0
symmetric =
    record {
      Inv = Inv;
      fresh = fresh;
      keeps = keeps;
      close = close;
      behind = behind;
      someone = someone;
      rise = 12;
      later = omega arith;
      done = done;
      L = L;
      offset = offset;
      apart = λ n table q t x. (refl, refl, refl);
      within = within;
      skips = λ v p. 0;
      own = own;
    }
