-- The laws of the ring barrier.
use Rattle.std.specs.Prelude.{refl}
use Rattle.std.proofs.Common.{arith}
use Rattle.barrier.specs.Barrier.{Barrier}
use Rattle.ring.specs.Invariant.{Inv}
use Rattle.ring.proofs.Kept.{fresh}
use Rattle.ring.proofs.Keeping.{keeps}
use Rattle.ring.proofs.Moves.{someone}
use Rattle.ring.specs.Round.{L, offset}
use Rattle.ring.proofs.RoundLaws.{within, done, own}
use Rattle.ring.proofs.Safe.{close, behind}

abbrev pub ring : Barrier 2
ring =
    record {
      Inv = Inv;
      fresh = fresh;
      keeps = keeps;
      close = close;
      behind = behind;
      someone = someone;
      rise = 13;
      later = omega arith;
      done = done;
      L = L;
      offset = offset;
      apart = λ n table q t x. (refl, refl, refl);
      within = within;
      skips = λ v q. 0;
      own = own;
    }
