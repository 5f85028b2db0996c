-- The tree barrier has the laws of a barrier.
use Rattle.std.specs.Prelude.{refl}
use Rattle.std.proofs.Common.{arith}
use Rattle.barrier.specs.Barrier.{Barrier}
use Rattle.tree.specs.Invariant.{Inv}
use Rattle.tree.proofs.Kept.{fresh, keeps}
use Rattle.tree.proofs.Moves.{someone}
use Rattle.tree.specs.Round.{L, offset}
use Rattle.tree.proofs.RoundLaws.{within, done, own}
use Rattle.tree.proofs.Safe.{close, behind}

abbrev pub tree : Barrier 3
tree =
    record {
      Inv = Inv;
      fresh = fresh;
      keeps = keeps;
      close = close;
      behind = behind;
      someone = someone;
      rise = 15;
      later = omega arith;
      done = done;
      L = L;
      offset = offset;
      apart = λ n table q t x. (refl, refl, refl);
      within = within;
      skips = λ v p. 0;
      own = own;
    }
