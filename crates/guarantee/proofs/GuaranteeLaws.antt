-- What the theorem (`Guarantee`) is shown by: it holds of a state that has its barrier's invariant, and is carried over from kind 1 to kind 4.
use Rattle.std.proofs.Common.{sym, ◌∙◌, subst, arith}
use Rattle.std.specs.Prelude.{List, ℕ, ◌<◌}
use Rattle.machine.specs.declared.State.{State}
use Rattle.machine.specs.RangeLaws.{range}
use Rattle.machine.specs.Least.{least}
use Rattle.centralized.specs.Coupling.{Coupled, Pair}
use Rattle.centralized.proofs.Turns.{same_line, same_count, same_least}
use Rattle.guarantee.specs.Guarantee.{Guaranteed}
use Rattle.guarantee.specs.Calls.{Call, after_all, counted_all}
use Rattle.guarantee.proofs.Turns.{leads_all}
use Rattle.guarantee.proofs.Instance.{barrier_of, rises, paper_M}
use Rattle.guarantee.proofs.CountsDown.{SameAll, calls_same, same_promise}
use Rattle.guarantee.proofs.Reach.{Known, known_after}

-- from a state that has its barrier's invariant
pub of_known : (s : State) (cs : List Call) → Known s → Guaranteed s cs
of_known s cs begin = (
  (barrier_of end.kind end.low).close (after_all s cs) end.inv,
  (barrier_of end.kind end.low).behind (after_all s cs) end.inv,
  λ low cut.
      let led = leads_all s cs in
      subst (λ (x : State). least s < least x) led.to
      (rises (barrier_of begin.kind begin.low) s (counted_all s cs) begin.inv low led.counts
      (rw (paper_M begin.kind begin.low s begin.inv) cut)),
)
  where
    end : Known (after_all s cs)
    end = known_after s cs begin

-- 02, P7: from kind 1 to kind 4
pub carry : (s₁ s₄ : State) (cs : List Call) → Pair s₁ s₄ → Guaranteed s₁ cs → Guaranteed s₄ cs
carry s₁ s₄ cs pair g = (
  λ q r hq hr. omega (arith, same_count end q hq, same_count end r hr, g.0 q r (there hq) (there hr)),
  λ q r hq hr l. omega (arith, same_count end q hq, same_count end r hr, g.1 q r (there hq) (there hr) (same_line end q hq ∙ l)),
  λ low cut.
      let before = same_least pair.coupled (range s₄ pair.valid).some in
      let after = same_least end (range (after_all s₄ cs) all.pair.valid).some in
      omega (arith, before, after, g.2 (omega (arith, before)) (rw (all.counting, same_promise pair, pair.coupled.n) cut)),
)
  where
    all : SameAll s₁ s₄ cs
    all = calls_same pair cs

    end : Coupled (after_all s₁ cs) (after_all s₄ cs)
    end = all.pair.coupled

    there : {q : ℕ} → q < (after_all s₄ cs).n → q < (after_all s₁ cs).n
    there {q} h = subst (λ (n : ℕ). q < n) (sym end.n) h
