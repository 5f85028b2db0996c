-- Past the end of the schedule, its end serves as the place.
use Rattle.std.proofs.Common.{◌≡◌, sym, ap, ◌∙◌, List, ℕ, ◌-◌, ◌≤◌, ◌<◌, length, length-drop, drop_of_length-le, arith}
use Rattle.std.specs.Prelude.{min}
use Rattle.std.proofs.Math.ListN.{length-take}
use Rattle.std.proofs.Math.Decide.{dec_lt}
use Rattle.schedule.specs.FirstPass.{first_pass_of}
use Rattle.schedule.specs.FirstPassLaws.{first_part}
use Rattle.schedule.proofs.first_pass.Goals as goal

-- the answer depends on no more than the turns from the place on
same_part : (n place : ℕ) (ts : List ℕ) → first_pass_of n (min place (length ts)) ts ≡ first_pass_of n place ts
unfolding first_pass_of
same_part n place ts = go (dec_lt (length ts) place)
  where
    go : Dec (length ts < place) → first_pass_of n (min place (length ts)) ts ≡ first_pass_of n place ts
    go (yes l) = rw (drop_of_length-le ts {i = min place (length ts)} (omega arith), drop_of_length-le ts {i = place} (omega arith))
    go (no l) =
        let e : min place (length ts) ≡ place = omega arith in
        rw e

within : (n place : ℕ) (ts : List ℕ) → length (first_pass_of n place ts) ≤ length ts - place
within n place ts = omega (arith, simp (length-take, length-drop) at (ap length (first_part n place ts)))

pub slice_bounds-result-end : goal.slice_bounds-result-end
slice_bounds-result-end c = omega (arith, within c.args.n c.min-at.result c.args.schedule.now)

pub returns-clause-result_value : goal.returns-clause-result_value
returns-clause-result_value c =
    let end : c.first_end-end.result - c.min-at.result ≡ length (first_pass_of c.args.n c.min-at.result c.args.schedule.now)
    = omega (arith, c.first_end-end.ensures) in
    rw end
    (sym (first_part c.args.n c.min-at.result c.args.schedule.now)
    ∙ ap (λ (p : ℕ). first_pass_of c.args.n p c.args.schedule.now) c.min-at.ensures ∙ same_part c.args.n c.args.place c.args.schedule.now)
