-- The reasons of a play-back one after the other, as `admitted` asks them, and the state that is then played from.
use Rattle.std.specs.Prelude.{◌≡◌, List, ℕ, Ok, Err}
use Rattle.std.proofs.Common.{sym, ap, ◌∙◌, arith}
use Rattle.reason.specs.Checked.{checked, checked_ok, checked_err, checked_positive}
use Rattle.machine.specs.declared.Fresh.{Fresh}
use Rattle.machine.specs.Fresh.{Inputs, told, fresh_of, fresh_reason, fresh_state}
use Rattle.machine.specs.FreshLaws.{fresh_reason_lem, fresh_accepted, fresh_valid}
use Rattle.machine.specs.Range.{Valid}
use Rattle.playback.specs.Playback.{trace_reason, play_reason}
use Rattle.playback.specs.PlaybackLaws.{reason_fresh, reason_trace}

-- what the fresh state's call answers
module _ (i : Inputs) (trace : List ℕ) (fresh : Fresh) (is : fresh ≡ told (fresh_of i)) where
  made : fresh.made ≡ checked (fresh_reason i)
  made = ap (λ (r : Fresh). r.made) is ∙ ap checked (fresh_reason_lem i)

  pub refused_first : (k : ℕ) → fresh.made ≡ Err k → checked (play_reason i trace) ≡ Err k
  refused_first k e =
      let here = sym made ∙ e in
      let some = checked_positive (fresh_reason i) here in
      let same = checked_err (fresh_reason i) here in
      ap checked (reason_fresh i trace (λ z. absurd (omega arith))) ∙ here

  -- where it is made
  module _ {u : Unit} (e : fresh.made ≡ Ok u) where
    none : fresh_reason i ≡ 0
    none = checked_ok (fresh_reason i) (sym made ∙ e)

    pub state_is : fresh.state ≡ fresh_state i
    state_is = ap (λ (r : Fresh). r.state) is ∙ fresh_accepted i none

    pub in_range : Valid fresh.state
    in_range = rw state_is (fresh_valid i none)

    pub reason_is : checked (play_reason i trace) ≡ checked (trace_reason trace)
    reason_is = ap checked (reason_trace i trace none)
