-- The loop of `play_from`: what is left of the trace is played from the state reached.
use Rattle.std.specs.Prelude.{◌≡◌, refl, List, ◌++◌, ℕ, ◌+◌, ◌*◌, ◌-◌, ◌/◌, ◌%◌, ◌≤◌, ◌<◌, min, eqb, length, Ok}
use Rattle.std.proofs.Common.{sym, ap, ◌∙◌, subst, arith, length-append}
use Rattle.std.proofs.Math.Decide.{ℕ_discrete}
use Rattle.bitset.specs.ChoiceLaws.{by_test}
use Rattle.machine.specs.declared.State.{State}
use Rattle.machine.specs.Range.{Valid}
use Rattle.machine.proofs.KeepLaws.{turn_valid}
use Rattle.playback.specs.declared.Part.{Part}
use Rattle.playback.specs.declared.Played.{Played}
use Rattle.playback.specs.declared.Verdict.TheVariants as verdict
use Rattle.playback.specs.Playback.{triples_of, play_from}
use Rattle.playback.specs.Steps.{Reports}
use Rattle.playback.specs.StepsLaws.{length_triples, short, triples_append, part_on, part_off}
use Rattle.playback.specs.PlaybackLaws.{from_none, play_keeps}

-- in front of the bytes `rest`, after i parts
pub record Playing (trace : List ℕ) (s₀ s : State) (i : ℕ) (rest : List ℕ) : Type 0 where
  pub left : length rest ≡ length trace - 12288 * i
  pub whole : length rest % 3 ≡ 0
  pub valid : Valid s
  pub played : play_from s₀ 0 (triples_of trace) ≡ play_from s (4096 * i) (triples_of rest)

-- a part that has been played keeps the range
part_valid : (s : State) (piece : List ℕ) (r : Part) → Valid s → Reports s (triples_of piece) r → Valid r.state
part_valid s piece r ok reports =
    subst Valid (ap (λ (p : Played). p.state) (reports.1 0) ∙ by_test (λ (p : Played). p.state ≡ r.state) (eqb r.same (length (triples_of piece))) (λ _. refl) (λ _. refl))
    (play_keeps Valid turn_valid s 0 (triples_of piece) ok)

-- nothing is left
pub over : {trace : List ℕ} {s₀ s : State} {i : ℕ} {rest : List ℕ} → Playing trace s₀ s i rest → length rest ≡ 0
    → play_from s₀ 0 (triples_of trace) ≡ record { state = s; verdict = Ok verdict.Agrees }
over {trace} {s₀} {s} {i} {rest} w none = w.played ∙ rw (short rest (omega (arith, none))) (from_none s (4096 * i))

-- the next part, and what its play tells
module _ {trace : List ℕ} {s₀ s : State} {i : ℕ} {rest : List ℕ} (w : Playing trace s₀ s i rest)
    (piece next : List ℕ) (parts : rest ≡ piece ++ next) (size : length piece ≡ min 12288 (length rest)) (r : Part) (reports : Reports s (triples_of piece) r) where
  sum : length rest ≡ length piece + length next
  sum = ap length parts ∙ length-append piece next

  split : play_from s₀ 0 (triples_of trace) ≡ play_from s (4096 * i) (triples_of piece ++ triples_of next)
  split = w.played ∙ ap (play_from s (4096 * i)) (ap triples_of parts ∙ triples_append piece next (omega (arith, size, w.whole)))

  pub stops : r.same < length piece / 3 → record { state = r.state; verdict = Ok (verdict.Differs (4096 * i + r.same)) } ≡ play_from s₀ 0 (triples_of trace)
  stops h = sym (split ∙ part_off s (4096 * i) (triples_of piece) (triples_of next) r reports (λ e. omega (arith, e, length_triples piece)))

  -- where a part is shorter than the others, nothing follows it
  onward : play_from r.state (4096 * i + length (triples_of piece)) (triples_of next) ≡ play_from r.state (4096 * (i + 1)) (triples_of next)
  onward = go (ℕ_discrete (length next) 0)
    where
      go : Dec (length next ≡ 0) → play_from r.state (4096 * i + length (triples_of piece)) (triples_of next) ≡ play_from r.state (4096 * (i + 1)) (triples_of next)
      go (yes none) =
          let nothing = short next (omega (arith, none)) in
          rw nothing (from_none r.state (4096 * i + length (triples_of piece)) ∙ sym (from_none r.state (4096 * (i + 1))))
      go (no some) =
          let long : 4096 * i + length (triples_of piece) ≡ 4096 * (i + 1) = omega (arith, length_triples piece, size, sum, some) in
          ap (λ (k : ℕ). play_from r.state k (triples_of next)) long

  pub goes : length piece / 3 ≤ r.same → Playing trace s₀ r.state (i + 1) next
  goes h =
      let all : r.same ≡ length (triples_of piece) = omega (arith, length_triples piece, reports.0) in
      record {
        left = omega (arith, w.left, size, sum);
        whole = omega (arith, w.whole, size, sum);
        valid = part_valid s piece r w.valid reports;
        played = split ∙ part_on s (4096 * i) (triples_of piece) (triples_of next) r reports all ∙ onward;
      }
