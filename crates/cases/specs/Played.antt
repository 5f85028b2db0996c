-- Cases of 02's P4, worked out by hand from the papers, one claim over the definitions that the contracts cite, shown by computation.
use Rattle.std.specs.Prelude.{◌≡◌, refl, List, [], ◌∷◌, ℕ, take, set, Ok, Err}
use Rattle.machine.specs.Fresh.{inputs_of, zero_state}
use Rattle.playback.specs.declared.Verdict.TheVariants.{Agrees, Differs}
use Rattle.playback.specs.declared.Played.{Played}
use Rattle.playback.specs.Playback.{triples_of, play_from, play_reason, play_of}
use Rattle.cases.specs.Cases.{computing, setup, fresh, after}
use Rattle.cases.specs.Rounds.{sheet_turns}

-- the sheet's example (01) as the watch writes it: task 0 arrives first and waits at 16, task 1 arrives last, turns the sense, and 0 goes on
abbrev pub sheet_trace : List ℕ
sheet_trace =
    0 ∷ 11 ∷ 1 ∷ 0 ∷ 12 ∷ 1 ∷ 0 ∷ 13 ∷ 1 ∷ 0 ∷ 16 ∷ 0 ∷ 1 ∷ 11 ∷ 1 ∷ 1 ∷ 12 ∷ 1 ∷ 1 ∷ 13 ∷ 1 ∷ 1 ∷ 14 ∷ 1 ∷ 1 ∷ 15 ∷ 1 ∷ 0 ∷ 16 ∷ 1 ∷ []

-- a play-back of two tasks of kind 1, and one with a start table, which that kind does not take
abbrev pub plays : List ℕ → Played
plays trace = play_of (inputs_of (setup 1 2 0) [] [] []) trace

abbrev pub plays_started : List ℕ → Played
plays_started trace = play_of (inputs_of (setup 1 2 0) [] (0 ∷ 0 ∷ []) []) trace

-- the trace with another byte at a place, from 0
abbrev pub changed : ℕ → ℕ → List ℕ
changed place byte = set sheet_trace place byte

-- a trace that differs at k, with the state after the turns before
abbrev pub DiffersAt : List ℕ → ℕ → Type 0
DiffersAt trace k = ((plays trace).verdict ≡ Ok (Differs k)) × ((plays trace).state ≡ after (fresh 1 2 0 []) (take k sheet_turns))

pub record PlayedBack : Type 0 where
  -- it agrees, with the end state; so does no triple at all, with the fresh state
  pub sheet : ((plays sheet_trace).verdict ≡ Ok Agrees) × ((plays sheet_trace).state ≡ after (fresh 1 2 0 []) sheet_turns)
  pub empty : ((plays []).verdict ≡ Ok Agrees) × ((plays []).state ≡ fresh 1 2 0 [])
  -- each byte of the first triple, of one in the middle, the wait of task 0, and of the last; task 1 in place of task 0 also moves from 11 at first,
  -- and it is the next triple that differs then
  pub first : DiffersAt (changed 1 12) 0 × DiffersAt (changed 2 0) 0
  pub other : ((plays (changed 0 1)).verdict ≡ Ok (Differs 1)) × ((plays (changed 0 1)).state ≡ after (fresh 1 2 0 []) (1 ∷ []))
  pub middle : DiffersAt (changed 9 1) 3 × DiffersAt (changed 10 11) 3 × DiffersAt (changed 11 1) 3
  pub last : DiffersAt (changed 27 1) 9 × DiffersAt (changed 28 11) 9 × DiffersAt (changed 29 0) 9
  -- a task of N, an outcome of 2
  pub unknown : DiffersAt (changed 0 2) 0 × DiffersAt (changed 27 2) 9
  pub outcome : DiffersAt (changed 2 2) 0 × DiffersAt (changed 29 2) 9
  -- 14; before it the fresh state's own, 12 here; and zeros
  pub rest : ((plays (take 29 sheet_trace)).verdict ≡ Err 14) × ((plays (take 29 sheet_trace)).state ≡ zero_state)
  pub order : ((plays_started (take 29 sheet_trace)).verdict ≡ Err 12) × ((plays_started sheet_trace).state ≡ zero_state)

pub played : PlayedBack
unfolding computing triples_of play_from play_reason play_of
played =
    record {
      sheet = (refl, refl);
      empty = (refl, refl);
      first = ((refl, refl), (refl, refl));
      other = (refl, refl);
      middle = ((refl, refl), (refl, refl), (refl, refl));
      last = ((refl, refl), (refl, refl), (refl, refl));
      unknown = ((refl, refl), (refl, refl));
      outcome = ((refl, refl), (refl, refl));
      rest = (refl, refl);
      order = (refl, refl);
    }
