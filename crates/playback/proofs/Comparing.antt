-- The loop of `same_rows`: the triples passed have the log's bytes, and the rest is compared with the rest of the log.
use Rattle.std.specs.Prelude.{◌≡◌, ◌≢◌, List, ◌∷◌, ◌++◌, ℕ, ◌+◌, ◌*◌, ◌/◌, ◌≤◌, ◌<◌, length, get_or}
use Rattle.std.proofs.Common.{ap, ◌∙◌, arith, length-append}
use Rattle.playback.specs.Playback.{Triple, triples_of}
use Rattle.playback.specs.Steps.{same_in}
use Rattle.playback.specs.StepsLaws.{triples_split, row_next, same_more, other_line, other_outcome, same_done}

-- in front of the bytes `rest` of the trace and `bytes` of the log: i triples before them have the log's bytes
pub record Comparing (trace log : List ℕ) (i : ℕ) (rest bytes : List ℕ) : Type 0 where
  pub passed : 3 * i + length rest ≡ length trace
  pub rows : 2 * i + length bytes ≡ length log
  pub read : same_in (triples_of trace) log ≡ i + same_in (triples_of rest) bytes

module _ {trace log : List ℕ} {i : ℕ} {rest bytes : List ℕ} (w : Comparing trace log i rest bytes) where
  -- no row is left of the log; where no triple is left there is none either
  pub over : length bytes < 2 → length log / 2 ≡ same_in (triples_of trace) log
  over l = omega (arith, w.read, w.rows, same_done (triples_of rest) bytes l)

  pub ended : 3 * length log ≤ 2 * length trace → length rest < 3 → length log / 2 ≡ same_in (triples_of trace) log
  ended room l = over (omega (arith, w.passed, w.rows))

  -- the next triple, and the two bytes of the log that it is compared with
  module _ (x next row after : List ℕ) (parts : rest ≡ x ++ next) (three : length x ≡ 3) (cut : bytes ≡ row ++ after) (two : length row ≡ 2) where
    abbrev triple : Triple
    triple = record { task = get_or x 0 0; line = get_or x 1 0; how = get_or x 2 0 }

    here : same_in (triples_of trace) log ≡ i + same_in (triple ∷ triples_of next) (get_or row 0 0 ∷ get_or row 1 0 ∷ after)
    here = w.read ∙ rw (parts, triples_split x next three, cut, row_next row after two)

    pub more : get_or x 1 0 ≡ get_or row 0 0 → get_or x 2 0 ≡ get_or row 1 0 → Comparing trace log (i + 1) next after
    more line how =
        record {
          passed = omega (arith, w.passed, ap length parts, length-append x next);
          rows = omega (arith, w.rows, ap length cut, length-append row after);
          read = omega (arith, here, same_more triple (triples_of next) (get_or row 0 0) (get_or row 1 0) after line how);
        }

    pub line_differs : get_or x 1 0 ≢ get_or row 0 0 → i ≡ same_in (triples_of trace) log
    line_differs ne = omega (arith, here, other_line triple (triples_of next) (get_or row 0 0) (get_or row 1 0) after ne)

    pub outcome_differs : get_or x 2 0 ≢ get_or row 1 0 → i ≡ same_in (triples_of trace) log
    outcome_differs ne = omega (arith, here, other_outcome triple (triples_of next) (get_or row 0 0) (get_or row 1 0) after ne)
