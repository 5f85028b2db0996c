-- The loop of `known_tasks`: the tasks written so far, and in front of those that the rest of the trace holds, are the trace's.
use Rattle.std.specs.Prelude.{◌≡◌, refl, List, [], ◌∷◌, ◌++◌, ℕ, ◌+◌, ◌*◌, ◌/◌, ◌≤◌, ◌<◌, length, take, set, get_or}
use Rattle.std.proofs.Common.{ap, ◌∙◌, arith, append_assoc, append-nil, length-append}
use lib.ListN.{length-set}
use lib.Seq.{take-suc-set, length-take-le}
use native.Mathlib.Numerals.{add-one}
use Rattle.playback.specs.Playback.{Triple, triples_of}
use Rattle.playback.specs.Steps.{known_in}
use Rattle.playback.specs.StepsLaws.{triples_split, short, known_more, known_last, known_none}

-- in front of the bytes `rest`: i tasks are in the buffer
pub record Gathering (n : ℕ) (trace tasks₀ tasks : List ℕ) (i : ℕ) (rest : List ℕ) : Type 0 where
  pub passed : 3 * i + length rest ≡ length trace
  pub same : length tasks ≡ length tasks₀
  pub read : known_in n (triples_of trace) ≡ take i tasks ++ known_in n (triples_of rest)

module _ {n : ℕ} {trace tasks₀ tasks : List ℕ} {i : ℕ} {rest : List ℕ} (w : Gathering n trace tasks₀ tasks i rest) (room : length trace ≤ 3 * length tasks₀) where
  -- what it ends with, where no task follows
  ends : known_in n (triples_of rest) ≡ [] → (i ≡ length (known_in n (triples_of trace))) × (take i tasks ≡ known_in n (triples_of trace))
  ends none =
      let all : known_in n (triples_of trace) ≡ take i tasks = w.read ∙ rw (none, append-nil (take i tasks)) in
      rw (all, length-take-le i tasks (omega (arith, w.same, w.passed))) (refl, refl)

  pub over : length rest < 3 → (length trace / 3 ≡ length (known_in n (triples_of trace))) × (take (length trace / 3) tasks ≡ known_in n (triples_of trace))
  over l = let all : length trace / 3 ≡ i = omega (arith, w.passed) in rw all (ends (rw (short rest l, known_none n)))

  -- the next triple
  module _ (x next : List ℕ) (parts : rest ≡ x ++ next) (three : length x ≡ 3) where
    abbrev triple : Triple
    triple = record { task = get_or x 0 0; line = get_or x 1 0; how = get_or x 2 0 }

    pub bound : i < length tasks
    bound = omega (arith, w.passed, w.same, ap length parts, length-append x next)

    pub more : get_or x 0 0 < n → Gathering n trace tasks₀ (set tasks i (get_or x 0 0)) (i + 1) next
    more h =
        record {
          passed = omega (arith, w.passed, ap length parts, length-append x next);
          same = rw length-set w.same;
          read =
              let longer : take (i + 1) (set tasks i (get_or x 0 0)) ≡ take i tasks ++ get_or x 0 0 ∷ [] = rw (add-one i) (take-suc-set tasks i (get_or x 0 0) bound) in
              w.read
              ∙ rw (parts, triples_split x next three, known_more n triple (triples_of next) h, longer, append_assoc (take i tasks) (get_or x 0 0 ∷ []) (known_in n (triples_of next)));
        }

    -- names no task
    pub unknown : n ≤ get_or x 0 0 → (i ≡ length (known_in n (triples_of trace))) × (take i tasks ≡ known_in n (triples_of trace))
    unknown h = ends (rw (parts, triples_split x next three, known_last n triple (triples_of next) h))
