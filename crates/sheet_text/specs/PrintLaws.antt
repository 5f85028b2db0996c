-- Laws of what is printed: row by row, and how long it is.
use Rattle.std.specs.Prelude.{◌≡◌, refl, Bool, true, false, ◌≢◌, ℕ, zero, suc, ◌+◌, ◌*◌, ◌≤◌, ◌<◌, eqb, length}
use Rattle.std.proofs.Common.{ap, add-one, length-append, ne_eqb}
use mathlib.Core.List.{List, [], ◌∷◌, ◌++◌, append-nil}
use native.Mathlib.Omega.{arith}
use Rattle.bitset.specs.Choice.{pick}
use Rattle.text.specs.Decimal.{decimal, spaced, refused_word}
use Rattle.text.specs.DecimalLaws.{decimal_most, decimal_length}
use Rattle.schedule.specs.Passes.{passes_of}
use Rattle.schedule.specs.PassesLaws.{passes_few}
use Rattle.setup.specs.RangeLaws.{line_18}
use Rattle.machine.specs.declared.State.{State}
use Rattle.machine.specs.Setters.{task_at}
use Rattle.machine.specs.Range.{Valid}
use Rattle.machine.specs.Least.{least}
use Rattle.machine.specs.RangeLaws.{InRange, range}
use Rattle.machine.proofs.KeepLaws.{turn_valid}
use Rattle.machine.specs.LeastLaws.{least_le}
use Rattle.runner.specs.Trace.{trace_of}
use Rattle.runner.specs.Run.{moves_in, waits_in}
use Rattle.runner.specs.TraceLaws.{trace_keeps, trace_n}
use Rattle.runner.specs.RunLaws.{moves_few, waits_few}
use Rattle.reader.specs.Read.{Reading, five, refused, said_of}
use Rattle.sheet_text.specs.Print.{row_with, row_of, rows_by, place_word, table_with, refusal_of, printed}
use Rattle.sheet_text.specs.Steps.{table_from}

-- ---- the lines

-- one row more
pub rows_more : (row : ℕ → List ℕ) (q : ℕ) → rows_by row (q + 1) ≡ rows_by row q ++ row q
unfolding rows_by
rows_more row q = rw add-one

-- a refusal other than 9
pub refusal_plain : (reason place : ℕ) → reason ≢ 9 → refusal_of reason place ≡ refused_word ++ spaced reason ++ 10 ∷ []
unfolding refusal_of
refusal_plain reason place ne =
    rw (ne_eqb reason 9 ne) (ap (λ (ws : List ℕ). ws ++ 10 ∷ []) (append-nil (refused_word ++ spaced reason)))

-- what is printed of a refused text
pub refused_printed : (r : Reading) → (said_of r).reason ≢ 0 → printed r ≡ refusal_of (said_of r).reason (said_of r).place
refused_printed (five f) ne = absurd (ne refl)
refused_printed (refused reason place) ne = refl

-- ---- how long the lines are

pub row_length : (task line count moves waits : ℕ) → length (row_with task line count moves waits)
    ≡ length (decimal task) + length (decimal line) + length (decimal count) + length (decimal moves) + length (decimal waits) + 5
unfolding row_with
row_length task line count moves waits = simp length-append (omega arith)

pub table_length : (rows : List ℕ) (passes least : ℕ)
    → length (table_with rows passes least) ≡ 43 + length rows + length (decimal passes) + length (decimal least)
unfolding table_with
table_length rows passes least = simp length-append (omega arith)

pub refusal_length : (reason place : ℕ) → length (refusal_of reason place) ≤ 56
unfolding refusal_of
refusal_length reason place = go (eqb reason 9)
  where
    go : (b : Bool) → length (refused_word ++ spaced reason ++ pick b (place_word ++ spaced place) [] ++ 10 ∷ []) ≤ 56
    go true = simp length-append (omega (arith, decimal_most 20 reason, decimal_most 20 place))
    go false = simp length-append (omega (arith, decimal_most 20 reason))

-- rows of at most k bytes
pub rows_length : (row : ℕ → List ℕ) (k n : ℕ) → ((q : ℕ) → q < n → length (row q) ≤ k) → length (rows_by row n) ≤ k * n
unfolding rows_by
rows_length row k zero h = omega arith
rows_length row k (suc n) h = rw length-append (omega (arith, h n (omega arith), rows_length row k n (λ q l. h q (omega arith))))

pub rows_same : (f g : ℕ → List ℕ) (n : ℕ) → ((q : ℕ) → q < n → f q ≡ g q) → rows_by f n ≡ rows_by g n
unfolding rows_by
rows_same f g zero h = refl
rows_same f g (suc n) h = rw (rows_same f g n (λ q l. h q (omega arith)), h n (omega arith))

-- ---- what is printed fits the page

module _ (s : State) (ts : List ℕ) (ok : Valid s) (few : length ts ≤ 65536) where
  ended : InRange (trace_of s ts).state
  ended = range (trace_of s ts).state (trace_keeps Valid turn_valid s ts ok)

  row_fits : (q : ℕ) → q < s.n → length (row_of (trace_of s ts) q) ≤ 26
  row_fits q h =
      let t = trace_of s ts in
      let r = ended.tasks q (rw (trace_n s ts) h) in
      omega (
        arith,
        row_length q (task_at t.state q).line (task_at t.state q).count (moves_in t.made q) (waits_in t.made q),
        decimal_length 20 1 q (omega (arith, (range s ok).few)),
        decimal_length 20 1 (task_at t.state q).line (omega (arith, r.line_to, line_18 t.state.kind)),
        decimal_length 20 6 (task_at t.state q).count (omega (arith, r.count)),
        decimal_length 20 4 (moves_in t.made q) (omega (arith, moves_few s ts q)),
        decimal_length 20 4 (waits_in t.made q) (omega (arith, waits_few s ts q)),
      )

  pub table_fits : length (table_from s ts) ≤ 2048
  unfolding table_from
  table_fits =
      let t = trace_of s ts in
      omega (
        arith,
        table_length (rows_by (row_of t) s.n) (length (passes_of s.n ts)) (least t.state),
        rows_length (row_of t) 26 s.n row_fits,
        (range s ok).few,
        decimal_length 20 4 (length (passes_of s.n ts)) (omega (arith, passes_few s.n [] ts)),
        decimal_length 20 6 (least t.state) (omega (arith, least_le t.state 0 ended.some, (ended.tasks 0 ended.some).count)),
      )
