-- From the five things to the printed lines (01, "The sheet program").
use Rattle.std.specs.Prelude.{List, [], ◌∷◌, ◌++◌, ℕ, zero, suc, ◌-◌, eqb, length, replicate}
use Rattle.bitset.specs.Choice.{pick}
use Rattle.text.specs.Decimal.{decimal, spaced, refused_word}
use Rattle.schedule.specs.Passes.{passes_of}
use Rattle.machine.specs.Setters.{task_at}
use Rattle.machine.specs.Fresh.{fresh_of}
use Rattle.machine.specs.Least.{least}
use Rattle.runner.specs.Trace.{Trace, trace_of}
use Rattle.runner.specs.Run.{moves_in, waits_in}
use Rattle.reader.specs.Read.{Five, Reading, five, refused, read_of}

-- "The columns are task number, final line, final count, moves, waits"; "every line ends with a line feed"
unfoldable pub row_with : ℕ → ℕ → ℕ → ℕ → ℕ → List ℕ
row_with task line count moves waits = decimal task ++ spaced line ++ spaced count ++ spaced moves ++ spaced waits ++ 10 ∷ []

abbrev pub row_of : Trace → ℕ → List ℕ
row_of t q = row_with q (task_at t.state q).line (task_at t.state q).count (moves_in t.made q) (waits_in t.made q)

-- the rows of the tasks below n
unfoldable pub rows_by : (ℕ → List ℕ) → ℕ → List ℕ
rows_by row zero = []
rows_by row (suc q) = rows_by row q ++ row q

-- "task line count moves waits"
abbrev pub header : List ℕ
header =
    116 ∷ 97 ∷ 115 ∷ 107 ∷ 32 ∷ 108 ∷ 105 ∷ 110 ∷ 101 ∷ 32 ∷ 99 ∷ 111 ∷ 117 ∷ 110 ∷ 116 ∷ 32 ∷ 109 ∷ 111 ∷ 118 ∷ 101 ∷ 115 ∷ 32
    ∷ 119 ∷ 97 ∷ 105 ∷ 116 ∷ 115 ∷ 10 ∷ []

-- "passes", "least", "place"
abbrev pub passes_word : List ℕ
passes_word = 112 ∷ 97 ∷ 115 ∷ 115 ∷ 101 ∷ 115 ∷ []

abbrev pub least_word : List ℕ
least_word = 32 ∷ 108 ∷ 101 ∷ 97 ∷ 115 ∷ 116 ∷ []

abbrev pub place_word : List ℕ
place_word = 32 ∷ 112 ∷ 108 ∷ 97 ∷ 99 ∷ 101 ∷ []

-- "It runs everything from a fresh state."
abbrev pub trace_in : Five → Trace
trace_in f = trace_of (fresh_of f.inputs).state f.schedule

-- "then the passes and the least final count"
unfoldable pub table_with : List ℕ → ℕ → ℕ → List ℕ
table_with rows passes least = header ++ rows ++ passes_word ++ spaced passes ++ least_word ++ spaced least ++ 10 ∷ []

unfoldable pub sheet_table : Five → List ℕ
sheet_table f =
    table_with (rows_by (row_of (trace_in f)) f.inputs.n) (length (passes_of f.inputs.n f.schedule)) (least (trace_in f).state)

-- "A refusal prints one line, `refused 3`; for 9 it is `refused 9 place 4`"
unfoldable pub refusal_of : ℕ → ℕ → List ℕ
refusal_of reason place = refused_word ++ spaced reason ++ pick (eqb reason 9) (place_word ++ spaced place) [] ++ 10 ∷ []

abbrev pub printed : Reading → List ℕ
printed (five f) = sheet_table f
printed (refused reason place) = refusal_of reason place

unfoldable pub sheet_of : List ℕ → List ℕ
sheet_of text = printed (read_of text)

-- the page: what is printed, and after it zeros up to its 2,048 bytes
abbrev pub page_of : List ℕ → List ℕ
page_of text = sheet_of text ++ replicate (2048 - length (sheet_of text)) 0
