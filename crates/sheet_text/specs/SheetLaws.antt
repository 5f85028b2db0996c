-- The law of the whole sheet: it fits the page for every text.
use Rattle.std.specs.Prelude.{List, ℕ, ◌≤◌, length}
use Rattle.std.proofs.Common.{arith}
use Rattle.machine.specs.Fresh.{fresh_state}
use Rattle.machine.specs.FreshLaws.{fresh_valid, fresh_accepted}
use Rattle.reader.specs.ReadLaws.{by_reading}
use Rattle.sheet_text.specs.Print.{sheet_table, printed, sheet_of}
use Rattle.sheet_text.specs.Steps.{table_from}
use Rattle.sheet_text.specs.PrintLaws.{refusal_length, table_fits}

-- the sheet of every text fits the page of 2,048 bytes
pub fits : (text : List ℕ) → length (sheet_of text) ≤ 2048
unfolding sheet_of sheet_table table_from
fits text =
    by_reading (λ r. length (printed r) ≤ 2048) text (λ reason place ne. omega (arith, refusal_length reason place))
    (λ f a. rw (fresh_accepted f.inputs a.reason) (table_fits (fresh_state f.inputs) f.schedule (fresh_valid f.inputs a.reason) (omega (arith, a.few))))
