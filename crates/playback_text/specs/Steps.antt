-- What the steps of the code are promised.
use Rattle.playback.specs.Playback.{Report}
use Rattle.std.specs.Prelude.{List, ℕ, ◌*◌, ◌<◌, length, Ok, Err}
use Rattle.text.specs.Numbers.{byte_or}
use Rattle.playback.specs.declared.Verdict.TheVariants as verdict

-- a work length as a byte: a number that no byte holds is none, and 0 stands for it
abbrev pub length_byte : ℕ → ℕ
length_byte x = byte_or 0 x

-- a triple that differs is one of the trace's
abbrev pub Within : Report → List ℕ → Type 0
Within (Ok verdict.Agrees) trace = Unit {0}
Within (Ok (verdict.Differs i)) trace = 3 * i < length trace
Within (Err k) trace = Unit {0}
