-- From a text to the five things that it says, or a refusal (01, "The sheet program" and reasons 1 to 6 and 9).
use Rattle.std.specs.Prelude.{Bool, ◌&&◌, List, [], ◌∷◌, ◌++◌, ℕ, eqb, leb, length, take, drop, Result, Ok, Err}
use Rattle.std.proofs.Math.Option.{Option, none, some}
use Rattle.bitset.specs.Choice.{pick}
use Rattle.text.specs.Numbers.{numbers_of}
use Rattle.schedule.specs.Passes.{unknown_at, all_tasks}
use Rattle.machine.specs.Fresh.{Inputs, inputs_of, fresh_reason}
use Rattle.reason.specs.declared.PlacedRefusal.{PlacedRefusal}
use Rattle.reason.specs.Placed.{placed}
use Rattle.reader.specs.declared.Said.{Said}

-- the five things: kind, N, R, parents and schedule
pub record Five : Type 0 where
  pub inputs : Inputs
  pub schedule : List ℕ

-- what reading a text gives: the five things, or the reason and, for 9, the place, else 0
pub data Reading : Type 0 where
  five : Five → Reading
  refused : ℕ → ℕ → Reading

-- "kind, N, R, for kind 3 the next N numbers as parents (fewer if the text ends), then the schedule"
abbrev pub parent_count : ℕ → ℕ → ℕ
parent_count kind n = pick (eqb kind 3) n 0

-- no table but the parents is given
abbrev pub five_of : ℕ → ℕ → ℕ → List ℕ → Five
five_of kind n modulus rest =
    record {
      inputs = inputs_of (record { kind = kind; n = n; modulus = modulus }) (take (parent_count kind n) rest) [] [];
      schedule = drop (parent_count kind n) rest;
    }

-- "It checks 1 to 6, then 9": 2 to 6 are the fresh state's
abbrev pub checked : Five → Reading
checked f =
    pick (eqb (fresh_reason f.inputs) 0)
    (pick (all_tasks f.inputs.n f.schedule) (five f) (refused 9 (unknown_at f.inputs.n f.schedule)))
    (refused (fresh_reason f.inputs) 0)

-- 1: "or has fewer than three numbers"
abbrev pub read_numbers : List ℕ → Reading
read_numbers [] = refused 1 0
read_numbers (kind ∷ []) = refused 1 0
read_numbers (kind ∷ n ∷ []) = refused 1 0
read_numbers (kind ∷ n ∷ modulus ∷ rest) = checked (five_of kind n modulus rest)

abbrev pub read_option : Option (List ℕ) → Reading
read_option none = refused 1 0
read_option (some ns) = read_numbers ns

unfoldable pub read_of : List ℕ → Reading
read_of text = read_option (numbers_of text)

-- ---- into lent buffers

-- whether buffers of so many bytes have room for the parents and for the turns
abbrev pub room_for : Five → ℕ → ℕ → Bool
room_for f parents turns = leb (length f.inputs.parents) parents && leb (length f.schedule) turns

-- 10: "A lent buffer is too short", after the text's own reasons
abbrev pub within : Reading → ℕ → ℕ → Reading
within (five f) parents turns = pick (room_for f parents turns) (five f) (refused 10 0)
within (refused reason place) parents turns = refused reason place

-- the same as the code answers it
abbrev pub answer_of : Reading → Result Said PlacedRefusal
answer_of (five f) =
    Ok (record {
      setup = record { kind = f.inputs.kind; n = f.inputs.n; modulus = f.inputs.modulus };
      parents = length f.inputs.parents;
      turns = length f.schedule;
    })
answer_of (refused reason place) = Err (placed reason place)

-- ---- by numbers

pub record Told : Type 0 where
  pub reason : ℕ
  pub place : ℕ
  pub kind : ℕ
  pub n : ℕ
  pub modulus : ℕ
  pub parents : ℕ
  pub turns : ℕ

-- what is told of a reading: the reason and the place of a refusal, each 0 where there is none; kind, N, R, and how many parents and turns there
-- are: "every other number in the answer is 0" where it is refused
abbrev pub said_of : Reading → Told
said_of (five f) =
    record {
      reason = 0;
      place = 0;
      kind = f.inputs.kind;
      n = f.inputs.n;
      modulus = f.inputs.modulus;
      parents = length f.inputs.parents;
      turns = length f.schedule;
    }
said_of (refused reason place) = record { reason = reason; place = place; kind = 0; n = 0; modulus = 0; parents = 0; turns = 0 }

-- the buffers after it: the parents and the turns stand in their first bytes, and what is after them doesn't change; a refused call "writes to
-- no buffer"
abbrev pub parents_in : Reading → List ℕ → List ℕ
parents_in (five f) buffer = f.inputs.parents ++ drop (length f.inputs.parents) buffer
parents_in (refused reason place) buffer = buffer

abbrev pub turns_in : Reading → List ℕ → List ℕ
turns_in (five f) buffer = f.schedule ++ drop (length f.schedule) buffer
turns_in (refused reason place) buffer = buffer

-- what the text says, with buffers of so many bytes
unfoldable pub read_within : List ℕ → ℕ → ℕ → Reading
read_within text parents turns = within (read_of text) parents turns
