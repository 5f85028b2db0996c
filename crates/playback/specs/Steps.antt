-- What the steps of a play-back leave: the tasks that can be run, how many triples the log of their run has, and what a part tells.
use Rattle.std.specs.Prelude.{◌≡◌, ◌&&◌, List, [], ◌∷◌, ℕ, suc, ◌+◌, ◌≤◌, eqb, ltb, length, Ok}
use Rattle.bitset.specs.Choice.{pick}
use Rattle.machine.specs.declared.State.{State}
use Rattle.playback.specs.declared.Verdict.TheVariants as verdict
use Rattle.playback.specs.declared.Played.{Played}
use Rattle.playback.specs.declared.Part.{Part}
use Rattle.playback.specs.Playback.{Triple, play_from}

-- the tasks of the triples before the first that names no task
unfoldable pub known_in : ℕ → List Triple → List ℕ
known_in n [] = []
known_in n (t ∷ ts) =
    let rest = known_in n ts in
    pick (ltb t.task n) (t.task ∷ rest) []

-- how many triples, from the first on, have the log's two bytes of their turn
unfoldable pub same_in : List Triple → List ℕ → ℕ
same_in [] log = 0
same_in (t ∷ ts) [] = 0
same_in (t ∷ ts) (line ∷ []) = 0
same_in (t ∷ ts) (line ∷ how ∷ log) =
    let rest = same_in ts log in
    pick (eqb t.line line && eqb t.how how) (suc rest) 0

-- what a part tells of its triples, the first of which has the index i: it agrees where all are the same, else the first that is not differs
abbrev pub part_play : ℕ → ℕ → Part → Played
part_play i count r =
    pick (eqb r.same count) (record { state = r.state; verdict = Ok verdict.Agrees }) (record { state = r.state; verdict = Ok (verdict.Differs (i + r.same)) })

-- the part r reports the triples ts, played from the state s
abbrev pub Reports : State → List Triple → Part → Type 0
Reports s ts r = (r.same ≤ length ts) × ((i : ℕ) → play_from s i ts ≡ part_play i (length ts) r)
