-- Laws of what a text says: which reason applies, what an accepted text has, and that the bytes of its numbers say the same as the numbers.
use Rattle.std.specs.Prelude.{◌≡◌, refl, Bool, true, false, List, [], ◌∷◌, map, ◌≢◌, ℕ, ◌≤◌, ◌<◌, min, eqb, leb, length, take, drop, get_or, Ok, Err}
use Rattle.std.proofs.Common.{sym, ap, ◌∙◌, subst, arith, length-drop, eq-eqb, ne_eqb, le-leb, eqb-true, leb-true}
use Rattle.std.proofs.Math.Option.{Option, none, some}
use Rattle.std.proofs.Math.Decide.{ℕ_discrete}
use Rattle.std.proofs.lemmas.List.{length-map, take_min, drop_min}
use Rattle.std.proofs.lemmas.Bool.{eqb-false}
use Rattle.bitset.specs.Choice.{pick}
use Rattle.bitset.specs.ChoiceLaws.{by_test}
use Rattle.text.specs.Numbers.{numbers_from, max_text, low, over}
use Rattle.text.specs.NumbersLaws.{numbers_few, over_whole, low_below, low_list, low_alike}
use Rattle.schedule.specs.Passes.{unknown_at, all_tasks}
use Rattle.schedule.specs.PassesLaws.{all_known, unknown_le, unknown_alike}
use Rattle.machine.specs.declared.Setup.{Setup}
use Rattle.machine.specs.Fresh.{Inputs, inputs_of, fresh_reason}
use Rattle.machine.specs.FreshLaws.{with_entries, accepted_inputs, parents_few, entries_reason, entries_same}
use Rattle.reader.specs.Read.{Five, Reading, five, refused, parent_count, five_of, checked, read_numbers, read_option, read_of, within, said_of, answer_of, parents_in, turns_in, read_within}
use Rattle.reason.specs.declared.PlacedRefusal.{PlacedRefusal}
use Rattle.reader.specs.declared.Said.{Said}

-- ---- the first numbers, and those after them

-- as many as there are
pub take_few : (k : ℕ) (xs : List ℕ) → take (min k (length xs)) xs ≡ take k xs
take_few = take_min

pub drop_few : (k : ℕ) (xs : List ℕ) → drop (min k (length xs)) xs ≡ drop k xs
drop_few = drop_min

-- ---- the turns

pub low_unknown : (n : ℕ) (ts : List ℕ) → n ≤ 255 → unknown_at n (map low ts) ≡ unknown_at n ts
low_unknown n ts h = unknown_alike low n (λ x. low_below x n h) ts

-- turns that are tasks are their own bytes
pub low_turns : (n : ℕ) (ts : List ℕ) → n ≤ 255 → all_tasks n ts ≡ true → map low ts ≡ ts
low_turns n ts h e = low_list ts (λ i l. omega (arith, (all_known n ts).0 e i l))

-- ---- the tables

-- the inputs with the bytes of the tables
abbrev pub low_inputs : Inputs → Inputs
low_inputs i = with_entries low i

pub low_reason : (i : Inputs) → fresh_reason (low_inputs i) ≡ fresh_reason i
low_reason = entries_reason low low_alike

-- tables that are accepted are their own bytes
pub low_inputs_lem : (i : Inputs) → fresh_reason i ≡ 0 → low_inputs i ≡ i
low_inputs_lem = entries_same low low_alike

-- no table but the parents is given
pub given : (s : Setup) (ps a b d : List ℕ) → (a ≡ ps) × (b ≡ []) × (d ≡ []) → inputs_of s a b d ≡ inputs_of s ps [] []
given s ps a b d e = rw (e.0, e.1, e.2)

-- ---- which reason applies

module _ (f : Five) where
  pub checked_inputs : fresh_reason f.inputs ≢ 0 → checked f ≡ refused (fresh_reason f.inputs) 0
  checked_inputs ne = rw (ne_eqb (fresh_reason f.inputs) 0 ne)

  module _ (z : fresh_reason f.inputs ≡ 0) where
    pub checked_unknown : unknown_at f.inputs.n f.schedule < length f.schedule → checked f ≡ refused 9 (unknown_at f.inputs.n f.schedule)
    checked_unknown h =
        rw (eq-eqb (fresh_reason f.inputs) 0 z, ne_eqb (unknown_at f.inputs.n f.schedule) (length f.schedule) (λ e. omega arith))

    pub checked_five : length f.schedule ≤ unknown_at f.inputs.n f.schedule → checked f ≡ five f
    checked_five h =
        let all : unknown_at f.inputs.n f.schedule ≡ length f.schedule = omega (arith, unknown_le f.inputs.n f.schedule) in
        rw (eq-eqb (fresh_reason f.inputs) 0 z, eq-eqb (unknown_at f.inputs.n f.schedule) (length f.schedule) all)

  -- the five things, with bytes in place of numbers
  abbrev pub low_five : Five
  low_five = record { inputs = low_inputs f.inputs; schedule = map low f.schedule }

  -- the same is said of them
  pub low_said : said_of (checked low_five) ≡ said_of (checked f)
  low_said = go (ℕ_discrete (fresh_reason f.inputs) 0)
    where
      go : Dec (fresh_reason f.inputs ≡ 0) → said_of (checked low_five) ≡ said_of (checked f)
      go (no ne) = rw (low_reason f.inputs, ne_eqb (fresh_reason f.inputs) 0 ne)
      go (yes z) =
          rw (low_reason f.inputs, eq-eqb (fresh_reason f.inputs) 0 z, length-map f.schedule low, low_unknown f.inputs.n f.schedule (omega (arith, (accepted_inputs f.inputs z).few)))
          (told (all_tasks f.inputs.n f.schedule))
        where
          told : (b : Bool) → said_of (pick b (five low_five) (refused 9 (unknown_at f.inputs.n f.schedule))) ≡ said_of (pick b (five f) (refused 9 (unknown_at f.inputs.n f.schedule)))
          told true = rw (length-map f.inputs.parents low, length-map f.schedule low)
          told false = refl

  pub low_answer : answer_of (checked low_five) ≡ answer_of (checked f)
  low_answer = go (ℕ_discrete (fresh_reason f.inputs) 0)
    where
      go : Dec (fresh_reason f.inputs ≡ 0) → answer_of (checked low_five) ≡ answer_of (checked f)
      go (no ne) = rw (low_reason f.inputs, ne_eqb (fresh_reason f.inputs) 0 ne)
      go (yes z) =
          rw (low_reason f.inputs, eq-eqb (fresh_reason f.inputs) 0 z, length-map f.schedule low, low_unknown f.inputs.n f.schedule (omega (arith, (accepted_inputs f.inputs z).few)))
          (told (all_tasks f.inputs.n f.schedule))
        where
          told : (b : Bool) → answer_of (pick b (five low_five) (refused 9 (unknown_at f.inputs.n f.schedule))) ≡ answer_of (pick b (five f) (refused 9 (unknown_at f.inputs.n f.schedule)))
          told true = rw (length-map f.inputs.parents low, length-map f.schedule low)
          told false = refl

  -- what is said to be accepted is
  pub said_five : (said_of (checked f)).reason ≡ 0 → (fresh_reason f.inputs ≡ 0) × (all_tasks f.inputs.n f.schedule ≡ true) × (checked f ≡ five f)
  said_five = go (ℕ_discrete (fresh_reason f.inputs) 0)
    where
      go : Dec (fresh_reason f.inputs ≡ 0) → (said_of (checked f)).reason ≡ 0 → (fresh_reason f.inputs ≡ 0) × (all_tasks f.inputs.n f.schedule ≡ true) × (checked f ≡ five f)
      go (no ne) e = absurd (ne (rw (checked_inputs ne) at e))
      go (yes z) e = all (all_tasks f.inputs.n f.schedule) refl
        where
          all : (b : Bool) → all_tasks f.inputs.n f.schedule ≡ b → (fresh_reason f.inputs ≡ 0) × (b ≡ true) × (checked f ≡ five f)
          all true t = (z, refl, rw (eq-eqb (fresh_reason f.inputs) 0 z, t))
          all false t = let said : ◌≡◌ {A = ℕ} 9 0 = rw (eq-eqb (fresh_reason f.inputs) 0 z, t) at e in absurd (omega arith)

-- a refused text is refused whatever room there is, and leaves the buffers
pub said_refused : (r : Reading) → (said_of r).reason ≢ 0
    → ((p t : ℕ) → within r p t ≡ r) × ((buffer : List ℕ) → parents_in r buffer ≡ buffer) × ((buffer : List ℕ) → turns_in r buffer ≡ buffer)
said_refused (five f) ne = absurd (ne refl)
said_refused (refused reason place) ne = (λ p t. refl, λ buffer. refl, λ buffer. refl)

-- the same by the code's answer
pub answered_err : {e : PlacedRefusal} (r : Reading) → answer_of r ≡ Err e
    → ((p t : ℕ) → answer_of (within r p t) ≡ Err e) × ((p t : ℕ) (buffer : List ℕ) → parents_in (within r p t) buffer ≡ buffer)
    × ((p t : ℕ) (buffer : List ℕ) → turns_in (within r p t) buffer ≡ buffer)
answered_err (five f) e = cc
answered_err (refused reason place) e = (λ p t. e, λ p t buffer. refl, λ p t buffer. refl)

pub answered_refused : {e : PlacedRefusal} (r : Reading) → answer_of r ≡ Err e → r ≡ refused e.refusal e.place
answered_refused (five f) e = cc
answered_refused {e = r} (refused reason place) e = let k : reason ≡ r.refusal = cc in let p : place ≡ r.place = cc in rw (k, p)

pub answered_ok : {s : Said} (r : Reading) → answer_of r ≡ Ok s → (f : Five) × (r ≡ five f)
answered_ok (five f) e = (f, refl)
answered_ok (refused reason place) e = cc

pub three : (ns : List ℕ) → 3 ≤ length ns → read_numbers ns ≡ checked (five_of (get_or ns 0 0) (get_or ns 1 0) (get_or ns 2 0) (drop 3 ns))
three [] h = absurd (omega arith)
three (a ∷ []) h = absurd (omega arith)
three (a ∷ b ∷ []) h = absurd (omega arith)
three (a ∷ b ∷ c ∷ ns) h = refl

pub fewer : (ns : List ℕ) → length ns < 3 → read_numbers ns ≡ refused 1 0
fewer [] h = refl
fewer (a ∷ []) h = refl
fewer (a ∷ b ∷ []) h = refl
fewer (a ∷ b ∷ c ∷ ns) h = absurd (omega arith)

-- numbers of which no reason is told are three at least
pub accepted_three : (ns : List ℕ) → (said_of (read_numbers ns)).reason ≡ 0 → 3 ≤ length ns
accepted_three [] e = absurd (omega (arith, e))
accepted_three (a ∷ []) e = absurd (omega (arith, e))
accepted_three (a ∷ b ∷ []) e = absurd (omega (arith, e))
accepted_three (a ∷ b ∷ c ∷ ns) e = omega arith

-- ---- what is written of accepted things

module _ (f : Five) (z : fresh_reason f.inputs ≡ 0) (buffer : List ℕ) where
  -- their bytes are the numbers themselves
  pub parents_written : length f.inputs.parents ≤ length buffer → over (map low f.inputs.parents) buffer ≡ parents_in (five f) buffer
  parents_written room = rw (ap (λ (i : Inputs). i.parents) (low_inputs_lem f.inputs z)) (over_whole f.inputs.parents buffer room)

  pub turns_written : all_tasks f.inputs.n f.schedule ≡ true → length f.schedule ≤ length buffer → over (map low f.schedule) buffer ≡ turns_in (five f) buffer
  turns_written all room =
      rw (low_turns f.inputs.n f.schedule (omega (arith, (accepted_inputs f.inputs z).few)) all) (over_whole f.schedule buffer room)

-- ---- an accepted text

-- what it says: 2 to 6 and 9 refuse nothing, there are few turns, and no table but the parents
pub record Accepted (f : Five) : Type 0 where
  pub reason : fresh_reason f.inputs ≡ 0
  pub tasks : all_tasks f.inputs.n f.schedule ≡ true
  pub few : length f.schedule ≤ 32768
  pub starts : f.inputs.starts ≡ []
  pub works : f.inputs.works ≡ []

-- so its inputs are these
pub inputs_said : (f : Five) → Accepted f → inputs_of (record { kind = f.inputs.kind; n = f.inputs.n; modulus = f.inputs.modulus }) f.inputs.parents [] [] ≡ f.inputs
inputs_said f a =
    let with : List ℕ → List ℕ → Inputs = λ ss ws. inputs_of (record { kind = f.inputs.kind; n = f.inputs.n; modulus = f.inputs.modulus }) f.inputs.parents ss ws in
    ap (λ (ss : List ℕ). with ss []) (sym a.starts) ∙ ap (λ (ws : List ℕ). with f.inputs.starts ws) (sym a.works)

-- what holds of every refusal, and of whatever is accepted, holds of what a text says
pub by_reading : (P : Reading → Type 0) (text : List ℕ) → ((reason place : ℕ) → reason ≢ 0 → P (refused reason place)) → ((f : Five) → Accepted f → P (five f)) → P (read_of text)
unfolding read_of
by_reading P text bad good =
    by_test (λ (o : Option (List ℕ)). P (read_option o)) (leb (length text) max_text) (λ e. read (numbers_from 0 0 text) refl (leb-true (length text) max_text e)) (λ _. bad_text)
  where
    bad_text : P (refused 1 0)
    bad_text = bad 1 0 (λ z. omega arith)

    read : (o : Option (List ℕ)) → numbers_from 0 0 text ≡ o → length text ≤ max_text → P (read_option o)
    read none e h = bad_text
    read (some []) e h = bad_text
    read (some (kind ∷ [])) e h = bad_text
    read (some (kind ∷ n ∷ [])) e h = bad_text
    read (some (kind ∷ n ∷ modulus ∷ rest)) e h =
        let f : Five = five_of kind n modulus rest in
        by_test P (eqb (fresh_reason f.inputs) 0)
        (λ z. by_test P (all_tasks n f.schedule)
        (λ t. good f (record { reason = eqb-true (fresh_reason f.inputs) 0 z; tasks = t; few = omega (arith, numbers_few text (kind ∷ n ∷ modulus ∷ rest) e, length-drop (parent_count kind n) rest); starts = refl; works = refl }))
        (λ _. bad 9 (unknown_at n f.schedule) (λ z. omega arith)))
        (λ ne. bad (fresh_reason f.inputs) 0 (eqb-false (fresh_reason f.inputs) 0 ne))

-- a text of which no reason is told says five things
pub record Reads (text : List ℕ) : Type 0 where
  pub things : Five
  pub read : read_of text ≡ five things
  pub ok : Accepted things

pub reads : (text : List ℕ) → (said_of (read_of text)).reason ≡ 0 → Reads text
reads text =
    by_reading (λ r. read_of text ≡ r → (said_of r).reason ≡ 0 → Reads text) text (λ reason place ne e z. absurd (ne z))
    (λ f a e z. record { things = f; read = e; ok = a }) refl

pub accepted : (text : List ℕ) (f : Five) → read_of text ≡ five f → Accepted f
accepted text =
    by_reading (λ r. (f : Five) → r ≡ five f → Accepted f) text
    (λ reason place ne f e. let z : ◌≡◌ {A = ℕ} 0 1 = cc in absurd (omega arith))
    (λ g a f e. let h : g ≡ f = cc in subst Accepted h a)

-- buffers of 64 and 32,768 bytes have room for whatever a text says
pub read_roomy : (text : List ℕ) (parents turns : ℕ) → 64 ≤ parents → 32768 ≤ turns → read_within text parents turns ≡ read_of text
unfolding read_within
read_roomy text parents turns p t =
    by_reading (λ r. within r parents turns ≡ r) text (λ reason place ne. refl)
    (λ f a. rw (le-leb (length f.inputs.parents) parents (omega (arith, parents_few f.inputs (accepted_inputs f.inputs a.reason))), le-leb (length f.schedule) turns (omega (arith, a.few))))
