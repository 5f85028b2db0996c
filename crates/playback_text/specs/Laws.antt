-- Laws of play-back from a setup text: what its numbers say, that their bytes say the same, and that what is printed fits.
use Rattle.std.specs.Prelude.{◌≡◌, refl, true, false, List, [], ◌∷◌, ℕ, ◌+◌, ◌*◌, ◌≤◌, ◌<◌, leb, length, drop, get_or, Ok, Err}
use Rattle.std.proofs.Common.{sym, ap, ◌∙◌, arith, length-append, le-leb, le-ltb}
use Rattle.std.proofs.Math.Bool.{and-false}
use Rattle.std.proofs.Math.Option.{Option, none, some}
use Rattle.std.proofs.Math.Decide.{ℕ_discrete, dec_le}
use Rattle.std.proofs.lemmas.Bool.{lt-leb}
use Rattle.text.specs.Numbers.{low}
use Rattle.text.specs.NumbersLaws.{low_alike}
use Rattle.text.specs.Decimal.{refused_word}
use Rattle.text.specs.DecimalLaws.{decimal_most}
use Rattle.setup.specs.Tables.{is_work}
use Rattle.setup.specs.TablesLaws.{within}
use Rattle.machine.specs.declared.State.{State}
use Rattle.machine.specs.Answers.{Outcome}
use Rattle.machine.specs.Setters.{task_at}
use Rattle.machine.specs.Fresh.{Inputs, fresh_reason}
use Rattle.machine.specs.FreshLaws.{with_entries, entries_reason, entries_same, with_works, works_reason_lem, works_same}
use Rattle.machine.specs.Turn.{turn_of, move_number}
use Rattle.playback.specs.declared.Verdict.TheVariants as verdict
use Rattle.playback.specs.declared.Played.{Played}
use Rattle.playback.specs.Playback.{Report, refused_play, play_of}
use Rattle.playback.specs.PlaybackLaws.{reason_fresh, play_refused}
use Rattle.playback.specs.StepsLaws.{length_triples}
use Rattle.playback.specs.Claims.{plays_first}
use Rattle.playback_text.specs.Setup.{inputs_in, setup_in}
use Rattle.playback_text.specs.Steps.{length_byte, Within}
use Rattle.playback_text.specs.Answer.{play_in, differs_word, counted_line, verdict_line, turn_line, told_line, lines_of, printed_of}

-- ---- the numbers of a setup

pub six : (ns : List ℕ) → 6 ≤ length ns → setup_in ns ≡ inputs_in (get_or ns 0 0) (get_or ns 1 0) (get_or ns 2 0) (get_or ns 3 0) (get_or ns 4 0) (get_or ns 5 0) (drop 6 ns)
six [] h = absurd (omega arith)
six (a ∷ []) h = absurd (omega arith)
six (a ∷ b ∷ []) h = absurd (omega arith)
six (a ∷ b ∷ c ∷ []) h = absurd (omega arith)
six (a ∷ b ∷ c ∷ d ∷ []) h = absurd (omega arith)
six (a ∷ b ∷ c ∷ d ∷ e ∷ []) h = absurd (omega arith)
six (a ∷ b ∷ c ∷ d ∷ e ∷ f ∷ ns) h = refl

pub fewer : (ns : List ℕ) → length ns < 6 → setup_in ns ≡ none
fewer [] h = refl
fewer (a ∷ []) h = refl
fewer (a ∷ b ∷ []) h = refl
fewer (a ∷ b ∷ c ∷ []) h = refl
fewer (a ∷ b ∷ c ∷ d ∷ []) h = refl
fewer (a ∷ b ∷ c ∷ d ∷ e ∷ []) h = refl
fewer (a ∷ b ∷ c ∷ d ∷ e ∷ f ∷ ns) h = absurd (omega arith)

-- ---- their bytes

-- inputs that are refused alike, and the same where they are accepted, are played alike
alike_play : (i j : Inputs) (trace : List ℕ) → fresh_reason j ≡ fresh_reason i → (fresh_reason i ≡ 0 → j ≡ i) → play_of j trace ≡ play_of i trace
alike_play i j trace reason same = go (ℕ_discrete (fresh_reason i) 0)
  where
    go : Dec (fresh_reason i ≡ 0) → play_of j trace ≡ play_of i trace
    go (yes e) = ap (λ (k : Inputs). play_of k trace) (same e)
    go (no ne) =
        let first = reason_fresh i trace ne in
        let other = reason_fresh j trace (λ z. ne (sym reason ∙ z)) in
        play_refused j trace (λ z. ne (sym reason ∙ sym other ∙ z)) ∙ ap refused_play (other ∙ reason ∙ sym first)
        ∙ sym (play_refused i trace (λ z. ne (sym first ∙ z)))

-- a byte that stands for a number is a work length if that is one
length_alike : (x : ℕ) → is_work (length_byte x) ≡ is_work x
length_alike x = go (dec_le x 255)
  where
    go : Dec (x ≤ 255) → is_work (length_byte x) ≡ is_work x
    go (yes l) = let same : length_byte x ≡ x = rw (le-leb x 255 l) in ap is_work same
    go (no l) = let out : leb x 255 ≡ false = lt-leb x 255 (omega arith) in rw (out, le-ltb x 256 (omega arith)) (sym (and-false (leb 1 x)))

length_same : (x : ℕ) → is_work x ≡ true → length_byte x ≡ x
length_same x e = rw (le-leb x 255 (omega (arith, (within 1 256 x e).1)))

-- the bytes of the tables are played as the tables are
pub byte_play : (i : Inputs) (trace : List ℕ) → play_of (with_works length_byte (with_entries low i)) trace ≡ play_of i trace
byte_play i trace =
    alike_play (with_entries low i) (with_works length_byte (with_entries low i)) trace (works_reason_lem length_byte length_alike (with_entries low i)) (works_same length_byte length_alike length_same (with_entries low i))
    ∙ alike_play i (with_entries low i) trace (entries_reason low low_alike i) (entries_same low low_alike i)

-- ---- what is printed fits

counted_length : (word : List ℕ) (x : ℕ) → length (counted_line word x) ≤ length word + 22
counted_length word x = simp length-append (omega (arith, decimal_most 20 x))

verdict_length : (v : Report) → length (verdict_line v) ≤ 29
verdict_length (Ok verdict.Agrees) = omega arith
verdict_length (Ok (verdict.Differs i)) = counted_length differs_word i
verdict_length (Err k) = counted_length refused_word k

turn_length : (s : State) (p : ℕ) (o : Outcome) → length (turn_line s p o) ≤ 63
turn_length s p (Ok how) =
    simp length-append (omega (arith, decimal_most 20 p, decimal_most 20 (task_at s p).line, decimal_most 20 (move_number how)))
turn_length s p (Err k) = simp length-append (omega (arith, decimal_most 20 p, decimal_most 20 k))

told_length : (v : Report) (s : State) (trace : List ℕ) → length (told_line v s trace) ≤ 63
told_length (Ok verdict.Agrees) s trace = omega arith
told_length (Ok (verdict.Differs i)) s trace = turn_length s (get_or trace (3 * i) 0) (turn_of s (get_or trace (3 * i) 0)).outcome
told_length (Err k) s trace = omega arith

pub verdict_fits : (v : Report) → length (verdict_line v) ≤ 128
verdict_fits v = omega (arith, verdict_length v)

pub lines_fit : (p : Played) (trace : List ℕ) → length (lines_of p trace) ≤ 128
unfolding lines_of
lines_fit p trace = rw length-append (omega (arith, verdict_length p.verdict, told_length p.verdict p.state trace))

-- the verdict's line is the first of those that are printed
pub printed_within : (p : Played) (trace : List ℕ) → ((printed_of p trace).verdict ≤ (printed_of p trace).len) × ((printed_of p trace).len ≤ 128)
unfolding lines_of
printed_within p trace = (rw length-append (omega arith), lines_fit p trace)

-- ---- a triple that differs

-- it is one of the trace's
pub play_within : (o : Option Inputs) (trace : List ℕ) → Within (play_in o trace).verdict trace
play_within none trace = tt
play_within (some i) trace = go (play_of i trace).verdict refl
  where
    go : (v : Report) → (play_of i trace).verdict ≡ v → Within v trace
    go (Ok verdict.Agrees) e = tt
    go (Ok (verdict.Differs k)) e = omega (arith, (plays_first i trace k e).within, length_triples trace)
    go (Err k) e = tt
