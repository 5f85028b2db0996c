-- `play_numbers` meets its contract: the numbers after the sixth are the entries of the tables; their bytes are played as they are.
use Rattle.std.proofs.Common.{◌≡◌, true, eqb, ℕ, List, map, ◌+◌, ◌-◌, ◌≤◌, length, take, drop, get_or, replicate, sym, ap, ◌∙◌, arith, eq-eqb}
use Rattle.std.proofs.lemmas.List.{length-drop, length-map, length-replicate, length-take-le, take_all, take_at, take-take, drop-take}
use Rattle.text.specs.Numbers.{low, over}
use Rattle.text.specs.NumbersLaws.{over_whole, low_first, low_rest}
use Rattle.machine.specs.Fresh.{inputs_of}
use Rattle.playback.specs.Playback.{play_of}
use Rattle.playback_text.specs.Setup.{setup_in}
use Rattle.playback_text.specs.Answer.{play_in}
use Rattle.playback_text.specs.Steps.{length_byte}
use Rattle.playback_text.specs.Laws.{six, byte_play}
use Rattle.playback_text.proofs.play_numbers.Goals as goal

-- what is written over a buffer with room for it stands in its first places
written_first : (xs : List ℕ) (k n : ℕ) (buffer : List ℕ) → length xs ≡ k → k ≤ n → buffer ≡ over xs (replicate n 0) → take k buffer ≡ xs
written_first xs k n buffer long room e =
    let fits : length xs ≤ length (replicate {A = ℕ} n 0) = rw length-replicate (omega arith) in
    ap (take k) (e ∙ over_whole xs (replicate n 0) fits) ∙ take_at xs (drop (length xs) (replicate n 0)) k long

-- ---- the numbers of a setup, six and then so many

module _ (ns : List ℕ) where
  -- the lengths of the tables of parents and of starts
  abbrev parents : ℕ
  parents = get_or ns 3 0

  abbrev starts : ℕ
  starts = get_or ns 4 0

  -- the entries of the three tables as they are lent
  abbrev entries : List ℕ
  entries = take (length ns - 6) (drop 6 ns)

  whole : entries ≡ drop 6 ns
  whole = take_all (length ns - 6) (drop 6 ns) (omega (arith, length-drop 6 ns))

  -- those of the first two, and of the third
  abbrev tables : List ℕ
  tables = take (parents + starts) (drop 6 ns)

  abbrev works : List ℕ
  works = drop (parents + starts) (drop 6 ns)

  module _ (most : length ns ≤ 32768) (long : length entries ≡ parents + starts + get_or ns 5 0) where
    size : length (drop 6 ns) ≡ parents + starts + get_or ns 5 0
    size = ap length (sym whole) ∙ long

    few : length (drop 6 ns) ≤ 32768
    few = omega (arith, length-drop 6 ns)

    -- the bytes of the tables are played as they are
    plays : 6 ≤ length ns → (trace : List ℕ) → play_of (inputs_of (record { kind = get_or ns 0 0; n = get_or ns 1 0; modulus = get_or ns 2 0 }) (take parents (map low tables)) (drop parents (map low tables)) (map length_byte works)) trace ≡ play_in (setup_in ns) trace
    plays enough trace =
        let fits : eqb (length (drop 6 ns)) (parents + starts + get_or ns 5 0) ≡ true = eq-eqb (length (drop 6 ns)) (parents + starts + get_or ns 5 0) size in
        rw (
          low_first parents tables,
          low_rest parents tables,
          take-take parents (parents + starts) (drop 6 ns) (omega arith),
          drop-take parents starts (drop 6 ns),
          six ns enough,
          fits,
        )
        (byte_play (inputs_of (record { kind = get_or ns 0 0; n = get_or ns 1 0; modulus = get_or ns 2 0 }) (take parents (drop 6 ns)) (take starts (drop parents (drop 6 ns))) works) trace)

    -- the buffers' first places
    tabled : (buffer : List ℕ) → buffer ≡ over (map low (take (parents + starts) entries)) (replicate 32768 0) → take (parents + starts) buffer ≡ map low tables
    tabled buffer e =
        written_first (map low tables) (parents + starts) 32768 buffer (rw length-map (length-take-le (parents + starts) (drop 6 ns) (omega (arith, size)))) (omega (arith, size, few))
        (rw whole at e)

    worked : (buffer : List ℕ) → buffer ≡ over (map length_byte (take (length entries - (parents + starts)) (drop (parents + starts) entries))) (replicate 32768 0) → take (get_or ns 5 0) buffer ≡ map length_byte works
    worked buffer e =
        let left : length works ≡ length (drop 6 ns) - (parents + starts) = length-drop (parents + starts) (drop 6 ns) in
        let all : take (length (drop 6 ns) - (parents + starts)) works ≡ works = take_all (length (drop 6 ns) - (parents + starts)) works (omega (arith, left)) in
        written_first (map length_byte works) (get_or ns 5 0) 32768 buffer (rw length-map (omega (arith, left, size))) (omega (arith, size, few)) (rw (whole, all) at e)

pub returns : goal.returns
returns c =
    let ns = c.args.numbers.now in
    let b = c.bytes.new.buffer in
    let p = parents ns in
    let q = starts ns in
    let tabled_b = tabled ns c.requires c.if-entries-tables.false b c.bytes.ensures in
    let first : take p b ≡ take p (map low (tables ns)) = sym (take-take p (p + q) b (omega arith)) ∙ ap (take p) tabled_b in
    let count : p + q - p ≡ q = omega arith in
    let second : take (p + q - p) (drop p b) ≡ drop p (map low (tables ns)) = ap (λ k. take k (drop p b)) count ∙ sym (drop-take p q b) ∙ ap (drop p) tabled_b in
    let third = worked ns c.requires c.if-entries-tables.false c.bytes-2.new.buffer c.bytes-2.ensures in
    c.play.ensures ∙ rw (first, second, third) (plays ns c.requires c.if-entries-tables.false c.in-len6-up.len_at_least c.args.trace.now)
