-- `reader::check_numbers` meets its contract: the bytes of the numbers are refused, or accepted, as the numbers are.
use Rattle.std.proofs.Common.{◌≡◌, refl, ℕ, List, [], map, ◌-◌, ◌≤◌, min, length, take, drop, get_or, replicate, sym, ap, ◌∙◌, arith, length-drop}
use Rattle.std.proofs.lemmas.List.{take_all, length-map, length-replicate}
use Rattle.text.specs.Numbers.{low, over}
use Rattle.text.specs.NumbersLaws.{over_first, low_first, low_rest}
use Rattle.machine.specs.Fresh.{inputs_of}
use Rattle.reader.specs.Read.{Five, parent_count, five_of, checked, answer_of}
use Rattle.reader.specs.ReadLaws.{take_few, drop_few, low_five, low_answer, three, fewer}
use Rattle.reader.proofs.check_numbers.Goals as goal

-- the five things that the numbers say
abbrev said : List ℕ → Five
said ns = five_of (get_or ns 0 0) (get_or ns 1 0) (get_or ns 2 0) (drop 3 ns)

-- the five things of bytes, so many of which are parents
abbrev cut : List ℕ → List ℕ → ℕ → Five
cut ns bytes first =
    record {
      inputs = inputs_of (record { kind = get_or ns 0 0; n = get_or ns 1 0; modulus = get_or ns 2 0 }) (take first bytes) [] [];
      schedule = drop first bytes;
    }

-- the numbers after the third, as they are lent
abbrev rest : List ℕ → List ℕ
rest ns = take (length ns - 3) (drop 3 ns)

whole : (ns : List ℕ) → rest ns ≡ drop 3 ns
whole ns = take_all (length ns - 3) (drop 3 ns) (omega (arith, length-drop 3 ns))

-- cut off the bytes of the numbers, they are the bytes of the five things
cut_low : (ns : List ℕ) (first : ℕ) → first ≡ min (parent_count (get_or ns 0 0) (get_or ns 1 0)) (length (rest ns)) → cut ns (map low (drop 3 ns)) first ≡ low_five (said ns)
cut_low ns first e =
    let k = parent_count (get_or ns 0 0) (get_or ns 1 0) in
    rw (e, whole ns, low_first (min k (length (drop 3 ns))) (drop 3 ns), low_rest (min k (length (drop 3 ns))) (drop 3 ns), take_few k (drop 3 ns), drop_few k (drop 3 ns))

-- the bytes in the buffer
filled : (ns buffer : List ℕ) → length ns ≤ 32768 → buffer ≡ over (map low (rest ns)) (replicate 32768 0) → take (length (rest ns)) buffer ≡ map low (drop 3 ns)
filled ns buffer few e =
    let xs = drop 3 ns in
    let zeros = replicate {A = ℕ} 32768 0 in
    let long : length (map low xs) ≡ length xs = length-map xs low in
    rw (e, whole ns, ← long) (over_first (map low xs) zeros (omega (arith, long, length-drop 3 ns, length-replicate {A = ℕ} 32768 0)))

pub returns-in_default : goal.returns-in_default
returns-in_default c = rw (c.into.ensures, fewer c.args.numbers.now c.in_default.len_below)

pub returns : goal.returns
returns c =
    let ns = c.args.numbers.now in
    let first = c.parent_count-first.result in
    c.check.ensures
    ∙ rw (c.split_at.ensures.front, c.split_at.ensures.back) refl
    ∙ ap (λ (bytes : List ℕ). answer_of (checked (cut ns bytes first))) (filled ns c.bytes.new.buffer c.requires c.bytes.ensures)
    ∙ ap (λ (f : Five). answer_of (checked f)) (cut_low ns first c.parent_count-first.ensures)
    ∙ low_answer (said ns) ∙ sym (ap answer_of (three ns c.in-len3-up.len_at_least))
