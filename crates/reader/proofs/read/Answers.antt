-- `reader::read` meets its contract: what was found of the text's numbers.
use Rattle.std.proofs.Common.{◌≡◌, ℕ, List, length, take, sym, ap, ◌∙◌}
use Rattle.std.proofs.Math.Option.{Option, none, some}
use Rattle.std.specs.Prelude.{Option as Answer, Some, None, Err, ok_or}
use Rattle.std.specs.Result.{result_ok}
use Rattle.std.proofs.lemmas.Result.{err_from_is_err_and}
use Rattle.text.specs.Numbers.{numbers_of, found_of}
use Rattle.text.specs.NumbersLaws.{found_bad, Counted, counted}
use Rattle.reader.specs.Read.{Reading, refused, read_numbers, read_option, read_of, within, answer_of, parents_in, turns_in, read_within}
use Rattle.reader.proofs.read.Goals as goal

-- the error that `?` hands on where none was found
told : {E : Type 0} {e k : E} (o : Answer ℕ) → Err k ≡ ok_or o e → o ≡ None → k ≡ e
told None h b = cc
told (Some x) h b = cc

-- what the text says, by its numbers
by_numbers : (text : List ℕ) (p t : ℕ) (o : Option (List ℕ)) → numbers_of text ≡ o → read_within text p t ≡ within (read_option o) p t
unfolding read_within read_of
by_numbers text p t o e = ap (λ (o : Option (List ℕ)). within (read_option o) p t) e

bad : (text : List ℕ) (r : Answer ℕ) → r ≡ found_of (numbers_of text) → r ≡ None → (p t : ℕ) → read_within text p t ≡ refused 1 0
bad text r e b p t = by_numbers text p t none (found_bad (numbers_of text) r e b)

-- where the reader has counted k
says : (text after : List ℕ) (k : ℕ) → Counted text after k → (p t : ℕ) → read_within text p t ≡ within (read_numbers (take k after)) p t
says text after k n p t = by_numbers text p t (some (take k after)) n.read

pub returns-in_err-count-clause-value : goal.returns-in_err-count-clause-value
returns-in_err-count-clause-value c =
    let p = err_from_is_err_and c.from_residual.result c.from_residual.ensures.1 in
    rw (p.1, p.2, told c.numbers.result (sym c.in_err-count.was ∙ c.ok_or.ensures.value) (c.ok_or.ensures.ok_part ∙ ap result_ok c.in_err-count.was))
    (sym (ap answer_of (bad c.args.text.now c.numbers.result c.numbers.ensures.value (c.ok_or.ensures.ok_part ∙ ap result_ok c.in_err-count.was) (length c.args.parents.now) (length c.args.schedule.now))))

pub returns-in_err-count-clause-parents_after : goal.returns-in_err-count-clause-parents_after
returns-in_err-count-clause-parents_after c =
    sym (ap (λ (r : Reading). parents_in r c.args.parents.now) (bad c.args.text.now c.numbers.result c.numbers.ensures.value (c.ok_or.ensures.ok_part ∙ ap result_ok c.in_err-count.was) (length c.args.parents.now) (length c.args.schedule.now)))

pub returns-in_err-count-clause-schedule_after : goal.returns-in_err-count-clause-schedule_after
returns-in_err-count-clause-schedule_after c =
    sym (ap (λ (r : Reading). turns_in r c.args.schedule.now) (bad c.args.text.now c.numbers.result c.numbers.ensures.value (c.ok_or.ensures.ok_part ∙ ap result_ok c.in_err-count.was) (length c.args.parents.now) (length c.args.schedule.now)))

-- ---- where the reader has counted

pub slice_bounds-numbers-end-2 : goal.slice_bounds-numbers-end-2
slice_bounds-numbers-end-2 c =
    (counted c.args.text.now c.numbers.new.buffer c.numbers.result c.in_ok-count.count c.numbers.ensures.value c.numbers.ensures.buffer_after (c.ok_or.ensures.ok_part ∙ ap result_ok c.in_ok-count.was)).there

pub slice_bounds-read_numbers-end : goal.slice_bounds-read_numbers-end
slice_bounds-read_numbers-end c =
    (counted c.args.text.now c.numbers.new.buffer c.numbers.result c.in_ok-count.count c.numbers.ensures.value c.numbers.ensures.buffer_after (c.ok_or.ensures.ok_part ∙ ap result_ok c.in_ok-count.was)).whole

pub returns : goal.returns
returns c =
    let k = c.in_ok-count.count in
    let n = counted c.args.text.now c.numbers.new.buffer c.numbers.result k c.numbers.ensures.value c.numbers.ensures.buffer_after (c.ok_or.ensures.ok_part ∙ ap result_ok c.in_ok-count.was) in
    let e = says c.args.text.now c.numbers.new.buffer k n (length c.args.parents.now) (length c.args.schedule.now) in
    rw e c.read_numbers.ensures
