-- `play_text` meets its contract: what the reader has told of the setup.
use Rattle.std.proofs.Common.{◌≡◌, ℕ, List, take, sym, ap, ◌∙◌}
use Rattle.std.proofs.Math.Option.{Option, none, some}
use Rattle.text.specs.Numbers.{numbers_of}
use Rattle.text.specs.NumbersLaws.{found_bad, counted}
use Rattle.playback_text.specs.Setup.{setup_option, setup_of}
use Rattle.playback_text.specs.Answer.{play_in, play_text}
use Rattle.playback_text.proofs.play_text.Goals as goal

-- the play-back of a setup by its numbers
play_by : (setup trace : List ℕ) (o : Option (List ℕ)) → numbers_of setup ≡ o → play_text setup trace ≡ play_in (setup_option o) trace
unfolding play_text setup_of
play_by setup trace o e = ap (λ (o : Option (List ℕ)). play_in (setup_option o) trace) e

pub returns-in_default : goal.returns-in_default
returns-in_default c =
    rw c.into.ensures at c.refused.ensures
    ∙ sym (play_by c.args.setup.now c.args.trace.now none (found_bad (numbers_of c.args.setup.now) c.numbers.result c.numbers.ensures.value c.in_default.is))

-- ---- where the reader has counted

pub slice_bounds-numbers-end-2 : goal.slice_bounds-numbers-end-2
slice_bounds-numbers-end-2 c =
    (counted c.args.setup.now c.numbers.new.buffer c.numbers.result c.in-Some.count c.numbers.ensures.value c.numbers.ensures.buffer_after c.in-Some.is).there

pub slice_bounds-play_numbers-end : goal.slice_bounds-play_numbers-end
slice_bounds-play_numbers-end c =
    (counted c.args.setup.now c.numbers.new.buffer c.numbers.result c.in-Some.count c.numbers.ensures.value c.numbers.ensures.buffer_after c.in-Some.is).whole

pub returns : goal.returns
returns c =
    let k = c.in-Some.count in
    let n = counted c.args.setup.now c.numbers.new.buffer c.numbers.result k c.numbers.ensures.value c.numbers.ensures.buffer_after c.in-Some.is in
    c.play_numbers.ensures ∙ sym (play_by c.args.setup.now c.args.trace.now (some (take k c.numbers.new.buffer)) n.read)
