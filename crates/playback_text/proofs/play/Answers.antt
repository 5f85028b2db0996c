-- `play` meets its contract: the verdict's line, and where a triple differs the turn's line after it, on a blank page that they fit.
use Rattle.std.proofs.Common.{◌≡◌, refl, ℕ, List, ◌≤◌, replicate, rules, sym, subst, ap, ◌∙◌}
use Rattle.text.specs.declared.print.Page.{Page}
use Rattle.text.specs.Page.{Puts}
use Rattle.text.specs.PageLaws.{puts_then, puts_blank}
use Rattle.playback.specs.declared.Played.{Played}
use Rattle.playback_text.specs.declared.Printed.{Printed}
use Rattle.playback_text.specs.Setup.{setup_of}
use Rattle.playback_text.specs.Answer.{play_text, verdict_line, told_line, lines_of, printed_of}
use Rattle.playback_text.specs.Steps.{Within}
use Rattle.playback_text.specs.Laws.{verdict_fits, lines_fit, printed_within, play_within}
use Rattle.playback_text.proofs.play.Goals as goal

-- a triple that differs is one of the trace's
within : (p : Played) (setup trace : List ℕ) → p ≡ play_text setup trace → Within p.verdict trace
unfolding play_text
within p setup trace e = rw e (play_within (setup_of setup) trace)

-- what is printed of a play-back, and where its first line ends
printed : (p : Played) (trace : List ℕ) {bytes : List ℕ} {verdict len : ℕ} {first second third : Page} → first.at ≡ 0 → first.bytes.now ≡ replicate 128 0
    → Puts (verdict_line p.verdict) first second → verdict ≡ second.at → Puts (told_line p.verdict p.state trace) second third → len ≡ third.at → bytes ≡ third.bytes.now
    → record { bytes = bytes; verdict = verdict; len = len } ≡ printed_of p trace
unfolding lines_of
printed p trace {second} start blank line v told l e =
    let one = puts_blank 128 {x = second.bytes.now} start blank line (verdict_fits p.verdict) refl in
    let both = puts_blank 128 start blank (puts_then line told) (lines_fit p trace) e in
    rw (v, l, one.0, both.0, both.1)

pub print_told-requires : goal.print_told-requires
print_told-requires c = within c.play_text-played.result c.args.setup.now c.args.trace.now c.play_text-played.ensures

pub returns : goal.returns
returns c =
    let blank = c.new-page.ensures.value in
    let e = printed c.play_text-played.result c.args.trace.now blank.0 blank.1 c.print_verdict.ensures c.place-verdict.ensures c.print_told.ensures c.place-len.ensures (search rules) in
    let f = e ∙ ap (λ (x : Played). printed_of x c.args.trace.now) c.play_text-played.ensures in
    record {
      value = f;
      within = subst (λ (x : Printed). (x.verdict ≤ x.len) × (x.len ≤ 128)) (sym f) (printed_within (play_text c.args.setup.now c.args.trace.now) c.args.trace.now);
    }
