-- `refusal` meets its contract: the reason, and the place for reason 9 alone.
use Rattle.std.proofs.Common.{◌≡◌, ℕ, true, false, eqb, [], ◌∷◌, ◌++◌, sym, ◌∙◌}
use Rattle.std.proofs.lemmas.Bool.{eqb-false}
use Rattle.text.specs.Decimal.{spaced, refused_word}
use Rattle.text.specs.declared.print.Page.{Page}
use Rattle.text.specs.Page.{Puts}
use Rattle.text.specs.PageLaws.{puts_then}
use Rattle.sheet_text.specs.Print.{place_word, refusal_of}
use Rattle.sheet_text.specs.PrintLaws.{refusal_plain}
use Rattle.sheet_text.proofs.print.refusal.Goals as goal
use Rattle.sheet_text.proofs.print.refusal.Goals.{then-is_for, else-is_for}

module _ (reason place told : ℕ) (same : told ≡ reason) {p q : Page} where
  placed : eqb reason 9 ≡ true → Puts (refused_word ++ spaced told ++ (place_word ++ spaced place) ++ 10 ∷ []) p q → Puts (refusal_of reason place) p q
  unfolding refusal_of
  placed e x = rw (e, ← same) x

  plain : eqb reason 9 ≡ false → Puts (refused_word ++ spaced told ++ 10 ∷ []) p q → Puts (refusal_of reason place) p q
  plain e x = rw (refusal_plain reason place (eqb-false reason 9 e), ← same) x

pub returns : goal.returns
returns c =
    let k = c.args.refused.refusal in
    let place = c.args.refused.place in
    elim c.if-is_for.branch [
      | then-is_for w ↦
          placed k place c.number.result c.number.ensures (sym c.is_for.ensures ∙ w.if-is_for.true)
          (puts_then
          (puts_then (puts_then c.word.ensures c.spaced.ensures) (puts_then w.word-then-is_for.ensures w.spaced-then-is_for.ensures))
          (rw w.page-is at c.byte.ensures))
      | else-is_for w ↦
          plain k place c.number.result c.number.ensures (sym c.is_for.ensures ∙ w.if-is_for.false)
          (puts_then (puts_then c.word.ensures c.spaced.ensures) (rw w.page-is at c.byte.ensures))
    ]
