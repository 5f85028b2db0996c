-- Pins: what the words of `Agreement` say, a second time and without them, triple by triple over `turn_of` and `task_at`. Where a word is changed so that a claim on
-- play-back would say less, these no longer follow.
use Rattle.std.specs.Prelude.{◌≡◌, refl, List, [], ◌∷◌, ℕ, suc, take, Ok}
use Rattle.std.proofs.Common.{sym, ◌∙◌, subst, arith}
use Rattle.machine.specs.declared.State.{State}
use Rattle.machine.specs.declared.Move.{Move}
use Rattle.machine.specs.Setters.{task_at}
use Rattle.machine.specs.Turn.{turn_of, move_number}
use Rattle.playback.specs.Playback.{Triple}
use Rattle.playback.specs.Agreement.{Performs, triple_in, AllDo, FirstAt, woven}
use Rattle.playback.specs.PlaybackLaws.{led_on, led_none, first_does, rest_do, all_do}

-- the turn of the task is made, the line is the task's before it, and the number 1 if it moved or 0 if it waited
abbrev Told : State → Triple → Type 0
Told s t = (how : Move) × ((turn_of s t.task).outcome ≡ Ok how) × (t.line ≡ (task_at s t.task).line) × (t.how ≡ move_number how)

told : {s : State} {t : Triple} → Performs s t → Told s t
told d = (d.how, d.made, d.line, d.told)

performs : {s : State} {t : Triple} → Told s t → Performs s t
performs w = record { how = w.0; made = w.1; line = w.2; told = w.3 }

-- "every triple equals what the defined turn does": none, or the first and then those after it, from the state that its turn leaves
pub empty_do : (s : State) → AllDo s []
empty_do s i h = absurd (omega arith)

module _ (s : State) (t : Triple) (ts : List Triple) where
  pub all_pin : AllDo s (t ∷ ts) → Told s t × AllDo (turn_of s t.task).state ts
  all_pin all = (told (first_does s t ts all), rest_do s t ts all)

  pub pin_all : Told s t → AllDo (turn_of s t.task).state ts → AllDo s (t ∷ ts)
  pin_all first rest = all_do s t ts (performs first) rest

  -- "the first triple that differs, with the state before it": it is the one in front, or it is one behind, and that in front does not differ
  module _ (end : State) where
    pub here_pin : FirstAt s (t ∷ ts) 0 end → (Told s t → ⊥) × (end ≡ s)
    here_pin f =
        let none = led_none s (t ∷ ts) in
        (λ w. f.other (subst (λ (x : State). Performs x t) (sym none) (performs w)), f.state ∙ none)

    pub later_pin : (k : ℕ) → FirstAt s (t ∷ ts) (suc k) end → Told s t × FirstAt (turn_of s t.task).state ts k end
    later_pin k f =
        let first = first_does s t (take k ts) f.before in
        let on = led_on s t ts k first in (
          told first,
          record {
            within = omega (arith, f.within);
            before = rest_do s t (take k ts) f.before;
            other = λ x. f.other (subst (λ (y : State). Performs y (triple_in ts k)) (sym on) x);
            state = f.state ∙ on;
          },
        )

-- of no triples none differs
pub none_pin : (s : State) (k : ℕ) (end : State) → FirstAt s [] k end → ⊥
none_pin s k end f = omega (arith, f.within)

-- a schedule and a log, woven: nothing is left out
pub woven_pin : (p line how : ℕ) (ts log : List ℕ) → woven (p ∷ ts) (line ∷ how ∷ log) ≡ p ∷ line ∷ how ∷ woven ts log
unfolding woven
woven_pin p line how ts log = refl
