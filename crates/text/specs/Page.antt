-- What printing leaves on a page.
use Rattle.std.specs.Prelude.{◌≡◌, List, ℕ, ◌+◌, ◌-◌, length, take}
use Rattle.std.proofs.lemmas.List.Edits.{sets}
use Rattle.text.specs.declared.print.Page.{Page}

-- those of the bytes ws that a page has room for from the place `at` on
abbrev pub fitting : List ℕ → ℕ → List ℕ → List ℕ
fitting page at ws = take (length page - at) ws

-- the bytes ws are printed from the place `at` on, as far as the page goes: the place after them, and the page
pub record Prints (at : ℕ) (ws before : List ℕ) (to : ℕ) (after : List ℕ) : Type 0 where
  pub next : to ≡ at + length (fitting before at ws)
  pub page : after ≡ sets before at (fitting before at ws)

-- they are printed on a page, which stays that of the same bytes
pub record Puts (ws : List ℕ) (before after : Page) : Type 0 where
  pub prints : Prints before.at ws before.bytes.now after.at after.bytes.now
  pub same : after.bytes.ghost_name ≡ before.bytes.ghost_name
