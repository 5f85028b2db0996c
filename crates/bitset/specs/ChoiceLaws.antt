-- The choice, by cases.
use Rattle.std.specs.Prelude.{◌≡◌, refl, Bool, true, false}
use Rattle.bitset.specs.Choice.{pick}

-- what holds of both choices, each under its test, holds of the choice
pub by_test {ℓ κ} : {A : Type ℓ} (P : A → Type κ) (b : Bool) {x y : A} → (b ≡ true → P x) → (b ≡ false → P y) → P (pick b x y)
by_test P true f g = f refl
by_test P false f g = g refl

-- and of two choices by the same test
pub by_one_test {ℓ κ} : {A : Type ℓ} (P : A → A → Type κ) (b : Bool) {x y u v : A} → (b ≡ true → P x u) → (b ≡ false → P y v) → P (pick b x y) (pick b u v)
by_one_test P true f g = f refl
by_one_test P false f g = g refl
