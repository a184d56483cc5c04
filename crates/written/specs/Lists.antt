-- What is in a list, and what holds of all of it.
use Rattle.std.specs.Prelude.{List, [], ◌∷◌}

-- `x` is in a list.
pub data In {A : Type 0} : A → List A → Type 0 where
  here : {x : A} {l : List A} → In x (x ∷ l)
  there : {x y : A} {l : List A} → In x l → In x (y ∷ l)

-- All of a list.
pub data Each {A : Type 0} (P : A → Type 0) : List A → Type 0 where
  end : Each P []
  and : {x : A} {l : List A} → P x → Each P l → Each P (x ∷ l)
