-- Steps from a symbol to one place of a rule whose other places may all be empty.
use Rattle.std.specs.Prelude.{◌≡◌, Bool, true, false, not, List, [], ◌∷◌, ℕ, zero, suc, ◌+◌, ◌<◌, length, set}
use Rattle.laws.specs.Counts.{once, count}
use Rattle.written.specs.Written.{WrittenRule}
use Rattle.translation.specs.inner.Marks.{most_symbols, marked}

-- How many symbols of a list may not be empty.
unfoldable pub filled_in : (empty : ℕ → Bool) → List ℕ → ℕ
filled_in empty [] = 0
filled_in empty (x ∷ l) = once (not (empty x)) + filled_in empty l

-- Whether a rule with so many places that may not be empty leads to one of its places: to each where there is none, to that one where there
-- is one.
unfoldable pub leading : ℕ → Bool → Bool
leading zero empty = true
leading (suc zero) empty = not empty
leading (suc (suc k)) empty = false

-- Marks those of a list that pass a test.
unfoldable pub marks_if : (ℕ → Bool) → List Bool → List ℕ → List Bool
marks_if test marks [] = marks
marks_if test marks (x ∷ l) = marks_if test (elim (test x) [ true ↦ set marks x true | false ↦ marks ]) l

-- The test of a rule's places.
abbrev pub leads_to : (empty : ℕ → Bool) → List ℕ → ℕ → Bool
leads_to empty l x = leading (filled_in empty l) (empty x)

-- The step that marks what a rule of a held left side leads to.
unfoldable pub leads : (empty held : ℕ → Bool) → List Bool → WrittenRule → List Bool
leads empty held marks r = elim (held r.left) [ true ↦ marks_if (leads_to empty r.right) marks r.right | false ↦ marks ]

-- How many are held.
unfoldable pub held_in : List Bool → ℕ
held_in marks = count (λ (b : Bool). b) marks

-- Of the held symbols those are kept that are led to.
pub record Dropped (before led after : List Bool) (some : Bool) : Type 0 where
  pub long : length after ≡ most_symbols
  pub kept : (a : ℕ) → marked before a ≡ true → marked led a ≡ true → marked after a ≡ true
  pub fewer : some ≡ true → held_in after < held_in before
  pub none : some ≡ false → after ≡ before
  pub all : some ≡ false → (a : ℕ) → marked before a ≡ true → marked led a ≡ true

-- Some symbol is held.
pub record SomeHeld (held : List Bool) : Type 0 where
  pub symbol : ℕ
  pub holds : marked held symbol ≡ true
