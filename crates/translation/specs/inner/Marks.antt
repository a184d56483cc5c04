-- Marks, one for each symbol that two bytes can name; tests of right sides; and walks over the rules.
use Rattle.std.specs.Prelude.{◌≡◌, Bool, true, false, ◌&&◌, not, List, [], ◌∷◌, ℕ, ◌≤◌, ◌<◌, length, get_or, set}
use Rattle.std.specs.List.{list_all, list_any}
use Rattle.laws.specs.Decides.{Decides}
use Rattle.written.specs.Lists.{In}
use Rattle.written.specs.Written.{WrittenRule, Written, Writes}

-- As many symbols as two bytes can name.
abbrev pub most_symbols : ℕ
most_symbols = 65536

-- Whether a symbol is marked. One past the marks is not.
abbrev pub marked : List Bool → ℕ → Bool
marked marks a = get_or marks a false

-- The marks say exactly of which symbols `P` holds.
pub record MarksAre (P : ℕ → Type 0) (marks : List Bool) : Type 0 where
  pub long : length marks ≡ most_symbols
  pub right : (a : ℕ) → Decides (marked marks a) (P a)

-- Whether all of a list pass a test, or (where not all are asked for) some.
unfoldable pub asked : (all : Bool) → (ℕ → Bool) → List ℕ → Bool
asked true test l = list_all test l
asked false test l = list_any test l

-- Whether a rule marks its left side: that is not marked yet, and the right side passes.
unfoldable pub firing : Bool → List Bool → WrittenRule → Bool
firing all marks r = not (marked marks r.left) && asked all (marked marks) r.right

-- Marks during a walk, and whether it has marked something.
pub record Turn : Type 0 where
  pub marks : List Bool
  pub more : Bool

abbrev pub turn : List Bool → Bool → Turn
turn marks more = record { marks = marks; more = more }

-- A walk over rules, a step a rule.
unfoldable pub walk : {S : Type 0} → (S → WrittenRule → S) → S → List WrittenRule → S
walk step s [] = s
walk step s (r ∷ rules) = walk step (step s r) rules

-- The step that marks the left side of a rule that fires.
unfoldable pub growing : Bool → Turn → WrittenRule → Turn
growing all s r = elim (firing all s.marks r) [ true ↦ turn (set s.marks r.left true) true | false ↦ s ]

-- Symbols that come of those of `B`: where all of a rule's symbols do, its left side does.
pub data AllFrom (w : Written) (B : ℕ → Type 0) : List ℕ → Type 0 where
  nothing : AllFrom w B []
  begun : {x : ℕ} {α : List ℕ} → B x → AllFrom w B α → AllFrom w B (x ∷ α)
  by_rule : {r a : ℕ} {ω α : List ℕ} → Writes w r a ω → AllFrom w B ω → AllFrom w B α → AllFrom w B (a ∷ α)

-- Where one of a rule's symbols does, its left side does.
pub data SomeFrom (w : Written) (B : ℕ → Type 0) : ℕ → Type 0 where
  begun : {x : ℕ} → B x → SomeFrom w B x
  by_rule : {r a x : ℕ} {ω : List ℕ} → Writes w r a ω → In x ω → SomeFrom w B x → SomeFrom w B a

-- The one or the other.
unfoldable pub From : Bool → Written → (ℕ → Type 0) → ℕ → Type 0
From true w B a = AllFrom w B (a ∷ [])
From false w B a = SomeFrom w B a

-- Marks that have grown as far as they can.
pub record Grown (all : Bool) (w : Written) (before marks : List Bool) : Type 0 where
  pub long : length marks ≡ most_symbols
  pub kept : (a : ℕ) → marked before a ≡ true → marked marks a ≡ true
  pub sound : (a : ℕ) → marked marks a ≡ true → From all w (λ (x : ℕ). marked before x ≡ true) a
  pub rest : (r : WrittenRule) → In r w.rules → firing all marks r ≡ false

-- The symbols from `from` up to `to` are marked, and no others.
pub record OnlyWithin (from to : ℕ) (marks : List Bool) : Type 0 where
  pub all : (a : ℕ) → from ≤ a → a < to → marked marks a ≡ true
  pub only : (a : ℕ) → marked marks a ≡ true → (from ≤ a) × (a < to)

-- All from `from` up to `to` are marked.
pub record AllWithin (marks : List Bool) (from to : ℕ) : Type 0 where
  pub all : (a : ℕ) → from ≤ a → a < to → marked marks a ≡ true

-- Marks all of a list, one after the other; the step that marks the right side of a rule whose left side is marked.
unfoldable pub marking : Turn → List ℕ → Turn
marking s [] = s
marking s (x ∷ l) = marking (elim (marked s.marks x) [ true ↦ s | false ↦ turn (set s.marks x true) true ]) l

unfoldable pub reaching : Turn → WrittenRule → Turn
reaching s r = elim (marked s.marks r.left) [ true ↦ marking s r.right | false ↦ s ]
