-- The two engines on the beginnings of a token string, the empty one first.
use Rattle.std.specs.Prelude.{Bool, true, false, not, List, ℕ, suc, ◌≤◌, ◌<◌, length, take, Option, Some, None}
use Rattle.completion.specs.Pass.{items_full, queue_full, store_full}
use Rattle.demands.specs.Steps.{sets_full}
use Rattle.agreement.specs.Compared.{Plain}
use Rattle.compare.specs.declared.beginnings.Engine.{Engine}
use Rattle.compare.specs.declared.beginnings.Engine.TheVariants as engine
use Rattle.compare.specs.Engines.{MainSays}

-- A refusal for want of room.
pub data NoRoom : ℕ → Type 0 where
  items : NoRoom items_full
  queue : NoRoom queue_full
  sets : NoRoom sets_full
  units : NoRoom store_full

-- The main engine reads the tokens with room enough, with `number` where it refuses one, and both engines say the same.
pub record Agrees (file ts : List ℕ) (number : ℕ) : Type 0 where
  pub yes : Bool
  pub main : MainSays file ts number yes
  pub room : NoRoom number → ⊥
  pub plain : Plain file ts yes

-- They agree on each of the first `k` beginnings.
pub record AgreeOn (file ts : List ℕ) : Type 0 where
  pub number : ℕ
  pub agrees : Agrees file ts number

pub record AgreeBelow (file ts : List ℕ) (k : ℕ) : Type 0 where
  pub on : (i : ℕ) → i < k → AgreeOn file (take i ts)

-- The engine that says yes where they part and the main engine says `yes`.
unfoldable pub parted : Bool → Engine
parted true = engine.Main
parted false = engine.Plain

-- On how many beginnings they agree, the main engine's number on the last beginning that it read, and the engine that says yes where they part.
pub data Compares (file ts : List ℕ) : ℕ → ℕ → Option Engine → Type 0 where
  -- Nowhere: they agree on all.
  all : {number : ℕ} → AgreeBelow file ts (length ts) → Agrees file ts number → Compares file ts (suc (length ts)) number None
  -- Nowhere: the main engine has no room for the next.
  no_room :
      {k number : ℕ} {yes : Bool} → AgreeBelow file ts k → k ≤ length ts → MainSays file (take k ts) number yes → NoRoom number
      → Compares file ts k number None
  -- On the next.
  parting :
      {k number : ℕ} {yes : Bool} → AgreeBelow file ts k → k ≤ length ts → MainSays file (take k ts) number yes → (NoRoom number → ⊥)
      → Plain file (take k ts) (not yes) → Compares file ts k number (Some (parted yes))
