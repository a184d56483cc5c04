-- Completing a pair of a set and a symbol.
use Rattle.std.proofs.Common.{◌≡◌, refl, ◌∙◌, Bool, true, false, List, ℕ, ◌+◌, ◌-◌, ◌<◌, arith, get_or, eqb}
use Rattle.laws.proofs.Turns.{over-keeps}
use Rattle.item.specs.Item.{item_at}
use Rattle.grammar.specs.Rules.{Rule}
use Rattle.parse.specs.WellFormed.{second_of}
use Rattle.completion.specs.Pass.{Pass, enqueue}
use Rattle.completion.specs.Complete.{predicted, complete_medial, complete_medial_items, complete_unary_predictions, complete_binary_predictions, complete}
use Rattle.completion.specs.inner.Ready.{IsSet, HasRow, Rowed, PassFits, Charted}
use Rattle.completion.proofs.Soundness.{then-sound, enqueue-sound}
use Rattle.completion.proofs.Searching.{then-next-count, enqueue-count}

-- Where the symbol is not predicted nothing is done.
pub complete_passed : (rs : List Rule) (starts rows : List ℕ) (k x link : ℕ) (s : Pass) → predicted rows k x ≡ false → complete rs starts rows k x link s ≡ s
unfolding complete
complete_passed rs starts rows k x link s absent = rw (complete, absent) refl

-- Where it is predicted the three parts follow one another.
pub complete_parts : (rs : List Rule) (starts rows : List ℕ) (k x link : ℕ) (s : Pass) → predicted rows k x ≡ true
    → complete rs starts rows k x link s ≡ complete_binary_predictions rs rows k x link (complete_unary_predictions rs rows k x link (complete_medial_items rs starts k x link s))
unfolding complete
complete_parts rs starts rows k x link s there = rw (complete, there) refl

-- A set has a row.
pub has-row : (starts rows : List ℕ) (k : ℕ) → Rowed starts rows → IsSet starts k → HasRow rows k
has-row starts rows k rowed is = record { few_sets = rowed.few_sets; row = omega (arith, rowed.sets, is.there) }

-- A place is queued, or not: the pass stays sound, and so does the number of its items.
medial_keeps : (rs : List Rule) (x link p n : ℕ) (s : Pass) → p < n → PassFits s × (s.at.items ≡ n)
    → PassFits (complete_medial rs x link p s) × ((complete_medial rs x link p s).at.items ≡ n)
unfolding complete_medial
medial_keeps rs x link p n s there known = (
  then-sound s _ known.0 (λ on. by_second-sound (eqb (second_of rs (item_at s.items p)) x)),
  then-next-count s _ (by_second-count (eqb (second_of rs (item_at s.items p)) x)) ∙ known.1,
)
  where
    by_second-sound : (b : Bool) → PassFits (elim b [ true ↦ enqueue p link s | false ↦ s ])
    by_second-sound true = enqueue-sound p link s known.0 (omega (arith, known.1))
    by_second-sound false = known.0

    by_second-count : (b : Bool) → (elim b as (λ (t : Bool). Pass) [ true ↦ enqueue p link s | false ↦ s ]).at.items ≡ s.at.items
    by_second-count true = enqueue-count p link s
    by_second-count false = refl

-- Completing the items of a set keeps a pass sound.
pub medials_sound : (rs : List Rule) (starts : List ℕ) (k x link : ℕ) (s : Pass) → PassFits s → Charted rs starts s → PassFits (complete_medial_items rs starts k x link s)
unfolding complete_medial_items
medials_sound rs starts k x link s sound chart =
    (over-keeps (λ (u : Pass). PassFits u × (u.at.items ≡ s.at.items)) (get_or starts (k + 1) 0 - get_or starts k 0) (λ i. complete_medial rs x link (get_or starts k 0 + i))
    (λ i u h known. medial_keeps rs x link (get_or starts k 0 + i) s.at.items u (omega (arith, chart.starts_fit (k + 1))) known) s (sound, refl)).0
