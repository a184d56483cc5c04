-- Starts that never fall, and items that fit a set.
use mathlib.Core.Path.{◌≡◌, sym, ap, subst, ◌∙◌}
use mathlib.Core.Bool.{not}
use mathlib.Core.List.{List}
use Prim.Native.Nat.{ℕ, zero, suc, ◌+◌, ◌≤◌, ◌<◌}
use native.Mathlib.Decide.{dec_le}
use native.Mathlib.Numerals.{add-one}
use native.Mathlib.Omega.{arith}
use lib.ListN.{get_or}
use lib.Dec.{eqb}
use Rattle.item.specs.Item.{Item, item_at}
use Rattle.grammar.specs.Rules.{none}
use Rattle.grammar.specs.inner.Decoded.{second_in, rules_in}
use Rattle.grammar.proofs.Decoding.{in_count}
use Rattle.parse.specs.WellFormed.{Fits, second_of, placing}
use Rattle.laws.specs.Decides.{Decides}
use Rattle.parse.specs.inner.Parts.{NeverFalls, AllFit, Among}
use Rattle.parse.proofs.Placing.{second_in_lem}
use Rattle.laws.proofs.Decides.{says_differ}

-- One start is not above the next.
abbrev pub Up : List ℕ → ℕ → Type 0
Up starts k = get_or starts k 0 ≤ get_or starts (k + 1) 0

-- A later start is not below an earlier one.
pub rising : (starts : List ℕ) (e : ℕ) → NeverFalls starts e → (j k : ℕ) → k ≤ j → j ≤ e + 1 → get_or starts k 0 ≤ get_or starts j 0
rising starts e h zero k a b = subst (λ (m : ℕ). get_or starts m 0 ≤ get_or starts 0 0) {x = 0} (omega arith) (omega arith)
rising starts e h (suc j) k a b =
    elim (dec_le k j) [
      | yes l ↦ omega (arith, rising starts e h j k l (omega arith), h.each j (omega arith), ap (λ (m : ℕ). get_or starts m 0) (add-one j))
      | no n ↦ subst (λ (m : ℕ). get_or starts m 0 ≤ get_or starts (suc j) 0) {x = suc j} (omega arith) (omega arith)
    ]

-- Items that fit a set have rules that are there.
pub fit_among : (rules items : List ℕ) (count k from to : ℕ) → AllFit (rules_in rules count) items k from to → Among items from to count
fit_among rules items count k from to h = record { each = λ p a b. omega (arith, (h.each p a b).is_rule, in_count rules 0 0 count) }

pub among_more : (items : List ℕ) (from to count most : ℕ) → Among items from to count → count ≤ most → Among items from to most
among_more items from to count most h l = record { each = λ p a b. omega (arith, h.each p a b) }

-- Of an item with an earlier origin and a rule that is there, the test of its second tells whether it fits.
pub second-tells : (rules : List ℕ) (count k : ℕ) (i : Item) (rule second : ℕ) → rule ≡ i.rule → second ≡ second_in rules rule → i.origin < k → rule < count
    → Decides (not (eqb second none)) (Fits (rules_in rules count) k i)
second-tells rules count k i rule second er es a b =
    says_differ second none
    (λ n. record { earlier = a; is_rule = omega (arith, in_count rules 0 0 count); has_second = λ e. n (seen ∙ e) })
    (λ e h. h.has_second (sym seen ∙ e))
  where
    seen : second ≡ second_of (rules_in rules count) i
    seen = es ∙ ap (second_in rules) er ∙ sym (second_in_lem rules count i (omega arith))

-- An item precedes the next.
abbrev pub Before : List ℕ → List ℕ → ℕ → ℕ → ℕ → Type 0
Before rules items from to p =
    (count : ℕ) → Among items from to count → placing (rules_in rules count) (item_at items p) < placing (rules_in rules count) (item_at items (p + 1))
