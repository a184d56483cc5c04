-- `sets::all_fit` meets its contract.
use Rattle.std.proofs.Common.{rules, tests, refl, ℕ}
use Rattle.std.proofs.lemmas.Iterator.{cases_from_all, YieldsList-from_range}
use Rattle.grammar.specs.inner.Decoded.{rules_of}
use Rattle.item.specs.Item.{item_at}
use Rattle.laws.proofs.Decides.{decides_map}
use Rattle.parse.specs.WellFormed.{Fits}
use Rattle.parse.proofs.Searching.{all_decides}
use Rattle.parse.proofs.sets.all_fit.Goals as goal

pub returns : goal.returns
returns c =
    let fits = λ (p : ℕ). Fits (rules_of c.args.rules.now) c.args.k (item_at c.args.items.now p) in
    decides_map (λ h. record { each = h }) (λ h. h.each)
    (all_decides fits _ c.args.from c.args.to
    (cases_from_all _ _ _ fits (λ p. fits p → ⊥) c.all.ensures.ran (YieldsList-from_range c.args.from c.args.to _ refl refl) (λ x r k. search (rules, tests)) (λ x r k. search (rules, tests))))
