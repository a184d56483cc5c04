use Rattle.std.proofs.Common.{◌≡◌, ap, ◌∙◌, ◌-◌, arith}
use Rattle.advance.specs.NewItems.{items_from}
use Rattle.item.specs.Item.{item_at}
use Rattle.grammar.specs.inner.Decoded.{rules_of}
use Rattle.parse.specs.WellFormed.{second_of}
use Rattle.advance.proofs.Placing.{Narrow}
use Rattle.advance.proofs.Dropping.{dropping_next, dropping_ends, second-read}
use Rattle.advance.proofs.unary.binary_end.Goals as goal

pub returns-then-second-ne-NONE : goal.returns-then-second-ne-NONE
returns-then-second-ne-NONE c =
    let given = c.args in
    let required = c.requires in
    let looped = c.loop-p in
    let here : second_of (rules_of given.rules.now) (item_at given.items.now (looped.p - 1)) ≡ c.second.result =
    second-read _ _ _ _ _ _ required.0 (omega arith) (omega (arith, looped.invariant.below)) _ _ c.rule.ensures
    c.second.ensures.0 in
    let narrow : Narrow given.items.now = record { fits = λ i. omega (arith, c.type_inv.items i) } in record {
      within = (omega arith, omega (arith, looped.invariant.below));
      are = dropping_ends _ _ _ _ narrow required.1 _
          looped.invariant (λ l. omega (arith, here, c.second.ensures.1, c.if-second-ne-NONE.true))
          ∙ ap (items_from given.items.now given.from) (omega arith);
    }

pub loop-p-preserved : goal.loop-p-preserved
loop-p-preserved c =
    let required = c.requires in
    let looped = c.loop-p in
    dropping_next _ _ _ _ _ looped.invariant
    c.loop-p-test.true (second-read _ _ _ _ _ _ required.0
    (omega arith) (omega (arith, looped.invariant.below)) _ _ c.rule.ensures
    c.second.ensures.0 ∙ c.if-second-ne-NONE.false)

pub returns : goal.returns
returns c =
    let given = c.args in
    let narrow : Narrow given.items.now = record { fits = λ i. omega (arith, c.type_inv.items i) } in record {
      within = (omega arith, omega (arith, c.requires.0.runs));
      are = dropping_ends _ _ _ _ narrow c.requires.1 _
          c.loop-p.invariant (λ l. absurd (omega arith))
          ∙ ap (items_from given.items.now given.from) (omega (arith, c.loop-p.invariant.above));
    }
