use Rattle.std.proofs.Common.{◌≡◌, sym, ap, ◌∙◌, arith, Ok}
use Rattle.node.specs.Answers.{answer, done, node, found}
use Rattle.node.specs.Reading.{read_units}
use Rattle.node.proofs.Exact.{Onward, read_onward}
use Rattle.node.proofs.Walks.{walk-node, walk_end, walk-fault}
use Rattle.node.proofs.reading.walk_units.Goals as goal

-- In a turn that goes on, a node was read, and the position behind it is onward and within the store.
node-read : (c : goal.In-Ok-Some)
    → read_units c.args.s.now c.loop-behind.at ≡ answer done (node c.in-Ok-Some.field-0-0-0 c.in-Ok-Some.behind)
node-read c = sym c.in-Ok-Some.ensures ∙ ap (λ r. found (Ok r)) c.in-Ok-Some.field-0-is

onward : (c : goal.In-Ok-Some) → Onward c.args.s.now c.loop-behind.at c.in-Ok-Some.behind
onward c = read_onward _ _ _ _ (node-read c)

pub overflow_add-count : goal.overflow_add-count
overflow_add-count c = omega (arith, onward c, c.loop-behind.invariant.counted)

pub loop-behind-smaller : goal.loop-behind-smaller
loop-behind-smaller c = omega (arith, onward c)

pub loop-behind-preserved : goal.loop-behind-preserved
loop-behind-preserved c =
    let looped = c.loop-behind in
    record {
      left = sym (walk-node _ _ _ _ _ (node-read c)) ∙ looped.invariant.left;
      counted = omega (arith, onward c, looped.invariant.counted);
    }

pub returns-in-Ok-None : goal.returns-in-Ok-None
returns-in-Ok-None c =
    let is = sym c.in-Ok-None.ensures ∙ ap (λ r. found (Ok r)) c.in-Ok-None.field-0-is in
    sym (walk_end _ c.loop-behind.at c.loop-behind.count is) ∙ c.loop-behind.invariant.left

pub returns-in-Err : goal.returns-in-Err
returns-in-Err c =
    sym (walk-fault _ c.loop-behind.at c.loop-behind.count _ (sym c.in-Err.ensures)) ∙ c.loop-behind.invariant.left
