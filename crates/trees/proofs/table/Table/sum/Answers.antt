use Rattle.std.proofs.Common.{suc, ◌+◌, ◌-◌, ◌≡◌, sym, ap, ◌∙◌, arith}
use Rattle.node.specs.Writing.{usable}
use Rattle.trees.specs.inner.Tables.{tabled}
use Rattle.trees.proofs.Tabled.{rest, rest_done, rest_ended, rest_step}
use Rattle.trees.proofs.table.Table.sum.Goals as goal

pub returns-in_default : goal.returns-in_default
returns-in_default c =
    c.plus.ensures
    ∙ rest_ended _ _ _ _ (c.args.count - c.loop-turn.turn) _ (omega (arith, c.loop-turn-test.true)) (sym c.in_default.is ∙ c.step.ensures)
    ∙ c.loop-turn.invariant

pub loop-turn-preserved : goal.loop-turn-preserved
loop-turn-preserved c =
    let turn = c.loop-turn.turn in
    let one : c.args.count - c.loop-turn.turn ≡ suc (c.args.count - (c.loop-turn.turn + 1)) = omega (arith, c.loop-turn-test.true) in
    rest_step _ _ _ _ _ _ _ (c.args.count - (turn + 1)) _ _ one (sym c.in-Some.is ∙ c.step.ensures) c.product.ensures c.plus-weight.ensures
    ∙ c.loop-turn.invariant

pub returns : goal.returns
returns c =
    let a = c.args in
    let old = c.loop-turn in
    let none : a.count - old.turn ≡ 0 = omega (arith, c.loop-turn-test.false) in
    sym (rest_done (tabled a.self.now) a.s a.store.now old.weight old.at)
    ∙ ap (λ n. rest (tabled a.self.now) a.s (usable a.store.now) old.weight n old.at) (sym none)
    ∙ old.invariant
