use Rattle.std.proofs.Common.{ℕ, suc, ◌+◌, ◌-◌, ◌<◌, ◌≡◌, sym, subst, ◌∙◌, arith}
use Rattle.node.specs.Writing.{usable}
use Rattle.forest.specs.Stores.{products_at}
use Rattle.trees.proofs.Choices.{Passing, passing-starts, passing-some, reads_none, no_products, turn_divides, turn_picks, turn_low, turn_on}
use Rattle.trees.proofs.walking.choose.Goals as goal

-- One Product of those that are left is read.
one_read : (count turn : ℕ) → turn < count → count - turn ≡ suc (count - (turn + 1))
one_read count turn less = omega (arith, less)

pub loop-turn-init : goal.loop-turn-init
loop-turn-init c =
    let a = c.args in
    let all : a.count - 0 ≡ a.count = omega arith in
    subst (λ n. Passing a.store.now a.s a.k a.k (products_at a.count (usable a.store.now) a.from) (products_at n (usable a.store.now) a.from))
    (sym all) (passing-starts c.requires (omega arith))

pub returns-in_default : goal.returns-in_default
returns-in_default c =
    let one = one_read c.args.count c.loop-turn.turn c.loop-turn-test.true in
    absurd (passing-some c.loop-turn.invariant (reads_none _ _ _ _ one (sym c.in_default.is ∙ c.step.ensures)))

pub choice_in-requires : goal.choice_in-requires
choice_in-requires c =
    let asked = c.requires in
    let one = one_read c.args.count c.loop-turn.turn c.loop-turn-test.true in
    let read = sym c.in-Some.is ∙ c.step.ensures in
    (asked.inside, turn_divides asked _ _ _ c.loop-turn.invariant one read c.product-weight.ensures (sym c.chooses.ensures ∙ c.if-chooses.true))

pub returns-then-chooses : goal.returns-then-chooses
returns-then-chooses c =
    let one = one_read c.args.count c.loop-turn.turn c.loop-turn-test.true in
    let read = sym c.in-Some.is ∙ c.step.ensures in
    let chosen = sym c.chooses.ensures ∙ c.if-chooses.true in
    turn_picks c.requires _ _ _ c.loop-turn.invariant one read c.product-weight.ensures chosen c.choice_in.ensures

pub overflow_sub-rest : goal.overflow_sub-rest
overflow_sub-rest c =
    let one = one_read c.args.count c.loop-turn.turn c.loop-turn-test.true in
    let read = sym c.in-Some.is ∙ c.step.ensures in
    let past = sym c.chooses.ensures ∙ c.if-chooses.false in
    turn_low c.requires _ _ _ c.loop-turn.invariant one read c.product-weight.ensures past c.passed_over-rest.ensures

pub loop-turn-preserved : goal.loop-turn-preserved
loop-turn-preserved c =
    let one = one_read c.args.count c.loop-turn.turn c.loop-turn-test.true in
    let read = sym c.in-Some.is ∙ c.step.ensures in
    let past = sym c.chooses.ensures ∙ c.if-chooses.false in
    turn_on c.requires _ _ _ c.loop-turn.invariant one read c.product-weight.ensures past c.passed_over-rest.ensures

pub returns : goal.returns
returns c =
    let none : c.args.count - c.loop-turn.turn ≡ 0 = omega (arith, c.loop-turn-test.false) in
    absurd (passing-some c.loop-turn.invariant (no_products c.args.store.now (c.args.count - c.loop-turn.turn) c.loop-turn.at none))
