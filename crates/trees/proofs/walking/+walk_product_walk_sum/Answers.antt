use Rattle.std.proofs.Common.{ap, arith}
use Rattle.trees.specs.inner.Walks.{front_end}
use Rattle.trees.proofs.Laying.{walking_on, walking_word, walking_full, worded, onward, left_walks, front-alone, front-walked}
use Rattle.trees.proofs.walking.+walk_product_walk_sum.Goals as goal

pub walk_product-walk_sum-requires : goal.walk_product-walk_sum-requires
walk_product-walk_sum-requires t c =
    let is = c.in-Some.is in
    let put = c.put-next.ensures in
    let height = ap front_end is in
    (omega (arith, c.decreases, height), (left_walks c.requires.0 is, record { within = omega (arith, put.0, c.requires.1.0); reaches = omega (arith, c.put-next.auto.out, c.requires.1.1) }))

pub walk_product-returns-in-None : goal.walk_product-returns-in-None
walk_product-returns-in-None t c = front-alone c.requires.1.0 c.in-None.is c.put-next.ensures.0 c.put-next.ensures.1

pub walk_product-returns-in-Some : goal.walk_product-returns-in-Some
walk_product-returns-in-Some t c =
    front-walked c.requires.1.0 c.requires.1.1 c.in-Some.is c.put-next.ensures.0 c.put-next.ensures.1 c.walk_sum.ensures

pub walk_sum-returns-in-Word : goal.walk_sum-returns-in-Word
walk_sum-returns-in-Word t c =
    walking_word c.requires.1.reaches c.loop-next.invariant c.loop-next-test.true (worded c.chosen.ensures c.in-Word.is) c.put.ensures.0 c.put.ensures.1

pub walk_sum-loop-next-preserved : goal.walk_sum-loop-next-preserved
walk_sum-loop-next-preserved t c =
    walking_on c.requires.1.reaches c.loop-next.invariant (onward c.chosen.ensures c.in-Chosen.is) c.walk_product-next.ensures

pub walk_sum-returns : goal.walk_sum-returns
walk_sum-returns t c = walking_full c.requires.1.reaches c.loop-next.invariant c.loop-next-test.false
