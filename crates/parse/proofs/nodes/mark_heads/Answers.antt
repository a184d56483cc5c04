use mathlib.Core.Path.{◌≡◌, sym, ap, subst, ◌∙◌}
use Prim.Native.Nat.{ℕ}
use native.Mathlib.Omega.{arith}
use Rattle.node.specs.Answers.{Answer, answer, end, done, node, found}
use Rattle.node.specs.declared.Node.{Node}
use Rattle.node.specs.declared.NoNode.{NoNode}
use Rattle.std.specs.Prelude.{Option, Result, Ok, Err}
use Rattle.node.proofs.Exact.{read_onward}
use Rattle.parse.proofs.Marking.{Marking, marking-start, marking-filler, marking-node, marking-ends, marking_fails}
use Rattle.parse.proofs.nodes.mark_heads.Goals as goal

-- The end is no node, and a fault is none.
end_other : {a : Answer} → answer done end ≡ a → (n : Node) (b : ℕ) → a ≡ answer done (node n b) → ⊥
end_other is n b e = let z : ◌≡◌ {A = ℕ} 0 1 = cc in omega arith

fault_other : {r : Result (Option (Node × ℕ)) NoNode} {fault : NoNode} → r ≡ Err fault → (n : Node) (b : ℕ) → found r ≡ answer done (node n b) → ⊥
fault_other is n b e = let z : ◌≡◌ {A = ℕ} 0 1 = cc (ap found is) in omega arith

pub loop-at-init : goal.loop-at-init
loop-at-init c = marking-start _ c.requires.0 _ c.requires.1

pub loop-at-preserved-then-units-at : goal.loop-at-preserved-then-units-at
loop-at-preserved-then-units-at c =
    let required = c.requires in
    marking-filler _ required.0 _ _ c.loop-at.invariant c.loop-at-test.true c.if-units-at.true

pub returns-in-Ok-None : goal.returns-in-Ok-None
returns-in-Ok-None c =
    let required = c.requires in
    let looped = c.loop-at in
    let walked = marking_fails _ required.0 looped.at looped.heads looped.invariant c.loop-at-test.true c.if-units-at.false
    (end_other (ap found (sym (c.in-Ok-None.is ∙ ap Ok c.in-Ok-None.field-0-is)) ∙ c.read.ensures.answers)) in record {
      reads = walked.tells;
      marks = walked.marks;
    }

pub returns-in-Err : goal.returns-in-Err
returns-in-Err c =
    let required = c.requires in
    let looped = c.loop-at in
    let walked = marking_fails _ required.0 looped.at looped.heads looped.invariant c.loop-at-test.true c.if-units-at.false
    (λ n b e. fault_other c.in-Err.is n b (c.read.ensures.answers ∙ e)) in record {
      reads = walked.tells;
      marks = walked.marks;
    }

pub loop-at-smaller : goal.loop-at-smaller
loop-at-smaller c =
    let node-read = sym c.read.ensures.answers ∙ ap found (c.in-Ok-Some.is ∙ ap Ok c.in-Ok-Some.field-0-is) in
    omega (arith, read_onward _ _ _ _ node-read)

pub loop-at-preserved : goal.loop-at-preserved
loop-at-preserved c =
    let looped = c.loop-at in
    let node-read = sym c.read.ensures.answers ∙ ap found (c.in-Ok-Some.is ∙ ap Ok c.in-Ok-Some.field-0-is) in
    subst (Marking _ _) (sym c.mark.ensures)
    (marking-node _ c.requires.0 looped.at looped.heads looped.invariant _ _ c.loop-at-test.true c.if-units-at.false node-read)

pub returns : goal.returns
returns c =
    let walked = marking-ends _ c.requires.0 _ _ c.loop-at.invariant c.loop-at-test.false in record {
      reads = walked.tells;
      marks = walked.marks;
    }
