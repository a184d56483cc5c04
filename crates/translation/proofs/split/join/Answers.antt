use Rattle.std.proofs.Common.{◌≡◌, Bool, ℕ, ◌-◌, ◌&&◌, length, get_or, arith, refl, sym, ap, ◌∙◌}
use Rattle.std.proofs.lemmas.Result.{err_from_is_err_and}
use Rattle.translation.proofs.Joining.{joining_begins, joining_on, joining_stops, joining_ends}
use Rattle.written.specs.Translation.{number}
use Rattle.translation.specs.inner.Marks.{marked}
use Rattle.translation.proofs.split.join.Goals as goal
use Rattle.translation.proofs.split.join.Goals.{then-head_empty, else-head_empty}

pub loop-i-init : goal.loop-i-init
loop-i-init c = joining_begins _ _ _ _ _ _ (omega arith) c.number-head.ensures.0 (omega (arith, c.number-head.ensures.1, c.type_inv.held 0)) refl

pub returns-in_err-pair : goal.returns-in_err-pair
returns-in_err-pair c =
    let p = err_from_is_err_and c.from_residual.result c.from_residual.ensures.1 in
    rw (p.1) (joining_stops _ _ _ _ _ _ c.loop-i.invariant c.number.ensures.0 refl (omega arith) c.in_err-pair.ensures)

pub loop-i-preserved : goal.loop-i-preserved
loop-i-preserved c =
    let j = c.loop-i.invariant in
    joining_on _ _ _ _ _ _ j c.number.ensures.0 refl (omega arith) (omega (arith, j.next, j.inside))
    (elim c.if-head_empty.branch [
      | then-head_empty w ↦ w.head_empty-is ∙ sym (ap (λ (b : Bool). b && marked c.args.tests.now.empty.now (get_or c.args.held.now c.loop-i.i 0)) w.if-head_empty.true)
      | else-head_empty w ↦ w.head_empty-is ∙ w.if-head_empty.false ∙ sym (ap (λ (b : Bool). b && marked c.args.tests.now.empty.now (get_or c.args.held.now c.loop-i.i 0)) w.if-head_empty.false)
    ])
    c.in_ok-pair.ensures

pub returns : goal.returns
returns c =
    let tests = c.args.tests.now in
    let last : length c.args.held.now - 1 ≡ c.loop-i.i = omega (arith, c.loop-i.invariant.inside) in
    joining_ends _ _ _ _ _ _ c.loop-i.invariant
    (c.number-2.ensures.0 ∙ ap (λ (k : ℕ). number (marked tests.keep.now) (get_or c.args.held.now k 0)) last)
    (ap (λ (k : ℕ). marked tests.empty.now (get_or c.args.held.now k 0)) last) (omega (arith, c.loop-i.invariant.inside)) c.pair-2.ensures
