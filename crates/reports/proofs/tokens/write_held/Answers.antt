use mathlib.Core.Path.{refl, sym, ◌∙◌}
use native.Mathlib.Omega.{arith}
use Rattle.reports.proofs.Held.{listing-starts, listing-long, listing_passes, listing-lists, listing-room}
use Rattle.reports.proofs.tokens.write_held.Goals as goal

pub loop-t-init : goal.loop-t-init
loop-t-init c = listing-starts _ _ _

pub bounds-out-at : goal.bounds-out-at
bounds-out-at c =
    let required = c.requires in
    let looped = c.loop-t in
    omega (arith, listing-long _ _ _ _ _ _ looped.invariant required.1, listing-room _ _ _ _ _ _ looped.invariant (sym c.has_at.ensures ∙ c.if-not-has_at.false) c.loop-t-test.true required.1)

pub loop-t-preserved : goal.loop-t-preserved
loop-t-preserved c =
    let required = c.requires in
    let looped = c.loop-t in
    let held = sym c.has_at.ensures ∙ c.if-not-has_at.false in
    listing-lists _ _ _ _ _ _ held c.loop-t-test.true looped.invariant (listing-room _ _ _ _ _ _ looped.invariant held c.loop-t-test.true required.1) _ refl

pub loop-t-preserved-then-not-has_at : goal.loop-t-preserved-then-not-has_at
loop-t-preserved-then-not-has_at c = listing_passes _ _ _ _ _ _ (sym c.has_at.ensures ∙ c.if-not-has_at.true) c.loop-t-test.true c.loop-t.invariant
