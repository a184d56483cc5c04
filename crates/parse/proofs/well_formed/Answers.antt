-- `parse::well_formed` meets its contract: each test tells of a part, and the parts make the whole.
use mathlib.Core.Path.{ap}
use mathlib.Core.Bool.{not}
use mathlib.Core.Path.{sym}
use native.Mathlib.Omega.{arith}
use lib.ListN.{length-take}
use lib.Seq.{length-take-le}
use Rattle.parse.specs.WellFormed.{WellFormed}
use Rattle.parse.proofs.Whole.{whole, its_starts, its_sets, its_rows, its_spare, its_store}
use Rattle.laws.proofs.Decides.{says_no, part_fails, passes, decides_map}
use Rattle.parse.proofs.well_formed.Goals as goal
use Rattle.parse.proofs.well_formed.Goals.{then-set-view-via-then-set-view, then-set-view-via-else-set-view+then-held-view, then-set-view-via-else-set-view+else-held-view+then-used-view}

pub returns-then-set-view : goal.returns-then-set-view
returns-then-set-view c = says_no (λ (h : WellFormed _ _ _ _). elim c.then-set-view.branch [
  | then-set-view-via-then-set-view w ↦ omega (arith, h.set_fits, w.if-set-view.true)
  | then-set-view-via-else-set-view+then-held-view w ↦ omega (arith, h.items_fit, w.if-held-view.true)
  | then-set-view-via-else-set-view+else-held-view+then-used-view w ↦ omega (arith, h.units_fit, w.if-used-view.true)
])

pub returns-then-not-starts_fit : goal.returns-then-not-starts_fit
returns-then-not-starts_fit c = part_fails c.starts_fit.ensures (ap not c.if-not-starts_fit.true) (its_starts _ _ _ _)

pub sets_fit-requires : goal.sets_fit-requires
sets_fit-requires c =
    let required = c.requires in
    let starts = passes c.starts_fit.ensures (ap not c.if-not-starts_fit.false) in
    ((required.0, omega arith), (omega (arith, starts.last_start, c.if-held-view.false), starts.never_falls))

pub returns-then-not-sets_fit : goal.returns-then-not-sets_fit
returns-then-not-sets_fit c = part_fails c.sets_fit.ensures (ap not c.if-not-sets_fit.true) (its_sets _ _ _ _)

pub returns-then-not-rows_below : goal.returns-then-not-rows_below
returns-then-not-rows_below c = part_fails c.rows_below.ensures (ap not c.if-not-rows_below.true) (its_rows _ _ _ _)

pub returns-then-not-spare_clear : goal.returns-then-not-spare_clear
returns-then-not-spare_clear c = part_fails c.spare_clear.ensures (ap not c.if-not-spare_clear.true) (its_spare _ _ _ _)

pub slice_bounds-store_fits-end : goal.slice_bounds-store_fits-end
slice_bounds-store_fits-end c =
    let given = c.args in
    let units-tested = c.if-used-view in
    sym (length-take-le given.state.used given.view.now.store.now units-tested.false)

pub store_fits-requires : goal.store_fits-requires
store_fits-requires c =
    let given = c.args in
    let required = c.requires in
    let items-tested = c.if-held-view in
    (omega (arith, items-tested.false), omega (arith, required.1.1, length-take given.state.used given.view.now.store.now))

pub returns : goal.returns
returns c =
    let set_tested = c.if-set-view in
    let items-tested = c.if-held-view in
    let units-tested = c.if-used-view in
    let starts-checked = c.starts_fit in
    let starts-passed = c.if-not-starts_fit in
    let sets-checked = c.sets_fit in
    let sets-passed = c.if-not-sets_fit in
    decides_map
    (whole _ _ _ _ set_tested.false items-tested.false units-tested.false
    (passes starts-checked.ensures (ap not starts-passed.false))
    (passes sets-checked.ensures (ap not sets-passed.false))
    (passes c.rows_below.ensures (ap not c.if-not-rows_below.false))
    (passes c.spare_clear.ensures (ap not c.if-not-spare_clear.false)))
    (its_store _ _ _ _)
    c.store_fits.ensures
