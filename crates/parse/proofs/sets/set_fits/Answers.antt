-- `sets::set_fits` meets its contract: the items fit, and then rise.
use Rattle.parse.specs.inner.Parts.{SetFits}
use Rattle.parse.proofs.Fitting.{fit_among, among_more}
use Rattle.laws.proofs.Decides.{decides_map}
use Rattle.parse.proofs.sets.set_fits.Goals as goal

pub rises-requires : goal.rises-requires
rises-requires c =
    ((c.requires.0.1, c.requires.1), among_more _ _ _ _ _ (fit_among _ _ c.args.rules.now.count _ _ _ (c.all_fit.ensures.if_yes c.if-all_fit.true)) c.requires.0.0)

pub returns-then-all_fit : goal.returns-then-all_fit
returns-then-all_fit c =
    let count = c.args.rules.now.count in
    decides_map (λ rise. record { fit = c.all_fit.ensures.if_yes c.if-all_fit.true; rise = rise }) (λ (h : SetFits _ _ _ _ _). h.rise)
    (c.rises.ensures count (fit_among _ _ count _ _ _ (c.all_fit.ensures.if_yes c.if-all_fit.true)))
