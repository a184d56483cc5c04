-- A position's kinds, one behind another: the pass behind the first of them, and behind one more.
use Rattle.std.proofs.Common.{◌≡◌, refl, sym, ◌∙◌, ap, true, false, List, [], ◌∷◌, ◌++◌, ℕ, suc, ◌<◌, length, get_or, take, drop, take-append-drop, take-suc, lt-ltb}
use Rattle.grammar.specs.Rules.{Rule}
use Rattle.node.specs.Rows.{units_at, row_of, leaf_row, unfit}
use Rattle.node.specs.declared.Node.TheVariants.{Evaluated}
use Rattle.node.proofs.Fit.{fit_row}
use Rattle.completion.specs.Pass.{Pass, append}
use Rattle.completion.specs.Complete.{predicted, complete}
use Rattle.completion.specs.Scan.{scan, scan_all}
use Rattle.completion.specs.inner.Ready.{IsSet, PassFits, Charted}
use Rattle.completion.proofs.Charting.{Steady, steady_refl, steady_append, steady_complete}
use Rattle.completion.proofs.Scanning.{scan_all-keeps}
use Rattle.planting.proofs.Pushing.{Good, complete_good}
use Rattle.planting.proofs.Written.{append_good}

-- The leaf of a token has one unit.
pub leaf-unit : (p t : ℕ) → t < 4096 → length (units_at p (Evaluated t)) ≡ 1
unfolding unfit row_of leaf_row
leaf-unit p t small = ap length (fit_row p (Evaluated t) refl) ∙ rw (lt-ltb t 4096 small) refl

module _ (rs : List Rule) (starts rows : List ℕ) (e : ℕ) where
  -- A kind that is predicted gets its node and is completed; any other is passed over.
  pub scan-used : (t : ℕ) (s : Pass) → predicted rows e t ≡ true
      → scan rs starts rows e t s ≡ complete rs starts rows e t s.at.used (append (Evaluated t) s)
  unfolding scan
  scan-used t s row = rw (scan, row) refl

  pub scan_passed : (t : ℕ) (s : Pass) → predicted rows e t ≡ false → scan rs starts rows e t s ≡ s
  unfolding scan
  scan_passed t s row = rw (scan, row) refl

  -- Kinds behind kinds.
  scan_all-append : (kinds more : List ℕ) (s : Pass)
      → scan_all rs starts rows e (kinds ++ more) s ≡ scan_all rs starts rows e more (scan_all rs starts rows e kinds s)
  unfolding scan_all
  scan_all-append [] more s = refl
  scan_all-append (t ∷ kinds) more s = scan_all-append kinds more (scan rs starts rows e t s)

  module _ (kinds : List ℕ) (n : ℕ) (s : Pass) where
    -- Behind the first kinds comes the next,
    pub scan-next : n < length kinds
        → scan_all rs starts rows e (take (suc n) kinds) s ≡ scan rs starts rows e (get_or kinds n 0) (scan_all rs starts rows e (take n kinds) s)
    unfolding scan_all
    scan-next there =
        ap (λ l. scan_all rs starts rows e l s) (take-suc kinds n 0 there) ∙ scan_all-append (take n kinds) (get_or kinds n 0 ∷ []) s

    -- and at last all the others.
    pub scan_others : scan_all rs starts rows e (drop n kinds) (scan_all rs starts rows e (take n kinds) s) ≡ scan_all rs starts rows e kinds s
    scan_others = sym (scan_all-append (take n kinds) (drop n kinds) s) ∙ ap (λ l. scan_all rs starts rows e l s) (take-append-drop n kinds)

  -- A pass on its way through kinds, that was not refused before.
  record Unstopped (s u : Pass) : Type 0 where
    pub steady : Steady rs starts s u
    pub good : Good u → Good s

  -- Where kinds were scanned and nothing refused, nothing was refused before.
  pub scan_all_good : IsSet starts e → (kinds : List ℕ) (s : Pass) → PassFits s → Charted rs starts s → Good (scan_all rs starts rows e kinds s) → Good s
  scan_all_good set kinds s sound charted =
      (scan_all-keeps rs starts rows e kinds (Unstopped s)
      (λ t u m row on.
      let written : Steady rs starts s (append (Evaluated t) u) = steady_append rs starts s (Evaluated t) u on.steady in
      record {
        steady = steady_complete rs starts s rows e t u.at.used set (append (Evaluated t) u) written;
        good = λ good.
            on.good
            (append_good (Evaluated t) u
            (complete_good rs starts rows e t u.at.used set (append (Evaluated t) u) written.sound written.charted good));
      })
      s (record { steady = steady_refl rs starts s sound charted; good = λ good. good })).good
