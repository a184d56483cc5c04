-- `reports::words::put_item` meets its contract.
use mathlib.Core.Path.{refl, ap, ◌∙◌}
use native.Mathlib.Omega.{arith}
use Rattle.item.specs.Item.{Item}
use Rattle.reports.specs.inner.Puts.{written}
use Rattle.reports.proofs.Latest.{five_are}
use Rattle.reports.proofs.Putting.{put_over}
use Rattle.reports.proofs.words.put_item.Goals as goal

pub returns : goal.returns
returns c =
    let given = c.args in
    let read = c.read-item.ensures in
    (put_over given.out.now _ _ given.at _ c.requires.3 (omega arith) c.copy_from_slice.ensures.after).leaves
    ∙ ap (written given.out.now given.at)
    (five_are given.rules.now.words given.rules.now.count given.items.now given.p c.requires.2 (ap (λ (i : Item). i.rule) read) refl
    c.left.ensures.0 c.first.ensures.0 c.second.ensures.0 (ap (λ (i : Item). i.origin) read))
