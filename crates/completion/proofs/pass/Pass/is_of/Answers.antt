use Rattle.std.proofs.Common.{ap, ◌∙◌, ◌<◌, arith}
use Rattle.item.specs.Item.{Item, rule_at, item_at}
use Rattle.binary_heap.specs.Entry.{Entry, entries_in}
use Rattle.binary_heap.specs.Sift.{entry_at}
use Rattle.completion.specs.Lent.{its_rules}
use Rattle.completion.proofs.Summing.{of_left}
use Rattle.completion.proofs.Waiting.{rules-length, item-left}
use Rattle.completion.proofs.pass.Pass.is_of.Goals as goal

pub returns-then-item-pair : goal.returns-then-item-pair
returns-then-item-pair c =
    let its = c.args.self.now in
    let pair = c.args.pair in
    let required = c.requires in
    let place = (entry_at (entries_in its.queue.now) c.args.pos).place in
    let read = c.read-item.ensures ∙ ap (λ (e : Entry). item_at its.items.now e.place) c.read.ensures in
    let few : rule_at its.items.now place < its.rules.now.count =
    omega (arith, required.0.rules place (required.0.sound.entries c.args.pos required.1), rules-length its.rules.now.words its.rules.now.count) in
    of_left (its_rules its) pair.set pair.symbol (item_at its.items.now place) _ _ (ap (λ (i : Item). i.origin) read)
    c.if-item-pair.true
    (item-left its.rules.now.words its.rules.now.count _ (item_at its.items.now place) _ read few c.left.ensures.0)
