-- `reports::words::list_words` meets its contract.
use mathlib.Core.Path.{sym}
use Rattle.grammar.specs.inner.Decoded.{rules_of}
use Rattle.reports.proofs.Fronts.{puts_short, puts_wrote}
use Rattle.reports.proofs.Latest.{words_long, words_fill}
use Rattle.reports.proofs.words.list_words.Goals as goal

pub returns-then-out-needed : goal.returns-then-out-needed
returns-then-out-needed c =
    let given = c.args in
    puts_short _ _ _ (sym (words_long (rules_of given.rules.now) given.items.now given.from _)) c.if-out-needed.true

pub returns : goal.returns
returns c =
    let given = c.args in
    puts_wrote _ _ _ _ (sym (words_long (rules_of given.rules.now) given.items.now given.from _)) c.if-out-needed.false
    (words_fill (rules_of given.rules.now) given.items.now given.from _ _ c.write_items.ensures)
