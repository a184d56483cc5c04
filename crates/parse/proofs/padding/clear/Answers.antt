-- `padding::clear` meets its contract. Where `from` is behind `to`, the words from there on are spare already.
use Rattle.std.proofs.Common.{ap, ◌∙◌, arith, ◌-◌, length, take, drop, replicate}
use Rattle.parse.proofs.Padded.{ends_topped, topping}
use Rattle.parse.proofs.padding.clear.Goals as goal

pub returns-then-from-to : goal.returns-then-from-to
returns-then-from-to g c =
    topping g.W.Word.SPARE _ _ _ _ (omega (arith, c.if-from-to.true)) c.requires.1 c.requires.2.each
    (c.fill.ensures.after (g.met.W.Word.copied _) ∙ ap (replicate (length (take (c.args.to - c.args.from) (drop c.args.from c.args.words.now)))) c.SPARE.ensures)

pub returns-else-from-to : goal.returns-else-from-to
returns-else-from-to g c = ends_topped _ _ _ c.requires.0 (λ i l. c.requires.2.each i (omega (arith, c.if-from-to.false)))
