-- `translation::marks::mark_within` meets its contract.
use Rattle.std.proofs.Common.{arith, rules, ap, ◌∙◌, replicate, true}
use Rattle.std.proofs.lemmas.List.{length-take-le, length-drop}
use Rattle.translation.proofs.Marked.{only-filled}
use Rattle.translation.proofs.marks.mark_within.Goals as goal

pub returns : goal.returns
returns c = only-filled _ c.args.from c.args.to c.requires.0 c.requires.1 _ _ (c.fill.ensures.after (λ y e. search rules)) (c.fill-2.ensures.after (λ y e. search rules) ∙ ap (λ n. replicate n true) (length-take-le _ _ (omega (arith, length-drop c.args.from c.fill.new.self, c.fill.ensures.len))))
