-- `translation::write::write` meets its contract.
use Rattle.std.proofs.Common.{List, ℕ, ◌-◌, arith, rules}
use Rattle.grammar.specs.Rules.{Rule}
use Rattle.grammar.specs.inner.Decoded.{rules_of}
use Rattle.written.specs.Order.{ordered}
use Rattle.written.specs.Translation.{blocks, up_from}
use Rattle.translation.proofs.Putting.{rules-long, file-stored}
use Rattle.translation.proofs.write.write.Goals as goal

pub put_levels-requires : goal.put_levels-requires
put_levels-requires c =
    let given = c.args in
    let required = c.requires in
    let list : List Rule = rules_of given.rules.now in
    let order : List ℕ = ordered (given.wrapper - given.tokens) list (up_from given.tokens (given.wrapper - given.tokens)) in
    (omega (arith, required.0), required.1, omega (arith, required.2), search (rules, rules-long (blocks list order) given.rules.now.count required.5, required.4))

pub returns : goal.returns
returns c = file-stored c.args.file.now _ _ _ _ _ _ _ _ _ _ c.requires.5 c.put_header.ensures c.put_rule.ensures c.put_levels.ensures
