-- `grammar::rules::Rules::link` meets its contract. The invariant, `Linked`: the rules from `r` on are linked.
use Rattle.grammar.proofs.Linking.{Linked}
use Rattle.std.specs.Prelude.{◌≡◌}
use Rattle.grammar.proofs.rules.Rules.link.Given as goal

abbrev pub invariant-loop-r : goal.invariant-loop-r
invariant-loop-r l = Linked l.fn.self.words l.fn.self.count l.r l.self.words × (l.self.count ≡ l.fn.self.count)
