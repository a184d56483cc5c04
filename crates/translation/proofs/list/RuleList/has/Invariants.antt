-- `translation::list::RuleList::has` meets its contract. The invariant: the rules from `r` on decide.
use Rattle.written.specs.Split.{rule}
use Rattle.translation.proofs.Words.{Seeking}
use Rattle.translation.proofs.list.RuleList.has.Given as goal

abbrev pub invariant-loop-r : goal.invariant-loop-r
invariant-loop-r l = Seeking l.self.rules.words l.self.rules.count (rule l.a l.b l.c) l.r
