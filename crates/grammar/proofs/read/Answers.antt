-- `grammar::read` meets its contract. One verdict a return.
use mathlib.Core.Path.{refl, ◌∙◌}
use native.Mathlib.Omega.{arith}
use Rattle.grammar.proofs.Judging.{accepted-low}
use Rattle.grammar.proofs.Decoding.{linked_holds}
use Rattle.grammar.proofs.Verdicts.{verdict_two, not_sized}
use Rattle.grammar.proofs.read.Goals as goal

pub returns-then-not-sized-clause-verdict : goal.returns-then-not-sized-clause-verdict
returns-then-not-sized-clause-verdict c =
    verdict_two _ (c.malformed.ensures.if_no c.if-malformed.false)
    (not_sized _ _ _ _ (record { symbols = c.symbols.ensures.0; tokens = c.tokens.ensures.0; rules = c.rule_count.ensures.0 })
    (c.sized.ensures.if_no c.if-not-sized.true))

pub link-requires : goal.link-requires
link-requires c =
    let few = (c.sized.ensures.if_yes c.if-not-sized.false).few_rules in (
      omega (arith, few, c.rule_count.ensures.0, c.decode-found.ensures.rules.1),
      accepted-low _ _ _ _ (c.accepted.ensures.if_yes c.if-not-accepted.false),
      c.decode-found.ensures.rules.0.long,
      λ i behind. c.decode-found.ensures.rules.0.rest i (omega (arith, few, c.rule_count.ensures.0)),
    )

pub returns-clause-decoded : goal.returns-clause-decoded
returns-clause-decoded c =
    let few = (c.sized.ensures.if_yes c.if-not-sized.false).few_rules in
    record {
      accepted = λ zero. record {
        symbols = c.decode-found.ensures.numbers.0;
        tokens = c.decode-found.ensures.numbers.1;
        count = c.link.ensures.1 ∙ c.decode-found.ensures.rules.1;
        words = linked_holds _ _ _ _ (omega (arith, few, c.rule_count.ensures.0)) c.decode-found.ensures.rules.1 c.decode-found.ensures.rules.0 c.link.ensures.0;
      };
      refused = λ other. absurd (other refl);
    }
