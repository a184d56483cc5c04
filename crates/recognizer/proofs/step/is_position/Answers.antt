-- `recognizer::step::is_position` meets its contract.
use Rattle.std.proofs.Common.{ℕ, rules, of_calls, sym, ap, ◌∙◌}
use Rattle.std.proofs.lemmas.Fn.{always_returns_same}
use lib.Dec.{ltb}
use Rattle.recognizer.proofs.Looking.{no_kind, falls_somewhere, rises_all}
use Rattle.recognizer.proofs.step.is_position.Goals as goal

pub returns-in_default : goal.returns-in_default
returns-in_default c = no_kind c.args.tokens c.args.kinds.now (rw c.in_default.is at c.last.ensures.item.3)

pub returns-then-is_sorted_by : goal.returns-then-is_sorted_by
returns-then-is_sorted_by c =
    let told = rw c.if-is_sorted_by.true at c.is_sorted_by.ensures.cases ltb (always_returns_same _ _ _ (λ a r f k. search (rules, of_calls))) in
    ap (λ (x : ℕ). ltb x c.args.tokens) c.from.ensures ∙ rises_all c.args.tokens c.in-Some.field-0.now c.args.kinds.now (sym (rw c.in-Some.is at c.last.ensures.value)) told

pub returns-else-is_sorted_by : goal.returns-else-is_sorted_by
returns-else-is_sorted_by c =
    let told = rw c.if-is_sorted_by.false at c.is_sorted_by.ensures.cases ltb (always_returns_same _ _ _ (λ a r f k. search (rules, of_calls))) in
    c.if-is_sorted_by.false ∙ falls_somewhere c.args.tokens c.args.kinds.now told.0 told.1 told.2
